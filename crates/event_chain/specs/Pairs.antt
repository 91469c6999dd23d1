-- What Reaction and Age share: two words for each colour, of which an event makes two new ones, or it breaks the row.
use Rattle.std.specs.Prelude.{ℕ, ◌+◌, ◌*◌, ◌%◌, cond, List, get_or, length, eqb, ltb, Option, Some, None}
use Rattle.ring.specs.declared.Edit.TheVariants.{Store}
use Rattle.row_type.specs.Parts.{breaking}
use Rattle.row_type.specs.declared.Parameters.{Parameters}
use Rattle.row_type.specs.declared.Registers.{Registers}
use Rattle.row_type.specs.declared.Change.{Change}
use Rattle.event_chain.specs.Marked.{due_marked, due_next, marking}
use Rattle.event_chain.specs.Coloured.{least_of}
use Rattle.event_chain.specs.declared.pairs.Pair.{Pair}

-- the words of a colour that goes on, and of one that breaks the row
abbrev pub pair_of : ℕ → ℕ → Option Pair
pair_of low high = Some (record { low = low; high = high })

abbrev pub no_pair : Option Pair
no_pair = None

-- the change that new words of a colour make, or that of a row that breaks
abbrev pub change_by : (ℕ → ℕ → Change) → Option Pair → Change
change_by change None = breaking
change_by change (Some pair) = change pair.low pair.high

-- the words of a colour
abbrev pub pair_in : List ℕ → ℕ → Pair
pair_in words n = record { low = get_or words (2 * n) 0; high = get_or words (2 * n + 1) 0 }

-- the last moment of the n-th colour by what a type owes, the words of one colour being new; and the first one of the first n colours
abbrev pub owed_pair : (ℕ → ℕ → ℕ) → ℕ → ℕ → ℕ → List ℕ → ℕ → ℕ
owed_pair owed colour low high words n = cond (eqb n colour) (owed low high) (owed (get_or words (2 * n) 0) (get_or words (2 * n + 1) 0))

unfoldable pub due_pairs : (ℕ → ℕ → ℕ) → ℕ → ℕ → ℕ → List ℕ → ℕ → ℕ
due_pairs owed colour low high words n = least_of (owed_pair owed colour low high words) n

-- the change that new words of a colour make, whose last moment was another, by what a type owes and by its due time
abbrev pub change_pair : (ℕ → ℕ → ℕ) → (ℕ → ℕ → ℕ → List ℕ → ℕ) → Registers → List ℕ → ℕ → ℕ → Option Pair → Change
change_pair owed due registers words colour old pair =
    change_by (λ low high. marking (Store (2 * colour) low high) registers
    (due_next (due_marked registers) old (owed low high) (due colour low high words))) pair

-- an event of one of the row's streams, by what a type owes, its due time and what an event makes of a colour's words; a row of fewer than 16 words,
-- which none is, breaks
unfoldable pub decide_pairs : (ℕ → ℕ → ℕ) → (ℕ → ℕ → ℕ → List ℕ → ℕ) → (Parameters → ℕ → ℕ → ℕ → ℕ → Option Pair)
    → Parameters → Registers → List ℕ → ℕ → ℕ → Change
decide_pairs owed due after parameters registers words s t =
    let colour = s % 8 in
    let low = get_or words (2 * colour) 0 in
    let high = get_or words (2 * colour + 1) 0 in
    cond (ltb (length words) 16) breaking (change_pair owed due registers words colour (owed low high) (after parameters s low high t))
