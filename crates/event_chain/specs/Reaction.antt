-- Reaction: two words for each colour. Both 0: nothing yet; a second word above 0: the first response has to come from the first word on and
-- before the second; else it came at one less than the first word.
use Rattle.std.specs.Prelude.{ℕ, zero, suc, ◌+◌, ◌-◌, ◌*◌, ◌%◌, min, cond, List, get_or, length, eqb, ltb, Option}
use Rattle.constraint.specs.Limits.{no_limit}
use Rattle.ring.specs.declared.Edit.TheVariants.{Store}
use Rattle.row_type.specs.Parts.{plus, breaking}
use Rattle.row_type.specs.declared.Parameters.{Parameters}
use Rattle.row_type.specs.declared.Registers.{Registers}
use Rattle.row_type.specs.declared.Change.{Change}
use Rattle.row_type.specs.Words.{last_saved}
use Rattle.row_type.specs.Machine.{Machine, never_overflows, none_taken}
use Rattle.event_chain.specs.Marked.{coloured_kind, due_marked, due_next, marking}
use Rattle.event_chain.specs.Pairs.{pair_of, no_pair, change_by}
use Rattle.event_chain.specs.declared.pairs.Pair.{Pair}

-- a stimulus at t: the first of its colour opens the interval, a later one moves its lower end; after the response it has to suit that one
abbrev pub after_stimulus : ℕ → ℕ → ℕ → ℕ → ℕ → Option Pair
after_stimulus minimum maximum low high t =
    cond (eqb high 0)
    (cond (eqb low 0) (pair_of (plus t minimum) (plus (plus t maximum) 1)) (cond (ltb (plus t minimum) low) (pair_of low 0) no_pair))
    (cond (ltb (plus t minimum) high) (pair_of (plus t minimum) high) no_pair)

-- a response at t: the first of its colour closes the interval, and later ones do not count
abbrev pub after_response : ℕ → ℕ → ℕ → Option Pair
after_response low high t =
    cond (eqb high 0) (cond (eqb low 0) (pair_of (plus t 1) 0) (pair_of low 0)) (cond (ltb t low) no_pair (pair_of (plus t 1) 0))

-- the last moment for a colour's first response, by its second word
abbrev pub latest : ℕ → ℕ
latest high = cond (eqb high 0) no_limit (high - 1)

-- the second word of the n-th colour, that of one colour being new
abbrev pub high_but : ℕ → ℕ → List ℕ → ℕ → ℕ
high_but colour high words n = cond (eqb n colour) high (get_or words (2 * n + 1) 0)

-- the due time: the first last moment of the first n colours
unfoldable pub due_but : ℕ → ℕ → ℕ → List ℕ → ℕ
due_but zero colour high words = no_limit
due_but (suc n) colour high words = min (due_but n colour high words) (latest (high_but colour high words n))

-- what an event at t makes of its colour's words
abbrev pub pair_after : Parameters → ℕ → ℕ → ℕ → ℕ → Option Pair
pair_after parameters s low high t =
    cond (eqb (coloured_kind s) parameters.first) (after_stimulus parameters.lower parameters.upper low high t) (after_response low high t)

-- the change that new words of a colour make, whose second word was another
abbrev pub paired : Registers → List ℕ → ℕ → ℕ → Option Pair → Change
paired registers words colour old pair =
    change_by (λ low high. marking (Store (2 * colour) low high) registers
    (due_next (due_marked registers) (latest old) (latest high) (due_but 8 colour high words))) pair

-- an event of one of the row's streams; a row of fewer than 16 words, which none is, breaks
unfoldable pub decide_reaction : Parameters → Registers → List ℕ → ℕ → ℕ → Change
decide_reaction parameters registers words s t =
    let colour = s % 8 in
    let low = get_or words (2 * colour) 0 in
    let high = get_or words (2 * colour + 1) 0 in
    cond (ltb (length words) 16) breaking (paired registers words colour high (pair_after parameters s low high t))

abbrev pub machine_reaction : Machine
machine_reaction = record { keeps = last_saved; decide = decide_reaction; overflows = never_overflows; taken = none_taken }
