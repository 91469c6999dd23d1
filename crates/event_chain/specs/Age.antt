-- Age: two words for each colour. The first is one more than the latest stimulus, the second one more than the first response; 0 for none. A
-- response that no stimulus suits so far makes the first word 0 again: it is owed a stimulus at its own time.
use Rattle.std.specs.Prelude.{ℕ, zero, suc, ◌+◌, ◌*◌, ◌%◌, min, Bool, cond, ◌&&◌, List, get_or, length, eqb, ltb, leb, Option}
use Rattle.constraint.specs.Limits.{no_limit}
use Rattle.ring.specs.declared.Edit.TheVariants.{Store}
use Rattle.row_type.specs.Parts.{plus, breaking}
use Rattle.row_type.specs.declared.Parameters.{Parameters}
use Rattle.row_type.specs.declared.Registers.{Registers}
use Rattle.row_type.specs.declared.Change.{Change}
use Rattle.row_type.specs.Words.{last_saved}
use Rattle.row_type.specs.Machine.{Machine, never_overflows, none_taken}
use Rattle.event_chain.specs.Marked.{coloured_kind, due_marked, due_next, marking}
use Rattle.event_chain.specs.Pairs.{pair_of, no_pair, change_by}
use Rattle.event_chain.specs.Reaction.{latest}
use Rattle.event_chain.specs.declared.pairs.Pair.{Pair}

-- the latest stimulus, where there is one, is minimum to maximum before a response at t
abbrev pub suits : ℕ → ℕ → ℕ → ℕ → Bool
suits minimum maximum low t = ltb 0 low && (leb (plus low minimum) (plus t 1) && leb (plus t 1) (plus low maximum))

-- a stimulus at t: before any response it is the latest; later it has to be at the response's own time
abbrev pub after_stimulus_age : ℕ → ℕ → ℕ → Option Pair
after_stimulus_age minimum high t =
    cond (eqb high 0) (pair_of (plus t 1) 0) (cond (eqb minimum 0 && eqb high (plus t 1)) (pair_of (plus t 1) high) no_pair)

-- a response at t: the first has to suit the latest stimulus, or to get one at its own time; a later one has to be soon enough
abbrev pub after_response_age : ℕ → ℕ → ℕ → ℕ → ℕ → Option Pair
after_response_age minimum maximum low high t =
    cond (eqb high 0)
    (cond (suits minimum maximum low t) (pair_of low (plus t 1)) (cond (eqb minimum 0) (pair_of 0 (plus t 1)) no_pair))
    (cond (leb (plus t 1) (plus low maximum)) (pair_of low high) no_pair)

-- the last moment of a colour: that of a response which is owed a stimulus
abbrev pub owed : ℕ → ℕ → ℕ
owed low high = cond (eqb low 0) (latest high) no_limit

-- that of the n-th colour, the words of one colour being new
abbrev pub owed_but : ℕ → ℕ → ℕ → List ℕ → ℕ → ℕ
owed_but colour low high words n = cond (eqb n colour) (owed low high) (owed (get_or words (2 * n) 0) (get_or words (2 * n + 1) 0))

-- the due time: the first last moment of the first n colours
unfoldable pub due_age : ℕ → ℕ → ℕ → ℕ → List ℕ → ℕ
due_age zero colour low high words = no_limit
due_age (suc n) colour low high words = min (due_age n colour low high words) (owed_but colour low high words n)

-- what an event at t makes of its colour's words
abbrev pub pair_after_age : Parameters → ℕ → ℕ → ℕ → ℕ → Option Pair
pair_after_age parameters s low high t =
    cond (eqb (coloured_kind s) parameters.first) (after_stimulus_age parameters.lower high t)
    (after_response_age parameters.lower parameters.upper low high t)

-- the change that new words of a colour make, whose last moment was another
abbrev pub aged : Registers → List ℕ → ℕ → ℕ → Option Pair → Change
aged registers words colour old pair =
    change_by (λ low high. marking (Store (2 * colour) low high) registers
    (due_next (due_marked registers) old (owed low high) (due_age 8 colour low high words))) pair

-- an event of one of the row's streams; a row of fewer than 16 words, which none is, breaks
unfoldable pub decide_age : Parameters → Registers → List ℕ → ℕ → ℕ → Change
decide_age parameters registers words s t =
    let colour = s % 8 in
    let low = get_or words (2 * colour) 0 in
    let high = get_or words (2 * colour + 1) 0 in
    cond (ltb (length words) 16) breaking (aged registers words colour (owed low high) (pair_after_age parameters s low high t))

abbrev pub machine_age : Machine
machine_age = record { keeps = last_saved; decide = decide_age; overflows = never_overflows; taken = none_taken }
