-- Arbitrary: the words from `base` on are one more than the last eight times, each at its number's remainder by eight, and 0 while there are fewer;
-- `first` is the remainder of the next. The i-th pair is `lower i` and `upper i`, from 0 on, wherever a row has them.
use Rattle.std.specs.Prelude.{◌%◌, ◌*◌, ◌+◌, ◌-◌, min, suc, zero, ℕ, Bool, ◌&&◌, cond, true, List, ◌++◌, map, length, replicate, eqb}
use Rattle.constraint.specs.Limits.{no_limit}
use Rattle.constraint.specs.Steps.{at}
use Rattle.ring.specs.declared.Edit.{Edit}
use Rattle.ring.specs.declared.Edit.TheVariants.{Store}
use Rattle.row_type.specs.Parts.{breaking, continues_with, far_enough, plus, registers_of}
use Rattle.row_type.specs.Parameters.{flat_pairs}
use Rattle.row_type.specs.Words.{counts_saved}
use Rattle.row_type.specs.Machine.{Machine, never_overflows, none_taken}
use Rattle.row_type.specs.declared.Parameters.{Parameters}
use Rattle.row_type.specs.declared.Registers.{Registers}
use Rattle.row_type.specs.declared.Change.{Change}

-- one more than the i-th newest time, from 1 to 8; 0 where there are fewer
abbrev pub newest_at : ℕ → ℕ → List ℕ → ℕ → ℕ
newest_at base next words i = at words (base + (next % 8 + 8 - i) % 8)

-- the i-th newest time, or the oldest where there are fewer
abbrev pub newest_or : ℕ → ℕ → List ℕ → ℕ → ℕ
newest_or base next words i = cond (eqb (newest_at base next words i) 0) (at words base) (newest_at base next words i) - 1

-- t is not too early for the first n pairs
unfoldable pub late_enough : ℕ → (ℕ → ℕ) → ℕ → ℕ → List ℕ → ℕ → Bool
late_enough zero lower base next words t = true
late_enough (suc i) lower base next words t = late_enough i lower base next words t && far_enough (lower i) (newest_at base next words (i + 1)) t

-- the due time that the first n pairs give: a maximum without limit gives none, as the sum stops there
unfoldable pub due_times : ℕ → (ℕ → ℕ) → ℕ → ℕ → List ℕ → ℕ
due_times zero upper base next words = no_limit
due_times (suc i) upper base next words = min (due_times i upper base next words) (plus (newest_or base next words (i + 1)) (upper i))

-- the i-th newest time, from 0 on, once one at t has come: the oldest where there are fewer
abbrev pub time_after : ℕ → ℕ → List ℕ → ℕ → ℕ → ℕ
time_after base next words t i =
    cond (eqb i 0) t
    (cond (eqb (newest_at base next words i) 0) (cond (eqb (at words base) 0) t (at words base - 1)) (newest_at base next words i - 1))

-- the due time then
unfoldable pub due_after : ℕ → (ℕ → ℕ) → ℕ → ℕ → List ℕ → ℕ → ℕ
due_after zero upper base next words t = no_limit
due_after (suc i) upper base next words t = min (due_after i upper base next words t) (plus (time_after base next words t i) (upper i))

-- one more than t at the place of the next time; the word behind it stays
abbrev pub note_time : ℕ → ℕ → List ℕ → ℕ → Edit
note_time base next words t = Store (base + next % 8) (plus t 1) (at words (base + next % 8 + 1))

abbrev pub next_place : ℕ → ℕ
next_place next = (next % 8 + 1) % 8

-- what an event at t makes of a row of n pairs
unfoldable pub decide_arbitrary : ℕ → (ℕ → ℕ) → (ℕ → ℕ) → ℕ → Registers → List ℕ → ℕ → Change
decide_arbitrary n lower upper base registers words t =
    cond (late_enough n lower base registers.first words t)
    (continues_with (note_time base registers.first words t)
    (registers_of registers.last (next_place registers.first) registers.second registers)
    (due_after n upper base registers.first words t) true)
    breaking

-- ---- with the pairs in the row's first words

-- the i-th pair lies at 2 · i and behind it
abbrev pub lower_in : List ℕ → ℕ → ℕ
lower_in words i = at words (2 * i)

abbrev pub upper_in : List ℕ → ℕ → ℕ
upper_in words i = at words (2 * i + 1)

-- the minima and the maxima of pairs
abbrev pub minima_in : List (ℕ × ℕ) → List ℕ
minima_in pairs = map (λ p. p.0) pairs

abbrev pub maxima_in : List (ℕ × ℕ) → List ℕ
maxima_in pairs = map (λ p. p.1) pairs

-- the words from the start: sixteen for the pairs, eight for the times
abbrev pub words_arbitrary : List (ℕ × ℕ) → List ℕ
words_arbitrary pairs = flat_pairs pairs ++ replicate (24 - length (flat_pairs pairs)) 0

-- n is the row's span
unfoldable pub decide_in_words : Parameters → Registers → List ℕ → ℕ → ℕ → Change
decide_in_words parameters registers words s t = decide_arbitrary (min parameters.span 8) (lower_in words) (upper_in words) 16 registers words t

abbrev pub machine_arbitrary : Machine
machine_arbitrary = record { keeps = counts_saved; decide = decide_in_words; overflows = never_overflows; taken = none_taken }
