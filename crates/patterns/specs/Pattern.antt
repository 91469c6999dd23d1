-- Pattern: no times are kept; `first` is the number of the next event in its group, the point of the newest event's group can be at each place from
-- `second` to `third`, and `fourth` is one more than the last event's time. The i-th offset is `offset i`, from 0 on, wherever a row has it.
use Rattle.std.specs.Prelude.{◌-◌, max, min, ℕ, ◌&&◌, ◌||◌, cond, true, List, ◌++◌, length, replicate, eqb, leb, ltb}
use Rattle.constraint.specs.Steps.{at}
use Rattle.ring.specs.declared.Edit.TheVariants.{Drop}
use Rattle.row_type.specs.Parts.{breaking, continues_with, far_enough, plus}
use Rattle.row_type.specs.Words.{counts_saved}
use Rattle.row_type.specs.Machine.{Machine, never_overflows, none_taken}
use Rattle.row_type.specs.declared.Parameters.{Parameters}
use Rattle.row_type.specs.declared.Registers.{Registers}
use Rattle.row_type.specs.declared.Change.{Change}

-- the number behind i in a group of n, and how much later the point of an event of number i is than that of the event before it
abbrev pub number_after : ℕ → ℕ → ℕ
number_after n i = cond (eqb (plus i 1) n) 0 (plus i 1)

abbrev pub step_to : ℕ → ℕ → ℕ
step_to period i = cond (eqb i 0) period 0

module _ (n period jitter minimum : ℕ) (offset : ℕ → ℕ) where
  -- the due time of a row whose next event has the number i, and whose newest point can be as late as high
  abbrev pub due_next : ℕ → ℕ → ℕ
  due_next i high = plus (plus (plus high (step_to period i)) (offset i)) jitter

  -- the due time after an event at t of number i, whose point can be as late as high
  abbrev pub due_then : ℕ → ℕ → ℕ → ℕ
  due_then t i high = due_next (number_after n i) high

  -- the row goes on with an event at t of number i, whose point can be at each place from low to high
  abbrev pub point_in : Registers → ℕ → ℕ → ℕ → ℕ → Change
  point_in registers t i low high =
      continues_with (Drop 0) (record { last = registers.last; first = number_after n i; second = low; third = high; fourth = plus t 1 })
      (due_then t i high) true

  -- it does, where there is such a place and the event after it is not overdue
  unfoldable pub placed_in : Registers → ℕ → ℕ → ℕ → ℕ → Change
  placed_in registers t i low high =
      cond (leb (offset i) t && (leb low high && leb t (due_then t i high))) (point_in registers t i low high) breaking

  -- the first and the last place that the point of an event at t can have behind those before it
  abbrev pub low_after : Registers → ℕ → ℕ
  low_after registers t =
      max (plus registers.second (step_to period registers.first)) (t - plus (offset registers.first) jitter)

  abbrev pub high_after : Registers → ℕ → ℕ
  high_after registers t = min (plus registers.third (step_to period registers.first)) (t - offset registers.first)

  -- an event behind another: far enough from it, and in a second group only with a period
  unfoldable pub later_pattern : Registers → ℕ → Change
  later_pattern registers t =
      cond (far_enough minimum registers.fourth t && (ltb 0 registers.first || ltb 0 period))
      (placed_in registers t registers.first (low_after registers t) (high_after registers t))
      breaking

  unfoldable pub decide_pattern : Registers → ℕ → Change
  decide_pattern registers t =
      cond (eqb registers.fourth 0)
      (placed_in registers t registers.first (t - plus (offset registers.first) jitter) (t - offset registers.first))
      (later_pattern registers t)

-- ---- with the offsets in the row's words

-- the words from the start, eight of them
abbrev pub words_pattern : List ℕ → List ℕ
words_pattern offsets = offsets ++ replicate (8 - length offsets) 0

-- n is the row's span, and the period its upper
unfoldable pub decide_in_words : Parameters → Registers → List ℕ → ℕ → ℕ → Change
decide_in_words parameters registers words s t =
    decide_pattern parameters.span parameters.upper parameters.jitter parameters.minimum (at words) registers t

abbrev pub machine_pattern : Machine
machine_pattern = record { keeps = counts_saved; decide = decide_in_words; overflows = never_overflows; taken = none_taken }
