-- The test, the due time, the place and the word behind it are those of the definition.
use Rattle.constraint.proofs.Library.{List, ◌%◌, ◌+◌, ◌∙◌, ◌≡◌, ap, false, min, refl, sym, true, ℕ}
use Rattle.constraint.specs.Steps.{at}
use Rattle.row_type.specs.Parts.{breaking, continues_with, registers_of, plus}
use Rattle.row_type.specs.Words.{changed_words, counts_saved, number_words, row_as_words}
use Rattle.row_type.specs.{declared.Change.Change, declared.Registers.Registers}
use Rattle.ring.specs.{Ring.ring, declared.Edit.TheVariants.Store}
use Rattle.repeat_burst.specs.Arbitrary.{decide_arbitrary, decide_in_words, due_after, late_enough, lower_in, next_place, upper_in}
use Rattle.repeat_burst.proofs.arbitrary.apply.Goals as goal

-- the decision by its test, whatever the code calls its numbers
module _ (n : ℕ) (registers : Registers) (words : List ℕ) (t : ℕ) where
  goes : late_enough n (lower_in words) 16 registers.first words t ≡ true → (place word behind next due : ℕ) → place ≡ 16 + registers.first % 8
      → word ≡ plus t 1 → behind ≡ at words (place + 1) → next ≡ next_place registers.first
      → due ≡ due_after n (upper_in words) 16 registers.first words t
      → continues_with (Store place word behind) (registers_of registers.last next registers.second registers) due true
      ≡ decide_arbitrary n (lower_in words) (upper_in words) 16 registers words t
  unfolding decide_arbitrary
  goes late place word behind next due place_is word_is behind-is next_is due_is = rw (behind-is, place_is, word_is, next_is, due_is, late) refl

  stops : late_enough n (lower_in words) 16 registers.first words t ≡ false
      → breaking ≡ decide_arbitrary n (lower_in words) (upper_in words) 16 registers words t
  unfolding decide_arbitrary
  stops early = rw early refl

pub returns-then-late_enough : goal.returns-then-late_enough
unfolding row_as_words number_words changed_words decide_in_words
returns-then-late_enough c parameters times state past e =
    let a = c.args in
    let words : List ℕ = ring times state.head state.len in
    let n : c.min-n.result ≡ min parameters.span 8 = rw e at c.min-n.ensures in
    let late : c.late_enough.result ≡ late_enough (min parameters.span 8) (lower_in words) 16 state.registers.first words a.t =
    c.late_enough.ensures ∙ rw (n, c.times-times.ensures.times, e) refl in
    let due : c.due_after-due.result ≡ due_after (min parameters.span 8) (upper_in words) 16 state.registers.first words a.t =
    c.due_after-due.ensures ∙ rw (n, c.times-times.ensures.times, e) refl in
    let place : c.slot-place.result ≡ 16 + state.registers.first % 8 = rw e at c.slot-place.ensures in
    let behind : c.word-behind.result ≡ at words (c.slot-place.result + 1) = rw (c.times-times.ensures.times, e) at c.word-behind.ensures in
    let next : c.following-after.result ≡ next_place state.registers.first = rw e at c.following-after.ensures in
    c.note.ensures parameters times state past e
    ∙ ap (λ (change : Change). changed_words counts_saved parameters times state past change a.t a.number)
    (goes (min parameters.span 8) state.registers words a.t (sym late ∙ c.if-late_enough.true)
    c.slot-place.result c.saturating_add.result c.word-behind.result
    c.following-after.result c.due_after-due.result place c.saturating_add.ensures behind next due)

pub returns : goal.returns
unfolding row_as_words number_words changed_words decide_in_words
returns c parameters times state past e =
    let a = c.args in
    let words : List ℕ = ring times state.head state.len in
    let n : c.min-n.result ≡ min parameters.span 8 = rw e at c.min-n.ensures in
    let late : c.late_enough.result ≡ late_enough (min parameters.span 8) (lower_in words) 16 state.registers.first words a.t =
    c.late_enough.ensures ∙ rw (n, c.times-times.ensures.times, e) refl in
    c.break_at.ensures parameters times state past e
    ∙ ap (λ (change : Change). changed_words counts_saved parameters times state past change a.t a.number)
    (stops (min parameters.span 8) state.registers words a.t (sym late ∙ c.if-late_enough.false))
