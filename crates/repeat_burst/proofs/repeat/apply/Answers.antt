-- The row goes on where both tests hold, with the time that has come.
use Rattle.constraint.proofs.Library.{List, [], ◌++◌, ◌∙◌, ◌∷◌, ◌≡◌, ap, drop, length, refl, sym, true, ℕ}
use Rattle.row_type.proofs.Oldest.{due_or_pushed}
use Rattle.row_type.specs.{Parts.continues_with, Parts.due_oldest, Parts.far_enough, Parts.plus, Parts.with_last, Words.changed_words}
use Rattle.row_type.specs.{Words.last_saved}
use Rattle.row_type.specs.{Words.number_words, Words.undo_with, Words.row_as_words, declared.Change.Change, declared.Registers.Registers}
use Rattle.row_type.specs.{declared.Parameters.Parameters}
use Rattle.ring.specs.{Ring.ring, declared.Edit.TheVariants.Push}
use Rattle.repeat_burst.specs.Repeat.{decide_repeat, leaving, span_reached}
use Rattle.repeat_burst.proofs.repeat.apply.Goals as goal
use Rattle.repeat_burst.proofs.repeat.apply.Goals.{else-far_enough-via-then-far_enough+else-span_reached, else-far_enough-via-else-far_enough}

-- where both tests hold, the change is that of times that wait, but kept
goes_on : (parameters : Parameters) (registers : Registers) (kept : List ℕ) (stream t dropped : ℕ) → far_enough parameters.minimum registers.last
    t ≡ true
    → span_reached parameters kept t ≡ true → dropped ≡ leaving parameters (length kept)
    → decide_repeat parameters registers kept stream t
    ≡ continues_with (Push dropped t) (with_last registers (plus t 1)) (due_oldest parameters.upper (drop dropped kept ++ (t ∷ []))) true
unfolding decide_repeat
goes_on parameters registers kept stream t dropped far reached left =
    rw (far, reached, left)
    (ap (λ (due : ℕ). continues_with (Push (leaving parameters (length kept)) t) (with_last registers (plus t 1)) due true)
    (due_or_pushed parameters.upper t (drop (leaving parameters (length kept)) kept)))

pub returns-then-span_reached : goal.returns-then-span_reached
unfolding row_as_words number_words changed_words
returns-then-span_reached c parameters times state past e =
    let a = c.before.args in
    let kept = ring times state.head state.len in
    let far : far_enough parameters.minimum state.registers.last a.t ≡ true = sym (rw e at c.far_enough.ensures) ∙ c.if-far_enough.true in
    let reached : span_reached parameters kept a.t ≡ true = sym (c.span_reached.ensures parameters times state past e) ∙ c.if-span_reached.true in
    let decided = goes_on parameters state.registers kept a.stream a.t (leaving parameters (length kept)) far reached refl in
    rw (
      c.push_time.ensures parameters times state (undo_with past (last_saved state.registers past.state.registers))
          (c.save_undo_last.ensures parameters times state past e),
      c.saturating_add.ensures,
    )
    (ap (λ (change : Change). changed_words last_saved parameters times state past change a.t a.number) (sym decided))

pub returns : goal.returns
unfolding row_as_words number_words changed_words decide_repeat
returns c parameters times state past e =
    rw (c.break_at.ensures parameters times state past e, ← rw e at c.far_enough.ensures)
    (elim c.else-far_enough.branch [
      | else-far_enough-via-then-far_enough+else-span_reached w ↦
          rw (w.if-far_enough.true, ← w.span_reached.ensures parameters times state past e, w.if-span_reached.false) refl
      | else-far_enough-via-else-far_enough w ↦ rw w.if-far_enough.false refl
    ])
