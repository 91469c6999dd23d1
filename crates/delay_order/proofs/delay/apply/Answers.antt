-- A source joins the times unless the last target answers it; a target leaves with those that it answers.
use Rattle.constraint.proofs.Library.{eq-eqb, ne_eqb, refl}
use Rattle.row_type.specs.Words.{changed_words, last_saved, number_words, undo_with, row_as_words}
use Rattle.delay_order.specs.Delay.{decide_delay}
use Rattle.delay_order.proofs.delay.apply.Goals as goal

pub returns-then-answered_at_once : goal.returns-then-answered_at_once
unfolding row_as_words number_words changed_words decide_delay
returns-then-answered_at_once c parameters times state past e =
    let k = c.save_undo_last.ensures parameters times state past e in
    rw (
      c.fewer_wait.ensures parameters times state (undo_with past (last_saved state.registers past.state.registers)) k,
      eq-eqb _ _ (rw k at c.if-stream-row.true),
      ← rw k at c.answered_at_once.ensures,
      c.if-answered_at_once.true,
    ) refl

pub returns-then-stream-row : goal.returns-then-stream-row
unfolding row_as_words number_words changed_words decide_delay
returns-then-stream-row c parameters times state past e =
    let k = c.save_undo_last.ensures parameters times state past e in
    rw (
      c.one_more_waits.ensures parameters times state (undo_with past (last_saved state.registers past.state.registers)) k,
      eq-eqb _ _ (rw k at c.if-stream-row.true),
      ← rw k at c.answered_at_once.ensures,
      c.if-answered_at_once.false,
    ) refl

pub returns : goal.returns
unfolding row_as_words number_words changed_words decide_delay
returns c parameters times state past e =
    let k = c.save_undo_last.ensures parameters times state past e in
    rw (
      c.fewer_wait-2.ensures parameters times state (undo_with past (last_saved state.registers past.state.registers)) k,
      c.saturating_add.ensures,
      ne_eqb _ _ (rw k at c.if-stream-row.false),
      rw k at c.answered-dropped.ensures,
      rw k at c.times.ensures.times,
    ) refl
