-- A source waits unless there is a target beyond; a target takes the oldest source that waits, if that is long enough before it, or is one beyond.
use Rattle.constraint.proofs.Library.{[], ap, eq-eqb, get_or, ne_eqb, refl, set}
use Rattle.row_type.proofs.Oldest.{front_at, none_left_ring}
use Rattle.row_type.specs.Words.{changed_words, last_saved, number_words, undo_with, row_as_words}
use Rattle.delay_order.specs.StrongDelay.{decide_strong_delay, source_strong_delay, target_strong_delay}
use Rattle.delay_order.proofs.strong_delay.apply.Goals as goal

pub returns-then-row-eq0 : goal.returns-then-row-eq0
unfolding row_as_words number_words changed_words decide_strong_delay source_strong_delay
returns-then-row-eq0 c parameters times state past e =
    let k = c.save_undo_last.ensures parameters times state past e in
    rw (
      c.one_more_waits.ensures parameters times state (undo_with past (last_saved state.registers past.state.registers)) k,
      eq-eqb _ _ (rw k at c.if-stream-row.true),
      rw k at c.if-row-eq0.true,
    ) refl

pub returns-then-stream-row : goal.returns-then-stream-row
unfolding row_as_words number_words changed_words decide_strong_delay source_strong_delay
returns-then-stream-row c parameters times state past e =
    let k = c.save_undo_last.ensures parameters times state past e in
    rw (
      c.fewer_wait.ensures parameters times state (undo_with past (last_saved state.registers past.state.registers)) k,
      eq-eqb _ _ (rw k at c.if-stream-row.true),
      ne_eqb _ _ (rw k at c.if-row-eq0.false),
    ) refl

pub returns-then-lower-eq0 : goal.returns-then-lower-eq0
unfolding row_as_words number_words changed_words decide_strong_delay target_strong_delay
returns-then-lower-eq0 c parameters times state past e =
    let k = c.save_undo_last.ensures parameters times state past e in
    let stayed = c.stay.ensures parameters times state (undo_with past (last_saved state.registers past.state.registers)) k in
    let done = c.settle.ensures parameters _ _ (ap (λ w. get_or (set w 1 (set (get_or w 1 []) 10 c.saturating_add.result)) 1 []) stayed) in
    rw (
      done,
      c.saturating_add.ensures,
      stayed,
      ne_eqb _ _ (rw k at c.if-stream-row.false),
      none_left_ring,
      eq-eqb _ _ (rw (c.times-times.ensures.len, k) at c.if-times-eq0.true),
      eq-eqb _ _ (rw k at c.if-lower-eq0.true),
    ) refl

pub returns-then-times-eq0 : goal.returns-then-times-eq0
unfolding row_as_words number_words changed_words decide_strong_delay target_strong_delay
returns-then-times-eq0 c parameters times state past e =
    let k = c.save_undo_last.ensures parameters times state past e in
    rw (
      c.break_at.ensures parameters times state (undo_with past (last_saved state.registers past.state.registers)) k,
      ne_eqb _ _ (rw k at c.if-stream-row.false),
      none_left_ring,
      eq-eqb _ _ (rw (c.times-times.ensures.len, k) at c.if-times-eq0.true),
      ne_eqb _ _ (rw k at c.if-lower-eq0.false),
    ) refl

pub returns-then-reaches : goal.returns-then-reaches
unfolding row_as_words number_words changed_words decide_strong_delay target_strong_delay
returns-then-reaches c parameters times state past e =
    let k = c.save_undo_last.ensures parameters times state past e in
    rw (
      c.fewer_wait-then-reaches.ensures parameters times state (undo_with past (last_saved state.registers past.state.registers)) k,
      ne_eqb _ _ (rw k at c.if-stream-row.false),
      none_left_ring,
      ne_eqb _ _ (rw (c.times-times.ensures.len, k) at c.if-times-eq0.false),
      front_at,
      ← rw (c.times-times.ensures.times, k) at c.front.ensures,
      ← rw k at c.reaches.ensures,
      c.if-reaches.true,
    ) refl

pub returns : goal.returns
unfolding row_as_words number_words changed_words decide_strong_delay target_strong_delay
returns c parameters times state past e =
    let k = c.save_undo_last.ensures parameters times state past e in
    rw (
      c.break_at-2.ensures parameters times state (undo_with past (last_saved state.registers past.state.registers)) k,
      ne_eqb _ _ (rw k at c.if-stream-row.false),
      none_left_ring,
      ne_eqb _ _ (rw (c.times-times.ensures.len, k) at c.if-times-eq0.false),
      front_at,
      ← rw (c.times-times.ensures.times, k) at c.front.ensures,
      ← rw k at c.reaches.ensures,
      c.if-reaches.false,
    ) refl
