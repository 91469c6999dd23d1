-- Half the length of the ring is the number of its points; the three cases are those of `placed`.
use Rattle.constraint.proofs.Library.{List, [], ◌/◌, ◌∙◌, ◌≡◌, ap, get_or, le-leb, le-ltb, lt-leb, lt-ltb, refl, ℕ}
use Rattle.row_type.specs.{Parts.front, Words.changed_words, Words.number_words, Words.row_as_words, declared.Registers.Registers}
use Rattle.row_type.specs.{Words.UndoRecord, declared.Parameters.Parameters, declared.State.State}
use Rattle.row_type.proofs.Oldest.{front_at}
use Rattle.ring.proofs.Laws.{ring_length}
use Rattle.ring.specs.Ring.{ring}
use Rattle.repetition.specs.Repetition.{decide_repetition, first_high, highest_point, lowest_point, placed, points}
use Rattle.repetition.proofs.apply.Goals as goal
use Rattle.repetition.proofs.apply.Goals.{After-max-low, After-min-high}
use Rattle.repetition.proofs.apply.Goals.{else-span-upper-via-then-span-upper+else-low-high, else-span-upper-via-else-span-upper}

-- the machine's change, by the length of the ring and the places of the point
decided : (parameters : Parameters) (registers : Registers) (times : List ℕ) (head len stream t low high : ℕ)
    → low ≡ lowest_point parameters (len / 2) (front (ring times head len)) t
    → high ≡ highest_point parameters (len / 2) (first_high (ring times head len) t) t
    → decide_repetition parameters registers (ring times head len) stream t ≡ placed parameters registers (len / 2) low high
unfolding decide_repetition
decided parameters registers times head len stream t low high l h =
    let half : points (ring times head len) ≡ len / 2 = ap (λ (n : ℕ). n / 2) (ring_length times head len) in
    rw (half, l, h) refl

module _ (parameters : Parameters) (times : List ℕ) (state : State) (past : UndoRecord) where
  abbrev kept : List ℕ
  kept = ring times state.head state.len

  high_is : (c : After-min-high) → c.args.row.now ≡ row_as_words parameters times state past
      → c.min-high.result ≡ highest_point parameters (state.len / 2) (first_high kept c.args.t) c.args.t
  unfolding row_as_words number_words
  high_is c e =
      c.min-high.ensures
      ∙ rw (
        c.saturating_add.ensures,
        c.saturating_add-first.ensures,
        c.saturating_sub.ensures,
        c.first_high.ensures,
        c.times-times.ensures.times,
        c.times-times.ensures.len,
        e,
      ) refl

  -- a point behind the first span of them
  low_is : (c : After-max-low) → c.args.row.now ≡ row_as_words parameters times state past
      → c.max-low.result ≡ lowest_point parameters (state.len / 2) (front kept) c.args.t
  unfolding row_as_words number_words
  low_is c e =
      c.max-low.ensures
      ∙ rw (
        c.saturating_sub-near.ensures,
        c.saturating_add-2.ensures,
        c.front-oldest.ensures,
        c.times-times.ensures.times,
        ← front_at,
        e,
        le-ltb _ _ (rw (c.times-times.ensures.len, e) at c.if-n-span.false),
      ) refl

pub returns-then-n-span : goal.returns-then-n-span
unfolding row_as_words number_words changed_words placed
returns-then-n-span c parameters times state past e =
    let a = c.args in
    let high = high_is parameters times state past (goal.at.returns-then-n-span c).After-min-high e in
    let few = lt-ltb _ _ (rw (c.times-times.ensures.len, e) at c.if-n-span.true) in
    let low : c.saturating_sub-near.result ≡ lowest_point parameters (state.len / 2) (front (ring times state.head state.len)) a.t =
    c.saturating_sub-near.ensures ∙ rw (e, few) refl in
    let pushed = c.push_two.ensures parameters times state past e in
    let done = c.settle.ensures parameters _ _ (ap (λ w. get_or w 1 []) pushed) in
    rw (done, pushed, decided parameters state.registers times state.head state.len a.stream a.t _ _ low high, few) refl

pub returns-then-low-high : goal.returns-then-low-high
unfolding row_as_words number_words changed_words placed
returns-then-low-high c parameters times state past e =
    let a = c.args in
    let high = high_is parameters times state past (goal.at.returns-then-low-high c).After-min-high e in
    let low = low_is parameters times state past (goal.at.returns-then-low-high c).After-max-low e in
    let pushed = c.two_for_oldest.ensures parameters times state past e in
    let done = c.settle-then-low-high.ensures parameters _ _ (ap (λ w. get_or w 1 []) pushed) in
    rw (
      done,
      pushed,
      decided parameters state.registers times state.head state.len a.stream a.t _ _ low high,
      le-ltb _ _ (rw (c.times-times.ensures.len, e) at c.if-n-span.false),
      le-leb _ _ (rw e at c.if-span-upper.true),
      le-leb _ _ c.if-low-high.true,
    )
    refl

pub returns : goal.returns
unfolding row_as_words number_words changed_words placed
returns c parameters times state past e =
    let a = c.args in
    let high = high_is parameters times state past (goal.at.returns c).After-min-high e in
    let low = low_is parameters times state past (goal.at.returns c).After-max-low e in
    rw (
      c.break_at.ensures parameters times state past e,
      decided parameters state.registers times state.head state.len a.stream a.t _ _ low high,
      le-ltb _ _ (rw (c.times-times.ensures.len, e) at c.if-n-span.false),
    )
    (elim c.else-span-upper.branch [
      | else-span-upper-via-then-span-upper+else-low-high w ↦
          rw (le-leb _ _ (rw e at w.if-span-upper.true), lt-leb _ _ w.if-low-high.false) refl
      | else-span-upper-via-else-span-upper w ↦ rw (lt-leb _ _ (rw e at w.if-span-upper.false)) refl
    ])
