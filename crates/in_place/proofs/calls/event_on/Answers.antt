-- Where the event crowds a row nothing is stored; else the numbers, the rows to which the clock goes, and the rows of its kind, one after the other.
use Rattle.in_place.proofs.Names.{◌∙◌, ◌≡◌, ap, deadlines_checked, dispatched, recorded_on, crowded_on, event_at, false, get_or, refl, rows_in}
use Rattle.in_place.proofs.Names.{without_asked, sym, true, words_of_lent}
use Rattle.in_place.proofs.Parts.{begun_alone, begun_count, begun_lists, shaped_begun, shaped_counted, shaped_full}
use Rattle.in_place.proofs.calls.event_on.Goals as goal

pub returns-then-event_would_overflow : goal.returns-then-event_would_overflow
returns-then-event_would_overflow c =
    let a = c.args in
    let same = c.event_would_overflow.ensures.untouched c.if-event_would_overflow.true in
    record {
      untouched = λ _. same;
      stores = λ h e s going.
          let crowds : crowded_on h a.kind a.stream a.time ≡ true = sym (c.event_would_overflow.ensures.asked h e s)
          ∙ c.if-event_would_overflow.true in
          (rw crowds refl, rw crowds (same ∙ e));
    }

pub returns : goal.returns
returns c =
    let a = c.args in
    let o = event_at a.stream a.time in
    record {
      untouched = λ some. absurd (some refl);
      stores = λ h e s going.
          let none_crowds : crowded_on h a.kind a.stream a.time ≡ false = sym (c.event_would_overflow.ensures.asked h e s)
          ∙ c.if-event_would_overflow.false in
          let h₀ = without_asked h a.kind in
          let e₀ = c.event_would_overflow.ensures.marked h e s c.if-event_would_overflow.false in
          let wide₀ = shaped_full h h₀.full s in
          let h₁ = recorded_on h₀ a.stream a.time in
          let counted = c.record_event.ensures h₀ e₀ wide₀ going in
          let wide₁ = shaped_counted h₀ a.stream a.time wide₀ in
          let h₂ = deadlines_checked h₁ o in
          let began = c.check_deadlines.ensures h₁ counted wide₁ ∙ ap words_of_lent (begun_alone h₁ a.stream a.time) in
          let wide₂ = shaped_begun h₁ o wide₁ in (
            rw none_crowds refl,
            rw none_crowds (c.dispatch_event.ensures h₂ began wide₂
                ∙ (λ j. words_of_lent (dispatched h₂ (rows_in (get_or (begun_lists h₁ o j) a.kind 0)) o (begun_count h₁ o j)))),
          );
    }
