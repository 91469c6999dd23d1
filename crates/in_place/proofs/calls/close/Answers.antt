-- The questions are put first; then the numbers are counted on, and the close goes to every row.
use Rattle.in_place.proofs.Names.{Call, ◌∙◌, ap, arith, close_at, recorded_to, clock_applied, held_rows, next_number, numbered, refl}
use Rattle.in_place.proofs.Names.{words_of_lent, ℕ}
use Rattle.constraint.proofs.Refusals.{exit_number}
use Rattle.in_place.proofs.RefusalOrder.{first_number, own_number, refused_stores, taken_stores}
use Rattle.in_place.proofs.{Parts.number_at, Parts.shaped_ended, Parts.shaped_to}
use Rattle.in_place.proofs.calls.close.Goals as goal

pub returns-in_err-first_refusal : goal.returns-in_err-first_refusal
returns-in_err-first_refusal c =
    let some = (numbered _).0 in
    rw (exit_number c.from_residual.result _ c.from_residual.ensures.1)
    (refused_stores c.args.m.now Call.Close _ (λ h e s. first_number h _ 0 (c.in_err-first_refusal.ensures h e s) some) some)

pub returns : goal.returns
returns c =
    let a = c.args in
    taken_stores a.m.now Call.Close 0 (λ h e s. own_number h 0 0 (c.in_ok-first_refusal.ensures h e s) refl) 0 c.put_soonest.new.m
    (omega arith) (λ some. absurd (some refl))
    (λ h e s going.
    let clock = number_at h s a.m.now e 0 in
    let counted = c.record_tick.ensures h e s going ∙ ap (λ (x : ℕ). words_of_lent (recorded_to h x 0)) clock in
    let h₁ = recorded_to h h.monitor.clock 1 in
    let closed = c.mark_closed.ensures (recorded_to h h.monitor.clock 0) counted (shaped_to h h.monitor.clock 0 s) in
    let wide = shaped_to h h.monitor.clock 1 s in
    let held = c.held.ensures.1 h₁ closed wide in
    let stopped = c.apply_clock_all.ensures h₁ closed wide
    ∙ (λ x. words_of_lent (clock_applied h₁ (held x) (close_at (clock x)) (number_at h₁ wide _ closed 1 x))) in (
      refl,
      c.put_soonest.ensures (clock_applied h₁ (held_rows h.monitor) (close_at h.monitor.clock) (next_number h)) stopped
          (shaped_ended h₁ (held_rows h.monitor) (close_at h.monitor.clock) (next_number h) wide),
    ))

pub apply_clock_all-requires : goal.apply_clock_all-requires
apply_clock_all-requires c = c.held.ensures.0
