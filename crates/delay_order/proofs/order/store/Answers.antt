-- The tests are those of `changes_to`; each number is stored at its place.
use Rattle.constraint.proofs.Library.{◌∙◌, eq-eqb, ne_eqb, refl}
use Rattle.row_type.proofs.Tests.{bool_number}
use Rattle.row_type.specs.{Parts.with_last, Words.number_words, Words.with_registers}
use Rattle.delay_order.specs.Order.{changes_to, with_ahead}
use Rattle.delay_order.proofs.order.store.Goals as goal

pub returns-then-early-eq0 : goal.returns-then-early-eq0
unfolding number_words changes_to
returns-then-early-eq0 c parameters state past e =
    let a = c.args in
    c.settle.ensures parameters (with_registers state (with_ahead (with_last state.registers a.early) a.ahead)) past (rw e refl)
    ∙ rw (eq-eqb _ _ c.if-early-eq0.true, c.from.ensures, bool_number) refl

pub returns : goal.returns
unfolding number_words changes_to
returns c parameters state past e =
    let a = c.args in
    c.settle-2.ensures parameters (with_registers state (with_ahead (with_last state.registers a.early) a.ahead)) past (rw e refl)
    ∙ rw (ne_eqb _ _ c.if-early-eq0.false) refl
