-- A row that is crowded stays as it was, and any other takes the step where it lies.
use Rattle.row.proofs.Names.{◌∙◌, ap, false, stays, sym, true}
use Rattle.row.proofs.{Overflow.step_by}
use Rattle.row.proofs.Row.step.Goals as goal

pub returns-then-would_overflow : goal.returns-then-would_overflow
returns-then-would_overflow c =
    let a = c.args in
    sym (step_by a.self a.o a.number true (sym (c.would_overflow.ensures a.self _ _ c.encode_row-words.ensures) ∙ c.if-would_overflow.true))

pub returns : goal.returns
returns c =
    let a = c.args in
    ap stays (c.decode_row.ensures _ _ (c.step.ensures a.self _ c.encode_row-words.ensures))
    ∙ sym (step_by a.self a.o a.number false (sym (c.would_overflow.ensures a.self _ _ c.encode_row-words.ensures) ∙ c.if-would_overflow.false))
