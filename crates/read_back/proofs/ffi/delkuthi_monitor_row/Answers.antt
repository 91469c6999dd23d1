-- A row that is there is given from its words, and any other is refused.
use Rattle.constraint.proofs.Library.{arith}
use Rattle.read_back.proofs.Holding.{found_back, held_lies, missing_back}
use Rattle.read_back.specs.Contract.{nothing_given}
use Rattle.read_back.proofs.ffi.delkuthi_monitor_row.Goals as goal

pub returns-then-held-row : goal.returns-then-held-row
returns-then-held-row c =
    let a = c.args in rw c.number.ensures (
      nothing_given,
      λ m holds. missing_back m a.row a.body.now
          (omega (arith, held_lies a.m.now m holds _ c.held.ensures.1, c.if-held-row.true)),
    )

pub returns : goal.returns
returns c =
    let a = c.args in let given = c.give_row in rw c.number-2.ensures (
      given.ensures.answers,
      λ m holds. let rows = held_lies a.m.now m holds _ c.held.ensures.1 in
          found_back m a.row a.body.now a.m.now holds (omega (arith, rows, c.if-held-row.false))
          (omega (arith, c.held.ensures.0, c.if-held-row.false)) given.ensures,
    )
