-- The place of a refusal is small enough for the number to have it.
use Rattle.delkuthi.proofs.{Reports.fresh_number}
use Rattle.delkuthi.proofs.ffi.delkuthi_fresh_2.Goals as goal

pub returns : goal.returns
returns c =
    let args = c.args in
    rw (c.taken_number.ensures, fresh_number args.table.now args.m.now c.fresh.result _ c.fresh.ensures) c.fresh.ensures
