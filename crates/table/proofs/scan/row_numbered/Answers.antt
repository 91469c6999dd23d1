-- The table has as many rows as judging it counts, so a number that is not below the count is no row's.
use Rattle.table.proofs.Names.{◌<◌, arith, at, length}
use Rattle.constraint.proofs.Refusals.{exit_is}
use Rattle.table.proofs.{Scanning.scan_start}
use Rattle.table.proofs.scan.row_numbered.Goals as goal

pub returns-in_err-rows : goal.returns-in_err-rows
returns-in_err-rows c = rw (exit_is c.from_residual.result _ c.from_residual.ensures.1) c.in_err-rows.ensures

pub returns-then-rows-i : goal.returns-then-rows-i
returns-then-rows-i c =
    let counted = c.in_ok-rows.ensures in
    record {
      rows = counted.rows;
      reads = counted.reads;
      room = counted.room;
      accepted = counted.accepted;
      is = omega (arith, counted.counted, c.if-rows-i.true);
    }

pub returns : goal.returns
returns c =
    let counted = c.in_ok-rows.ensures in let bytes = c.args.bytes.now in
    let there : c.args.i < length counted.rows = omega (arith, counted.counted, c.if-rows-i.false) in
    record {
      rows = counted.rows;
      reads = counted.reads;
      room = counted.room;
      accepted = counted.accepted;
      is = (there, c.row_behind.ensures (at bytes 0) counted.rows (scan_start bytes counted.rows counted.reads) there);
    }
