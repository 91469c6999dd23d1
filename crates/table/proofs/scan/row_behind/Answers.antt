-- Row after row: before the turn of number k the rows from k on are read from the place that the turn has.
use Rattle.table.proofs.Names.{◌∙◌, ◌≡◌, ap, arith, filler, some, sym}
use Rattle.table.proofs.{Scanning.row_there, Scanning.scan_step}
use Rattle.table.proofs.scan.row_behind.Goals as goal

pub loop-preserved : goal.loop-preserved
loop-preserved c edition rows reads there =
    let l = c.loop in
    (scan_step _ rows l.counter l.place filler c.row_at-place.result (omega (arith, there)) (l.invariant edition rows reads there)
    c.row_at-place.ensures).1

pub returns : goal.returns
returns c edition rows reads there =
    let l = c.loop in
    let at_end : l.counter ≡ c.args.i = omega arith in
    let read = (scan_step _ rows l.counter l.place filler c.row_at.result (omega (arith, there, at_end))
    (l.invariant edition rows reads there)
    c.row_at.ensures).0 in
    rw (← at_end) (row_there rows l.counter filler (omega (arith, there, at_end)) ∙ ap some (sym read))
