-- Each start's number goes to its place.
use Rattle.stretch.proofs.{Runs.NeedsTo}
use Rattle.table_row.specs.Records.{row_in}
use Rattle.stretch.proofs.needs.Given as goal

abbrev pub invariant-loop-start : goal.invariant-loop-start
invariant-loop-start l = NeedsTo (row_in l.wanted) l.records l.count l.need l.start
