-- The loop puts to each row its questions in turn: the answer to those of the rows left is the answer to all.
use Rattle.table.proofs.Names.{Answer, Judged, [], ◌-◌, raw_rows}
use Rattle.table.proofs.Names.{rows_questions}
use Rattle.table.proofs.raw.GivenRows.validate.Given as goal

abbrev pub invariant-loop-i : goal.invariant-loop-i
invariant-loop-i l =
    (a : Answer) → Judged (rows_questions l.self.edition l.i (raw_rows l.self.bytes.now l.i (l.count - l.i)) []) a
    → Judged (rows_questions l.self.edition 0 (raw_rows l.self.bytes.now 0 l.count) []) a
