-- What the code's results say: `Ok` is taken, and an `Err` has the number of its question.
use Rattle.std.specs.Prelude.{ℕ, Result, Ok, Err}
use Rattle.constraint.specs.Answer.{Answer, Taken, Refused}
use Rattle.constraint.specs.declared.RefusedAt.{RefusedAt}
use Rattle.constraint.specs.declared.Refusal.{Refusal}
use Rattle.constraint.specs.declared.Refusal.TheVariants.{TableVersion, RowCut, TooManyRows, RowShape, RowKinds, RowRange, RowBounds, Closed}
use Rattle.constraint.specs.declared.Refusal.TheVariants.{Kind, TimeRange, TimeOrder, Crowded, RecordingVersion, Record, NoRow, Room, FileSize}
use Rattle.constraint.specs.declared.Refusal.TheVariants.{RowSort, Form, CommonKind, NothingToWithdraw, TooManyRecords, NoStretch, CountFull}
use Rattle.constraint.specs.declared.Refusal.TheVariants.{NotRepeat, OtherStep}

-- §8.1 to §8.26: the number of the question that is answered "no"
abbrev pub refusal_number : Refusal → ℕ
refusal_number TableVersion = 1
refusal_number RowCut = 2
refusal_number TooManyRows = 3
refusal_number RowShape = 4
refusal_number RowKinds = 5
refusal_number RowRange = 6
refusal_number RowBounds = 7
refusal_number Closed = 8
refusal_number Kind = 9
refusal_number TimeRange = 10
refusal_number TimeOrder = 11
refusal_number Crowded = 12
refusal_number RecordingVersion = 13
refusal_number Record = 14
refusal_number NoRow = 15
refusal_number Room = 16
refusal_number FileSize = 17
refusal_number RowSort = 18
refusal_number Form = 19
refusal_number CommonKind = 20
refusal_number NothingToWithdraw = 21
refusal_number TooManyRecords = 22
refusal_number NoStretch = 23
refusal_number CountFull = 24
refusal_number NotRepeat = 25
refusal_number OtherStep = 26

-- §9.1: the answer that a result is
abbrev pub answer_of : {T : Type 0} → Result T Refusal → Answer
answer_of (Ok x) = Taken
answer_of (Err refusal) = Refused (refusal_number refusal)

-- §11.5: the number that a result is: 0 where the call is taken
abbrev pub number_in : {T : Type 0} → Result T Refusal → ℕ
number_in (Ok x) = 0
number_in (Err refusal) = refusal_number refusal

-- the number of a refusal that has a place
abbrev pub refused_number : RefusedAt → ℕ
refused_number refused = refusal_number refused.refusal
