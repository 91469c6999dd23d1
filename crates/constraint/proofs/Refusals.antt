-- Each question has a number from 1 to 26, and an error that `?` passes on stays the same one.
use Rattle.std.specs.Prelude.{Err, Result}
use Rattle.std.specs.Result.{IsErrAnd}
use Rattle.std.proofs.lemmas.Result.{err_from_is_err_and}
use Rattle.constraint.proofs.Library.{◌<◌, ◌∙◌, ◌≡◌, ap, arith}
use Rattle.constraint.specs.Answer.{Refused}
use Rattle.constraint.specs.Answers.{answer_of, number_in, refusal_number}
use Rattle.constraint.specs.declared.Refusal.{Refusal}
use Rattle.constraint.specs.declared.Refusal.TheVariants.{TableVersion, RowCut, TooManyRows, RowShape, RowKinds, RowRange, RowBounds, Closed}
use Rattle.constraint.specs.declared.Refusal.TheVariants.{Kind, TimeRange, TimeOrder, Crowded, RecordingVersion, Record, NoRow, Room, FileSize}
use Rattle.constraint.specs.declared.Refusal.TheVariants.{RowSort, Form, CommonKind, NothingToWithdraw, TooManyRecords, NoStretch, CountFull}
use Rattle.constraint.specs.declared.Refusal.TheVariants.{NotRepeat, OtherStep}

pub numbered : (refusal : Refusal) → (0 < refusal_number refusal) × (refusal_number refusal < 27)
numbered TableVersion = (omega arith, omega arith)
numbered RowCut = (omega arith, omega arith)
numbered TooManyRows = (omega arith, omega arith)
numbered RowShape = (omega arith, omega arith)
numbered RowKinds = (omega arith, omega arith)
numbered RowRange = (omega arith, omega arith)
numbered RowBounds = (omega arith, omega arith)
numbered Closed = (omega arith, omega arith)
numbered Kind = (omega arith, omega arith)
numbered TimeRange = (omega arith, omega arith)
numbered TimeOrder = (omega arith, omega arith)
numbered Crowded = (omega arith, omega arith)
numbered RecordingVersion = (omega arith, omega arith)
numbered Record = (omega arith, omega arith)
numbered NoRow = (omega arith, omega arith)
numbered Room = (omega arith, omega arith)
numbered FileSize = (omega arith, omega arith)
numbered RowSort = (omega arith, omega arith)
numbered Form = (omega arith, omega arith)
numbered CommonKind = (omega arith, omega arith)
numbered NothingToWithdraw = (omega arith, omega arith)
numbered TooManyRecords = (omega arith, omega arith)
numbered NoStretch = (omega arith, omega arith)
numbered CountFull = (omega arith, omega arith)
numbered NotRepeat = (omega arith, omega arith)
numbered OtherStep = (omega arith, omega arith)

-- ---- an exit by `?`

-- the error goes on to the caller
pub exit_is : {T E : Type 0} (r : Result T E) (error : E) → IsErrAnd r (λ own. own ≡ error) → r ≡ Err error
exit_is r error is = let exit = err_from_is_err_and r is in exit.1 ∙ ap Err exit.2

pub exit_answer : {T : Type 0} (r : Result T Refusal) (refusal : Refusal) → IsErrAnd r (λ own. own ≡ refusal)
    → answer_of r ≡ Refused (refusal_number refusal)
exit_answer r refusal is = ap answer_of (exit_is r refusal is)

pub exit_number : {T : Type 0} (r : Result T Refusal) (refusal : Refusal) → IsErrAnd r (λ own. own ≡ refusal)
    → number_in r ≡ refusal_number refusal
exit_number r refusal is = ap number_in (exit_is r refusal is)
