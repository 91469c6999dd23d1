-- The loop puts to each row its questions in turn: the answer to those of the rows left is the answer to all.
use Rattle.constraint.specs.Answers.{refusal_number}
use Rattle.constraint.proofs.Refusals.{exit_answer}
use Rattle.table.proofs.Names.{Judged, Refused, Taken, [], ◌+◌, ◌-◌, arith, judged_none, raw_rows, rows_refused}
use Rattle.table.proofs.Names.{rows_taken}
use Rattle.table.proofs.Names.{rows_questions, subst⁻¹}
use Rattle.table.proofs.RawRows.{rows_all, rows_end, rows_left}
use Rattle.table.proofs.raw.GivenRows.validate.Goals as goal

pub returns-in_err-validate : goal.returns-in_err-validate
returns-in_err-validate c =
    let a = c.args in let i = c.loop-i.i in
    rw (exit_answer c.from_residual.result _ c.from_residual.ensures.1)
    (c.loop-i.invariant _
    (subst⁻¹ (λ rows. Judged (rows_questions a.self.edition i rows []) (Refused (refusal_number c.in_err-validate.field-0.0)))
    (rows_left a.self.bytes.now i a.count (omega arith))
    (rows_refused a.self.edition i _ (raw_rows a.self.bytes.now (i + 1) (a.count - (i + 1))) [] _ (omega (arith, c.requires.room))
    (rw c.row.ensures at c.in_err-validate.ensures))))

pub loop-i-preserved : goal.loop-i-preserved
loop-i-preserved c answer later =
    let a = c.args in let i = c.loop-i.i in
    c.loop-i.invariant answer
    (subst⁻¹ (λ rows. Judged (rows_questions a.self.edition i rows []) answer) (rows_left a.self.bytes.now i a.count (omega arith))
    (rows_taken a.self.edition i _ (raw_rows a.self.bytes.now (i + 1) (a.count - (i + 1))) [] answer
    (omega (arith, c.requires.room))
    (rw c.row.ensures at c.in_ok-validate.ensures) later))

pub returns : goal.returns
unfolding rows_questions
returns c =
    let a = c.args in
    c.loop-i.invariant Taken (rw (rows_end a.self.bytes.now c.loop-i.i a.count (omega arith)) judged_none)

pub loop-i-init : goal.loop-i-init
loop-i-init c = λ a h. rw (rows_all c.args.self.bytes.now c.args.count) at h
