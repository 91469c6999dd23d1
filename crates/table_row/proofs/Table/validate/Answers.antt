-- The loop puts to each row its questions in turn: the answer to those of the rows left is the answer to all.
use Rattle.constraint.proofs.Library.{[], ◌+◌, ◌∙◌, ap, arith, drop, drop_of_length-le, subst⁻¹}
use Rattle.constraint.proofs.Judged.{judged_none}
use Rattle.constraint.specs.Questions.{Judged}
use Rattle.constraint.specs.Answer.{Refused, Taken}
use Rattle.constraint.specs.Answers.{answer_of, refusal_number}
use Rattle.constraint.specs.declared.Refusal.TheVariants.{TooManyRows}
use Rattle.std.specs.Option.{ok_or}
use Rattle.std.proofs.lemmas.Option.{MatchOption-at_none, MatchOption-at_some}
use Rattle.table_row.specs.Tables.{rows_of}
use Rattle.constraint.specs.Accepted.{rows_questions}
use Rattle.constraint.proofs.Accepted.{rows_full, rows_refused, rows_taken}
use Rattle.constraint.proofs.Refusals.{exit_answer}
use Rattle.table_row.proofs.{Tables.rows_found, Tables.rows_length}
use Rattle.table_row.proofs.Table.validate.Goals as goal

pub returns-in_err-row : goal.returns-in_err-row
returns-in_err-row c =
    let table = c.args.self in let loop = c.loop-i in
    let exit = c.in_err-row.ensures in
    let past = MatchOption-at_none _ _ exit.ok_part c.get.ensures.lookup.3 in
    rw (exit_answer c.from_residual.result _ c.from_residual.ensures.1 ∙ ap answer_of (exit.value ∙ ap (λ o. ok_or o TooManyRows) exit.ok_part))
    (loop.invariant _ (rows_full _ loop.i (rows_of table) [] (omega (arith, rows_length table)) (omega (arith, past))))

pub returns-in_err-validate : goal.returns-in_err-validate
returns-in_err-validate c =
    let table = c.args.self in
    let edition = c.args.edition in let i = c.loop-i.i in
    let there = MatchOption-at_some _ _ _ c.in_ok-row.ensures.ok_part c.get.ensures.lookup.3 in
    rw (exit_answer c.from_residual-in_err-validate.result _ c.from_residual-in_err-validate.ensures.1)
    (c.loop-i.invariant _
    (subst⁻¹ (λ rows. Judged (rows_questions edition i rows []) (Refused (refusal_number c.in_err-validate.field-0.0)))
    (rows_found table i c.get.result _ c.in_ok-row.ensures.ok_part c.get.ensures.lookup.3 (omega arith))
    (rows_refused edition i _ (drop (i + 1) (rows_of table)) [] _ (omega (arith, there.0)) c.in_err-validate.ensures)))

pub loop-i-preserved : goal.loop-i-preserved
loop-i-preserved c a later =
    let table = c.args.self in
    let edition = c.args.edition in let i = c.loop-i.i in
    let there = MatchOption-at_some _ _ _ c.in_ok-row.ensures.ok_part c.get.ensures.lookup.3 in
    c.loop-i.invariant a
    (subst⁻¹ (λ rows. Judged (rows_questions edition i rows []) a)
    (rows_found table i c.get.result _ c.in_ok-row.ensures.ok_part c.get.ensures.lookup.3 (omega arith))
    (rows_taken edition i _ (drop (i + 1) (rows_of table)) [] a (omega (arith, there.0)) c.in_ok-validate.ensures later))

pub returns : goal.returns
unfolding rows_questions
returns c =
    let table = c.args.self in
    c.loop-i.invariant Taken (rw (drop_of_length-le (rows_of table) {i = c.loop-i.i} (omega (arith, rows_length table))) judged_none)
