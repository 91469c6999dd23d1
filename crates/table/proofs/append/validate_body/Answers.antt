-- The questions are put in their order, and question 4 has been asked where the row's own are.
use Rattle.table.proofs.Names.{Bytes, Constraint, Judged, [], ap, arith, failed, judged_no, judged_yes, not, yes_of}
use Rattle.table.proofs.Names.{row_stands, row_from, row_in, row_questions, row_questions_in, skipped, stands_known, subst}
use Rattle.constraint.specs.Answers.{answer_of}
use Rattle.table.proofs.append.validate_body.Goals as goal

pub returns-then-rows-ge-ROW_LIMIT : goal.returns-then-rows-ge-ROW_LIMIT
returns-then-rows-ge-ROW_LIMIT c = judged_no 3 _ _ (λ room. omega arith)

pub returns-then-not-shape_fits : goal.returns-then-not-shape_fits
returns-then-not-shape_fits c =
    judged_yes 3 _ _ _ (omega arith) (judged_no 4 _ _ (failed c.shape_fits.result c.shape_fits.ensures (ap not c.if-not-shape_fits.true)))

-- a slice of bytes holds bytes, so a body of fitting shape stands for the row that it is read as
pub returns : goal.returns
unfolding Bytes
returns c =
    let body = c.args.body.now in
    let fits = yes_of c.shape_fits.result c.shape_fits.ensures c.if-not-shape_fits.false in
    let stands = row_stands {edition = 2} body (λ i h. omega (arith, (c.type_inv.body i).fits)) fits in
    judged_yes 3 _ _ _ (omega arith)
    (judged_yes 4 _ _ _ fits
    (skipped [] (row_questions (row_in (row_from body))) 4 _ (stands_known {edition = 2} body _ fits stands) _
    (subst (λ (found : Constraint). Judged (row_questions_in 2 found) (answer_of c.validate.result)) (ap row_in c.read.ensures)
    c.validate.ensures)))
