-- Each answer is that of the first "no"; where there is none the joined recording is measured and then written.
use Rattle.constraint.specs.Answers.{refused_number}
use Rattle.join.proofs.Answers.{answer_common, answer_first, answer_second, answer_short, answer_written}
use Rattle.join.proofs.join.Goals as goal

pub returns-in-Err : goal.returns-in-Err
returns-in-Err c =
    let args = c.args in let refused = c.in-Err.refused in
    answer_first args.first.now args.second.now args.joined.now (refused_number refused) refused.place c.in-Err.ensures

pub returns-in-Err-pass : goal.returns-in-Err-pass
returns-in-Err-pass c =
    let args = c.args in let refused = c.in-Err-pass.refused in
    answer_second args.first.now args.second.now args.joined.now c.in-Ok.one c.in-Ok.ensures (refused_number refused) refused.place
    c.in-Err-pass.ensures

pub returns-in-Some : goal.returns-in-Some
returns-in-Some c =
    let args = c.args in
    answer_common args.first.now args.second.now args.joined.now c.in-Ok.one c.in-Ok.ensures c.in-Ok-pass.two c.in-Ok-pass.ensures
    c.in-Some.place c.in-Some.is

pub returns-then-outgrows : goal.returns-then-outgrows
returns-then-outgrows c =
    let args = c.args in
    answer_short args.first.now args.second.now args.joined.now c.in-Ok.one c.in-Ok.ensures c.in-Ok-pass.two c.in-Ok-pass.ensures
    c.in_default.is c.outgrows.result c.outgrows.ensures c.if-outgrows.true

pub returns : goal.returns
returns c =
    let args = c.args in
    rw c.ok_or.ensures.value
    (answer_written args.first.now args.second.now args.joined.now c.in-Ok.one c.in-Ok.ensures c.in-Ok-pass.two c.in-Ok-pass.ensures
    c.in_default.is c.outgrows.result c.outgrows.ensures c.if-outgrows.false c.walk.result _ c.walk.ensures)
