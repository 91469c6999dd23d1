-- The two numbers are read off their places; a withdrawal comes behind them.
use Rattle.delkuthi.proofs.Names.{◌∙◌, arith, sym, takes_of}
use Rattle.delkuthi.proofs.{Withdrawals.may_read, Withdrawals.none_answers, Withdrawals.some_answers, WordsRead.count_read}
use Rattle.delkuthi.specs.WithdrawingStep.{last_step, nothing_left, other_step}
use Rattle.delkuthi.proofs.withdrawing.withdraw_step.Goals as goal

pub returns-then-m-eq0 : goal.returns-then-m-eq0
returns-then-m-eq0 c =
    let a = c.args in nothing_left (λ n holds. none_answers n (sym (may_read a.m.now n holds) ∙ c.if-m-eq0.true))

pub returns-then-m-step : goal.returns-then-m-step
returns-then-m-step c =
    let a = c.args in
    other_step (λ n holds. (
      some_answers n (omega (arith, may_read a.m.now n holds, c.if-m-eq0.false)),
      λ same. c.if-m-step.true (count_read a.m.now n holds ∙ same),
    ))

pub returns : goal.returns
returns c =
    let a = c.args in
    last_step (λ n holds. sym (count_read a.m.now n holds) ∙ c.if-m-step.false) (takes_of c.withdraw.ensures)
