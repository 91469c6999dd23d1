-- The number is that of the length, or that of the refusal, which is from 1 to 26, and its place.
use Rattle.constraint.proofs.Refusals.{numbered}
use Rattle.constraint.specs.Answers.{refused_number}
use Rattle.delkuthi.proofs.Names.{◌+◌, ◌<◌, ◌∙◌, ap, arith, ℕ}
use Rattle.delkuthi.proofs.{JoinNumbers.numbers_join}
use Rattle.delkuthi.proofs.joining.delkuthi_join.Goals as goal

pub returns-in-Ok : goal.returns-in-Ok
returns-in-Ok c = numbers_join _ _ _ _ c.in-Ok.ensures c.place_number.ensures

pub returns-in-Err-First : goal.returns-in-Err-First
returns-in-Err-First c =
    numbers_join _ _ _ _ (rw c.in-Err-First.field-0-is at c.in-Err-First.ensures) c.refusal_number.ensures

pub overflow_add-result : goal.overflow_add-result
overflow_add-result c =
    let refused = c.in-Err-Second.refused in
    let small : refused_number refused < 27 = (numbered refused.refusal).1 in
    omega (arith, small, c.refusal_number-in-Err-Second.ensures)

pub returns-in-Err-Second : goal.returns-in-Err-Second
returns-in-Err-Second c =
    numbers_join _ _ _ _ (rw c.in-Err-Second.field-0-is at c.in-Err-Second.ensures)
    (ap (λ (n : ℕ). n + 128) c.refusal_number-in-Err-Second.ensures)

pub returns-in-Err-TooShort : goal.returns-in-Err-TooShort
returns-in-Err-TooShort c =
    numbers_join _ _ _ _ (rw c.in-Err-TooShort.field-0-is at c.in-Err-TooShort.ensures)
    (c.from-in-Err-TooShort.ensures ∙ c.from.ensures)
