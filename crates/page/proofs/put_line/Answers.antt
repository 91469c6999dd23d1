-- The columns are stored one behind the other.
use Rattle.constraint.proofs.Library.{List, ◌++◌, ◌<◌, ◌∙◌, ◌≡◌, ap, arith, drop, take, take_all, ℕ}
use Rattle.page.proofs.Lines.{at_gap, at_name, at_rest, at_step, at_word, end, gap, last_columns, line_is, name, number, step, stored, word}
use Rattle.page.proofs.put_line.Goals as goal

pub overflow_add-place-5 : goal.overflow_add-place-5
overflow_add-place-5 c =
    omega (arith, c.requires)

pub returns : goal.returns
returns c =
    let args = c.args in let i = args.row in
    let type = args.tag in let v = args.verdict in
    let l = args.buffer.now in
    let place = args.place in
    let small : i < 1000 = omega arith in
    let aligned : take 3 (drop 17 c.digits_of-digits.result.bytes) ≡ number i =
    ap (λ (list : List ℕ). take 3 (drop 17 list)) c.digits_of-digits.ensures.aligned ∙ ap (take 3) (last_columns i small)
    ∙ take_all 3 (number i) (omega (arith, at_gap i type v small)) in
    rw (line_is i type v small)
    (stored l place 57 (number i ++ gap ++ name type ++ word v ++ step v) end _ _ (at_rest i type v small)
    (stored l place 37 (number i ++ gap ++ name type ++ word v) (step v) _ _ (at_step i type v small)
    (stored l place 29 (number i ++ gap ++ name type) (word v) _ _ (at_word i type v small)
    (stored l place 5 (number i ++ gap) (name type) _ _ (at_name i type v small)
    (stored l place 3 (number i) gap _ _ (at_gap i type v small) (rw aligned at c.put.ensures) c.put-2.ensures)
    (rw c.name.ensures at c.put-3.ensures))
    (rw c.word.ensures at c.put-4.ensures))
    (rw c.step.ensures at c.put-5.ensures))
    c.put-6.ensures)
