-- The roles that the n uses have as many bytes as the fields of the row.
use Rattle.constraint.proofs.Library.{◌+◌, ◌∙◌, ap, arith, sym, ℕ}
use Rattle.table_row.specs.Records.{total}
use Rattle.table_row.proofs.Judging.{body_long, known_row}
use Rattle.table_row.proofs.{Lines.total_small}
use Rattle.table_row.proofs.TableRow.length.Goals as goal

pub overflow_add-result : goal.overflow_add-result
overflow_add-result c = omega (arith, c.size.ensures, total_small c.roles_of-roles.result)

pub returns : goal.returns
returns c =
    let row = c.args.self in let edition = c.requires.0 in
    ap (λ (n : ℕ). 1 + n) (c.size.ensures ∙ ap total c.roles_of-roles.ensures)
    ∙ sym (body_long edition row.tag row.values (known_row edition row.tag row.values c.requires.1))
