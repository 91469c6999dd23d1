-- The length field, the type byte and the fields are stored one behind the other.
use Rattle.constraint.proofs.Library.{◌+◌, ◌∙◌, ap, arith, sets, ℕ, List}
use Rattle.constraint.specs.Table.{fields_bytes}
use Rattle.table_row.specs.Records.{fields_as, row_in, total}
use Rattle.table_row.proofs.Judging.{body_long, known_row, row_bytes_long, row_stores}
use Rattle.table_row.proofs.{Lines.total_small}
use Rattle.table_row.proofs.TableRow.put.Goals as goal

pub overflow_add-size : goal.overflow_add-size
overflow_add-size c = omega (arith, c.size.ensures, total_small c.roles_of-roles.result)

pub put-requires : goal.put-requires
put-requires c =
    let row = c.args.self in
    omega (
      arith,
      c.requires.1,
      row_bytes_long (row_in row),
      body_long c.requires.0.0 row.tag row.values (known_row c.requires.0.0 row.tag row.values c.requires.0.1),
      c.put_byte.auto.buffer,
      c.put_two.auto.buffer,
    )

pub returns : goal.returns
returns c =
    let row = c.args.self in
    row_stores c.requires.0.0 row.tag row.values (known_row c.requires.0.0 row.tag row.values c.requires.0.1) c.args.buffer.now _ _ _ c.args.place _
    (ap (λ (n : ℕ). 1 + n) (c.size.ensures ∙ ap total c.roles_of-roles.ensures))
    c.put_two.ensures c.put_byte.ensures
    (c.put.ensures
    ∙ ap (λ (r : List ℕ). sets c.put_byte.new.buffer (c.args.place + 3) (fields_bytes (fields_as r row.values)))
    c.roles_of-roles.ensures)
