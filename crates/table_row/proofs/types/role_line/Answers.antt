-- Each arm is the line of its type; no other number is a type.
use Rattle.constraint.proofs.Library.{arith, refl}
use Rattle.table_row.specs.Records.{role_lines}
use Rattle.table_row.proofs.{Lines.other_line}
use Rattle.table_row.proofs.types.role_line.Goals as goal

pub returns-in_default : goal.returns-in_default
returns-in_default c = let t = c.args.tag in other_line role_lines refl refl t (λ some. omega arith)
