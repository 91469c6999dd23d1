-- The type is compared with the edition's last one, and then the n is asked for where the type has one.
use Rattle.constraint.proofs.Library.{arith}
use Rattle.constraint.proofs.Lengths.{at_most}
use Rattle.constraint.specs.Types.{last_types}
use Rattle.table_row.proofs.types.type_known.Goals as goal

-- a type from 1 to the edition's last one is in the lists
pub bounds-place-2 : goal.bounds-place-2
bounds-place-2 c = omega (arith, c.from-place.ensures, c.last_type.ensures, at_most 17 last_types (omega arith) c.args.edition)
