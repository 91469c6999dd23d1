-- The loop stores place after place: storing those left in what there is now gives the whole.
use Rattle.constraint.proofs.Library.{◌-◌, ◌≡◌, sets}
use Rattle.row_type.specs.Parameters.{used_from}
use Rattle.row_type.proofs.from_constraint.put_values.Given as goal

abbrev pub invariant-loop-i : goal.invariant-loop-i
invariant-loop-i l = sets l.times (l.i - l.first) (used_from l.roles l.values l.i) ≡ sets l.initial.times 0 (used_from l.roles l.values l.first)
