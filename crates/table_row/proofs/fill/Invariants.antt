-- The loop reads value after value: storing those left in what there is now gives the whole.
use Rattle.constraint.proofs.Library.{◌*◌, ◌+◌, ◌≡◌, ◌≤◌, drop}
use Rattle.constraint.proofs.Library.{sets}
use Rattle.table_row.specs.Records.{values_at}
use Rattle.table_row.proofs.fill.Given as goal

abbrev pub invariant-loop-i : goal.invariant-loop-i
invariant-loop-i l =
    (l.place ≤ 1 + 8 * l.i) × (sets l.values l.i (values_at (drop l.i l.roles) l.body l.place) ≡ sets l.initial.values 0
    (values_at l.roles l.body 1))
