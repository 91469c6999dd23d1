-- Row after row: before the turn of number i the first i are stored, and the others are read from the place on that the turn has.
use Rattle.fresh.proofs.Names.{Constraint, List, ReadsRows, RowsBehind, RowsPut, [], ◌≡◌, after, at, drop}
use Rattle.fresh.proofs.Names.{length, table_of}
use Rattle.fresh.proofs.put_rows.Given as goal

abbrev pub invariant-loop-i : goal.invariant-loop-i
invariant-loop-i l =
    (length l.values ≡ 18) × ((rows : List Constraint) → RowsBehind l.table rows
    → ReadsRows (at l.table 0) l.table l.i l.place (table_of (drop l.i rows)) × (length l.initial.m ≡ 35
    → RowsPut l.initial.m (after rows []) l.i l.m))
