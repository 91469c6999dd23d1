-- Row after row: before the turn of number k the rows from k on are read from the place that the turn has.
use Rattle.table.proofs.Names.{Constraint, List, ReadsRows, ◌<◌, drop, length, table_of, ℕ}
use Rattle.table.proofs.scan.row_behind.Given as goal

abbrev pub invariant-loop : goal.invariant-loop
invariant-loop l =
    (edition : ℕ) (rows : List Constraint) → ReadsRows edition l.bytes 0 1 (table_of rows) → l.i < length rows
    → ReadsRows edition l.bytes l.counter l.place (table_of (drop l.counter rows))
