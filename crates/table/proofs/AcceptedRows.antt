-- A table that was read is accepted: the questions that a fresh monitor puts to its rows were put when they were read.
use Rattle.table.proofs.Names.{AcceptedIn, Constraint, Judged, List, ReadsRows, ReadsTableUpTo, TableRead, Taken, []}
use Rattle.table.proofs.Names.{◌+◌, ◌<◌, at, body_at, judged_none, judged_yes, no_more, row_refused, row_taken}
use Rattle.table.proofs.Names.{row_limit, row_questions_in, row_then, rows_taken, rows_questions, table_of, table_refused, version_taken, ℕ}
use Rattle.table.proofs.Names.{stands_known}
use Rattle.table.proofs.Places.{place_taken}

-- the rows that were read, with i rows before them, are accepted
abbrev pub AcceptedBehind : ℕ → ℕ → TableRead → Type 0
AcceptedBehind edition i (table_of rows) = Judged (rows_questions edition i rows []) Taken
AcceptedBehind edition i (table_refused n place) = Unit {0}

-- one row more in front
accepted_more : (edition i : ℕ) (c : Constraint) (later : TableRead) → i < row_limit → Judged (row_questions_in edition c) Taken
    → AcceptedBehind edition (i + 1) later → AcceptedBehind edition i (row_then c later)
accepted_more edition i c (table_of rows) room own accepted = rows_taken edition i c rows [] Taken room own accepted
accepted_more edition i c (table_refused n place) room own accepted = tt

pub rows_accepted : {edition : ℕ} (bytes : List ℕ) {i place : ℕ} {read : TableRead} → ReadsRows edition bytes i place read
    → AcceptedBehind edition i read
unfolding rows_questions
rows_accepted bytes (no_more end) = judged_none
rows_accepted bytes (row_refused n c there at_c refused) = tt
rows_accepted {edition} bytes (row_taken {i} {place} {later} c there at_c judged reads) =
    let taken = place_taken edition bytes i place c judged in
    let known = stands_known (body_at bytes place) c taken.shape (at_c taken.shape) in
    accepted_more edition i c later taken.room (judged_yes 4 _ _ Taken known taken.own) (rows_accepted bytes reads)

pub read_accepted : {newest : ℕ} (bytes : List ℕ) (rows : List Constraint) → ReadsTableUpTo newest bytes (table_of rows)
    → AcceptedIn (at bytes 0) rows
read_accepted bytes rows (version_taken version reads) = rows_accepted bytes reads
