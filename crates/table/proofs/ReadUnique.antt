-- Bytes have one reading, since each question has one answer and a body stands for one row.
use Rattle.table.proofs.Names.{List, ReadsRows, ReadsTableUpTo, Refused, TableRead, Taken, ◌≡◌, ap₂, arith, body_at, never, no_more, refl}
use Rattle.table.proofs.Names.{row_refused, row_taken, row_then, version_refused, version_taken, ℕ}
use Rattle.table.proofs.Names.{stands_once}
use Rattle.table.proofs.{Places.place_once, Places.place_taken}

rows_once : {edition : ℕ} (bytes : List ℕ) {i place : ℕ} {x y : TableRead} → ReadsRows edition bytes i place x → ReadsRows edition bytes i place y
    → x ≡ y
rows_once {edition} bytes (no_more h) (no_more k) = refl
rows_once {edition} bytes (no_more h) (row_refused n d k at-d q) = absurd (omega arith)
rows_once {edition} bytes (no_more h) (row_taken d k at-d q later) = absurd (omega arith)
rows_once {edition} bytes (row_refused n c h at_c p) (no_more k) = absurd (omega arith)
rows_once {edition} bytes (row_refused {i} {place} n c h at_c p) (row_refused m d k at-d q) =
    let same = place_once edition bytes i place c d (Refused n) (Refused m) at_c at-d p q in cc
rows_once {edition} bytes (row_refused {i} {place} n c h at_c p) (row_taken d k at-d q later) =
    let same = place_once edition bytes i place c d (Refused n) Taken at_c at-d p q in never (cc)
rows_once {edition} bytes (row_taken c h at_c p earlier) (no_more k) = absurd (omega arith)
rows_once {edition} bytes (row_taken {i} {place} c h at_c p earlier) (row_refused m d k at-d q) =
    let same = place_once edition bytes i place c d Taken (Refused m) at_c at-d p q in never (cc)
rows_once {edition} bytes (row_taken {i} {place} c h at_c p earlier) (row_taken d k at-d q later) =
    let shape = (place_taken edition bytes i place c p).shape in
    ap₂ row_then (stands_once (body_at bytes place) shape c d (at_c shape) (at-d shape)) (rows_once bytes earlier later)

-- §7.6, §8.1, §9.3
pub reads_once : {newest : ℕ} (bytes : List ℕ) {x y : TableRead} → ReadsTableUpTo newest bytes x → ReadsTableUpTo newest bytes y → x ≡ y
reads_once bytes (version_refused h) (version_refused k) = refl
reads_once bytes (version_refused h) (version_taken k rows) = absurd (h k)
reads_once bytes (version_taken h rows) (version_refused k) = absurd (k h)
reads_once bytes (version_taken h earlier) (version_taken k later) = rows_once bytes earlier later
