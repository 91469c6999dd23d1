-- A table's rows are read again one by one, each is stored in its block, and behind the last of them nothing whole stands: the filler is read there.
use Rattle.fresh.proofs.Names.{Constraint, List, Monitor, Placed, PlacedAt, ReadsRows, RowsPut, TableRead, Words, [], ◌+◌, ◌<◌, ◌∙◌, ◌∷◌, ◌≡◌}
use Rattle.fresh.proofs.Names.{◌≤◌, ap, arith, drop, drop_of_length-le, eqb, eqb-false, eqb-true, filler, get_or, get_or-set_other, get_or-set_same}
use Rattle.fresh.proofs.Names.{kept_at, length, length-set, ltb, ltb-false, ltb-true, never, no_more, refl, row_refused, row_taken, row_at}
use Rattle.fresh.proofs.Names.{scan_step, set, split, subst, suc, sym, table_of, table_refused, zero, ℕ}
use Rattle.fresh.proofs.Names.{Known, TypeKnown, count_of, judged_all, row_accepted, row_there, row_in, rows_accepted, type_of}
use Rattle.row.specs.Stored as Stored

-- ---- read

-- no row is left only at the end of the bytes
at_end : {edition : ℕ} (bytes : List ℕ) {i place : ℕ} {read : TableRead} → ReadsRows edition bytes i place read → read ≡ table_of []
    → length bytes ≤ place
at_end bytes (no_more end) e = end
at_end bytes (row_refused n c there at_c refused) e = never (cc)
at_end bytes (row_taken {later = table_of others} c there at_c judged reads) e = never (cc)
at_end bytes (row_taken {later = table_refused n p} c there at_c judged reads) e = never (cc)

get_d_past : (rows : List Constraint) (i : ℕ) → length rows ≤ i → get_or rows i filler ≡ filler
get_d_past [] i past = refl
get_d_past (c ∷ rows) zero past = absurd (omega (arith, past))
get_d_past (c ∷ rows) (suc i) past = get_d_past rows i (omega (arith, past))

pub scan_next : {edition : ℕ} (bytes : List ℕ) (rows : List Constraint) (i place : ℕ) (r : Placed)
    → ReadsRows edition bytes i place (table_of (drop i rows))
    → PlacedAt bytes place r → (row_in r.row ≡ get_or rows i filler) × ReadsRows edition bytes (i + 1) r.next (table_of (drop (i + 1) rows))
scan_next {edition} bytes rows i place r reads placed =
    split (ltb i (length rows)) (λ _. (row_in r.row ≡ get_or rows i filler) × ReadsRows edition bytes (i + 1) r.next (table_of (drop
    (i + 1) rows)))
    (λ e. scan_step bytes rows i place filler r (ltb-true i (length rows) e) reads placed)
    (λ e.
    let past : length rows ≤ i = ltb-false i (length rows) e in
    let end : length bytes ≤ place = at_end bytes reads (ap table_of (drop_of_length-le rows past)) in
    let read = placed.none (λ whole. omega (arith, whole.0, end)) in (
      read.0 ∙ sym (get_d_past rows i past),
      subst (λ (later : List Constraint). ReadsRows edition bytes (i + 1) r.next (table_of later))
          (sym (drop_of_length-le rows {i = i + 1} (omega (arith, past)))) (no_more (omega (arith, end, read.1))),
    ))

-- each row of a table is of a known type, and so is the filler
pub row_known : {edition : ℕ} (bytes : List ℕ) (rows : List Constraint) → ReadsRows edition bytes 0 1 (table_of rows) → (i : ℕ)
    → Known (get_or rows i filler)
row_known {edition} bytes rows reads i =
    split (ltb i (length rows)) (λ _. Known (get_or rows i filler))
    (λ e. let c = get_or rows i filler in (
      edition,
      (judged_all 4 (TypeKnown edition (type_of c) (count_of c)) _
          (row_accepted edition 0 rows (rows_accepted bytes reads) i c (row_there rows i filler (ltb-true i (length rows) e)))).0,
    ))
    (λ e. subst Known (sym (get_d_past rows i (ltb-false i (length rows) e)))
    (1, record { type_known = (omega arith, omega arith); n_known = λ has. never (cc) }))

-- ---- stored

pub put_next : (entry : Words) (m : Monitor) (n : ℕ) (words : Words) (block : List (List ℕ)) → n < length entry → RowsPut entry m n words
    → block ≡ Stored.words_of_row (row_at m n) (kept_at m n) → RowsPut entry m (n + 1) (set words n block)
put_next entry m n words block room so_far is =
    record {
      long = length-set words n block ∙ so_far.long;
      rows_lie = λ i below.
          split (eqb i n) (λ _. get_or (set words n block) i [] ≡ Stored.words_of_row (row_at m i) (kept_at m i))
          (λ e. let same = eqb-true i n e in
          rw same (get_or-set_same words n block [] (omega (arith, room, so_far.long)) ∙ is))
          (λ e. get_or-set_other words n i block [] (eqb-false i n e) ∙ so_far.rows_lie i (omega (arith, below, eqb-false i n e)));
      others = λ i above. get_or-set_other words n i block [] (λ same. omega (arith, same, above)) ∙ so_far.others i (omega (arith, above));
    }
