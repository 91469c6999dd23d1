-- A table's rows are stored one after the other: the first of those that are left, and then the others behind it.
use Rattle.table.proofs.Names.{Constraint, List, Table, TableRow, bytes_length, bytes_of, ◌++◌, ◌+◌, ◌<◌, ◌∙◌, ◌≡◌, ap, arith, drop, get_or}
use Rattle.table.proofs.Names.{length, length-append, row_bytes_long}
use Rattle.table.proofs.Names.{row_body, row_bytes, row_in, rows_from, rows_bytes, rows_of, sets, stores_append, sym, ℕ}

-- what the stores of a row's length field and of its body leave
pub row_stores : (buffer one two : List ℕ) (place : ℕ) (c : Constraint) (size : ℕ) → size ≡ length (row_body c)
    → one ≡ sets buffer place (bytes_of 2 size) → two ≡ sets one (place + 2) (row_body c) → two ≡ sets buffer place (row_bytes c)
unfolding row_bytes
row_stores buffer one two place c size s p q =
    q ∙ rw (p, s) (sym (stores_append buffer place (bytes_of 2 (length (row_body c))) (row_body c)
    ∙ ap (λ (n : ℕ). sets (sets buffer place (bytes_of 2 (length (row_body c)))) (place + n) (row_body c)) (bytes_length 2 (length (row_body c)))))

module _ (table : Table) (i : ℕ) (other : TableRow) (counted : i < table.count) (there : i < length table.rows) where
  -- the row of the entry, and the rows after it
  rows_next : rows_bytes (drop i (rows_of table)) ≡ row_bytes (row_in (get_or table.rows i other)) ++ rows_bytes (drop (i + 1) (rows_of table))
  unfolding rows_bytes
  rows_next = ap rows_bytes (rows_from table i other counted there)

  pub rows_size : length (rows_bytes (drop i (rows_of table)))
      ≡ 2 + length (row_body (row_in (get_or table.rows i other))) + length (rows_bytes (drop (i + 1) (rows_of table)))
  rows_size =
      let row = row_in (get_or table.rows i other) in
      ap length rows_next ∙ length-append (row_bytes row) (rows_bytes (drop (i + 1) (rows_of table))) ∙ omega (arith, row_bytes_long row)

  pub rows_more : (buffer : List ℕ) (place : ℕ) → sets buffer place (rows_bytes (drop i (rows_of table)))
      ≡ sets (sets buffer place (row_bytes (row_in (get_or table.rows i other))))
      (place + (2 + length (row_body (row_in (get_or table.rows i other))))) (rows_bytes (drop (i + 1) (rows_of table)))
  rows_more buffer place =
      let row = row_in (get_or table.rows i other) in
      ap (sets buffer place) rows_next
      ∙ stores_append buffer place (row_bytes row) (rows_bytes (drop (i + 1) (rows_of table)))
      ∙ ap (λ (n : ℕ). sets (sets buffer place (row_bytes row)) (place + n) (rows_bytes (drop (i + 1) (rows_of table)))) (row_bytes_long row)
