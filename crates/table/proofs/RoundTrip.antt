-- What is read from bytes is written back to those bytes, and what is written is read back, since a row and its body say the same.
use Rattle.table.proofs.Names.{AcceptedIn, Bytes, Constraint, Judged, List, ReadsRows, ReadsTableUpTo, RowAt}
use Rattle.table.proofs.Names.{StandsFor, TableRead, Taken, WholeAt, [], ◌++◌, ◌+◌, ◌<◌, ◌∙◌, ◌∷◌, ◌≡◌, ◌≤◌, ap, append_assoc, ap₂, arith, at}
use Rattle.table.proofs.Names.{body_at, bytes_length, bytes_at, bytes_of, drop, drop-append_seam, drop_at, drop-cons, drop-drop}
use Rattle.table.proofs.Names.{drop_of_length-le, edition_above, judged_all, judged_parts, last_type, length, length-append}
use Rattle.table.proofs.Names.{length-drop, length-take-le, length_at, no_more, number_of_bytes, place_questions, row_refused}
use Rattle.table.proofs.Names.{row_taken, row_body, row_bytes, row_limit, row_questions, row_then, rows_bytes, rows_questions, subst₂, sym, table_of}
use Rattle.table.proofs.Names.{table_refused, table_bytes_in, take-append-drop, take-append_seam, take_at, type_of, version_taken, ℕ}
use Rattle.table.proofs.Names.{ReadBack, TypeKnown, count_of, known_short, number_back, row_bytes_long, row_questions_in, write-back}
use Rattle.table.proofs.{Places.place_row, Places.place_taken}

-- From bytes to rows and back

-- the bytes from a place on are a length field, a body and the rest
split_row : (bytes : List ℕ) (place : ℕ)
    → drop place bytes ≡ (bytes_at 2 bytes place ++ body_at bytes place) ++ drop (place + 2 + length_at bytes place) bytes
split_row bytes place =
    let size = length_at bytes place in
    sym (append_assoc (bytes_at 2 bytes place) (body_at bytes place) (drop (place + 2 + size) bytes)
    ∙ ap (λ (later : List ℕ). bytes_at 2 bytes place ++ (body_at bytes place ++ later)) (sym (drop-drop size (place + 2) bytes))
    ∙ ap (λ (later : List ℕ). bytes_at 2 bytes place ++ later) (take-append-drop size (drop (place + 2) bytes) ∙ sym (drop-drop 2 place bytes))
    ∙ take-append-drop 2 (drop place bytes))

-- the bytes of the row at a place are those that stand there
row_written : (bytes : List ℕ) (place : ℕ) (c : Constraint) → Bytes bytes → WholeAt bytes place → StandsFor (body_at bytes place) c
    → row_bytes c ≡ bytes_at 2 bytes place ++ body_at bytes place
unfolding row_bytes
row_written bytes place c all whole stands =
    let size = length_at bytes place in
    let long : length (body_at bytes place) ≡ size = length-take-le size (drop (place + 2) bytes)
    (omega (arith, length-drop (place + 2) bytes, whole.1)) in
    rw (stands.bytes, long, number_back 2 bytes place all whole.0)

-- rows that were read from a place on have the bytes that stand there
abbrev WrittenBack : List ℕ → ℕ → TableRead → Type 0
WrittenBack bytes place (table_of rows) = rows_bytes rows ≡ drop place bytes
WrittenBack bytes place (table_refused n p) = Unit

one_more : (bytes : List ℕ) (place : ℕ) (c : Constraint) (later : TableRead) → row_bytes c ≡ bytes_at 2 bytes place ++ body_at bytes place
    → WrittenBack bytes (place + 2 + length_at bytes place) later → WrittenBack bytes place (row_then c later)
unfolding rows_bytes
one_more bytes place c (table_of rows) row written = ap₂ (λ (first later : List ℕ). first ++ later) row written ∙ sym (split_row bytes place)
one_more bytes place c (table_refused n p) row written = tt

rows_written : {edition : ℕ} (bytes : List ℕ) {i place : ℕ} {read : TableRead} → Bytes bytes → ReadsRows edition bytes i place read
    → WrittenBack bytes place read
unfolding rows_bytes
rows_written bytes all (no_more h) = sym (drop_of_length-le bytes h)
rows_written bytes all (row_refused n c h at_c judged) = tt
rows_written {edition} bytes all (row_taken {i} {place} {later} c h at_c judged rows) =
    let taken = place_taken edition bytes i place c judged in
    one_more bytes place c later (row_written bytes place c all taken.whole (at_c taken.shape)) (rows_written bytes all rows)

-- §1.11, §4.2, §4.3, §4.9, §16.7: what is read from bytes has those bytes
pub read_then_write : {newest : ℕ} (bytes : List ℕ) (rows : List Constraint) → Bytes bytes → ReadsTableUpTo newest bytes (table_of rows)
    → table_bytes_in (at bytes 0) rows ≡ bytes
unfolding table_bytes_in
read_then_write bytes rows all (version_taken version reads) =
    ap (λ (later : List ℕ). at bytes 0 ∷ later) (rows_written bytes all reads) ∙ sym (drop-cons bytes 0 0 version.0)

-- From rows to bytes and back

-- the length field and the body of a row that stands behind other bytes
module _ (edition : ℕ) (before : List ℕ) (c : Constraint) (after : List ℕ) (back : ReadBack edition c) where
  body_short : length (row_body c) ≤ 162
  body_short = omega (arith, back.shape_fits.length_right, known_short edition (at (row_body c) 0) (at (row_body c) 1) back.shape_fits.known)

  length_there : length_at (before ++ (row_bytes c ++ after)) (length before) ≡ length (row_body c)
  unfolding row_bytes
  length_there =
      rw (
        drop-append_seam before (row_bytes c ++ after),
        append_assoc (bytes_of 2 (length (row_body c))) (row_body c) after,
        take_at (bytes_of 2 (length (row_body c))) (row_body c ++ after) 2 (bytes_length 2 (length (row_body c))),
      )
      (number_of_bytes 2 (length (row_body c)) (omega (arith, body_short)))

  body_there : body_at (before ++ (row_bytes c ++ after)) (length before) ≡ row_body c
  unfolding row_bytes
  body_there =
      rw (
        length_there,
        ← drop-drop 2 (length before) (before ++ (row_bytes c ++ after)),
        drop-append_seam before (row_bytes c ++ after),
        append_assoc (bytes_of 2 (length (row_body c))) (row_body c) after,
        drop_at (bytes_of 2 (length (row_body c))) (row_body c ++ after) 2 (bytes_length 2 (length (row_body c))),
      )
      (take-append_seam (row_body c) after)

  -- it stands there, and its questions are answered "yes" where the row's own are
  row_there : RowAt edition (before ++ (row_bytes c ++ after)) (length before) c
  row_there shape = record { bytes = sym body_there; fits = back.stands.fits }

  row_read : (i : ℕ) → i < row_limit → Judged (row_questions c) Taken
      → Judged (place_questions edition (before ++ (row_bytes c ++ after)) i (length before) c) Taken
  row_read i room judged =
      place_row edition (before ++ (row_bytes c ++ after)) i (length before) c Taken
      (rw length_there (omega (arith, length-append before (row_bytes c ++ after), length-append (row_bytes c) after, row_bytes_long c))) room
      (rw body_there back.shape_fits) judged

rows_read : (edition : ℕ) (before : List ℕ) (i : ℕ) (rows : List Constraint) → Judged (rows_questions edition i rows []) Taken
    → ReadsRows edition (before ++ rows_bytes rows) i (length before) (table_of rows)
unfolding rows_bytes rows_questions
rows_read edition before i [] judged = no_more {place = length before} (omega (arith, length-append before []))
rows_read edition before i (c ∷ rows) judged =
    let after = rows_bytes rows in
    let bytes = before ++ (row_bytes c ++ after) in
    let room = judged_all 3 (i < row_limit) _ judged in
    let parts = judged_parts (row_questions_in edition c) (rows_questions edition (i + 1) rows []) room.1 in
    let back = write-back edition c parts.0 in
    let own = (judged_all 4 (TypeKnown edition (type_of c) (count_of c)) _ parts.0).1 in
    let next : length (before ++ row_bytes c) ≡ length before + 2 + length_at bytes (length before) =
    omega (arith, length-append before (row_bytes c), row_bytes_long c, length_there edition before c after back) in
    let later : ReadsRows edition bytes (i + 1) (length before + 2 + length_at bytes (length before)) (table_of rows) =
    subst₂ (λ (l : List ℕ) (place : ℕ). ReadsRows edition l (i + 1) place (table_of rows)) (append_assoc before (row_bytes c) after) next
    (rows_read edition (before ++ row_bytes c) (i + 1) rows parts.1) in
    row_taken {place = length before} c (omega (
      arith,
      length-append before (row_bytes c ++ after),
      length-append
          (row_bytes c) after,
      row_bytes_long c,
    ))
    (row_there edition before c after back) (row_read edition before c after back i room.0 own) later

-- §4.10, §16.7: what is written in an edition that the reader takes is read back
pub write_then_read : (newest edition : ℕ) (rows : List Constraint) → 0 < last_type edition → edition ≤ newest → AcceptedIn edition rows
    → ReadsTableUpTo newest (table_bytes_in edition rows) (table_of rows)
unfolding table_bytes_in
write_then_read newest edition rows some known accepted =
    version_taken (omega arith, edition_above edition some, known, some) (rows_read edition (edition ∷ []) 0 rows accepted)
