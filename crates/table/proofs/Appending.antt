-- A table with a row more: what was read has the bytes that stand there, so these and the bytes of the row are those of all rows, which are accepted
-- in the edition that they get.
use Rattle.table.proofs.Names.{AcceptedIn, Answer, Bytes, Constraint, Judged, List, ReadsTableUpTo, Refused, ShapeFits, StandsFor, Taken}
use Rattle.table.proofs.Names.{TypeKnown, [], ◌++◌, ◌+◌, ◌<◌, ◌∙◌, ◌∷◌, ◌≡◌, ◌≤◌, ap, append_assoc, ap₂, arith, at, bytes_length, bytes_of}
use Rattle.table.proofs.Names.{count_of, drop, get_or-take, judged_all, judged_first, judged_later, judged_no, judged_none, judged_parts}
use Rattle.table.proofs.Names.{judged_yes, last_type, length, length-append, length-take, ltb, ltb-false, refl, row_stands, row_body}
use Rattle.table.proofs.Names.{length-drop, never, take_at}
use Rattle.table.proofs.Names.{row_bytes, row_from, row_in, row_limit, row_questions_in, rows_taken, rows_bytes, rows_questions, sets}
use Rattle.table.proofs.Names.{split, stands_known, subst, suc, sym, table_of, table_bytes_in, take, take_all, type_of, version_taken, zero, ℕ}
use Rattle.constraint.proofs.Editions.{accepted_later}
use Rattle.constraint.proofs.Library.{append-nil, by_cases, cond, dec_lt, min, sets-eq, suc-add}
use Rattle.table.proofs.AcceptedRows.{read_accepted}
use Rattle.table.proofs.RoundTrip.{read_then_write, write_then_read}
use Rattle.table.specs.Appending.{AddsRow, AddsTo, Grown, add_questions, body_questions, edition_with, row_right, row_wrong, with_row}
use Rattle.table.specs.AddAnswer.{AddAnswer}

-- ---- bytes

rows_behind : (rows : List Constraint) (c : Constraint) → rows_bytes (rows ++ (c ∷ [])) ≡ rows_bytes rows ++ row_bytes c
unfolding rows_bytes
rows_behind [] c = append-nil (row_bytes c)
rows_behind (d ∷ rows) c =
    ap (λ (later : List ℕ). row_bytes d ++ later) (rows_behind rows c) ∙ sym (append_assoc (row_bytes d) (rows_bytes rows) (row_bytes c))

-- ---- rows

module _ (edition : ℕ) (c : Constraint) (taken : Judged (row_questions_in edition c) Taken) where
  one_more : (i : ℕ) (rows : List Constraint) → i + length rows < row_limit → Judged (rows_questions edition i rows []) Taken
      → Judged (rows_questions edition i (rows ++ (c ∷ [])) []) Taken
  unfolding rows_questions
  one_more i [] room judged = rows_taken edition i c [] [] Taken (omega arith) taken judged_none
  one_more i (d ∷ rows) room judged =
      let parts = judged_parts (row_questions_in edition d) (rows_questions edition (i + 1) rows []) (judged_all 3 (i < row_limit) _ judged).1 in
      rows_taken edition i d (rows ++ (c ∷ [])) [] Taken (omega arith) parts.0 (one_more (i + 1) rows (omega arith) parts.1)

-- ---- the table with the row

module _ (table body : List ℕ) (rows : List Constraint) (c : Constraint) (reads : ReadsTableUpTo 2 table (table_of rows)) (stands : StandsFor body c)
  where
    abbrev edition : ℕ
    edition = edition_with (at table 0) (type_of c)

    type_is : at body 0 ≡ type_of c
    unfolding row_body
    type_is = ap (λ (l : List ℕ). at l 0) (sym stands.bytes)

    -- §9.12: it has the bytes of the rows and the row
    pub added_bytes : Bytes table → with_row table body ≡ table_bytes_in edition (rows ++ (c ∷ []))
    unfolding table_bytes_in row_bytes
    added_bytes all =
        let rest : drop 1 table ≡ rows_bytes rows = ap (drop 1) (sym (read_then_write table rows all reads)) in
        let row : bytes_of 2 (length body) ++ body ≡ row_bytes c = ap (λ (l : List ℕ). bytes_of 2 (length l) ++ l) (sym stands.bytes) in
        ap₂ (λ (e : ℕ) (l : List ℕ). e ∷ l) (ap (edition_with (at table 0)) type_is)
        (ap₂ (λ (first later : List ℕ). first ++ later) rest row ∙ sym (rows_behind rows c))

    -- the version byte is 1 or 2, and rows of edition 1 are accepted in edition 2
    version : (1 ≤ at table 0) × (at table 0 ≤ 2)
    version = of_version reads
      where
        of_version : ReadsTableUpTo 2 table (table_of rows) → (1 ≤ at table 0) × (at table 0 ≤ 2)
        of_version (version_taken known later) = (known.1, known.2)

    rows_in_two : AcceptedIn 2 rows
    rows_in_two =
        by_cases (dec_lt (at table 0) 2)
        (λ less. let first : at table 0 ≡ 1 = omega (arith, version) in
        accepted_later rows (subst (λ (e : ℕ). AcceptedIn e rows) first (read_accepted table rows reads)))
        (λ more. let second : at table 0 ≡ 2 = omega (arith, version) in
        subst (λ (e : ℕ). AcceptedIn e rows) second (read_accepted table rows reads))

    -- the row is of a type of the edition, and the rows are accepted in it
    in_edition : TypeKnown 2 (type_of c) (count_of c) → TypeKnown edition (type_of c) (count_of c) × AcceptedIn edition rows × (0 < last_type edition)
        × (edition ≤ 2)
    in_edition known =
        split (ltb (last_type (at table 0)) (type_of c))
        (λ b. let e = cond b 2 (at table 0) in TypeKnown e (type_of c) (count_of c) × AcceptedIn e rows × (0 < last_type e) × (e ≤ 2))
        (λ new. (known, rows_in_two, omega arith, omega arith))
        (λ old. let within = ltb-false (last_type (at table 0)) (type_of c) old in (
          record { type_known = (known.type_known.0, omega (arith, within)); n_known = known.n_known },
          read_accepted table rows reads,
          omega (arith, within, known.type_known.0),
          version.1,
        ))

    -- §9.12: it is read as the rows and the row
    pub added_reads : Bytes table → (place size : ℕ) → Judged (add_questions (length rows) body c place size) Taken
        → ReadsTableUpTo 2 (with_row table body) (table_of (rows ++ (c ∷ [])))
    added_reads all place size judged =
        let asked = (judged_parts (body_questions (length rows) body c) ((16, place + 2 + length body ≤ size) ∷ []) judged).0 in
        let room = judged_all 3 (length rows < row_limit) _ asked in
        let shape = judged_all 4 (ShapeFits 2 body) _ room.1 in
        let (known, accepted, some, newest) = in_edition (stands_known {edition = 2} body c shape.0 stands) in
        subst (λ (l : List ℕ). ReadsTableUpTo 2 l (table_of (rows ++ (c ∷ [])))) (sym (added_bytes all))
        (write_then_read 2 edition (rows ++ (c ∷ [])) some newest
        (one_more edition c (judged_yes 4 _ _ Taken known shape.1) 0 rows (omega (arith, room.0)) accepted))

-- ---- the answer

module _ (table body : List ℕ) (size : ℕ) (all : Bytes body) (rows : List Constraint) (reads : ReadsTableUpTo 2 table (table_of rows)) (count : ℕ)
    (counted : count ≡ length rows) where
  abbrev new : Constraint
  new = row_in (row_from body)

  -- the questions are those of the number of rows that were counted
  of_rows : (a : Answer) → Judged (body_questions count body new) a → Judged (body_questions (length rows) body new) a
  of_rows a = subst (λ (n : ℕ). Judged (body_questions n body new) a) counted

  pub not_added : (n : ℕ) → Judged (body_questions count body new) (Refused n) → AddsTo table body size (AddAnswer.Refused n (length table))
  not_added n judged =
      row_wrong rows new n reads (row_stands {edition = 2} body all)
      (judged_first (body_questions (length rows) body new) ((16, length table + 2 + length body ≤ size) ∷ []) n (of_rows (Refused n) judged))

  pub no_room : Judged (body_questions count body new) Taken → size < length table + 2 + length body
      → AddsTo table body size (AddAnswer.Refused 16 (length table))
  no_room judged short =
      row_wrong rows new 16 reads (row_stands {edition = 2} body all)
      (judged_later (body_questions (length rows) body new) _ _ (of_rows Taken judged) (judged_no 16 _ _ (λ room. omega arith)))

  pub row_fits_in : Judged (body_questions count body new) Taken → length table + 2 + length body ≤ size
      → AddsTo table body size (AddAnswer.Added (length table + 2 + length body))
  row_fits_in judged room =
      let asked = judged_all 3 (length rows < row_limit) _ (of_rows Taken judged) in
      row_right rows new reads (row_stands {edition = 2} body all (judged_all 4 (ShapeFits 2 body) _ asked.1).0)
      (judged_later (body_questions (length rows) body new) _ _ (of_rows Taken judged) (judged_yes 16 _ _ _ room judged_none))

-- ---- the buffer

-- the part of a list up to a place, or all of it
pub part_within : (l : List ℕ) (n : ℕ) → take (min n (length l)) l ≡ take n l
part_within l n =
    by_cases (dec_lt n (length l))
    (λ less. let same : min n (length l) ≡ n = omega arith in ap (λ (k : ℕ). take k l) same)
    (λ more. let same : min n (length l) ≡ length l = omega arith in
    ap (λ (k : ℕ). take k l) same ∙ take_all (length l) l (omega arith) ∙ sym (take_all n l (omega arith)))

-- the edition is stored over the version byte, and the row behind the table
module _ (edition : ℕ) (row : List ℕ) where
  store_behind : (x : ℕ) (rest : List ℕ) (m : ℕ) → suc (length (take m rest)) + length row ≤ suc (length rest)
      → sets (edition ∷ rest) (suc (length (take m rest))) row
      ≡ (edition ∷ take m rest ++ row) ++ drop (suc (length (take m rest)) + length row) (x ∷ rest)
  store_behind x rest m room =
      let k = length (take m rest) in
      let part : take k rest ≡ take m rest = ap (λ (j : ℕ). take j rest) (length-take m rest) ∙ part_within rest m in
      sets-eq row (edition ∷ rest) (suc k) room
      ∙ rw (part, suc-add) refl

  pub stores_row : (before : List ℕ) (n : ℕ) → 0 < length (take n before) → length (take n before) + length row ≤ length before
      → sets (sets before 0 (edition ∷ [])) (length (take n before)) row
      ≡ (edition ∷ drop 1 (take n before) ++ row) ++ drop (length (take n before) + length row) before
  stores_row [] n some room = absurd (omega (arith, length-take {A = ℕ} n []))
  stores_row (x ∷ rest) zero some room = absurd (omega arith)
  stores_row (x ∷ rest) (suc m) some room = store_behind x rest m room

module _ (before : List ℕ) (size place : ℕ) (body : List ℕ) (is : place ≡ min size (length before)) where
  abbrev first : List ℕ
  first = take place before

  part : first ≡ take size before
  part = ap (λ (k : ℕ). take k before) is ∙ part_within before size

  pub adds_none : (number p : ℕ) → AddsTo first body (length before) (AddAnswer.Refused number p)
      → AddsRow before size body (AddAnswer.Refused number p) before
  adds_none number p adds =
      record {
        answer = subst (λ (t : List ℕ). AddsTo t body (length before) (AddAnswer.Refused number p)) part adds;
        buffer = refl;
        grown = λ n e. never (cc);
      }

  -- a table that is read has a version byte, and the buffer has room
  version_there : (rows : List Constraint) → ReadsTableUpTo 2 first (table_of rows) → 0 < length first
  version_there rows (version_taken version later) = version.0

  has_room : (n : ℕ) → AddsTo first body (length before) (AddAnswer.Added n)
      → (0 < length first) × (length first + 2 + length body ≤ length before) × (length first + 2 + length body ≡ n)
  has_room n (row_right rows c reads stands judged) = (
    version_there rows reads,
    (judged_all 16 (length first + 2 + length body ≤ length before) []
        (judged_parts (body_questions (length rows) body c) ((16, length first + 2 + length body ≤ length before) ∷ []) judged).1).0,
    refl,
  )

  -- the first n bytes are then the table with the row more
  all_first : Bytes before → Bytes first
  unfolding Bytes
  all_first all i h =
      let low : i < place = omega (arith, h, length-take place before) in
      let high : i < length before = omega (arith, h, length-take place before) in
      subst (λ (x : ℕ). x < 256) (sym (get_or-take place before i 0 low)) (all i high)

  read_back : (n : ℕ) (after : List ℕ) → Bytes before → take n after ≡ with_row first body → AddsTo first body (length before) (AddAnswer.Added n)
      → Grown before size body n after
  read_back n after all is_table (row_right rows c reads stands judged) =
      record {
        rows = rows;
        row = c;
        were = subst (λ (t : List ℕ). ReadsTableUpTo 2 t (table_of rows)) part reads;
        stands = stands;
        are = subst (λ (t : List ℕ). ReadsTableUpTo 2 t (table_of (rows ++ (c ∷ [])))) (sym is_table)
            (added_reads first body rows c reads stands (all_first all) (length first) (length before) judged);
      }

  pub adds_one : (n : ℕ) (after : List ℕ) → AddsTo first body (length before) (AddAnswer.Added n)
      → after ≡ sets (sets before 0 (edition_with (at before 0) (at body 0) ∷ [])) place (bytes_of 2 (length body) ++ body)
      → Bytes before → AddsRow before size body (AddAnswer.Added n) after
  adds_one n after adds stored all =
      let (some, room, count) = has_room n adds in
      let edition = edition_with (at before 0) (at body 0) in
      let row = bytes_of 2 (length body) ++ body in
      let long : length first ≡ place = length-take place before ∙ omega (arith, is) in
      let row_long : length row ≡ 2 + length body =
      length-append (bytes_of 2 (length body)) body ∙ ap (λ (k : ℕ). k + length body) (bytes_length 2 (length body)) in
      let end : length first + length row ≡ n = omega (arith, row_long, count) in
      let version : at before 0 ≡ at first 0 = sym (get_or-take place before 0 0 (omega (arith, some, long))) in
      let written : after ≡ with_row first body ++ drop n before =
      stored ∙ ap (λ (k : ℕ). sets (sets before 0 (edition ∷ [])) k row) (sym long)
      ∙ stores_row edition row before place some (omega (arith, row_long, room))
      ∙ ap₂ (λ (v : ℕ) (k : ℕ). (edition_with v (at body 0) ∷ drop 1 first ++ row) ++ drop k before) version end in
      let table_long : length (with_row first body) ≡ n =
      omega (arith, length-append (drop 1 first) row, length-drop 1 first, row_long, count, some) in
      let is_table : take n after ≡ with_row first body = ap (take n) written ∙ take_at (with_row first body) (drop n before) n table_long in
      record {
        answer = subst (λ (t : List ℕ). AddsTo t body (length before) (AddAnswer.Added n)) part adds;
        buffer = written ∙ ap (λ (t : List ℕ). with_row t body ++ drop n before) part;
        grown = λ m e. let same : n ≡ m = cc in subst (λ (k : ℕ). Grown before size body k after) same (read_back n after all is_table adds);
      }
