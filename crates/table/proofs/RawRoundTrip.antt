-- Rows as raw bytes are the rows that their bodies stand for, and a body stands for one row: so an accepted table whose rows are given as raw
-- bytes is written as the table that it was.
use Rattle.table.proofs.Names.{AcceptedIn, Bytes, Constraint, Judged, KnownAt, List, Question, RawRows, ReadBack, ReadsTableUpTo, Refused}
use Rattle.table.proofs.Names.{ShapeFits, StandsFor, Taken, TypeKnown, WriteAnswer, Writes, WritesRaw, [], ◌*◌, ◌++◌, ◌+◌, ◌<◌, ◌∙◌, ◌∷◌, ◌≡◌}
use Rattle.table.proofs.Names.{◌≤◌, add-zero, all_read, ap, arith, at, drop, ext_get_or, filler, get_or, get_or-drop, get_or-take, judged_later}
use Rattle.table.proofs.Names.{judged_none, judged_once, judged_parts, judged_yes, length, length-take, length-take-le, length_of, never}
use Rattle.table.proofs.Names.{raw_body}
use Rattle.table.proofs.Names.{raw_size, row_accepted, row_limit, row_questions_in, rows_room, rows_then, rows_questions, stands_once, stopped_at}
use Rattle.table.proofs.Names.{subst, subst₂, sym, table_of, take, take_all, take-append-drop, two_long, write-back, ℕ}
use Rattle.table.proofs.{AcceptedRows.read_accepted, RoundTripCode.rows_write, Scanning.row_there}

-- ---- the rows of some raw bytes

-- a row of an accepted table is read back
accepted_back : (edition : ℕ) (rows : List Constraint) → AcceptedIn edition rows → (i : ℕ) → i < length rows → ReadBack edition (get_or rows i filler)
accepted_back edition rows accepted i there = write-back edition _ (row_accepted edition 0 rows accepted i _ (row_there rows i filler there))

-- so a body that stands for it has a fitting shape
raw_fits : (edition : ℕ) (bytes : List ℕ) (i : ℕ) (c : Constraint) → ReadBack edition c → StandsFor (raw_body bytes i) c
    → ShapeFits edition (raw_body bytes i)
raw_fits edition bytes i c back stands = subst (ShapeFits edition) stands.bytes back.shape_fits

-- two lists of rows that bytes begin with begin alike
pub raw_once : (edition : ℕ) (bytes : List ℕ) (rows others : List Constraint) → AcceptedIn edition others → RawRows bytes rows → RawRows bytes others
    → length rows ≤ length others → rows ≡ take (length rows) others
raw_once edition bytes rows others accepted one two short =
    let long : length (take (length rows) others) ≡ length rows = length-take-le (length rows) others short in
    ext_get_or filler rows (take (length rows) others) (sym long)
    (λ i h.
    let less : i < length others = omega arith in
    let fits = raw_fits edition bytes i (get_or others i filler) (accepted_back edition others accepted i less) (two.stand i less) in
    stands_once (raw_body bytes i) fits _ _ (one.stand i h) (two.stand i less) ∙ sym (get_or-take (length rows) others i filler h))

-- ---- rows before others

rows_append : (edition i : ℕ) (rows others : List Constraint)
    → rows_questions edition i (rows ++ others) [] ≡ rows_questions edition i rows [] ++ rows_questions edition (i + length rows) others []
unfolding rows_questions
rows_append edition i [] others = ap (λ (n : ℕ). rows_questions edition n others []) (sym (add-zero i))
rows_append edition i (c ∷ rows) others =
    let next : i + 1 + length rows ≡ i + length (c ∷ rows) = omega arith in
    ap (λ (l : List Question). (3, i < row_limit) ∷ row_questions_in edition c ++ l)
    (rows_append edition (i + 1) rows others ∙ ap (λ (n : ℕ). rows_questions edition (i + 1) rows [] ++ rows_questions edition n others []) next)

first_accepted : (edition : ℕ) (rows : List Constraint) (n : ℕ) → AcceptedIn edition rows → AcceptedIn edition (take n rows)
first_accepted edition rows n accepted =
    let parts = ap (λ (l : List Constraint). rows_questions edition 0 l []) (sym (take-append-drop n rows)) ∙ rows_append edition 0 (take n rows)
    (drop n rows) in
    (judged_parts (rows_questions edition 0 (take n rows) []) _ (subst (λ (qs : List Question). Judged qs Taken) parts accepted)).0

-- ---- the table of rows given as raw bytes

module _ (edition : ℕ) (raw : List ℕ) (i : ℕ) (fits : ShapeFits edition (raw_body raw i)) where
  byte_there : (j : ℕ) → j < length (raw_body raw i) → at (raw_body raw i) j ≡ at raw (i * raw_size + j)
  byte_there j less =
      let size = length_of (at raw (i * raw_size)) (at raw (i * raw_size + 1)) in
      get_or-take size (drop (i * raw_size) raw) j 0 (omega (arith, length-take size (drop (i * raw_size) raw))) ∙ get_or-drop (i * raw_size) raw j 0

  pub shape_known : TypeKnown edition (at raw (i * raw_size)) (at raw (i * raw_size + 1))
  shape_known =
      let two : 2 ≤ length (raw_body raw i) =
      omega (arith, fits.length_right, two_long edition (at (raw_body raw i) 0) (at (raw_body raw i) 1) fits.known) in
      subst₂ (TypeKnown edition) (byte_there 0 (omega (arith, two)) ∙ ap (at raw) (add-zero (i * raw_size))) (byte_there 1 (omega (arith, two)))
      fits.known

module _ {newest : ℕ} (raw bytes before : List ℕ) (rows : List Constraint) (each : Bytes bytes)
    (reads : ReadsTableUpTo newest bytes (table_of rows)) (given : RawRows raw rows) (end : length raw < (length rows + 1) * raw_size)
    (long : length bytes ≤ length before) where
  -- §4.9
  pub raw_write : {w : WriteAnswer} {after : List ℕ} → WritesRaw (at bytes 0) raw before w after
      → (w ≡ WriteAnswer.Written (length bytes)) × (after ≡ bytes ++ drop (length bytes) before)
  raw_write {w = w} {after = after} (all_read others read past writes) =
      let count : length others ≡ length rows = omega (arith, read.whole, given.whole) in
      let same : others ≡ rows =
      raw_once (at bytes 0) raw others rows (read_accepted bytes rows reads) read given (omega arith) ∙ ap (λ
      (n : ℕ). take n rows) count ∙ take_all (length rows) rows (omega arith) in
      rows_write bytes before after rows w each reads long (subst (λ (l : List Constraint). Writes (at bytes 0) l before w after) same writes)
  raw_write (stopped_at others n read more judged) =
      let fewer : length others < length rows = omega arith in
      let accepted = read_accepted bytes rows reads in
      let few : 0 + length rows ≤ row_limit = rows_room (at bytes 0) 0 rows (omega arith) accepted in
      let same : others ≡ take (length others) rows = raw_once (at bytes 0) raw others rows (read_accepted bytes rows reads) read given
      (omega arith) in
      let edition = at bytes 0 in
      let taken = subst (AcceptedIn edition) (sym same) (first_accepted edition rows (length others) accepted) in
      let back = accepted_back edition rows accepted (length others) fewer in
      let fits = raw_fits edition raw (length others) _ back (given.stand (length others) fewer) in
      let known : KnownAt edition raw (length others) = (shape_known edition raw (length others) fits, given.fit (length others) fewer) in
      let all : Judged (rows_questions edition 0 others ((3, length others < row_limit) ∷ (4, KnownAt edition raw (length others)) ∷ [])) Taken =
      rw (rows_then edition) (judged_later (rows_questions edition 0 others []) _ Taken taken
      (judged_yes 3 _ _ Taken (omega arith) (judged_yes 4 _ _ Taken known judged_none))) in
      let no = judged_once _ Taken (Refused n) all judged in
      never (cc)
