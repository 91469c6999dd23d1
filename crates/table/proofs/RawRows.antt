-- A row's first bytes, as many as its type has, are a body of fitting shape, so they stand for the row that is read from them; and where the
-- next row is a 33rd or of no known type, 3 and 4 are asked after the rows before it.
use Rattle.table.proofs.Names.{Bytes, Constraint, Judged, KnownAt, KnownRows, List, RawRows, Refused, RowTaken, ShapeFits, StandsFor, Taken}
use Rattle.table.proofs.Names.{TypeKnown, WriteAnswer, Writes, WritesRaw, [], ◌*◌, ◌++◌, ◌+◌, ◌-◌, ◌<◌, ◌∙◌, ◌∷◌, ◌≡◌, ◌≤◌, add-zero, all_read}
use Rattle.table.proofs.Names.{ap, ap₂, arith, at, body_length, bytes_part, drop, eqb, eqb-false, eqb-true, filler, get_or, get_or-drop, get_or-take}
use Rattle.table.proofs.Names.{judged_first, judged_later, judged_no, judged_yes, length, length-append, length-drop, length-take-le, length_of}
use Rattle.table.proofs.Names.{ltb, ltb-false, ltb-true, raw_body, raw_row, raw_rows, raw_size, refl, row_bytes_long, row_stands, row_body}
use Rattle.table.proofs.Names.{row_bytes}
use Rattle.table.proofs.Names.{row_limit, rows_then, rows_bytes, rows_questions, sets, split, stopped_at, stores_append, subst₂, suc, sym}
use Rattle.table.proofs.Names.{two_long}
use Rattle.table.proofs.Names.{count_of, stands_known, type_of, zero, ℕ}
use Rattle.table.proofs.Written.{written_refused}

-- Rows of known types

-- one more row that is taken
pub taken_more : (edition : ℕ) (bytes : List ℕ) (i : ℕ) → ((j : ℕ) → j < i → RowTaken edition bytes j) → RowTaken edition bytes i
    → (j : ℕ) → j < i + 1 → RowTaken edition bytes j
taken_more edition bytes i to here j below =
    split (eqb j i) (λ _. RowTaken edition bytes j) (λ e. rw (eqb-true j i e) here) (λ e. to j (omega (arith, eqb-false j i e)))

-- The body of a row of a known type

module _ (edition : ℕ) (bytes : List ℕ) (i : ℕ) (known : KnownAt edition bytes i) (whole : (i + 1) * raw_size ≤ length bytes) where
  abbrev start : ℕ
  start = i * raw_size

  abbrev size : ℕ
  size = length_of (at bytes start) (at bytes (start + 1))

  pub body_within : start + size ≤ length bytes
  body_within = omega (arith, known.1)

  pub body_is : length (raw_body bytes i) ≡ size
  body_is = length-take-le size (drop start bytes) (omega (arith, length-drop start bytes, body_within))

  byte_there : (j : ℕ) → j < size → at (raw_body bytes i) j ≡ at bytes (start + j)
  byte_there j less = rw (get_or-take size (drop start bytes) j 0 less, get_or-drop start bytes j 0)

  two : 2 ≤ size
  two = two_long edition (at bytes start) (at bytes (start + 1)) known.0

  first : at (raw_body bytes i) 0 ≡ at bytes start
  first = byte_there 0 (omega (arith, two)) ∙ ap (at bytes) (add-zero start)

  second : at (raw_body bytes i) 1 ≡ at bytes (start + 1)
  second = byte_there 1 (omega (arith, two))

  fits : ShapeFits edition (raw_body bytes i)
  fits =
      record {
        type_there = omega (arith, body_is, two);
        known = subst₂ (TypeKnown edition) (sym first) (sym second) known.0;
        length_right = body_is ∙ sym (ap₂ length_of first second);
      }

  -- the row that is read from it is the one that it stands for
  pub raw_stands : Bytes bytes → StandsFor (raw_body bytes i) (raw_row bytes i)
  raw_stands each = row_stands {edition = edition} (raw_body bytes i) (bytes_part bytes size start each) fits

  -- and is of a known type
  pub raw_known : Bytes bytes → TypeKnown edition (type_of (raw_row bytes i)) (count_of (raw_row bytes i))
  raw_known each = stands_known (raw_body bytes i) (raw_row bytes i) fits (raw_stands each)

  -- so its bytes are those of the row
  pub raw_bytes : Bytes bytes → row_body (raw_row bytes i) ≡ raw_body bytes i
  raw_bytes each = (raw_stands each).bytes

  pub raw_length : Bytes bytes → length (row_body (raw_row bytes i)) ≡ size
  raw_length each = ap length (raw_bytes each) ∙ body_is

-- The rows one after the other

-- the first of the rows that are left
pub rows_left : (bytes : List ℕ) (i n : ℕ) → i < n → raw_rows bytes i (n - i) ≡ raw_row bytes i ∷ raw_rows bytes (i + 1) (n - (i + 1))
unfolding raw_rows
rows_left bytes i n less = let more : n - i ≡ suc (n - (i + 1)) = omega arith in ap (raw_rows bytes i) more

pub rows_all : (bytes : List ℕ) (n : ℕ) → raw_rows bytes 0 (n - 0) ≡ raw_rows bytes 0 n
rows_all bytes n = let all : n - 0 ≡ n = omega arith in ap (raw_rows bytes 0) all

pub rows_end : (bytes : List ℕ) (i n : ℕ) → n ≤ i → raw_rows bytes i (n - i) ≡ []
unfolding raw_rows
rows_end bytes i n past = let none : n - i ≡ 0 = omega arith in ap (raw_rows bytes i) none

rows_counted : (bytes : List ℕ) (i n : ℕ) → length (raw_rows bytes i n) ≡ n
unfolding raw_rows
rows_counted bytes i zero = refl
rows_counted bytes i (suc n) = ap suc (rows_counted bytes (i + 1) n)

row_here : (bytes : List ℕ) (i n j : ℕ) → j < n → get_or (raw_rows bytes i n) j filler ≡ raw_row bytes (i + j)
unfolding raw_rows
row_here bytes i zero j less = absurd (omega arith)
row_here bytes i (suc n) zero less = rw add-zero
row_here bytes i (suc n) (suc j) less =
    row_here bytes (i + 1) n j (omega arith) ∙ ap (λ (k : ℕ). raw_row bytes k) (omega arith)

pub raw_rows_lem : (edition : ℕ) (bytes : List ℕ) (n : ℕ) → Bytes bytes → KnownRows edition bytes n → RawRows bytes (raw_rows bytes 0 n)
raw_rows_lem edition bytes n each known =
    let counted = rows_counted bytes 0 n in
    record {
      whole = omega (arith, counted, known.whole);
      fit = λ i below. (known.known i (omega (arith, below, counted))).1;
      stand = λ i below.
          let less : i < n = omega (arith, below, counted) in
          let here : get_or (raw_rows bytes 0 n) i filler ≡ raw_row bytes i =
          row_here bytes 0 n i less ∙ ap (λ (k : ℕ). raw_row bytes k) (omega arith) in
          rw here (raw_stands edition bytes i (known.known i less) (omega (arith, known.whole)) each);
    }

-- the bytes of the rows that are left: those of the first, and the others
module _ (edition : ℕ) (bytes : List ℕ) (i n : ℕ) (each : Bytes bytes) (known : KnownRows edition bytes n) (less : i < n) where
  left_bytes : rows_bytes (raw_rows bytes i (n - i)) ≡ row_bytes (raw_row bytes i) ++ rows_bytes (raw_rows bytes (i + 1) (n - (i + 1)))
  unfolding rows_bytes
  left_bytes = ap rows_bytes (rows_left bytes i n less)

  long : length (row_bytes (raw_row bytes i)) ≡ 2 + body_length bytes i
  long = row_bytes_long _ ∙ ap (λ (k : ℕ). 2 + k) (raw_length edition bytes i (known.known i less) (omega (arith, known.whole)) each)

  pub left_size : length (rows_bytes (raw_rows bytes i (n - i)))
      ≡ 2 + body_length bytes i + length (rows_bytes (raw_rows bytes (i + 1) (n - (i + 1))))
  left_size = ap length left_bytes ∙ length-append (row_bytes (raw_row bytes i)) _ ∙ omega (arith, long)

  pub left_stored : (buffer : List ℕ) (place : ℕ) → sets buffer place (rows_bytes (raw_rows bytes i (n - i)))
      ≡ sets (sets buffer place (row_bytes (raw_row bytes i))) (place + 2 + body_length bytes i)
      (rows_bytes (raw_rows bytes (i + 1) (n - (i + 1))))
  left_stored buffer place =
      ap (sets buffer place) left_bytes
      ∙ stores_append buffer place (row_bytes (raw_row bytes i)) _
      ∙ ap (λ (k : ℕ). sets (sets buffer place (row_bytes (raw_row bytes i))) k
      (rows_bytes (raw_rows bytes (i + 1) (n - (i + 1))))) (omega (arith, long))

-- The answer

-- a row is refused: the questions of the rows end there, whether more rows stand behind the known ones or not
pub known_refused : (edition : ℕ) (bytes before : List ℕ) (n number : ℕ) → Bytes bytes → KnownRows edition bytes n
    → Judged (rows_questions edition 0 (raw_rows bytes 0 n) []) (Refused number) → WritesRaw edition bytes before (WriteAnswer.Refused number) before
known_refused edition bytes before n number each known judged =
    let rows = raw_rows bytes 0 n in let raw = raw_rows_lem edition bytes n each known in let counted = rows_counted bytes 0 n in
    split (ltb (length bytes) ((n + 1) * raw_size)) (λ _. WritesRaw edition bytes before (WriteAnswer.Refused number) before)
    (λ e. all_read rows raw (rw counted (ltb-true (length bytes) ((n + 1) * raw_size) e)) (written_refused edition rows before number judged))
    (λ e. stopped_at rows number raw (rw counted (ltb-false (length bytes) ((n + 1) * raw_size) e))
    (rw (rows_then edition) (judged_first (rows_questions edition 0 rows []) _ number judged)))

-- all the rows are known
pub all_written : (edition : ℕ) (bytes before after : List ℕ) (n : ℕ) (r : WriteAnswer) → Bytes bytes → KnownRows edition bytes n
    → length bytes < (n + 1) * raw_size → Writes edition (raw_rows bytes 0 n) before r after → WritesRaw edition bytes before r after
all_written edition bytes before after n r each known past writes =
    all_read (raw_rows bytes 0 n) (raw_rows_lem edition bytes n each known) (rw (rows_counted bytes 0 n) past) writes

module _ (edition : ℕ) (bytes before : List ℕ) (n : ℕ) (each : Bytes bytes) (known : KnownRows edition bytes n)
    (more : (n + 1) * raw_size ≤ length bytes) where
  abbrev rows : List Constraint
  rows = raw_rows bytes 0 n

  counted : length rows ≡ n
  counted = rows_counted bytes 0 n

  -- the rows before it are taken
  pub unknown_refused : n < row_limit → ¬ KnownAt edition bytes n → Judged (rows_questions edition 0 rows []) Taken
      → WritesRaw edition bytes before (WriteAnswer.Refused 4) before
  unknown_refused room not_known judged =
      stopped_at rows 4 (raw_rows_lem edition bytes n each known) (rw counted more)
      (rw (rows_then edition) (judged_later (rows_questions edition 0 rows []) _ (Refused 4) judged
      (judged_yes 3 _ _ (Refused 4) (omega (arith, counted)) (judged_no 4 _ [] (rw counted not_known)))))

  pub full_refused : row_limit ≤ n → Judged (rows_questions edition 0 rows []) Taken
      → WritesRaw edition bytes before (WriteAnswer.Refused 3) before
  full_refused full judged =
      stopped_at rows 3 (raw_rows_lem edition bytes n each known) (rw counted more)
      (rw (rows_then edition) (judged_later (rows_questions edition 0 rows []) _ (Refused 3) judged
      (judged_no 3 _ _ (λ less. omega (arith, counted)))))
