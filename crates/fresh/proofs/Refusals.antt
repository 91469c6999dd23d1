-- The refusal of a table has a number above 0 and a place close to the start: each of the rows before it, at most 32, has at most 164 bytes.
use Rattle.fresh.proofs.Names.{Constraint, Judged, List, Question, ReadsRows, ReadsTableUpTo, Refused, ShapeFits, TableRead, Taken, [], ◌*◌}
use Rattle.fresh.proofs.Names.{◌+◌, ◌-◌, ◌<◌, ◌∷◌, ◌≡◌, ◌≤◌, arith, at, body_at, drop, inl, inr, known_short, length, length-drop}
use Rattle.fresh.proofs.Names.{length-take-le, length_at, never, no_more, place_taken, place_questions, row_refused, row_taken, row_limit}
use Rattle.fresh.proofs.Names.{row_then, table_of, table_refused, version_refused, version_taken, ℕ}

-- a body of fitting shape is short
shape_short : (edition : ℕ) (body : List ℕ) → ShapeFits edition body → length body ≤ 162
shape_short edition body fits = rw fits.length_right (known_short edition (at body 0) (at body 1) fits.known)

-- a row that is taken has at most 164 bytes
row_short : (edition : ℕ) (bytes : List ℕ) (i place : ℕ) (c : Constraint) → Judged (place_questions edition bytes i place c) Taken
    → (i < row_limit) × (length_at bytes place ≤ 162)
row_short edition bytes i place c judged =
    let taken = place_taken edition bytes i place c judged in
    let body = length-take-le (length_at bytes place) (drop (place + 2) bytes) (omega (arith, length-drop (place + 2) bytes)) in
    (taken.room, omega (arith, shape_short edition (body_at bytes place) taken.shape))

-- questions with numbers above 0 refuse with such a number
unfoldable pub AllAbove : List Question → Type 0
AllAbove [] = Unit {0}
AllAbove (q ∷ later) = (0 < q.0) × AllAbove later

pub number_above : (questions : List Question) (n : ℕ) → AllAbove questions → Judged questions (Refused n) → 0 < n
unfolding AllAbove Judged
number_above [] n above e = never (cc)
number_above (q ∷ later) n above (inl h) = number_above later n above.1 h.1
number_above (q ∷ later) n above (inr h) = let same : n ≡ q.0 = cc h.1 in omega (arith, above.0)

row_number : (edition : ℕ) (bytes : List ℕ) (i place n : ℕ) (c : Constraint) → Judged (place_questions edition bytes i place c) (Refused n) → 0 < n
unfolding place_questions AllAbove
row_number edition bytes i place n c judged =
    number_above (place_questions edition bytes i place c) n
    (omega arith, (omega arith, (omega arith, (omega arith, (omega arith, (omega arith, (omega arith, tt))))))) judged

-- what is read from a place on, with i rows before: the end of the bytes is close, or the place of the refusal is
abbrev SmallBehind : List ℕ → ℕ → ℕ → TableRead → Type 0
SmallBehind bytes i start (table_of rows) = length bytes ≤ start + 164 * (row_limit - i)
SmallBehind bytes i start (table_refused n place) = (0 < n) × (place ≤ start + 164 * (row_limit - i))

small_more : (bytes : List ℕ) (i start size : ℕ) (c : Constraint) (later : TableRead) → i < row_limit → size ≤ 162
    → SmallBehind bytes (i + 1) (start + 2 + size) later → SmallBehind bytes i start (row_then c later)
small_more bytes i start size c (table_of rows) room short small = omega (arith, small)
small_more bytes i start size c (table_refused n place) room short small = (small.0, omega (arith, small.1))

rows_small : {edition : ℕ} (bytes : List ℕ) {i start : ℕ} {read : TableRead} → ReadsRows edition bytes i start read
    → SmallBehind bytes i start read
rows_small bytes (no_more end) = omega (arith, end)
rows_small {edition} bytes (row_refused {i} {place} n c there at_c judged) = (row_number edition bytes i place n c judged, omega arith)
rows_small {edition} bytes (row_taken {i} {place} {later} c there at_c judged reads) =
    let short = row_short edition bytes i place c judged in
    small_more bytes i place (length_at bytes place) c later short.0 short.1 (rows_small bytes reads)

pub refused_small : {newest : ℕ} (bytes : List ℕ) (n place : ℕ) → ReadsTableUpTo newest bytes (table_refused n place) → (0 < n) × (place ≤ 5249)
refused_small bytes n place (version_refused one) = (omega arith, omega arith)
refused_small bytes n place (version_taken one reads) = rows_small bytes reads

-- and bytes that are read as a table are short
pub accepted_small : {newest : ℕ} (bytes : List ℕ) (rows : List Constraint) → ReadsTableUpTo newest bytes (table_of rows) → length bytes ≤ 5249
accepted_small bytes rows (version_taken one reads) = rows_small bytes reads
