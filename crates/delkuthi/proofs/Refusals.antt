-- A refusal of the table writer has a number from 1 to 127, as each of its questions has; and a table that is written is short.
use Rattle.delkuthi.proofs.Names.{Constraint, FirstRefused, Judged, List, MakesTableIn, Question, Refused, Taken, WriteAnswer, Writes}
use Rattle.delkuthi.proofs.Names.{WritesRaw, [], ◌*◌, ◌+◌, ◌<◌, ◌∷◌, ◌≡◌, ◌≤◌, all_read, answer_in, arith, at, judged_all, judged_parts}
use Rattle.delkuthi.proofs.Names.{known_short, length}
use Rattle.delkuthi.proofs.Names.{length-append, never, refl, row_bytes_long, row_body, row_bytes, row_questions_in, rows_room, rows_then}
use Rattle.delkuthi.proofs.Names.{rows_bytes, rows_questions, stopped_at}
use Rattle.delkuthi.proofs.Names.{subst, table_bytes_in, table_number, write-back, writer_questions, ℕ}
use Rattle.delkuthi.proofs.RecordNumbers.{Short, number_short, rows_short, short?}

writer_number : {edition : ℕ} (rows : List Constraint) (before after : List ℕ) (r : WriteAnswer) (n : ℕ) → r ≡ WriteAnswer.Refused n
    → Writes edition rows before r after
    → Short n
unfolding short?
writer_number {edition} rows before after r n e writes =
    number_short (writer_questions edition rows before) n (rows_short edition 0 rows _ refl)
    (subst (λ (w : WriteAnswer). Judged (writer_questions edition rows before) (answer_in w)) e writes.judged)

pub raw_number : {edition : ℕ} (bytes before after : List ℕ) (r : WriteAnswer) (n : ℕ) → r ≡ WriteAnswer.Refused n
    → WritesRaw edition bytes before r after → Short n
unfolding short?
raw_number bytes before after r n e (all_read rows raw past writes) = writer_number rows before _ _ n e writes
raw_number {edition} bytes before after r n e (stopped_at rows m raw more judged) =
    let same : m ≡ n = cc in
    subst Short same (number_short _ m (rows_short edition 0 rows _ refl) judged)

-- a row that is accepted is short
body_short : (edition : ℕ) (c : Constraint) → Judged (row_questions_in edition c) Taken → length (row_body c) ≤ 162
body_short edition c judged =
    let fits = (write-back edition c judged).shape_fits in
    omega (arith, fits.length_right, known_short edition (at (row_body c) 0) (at (row_body c) 1) fits.known)

rows_length : (edition i : ℕ) (rows : List Constraint) → Judged (rows_questions edition i rows []) Taken
    → length (rows_bytes rows) ≤ 164 * length rows
unfolding rows_bytes rows_questions
rows_length edition i [] judged = omega arith
rows_length edition i (c ∷ rows) judged =
    let parts = judged_parts (row_questions_in edition c) (rows_questions edition (i + 1) rows []) (judged_all 3 _ _ judged).1 in
    omega (
      arith,
      length-append (row_bytes c) (rows_bytes rows),
      row_bytes_long c,
      body_short edition c parts.0,
      rows_length edition (i + 1) rows parts.1,
    )

table_short : (edition : ℕ) (rows : List Constraint) → Judged (rows_questions edition 0 rows []) Taken
    → length (table_bytes_in edition rows) ≤ 1 + 164 * length rows
unfolding table_bytes_in
table_short edition rows judged = omega (arith, rows_length edition 0 rows judged)

writer_short : {edition : ℕ} (rows : List Constraint) (before after : List ℕ) (r : WriteAnswer) (n : ℕ) → r ≡ WriteAnswer.Written n
    → Writes edition rows before r after
    → n ≤ 5249
writer_short {edition} rows before after r n e writes =
    let judged = subst (λ (w : WriteAnswer). Judged (writer_questions edition rows before) (answer_in w)) e writes.judged in
    let parts = judged_parts (rows_questions edition 0 rows []) _
    (subst (λ (qs : List Question). Judged qs Taken) (rows_then edition 0 rows _) judged) in
    omega (arith, rows_room edition 0 rows (omega arith) parts.0, table_short edition rows parts.0, writes.counted n e)

pub raw_short : {edition : ℕ} (bytes before after : List ℕ) (r : WriteAnswer) (n : ℕ) → r ≡ WriteAnswer.Written n
    → WritesRaw edition bytes before r after → n ≤ 5249
raw_short bytes before after r n e (all_read rows raw past writes) = writer_short rows before _ _ n e writes
raw_short bytes before after r n e (stopped_at rows m raw more judged) = never (cc)

-- what the writer for a host promises
pub makes_written : {edition : ℕ} (bytes before after : List ℕ) (r : WriteAnswer) (n : ℕ) → r ≡ WriteAnswer.Written n
    → WritesRaw edition bytes before r after
    → MakesTableIn edition bytes before (n * 256) after
makes_written {edition} bytes before after r n e writes =
    record {
      answer = WriteAnswer.Written n;
      writes = subst (λ (w : WriteAnswer). WritesRaw edition bytes before w after) e writes;
      row = 0;
      of_row = λ m refused. never (cc);
      equals = refl;
      small = λ m refused. never (cc);
    }

pub makes_refused : {edition : ℕ} (bytes before after : List ℕ) (r : WriteAnswer) (n row number : ℕ) → n < 256 → r ≡ WriteAnswer.Refused n
    → WritesRaw edition bytes before r after → FirstRefused edition bytes row → number ≡ table_number (WriteAnswer.Refused n) row
    → MakesTableIn edition bytes before number after
makes_refused {edition} bytes before after r n row number small e writes first is =
    record {
      answer = WriteAnswer.Refused n;
      writes = subst (λ (w : WriteAnswer). WritesRaw edition bytes before w after) e writes;
      row = row;
      of_row = λ m refused. first;
      equals = is;
      small = λ m refused. let same : n ≡ m = cc in (omega (arith, same, (raw_number bytes before after r n e writes).0), omega (arith, same, small));
    }
