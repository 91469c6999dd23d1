-- §4.9 and §4.10 of the functions: what `read` accepted `write` writes back to the same bytes, and what `write` has written `read` reads back
-- to the same rows.
use Rattle.constraint.specs.declared.RefusedAt.{RefusedAt}
use Rattle.std.specs.Prelude.{Result, Ok, Err}
use Rattle.table.proofs.Names.{AcceptedIn, Bytes, Constraint, Judged, List, Question, RawRows, ReadsInto, ReadsTableUpTo}
use Rattle.table.proofs.Names.{Refused, Table, Taken, WriteAnswer, Writes, WritesRaw, [], ◌*◌, ◌++◌, ◌+◌, ◌<◌, ◌∙◌, ◌∷◌, ◌≡◌, ◌≤◌, all_read}
use Rattle.table.proofs.Names.{ap, arith, at, drop, judged_later, judged_none, judged_once, judged_parts, judged_yes, last_type, length, never}
use Rattle.table.proofs.Names.{raw_size, read_of, refl, rows_then, rows_of, rows_questions, stopped_at, subst, sym, table_of, table_bytes_in, take}
use Rattle.table.proofs.Names.{take-append_seam, writer_questions, ℕ}
use Rattle.table.proofs.{AcceptedRows.read_accepted, ReadUnique.reads_once, RoundTrip.read_then_write}
use Rattle.table.proofs.{RoundTrip.write_then_read}

-- accepted rows, and room for them
room : (edition : ℕ) (rows : List Constraint) (before : List ℕ) → AcceptedIn edition rows → length (table_bytes_in edition rows) ≤ length before
    → Judged (writer_questions edition rows before) Taken
room edition rows before accepted h =
    subst (λ (qs : List Question). Judged qs Taken) (sym (rows_then edition 0 rows ((16, length (table_bytes_in edition rows) ≤ length before) ∷ [])))
    (judged_later (rows_questions edition 0 rows []) ((16, length (table_bytes_in edition rows) ≤ length before) ∷ []) Taken accepted
    (judged_yes 16 _ [] Taken h judged_none))

-- read, then written to a buffer that is long enough: the same bytes, and those behind them stay
pub rows_write : {newest : ℕ} (bytes before after : List ℕ) (rows : List Constraint) (w : WriteAnswer) → Bytes bytes
    → ReadsTableUpTo newest bytes (table_of rows) → length bytes ≤ length before → Writes (at bytes 0) rows before w after
    → (w ≡ WriteAnswer.Written (length bytes)) × (after ≡ bytes ++ drop (length bytes) before)
rows_write bytes before after rows w all reads long writes = go w writes
  where
    same : table_bytes_in (at bytes 0) rows ≡ bytes
    same = read_then_write bytes rows all reads

    taken : Judged (writer_questions (at bytes 0) rows before) Taken
    taken = room (at bytes 0) rows before (read_accepted bytes rows reads) (omega (arith, ap length same))

    go : (w : WriteAnswer) → Writes (at bytes 0) rows before w after
        → (w ≡ WriteAnswer.Written (length bytes)) × (after ≡ bytes ++ drop (length bytes) before)
    go (WriteAnswer.Written n) writes = (
      ap WriteAnswer.Written (writes.counted n refl ∙ ap length same),
      writes.buffer
          ∙ ap (λ (list : List ℕ). list ++ drop (length list) before) same,
    )
    go (WriteAnswer.Refused n) writes =
        let no = judged_once (writer_questions (at bytes 0) rows before) Taken (Refused n) taken writes.judged in never (cc)

-- §4.9: of a table record
pub read_write : {newest : ℕ} (bytes before after : List ℕ) (table : Table) (w : WriteAnswer) → Bytes bytes → ReadsInto newest bytes (Ok table)
    → length bytes ≤ length before → Writes (at bytes 0) (rows_of table) before w after
    → (w ≡ WriteAnswer.Written (length bytes)) × (after ≡ bytes ++ drop (length bytes) before)
read_write bytes before after table w all into long writes = rows_write bytes before after (rows_of table) w all into long writes

-- written in an edition that the reader takes, then read: the bytes say the same rows
module _ (newest edition : ℕ) (some : 0 < last_type edition) (known : edition ≤ newest) where
  pub written_read : (rows : List Constraint) (before after : List ℕ) (n : ℕ) → Writes edition rows before (WriteAnswer.Written n) after
      → ReadsTableUpTo newest (take n after) (table_of rows)
  written_read rows before after n writes =
      subst (λ (list : List ℕ). ReadsTableUpTo newest list (table_of rows)) (sym bytes) (write_then_read newest edition rows some known accepted)
    where
      bytes : take n after ≡ table_bytes_in edition rows
      bytes =
          subst (λ (m : ℕ). take m after ≡ table_bytes_in edition rows) (sym (writes.counted n refl))
          (ap (take (length (table_bytes_in edition rows))) writes.buffer
          ∙ take-append_seam (table_bytes_in edition rows) (drop (length (table_bytes_in edition rows)) before))

      accepted : AcceptedIn edition rows
      accepted =
          (judged_parts (rows_questions edition 0 rows []) ((16, length (table_bytes_in edition rows) ≤ length before) ∷ [])
          (subst (λ (qs : List Question). Judged qs Taken)
          (rows_then edition 0 rows ((16, length (table_bytes_in edition rows) ≤ length before) ∷ [])) writes.judged)).0

  -- §4.10: of a table record: the record's rows
  pub write_read : (table : Table) (before after : List ℕ) (n : ℕ) (r : Result Table RefusedAt)
      → Writes edition (rows_of table) before (WriteAnswer.Written n) after → ReadsInto newest (take n after) r
      → (again : Table) × (r ≡ Ok again) × (rows_of again ≡ rows_of table)
  write_read table before after n r writes into = go r (reads_once (take n after) into (written_read (rows_of table) before after n writes))
    where
      go : (r : Result Table RefusedAt) → read_of r ≡ table_of (rows_of table) → (again : Table) × (r ≡ Ok again) × (rows_of again ≡ rows_of table)
      go (Ok again) same = (again, refl, rows_same same)
        where
          rows_same : table_of (rows_of again) ≡ table_of (rows_of table) → rows_of again ≡ rows_of table
          rows_same p = cc
      go (Err refused) same = never (cc)

  -- what raw bytes are written as: the rows that their bodies stand for, one for each whole stretch of 34 bytes
  abbrev RawRead : List ℕ → List ℕ → Type 0
  RawRead bytes table =
      (rows : List Constraint) × RawRows bytes rows × (length bytes < (length rows + 1) * raw_size) × ReadsTableUpTo newest table (table_of rows)

  -- §4.10
  pub raw_read : (bytes before after : List ℕ) (n : ℕ) → WritesRaw edition bytes before (WriteAnswer.Written n) after → RawRead bytes (take n after)
  raw_read bytes before after n writes = go refl writes
    where
      go : {r : WriteAnswer} {list : List ℕ} → r ≡ WriteAnswer.Written n → WritesRaw edition bytes before r list → RawRead bytes (take n list)
      go {list = list} e (all_read rows raw past written) =
          (rows, raw, past, written_read rows before list n (subst (λ (w : WriteAnswer). Writes edition rows before w list) e written))
      go e (stopped_at rows m raw more judged) = never (cc)
