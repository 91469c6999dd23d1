-- §4.9 and §4.10 of the exported writer: a number that is a length answers a table that was written, and reading it gives the rows that the raw
-- bytes stand for; and raw bytes that stand for the rows of an accepted table are written as that table.
use Rattle.delkuthi.proofs.Names.{Bytes, Constraint, List, MakesTableIn, RawRows, ReadsTableUpTo, WriteAnswer, WritesRaw, ◌*◌, ◌++◌, ◌+◌, ◌<◌}
use Rattle.delkuthi.proofs.Names.{◌∙◌, ◌≡◌, ◌≤◌, ap, arith, at, cond, drop, eqb, last_type, length, raw_read, raw_write, raw_size, refl, split}
use Rattle.delkuthi.proofs.Names.{subst, sym, table_of, table_number, take, ℕ}

-- the number of a refusal is no length
no_length : (k row n : ℕ) → 0 < k → k < 256 → n * 256 ≡ table_number (WriteAnswer.Refused k) row → ⊥
no_length k row n above below = split (eqb k 16) (λ b. n * 256 ≡ cond b 16 (row * 256 + k) → ⊥) (λ _ same. omega arith) (λ _ same. omega arith)

-- what a table of an edition that was written says to a call that takes the edition
abbrev ReadsBack : ℕ → List ℕ → List ℕ → Type 0
ReadsBack newest bytes table =
    (rows : List Constraint) × RawRows bytes rows × (length bytes < (length rows + 1) * raw_size) × ReadsTableUpTo newest table (table_of rows)

-- §4.10
pub table_reads_back : (newest edition : ℕ) → 0 < last_type edition → edition ≤ newest → (bytes before after : List ℕ) (number n : ℕ)
    → MakesTableIn edition bytes before number after → number ≡ n * 256 → ReadsBack newest bytes (take n after)
table_reads_back newest edition some known bytes before after number n makes e =
    go makes.answer makes.writes (sym e ∙ makes.equals) makes.small
  where
    go : (answer : WriteAnswer) → WritesRaw edition bytes before answer after → n * 256 ≡ table_number answer makes.row
        → ((m : ℕ) → answer ≡ WriteAnswer.Refused m → (0 < m) × (m < 256)) → ReadsBack newest bytes (take n after)
    go (WriteAnswer.Written k) writes same small =
        let long : k ≡ n = omega arith in
        raw_read newest edition some known bytes before after n
        (subst (λ (m : ℕ). WritesRaw edition bytes before (WriteAnswer.Written m) after) long writes)
    go (WriteAnswer.Refused k) writes same small = absurd (no_length k makes.row n (small k refl).0 (small k refl).1 same)

-- §4.9
pub table_writes_back : {newest : ℕ} (raw bytes before after : List ℕ) (rows : List Constraint) (number : ℕ) → Bytes bytes
    → ReadsTableUpTo newest bytes (table_of rows) → RawRows raw rows → length raw < (length rows + 1) * raw_size → length bytes ≤ length before
    → MakesTableIn (at bytes 0) raw before number after → (number ≡ length bytes * 256) × (after ≡ bytes ++ drop (length bytes) before)
table_writes_back raw bytes before after rows number each reads given end long makes =
    let written = raw_write raw bytes before rows each reads given end long makes.writes in
    (makes.equals ∙ ap (λ (a : WriteAnswer). table_number a makes.row) written.0, written.1)
