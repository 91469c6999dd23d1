-- What the second edition leaves as it was: a table of the first is read as before by a call that takes both, and its rows are accepted in the
-- second too, since that has all types of the first.
use Rattle.constraint.proofs.Names.{AcceptedIn, Constraint, Judged, List, ReadsTable, ReadsTableUpTo, TableRead, Taken, TypeKnown, VersionUpTo}
use Rattle.constraint.proofs.Names.{[], ◌+◌}
use Rattle.constraint.proofs.Names.{◌<◌, ◌↔◌, ◌∷◌, ◌≡◌, ◌≤◌, arith, at, count_of, last_type, row_limit, row_questions, rows_questions, suc, type_of}
use Rattle.constraint.proofs.Names.{version_refused, version_taken, zero, ℕ}
use Rattle.constraint.proofs.{Accepted.rows_taken, Judged.judged_all, Judged.judged_parts, Judged.judged_yes}

-- an edition that has types is not 0
pub edition_above : (edition : ℕ) → 0 < last_type edition → 0 < edition
edition_above zero some = absurd (omega (arith, some))
edition_above (suc n) some = omega arith

-- ---- bytes

-- calls that both take the edition of a table read it alike
module _ (one other : ℕ) (bytes : List ℕ) (known : at bytes 0 ≤ one) (known' : at bytes 0 ≤ other) where
  version_same : VersionUpTo other bytes → VersionUpTo one bytes
  version_same version = (version.0, version.1, known, version.3)

  pub reads_same : {read : TableRead} → ReadsTableUpTo one bytes read → ReadsTableUpTo other bytes read
  reads_same (version_refused refused) = version_refused (λ version. refused (version_same version))
  reads_same (version_taken version rows) = version_taken (version.0, version.1, known', version.3) rows

-- §16.6: bytes whose first byte is 1 are read by the calls that take both editions as by those that take the first alone
pub reads_as_before : (bytes : List ℕ) → at bytes 0 ≡ 1 → (read : TableRead) → ReadsTableUpTo 2 bytes read ↔ ReadsTable bytes read
reads_as_before bytes first read =
    (reads_same 2 1 bytes (omega (arith, first)) (omega (arith, first)), reads_same 1 2 bytes (omega (arith, first)) (omega (arith, first)))

-- ---- rows

-- rows that are accepted in an edition are accepted in one that has its types
module _ (edition later : ℕ) (more : last_type edition ≤ last_type later) where
  type_later : (t n : ℕ) → TypeKnown edition t n → TypeKnown later t n
  type_later t n known =
      record { type_known = (known.type_known.0, omega (arith, known.type_known.1, more)); n_known = known.n_known }

  rows_later : (i : ℕ) (rows : List Constraint) → Judged (rows_questions edition i rows []) Taken → Judged (rows_questions later i rows []) Taken
  unfolding rows_questions
  rows_later i [] judged = judged
  rows_later i (c ∷ rows) judged =
      let room = judged_all 3 (i < row_limit) _ judged in
      let known = judged_all 4 (TypeKnown edition (type_of c) (count_of c)) _ room.1 in
      let parts = judged_parts (row_questions c) (rows_questions edition (i + 1) rows []) known.1 in
      rows_taken later i c rows [] Taken room.0 (judged_yes 4 _ _ Taken (type_later (type_of c) (count_of c) known.0) parts.0)
      (rows_later (i + 1) rows parts.1)

-- §16.2: those of the first edition are accepted in the second
pub accepted_later : (rows : List Constraint) → AcceptedIn 1 rows → AcceptedIn 2 rows
accepted_later rows accepted = rows_later 1 2 (omega arith) 0 rows accepted
