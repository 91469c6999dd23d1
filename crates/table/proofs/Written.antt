-- The writer's questions are the rows' and then the room's, and storing a table at the front of a buffer leaves what stands behind it.
use Rattle.table.proofs.Names.{Constraint, Judged, List, Refused, Taken, WriteAnswer, Writes, [], ◌<◌, ◌∙◌, ◌∷◌, ◌≡◌, ◌≤◌, arith, judged_first}
use Rattle.table.proofs.Names.{judged_later, judged_no, judged_none, judged_yes, length, never, refl, rows_then, rows_bytes, rows_questions}
use Rattle.table.proofs.Names.{sets, stores_front, table_bytes_in, ℕ}

module _ (edition : ℕ) (rows : List Constraint) (before : List ℕ) where
  pub written_refused : (n : ℕ) → Judged (rows_questions edition 0 rows []) (Refused n) → Writes edition rows before (WriteAnswer.Refused n) before
  written_refused n judged =
      record {
        judged = rw rows_then (judged_first (rows_questions edition 0 rows []) _ n judged);
        buffer = refl;
        counted = λ k e. never (cc);
      }

  pub written_short : Judged (rows_questions edition 0 rows []) Taken → length before < length (table_bytes_in edition rows)
      → Writes edition rows before (WriteAnswer.Refused 16) before
  written_short judged short =
      record {
        judged = rw rows_then (judged_later (rows_questions edition 0 rows []) _ _ judged (judged_no 16 _ _ (λ room. omega arith)));
        buffer = refl;
        counted = λ k e. never (cc);
      }

  -- the version byte is stored, and then the rows
  pub written_all : (size : ℕ) (one after : List ℕ) → Judged (rows_questions edition 0 rows []) Taken
      → length (table_bytes_in edition rows) ≤ length before
      → size ≡ length (table_bytes_in edition rows) → one ≡ sets before 0 (edition ∷ []) → after ≡ sets one 1 (rows_bytes rows)
      → Writes edition rows before (WriteAnswer.Written size) after
  unfolding table_bytes_in
  written_all size one after judged room counted version stored =
      record {
        judged = rw rows_then (judged_later (rows_questions edition 0 rows []) _ _ judged (judged_yes 16 _ _ _ room judged_none));
        buffer = stored ∙ rw version (stores_front before (table_bytes_in edition rows) room);
        counted = λ k e. let same : k ≡ size = cc in same ∙ counted;
      }
