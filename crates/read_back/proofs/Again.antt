-- A body that is read back and added to a table is the same row there: an accepted row answers its own questions with "yes", and its body stands for
-- it alone.
use Rattle.constraint.proofs.Library.{List, ◌+◌, ◌<◌, ◌≡◌, ◌≤◌, get_elem?, length, refl, some, subst, sym, ℕ}
use Rattle.constraint.proofs.{Accepted.row_accepted, Judged.judged_all, Judged.judged_later, Judged.judged_none, Judged.judged_once}
use Rattle.constraint.proofs.{Judged.judged_yes, Judged.never}
use Rattle.constraint.specs.Accepted.{Accepted, row_questions, row_questions_in}
use Rattle.constraint.specs.Constraint.{Constraint}
use Rattle.constraint.specs.Limits.{row_limit}
use Rattle.constraint.specs.Questions.{Judged}
use Rattle.constraint.specs.Table.{ReadsTableUpTo, row_body, table_of}
use Rattle.constraint.specs.Types.{TypeKnown, count_of, type_of}
use Rattle.constraint.specs.Answer.{Taken}
use Rattle.table_row.proofs.{Accepting.ReadBack, Accepting.write_then_read, Standing.stands_once}
use Rattle.table.proofs.ReadUnique.{reads_once}
use Rattle.table.specs.Appending.{AddsTo, Grown, add_questions, row_right, row_wrong, table_wrong}
use Rattle.table.specs.AddAnswer.{AddAnswer}
use Rattle.read_back.proofs.Holding.{newest_known}

module _ (rows : List Constraint) (accepted : Accepted rows) (i : ℕ) (c : Constraint) (there : get_elem? rows i ≡ some c) where
  -- the row in the newest edition
  own_questions : Judged (row_questions_in 2 c) Taken
  own_questions =
      let edition = accepted.0 in
      let four = judged_all 4 (TypeKnown edition (type_of c) (count_of c)) _ (row_accepted edition 0 rows accepted.1 i c there) in
      judged_yes 4 _ _ Taken (newest_known edition (type_of c) (count_of c) four.0) four.1

  own : ReadBack 2 c
  own = write_then_read 2 c own_questions

  -- §9.13: the row that is added is this one
  pub same_row_added : {before after : List ℕ} {size n : ℕ} (grown : Grown before size (row_body c) n after) → grown.row ≡ c
  same_row_added grown = stands_once {edition = 2} (row_body c) own.shape_fits grown.row c grown.stands own.stands

  -- §9.13: and it is added to every table of fewer than 32 rows in a buffer with room for it
  pub row_added : (table : List ℕ) (others : List Constraint) → ReadsTableUpTo 2 table (table_of others) → length others < row_limit → (size : ℕ)
      → length table + 2 + length (row_body c) ≤ size → (r : AddAnswer) → AddsTo table (row_body c) size r
      → r ≡ AddAnswer.Added (length table + 2 + length (row_body c))
  row_added table others reads few size room r (table_wrong number place refused) = let once = reads_once table refused reads in never (cc)
  row_added table others reads few size room r (row_wrong found d number also stands judged) =
      let same_rows : found ≡ others = let once = reads_once table also reads in cc in
      let same : d ≡ c = stands_once {edition = 2} (row_body c) own.shape_fits d c (stands own.shape_fits) own.stands in
      let fields = (judged_all 4 (TypeKnown 2 (type_of c) (count_of c)) _ own_questions).1 in
      let asked : Judged (add_questions (length others) (row_body c) c (length table) size) Taken =
      judged_yes 3 _ _ Taken few (judged_yes 4 _ _ Taken own.shape_fits
      (judged_later (row_questions c) _ Taken fields (judged_yes 16 _ _ Taken room judged_none))) in
      let also_asked = subst (λ (x : Constraint). Judged (add_questions (length found) (row_body c) x (length table) size) Taken) (sym same)
      (subst (λ (l : List Constraint). Judged (add_questions (length l) (row_body c) c (length table) size) Taken) (sym same_rows) asked) in
      let once = judged_once _ _ _ judged also_asked in never (cc)
  row_added table others reads few size room r (row_right found d also stands judged) = refl
