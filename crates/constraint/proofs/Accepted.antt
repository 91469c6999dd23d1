-- The questions are asked row by row, so the answer follows from the first row's answer and that of the other rows.
use Rattle.constraint.proofs.Names.{AcceptedIn, Answer, Constraint, Judged, List, Question, Refused, Taken, [], ◌++◌, ◌+◌, ◌<◌, ◌∷◌, ◌≡◌, ◌≤◌}
use Rattle.constraint.proofs.Names.{ap, arith, drop, drop-cons, filler, get_elem?, length, refl, row_limit, row_questions_in, rows_questions, some}
use Rattle.constraint.proofs.Names.{subst, suc, zero, ℕ}
use Rattle.constraint.proofs.Judged.{judged_all, judged_first, judged_later, judged_no, judged_none, judged_parts, judged_yes, never}

module _ (edition : ℕ) where
  -- the row's questions, and then those of the rows after it
  pub rows_taken : (i : ℕ) (c : Constraint) (rows : List Constraint) (after : List Question) (a : Answer) → i < row_limit
      → Judged (row_questions_in edition c) Taken → Judged (rows_questions edition (i + 1) rows after) a
      → Judged (rows_questions edition i (c ∷ rows) after) a
  unfolding rows_questions
  rows_taken i c rows after a room taken later =
      judged_yes 3 _ _ a room (judged_later (row_questions_in edition c) (rows_questions edition (i + 1) rows after) a taken later)

  -- a row that is refused
  pub rows_refused : (i : ℕ) (c : Constraint) (rows : List Constraint) (after : List Question) (n : ℕ) → i < row_limit
      → Judged (row_questions_in edition c) (Refused n) → Judged (rows_questions edition i (c ∷ rows) after) (Refused n)
  unfolding rows_questions
  rows_refused i c rows after n room refused =
      judged_yes 3 _ _ _ room (judged_first (row_questions_in edition c) (rows_questions edition (i + 1) rows after) n refused)

  -- a row past the last that there is room for
  pub rows_full : (i : ℕ) (rows : List Constraint) (after : List Question) → i < length rows → row_limit ≤ i
      → Judged (rows_questions edition i (drop i rows) after) (Refused 3)
  unfolding rows_questions
  rows_full i rows after there full = rw (drop-cons rows i filler there) (judged_no 3 _ _ (λ h. omega arith))

  -- what is asked after the rows stands behind the rows' questions
  pub rows_then : (i : ℕ) (rows : List Constraint) (after : List Question)
      → rows_questions edition i rows after ≡ rows_questions edition i rows [] ++ after
  unfolding rows_questions
  rows_then i [] after = refl
  rows_then i (c ∷ rows) after = ap (λ (later : List Question). (
    3,
    i < row_limit,
  ) ∷ row_questions_in edition c ++ later) (rows_then (i + 1) rows after)

  -- accepted rows are at most 32
  pub rows_room : (i : ℕ) (rows : List Constraint) → i ≤ row_limit → Judged (rows_questions edition i rows []) Taken → i + length rows ≤ row_limit
  unfolding rows_questions
  rows_room i [] h judged = omega arith
  rows_room i (c ∷ rows) h judged =
      let room = judged_all 3 (i < row_limit) _ judged in
      let later = rows_room (i + 1) rows (omega arith)
      (judged_parts (row_questions_in edition c) (rows_questions edition (i + 1) rows []) room.1).1 in
      omega arith

  -- and each of them is taken by itself
  pub row_accepted : (i : ℕ) (rows : List Constraint) → Judged (rows_questions edition i rows []) Taken → (j : ℕ) (c : Constraint)
      → get_elem? rows j ≡ some c → Judged (row_questions_in edition c) Taken
  unfolding rows_questions
  row_accepted i [] judged j c there = never (cc)
  row_accepted i (d ∷ rows) judged zero c there =
      let same : d ≡ c = cc in
      subst (λ (x : Constraint). Judged (row_questions_in edition x) Taken) same
      (judged_parts (row_questions_in edition d) (rows_questions edition (i + 1) rows []) (judged_all 3 (i < row_limit) _ judged).1).0
  row_accepted i (d ∷ rows) judged (suc j) c there =
      row_accepted (i + 1) rows
      (judged_parts (row_questions_in edition d) (rows_questions edition (i + 1) rows []) (judged_all 3 (i < row_limit) _ judged).1).1 j c there

  -- so it is accepted as a table by itself
  pub alone_accepted : (rows : List Constraint) → AcceptedIn edition rows → (j : ℕ) (c : Constraint) → get_elem? rows j ≡ some c
      → AcceptedIn edition (c ∷ [])
  unfolding rows_questions
  alone_accepted rows accepted j c there = rows_taken 0 c [] [] Taken (omega arith) (row_accepted 0 rows accepted j c there) judged_none
