-- The blocks of a lent monitor, read and written one at a time: those below 32 are the rows', and the last three stand behind them.
use Rattle.in_place.proofs.Names.{RowUndo, Lent, List, Row, Shaped, Words, [], ◌++◌, ◌+◌, ◌<◌, ◌∙◌, ◌∷◌, ◌≡◌, ap, ap₂, arith, get_or, kept_at}
use Rattle.in_place.proofs.Names.{last_blocks, length, no_row_undo, no_row, refl, row_at, row_blocks, set, suc, suc-add, with_row, words_of_lent}
use Rattle.in_place.proofs.Names.{zero}
use Rattle.in_place.proofs.Names.{zero-add}
use Rattle.in_place.proofs.Names.{ℕ}
use Rattle.row.specs.Stored as Stored

-- ---- the rows' blocks

blocks_length : (rows : List Row) (kept : List RowUndo) (n : ℕ) → length rows ≡ n → length kept ≡ n → length (row_blocks rows kept) ≡ n
unfolding row_blocks
blocks_length [] kept n e f = e
blocks_length (r ∷ rows) [] zero e f = absurd (omega (arith, e))
blocks_length (r ∷ rows) [] (suc n) e f = absurd (omega (arith, f))
blocks_length (r ∷ rows) (b ∷ kept) zero e f = absurd (omega (arith, e))
blocks_length (r ∷ rows) (b ∷ kept) (suc n) e f = ap suc (blocks_length rows kept n (omega (arith, e)) (omega (arith, f)))

block_read : (rows : List Row) (kept : List RowUndo) (i : ℕ) (rest : Words) → i < length rows → i < length kept
    → get_or (row_blocks rows kept ++ rest) i [] ≡ Stored.words_of_row (get_or rows i no_row) (get_or kept i no_row_undo)
unfolding row_blocks
block_read [] kept i rest l k = absurd (omega (arith, l))
block_read (r ∷ rows) [] i rest l k = absurd (omega (arith, k))
block_read (r ∷ rows) (b ∷ kept) zero rest l k = refl
block_read (r ∷ rows) (b ∷ kept) (suc i) rest l k = block_read rows kept i rest (omega (arith, l)) (omega (arith, k))

block_written : (rows : List Row) (kept : List RowUndo) (i : ℕ) (rest : Words) (r : Row) (b : RowUndo) → i < length rows → i < length kept
    → set (row_blocks rows kept ++ rest) i (Stored.words_of_row r b) ≡ row_blocks (set rows i r) (set kept i b) ++ rest
unfolding row_blocks
block_written [] kept i rest x y l k = absurd (omega (arith, l))
block_written (r ∷ rows) [] i rest x y l k = absurd (omega (arith, k))
block_written (r ∷ rows) (b ∷ kept) zero rest x y l k = refl
block_written (r ∷ rows) (b ∷ kept) (suc i) rest x y l k =
    ap {B = Words} (λ w. Stored.words_of_row r b ∷ w) (block_written rows kept i rest x y (omega (arith, l)) (omega (arith, k)))

-- ---- what stands behind them

behind_read : (front rest : Words) (n i : ℕ) → length front ≡ n → get_or (front ++ rest) (n + i) [] ≡ get_or rest i []
behind_read [] rest zero i e = ap (λ (k : ℕ). get_or rest k []) (zero-add i)
behind_read [] rest (suc n) i e = absurd (omega (arith, e))
behind_read (x ∷ front) rest zero i e = absurd (omega (arith, e))
behind_read (x ∷ front) rest (suc n) i e = ap (λ (k : ℕ). get_or (x ∷ (front ++ rest)) k []) (suc-add n i)
    ∙ behind_read front rest n i (omega (arith, e))

behind_written : (front rest : Words) (n i : ℕ) (w : List (List ℕ)) → length front ≡ n → set (front ++ rest) (n + i) w ≡ front ++ set rest i w
behind_written [] rest zero i w e = ap (λ (k : ℕ). set rest k w) (zero-add i)
behind_written [] rest (suc n) i w e = absurd (omega (arith, e))
behind_written (x ∷ front) rest zero i w e = absurd (omega (arith, e))
behind_written (x ∷ front) rest (suc n) i w e =
    ap (λ (k : ℕ). set (x ∷ (front ++ rest)) k w) (suc-add n i) ∙ ap {B = Words} (λ l. x ∷ l) (behind_written front rest n i w (omega (arith, e)))

-- ---- of a lent monitor

module _ (h : Lent) (s : Shaped h) where
  front_length : length (row_blocks h.monitor.rows h.monitor.before) ≡ 32
  front_length = blocks_length h.monitor.rows h.monitor.before 32 s.rows_there s.kept_there

  pub row_read : (i : ℕ) → i < 32 → get_or (words_of_lent h) i [] ≡ Stored.words_of_row (row_at h.monitor i) (kept_at h.monitor i)
  unfolding words_of_lent
  row_read i l = block_read h.monitor.rows h.monitor.before i (last_blocks h) (omega (arith, s.rows_there, l))
      (omega (arith, s.kept_there, l))

  pub row_written : (i : ℕ) (r : Row) (b : RowUndo) → i < 32 → set (words_of_lent h) i (Stored.words_of_row r b) ≡ words_of_lent (with_row h i r b)
  unfolding words_of_lent
  row_written i r b l =
      block_written h.monitor.rows h.monitor.before i (last_blocks h) r b (omega (arith, s.rows_there, l)) (omega (arith, s.kept_there, l))

  pub last_read : (i : ℕ) → get_or (words_of_lent h) (32 + i) [] ≡ get_or (last_blocks h) i []
  unfolding words_of_lent
  last_read i = behind_read (row_blocks h.monitor.rows h.monitor.before) (last_blocks h) 32 i front_length

  pub last_written : (i : ℕ) (w : List (List ℕ)) → set (words_of_lent h) (32 + i) w ≡ row_blocks h.monitor.rows h.monitor.before
      ++ set (last_blocks h) i w
  unfolding words_of_lent
  last_written i w = behind_written (row_blocks h.monitor.rows h.monitor.before) (last_blocks h) 32 i w front_length

  -- the same of words that are the monitor's
  module _ (m : Words) (is : m ≡ words_of_lent h) (i : ℕ) (l : i < 32) where
    pub row_lies : get_or m i [] ≡ Stored.words_of_row (row_at h.monitor i) (kept_at h.monitor i)
    row_lies = ap (λ (w : Words). get_or w i []) is ∙ row_read i l

    pub row_stored : (w : List (List ℕ)) (r : Row) (b : RowUndo) → w ≡ Stored.words_of_row r b → set m i w ≡ words_of_lent (with_row h i r b)
    row_stored w r b e = ap₂ (λ (x : Words) (y : List (List ℕ)). set x i y) is e ∙ row_written i r b l
