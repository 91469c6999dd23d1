-- The sets of rows by kind where they lie: a store of one is a store in one part of the record. Words whose blocks are all known are a monitor's.
use Rattle.fresh.proofs.Names.{RowUndo, Lent, List, Row, RowsLie, Shaped, Words, [], ◌++◌, ◌<◌, ◌∙◌, ◌∷◌, ◌≡◌, ◌≤◌, ap, ap₂, arith, drop}
use Rattle.fresh.proofs.Names.{drop-cons}
use Rattle.fresh.proofs.Names.{drop-length, get_or, last_written, last_blocks, length, no_row_undo, no_row, number_block, numbers_read, padded, refl}
use Rattle.fresh.proofs.Names.{row_blocks, set, subst, suc, sym, with_lists, words_of_lent, ℕ}
use Rattle.fresh.proofs.{Padding.padded_length}
use Rattle.row.specs.Stored as Stored

-- ---- stores

module _ (h : Lent) (s : Shaped h) where
  pub set_written : (kind v : ℕ)
      → set (words_of_lent h) 32 (set (get_or (words_of_lent h) 32 []) 1 (set (get_or (get_or (words_of_lent h) 32 []) 1 []) kind v))
      ≡ words_of_lent (with_lists h (set h.lists kind v))
  unfolding words_of_lent
  set_written kind v =
      ap (λ (b : List (List ℕ)). set (words_of_lent h) 32 (set b 1 (set (get_or b 1 []) kind v))) (numbers_read h s)
      ∙ last_written h s 0 (set (number_block h) 1 (set (get_or (number_block h) 1 []) kind v))

  pub shaped_lists : (lists : List ℕ) → Shaped (with_lists h (padded 64 lists))
  shaped_lists lists =
      record {
        rows_there = s.rows_there;
        kept_there = s.kept_there;
        next_there = s.next_there;
        lists_there = padded_length lists 64;
        rest_zero = s.rest_zero;
      }

-- ---- words whose blocks are known

rows_known : (rows : List Row) (kept : List RowUndo) (words : Words) → length rows ≡ length kept → length rows ≤ length words
    → ((i : ℕ) → i < length rows → get_or words i [] ≡ Stored.words_of_row (get_or rows i no_row) (get_or kept i no_row_undo))
    → words ≡ row_blocks rows kept ++ drop (length rows) words
unfolding row_blocks
rows_known [] kept words same few each = refl
rows_known (r ∷ rows) [] words same few each = absurd (omega (arith, same))
rows_known (r ∷ rows) (b ∷ kept) [] same few each = absurd (omega (arith, few))
rows_known (r ∷ rows) (b ∷ kept) (w ∷ words) same few each =
    ap₂ (λ (x : List (List ℕ)) (y : Words). x ∷ y) (each 0 (omega arith))
    (rows_known rows kept words (omega (arith, same)) (omega (arith, few)) (λ i below. each (suc i) (omega (arith, below))))

pub words_known : (h : Lent) → Shaped h → (words : Words) → length words ≡ 35 → RowsLie h.monitor 32 words
    → get_or words 32 [] ∷ get_or words 33 [] ∷ get_or words 34 [] ∷ [] ≡ last_blocks h → words ≡ words_of_lent h
unfolding words_of_lent
words_known h s words long rows last =
    let none : drop 35 words ≡ [] = subst (λ (n : ℕ). drop n words ≡ []) long (drop-length words) in
    rows_known h.monitor.rows h.monitor.before words (s.rows_there ∙ sym s.kept_there) (omega (arith, s.rows_there, long))
    (λ i below. rows i (omega (arith, below, s.rows_there)))
    ∙ ap (λ (rest : Words). row_blocks h.monitor.rows h.monitor.before ++ rest)
    (ap (λ (n : ℕ). drop n words) s.rows_there ∙ drop-cons words 32 [] (omega (arith, long))
    ∙ ap {B = Words} (λ rest. get_or words 32 [] ∷ rest) (drop-cons words 33 [] (omega (arith, long))
    ∙ ap {B = Words} (λ rest. get_or words 33 [] ∷ rest) (drop-cons words 34 [] (omega (arith, long))
    ∙ ap {B = Words} (λ rest. get_or words 34 [] ∷ rest) none)) ∙ last)
