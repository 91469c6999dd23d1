-- The words beside the rows, read and written: each stands at a place of the last three blocks, and a store there is a store in one part of the
-- record.
use Rattle.in_place.proofs.Names.{RowUndo, Lent, List, Monitor, StepInput, RestZero, Row, Shaped, Words, [], ◌%◌, ◌++◌, ◌+◌, ◌/◌, ◌<◌, ◌∙◌}
use Rattle.in_place.proofs.Names.{◌∷◌}
use Rattle.in_place.proofs.Names.{◌≡◌, ap, ap₂, arith, rows_undone, deadlines_checked, by_cases, cond, recorded_on, recorded_to, drop}
use Rattle.in_place.proofs.Names.{drop-set-add}
use Rattle.in_place.proofs.Names.{drop-set-lt, clock_applied_at, clock_applied, ended_state, ends_by, event_at, get_or, get_or-append-add}
use Rattle.in_place.proofs.Names.{get_or-drop}
use Rattle.in_place.proofs.Names.{get_or-set_other, get_or-set_same, get_or-take, halves, held_rows, kept_at, length, length-set, ltb, ltb-false}
use Rattle.in_place.proofs.Names.{ltb-true, no_row_undo, no_row, no_words, number_array, number_block, rows_expired, plus, refl, rest_zero_ended}
use Rattle.in_place.proofs.Names.{rest_zero_event, rest_zero_without, row_at, row_blocks, set, set_of, soonest_all, split, stream_count, subst₂}
use Rattle.in_place.proofs.Names.{suc}
use Rattle.in_place.proofs.Names.{suc-add, subst, sym, take, take-set-le, take-set-lt, tick_at, dispatched, dispatched_to, with_full, with_next}
use Rattle.in_place.proofs.Names.{with_row}
use Rattle.in_place.proofs.Names.{with_soonest, words_of_lent, zero, zero-add, ℕ, ℕ_discrete}
use Rattle.in_place.proofs.Blocks.{last_read, last_written}

-- ---- two halves

pub half_read : (l : List ℕ) (j : ℕ) → j < 128 → get_or (get_or (halves l) (j / 64) []) (j % 64) 0 ≡ get_or l j 0
half_read l j small =
    split (ltb j 64) (λ _. get_or (get_or (halves l) (j / 64) []) (j % 64) 0 ≡ get_or l j 0)
    (λ e.
    let low : j / 64 ≡ 0 = omega (arith, ltb-true j 64 e) in
    let same : j % 64 ≡ j = omega (arith, ltb-true j 64 e) in
    ap₂ (λ (a b : ℕ). get_or (get_or (halves l) a []) b 0) low same ∙ get_or-take 64 l j 0 (ltb-true j 64 e))
    (λ e.
    let high : j / 64 ≡ 1 = omega (arith, ltb-false j 64 e, small) in
    let place : 64 + j % 64 ≡ j = omega (arith, ltb-false j 64 e, small) in
    ap (λ (a : ℕ). get_or (get_or (halves l) a []) (j % 64) 0) high ∙ get_or-drop 64 l (j % 64) 0 ∙ ap (λ (k : ℕ). get_or l k 0) place)

pub half_written : (l : List ℕ) (j v : ℕ) → j < 128 → set (halves l) (j / 64) (set (get_or (halves l) (j / 64) []) (j % 64) v) ≡ halves (set l j v)
half_written l j v small =
    split (ltb j 64) (λ _. set (halves l) (j / 64) (set (get_or (halves l) (j / 64) []) (j % 64) v) ≡ halves (set l j v))
    (λ e.
    let low : j / 64 ≡ 0 = omega (arith, ltb-true j 64 e) in
    let same : j % 64 ≡ j = omega (arith, ltb-true j 64 e) in
    ap₂ (λ (a b : ℕ). set (halves l) a (set (get_or (halves l) a []) b v)) low same
    ∙ ap₂ (λ (x y : List ℕ). x ∷ y ∷ []) (sym (take-set-lt 64 l j v (ltb-true j 64 e))) (sym (drop-set-lt 64 l j v (ltb-true j 64 e))))
    (λ e.
    let high : j / 64 ≡ 1 = omega (arith, ltb-false j 64 e, small) in
    let place : 64 + j % 64 ≡ j = omega (arith, ltb-false j 64 e, small) in
    ap (λ (a : ℕ). set (halves l) a (set (get_or (halves l) a []) (j % 64) v)) high
    ∙ ap₂ (λ (x y : List ℕ). x ∷ y ∷ []) (sym (take-set-le 64 l (64 + j % 64) v (omega arith))) (sym (drop-set-add 64 l (j % 64) v))
    ∙ ap (λ (k : ℕ). halves (set l k v)) place)

-- ---- behind the numbers

written_behind : (front rest : List ℕ) (n i v : ℕ) → length front ≡ n → set (front ++ rest) (n + i) v ≡ front ++ set rest i v
written_behind [] rest zero i v e = ap (λ (k : ℕ). set rest k v) (zero-add i)
written_behind [] rest (suc n) i v e = absurd (omega (arith, e))
written_behind (x ∷ front) rest zero i v e = absurd (omega (arith, e))
written_behind (x ∷ front) rest (suc n) i v e =
    ap (λ (k : ℕ). set (x ∷ (front ++ rest)) k v) (suc-add n i) ∙ ap {B = List ℕ} (λ l. x ∷ l) (written_behind front rest n i v (omega (arith, e)))

module _ (m : Monitor) (soonest full : ℕ) (plain : List ℕ) where
  pub behind_numbers : (i : ℕ) → get_or (number_array m soonest full plain) (16 + i) 0 ≡ get_or plain i 0
  behind_numbers i = get_or-append-add (number_array m soonest full []) plain i 0

  pub numbers_behind : (i v : ℕ) → set (number_array m soonest full plain) (16 + i) v ≡ number_array m soonest full (set plain i v)
  numbers_behind i v = written_behind (number_array m soonest full []) plain 16 i v refl

-- ---- what stands in the last blocks

module _ (h : Lent) (s : Shaped h) where
  pub numbers_read : get_or (words_of_lent h) 32 [] ≡ number_block h
  numbers_read = last_read h s 0

  pub spare_read : get_or (words_of_lent h) 33 [] ≡ no_words
  spare_read = last_read h s 1

  pub coloured_read : get_or (words_of_lent h) 34 [] ≡ halves (drop 48 h.monitor.next)
  coloured_read = last_read h s 2

  -- a number of words that are the monitor's
  pub number_at : (m : Words) → m ≡ words_of_lent h → (k : ℕ)
      → get_or (get_or (get_or m 32 []) 0 []) k 0 ≡ get_or (number_array h.monitor h.soonest h.full (take 48 h.monitor.next)) k 0
  number_at m is k = ap (λ (w : Words). get_or (get_or (get_or w 32 []) 0 []) k 0) is
      ∙ ap (λ (b : List (List ℕ)). get_or (get_or b 0 []) k 0) numbers_read

  -- the rows of a kind
  pub set_at : (m : Words) → m ≡ words_of_lent h → (kind : ℕ) → get_or (get_or (get_or m 32 []) 1 []) kind 0 ≡ set_of h kind
  set_at m is kind =
      ap (λ (w : Words). get_or (get_or (get_or w 32 []) 1 []) kind 0) is ∙ ap (λ (b : List (List ℕ)). get_or (get_or b 1 []) kind 0) numbers_read

  -- a store of the soonest time
  pub soonest_written : (time : ℕ)
      → set (words_of_lent h) 32 (set (get_or (words_of_lent h) 32 []) 0 (set (get_or (get_or (words_of_lent h) 32 []) 0 []) 4 time)) ≡ words_of_lent
      (with_soonest h time)
  unfolding words_of_lent
  soonest_written time =
      ap (λ (b : List (List ℕ)). set (words_of_lent h) 32 (set b 0 (set (get_or b 0 []) 4 time))) numbers_read
      ∙ last_written h s 0 (set (number_block h) 0 (set (get_or (number_block h) 0 []) 4 time))

  -- and of the rows that may be nearly full
  pub full_written : (full : ℕ)
      → set (words_of_lent h) 32 (set (get_or (words_of_lent h) 32 []) 0 (set (get_or (get_or (words_of_lent h) 32 []) 0 []) 11 full)) ≡ words_of_lent
      (with_full h full)
  unfolding words_of_lent
  full_written full =
      ap (λ (b : List (List ℕ)). set (words_of_lent h) 32 (set b 0 (set (get_or b 0 []) 11 full))) numbers_read
      ∙ last_written h s 0 (set (number_block h) 0 (set (get_or (number_block h) 0 []) 11 full))

  -- the first free time of a stream
  pub plain_free : (i : ℕ) → i < 48 → get_or (get_or (get_or (words_of_lent h) 32 []) 0 []) (16 + i) 0 ≡ get_or h.monitor.next i 0
  plain_free i l =
      ap (λ (b : List (List ℕ)). get_or (get_or b 0 []) (16 + i) 0) numbers_read
      ∙ behind_numbers h.monitor h.soonest h.full (take 48 h.monitor.next) i ∙ get_or-take 48 h.monitor.next i 0 l

  pub coloured_free : (i : ℕ) → i < 128 → get_or (get_or (get_or (words_of_lent h) 34 []) (i / 64) []) (i % 64) 0 ≡ get_or h.monitor.next (48 + i) 0
  coloured_free i l =
      ap (λ (b : List (List ℕ)). get_or (get_or b (i / 64) []) (i % 64) 0) coloured_read
      ∙ half_read (drop 48 h.monitor.next) i l ∙ get_or-drop 48 h.monitor.next i 0

  -- and a store of it
  pub plain_written : (i v : ℕ) → i < 48
      → set (words_of_lent h) 32 (set (get_or (words_of_lent h) 32 []) 0 (set (get_or (get_or (words_of_lent h) 32 []) 0 []) (16 + i) v))
      ≡ words_of_lent (with_next h (set h.monitor.next i v))
  unfolding words_of_lent
  plain_written i v l =
      ap (λ (b : List (List ℕ)). set (words_of_lent h) 32 (set b 0 (set (get_or b 0 []) (16 + i) v))) numbers_read
      ∙ last_written h s 0 (set (number_block h) 0 (set (get_or (number_block h) 0 []) (16 + i) v))
      ∙ ap₂ (λ (x c : List ℕ). row_blocks h.monitor.rows h.monitor.before ++ ((x ∷ h.lists ∷ []) ∷ no_words ∷ halves c ∷ []))
      (numbers_behind h.monitor h.soonest h.full (take 48 h.monitor.next) i v
      ∙ ap (number_array h.monitor h.soonest h.full) (sym (take-set-lt 48 h.monitor.next i v l)))
      (sym (drop-set-lt 48 h.monitor.next i v l))

  pub coloured_written : (i v : ℕ) → i < 128
      → set (words_of_lent h) 34 (set (get_or (words_of_lent h) 34 []) (i / 64) (set (get_or (get_or (words_of_lent h) 34 []) (i / 64) [])
      (i % 64) v))
      ≡ words_of_lent (with_next h (set h.monitor.next (48 + i) v))
  unfolding words_of_lent
  coloured_written i v l =
      ap (λ (b : List (List ℕ)). set (words_of_lent h) 34 (set b (i / 64) (set (get_or b (i / 64) []) (i % 64) v))) coloured_read
      ∙ last_written h s 2 (set (halves (drop 48 h.monitor.next)) (i / 64)
      (set (get_or (halves (drop 48 h.monitor.next)) (i / 64) []) (i % 64) v))
      ∙ ap₂ (λ (x : List ℕ) (c : List (List ℕ)). row_blocks h.monitor.rows h.monitor.before
      ++ ((number_array h.monitor h.soonest h.full x ∷ h.lists ∷ []) ∷ no_words ∷ c ∷ []))
      (sym (take-set-le 48 h.monitor.next (48 + i) v (omega arith)))
      (half_written (drop 48 h.monitor.next) i v l ∙ ap halves (sym (drop-set-add 48 h.monitor.next i v)))

  -- a store of the block of numbers, all else being as it was
  pub block_written : (x : Lent) → row_blocks x.monitor.rows x.monitor.before ≡ row_blocks h.monitor.rows h.monitor.before
      → x.monitor.next ≡ h.monitor.next → set (words_of_lent h) 32 (number_block x) ≡ words_of_lent x
  unfolding words_of_lent
  block_written x rows next =
      last_written h s 0 (number_block x) ∙ sym (λ k. rows k ++ (number_block x ∷ no_words ∷ halves (drop 48 (next k)) ∷ []))

-- ---- the clock before an event

-- a row sees the time alone of what does not close the recording
ended_alone : (h : Lent) (n s t number : ℕ) → clock_applied h n (tick_at t) number ≡ clock_applied h n (event_at s t) number
unfolding ends_by ended_state
ended_alone h zero s t number = refl
ended_alone h (suc n) s t number = ap (λ (x : Lent). clock_applied_at x n (event_at s t) number) (ended_alone h n s t number)

pub begun_alone : (h : Lent) (s t : ℕ) → deadlines_checked h (tick_at t) ≡ deadlines_checked h (event_at s t)
begun_alone h s t =
    ap (λ (x : Lent). cond (ltb h.soonest t) (cond (ltb (soonest_all h) t) (with_soonest x 0) (with_soonest h (soonest_all h))) h)
    (ended_alone h (held_rows h.monitor) s t h.monitor.count)

-- ---- each part keeps its size, and in each row what its type never stores is 0

-- it depends on the rows and on the lengths of the lists
pub shaped_same : (h x : Lent) → x.monitor.rows ≡ h.monitor.rows → x.monitor.before ≡ h.monitor.before
    → length x.monitor.next ≡ stream_count → length x.lists ≡ 64 → Shaped h → Shaped x
shaped_same h x rows kept next lists s =
    record {
      rows_there = ap (λ (l : List Row). length l) rows ∙ s.rows_there;
      kept_there = ap (λ (l : List RowUndo). length l) kept ∙ s.kept_there;
      next_there = next;
      lists_there = lists;
      rest_zero = λ i l. subst₂ (λ (a : List Row) (b : List RowUndo). RestZero (get_or a i no_row) (get_or b i no_row_undo)) (sym rows) (sym kept)
          (s.rest_zero i l);
    }

pub shaped_next : (h : Lent) (i v : ℕ) → Shaped h → Shaped (with_next h (set h.monitor.next i v))
shaped_next h i v s = shaped_same h _ refl refl (length-set h.monitor.next i v ∙ s.next_there) s.lists_there s

pub shaped_soonest : (h : Lent) (time : ℕ) → Shaped h → Shaped (with_soonest h time)
shaped_soonest h time s = shaped_same h _ refl refl s.next_there s.lists_there s

pub shaped_full : (h : Lent) (full : ℕ) → Shaped h → Shaped (with_full h full)
shaped_full h full s = shaped_same h _ refl refl s.next_there s.lists_there s

-- with a row put at a place in which what its type never stores is 0
pub shaped_row : (h : Lent) (i : ℕ) (r : Row) (b : RowUndo) → (i < 32 → RestZero r b) → Shaped h → Shaped (with_row h i r b)
shaped_row h i r b zero_there s =
    record {
      rows_there = length-set h.monitor.rows i r ∙ s.rows_there;
      kept_there = length-set h.monitor.before i b ∙ s.kept_there;
      next_there = s.next_there;
      lists_there = s.lists_there;
      rest_zero = λ j l. by_cases (ℕ_discrete j i)
          (λ same. subst (λ (k : ℕ). RestZero (row_at (with_row h i r b).monitor k) (kept_at (with_row h i r b).monitor k)) (sym same)
          (subst₂ RestZero (sym (get_or-set_same h.monitor.rows i r no_row (omega (arith, s.rows_there, same, l))))
          (sym (get_or-set_same h.monitor.before i b no_row_undo (omega (arith, s.kept_there, same, l)))) (zero_there (omega (arith, same, l)))))
          (λ far. subst₂ RestZero (sym (get_or-set_other h.monitor.rows i j r no_row far))
          (sym (get_or-set_other h.monitor.before i j b no_row_undo far)) (s.rest_zero j l));
    }

pub shaped_visited : (h : Lent) (rows : List ℕ) (o : StepInput) (number : ℕ) → Shaped h → Shaped (dispatched h rows o number)
shaped_visited h [] o number s = s
shaped_visited h (i ∷ rows) o number s =
    shaped_visited (dispatched_to h i o number) rows o number
    (shaped_full _ _ (shaped_soonest _ _ (shaped_row h i _ _ (λ l. rest_zero_event _ _ o number (s.rest_zero _ l)) s)))

pub shaped_ended : (h : Lent) (n : ℕ) (o : StepInput) (number : ℕ) → Shaped h → Shaped (clock_applied h n o number)
shaped_ended h zero o number s = s
shaped_ended h (suc n) o number s =
    let so_far = shaped_ended h n o number s in
    shaped_row (clock_applied h n o number) _ _ _ (λ l. rest_zero_ended _ _ o number (so_far.rest_zero n l)) so_far

pub shaped_backed : (h : Lent) (n number : ℕ) → Shaped h → Shaped (rows_undone h n number)
shaped_backed h zero number s = s
shaped_backed h (suc n) number s =
    let so_far = shaped_backed h n number s in
    shaped_row (rows_undone h n number) _ _ _ (λ l. rest_zero_without _ _ number (so_far.rest_zero n l)) so_far

pub shaped_counted : (h : Lent) (stream time : ℕ) → Shaped h → Shaped (recorded_on h stream time)
shaped_counted h stream time s =
    shaped_same h _ refl refl (length-set h.monitor.next stream (plus time 1) ∙ s.next_there) s.lists_there s

pub shaped_to : (h : Lent) (time closed : ℕ) → Shaped h → Shaped (recorded_to h time closed)
shaped_to h time closed s = shaped_same h _ refl refl s.next_there s.lists_there s

-- ---- the rows to which the clock goes

pub ended_count : (h : Lent) (n : ℕ) (o : StepInput) (number : ℕ) → (clock_applied h n o number).monitor.count ≡ h.monitor.count
ended_count h zero o number = refl
ended_count h (suc n) o number = ended_count h n o number

ended_lists : (h : Lent) (n : ℕ) (o : StepInput) (number : ℕ) → (clock_applied h n o number).lists ≡ h.lists
ended_lists h zero o number = refl
ended_lists h (suc n) o number = ended_lists h n o number

module _ (h : Lent) (o : StepInput) where
  -- what holds of each outcome holds of what begins
  pub by_outcome : (P : Lent → Type 0) → P (with_soonest (clock_applied h (held_rows h.monitor) o h.monitor.count) 0)
      → P (with_soonest h (soonest_all h))
      → P h → P (deadlines_checked h o)
  by_outcome P late same none =
      split (ltb h.soonest o.time) (λ b. P (cond b (rows_expired h o) h))
      (λ _. split (ltb (soonest_all h) o.time)
      (λ b. P (cond b (with_soonest (clock_applied h (held_rows h.monitor) o h.monitor.count) 0) (with_soonest h (soonest_all h)))) (λ _. late)
      (λ _. same)) (λ _. none)

  pub begun_count : (deadlines_checked h o).monitor.count ≡ h.monitor.count
  begun_count = by_outcome (λ (x : Lent). x.monitor.count ≡ h.monitor.count)
      (ended_count h (held_rows h.monitor) o h.monitor.count) refl refl

  pub begun_lists : (deadlines_checked h o).lists ≡ h.lists
  begun_lists = by_outcome (λ (x : Lent). x.lists ≡ h.lists) (ended_lists h (held_rows h.monitor) o h.monitor.count) refl refl

  pub shaped_begun : Shaped h → Shaped (deadlines_checked h o)
  shaped_begun s =
      by_outcome Shaped (shaped_soonest (clock_applied h (held_rows h.monitor) o h.monitor.count) 0
      (shaped_ended h (held_rows h.monitor) o h.monitor.count s))
      (shaped_soonest h (soonest_all h) s) s
