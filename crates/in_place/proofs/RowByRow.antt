-- One row after the other of a list of rows takes a step. Where the others would be left as they are by it, that is the step of all rows.
use Rattle.in_place.proofs.Names.{RowUndo, Bool, Lent, List, Monitor, Row, [], ◌++◌, ◌<◌, ◌||◌, ◌∙◌, ◌∷◌, ◌≡◌, ◌≤◌, add-one, any_first, ap}
use Rattle.in_place.proofs.Names.{append-nil, ap₂, arith, both, cond, due_counted, false, full_marked, get_or, get_or-set_other, get_or-set_same}
use Rattle.in_place.proofs.Names.{is_in, kept_at, le_of_suc-le-suc, length, ltb, ltb-false, ltb-true, map_behind, map_first, no_row_undo, no_row}
use Rattle.in_place.proofs.Names.{not-suc-le-zero, numbers, or_false, refl, row_at, set, set-get_or, split, subst, suc, sym, true, with_row}
use Rattle.in_place.proofs.Names.{with_rows}
use Rattle.in_place.proofs.Names.{zero, zip_behind, zip_next, zip_none, zip_first, ℕ}
use Rattle.in_place.proofs.RowSets.{few_out, was_out}

-- ---- the first rows

module _ (f : Row → Row) where
  none_first : (rows : List Row) → map_first 0 f rows ≡ rows
  unfolding map_first
  none_first rows = refl

  one_more : (i : ℕ) (rows : List Row) (d : Row) → set (map_first i f rows) i (f (get_or (map_first i f rows) i d)) ≡ map_first (suc i) f rows
  unfolding map_first
  one_more zero [] d = refl
  one_more zero (r ∷ rows) d = refl
  one_more (suc i) [] d = refl
  one_more (suc i) (r ∷ rows) d = ap {B = List Row} (λ l. f r ∷ l) (one_more i rows d)

  -- a row that f leaves as it is
  none_more : (i : ℕ) (rows : List Row) (d : Row) → f (get_or rows i d) ≡ get_or rows i d → map_first i f rows ≡ map_first (suc i) f rows
  none_more i rows d e =
      let same : f (get_or (map_first i f rows) i d) ≡ get_or (map_first i f rows) i d = ap f (map_behind f rows i d) ∙ e
      ∙ sym (map_behind f rows i d) in
      sym (set-get_or (map_first i f rows) i d) ∙ ap (set (map_first i f rows) i) (sym same) ∙ one_more i rows d

  pub mapped : (n i : ℕ) (rows : List Row) (d : Row) → i < n → i < length rows → get_or (map_first n f rows) i d ≡ f (get_or rows i d)
  unfolding map_first
  mapped zero i rows d l there = absurd (omega arith)
  mapped (suc n) i [] d l there = absurd (omega arith)
  mapped (suc n) zero (r ∷ rows) d l there = refl
  mapped (suc n) (suc i) (r ∷ rows) d l there = mapped n i rows d (omega arith) (omega arith)

  pub map_length : (n : ℕ) (rows : List Row) → length (map_first n f rows) ≡ length rows
  unfolding map_first
  map_length zero rows = refl
  map_length (suc n) [] = refl
  map_length (suc n) (r ∷ rows) = ap suc (map_length n rows)

-- what g did beforehand makes no difference to f
pub map_twice : (f g : Row → Row) → ((r : Row) → f (g r) ≡ f r) → (n : ℕ) (rows : List Row) → map_first n f (map_first n g rows) ≡ map_first n f rows
unfolding map_first
map_twice f g same zero rows = refl
map_twice f g same (suc n) [] = refl
map_twice f g same (suc n) (r ∷ rows) =
    ap (λ (x : Row). x ∷ map_first n f (map_first n g rows)) (same r) ∙ ap {B = List Row} (λ l. f r ∷ l) (map_twice f g same n rows)

-- ---- what is kept of them

module _ (save : Row → RowUndo → RowUndo) where
  zip_more : (rows : List Row) (kept : List RowUndo) (i : ℕ) → i < length rows → i < length kept
      → set (zip_first i save rows kept) i (save (get_or rows i no_row) (get_or (zip_first i save rows kept) i no_row_undo)) ≡ zip_first
      (suc i) save rows kept
  zip_more rows kept i there too = zip_next save rows kept i no_row no_row_undo there too ∙ ap (λ (n : ℕ). zip_first n save rows kept) (add-one i)

  -- one that is left as it is
  zip_rests : (rows : List Row) (kept : List RowUndo) (i : ℕ) → i < length rows → i < length kept
      → save (get_or rows i no_row) (get_or kept i no_row_undo)
      ≡ get_or kept i no_row_undo
      → zip_first i save rows kept ≡ zip_first (suc i) save rows kept
  zip_rests rows kept i there too e =
      let behind = zip_behind save rows kept i no_row_undo in
      let same : save (get_or rows i no_row) (get_or (zip_first i save rows kept) i no_row_undo) ≡ get_or (zip_first i save rows kept) i no_row_undo =
      ap (save (get_or rows i no_row)) behind ∙ e ∙ sym behind in
      sym (set-get_or (zip_first i save rows kept) i no_row_undo) ∙ ap (set (zip_first i save rows kept) i) (sym same)
      ∙ zip_more rows kept i there too

  pub zipped : (n i : ℕ) (rows : List Row) (kept : List RowUndo) → i < n → i < length rows → i < length kept
      → get_or (zip_first n save rows kept) i no_row_undo ≡ save (get_or rows i no_row) (get_or kept i no_row_undo)
  unfolding zip_first
  zipped zero i rows kept l there too = absurd (omega arith)
  zipped (suc n) i [] kept l there too = absurd (omega arith)
  zipped (suc n) i (r ∷ rows) [] l there too = absurd (omega arith)
  zipped (suc n) zero (r ∷ rows) (b ∷ kept) l there too = refl
  zipped (suc n) (suc i) (r ∷ rows) (b ∷ kept) l there too = zipped n i rows kept (omega arith) (omega arith) (omega arith)

pub zip_twice : (save t : Row → RowUndo → RowUndo) (g : Row → Row) → ((r : Row) (b : RowUndo) → save (g r) (t r b) ≡ save r b)
    → (n : ℕ) (rows : List Row) (kept : List RowUndo)
    → zip_first n save (map_first n g rows) (zip_first n t rows kept) ≡ zip_first n save rows kept
unfolding map_first zip_first
zip_twice save t g same zero rows kept = refl
zip_twice save t g same (suc n) [] kept = refl
zip_twice save t g same (suc n) (r ∷ rows) [] = refl
zip_twice save t g same (suc n) (r ∷ rows) (b ∷ kept) =
    ap (λ (x : RowUndo). x ∷ zip_first n save (map_first n g rows) (zip_first n t rows kept)) (same r b)
    ∙ ap {B = List RowUndo} (λ l. save r b ∷ l) (zip_twice save t g same n rows kept)

-- ---- rows one after the other

-- what stands beside the rows, and does not change with them
pub record Beside (h x : Lent) : Type 0 where
  pub full_is : x.full ≡ h.full
  pub lists_are : x.lists ≡ h.lists

pub same_beside : (h : Lent) → Beside h h
same_beside h = record { full_is = refl; lists_are = refl }

-- below n + 1 is below n, or n
below : {P : Type 0} (i n : ℕ) → i < suc n → (i < n → P) → (i ≡ n → P) → P
below {P} i n l lower same = split (ltb i n) (λ b. P) (λ e. lower (ltb-true i n e)) (λ e. same (omega (arith, ltb-false i n e, l)))

module _ (f : Row → Row) (save : Row → RowUndo → RowUndo) where
  -- row i of a monitor and what is kept of it, the rows below it having had theirs
  pub row_more : (m x : Monitor) (i : ℕ) → i < length m.rows → length m.before ≡ length m.rows
      → x ≡ with_rows m (map_first i f m.rows) (zip_first i save m.rows m.before)
      → with_rows x (set x.rows i (f (row_at x i))) (set x.before i (save (row_at x i) (kept_at x i)))
      ≡ with_rows m (map_first (suc i) f m.rows) (zip_first (suc i) save m.rows m.before)
  row_more m x i there wide e =
      let kept : List RowUndo = zip_first i save m.rows m.before in
      ap (λ (y : Monitor). with_rows y (set y.rows i (f (row_at y i))) (set y.before i (save (row_at y i) (kept_at y i)))) e
      ∙ ap (λ (l : List Row). with_rows m l (set kept i (save (get_or (map_first i f m.rows) i no_row) (get_or kept i no_row_undo))))
      (one_more f i m.rows no_row)
      ∙ ap (λ (r : Row). with_rows m (map_first (suc i) f m.rows) (set kept i (save r (get_or kept i no_row_undo)))) (map_behind f m.rows i no_row)
      ∙ ap (with_rows m (map_first (suc i) f m.rows)) (zip_more save m.rows m.before i there (omega (arith, there, wide)))

  pub row_none : (m : Monitor) → m ≡ with_rows m (map_first 0 f m.rows) (zip_first 0 save m.rows m.before)
  row_none m = sym (ap₂ (with_rows m) (none_first f m.rows) (zip_none save m.rows m.before))

  -- row i of a lent monitor, what is kept of it, its due time counted in, and the row marked where it is nearly full
  abbrev pub visit : Lent → ℕ → Lent
  visit h i = full_marked (due_counted (with_row h i (f (row_at h.monitor i)) (save (row_at h.monitor i) (kept_at h.monitor i))) i) i

  abbrev pub visits : Lent → List ℕ → Lent
  visits h [] = h
  visits h (i ∷ is) = visits (visit h i) is

  pub visits_last : (is : List ℕ) (h : Lent) (i : ℕ) → visits h (is ++ (i ∷ [])) ≡ visit (visits h is) i
  visits_last [] h i = refl
  visits_last (j ∷ is) h i = visits_last is (visit h j) i

  pub visits_lists : (is : List ℕ) (h : Lent) → (visits h is).lists ≡ h.lists
  visits_lists [] h = refl
  visits_lists (j ∷ is) h = visits_lists is (visit h j)

  module _ (test : ℕ → Bool) (h : Lent) (kept_there : length h.monitor.before ≡ length h.monitor.rows) where
    abbrev rows : List Row
    rows = h.monitor.rows

    abbrev kept : List RowUndo
    kept = h.monitor.before

    abbrev row : ℕ → Row
    row i = row_at h.monitor i

    -- after the rows below n that pass the test
    pub record Visited (n : ℕ) (x : Lent) : Type 0 where
      pub monitor_is : x.monitor ≡ with_rows h.monitor (map_first n f rows) (zip_first n save rows kept)
      pub not_later : x.soonest ≤ h.soonest
      pub due_below : (i : ℕ) → i < n → x.soonest ≤ (f (row i)).now.due
      pub unmarked : (i : ℕ) → is_in x.full i ≡ false → is_in h.full i ≡ false
      pub marked : (i : ℕ) → i < n → test i ≡ true → is_in x.full i ≡ false → (f (row i)).now.len ≤ 62

    -- one more passes it
    goes : (n : ℕ) (x : Lent) → n < length rows → Visited n x → Visited (suc n) (visit x n)
    goes n x there so_far =
        let first : x.monitor.rows ≡ map_first n f rows = ap (λ (m : Monitor). m.rows) so_far.monitor_is in
        let before : row_at x.monitor n ≡ row n = ap (λ (l : List Row). get_or l n no_row) first ∙ map_behind f rows n no_row in
        let wide : length x.monitor.rows ≡ length rows = ap length first ∙ map_length f n rows in
        let after : row_at (visit x n).monitor n ≡ f (row n) =
        get_or-set_same x.monitor.rows n (f (row_at x.monitor n)) no_row (omega (arith, there, wide)) ∙ ap f before in
        let due : (visit x n).soonest ≤ (f (row n)).now.due = subst (λ (r : Row). (visit x n).soonest ≤ r.now.due) after (omega arith) in
        let less : (visit x n).soonest ≤ x.soonest = omega arith in
        record {
          monitor_is = row_more h.monitor x.monitor n there kept_there so_far.monitor_is;
          not_later = omega (arith, less, so_far.not_later);
          due_below = λ i l. below i n l (λ k. omega (arith, less, so_far.due_below i k))
              (λ e. subst (λ (j : ℕ). (visit x n).soonest ≤ (f (row j)).now.due) (sym e) due);
          unmarked = λ i out. so_far.unmarked i (was_out (row_at (visit x n).monitor n).now.len x.full n i out);
          marked = λ i l own out. below i n l
              (λ k. so_far.marked i k own (was_out (row_at (visit x n).monitor n).now.len x.full n i out))
              (λ e. subst (λ (j : ℕ). (f (row j)).now.len ≤ 62) (sym e) (subst (λ (r : Row). r.now.len ≤ 62) after
              (few_out (row_at (visit x n).monitor n).now.len x.full n (subst (λ (j : ℕ). is_in (visit x n).full j ≡ false) e out))));
        }

    -- one more does not, and is left as it is
    abbrev Rests : ℕ → Type 0
    Rests i = (f (row i) ≡ row i) × ((save (row i) (kept_at h.monitor i) ≡ kept_at h.monitor i) × (h.soonest ≤ (row i).now.due))

    rests : (n : ℕ) (x : Lent) → n < length rows → test n ≡ false → Rests n → Visited n x → Visited (suc n) x
    rests n x there out same so_far =
        record {
          monitor_is = so_far.monitor_is ∙ ap (λ (l : List Row). with_rows h.monitor l (zip_first n save rows kept))
              (none_more f n rows no_row same.0)
              ∙ ap (with_rows h.monitor (map_first (suc n) f rows))
              (zip_rests save rows kept n there (omega (arith, there, kept_there)) same.1.0);
          not_later = so_far.not_later;
          due_below = λ i l. below i n l (so_far.due_below i)
              (λ e. subst (λ (j : ℕ). x.soonest ≤ (f (row j)).now.due) (sym e)
              (subst (λ (r : Row). x.soonest ≤ r.now.due) (sym same.0) (omega (arith, same.1.1, so_far.not_later))));
          unmarked = so_far.unmarked;
          marked = λ i l own. below i n l (λ k. so_far.marked i k own) (λ e. both (sym own ∙ ap test e ∙ out));
        }

    pub visited : (n : ℕ) → n ≤ length rows → ((i : ℕ) → i < n → test i ≡ false → Rests i) → Visited n (visits h (numbers test n))
    visited zero there others =
        record {
          monitor_is = row_none h.monitor;
          not_later = omega arith;
          due_below = λ i l. absurd (omega (arith, l));
          unmarked = λ i out. out;
          marked = λ i l. absurd (omega (arith, l));
        }
    visited (suc n) there others =
        let so_far = visited n (omega (arith, there)) (λ i l. others i (omega (arith, l))) in
        split (test n) (λ b. Visited (suc n) (visits h (numbers test n ++ cond b (n ∷ []) [])))
        (λ e. subst (Visited (suc n)) (sym (visits_last (numbers test n) h n)) (goes n (visits h (numbers test n)) (omega (arith, there)) so_far))
        (λ e. subst (λ (l : List ℕ). Visited (suc n) (visits h l)) (sym (append-nil (numbers test n)))
        (rests n (visits h (numbers test n)) (omega (arith, there)) e (others n (omega arith) e) so_far))

-- ---- by other functions that do the same

module _ (f g : Row → Row) (save keep : Row → RowUndo → RowUndo) (test : ℕ → Bool) (h : Lent) where
  -- row j after the visits of rows below n, where it is not one of them
  behind : (j n : ℕ) → n ≤ j → (row_at (visits f save h (numbers test n)).monitor j ≡ row_at h.monitor j)
      × (kept_at (visits f save h (numbers test n)).monitor j ≡ kept_at h.monitor j)
  behind j zero l = (refl, refl)
  behind j (suc n) l =
      let so_far = behind j n (omega (arith, l)) in
      split (test n)
      (λ b. (row_at (visits f save h (numbers test n ++ cond b (n ∷ []) [])).monitor j ≡ row_at h.monitor j)
      × (kept_at (visits f save h (numbers test n ++ cond b (n ∷ []) [])).monitor j ≡ kept_at h.monitor j))
      (λ e.
      let x : Lent = visits f save h (numbers test n) in
      let last = visits_last f save (numbers test n) h n in (
        ap (λ (y : Lent). row_at y.monitor j) last
            ∙ get_or-set_other x.monitor.rows n j (f (row_at x.monitor n)) no_row (λ same. omega (arith, same, l)) ∙ so_far.0,
        ap (λ (y : Lent). kept_at y.monitor j) last
            ∙ get_or-set_other x.monitor.before n j (save (row_at x.monitor n) (kept_at x.monitor n)) no_row_undo (λ same. omega (arith, same, l))
            ∙ so_far.1,
      ))
      (λ e. (
        ap (λ (l' : List ℕ). row_at (visits f save h l').monitor j) (append-nil (numbers test n)) ∙ so_far.0,
        ap (λ (l' : List ℕ). kept_at (visits f save h l').monitor j) (append-nil (numbers test n)) ∙ so_far.1,
      ))

  pub visits_same : (n : ℕ) → ((i : ℕ) → i < n → test i ≡ true
      → (f (row_at h.monitor i) ≡ g (row_at h.monitor i))
      × (save (row_at h.monitor i) (kept_at h.monitor i) ≡ keep (row_at h.monitor i) (kept_at h.monitor i)))
      → visits f save h (numbers test n) ≡ visits g keep h (numbers test n)
  visits_same zero same = refl
  visits_same (suc n) same =
      let so_far = visits_same n (λ i l. same i (omega (arith, l))) in
      split (test n) (λ b. test n ≡ b → visits f save h (numbers test n ++ cond b (n ∷ []) [])
      ≡ visits g keep h (numbers test n ++ cond b (n ∷ []) []))
      (λ _ e.
      let x : Lent = visits f save h (numbers test n) in
      let there = behind n n (omega arith) in
      let now = same n (omega arith) e in
      let row : f (row_at x.monitor n) ≡ g (row_at x.monitor n) = ap f there.0 ∙ now.0 ∙ ap g (sym there.0) in
      let kept : save (row_at x.monitor n) (kept_at x.monitor n) ≡ keep (row_at x.monitor n) (kept_at x.monitor n) =
      ap₂ save there.0 there.1 ∙ now.1 ∙ ap₂ keep (sym there.0) (sym there.1) in
      visits_last f save (numbers test n) h n
      ∙ ap₂ (λ (r : Row) (b : RowUndo). full_marked (due_counted (with_row x n r b) n) n) row kept
      ∙ ap (λ (y : Lent). visit g keep y n) so_far
      ∙ sym (visits_last g keep (numbers test n) h n))
      (λ _ e. ap (visits f save h) (append-nil (numbers test n)) ∙ so_far ∙ ap (visits g keep h) (sym (append-nil (numbers test n)))) refl

-- ---- one of them has a mark

none_crowded : (f : Row → Bool) (rows : List Row) → any_first 0 f rows ≡ false
unfolding any_first
none_crowded f rows = refl

or_none : (b : Bool) → (b || false) ≡ b
or_none true = refl
or_none false = refl

or_assoc : (a b c : Bool) → (a || (b || c)) ≡ ((a || b) || c)
or_assoc true b c = refl
or_assoc false b c = refl

any_suc : (f : Row → Bool) (rows : List Row) (n : ℕ) (d : Row) → n < length rows
    → any_first (suc n) f rows ≡ (any_first n f rows || f (get_or rows n d))
unfolding any_first
any_suc f [] n d l = absurd (not-suc-le-zero l)
any_suc f (r ∷ rows) zero d l = or_none (f r)
any_suc f (r ∷ rows) (suc n) d l =
    ap (λ (b : Bool). f r || b) (any_suc f rows n d (le_of_suc-le-suc l)) ∙ or_assoc (f r) (any_first n f rows) (f (get_or rows n d))

-- where none has the mark, row i has it not
pub any_none : (f : Row → Bool) (n i : ℕ) (rows : List Row) (d : Row) → any_first n f rows ≡ false → i < n → i < length rows → f (get_or rows i d)
    ≡ false
unfolding any_first
any_none f zero i rows d e l there = absurd (omega (arith, l))
any_none f (suc n) i [] d e l there = absurd (omega (arith, there))
any_none f (suc n) zero (r ∷ rows) d e l there = (or_false (f r) (any_first n f rows) e).0
any_none f (suc n) (suc i) (r ∷ rows) d e l there =
    any_none f n i rows d (or_false (f r) (any_first n f rows) e).1 (omega (arith, l)) (omega (arith, there))

module _ (q : ℕ → Bool) where
  abbrev pub any_in : List ℕ → Bool
  any_in [] = false
  any_in (i ∷ is) = q i || any_in is

  pub any_last : (is : List ℕ) (i : ℕ) → any_in (is ++ (i ∷ [])) ≡ (any_in is || q i)
  any_last [] i = or_none (q i)
  any_last (j ∷ is) i = ap (λ (b : Bool). q j || b) (any_last is i) ∙ or_assoc (q j) (any_in is) (q i)

-- the same mark of those that pass the test
pub any_same : (p q : ℕ → Bool) (test : ℕ → Bool) (n : ℕ) → ((i : ℕ) → i < n → test i ≡ true → p i ≡ q i)
    → any_in p (numbers test n) ≡ any_in q (numbers test n)
any_same p q test zero same = refl
any_same p q test (suc n) same =
    let so_far = any_same p q test n (λ i l. same i (omega (arith, l))) in
    split (test n) (λ b. any_in p (numbers test n ++ cond b (n ∷ []) []) ≡ any_in q (numbers test n ++ cond b (n ∷ []) []))
    (λ e. any_last p (numbers test n) n ∙ ap₂ (λ (a b : Bool). a || b) so_far (same n (omega arith) e) ∙ sym (any_last q (numbers test n) n))
    (λ e. ap (any_in p) (append-nil (numbers test n)) ∙ so_far ∙ ap (any_in q) (sym (append-nil (numbers test n))))

-- a mark that only rows have that pass the test
pub any_numbers : (mark : Row → Bool) (test : ℕ → Bool) (rows : List Row) (n : ℕ) → n ≤ length rows
    → ((i : ℕ) → i < n → test i ≡ false → mark (get_or rows i no_row) ≡ false)
    → any_in (λ i. mark (get_or rows i no_row)) (numbers test n) ≡ any_first n mark rows
any_numbers mark test rows zero there others = sym (none_crowded mark rows)
any_numbers mark test rows (suc n) there others =
    let so_far = any_numbers mark test rows n (omega (arith, there)) (λ i l. others i (omega (arith, l))) in
    split (test n) (λ b. any_in (λ i. mark (get_or rows i no_row)) (numbers test n ++ cond b (n ∷ []) []) ≡ any_first (suc n) mark rows)
    (λ e. any_last (λ i. mark (get_or rows i no_row)) (numbers test n) n ∙ ap (λ (b : Bool). b || mark (get_or rows n no_row)) so_far
    ∙ sym (any_suc mark rows n no_row (omega (arith, there))))
    (λ e. ap (any_in (λ i. mark (get_or rows i no_row))) (append-nil (numbers test n)) ∙ so_far ∙ sym (or_none (any_first n mark rows))
    ∙ ap (λ (b : Bool). any_first n mark rows || b) (sym (others n (omega arith) e)) ∙ sym (any_suc mark rows n no_row (omega (arith, there))))
