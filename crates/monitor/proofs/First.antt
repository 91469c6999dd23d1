-- What is done to the first rows of a list is done to one after the other, and to no more of them than there are.
use Rattle.monitor.proofs.Names.{RowUndo, Bool, List, Monitor, StepInput, Row, RowStep, RowsAfter, [], ◌+◌, ◌<◌, ◌||◌, ◌∙◌, ◌∷◌, ◌≡◌, add-one}
use Rattle.monitor.proofs.Names.{any_first, ap, ap₂, arith, both, false, get_or, kept_without, length, map_first, min, or_false, refl, row_limit}
use Rattle.monitor.proofs.Names.{row_step, row_without, rows_without, saved_by, set, stepped_rows, suc, sym, true, with_rows, zero, zip_first, ℕ}

-- ---- each of them changed

module _ (f : Row → Row) where
  pub map_behind : (rows : List Row) (n : ℕ) (other : Row) → get_or (map_first n f rows) n other ≡ get_or rows n other
  unfolding map_first
  map_behind rows zero other = refl
  map_behind [] (suc n) other = refl
  map_behind (r ∷ rows) (suc n) other = map_behind rows n other

  map_suc : (rows : List Row) (n : ℕ) (other : Row) → n < length rows
      → set (map_first n f rows) n (f (get_or rows n other)) ≡ map_first (suc n) f rows
  unfolding map_first
  map_suc [] n other h = absurd (omega arith)
  map_suc (r ∷ rows) zero other h = refl
  map_suc (r ∷ rows) (suc n) other h = ap (λ (later : List Row). f r ∷ later) (map_suc rows n other (omega arith))

  -- the row behind the first n, changed too
  pub map_next : (rows : List Row) (n : ℕ) (other : Row) → n < length rows → set (map_first n f rows) n (f (get_or (map_first n f rows) n other))
      ≡ map_first (n + 1) f rows
  map_next rows n other h = rw (map_behind rows n other, add-one n) (map_suc rows n other h)

  pub map_all : (rows : List Row) (n m : ℕ) → n ≡ min m (length rows) → map_first n f rows ≡ map_first m f rows
  unfolding map_first
  map_all [] zero zero e = refl
  map_all [] zero (suc m) e = refl
  map_all [] (suc n) m e = absurd (omega arith)
  map_all (r ∷ rows) zero zero e = refl
  map_all (r ∷ rows) zero (suc m) e = absurd (omega arith)
  map_all (r ∷ rows) (suc n) zero e = absurd (omega arith)
  map_all (r ∷ rows) (suc n) (suc m) e = ap (λ (later : List Row). f r ∷ later) (map_all rows n m (omega arith))

-- ---- one of them has a mark

module _ (f : Row → Bool) where
  pub any_found : (rows : List Row) (n i : ℕ) (other : Row) → i < n → i < length rows → f (get_or rows i other) ≡ true → any_first n f rows ≡ true
  unfolding any_first
  any_found rows zero i other h l e = absurd (omega arith)
  any_found [] (suc n) i other h l e = absurd (omega arith)
  any_found (r ∷ rows) (suc n) zero other h l e = rw e
  any_found (r ∷ rows) (suc n) (suc i) other h l e = rw (any_found rows n i other (omega arith) (omega arith) e) (right (f r))
    where
      right : (b : Bool) → (b || true) ≡ true
      right true = refl
      right false = refl

  any_suc : (rows : List Row) (n : ℕ) (other : Row) → n < length rows → any_first n f rows ≡ false → f (get_or rows n other) ≡ false
      → any_first (suc n) f rows ≡ false
  unfolding any_first
  any_suc [] n other h none e = absurd (omega arith)
  any_suc (r ∷ rows) zero other h none e = rw e
  any_suc (r ∷ rows) (suc n) other h none e =
      let parts = or_false (f r) (any_first n f rows) none in
      rw parts.0 (any_suc rows n other (omega arith) parts.1 e)

  -- nor has the row behind the first n
  pub any_next : (rows : List Row) (n : ℕ) (other : Row) → n < length rows → any_first n f rows ≡ false → f (get_or rows n other) ≡ false
      → any_first (n + 1) f rows ≡ false
  any_next rows n other h none e = rw (add-one n) (any_suc rows n other h none e)

  pub any_all : (rows : List Row) (n m : ℕ) → n ≡ min m (length rows) → any_first n f rows ≡ any_first m f rows
  unfolding any_first
  any_all [] zero zero e = refl
  any_all [] zero (suc m) e = refl
  any_all [] (suc n) m e = absurd (omega arith)
  any_all (r ∷ rows) zero zero e = refl
  any_all (r ∷ rows) zero (suc m) e = absurd (omega arith)
  any_all (r ∷ rows) (suc n) zero e = absurd (omega arith)
  any_all (r ∷ rows) (suc n) (suc m) e = ap (λ (later : Bool). f r || later) (any_all rows n m (omega arith))

-- ---- each changed by its neighbour in another list

module _ {A B : Type 0} (f : A → B → B) where
  pub zip_none : (others : List A) (list : List B) → zip_first 0 f others list ≡ list
  unfolding zip_first
  zip_none others list = refl

  pub zip_behind : (others : List A) (list : List B) (n : ℕ) (other : B) → get_or (zip_first n f others list) n other ≡ get_or list n other
  unfolding zip_first
  zip_behind others list zero other = refl
  zip_behind [] list (suc n) other = refl
  zip_behind (a ∷ others) [] (suc n) other = refl
  zip_behind (a ∷ others) (b ∷ list) (suc n) other = zip_behind others list n other

  zip_suc : (others : List A) (list : List B) (n : ℕ) (x : A) (other : B) → n < length others → n < length list
      → set (zip_first n f others list) n (f (get_or others n x) (get_or list n other)) ≡ zip_first (suc n) f others list
  unfolding zip_first
  zip_suc [] list n x other h l = absurd (omega arith)
  zip_suc (a ∷ others) [] n x other h l = absurd (omega arith)
  zip_suc (a ∷ others) (b ∷ list) zero x other h l = refl
  zip_suc (a ∷ others) (b ∷ list) (suc n) x other h l =
      ap (λ (later : List B). f a b ∷ later) (zip_suc others list n x other (omega arith) (omega arith))

  -- the one behind the first n, changed too
  pub zip_next : (others : List A) (list : List B) (n : ℕ) (x : A) (other : B) → n < length others → n < length list
      → set (zip_first n f others list) n (f (get_or others n x) (get_or (zip_first n f others list) n other)) ≡ zip_first (n + 1) f others list
  zip_next others list n x other h l = rw (zip_behind others list n other, add-one n) (zip_suc others list n x other h l)

  pub zip_all : (others : List A) (list : List B) (n m : ℕ) → n ≡ min m (length others) → zip_first n f others list ≡ zip_first m f others list
  unfolding zip_first
  zip_all [] list zero zero e = refl
  zip_all [] list zero (suc m) e = refl
  zip_all [] list (suc n) m e = absurd (omega arith)
  zip_all (a ∷ others) list zero zero e = refl
  zip_all (a ∷ others) list zero (suc m) e = absurd (omega arith)
  zip_all (a ∷ others) list (suc n) zero e = absurd (omega arith)
  zip_all (a ∷ others) [] (suc n) (suc m) e = refl
  zip_all (a ∷ others) (b ∷ list) (suc n) (suc m) e = ap (λ (later : List B). f a b ∷ later) (zip_all others list n m (omega arith))

  pub zip_length : (others : List A) (list : List B) (n : ℕ) → length (zip_first n f others list) ≡ length list
  unfolding zip_first
  zip_length others list zero = refl
  zip_length [] list (suc n) = refl
  zip_length (a ∷ others) [] (suc n) = refl
  zip_length (a ∷ others) (b ∷ list) (suc n) = ap suc (zip_length others list n)

-- ---- a step given to the first n rows of a monitor

module _ (o : StepInput) (number : ℕ) where
  -- a row after the step, and whether it crowds it
  abbrev moved : Row → Row
  moved r = (row_step r o number).row

  abbrev full : Row → Bool
  full r = (row_step r o number).crowded

  -- it crowds none of them
  pub record Moved (m now : Monitor) (n : ℕ) : Type 0 where
    pub changed : now ≡ stepped_rows m n o number
    pub none_full : any_first n full m.rows ≡ false

  pub moved_none : (m : Monitor) → Moved m m 0
  unfolding map_first any_first zip_first
  moved_none m = record { changed = refl; none_full = refl }

  module _ (m : Monitor) (whole : length m.rows ≡ row_limit) (now : Monitor) (n : ℕ) (so_far : Moved m now n) where
    -- the next row is as it was
    not_changed : (other : Row) → get_or now.rows n other ≡ get_or m.rows n other
    not_changed other = ap (λ (x : Monitor). get_or x.rows n other) so_far.changed ∙ map_behind moved m.rows n other

    -- its mark
    mark : (other : Row) (s : RowStep) → s ≡ row_step (get_or now.rows n other) o number → full (get_or m.rows n other) ≡ s.crowded
    mark other s e = sym (ap (λ (x : RowStep). x.crowded) e ∙ ap full (not_changed other))

    -- it crowds the next row
    pub moved_full : (other : Row) (s : RowStep) → n < min m.len row_limit → s ≡ row_step (get_or now.rows n other) o number → s.crowded ≡ true
        → RowsAfter m o number (record { crowded = true; monitor = m })
    moved_full other s h e crowded =
        record {
          crowded_is = sym (any_found full m.rows m.len n other (omega arith) (omega arith) (mark other s e ∙ crowded));
          stepped = λ f. both f;
          as_it_was = λ f. refl;
        }

    -- nor does it crowd the next row
    pub moved_next : length m.before ≡ row_limit → (other : Row) (none : RowUndo) (s : RowStep) (saved : RowUndo) → n < min m.len row_limit
        → s ≡ row_step (get_or now.rows n other) o number → saved ≡ saved_by o number (get_or now.rows n other) (get_or now.before n none)
        → s.crowded ≡ false
        → Moved m (with_rows now (set now.rows n s.row) (set now.before n saved)) (n + 1)
    moved_next wide other none s saved h e k free =
        record {
          changed =
              ap₂ (λ (r : Row) (b : RowUndo). with_rows now (set now.rows n r) (set now.before n b)) (ap (λ (x : RowStep). x.row) e)
              (k ∙ ap (λ (r : Row). saved_by o number r (get_or now.before n none)) (not_changed other))
              ∙ ap (λ (x : Monitor). with_rows x (set x.rows n (moved (get_or x.rows n other)))
              (set x.before n (saved_by o number (get_or m.rows n other) (get_or x.before n none)))) so_far.changed
              ∙ ap₂ (with_rows m) (map_next moved m.rows n other (omega arith))
              (zip_next (saved_by o number) m.rows m.before n other none (omega arith) (omega arith));
          none_full = any_next full m.rows n other (omega arith) so_far.none_full (mark other s e ∙ free);
        }

    -- nor any of them
    pub moved_all : n ≡ min m.len row_limit → RowsAfter m o number (record { crowded = false; monitor = now })
    moved_all e =
        record {
          crowded_is = sym (sym (any_all full m.rows n m.len (omega arith)) ∙ so_far.none_full);
          stepped = λ f. so_far.changed
              ∙ ap₂ (with_rows m) (map_all moved m.rows n m.len (omega arith))
              (zip_all (saved_by o number) m.rows m.before n m.len (omega arith));
          as_it_was = λ f. both (sym f);
        }

-- ---- the first n rows of a monitor without a step

module _ (number : ℕ) (m : Monitor) (whole : length m.rows ≡ row_limit) (wide : length m.before ≡ row_limit) where
  abbrev back : RowUndo → Row → Row
  back b r = row_without number r b

  abbrev kept : Row → RowUndo → RowUndo
  kept r b = kept_without number b

  pub without_none : rows_without m 0 number ≡ m
  unfolding zip_first
  without_none = refl

  pub without_next : (now : Monitor) (n : ℕ) → now ≡ rows_without m n number → n < row_limit → (other : Row) (none : RowUndo) (r : Row) (b : RowUndo)
      → r ≡ row_without number (get_or now.rows n other) (get_or now.before n none) → b ≡ kept_without number (get_or now.before n none)
      → with_rows now (set now.rows n r) (set now.before n b) ≡ rows_without m (n + 1) number
  without_next now n e h other none r b r_is b-is =
      let same : get_or now.before n none ≡ get_or m.before n none
      = ap (λ (x : Monitor). get_or x.before n none) e ∙ zip_behind kept m.rows m.before n none in
      ap₂ (λ (x : Row) (y : RowUndo). with_rows now (set now.rows n x) (set now.before n y))
      (r_is ∙ ap (row_without number (get_or now.rows n other)) same) b-is
      ∙ ap (λ (x : Monitor). with_rows x (set x.rows n (row_without number (get_or x.rows n other) (get_or m.before n none)))
      (set x.before n (kept_without number (get_or x.before n none)))) e
      ∙ ap₂ (with_rows m) (zip_next back m.before m.rows n none other (omega arith) (omega arith))
      (zip_next kept m.rows m.before n other none (omega arith) (omega arith))

  pub without_all : (n : ℕ) → n ≡ min m.len row_limit → rows_without m n number ≡ rows_without m m.len number
  without_all n e =
      ap₂ (with_rows m) (zip_all back m.before m.rows n m.len (omega arith)) (zip_all kept m.rows m.before n m.len (omega arith))
