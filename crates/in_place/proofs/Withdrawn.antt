-- A withdrawal puts each row back, and the numbers beside them. The rows keep their rules, so that the lists are theirs; what waits in one now
-- waited in it before, or nothing is kept of it; and no row is due before time 0.
use Rattle.in_place.proofs.Names.{RowUndo, Bool, FullSound, Indexes, Lent, List, Monitor, Row, Parameters, SoundNumbers, State, [], ◌<◌, ◌∙◌}
use Rattle.in_place.proofs.Names.{◌∷◌}
use Rattle.in_place.proofs.Names.{◌≡◌, ◌≤◌, add-one, ap, arith, back_row, both, rows_undone, concerns, cond, eqb, false, get_or, held_rows, is_in}
use Rattle.in_place.proofs.Names.{is_of}
use Rattle.in_place.proofs.Names.{kept_state, kept_at, kept_without, length, length-set, no_row_undo, no_event, no_row, no_state, place_in, refl}
use Rattle.in_place.proofs.Names.{row_at}
use Rattle.in_place.proofs.Names.{row_limit, row_without, rows_without, set, set_of, subst, suc, sym, true, restored_monitor, with_next, withdrawn}
use Rattle.in_place.proofs.Names.{withdrawn_lent, without_all, without_next, without_none, without_state, zero, zip_length, zip_first, ℕ}
use Rattle.in_place.proofs.{Parts.shaped_backed, RowSets.in_all}

-- ---- the rows put back

back_lists : (h : Lent) (n number : ℕ) → (rows_undone h n number).lists ≡ h.lists
back_lists h zero number = refl
back_lists h (suc n) number = back_lists h n number

module _ (h : Lent) (whole : length h.monitor.rows ≡ row_limit) (wide : length h.monitor.before ≡ row_limit) where
  back_rows : (number n : ℕ) → n ≤ row_limit → (rows_undone h n number).monitor ≡ rows_without h.monitor n number
  back_rows number zero l = sym (without_none number h.monitor whole wide)
  back_rows number (suc n) l =
      without_next number h.monitor whole wide (rows_undone h n number).monitor n (back_rows number n (omega (arith, l)))
      (omega (arith, l)) no_row no_row_undo _ _ refl refl
      ∙ ap (λ (k : ℕ). rows_without h.monitor k number) (add-one n)

  pub withdrawn_is : (withdrawn_lent h).monitor ≡ withdrawn h.monitor
  unfolding withdrawn
  withdrawn_is =
      ap (λ (m : Monitor). restored_monitor (with_next
      (record { monitor = m; soonest = h.soonest; full = h.full; lists = h.lists })
      (set m.next (place_in m.undo.place) m.undo.next)).monitor)
      (back_rows h.monitor.count (held_rows h.monitor) (omega arith)
      ∙ without_all h.monitor.count h.monitor whole wide (held_rows h.monitor) refl)

-- ---- a row without a step

parameters_by : (b : Bool) (x y : Row) → x.parameters ≡ y.parameters → (cond {A = Row} b x y).parameters ≡ y.parameters
parameters_by true x y e = e
parameters_by false x y e = refl

without_parameters : (number : ℕ) (r : Row) (b : RowUndo) → (row_without number r b).parameters ≡ r.parameters
unfolding row_without back_row
without_parameters number r b = parameters_by (eqb b.step number) (back_row r b) r refl

rows_parameters : (number n : ℕ) (kept : List RowUndo) (rows : List Row) (i : ℕ)
    → (get_or (zip_first n (λ b r. row_without number r b) kept rows) i no_row).parameters ≡ (get_or rows i no_row).parameters
unfolding zip_first
rows_parameters number zero kept rows i = refl
rows_parameters number (suc n) [] rows i = refl
rows_parameters number (suc n) (b ∷ kept) [] i = refl
rows_parameters number (suc n) (b ∷ kept) (r ∷ rows) zero = without_parameters number r b
rows_parameters number (suc n) (b ∷ kept) (r ∷ rows) (suc i) = rows_parameters number n kept rows i

-- what holds of a row's state, now and before, holds of the one that is put back; what holds of the one before, and of none, of the one that is
-- kept then
module _ (P : State → Type 0) (number : ℕ) where
  rows_now : (n : ℕ) (kept : List RowUndo) (rows : List Row) (i : ℕ) → P (get_or rows i no_row).now → P (get_or kept i no_row_undo).state
      → P (get_or (zip_first n (λ b r. row_without number r b) kept rows) i no_row).now
  unfolding zip_first
  rows_now zero kept rows i now then = now
  rows_now (suc n) [] rows i now then = now
  rows_now (suc n) (b ∷ kept) [] i now then = now
  rows_now (suc n) (b ∷ kept) (r ∷ rows) zero now then = without_state P number r b now then
  rows_now (suc n) (b ∷ kept) (r ∷ rows) (suc i) now then = rows_now n kept rows i now then

  rows_then : (n : ℕ) (rows : List Row) (kept : List RowUndo) (i : ℕ) → P (get_or kept i no_row_undo).state → P no_state
      → P (get_or (zip_first n (λ r b. kept_without number b) rows kept) i no_row_undo).state
  unfolding zip_first
  rows_then zero rows kept i then none = then
  rows_then (suc n) [] kept i then none = then
  rows_then (suc n) (r ∷ rows) [] i then none = then
  rows_then (suc n) (r ∷ rows) (b ∷ kept) zero then none = kept_state P number b then none
  rows_then (suc n) (r ∷ rows) (b ∷ kept) (suc i) then none = rows_then n rows kept i then none

-- ---- the words agree with the monitor after it

module _ (m : Monitor) where
  same_rules : (i : ℕ) → (row_at (withdrawn m) i).parameters ≡ (row_at m i).parameters
  unfolding withdrawn
  same_rules i = rows_parameters m.count m.len m.before m.rows i

  same_held : held_rows (withdrawn m) ≡ held_rows m
  unfolding withdrawn
  same_held = refl

  back_now : (P : State → Type 0) (i : ℕ) → P (row_at m i).now → P (kept_at m i).state → P (row_at (withdrawn m) i).now
  unfolding withdrawn
  back_now P i now then = rows_now P m.count m.len m.before m.rows i now then

  back_then : (P : State → Type 0) (i : ℕ) → P (kept_at m i).state → P no_state → P (kept_at (withdrawn m) i).state
  unfolding withdrawn
  back_then P i then none = rows_then P m.count m.len m.rows m.before i then none

  rows_long : length (withdrawn m).rows ≡ length m.rows
  unfolding withdrawn
  rows_long = zip_length (λ b r. row_without m.count r b) m.before m.rows m.len

  kept_long : length (withdrawn m).before ≡ length m.before
  unfolding withdrawn
  kept_long = zip_length (λ r b. kept_without m.count b) m.rows m.before m.len

  next_long : length (withdrawn m).next ≡ length m.next
  unfolding withdrawn
  next_long = length-set m.next (place_in m.undo.place) m.undo.next

  back_sound : SoundNumbers m → SoundNumbers (withdrawn m)
  unfolding withdrawn
  back_sound s = record { rows_few = s.rows_few; closed_mark = s.closed_then; closed_then = omega arith }

module _ (h : Lent) (ix : Indexes h) where
  abbrev x : Lent
  x = withdrawn_lent h

  abbrev m₀ : Monitor
  m₀ = h.monitor

  same_lists : x.lists ≡ h.lists
  same_lists = back_lists h (held_rows m₀) m₀.count

  is : x.monitor ≡ withdrawn m₀
  is = withdrawn_is h ix.shaped.rows_there ix.shaped.kept_there

  -- what holds of each row of the monitor with the step withdrawn
  each : (P : Monitor → ℕ → Type 0) → ((i : ℕ) → i < held_rows m₀ → P (withdrawn m₀) i) → (i : ℕ) → i < held_rows x.monitor → P x.monitor i
  each P so i l = subst (λ (y : Monitor). P y i) (sym is) (so i (subst (λ (k : ℕ). i < k) (ap held_rows is ∙ same_held m₀) l))

  roomy_back : FullSound x
  roomy_back =
      record {
        now_few = each (λ y i. (row_at y i).now.len ≤ 64)
            (λ i l. back_now m₀ (λ s. s.len ≤ 64) i (ix.roomy.now_few i l) (ix.roomy.then_few i l));
        then_few = each (λ y i. (kept_at y i).state.len ≤ 64) (λ i l. back_then m₀ (λ s. s.len ≤ 64) i (ix.roomy.then_few i l) (omega arith));
        has_room = λ i l out. both (sym (in_all i (omega (arith, l))) ∙ out);
      }

  same_kinds : (kind i : ℕ) → is_of m₀ kind i ≡ is_of (withdrawn m₀) kind i
  same_kinds kind i = ap (λ (r : Parameters). concerns r kind) (sym (same_rules m₀ i))

  same_set : (kind i : ℕ) → is_in (set_of x kind) i ≡ is_in (set_of h kind) i
  same_set kind i = ap (λ (lists : List ℕ). is_in (get_or lists kind 0) i) same_lists

  pub withdrawn_indexes : Indexes x
  withdrawn_indexes =
      record {
        shaped = record {
          rows_there = ap (λ (y : Monitor). length y.rows) is ∙ rows_long m₀ ∙ ix.shaped.rows_there;
          kept_there = ap (λ (y : Monitor). length y.before) is ∙ kept_long m₀ ∙ ix.shaped.kept_there;
          next_there = ap (λ (y : Monitor). length y.next) is ∙ next_long m₀ ∙ ix.shaped.next_there;
          lists_there = ap length same_lists ∙ ix.shaped.lists_there;
          rest_zero = (shaped_backed h (held_rows m₀) m₀.count ix.shaped).rest_zero;
        };
        sound = subst SoundNumbers (sym is) (back_sound m₀ ix.sound);
        listed = λ kind i small. each (λ y i. is_in (set_of x kind) i ≡ is_of y kind i)
            (λ i l. same_set kind i ∙ ix.listed kind i small l ∙ same_kinds kind i) i;
        no_others = λ kind i small from l. same_set kind i ∙ ix.no_others kind i small (omega (arith, from, ap held_rows is ∙ same_held m₀)) l;
        no_ticks = each (λ y i. is_of y no_event i ≡ false) (λ i l. sym (same_kinds no_event i) ∙ ix.no_ticks i l);
        no_sooner = λ i _. omega arith;
        roomy = roomy_back;
      }
