-- A call goes to the rows of its kind, after the clock and the close have done their part. Where the lists are the monitor's that is the step of
-- all rows: a row that is not listed is not concerned, so that it is changed by that part alone; one that is applies the event, as it has room.
use Rattle.in_place.proofs.Names.{RowUndo, Bool, FullSound, Indexes, Lent, List, Monitor, StepInput, Row, Parameters, Shaped, SoundNumbers, []}
use Rattle.in_place.proofs.Names.{◌<◌, ◌∙◌, ◌∷◌, ◌≡◌, ◌≤◌, ap, arith, deadlines_checked, concerns, cond, crowds, due_at, clock_applied}
use Rattle.in_place.proofs.Names.{dispatched, dispatched_to, ended_row, ended_saves, event_row, event_saves, false, get_or, held_rows, is_in, is_of}
use Rattle.in_place.proofs.Names.{kept_at}
use Rattle.in_place.proofs.Names.{le-ltb, length, ltb, ltb-false, ltb-true, map_first, moves_by, no_row_undo, no_event, no_row, numbers, rows_expired}
use Rattle.in_place.proofs.Names.{refl}
use Rattle.in_place.proofs.Names.{row_at, rows_in, rows_of_kind, parameters_stays, saved_few, set_of, soonest_all, soonest_of, split, step_few, still}
use Rattle.in_place.proofs.Names.{subst, suc}
use Rattle.in_place.proofs.Names.{sym, true, up_to_four, with_full, with_rows, with_soonest, zero, zip_length, zip_first, ℕ}
use Rattle.in_place.proofs.Concerned.{applied_late, applied_moved, ended_late, late, late_first, late_saves, late_saves_first, late_still}
use Rattle.in_place.proofs.Concerned.{late_unsaved, moved, no_ends, saved_late, saves, unconcerned, unsaved}
use Rattle.in_place.proofs.RowByRow.{Beside, map_length, map_twice, mapped, row_more, row_none, same_beside, visits, visits_lists, visits_same}
use Rattle.in_place.proofs.RowByRow.{zip_twice, zipped}
use Rattle.in_place.proofs.RowSets.{numbers_below, same_numbers}
use Rattle.in_place.proofs.RowByRow as Following

-- ---- the rows that are listed

-- the rows of a kind are those that it concerns
pub rows_listed : (h : Lent) → Indexes h → (kind : ℕ) → kind < 64 → rows_of_kind h kind ≡ numbers (is_of h.monitor kind) (held_rows h.monitor)
unfolding rows_in
rows_listed h ix kind small =
    let n : ℕ = held_rows h.monitor in
    numbers_below (is_in (set_of h kind)) n 32 (omega arith) (λ i from l. ix.no_others kind i small from l)
    ∙ same_numbers (is_in (set_of h kind)) (is_of h.monitor kind) n (λ i l. ix.listed kind i small l)

-- ---- the parts of a call as visits

list_visits : (o : StepInput) (number : ℕ) (rows : List ℕ) (h : Lent)
    → dispatched h rows o number ≡ visits (event_row o number) (event_saves o number) h rows
list_visits o number [] h = refl
list_visits o number (i ∷ rows) h = list_visits o number rows (dispatched_to h i o number)

ended_beside : (h : Lent) (n : ℕ) (o : StepInput) (number : ℕ) → Beside h (clock_applied h n o number)
ended_beside h zero o number = same_beside h
ended_beside h (suc n) o number =
    let so_far = ended_beside h n o number in record { full_is = so_far.full_is; lists_are = so_far.lists_are }

module _ (h : Lent) (o : StepInput) (number : ℕ) (wide : length h.monitor.before ≡ length h.monitor.rows) where
  ended_each : (n : ℕ) → n ≤ length h.monitor.rows → (clock_applied h n o number).monitor
      ≡ with_rows h.monitor (map_first n (ended_row o number) h.monitor.rows)
      (zip_first n (ended_saves o number) h.monitor.rows h.monitor.before)
  ended_each zero l = row_none (ended_row o number) (ended_saves o number) h.monitor
  ended_each (suc n) l =
      row_more (ended_row o number) (ended_saves o number) h.monitor (clock_applied h n o number).monitor n (omega (arith, l)) wide
      (ended_each n (omega (arith, l)))

  ended_rows : (n : ℕ) → n ≤ length h.monitor.rows → (clock_applied h n o number).monitor
      ≡ with_rows h.monitor (map_first n (late o number) h.monitor.rows)
      (zip_first n (late_saves o number) h.monitor.rows h.monitor.before)
  ended_rows n l =
      ended_each n l
      ∙ (λ j. with_rows h.monitor (map_first n (λ r. ended_late o number r j) h.monitor.rows)
      (zip_first n (λ r b. saved_late o number r b j) h.monitor.rows h.monitor.before))

-- no row is due before the soonest due time
soonest_least : (rows : List Row) (n i : ℕ) → i < n → soonest_of rows n ≤ (get_or rows i no_row).now.due
soonest_least rows zero i l = absurd (omega (arith, l))
soonest_least rows (suc n) i l =
    split (ltb i n) (λ b. ltb i n ≡ b → soonest_of rows (suc n) ≤ (get_or rows i no_row).now.due)
    (λ _ e. omega (arith, soonest_least rows n i (ltb-true i n e)))
    (λ _ e. let same : n ≡ i = omega (arith, l, ltb-false i n e) in
    subst (λ (j : ℕ). soonest_of rows (suc n) ≤ (get_or rows j no_row).now.due) same (omega arith)) refl

zip_nothing : (n : ℕ) (rows : List Row) (kept : List RowUndo) → zip_first n (λ r b. b) rows kept ≡ kept
unfolding zip_first
zip_nothing zero rows kept = refl
zip_nothing (suc n) [] kept = refl
zip_nothing (suc n) (r ∷ rows) [] = refl
zip_nothing (suc n) (r ∷ rows) (b ∷ kept) = ap {B = List RowUndo} (λ l. b ∷ l) (zip_nothing n rows kept)

map_none : (n : ℕ) (rows : List Row) → map_first n (λ r. r) rows ≡ rows
unfolding map_first
map_none zero rows = refl
map_none (suc n) [] = refl
map_none (suc n) (r ∷ rows) = ap {B = List Row} (λ l. r ∷ l) (map_none n rows)

-- ---- a call that is taken, its numbers stored and its rows still to come

-- whatever rows it says may be nearly full
module _ (c : Lent) (full : ℕ) (ix : Indexes (with_full c full)) (o : StepInput) (above : 0 < c.monitor.count) where
  abbrev m : Monitor
  m = c.monitor

  abbrev n : ℕ
  n = held_rows m

  abbrev step : Row → Row
  step = moved o m.count

  abbrev save : Row → RowUndo → RowUndo
  save = saves o m.count

  whole : length m.rows ≡ 32
  whole = ix.shaped.rows_there

  kept_whole : length m.before ≡ 32
  kept_whole = ix.shaped.kept_there

  -- the rows have taken the step, and their due times are counted in
  pub record Stepped (x : Lent) : Type 0 where
    pub monitor_is : x.monitor ≡ with_rows m (map_first n step m.rows) (zip_first n save m.rows m.before)
    pub due_below : (i : ℕ) → i < n → x.soonest ≤ (step (row_at m i)).now.due
    pub lists_are : x.lists ≡ c.lists

  -- ---- the rows of a list
  module _ (rows : List ℕ) (list_is : rows ≡ numbers (is_of m o.kind) n) (room : (i : ℕ) → i < n → crowds o (row_at m i) ≡ false) where
    abbrev test : ℕ → Bool
    test = is_of m o.kind

    abbrev apply : Row → Row
    apply = event_row o m.count

    abbrev apply_save : Row → RowUndo → RowUndo
    apply_save = event_saves o m.count

    abbrev list_applied : Lent → Lent
    list_applied x = dispatched x rows o m.count

    -- so, no row's mark is taken away, and a row of the list that is not marked is not nearly full
    pub record Applied (x : Lent) : Type 0 where
      pub stepped : Stepped (list_applied x)
      pub unmarked : (i : ℕ) → is_in (list_applied x).full i ≡ false → is_in c.full i ≡ false
      pub marked : (i : ℕ) → i < n → test i ≡ true → is_in (list_applied x).full i ≡ false → (step (row_at m i)).now.len ≤ 62

    list_visited : (x : Lent) → list_applied x ≡ visits apply apply_save x (numbers test n)
    list_visited x = list_visits o m.count rows x ∙ ap (visits apply apply_save x) list_is

    -- the list of a monitor in which no row is overdue that is not in it
    list_steps : (x : Lent) (g : Row → Row) (t : Row → RowUndo → RowUndo) → Beside c x
        → x.monitor ≡ with_rows m (map_first n g m.rows) (zip_first n t m.rows m.before)
        → ((r : Row) → step (g r) ≡ step r) → ((r : Row) (b : RowUndo) → save (g r) (t r b) ≡ save r b)
        → ((i : ℕ) → i < n → test i ≡ false
        → (step (g (row_at m i)) ≡ g (row_at m i)) × ((save (g (row_at m i)) (t (row_at m i) (kept_at m i)) ≡ t (row_at m i) (kept_at m i))
        × (x.soonest ≤ (g (row_at m i)).now.due)))
        → ((i : ℕ) → i < n → test i ≡ true → (apply (g (row_at m i)) ≡ step (g (row_at m i)))
        × ((b : RowUndo) → apply_save (g (row_at m i)) b ≡ save (g (row_at m i)) b))
        → Applied x
    list_steps x g t same made no-matter nor-kept others own =
        let rows_are : x.monitor.rows ≡ map_first n g m.rows = ap (λ (y : Monitor). y.rows) made in
        let kept_are : x.monitor.before ≡ zip_first n t m.rows m.before = ap (λ (y : Monitor). y.before) made in
        let at : (i : ℕ) → i < n → row_at x.monitor i ≡ g (row_at m i) = λ i k. ap (λ (rows : List Row). get_or rows i no_row) rows_are
        ∙ mapped g n i m.rows no_row k (omega (arith, whole, k)) in
        let too : (i : ℕ) → i < n → kept_at x.monitor i ≡ t (row_at m i) (kept_at m i) =
        λ i k. ap (λ (kept : List RowUndo). get_or kept i no_row_undo) kept_are
        ∙ zipped t n i m.rows m.before k (omega (arith, whole, k)) (omega (arith, kept_whole, k)) in
        let wide : length x.monitor.rows ≡ 32 = ap length rows_are ∙ map_length g n m.rows ∙ whole in
        let kept_wide : length x.monitor.before ≡ 32 = ap length kept_are ∙ zip_length t m.rows m.before n ∙ kept_whole in
        let there : n ≤ length x.monitor.rows = omega (arith, wide) in
        let v = Following.visited step save test x (kept_wide ∙ sym wide) n there (λ i k out.
        subst (λ (r : Row). (step r ≡ r) × ((save r (kept_at x.monitor i) ≡ kept_at x.monitor i) × (x.soonest ≤ r.now.due))) (sym (at i k))
        (subst (λ (b : RowUndo). (step (g (row_at m i)) ≡ g (row_at m i)) × ((save (g (row_at m i)) b ≡ b) × (x.soonest ≤ (g (row_at m i)).now.due)))
        (sym (too i k)) (others i k out))) in
        let same_list = list_visited x ∙ visits_same apply step apply_save save test x n (λ i k is_own.
        subst (λ (r : Row). (apply r ≡ step r) × (apply_save r (kept_at x.monitor i) ≡ save r (kept_at x.monitor i))) (sym (at i k))
        ((own i k is_own).0, (own i k is_own).1 (kept_at x.monitor i))) in
        let out_then : (i : ℕ) → is_in (list_applied x).full i ≡ false → is_in (visits step save x (numbers test n)).full i ≡ false =
        λ i out. subst (λ (y : Lent). is_in y.full i ≡ false) same_list out in
        record {
          stepped = record {
            monitor_is = ap (λ (y : Lent). y.monitor) same_list ∙ v.monitor_is
                ∙ ap (λ (y : Monitor). with_rows y (map_first n step y.rows) (zip_first n save y.rows y.before)) made
                ∙ ap (λ (rows : List Row). with_rows m rows (zip_first n save (map_first n g m.rows) (zip_first n t m.rows m.before)))
                (map_twice step g no-matter n m.rows)
                ∙ ap (with_rows m (map_first n step m.rows)) (zip_twice save t g nor-kept n m.rows m.before);
            due_below = λ i k. subst (λ (y : Lent). y.soonest ≤ (step (row_at m i)).now.due) (sym same_list)
                (subst (λ (r : Row). (visits step save x (numbers test n)).soonest ≤ r.now.due) (ap step (at i k) ∙ no-matter (row_at m i))
                (v.due_below i k));
            lists_are = ap (λ (y : Lent). y.lists) same_list ∙ visits_lists step save (numbers test n) x ∙ same.lists_are;
          };
          unmarked = λ i out. subst (λ (full : ℕ). is_in full i ≡ false) same.full_is (v.unmarked i (out_then i out));
          marked = λ i k is_own out. subst (λ (r : Row). r.now.len ≤ 62) (ap step (at i k) ∙ no-matter (row_at m i))
              (v.marked i k is_own (out_then i out));
        }

    -- the clock can go to no row, as none is due before a time
    not_late : (s : ℕ) → o.closes ≡ false → ltb s o.time ≡ false → ((i : ℕ) → i < n → s ≤ (row_at m i).now.due) → Applied (with_soonest c s)
    not_late s going e least =
        list_steps (with_soonest c s) (λ r. r) (λ r b. b) (record { full_is = refl; lists_are = refl })
        (sym (ap (λ (rows : List Row). with_rows m rows (zip_first n (λ r b. b) m.rows m.before)) (map_none n m.rows)
        ∙ ap (with_rows m m.rows) (zip_nothing n m.rows m.before)))
        (λ r. refl) (λ r b. refl)
        (λ i k out.
        let unmoved : moves_by (row_at m i).parameters (row_at m i).now o ≡ false = unconcerned (row_at m i) o out
        ∙ no_ends (row_at m i) o going (in_time i k) in
        (still (row_at m i) o m.count unmoved, (unsaved o m.count (row_at m i) (kept_at m i) unmoved, least i k)))
        (λ i k is_own. applied_moved o m.count (row_at m i) is_own (λ _. (in_time i k, room i k)))
      where
        in_time : (i : ℕ) → i < n → ltb (row_at m i).now.due o.time ≡ false
        in_time i k = le-ltb (row_at m i).now.due o.time (omega (arith, ltb-false s o.time e, least i k))

    -- the rows to which the clock or the close goes come first
    pub some_late : Applied (with_soonest (clock_applied c n o m.count) 0)
    some_late =
        let b = ended_beside c n o m.count in
        list_steps (with_soonest (clock_applied c n o m.count) 0) (late o m.count) (late_saves o m.count)
        (record { full_is = b.full_is; lists_are = b.lists_are })
        (ended_rows c o m.count (kept_whole ∙ sym whole) n (omega (arith, whole))) (late_first o m.count above)
        (late_saves_first o m.count above)
        (λ i k out. (late_still o m.count above (row_at m i) out, (late_unsaved o m.count above (row_at m i) (kept_at m i) out, omega arith)))
        (λ i k is_own. applied_late o m.count above (row_at m i) is_own (room i k))

    pub all_stepped : o.closes ≡ false → Applied (deadlines_checked c o)
    all_stepped going =
        split (ltb c.soonest o.time) (λ b. ltb c.soonest o.time ≡ b → Applied (cond b (rows_expired c o) c))
        (λ _ _. split (ltb (soonest_all c) o.time)
        (λ b. ltb (soonest_all c) o.time ≡ b → Applied (cond b (with_soonest (clock_applied c n o m.count) 0) (with_soonest c (soonest_all c))))
        (λ _ _. some_late) (λ _ e. not_late (soonest_all c) going e (λ i k. soonest_least m.rows (up_to_four n) i (omega (arith, k)))) refl)
        (λ _ e. not_late c.soonest going e ix.no_sooner) refl

  -- ---- the words agree with the monitor after the step
  module _ (x : Lent) (wide : Shaped x) (st : Stepped x)
      (few : (i : ℕ) → i < n → is_in x.full i ≡ false → (step (row_at m i)).now.len ≤ 62) where
    held_is : held_rows x.monitor ≡ n
    held_is = ap held_rows st.monitor_is

    row_is : (i : ℕ) → i < n → row_at x.monitor i ≡ step (row_at m i)
    row_is i k = ap (λ (y : Monitor). row_at y i) st.monitor_is ∙ mapped step n i m.rows no_row k (omega (arith, whole, k))

    kept_is : (i : ℕ) → i < n → kept_at x.monitor i ≡ save (row_at m i) (kept_at m i)
    kept_is i k =
        ap (λ (y : Monitor). kept_at y i) st.monitor_is
        ∙ zipped save n i m.rows m.before k (omega (arith, whole, k)) (omega (arith, kept_whole, k))

    parameters_is : (i : ℕ) → i < n → (row_at x.monitor i).parameters ≡ (row_at m i).parameters
    parameters_is i k = ap (λ (r : Row). r.parameters) (row_is i k) ∙ parameters_stays (row_at m i) o m.count

    -- what holds of the first n rows holds of those that there are
    each : (P : ℕ → Type 0) → ((i : ℕ) → i < n → P i) → (i : ℕ) → i < held_rows x.monitor → P i
    each P so i l = so i (omega (arith, l, held_is))

    full_sound : FullSound x
    full_sound =
        record {
          now_few = each (λ i. (row_at x.monitor i).now.len ≤ 64)
              (λ i k. subst (λ (r : Row). r.now.len ≤ 64) (sym (row_is i k)) (step_few (row_at m i) o m.count (ix.roomy.now_few i k)));
          then_few = each (λ i. (kept_at x.monitor i).state.len ≤ 64)
              (λ i k. subst (λ (b : RowUndo). b.state.len ≤ 64) (sym (kept_is i k))
              (saved_few (row_at m i) o m.count (kept_at m i) (ix.roomy.now_few i k) (ix.roomy.then_few i k)));
          has_room = each (λ i. is_in x.full i ≡ false → (row_at x.monitor i).now.len ≤ 62)
              (λ i k out. subst (λ (r : Row). r.now.len ≤ 62) (sym (row_is i k)) (few i k out));
        }

    -- each row has its kinds
    same_kinds : (kind i : ℕ) → i < n → is_of m kind i ≡ is_of x.monitor kind i
    same_kinds kind i k = ap (λ (r : Parameters). concerns r kind) (sym (parameters_is i k))

    same_set : (kind i : ℕ) → is_in (set_of x kind) i ≡ is_in (set_of c kind) i
    same_set kind i = ap (λ (lists : List ℕ). is_in (get_or lists kind 0) i) st.lists_are

    pub step_indexes : Indexes x
    step_indexes =
        record {
          shaped = wide;
          sound = subst SoundNumbers (sym st.monitor_is) (record {
            rows_few = ix.sound.rows_few;
            closed_mark = ix.sound.closed_mark;
            closed_then = ix.sound.closed_then;
          });
          listed = λ kind i small. each (λ i. is_in (set_of x kind) i ≡ is_of x.monitor kind i)
              (λ i k. same_set kind i ∙ ix.listed kind i small k ∙ same_kinds kind i k) i;
          no_others = λ kind i small from l. same_set kind i ∙ ix.no_others kind i small (omega (arith, from, held_is)) l;
          no_ticks = each (λ i. is_of x.monitor no_event i ≡ false) (λ i k. sym (same_kinds no_event i k) ∙ ix.no_ticks i k);
          no_sooner = each (λ i. x.soonest ≤ due_at x.monitor i)
              (λ i k. subst (λ (r : Row). x.soonest ≤ r.now.due) (sym (row_is i k)) (st.due_below i k));
          roomy = full_sound;
        }
