-- The fresh monitor over an accepted table has its rows in its first places, and its words agree with it: the set of each kind has those of the first
-- rows that it concerns, and every row is said to be nearly full until an event looks at it.
use Rattle.fresh.proofs.Names.{Accepted, RowUndo, Bool, Constraint, FullSound, Indexes, List, List·getD-append, Monitor, RestZero, Row}
use Rattle.fresh.proofs.Names.{RowsPut}
use Rattle.fresh.proofs.Names.{Parameters, Shaped, SoundNumbers, Words, [], ◌%◌, ◌*◌, ◌++◌, ◌+◌, ◌-◌, ◌/◌, ◌<◌, ◌∙◌, ◌∷◌, ◌≡◌, ◌≤◌}
use Rattle.fresh.proofs.Names.{accepted_few}
use Rattle.fresh.proofs.Names.{accepted_sound, after, all_rows, ap, ap₂, arith, at, both, concerns, concerns_none, cond, eqb, false, filler}
use Rattle.fresh.proofs.Names.{fresh_lent}
use Rattle.fresh.proofs.Names.{get_or, get_or_at, held_rows, in_all, is_in, is_of, kept_at, length, length-append, length-map, length-replicate, ltb}
use Rattle.fresh.proofs.Names.{ltb-false, ltb-true, map, monitor_of, no_row_undo, no_event, no_row, no_words, padded, play, refl, replicate}
use Rattle.fresh.proofs.Names.{rest_zero_fresh, row_at, row_limit, row_of, set, set_from, set_of, sets_to, sound_place, split, subst, subst₂, suc}
use Rattle.fresh.proofs.Names.{sym}
use Rattle.fresh.proofs.Names.{take_at, true, waiting_limit, with_lists, words_few, words_of_lent, zero, zero-add, ℕ}
use Rattle.fresh.proofs.Padding.{padded_next}
use Rattle.fresh.proofs.{Lists.shaped_lists, Lists.words_known}
use Rattle.row_type.specs.Parameters as Rules

-- ---- the set of the numbers that pass a test

-- the lowest digit, and the others
first_digit : (n : ℕ) (b : Bool) → eqb ((2 * n + cond b 1 0) % 2) 1 ≡ b
first_digit n true = let odd : (2 * n + 1) % 2 ≡ 1 = omega arith in ap (λ (d : ℕ). eqb d 1) odd
first_digit n false = let even : (2 * n + 0) % 2 ≡ 0 = omega arith in ap (λ (d : ℕ). eqb d 1) even

other_digits : (n : ℕ) (b : Bool) → (2 * n + cond b 1 0) / 2 ≡ n
other_digits n true = omega arith
other_digits n false = omega arith

module _ (test : ℕ → Bool) where
  in_set : (from n i : ℕ) → i < n → is_in (set_from test from n) i ≡ test (from + i)
  unfolding set_from is_in
  in_set from zero i l = absurd (omega (arith, l))
  in_set from (suc n) zero l =
      let same : from ≡ from + 0 = omega arith in first_digit (set_from test (suc from) n) (test from) ∙ ap test same
  in_set from (suc n) (suc i) l =
      let same : suc from + i ≡ from + suc i = omega arith in
      ap (λ (w : ℕ). is_in w i) (other_digits (set_from test (suc from) n) (test from)) ∙ in_set (suc from) n i (omega (arith, l)) ∙ ap test same

  none_in : (i : ℕ) → is_in 0 i ≡ false
  unfolding is_in
  none_in zero = refl
  none_in (suc i) = none_in i

  out_of_set : (from n i : ℕ) → n ≤ i → is_in (set_from test from n) i ≡ false
  unfolding set_from is_in
  out_of_set from zero i l = none_in i
  out_of_set from (suc n) zero l = absurd (omega (arith, l))
  out_of_set from (suc n) (suc i) l =
      ap (λ (w : ℕ). is_in w i) (other_digits (set_from test (suc from) n) (test from)) ∙ out_of_set (suc from) n i (omega (arith, l))

-- ---- the sets of the first kinds

module _ (m : Monitor) (n : ℕ) where
  abbrev set_for : ℕ → ℕ
  set_for kind = set_from (is_of m kind) 0 n

  sets_length : (kinds : ℕ) → length (sets_to m n kinds) ≡ kinds
  unfolding sets_to
  sets_length zero = refl
  sets_length (suc kind) = omega (arith, length-append (sets_to m n kind) (set_for kind ∷ []), sets_length kind)

  pub sets_whole : padded 64 (sets_to m n 64) ≡ sets_to m n 64
  unfolding padded
  sets_whole = take_at (sets_to m n 64) (replicate 64 0) 64 (sets_length 64)

  sets_at : (kinds kind : ℕ) → kind < kinds → at (sets_to m n kinds) kind ≡ set_for kind
  unfolding sets_to
  sets_at zero kind there = absurd (omega (arith, there))
  sets_at (suc last) kind there =
      split (ltb kind last) (λ _. at (sets_to m n (suc last)) kind ≡ set_for kind)
      (λ e. List·getD-append (sets_to m n last) (set_for last ∷ []) 0 kind (omega (arith, ltb-true kind last e, sets_length last))
      ∙ sets_at last kind (ltb-true kind last e))
      (λ e. let same : kind ≡ last = omega (arith, there, ltb-false kind last e) in
      get_or_at (sets_to m n last) (set_for last) [] 0 kind (sets_length last ∙ sym same) ∙ ap set_for (sym same))

  -- one kind more
  pub sets_next : (kind rows : ℕ) → rows ≡ set_for kind → set (padded 64 (sets_to m n kind)) kind rows ≡ padded 64 (sets_to m n (suc kind))
  unfolding sets_to
  sets_next kind rows is = ap₂ (set (padded 64 (sets_to m n kind))) (sym (sets_length kind)) is ∙ padded_next (sets_to m n kind) 64 (set_for kind)

-- ---- its rows

replicate_each : {X : Type 0} (x : X) (n i : ℕ) → get_or (replicate n x) i x ≡ x
replicate_each x zero i = refl
replicate_each x (suc n) zero = refl
replicate_each x (suc n) (suc i) = replicate_each x n i

place_is : (rows : List Constraint) (n i : ℕ) → get_or (map row_of rows ++ replicate n no_row) i no_row ≡ row_of (get_or rows i filler)
place_is [] n i = replicate_each no_row n i
place_is (c ∷ rows) n zero = refl
place_is (c ∷ rows) n (suc i) = place_is rows n i

pub row_is : (rows : List Constraint) (i : ℕ) → row_at (after rows []) i ≡ row_of (get_or rows i filler)
unfolding after play monitor_of
row_is rows i = place_is rows (row_limit - length rows) i

pub kept_is : (rows : List Constraint) (i : ℕ) → kept_at (after rows []) i ≡ no_row_undo
unfolding after play monitor_of
kept_is rows i = replicate_each no_row_undo row_limit i

parameters_is : (c : Constraint) → (row_of c).parameters ≡ Rules.parameters_of c
unfolding row_of
parameters_is c = refl

-- a tick and the close concern none
none_ticks : (rows : List Constraint) → Accepted rows → (i : ℕ) → i < length rows → is_of (after rows []) no_event i ≡ false
none_ticks rows accepted i there =
    ap (λ (r : Row). concerns r.parameters no_event) (row_is rows i)
    ∙ ap (λ (parameters : Parameters). concerns parameters no_event) (parameters_is (get_or rows i filler))
    ∙ concerns_none (get_or rows i filler) (sound_place rows (accepted_sound rows accepted) i there)

-- nothing waits but the words that a row has from the start
row_few : (c : Constraint) → (row_of c).now.len ≤ waiting_limit
unfolding row_of
row_few c = words_few (Rules.parameters_of c)

-- ---- its words agree with it

length_is : (rows : List Constraint) → length rows ≤ row_limit → length (after rows []).rows ≡ row_limit
unfolding after play monitor_of
length_is rows few =
    length-append (map row_of rows) (replicate (row_limit - length rows) no_row)
    ∙ ap₂ ◌+◌ (length-map rows row_of) (length-replicate (row_limit - length rows) no_row) ∙ omega (arith, few)

pub fresh_shaped : (rows : List Constraint) → length rows ≤ row_limit → Shaped (fresh_lent rows)
unfolding after play monitor_of
fresh_shaped rows few =
    record {
      rows_there = length_is rows few;
      kept_there = refl;
      next_there = refl;
      lists_there = sets_length (after rows []) (length rows) 64;
      rest_zero = λ i _. subst₂ RestZero (sym (row_is rows i)) (sym (kept_is rows i)) (rest_zero_fresh (get_or rows i filler));
    }

fresh_sound : (rows : List Constraint) → length rows ≤ row_limit → SoundNumbers (after rows [])
unfolding after play monitor_of
fresh_sound rows few = record { rows_few = few; closed_mark = omega arith; closed_then = omega arith }

held_are : (rows : List Constraint) → length rows ≤ row_limit → held_rows (after rows []) ≡ length rows
unfolding after play monitor_of
held_are rows few = omega (arith, few)

fresh_roomy : (rows : List Constraint) → FullSound (fresh_lent rows)
fresh_roomy rows =
    record {
      now_few = λ i _. subst (λ (r : Row). r.now.len ≤ waiting_limit) (sym (row_is rows i)) (row_few (get_or rows i filler));
      then_few = λ i _. subst (λ (b : RowUndo). b.state.len ≤ waiting_limit) (sym (kept_is rows i)) (omega arith);
      has_room = λ i l out. both (sym (in_all i (omega (arith, l))) ∙ out);
    }

set_is : (rows : List Constraint) (kind : ℕ) → kind < 64 → set_of (fresh_lent rows) kind ≡ set_from (is_of (after rows []) kind) 0 (length rows)
set_is rows kind small = sets_at (after rows []) (length rows) 64 kind small

pub fresh_indexes : (rows : List Constraint) → Accepted rows → Indexes (fresh_lent rows)
fresh_indexes rows accepted =
    let few = accepted_few rows accepted in
    let held = held_are rows few in
    record {
      shaped = fresh_shaped rows few;
      sound = fresh_sound rows few;
      listed = λ kind i small l. ap (λ (w : ℕ). is_in w i) (set_is rows kind small)
          ∙ in_set (is_of (after rows []) kind) 0 (length rows) i (omega (arith, held, l)) ∙ ap (is_of (after rows []) kind) (zero-add i);
      no_others = λ kind i small from _. ap (λ (w : ℕ). is_in w i) (set_is rows kind small)
          ∙ out_of_set (is_of (after rows []) kind) 0 (length rows) i (omega (arith, held, from));
      no_ticks = λ i below. none_ticks rows accepted i (omega (arith, held, below));
      no_sooner = λ i _. omega arith;
      roomy = fresh_roomy rows;
    }

-- ---- every word but those of its sets

-- the numbers that are not 0
abbrev pub numbered : Words → ℕ → Words
numbered words n =
    let opened : Words = set words 32 (set (get_or words 32 []) 0 (set (get_or (get_or words 32 []) 0 []) 2 1)) in
    let counted : Words = set opened 32 (set (get_or opened 32 []) 0 (set (get_or (get_or opened 32 []) 0 []) 3 n)) in
    set counted 32 (set (get_or counted 32 []) 0 (set (get_or (get_or counted 32 []) 0 []) 11 all_rows))

pub begun_words : (rows : List Constraint) → length rows ≤ row_limit → (words exit : Words) → words ≡ replicate 35 no_words
    → RowsPut (numbered words (length rows)) (after rows []) 32 exit → exit ≡ words_of_lent (with_lists (fresh_lent rows) (padded 64 []))
unfolding after play monitor_of padded
begun_words rows few words exit cleared put =
    let done = subst (λ (w : Words). RowsPut (numbered w (length rows)) (after rows []) 32 exit) cleared put in
    words_known (with_lists (fresh_lent rows) (padded 64 [])) (shaped_lists (fresh_lent rows) (fresh_shaped rows few) []) exit
    done.long done.rows_lie (λ k. done.others 32 (omega arith) k ∷ done.others 33 (omega arith) k ∷ done.others 34 (omega arith) k ∷ [])
