-- The marks of a row as one number for each kind, a count in a StrongSynchronization: the kinds are different, so the machine's four places are
-- those of the list of kinds, and a place without a kind never matters.
use Rattle.constraint.proofs.Library.{Bool, List, [], ◌&&◌, ◌++◌, ◌+◌, ◌-◌, ◌<◌, ◌||◌, ◌∙◌, ◌∷◌, ◌≡◌, ◌≤◌, ◌⊎◌, and-eq-true_iff, ap, ap₂, arith, cond}
use Rattle.constraint.proofs.Library.{by_cases}
use Rattle.constraint.proofs.Library.{dec_lt, eq-eqb, eqb, eqb-false, false, false≢true, get_or-replicate, inl, inr, length, length-append}
use Rattle.constraint.proofs.Library.{length-replicate, ltb, ltb-false, ltb-true, ne_eqb, refl, replicate, subst, suc, sym, take, take-take, true}
use Rattle.constraint.proofs.Library.{zero, ℕ, ⊎_elim}
use Rattle.constraint.proofs.Lists.{at_left, at_right, split}
use Rattle.constraint.proofs.Streams.{streams, streams_in}
use Rattle.constraint.specs.Types.{Field, byte, count as number, fields_of, type_of}
use Rattle.constraint.specs.{Accepted.KindsFit, Accepted.kinds, Accepted.kinds_in, Meets.Meets, Steps.Step, Steps.at}
use Rattle.constraint.specs.{Waiting.waiting, Constraint.Constraint}
use Rattle.synchronizations.specs.Kinds.{by_kind, each_above, register_of, with_register_of}
use Rattle.synchronizations.specs.StrongSynchronization.{without_oldest}
use Rattle.row_type.proofs.FieldNumbers.{first_padded, kinds_are, kinds_listed, listed, streams_listed, tag_is, upper_listed}
use Rattle.row_type.proofs.{Exact.Sound, SeveralKinds.kinds_apart, SeveralKinds.kinds_small}
use Rattle.row_type.specs.Parameters.{no_fields, no_kind, parameters_of, start_ring, start_words, waits_in, with_fields, word_counts}
use Rattle.row_type.specs.{Parts.no_registers}
use Rattle.row_type.specs.{declared.Registers.Registers, declared.Parameters.Parameters}

-- the four kinds of a rule, some of which may be absent, and the count of each
abbrev pub four_kinds : Parameters → List ℕ
four_kinds parameters = parameters.first ∷ parameters.second ∷ parameters.third ∷ parameters.fourth ∷ []

abbrev pub four_counts : Registers → List ℕ
four_counts registers = registers.first ∷ registers.second ∷ registers.third ∷ registers.fourth ∷ []

-- the rule is of these kinds, which are two or more and different, and of no others
pub record Names (parameters : Parameters) (ks : List ℕ) : Type 0 where
  pub fit : KindsFit ks
  pub several : 2 ≤ length ks
  pub absent : ℕ
  pub padded : four_kinds parameters ≡ ks ++ replicate absent no_kind

-- a row of a list of kinds: by these and its tolerance go what it asks and how many wait; and whether the times that it keeps are those that wait
pub record OfKinds (Asks : List ℕ → ℕ → List Step → Type 0) (held : List ℕ → List Step → ℕ) (timed : Bool) (c : Constraint) : Type 1 where
  pub names : Names (parameters_of c) (kinds c)
  pub streams_are : streams c ≡ kinds c
  pub no_words : start_words c ≡ []
  pub meets : (steps : List Step) → Meets c steps ≡ Asks (kinds c) (parameters_of c).upper steps
  pub tag_waits : waits_in (parameters_of c).tag ≡ timed
  pub waits : (steps : List Step) → waiting c steps ≡ held (kinds c) steps

-- a constraint of a list of kinds and a tolerance, of a type with two to four kinds
pub of_kinds : {Asks : List ℕ → ℕ → List Step → Type 0} {held : List ℕ → List Step → ℕ} {timed : Bool} (c : Constraint) → Sound c
    → (ks : List ℕ) (x : ℕ) → fields_of c ≡ byte number (length ks) ∷ listed x ks → (2 ≤ length ks) × (length ks ≤ 4)
    → at word_counts (type_of c) ≡ 0 → ((steps : List Step) → Meets c steps ≡ Asks ks x steps) → waits_in (type_of c) ≡ timed
    → ((steps : List Step) → waiting c steps ≡ held ks steps) → OfKinds Asks held timed c
of_kinds {Asks} {held} c sound ks x fields few no_words meets tag_waits waits =
    record {
      names = record {
        fit = sound.kinds_fit;
        several = rw kinds_same few.0;
        absent = 4 - length ks;
        padded = ap (take 4) (kinds_are c) ∙ take-take 4 5 (kinds c ++ replicate 5 no_kind) (omega arith)
            ∙ rw kinds_same (first_padded 4 5 no_kind ks (omega arith) few.1);
      };
      streams_are = ap streams_in fields ∙ streams_listed x ks ∙ sym kinds_same;
      no_words = ap (λ (n : ℕ). take n (start_ring c)) (ap (at word_counts) (tag_is c) ∙ no_words);
      meets = λ steps. meets steps ∙ sym (ap₂ (λ (l : List ℕ) (y : ℕ). Asks l y steps) kinds_same upper_same);
      tag_waits = ap waits_in (tag_is c) ∙ tag_waits;
      waits = λ steps. waits steps ∙ sym (ap (λ (l : List ℕ). held l steps) kinds_same);
    }
  where
    kinds_same : kinds c ≡ ks
    kinds_same = ap kinds_in fields ∙ kinds_listed x ks

    upper_same : (parameters_of c).upper ≡ x
    upper_same = ap (λ (l : List Field). (with_fields l (no_fields (type_of c))).upper) fields ∙ upper_listed x ks (no_fields (type_of c))

-- what holds of four places holds of each
pub four_each : (P : ℕ → Type 0) → P 0 → P 1 → P 2 → P 3 → (i : ℕ) → i < 4 → P i
four_each P a b c d zero h = a
four_each P a b c d (suc zero) h = b
four_each P a b c d (suc (suc zero)) h = c
four_each P a b c d (suc (suc (suc zero))) h = d
four_each P a b c d (suc (suc (suc (suc i)))) h = absurd (omega arith)

and_false : (a b : Bool) → a && b ≡ false → (a ≡ false) ⊎ (b ≡ false)
and_false true b e = inr e
and_false false b e = inl refl

-- four tests in a row
module _ (f : ℕ → Bool) where
  pub four_true : f 0 && (f 1 && (f 2 && f 3)) ≡ true → (i : ℕ) → i < 4 → f i ≡ true
  four_true e =
      let (a, r) = (and-eq-true_iff (f 0) (f 1 && (f 2 && f 3))).0 e in
      let (b, s) = (and-eq-true_iff (f 1) (f 2 && f 3)).0 r in
      let (c, d) = (and-eq-true_iff (f 2) (f 3)).0 s in
      four_each (λ i. f i ≡ true) a b c d

  pub four_false : f 0 && (f 1 && (f 2 && f 3)) ≡ false → (i : ℕ) × (i < 4) × (f i ≡ false)
  four_false e =
      ⊎_elim (λ a. (0, omega arith, a))
      (λ r. ⊎_elim (λ b. (1, omega arith, b))
      (λ s. ⊎_elim (λ c. (2, omega arith, c)) (λ d. (3, omega arith, d)) (and_false (f 2) (f 3) s))
      (and_false (f 1) (f 2 && f 3) r))
      (and_false (f 0) (f 1 && (f 2 && f 3)) e)

-- the number of a kind is above a bound, or there is no such kind
abbrev above : ℕ → ℕ → ℕ → Bool
above bound kind n = eqb kind no_kind || ltb bound n

above_false : (bound kind n : ℕ) → above bound kind n ≡ false → (¬ (kind ≡ no_kind)) × (n ≤ bound)
above_false bound kind n =
    split (eqb kind no_kind) (λ x. (x || ltb bound n) ≡ false → (¬ (kind ≡ no_kind)) × (n ≤ bound))
    (λ e f. absurd (false≢true (sym f)))
    (λ e f. (eqb-false kind no_kind e, ltb-false bound n f))

-- the four places
module _ (parameters : Parameters) where
  -- by a kind goes the first place that has the kind
  by_kind_lem : {A : Type 0} (f : ℕ → A) (i : ℕ) → i < 4 → ((j : ℕ) → j < i → ¬ (at (four_kinds parameters) i ≡ at (four_kinds parameters) j))
      → by_kind parameters (at (four_kinds parameters) i) (f 0) (f 1) (f 2) (f 3) ≡ f i
  by_kind_lem f =
      four_each (λ i. ((j : ℕ) → j < i → ¬ (at (four_kinds parameters) i ≡ at (four_kinds parameters) j))
      → by_kind parameters (at (four_kinds parameters) i) (f 0) (f 1) (f 2) (f 3) ≡ f i)
      (λ apart. rw (eq-eqb parameters.first parameters.first refl))
      (λ apart. rw (ne_eqb parameters.second parameters.first (apart 0 (omega arith)), eq-eqb parameters.second parameters.second refl))
      (λ apart. rw (
        ne_eqb parameters.third parameters.first (apart 0 (omega arith)),
        ne_eqb parameters.third parameters.second (apart 1 (omega arith)),
        eq-eqb parameters.third parameters.third refl,
      ))
      (λ apart. rw (
        ne_eqb parameters.fourth parameters.first (apart 0 (omega arith)),
        ne_eqb parameters.fourth parameters.second (apart 1 (omega arith)),
        ne_eqb parameters.fourth parameters.third (apart 2 (omega arith)),
      ))

-- the places of the list of kinds
module _ {parameters : Parameters} {ks : List ℕ} (names : Names parameters ks) where
  abbrev padding : List ℕ
  padding = replicate names.absent no_kind

  pub names_four : length ks + names.absent ≡ 4
  names_four = omega (arith, ap length names.padded, length-append ks padding, length-replicate names.absent no_kind)

  pub count_none : (j : ℕ) → j < length ks → at (four_counts no_registers) j ≡ 0
  count_none j h = four_each (λ i. at (four_counts no_registers) i ≡ 0) refl refl refl refl j (omega (arith, names_four))

  pub kind_present : (j : ℕ) → j < length ks → at (four_kinds parameters) j ≡ at ks j
  kind_present j h = ap (λ (l : List ℕ). at l j) names.padded ∙ at_left ks padding j h

  pub kind_absent : (j : ℕ) → length ks ≤ j → j < 4 → at (four_kinds parameters) j ≡ no_kind
  kind_absent j h l =
      let place : length ks + (j - length ks) ≡ j = omega arith in
      ap (λ (l : List ℕ). at l j) names.padded
      ∙ subst (λ (i : ℕ). at (ks ++ padding) i ≡ no_kind) place
      (at_right ks padding (j - length ks) ∙ get_or-replicate names.absent (j - length ks) no_kind 0 (omega (arith, names_four)))

  -- by a kind of the list goes its place
  kind_place : {A : Type 0} (f : ℕ → A) (k : ℕ) → k < length ks → by_kind parameters (at ks k) (f 0) (f 1) (f 2) (f 3) ≡ f k
  kind_place f k h =
      rw (← kind_present k h) (by_kind_lem parameters f k (omega (arith, names_four))
      (λ j l. rw (kind_present k h, kind_present j (omega arith)) (kinds_apart ks names.fit k j h (omega arith) (λ e. omega arith))))

  module _ (registers : Registers) where
    pub count_is : (k : ℕ) → k < length ks → register_of parameters registers (at ks k) ≡ at (four_counts registers) k
    count_is = kind_place (at (four_counts registers))

    -- the number that the i-th place has where another is at the j-th
    abbrev put : ℕ → ℕ → ℕ → ℕ
    put n i j = cond (eqb j i) n (at (four_counts registers) i)

    with_at : (kind n i : ℕ) → i < 4
        → at (four_counts (with_register_of parameters registers kind n)) i ≡ by_kind parameters kind (put n i 0) (put n i 1) (put n i 2) (put n i 3)
    with_at kind n =
        four_each (λ i. at (four_counts (with_register_of parameters registers kind n)) i
        ≡ by_kind parameters kind (put n i 0) (put n i 1) (put n i 2) (put n i 3)) refl refl refl refl

    with_is : (k n j : ℕ) → k < length ks → j < length ks → at (four_counts (with_register_of parameters registers (at ks k) n)) j ≡ put n j k
    with_is k n j h l = with_at (at ks k) n j (omega (arith, names_four)) ∙ kind_place (put n j) k h

    pub with_own : (k n : ℕ) → k < length ks → at (four_counts (with_register_of parameters registers (at ks k) n)) k ≡ n
    with_own k n h = with_is k n k h h ∙ rw (eq-eqb k k refl)

    pub with_other : (k n j : ℕ) → k < length ks → j < length ks → ¬ (j ≡ k)
        → at (four_counts (with_register_of parameters registers (at ks k) n)) j ≡ at (four_counts registers) j
    with_other k n j h l apart = with_is k n j h l ∙ rw (ne_eqb k j (λ e. apart (sym e)))

    pub count_left : (j : ℕ) → j < length ks → at (four_counts (without_oldest registers)) j ≡ at (four_counts registers) j - 1
    count_left j h =
        four_each (λ i. at (four_counts (without_oldest registers)) i ≡ at (four_counts registers) i - 1) refl refl refl refl j
        (omega (arith, names_four))

    abbrev above_at : ℕ → ℕ → Bool
    above_at bound i = above bound (at (four_kinds parameters) i) (at (four_counts registers) i)

    kind_there : (j : ℕ) → j < length ks → ¬ (at (four_kinds parameters) j ≡ no_kind)
    kind_there j h same = omega (arith, sym (kind_present j h) ∙ same, kinds_small ks names.fit j h)

    -- a kind of the list is there, so its number is compared
    above_is : (bound j : ℕ) → j < length ks → above_at bound j ≡ ltb bound (at (four_counts registers) j)
    above_is bound j h = rw (ne_eqb (at (four_kinds parameters) j) no_kind (kind_there j h))

    -- the first two kinds are there, and no fourth without a third
    above_four : (bound : ℕ) → each_above parameters registers bound
        ≡ (above_at bound 0 && (above_at bound 1 && (above_at bound 2 && above_at bound 3)))
    above_four bound =
        rw (above_is bound 0 (omega (arith, names.several)), above_is bound 1 names.several)
        (by_cases (dec_lt 2 (length ks))
        (λ h. rw (ne_eqb parameters.third no_kind (kind_there 2 h)) refl)
        (λ h. rw (
          eq-eqb parameters.third no_kind (kind_absent 2 (omega arith) (omega arith)),
          eq-eqb parameters.fourth no_kind (kind_absent 3 (omega arith) (omega arith)),
        ) refl))

    pub above_each : (bound : ℕ) → each_above parameters registers bound ≡ true → (j : ℕ) → j < length ks → bound < at (four_counts registers) j
    above_each bound e j h =
        ltb-true bound (at (four_counts registers) j)
        (sym (above_is bound j h) ∙ four_true (above_at bound) (sym (above_four bound) ∙ e) j (omega (arith, names_four)))

    pub above_lacks : (bound : ℕ) → each_above parameters registers bound ≡ false
        → (j : ℕ) × (j < length ks) × (at (four_counts registers) j ≤ bound)
    above_lacks bound e =
        let (j, h, lacks) = four_false (above_at bound) (sym (above_four bound) ∙ e) in
        let (known, few) = above_false bound (at (four_kinds parameters) j) (at (four_counts registers) j) lacks in
        (j, by_cases (dec_lt j (length ks)) (λ l. l) (λ l. absurd (known (kind_absent j (omega arith) h))), few)
