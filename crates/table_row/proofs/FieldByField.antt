-- A row's fields are asked one by one: what is asked of those from a place on is asked of the one at that place and of those behind it.
use Rattle.constraint.proofs.Library.{Bool, List, [], ◌++◌, ◌+◌, ◌<◌, ◌∙◌, ◌∷◌, ◌≡◌, ◌≢◌, ◌≤◌, add-one, ap, arith, cond, drop-cons}
use Rattle.constraint.proofs.Library.{drop_of_length-le, eqb, eqb-true, false, length, ltb, ltb-false, ltb-true, ne_eqb, refl}
use Rattle.constraint.proofs.Library.{subst, subst⁻¹, suc, sym, true, zero, ℕ, ⊎_elim}
use Rattle.std.specs.Bool.{MatchBool}
use Rattle.std.specs.List.{AllWithin, HoldsAt, zip}
use Rattle.std.proofs.lemmas.Slice.Zip.{get_or-zip, length-zip}
use Rattle.constraint.proofs.Judged.{same_test}
use Rattle.constraint.proofs.Lists.{both, or-true, split}
use Rattle.constraint.specs.Limits.{span_limit, repetition_span_limit}
use Rattle.constraint.specs.Records.{Decides}
use Rattle.constraint.specs.Steps.{at}
use Rattle.constraint.specs.Types.{kind, coloured, count, span, ByteRole, Field, byte, time}
use Rattle.constraint.specs.Accepted.{kinds_in, EachField, bound_after, Ordered}
use Rattle.table_row.specs.Records.{bound_behind}
use Rattle.table_row.specs.Records.{byte_role, time_role, is_kind, field_of, field_at, fields_from, fields_with}

-- Places

module _ (roles values : List ℕ) (i : ℕ) where
  pub fields_next : i < length roles → fields_from roles values i ≡ field_at (at roles i) (at values i) ++ fields_from roles values (i + 1)
  unfolding fields_with
  fields_next h = rw (add-one i, drop-cons roles i 0 h)

  pub fields_end : length roles ≤ i → fields_from roles values i ≡ []
  unfolding fields_with
  fields_end h = rw (drop_of_length-le roles {i = i} h)

-- by what a number of a role says: none, a time of a role, or a byte of one
module _ {ℓ} (P : List Field → Type ℓ) (r x : ℕ) where
  pub by_role : (r < 65 → P []) → (r < 97 → P (time (time_role r) x ∷ [])) → (97 ≤ r → P (byte (byte_role r) x ∷ [])) → P (field_at r x)
  by_role none long short =
      split (ltb r 65) (λ b. P (cond b [] (field_of r x ∷ []))) (λ e. none (ltb-true r 65 e))
      (λ e. split (ltb r 97) (λ b. P (cond b (time (time_role r) x) (byte (byte_role r) x) ∷ [])) (λ e. long (ltb-true r 97 e))
      (λ e. short (ltb-false r 97 e)))

-- EachField

pub each_join : (Asked : Field → Type 0) (a b : List Field) → EachField Asked a → EachField Asked b → EachField Asked (a ++ b)
each_join Asked [] b h k = k
each_join Asked (f ∷ a) b h k = (h.0, each_join Asked a b h.1 k)

pub each_parts : (Asked : Field → Type 0) (a b : List Field) → EachField Asked (a ++ b) → EachField Asked a × EachField Asked b
each_parts Asked [] b h = (tt, h)
each_parts Asked (f ∷ a) b h = let parts = each_parts Asked a b h.1 in ((h.0, parts.0), parts.1)

module _ (Asked : Field → Type 0) (roles values : List ℕ) where
  pub field_parts : (i : ℕ) → i < length roles → EachField Asked (fields_from roles values i)
      → EachField Asked (field_at (at roles i) (at values i)) × EachField Asked (fields_from roles values (i + 1))
  field_parts i h all =
      each_parts Asked (field_at (at roles i) (at values i)) (fields_from roles values (i + 1)) (subst (EachField Asked)
      (fields_next roles values i h) all)

  -- each field is asked where the one at each place is
  places_asked : (more i : ℕ) → length roles ≤ i + more
      → ((k : ℕ) → i ≤ k → k < length roles → EachField Asked (field_at (at roles k) (at values k))) → EachField Asked (fields_from roles values i)
  places_asked zero i past each = rw (fields_end roles values i (omega (arith, past))) tt
  places_asked (suc more) i past each =
      split (ltb i (length roles)) (λ b. EachField Asked (fields_from roles values i))
      (λ e. let here = ltb-true i (length roles) e in
      subst⁻¹ (EachField Asked) (fields_next roles values i here)
      (each_join Asked (field_at (at roles i) (at values i)) (fields_from roles values (i + 1)) (each i (omega arith) here)
      (places_asked more (i + 1) (omega (arith, past)) (λ k from below. each k (omega (arith, from)) below))))
      (λ e. rw (fields_end roles values i (ltb-false i (length roles) e)) tt)

  place_asked : (before i : ℕ) → i + before < length roles → EachField Asked (fields_from roles values i)
      → EachField Asked (field_at (at roles (i + before)) (at values (i + before)))
  place_asked zero i there all = let none : i + 0 ≡ i = omega arith in rw none (field_parts i (omega (arith, there)) all).0
  place_asked (suc before) i there all =
      let later : i + suc before ≡ i + 1 + before = omega arith in
      rw later (place_asked before (i + 1) (omega (arith, there)) (field_parts i (omega (arith, there)) all).1)

  abbrev pub Fits : ℕ × ℕ → Type 0
  Fits p = EachField Asked (field_at p.0 p.1)

  -- a test of each pair of a role and a value tests all fields
  pub pairs_asked : length values ≡ length roles → (b : Bool)
      → MatchBool b (AllWithin Fits (zip roles values) 0 (length (zip roles values)))
      ((k : ℕ) × (k < length (zip roles values)) × HoldsAt (λ p. ¬ Fits p) (zip roles values) k)
      → Decides (EachField Asked (fields_from roles values 0)) b
  pairs_asked same true each =
      places_asked (length roles) 0 (omega arith) (λ k from below.
      subst Fits (get_or-zip roles values k (0, 0) below (omega (arith, same)))
      (each k (0, 0) (omega arith) (omega (arith, same, length-zip roles values))))
  pairs_asked same false missed = λ all.
      let there : missed.0 < length roles = omega (arith, missed.1, same, length-zip roles values) in
      let none : 0 + missed.0 ≡ missed.0 = omega arith in
      subst (λ p. ¬ Fits p) (get_or-zip roles values missed.0 (0, 0) there (omega (arith, same))) (missed.2 (0, 0))
      (subst (λ k. Fits (at roles k, at values k)) none (place_asked missed.0 0 (omega (arith, there)) all))

-- Kinds

pub kinds_append : (a b : List Field) → kinds_in (a ++ b) ≡ kinds_in a ++ kinds_in b
kinds_append [] b = refl
kinds_append (byte kind x ∷ a) b = ap (λ (ks : List ℕ). x ∷ ks) (kinds_append a b)
kinds_append (byte coloured x ∷ a) b = ap (λ (ks : List ℕ). x ∷ ks) (kinds_append a b)
kinds_append (byte count x ∷ a) b = kinds_append a b
kinds_append (byte (span limit) x ∷ a) b = kinds_append a b
kinds_append (time role x ∷ a) b = kinds_append a b

-- a byte of another role is no kind
other_byte {ℓ} : (P : ByteRole → Type ℓ) (r : ℕ) → r ≢ 107 → r ≢ 99 → P count → ((limit : ℕ) → P (span limit)) → P (byte_role r)
other_byte P r no_kind uncoloured n s =
    rw (ne_eqb r 107 no_kind, ne_eqb r 99 uncoloured)
    (split (eqb r 110) (λ b. P (cond b count (span (cond (eqb r 115) span_limit repetition_span_limit)))) (λ e. n) (λ e. s _))

other_kinds : (r x : ℕ) → r ≢ 107 → r ≢ 99 → kinds_in (field_at r x) ≡ []
other_kinds r x no_kind uncoloured =
    by_role (λ fs. kinds_in fs ≡ []) r x (λ e. refl) (λ e. refl) (λ e. other_byte (λ role. kinds_in
    (byte role x ∷ []) ≡ []) r no_kind uncoloured refl (λ limit. refl))

module _ (roles values : List ℕ) (i : ℕ) (h : i < length roles) where
  pub kind_here : is_kind (at roles i) ≡ true → kinds_in (fields_from roles values i) ≡ at values i ∷ kinds_in (fields_from roles values (i + 1))
  kind_here is =
      ⊎_elim (λ e. rw (fields_next roles values i h, eqb-true (at roles i) 107 e))
      (λ e. rw (fields_next roles values i h, eqb-true (at roles i) 99 e)) (or-true (eqb (at roles i) 107) (eqb (at roles i) 99) is)

  pub kind_elsewhere : is_kind (at roles i) ≡ false → kinds_in (fields_from roles values i) ≡ kinds_in (fields_from roles values (i + 1))
  kind_elsewhere is =
      ap kinds_in (fields_next roles values i h)
      ∙ kinds_append (field_at (at roles i) (at values i)) (fields_from roles values (i + 1))
      ∙ rw (other_kinds (at roles i) (at values i) (λ e. both (sym (ap is_kind e) ∙ is)) (λ e. both (sym (ap is_kind e) ∙ is)))

-- Bounds

-- what is asked of two parts
pub ordered_join : (n low : ℕ) (a b : List Field) → Ordered n low a → Ordered n (bound_behind low a) b → Ordered n low (a ++ b)
ordered_join n low [] b h k = k
ordered_join n low (f ∷ a) b h k = (h.0, ordered_join n (bound_after low f) a b h.1 k)

pub ordered_parts : (n low : ℕ) (a b : List Field) → Ordered n low (a ++ b) → Ordered n low a × Ordered n (bound_behind low a) b
ordered_parts n low [] b h = (tt, h)
ordered_parts n low (f ∷ a) b h = let parts = ordered_parts n (bound_after low f) a b h.1 in ((h.0, parts.0), parts.1)

module _ (n low : ℕ) (roles values : List ℕ) (i : ℕ) (h : i < length roles) where
  abbrev one : List Field
  one = field_at (at roles i) (at values i)

  pub bound_here : Ordered n low one → (b : Bool) → Decides (Ordered n (bound_behind low one) (fields_from roles values (i + 1))) b
      → Decides (Ordered n low (fields_from roles values i)) b
  bound_here here =
      same_test (λ rest. subst⁻¹ (Ordered n low) (fields_next roles values i h) (ordered_join n low one (fields_from roles values (i + 1)) here rest))
      (λ all. (ordered_parts n low one (fields_from roles values (i + 1)) (subst (Ordered n low) (fields_next roles values i h) all)).1)

  pub bound_missed : ¬ Ordered n low one → ¬ Ordered n low (fields_from roles values i)
  bound_missed missed all =
      missed (ordered_parts n low one (fields_from roles values (i + 1)) (subst (Ordered n low) (fields_next roles values i h) all)).0
