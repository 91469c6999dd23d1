-- A record of a known type has the fields of the constraint that it stands for, so its numbers, made field by field from the last one, and the words
-- of its ring, taken from its places, are the constraint's.
use Rattle.constraint.proofs.Library.{List, [], ◌++◌, ◌+◌, ◌<◌, ◌∙◌, ◌∷◌, ◌≡◌, ◌≤◌, ap, ap₂, arith}
use Rattle.constraint.proofs.Library.{length, refl, replicate, sets, sym, true, ℕ}
use Rattle.constraint.specs.Steps.{at}
use Rattle.constraint.specs.Types.{Field, TypeKnown, lengths, takes_count}
use Rattle.table_row.specs.Records.{field_at, fields_as, fields_from, roles_of, row_read}
use Rattle.table_row.proofs.ByType.{CountIs, EachThen, each_then}
use Rattle.table_row.proofs.FieldByField.{fields_next}
use Rattle.table_row.proofs.Standing.{reads, type_listed}
use Rattle.row_type.specs.Parameters.{first_constant, no_fields, parameters_of, start_ring, used_from, with_field, with_fields}
use Rattle.row_type.specs.declared.Parameters.{Parameters}

-- ---- fields in their order

fields_append : (a b : List Field) (r : Parameters) → with_fields (a ++ b) r ≡ with_fields a (with_fields b r)
fields_append [] b r = refl
fields_append (f ∷ a) b r = ap (with_field f) (fields_append a b r)

-- a field before those that are there
pub field_before : (roles values : List ℕ) (j i : ℕ) → j + 1 ≡ i → j < length roles → (r next made : Parameters)
    → next ≡ with_fields (fields_from roles values i) r → made ≡ with_fields (field_at (at roles j) (at values j)) next
    → made ≡ with_fields (fields_from roles values j) r
field_before roles values j i e h r next made so_far one =
    one ∙ ap (with_fields (field_at (at roles j) (at values j))) (so_far ∙ ap (λ (n : ℕ). with_fields (fields_from roles values n) r) (sym e))
    ∙ sym (ap (λ (fields : List Field). with_fields fields r) (fields_next roles values j h)
    ∙ fields_append (field_at (at roles j) (at values j)) (fields_from roles values (j + 1)) r)

-- of a record of a known type
pub row_parameters : (edition t : ℕ) (v : List ℕ) → TypeKnown edition t (at v 0)
    → with_fields (fields_as (roles_of t (at v 0)) v) (no_fields t) ≡ parameters_of (row_read t v)
row_parameters edition t v known =
    let here = reads edition t (at v 0) v known (λ e. refl) in
    sym (ap₂ (λ (fields : List Field) (m : ℕ). with_fields fields (no_fields m)) here.1 here.0)

-- ---- the words of the ring

module _ (n : ℕ) (v : List ℕ) where
  abbrev Here : ℕ → Type 0
  Here t = sets (replicate 64 0) 0 (used_from (roles_of t n) v (first_constant t)) ≡ start_ring (row_read t v)

  -- by the n
  by_count : (t : ℕ) → CountIs t n (at v 0) → (least number : ℕ) → least ≤ n → n < least + number
      → EachThen (λ m. (at v 0 ≡ m) × (n ≡ m) → Here t) (Here t) least number
  by_count t known least number some few =
      each_then (λ m. (at v 0 ≡ m) × (n ≡ m) → Here t) (Here t) least number (λ each. each n some few (known.0, refl))

  pattern : CountIs 15 n (at v 0) → Here 15
  unfolding row_read
  pattern known =
      by_count 15 known 1 8 (omega (arith, known.1)) (omega (arith, known.2))
      (λ e. rw (e.0, e.1) refl) (λ e. rw (e.0, e.1) refl) (λ e. rw (e.0, e.1) refl) (λ e. rw (e.0, e.1) refl)
      (λ e. rw (e.0, e.1) refl) (λ e. rw (e.0, e.1) refl) (λ e. rw (e.0, e.1) refl) (λ e. rw (e.0, e.1) refl)

  arbitrary : CountIs 16 n (at v 0) → Here 16
  unfolding row_read
  arbitrary known =
      by_count 16 known 1 8 (omega (arith, known.1)) (omega (arith, known.2))
      (λ e. rw (e.0, e.1) refl) (λ e. rw (e.0, e.1) refl) (λ e. rw (e.0, e.1) refl) (λ e. rw (e.0, e.1) refl)
      (λ e. rw (e.0, e.1) refl) (λ e. rw (e.0, e.1) refl) (λ e. rw (e.0, e.1) refl) (λ e. rw (e.0, e.1) refl)

  words_read : (t : ℕ) → (1 ≤ t) × (t < length lengths) → (takes_count t ≡ true → CountIs t n (at v 0)) → Here t
  unfolding row_read
  words_read t known several =
      each_then (λ m. t ≡ m → Here m) (Here t) 1 17 (λ each. each t known.0 (omega (arith, known.1)) refl)
      (λ e. refl) (λ e. refl) (λ e. refl) (λ e. refl) (λ e. refl) (λ e. refl) (λ e. refl) (λ e. refl) (λ e. refl) (λ e. refl) (λ e. refl)
      (λ e. refl) (λ e. refl) (λ e. refl) (λ e. pattern (rw e at several refl)) (λ e. arbitrary (rw e at several refl)) (λ e. refl)

-- of a record of a known type
pub row_words : (edition t : ℕ) (v : List ℕ) → TypeKnown edition t (at v 0)
    → sets (replicate 64 0) 0 (used_from (roles_of t (at v 0)) v (first_constant t)) ≡ start_ring (row_read t v)
row_words edition t v known =
    words_read (at v 0) v t (type_listed edition t known.type_known) (λ e. (refl, (known.n_known e).0, (known.n_known e).1))
