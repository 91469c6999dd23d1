-- A record and the constraint that it stands for: question 4 asks the same of both, and what is asked of the fields of one is asked of the other's.
use Rattle.constraint.proofs.Library.{List, [], ◌++◌, ◌+◌, ◌<◌, ◌∙◌, ◌∷◌, ◌≡◌, ◌≤◌, ap, ap₂, arith, length}
use Rattle.constraint.proofs.Library.{length-append, ltb}
use Rattle.constraint.proofs.Library.{lt-ltb, ltb-false, ltb-true, refl, sets, subst, subst⁻¹, suc, sym, true, ℕ}
use Rattle.constraint.proofs.Judged.{judged_no, judged_yes}
use Rattle.constraint.proofs.Lists.{split}
use Rattle.constraint.specs.Questions.{Judged, Question}
use Rattle.constraint.specs.Accepted.{InRange, KindsFit, KindsSuit, LowerFirst}
use Rattle.constraint.specs.Steps.{at}
use Rattle.constraint.specs.Bytes.{bytes_of}
use Rattle.constraint.specs.Answer.{Answer}
use Rattle.constraint.specs.Answer.{Refused}
use Rattle.big_endian.proofs.Numbers.{bytes_length}
use Rattle.big_endian.proofs.Stores.{stores_append}
use Rattle.constraint.specs.Constraint.{Constraint}
use Rattle.constraint.specs.Types.{Field, type_of, fields_of, count_of, first_of}
use Rattle.constraint.specs.Table.{fields_bytes, row_body, row_bytes}
use Rattle.constraint.specs.Types.{lengths, last_type, takes_count, TypeKnown}
use Rattle.constraint.specs.Accepted.{EachField, FieldInRange, KindClassFits, Ordered, kinds_in, row_questions_in}
use Rattle.table_row.specs.Records.{fields_as, fields_with, roles_of, row_read, total, width}
use Rattle.table_row.proofs.ByType.{no_type, says}
use Rattle.table_row.proofs.Bodies.{place_bytes}
use Rattle.table_row.proofs.Lines.{total_small}
use Rattle.table_row.proofs.FieldByField.{by_role}
use Rattle.table_row.proofs.Standing.{reads, shape, type_listed}

module _ (edition t : ℕ) (v : List ℕ) where
  abbrev c : Constraint
  c = row_read t v

  pub row_known : TypeKnown edition t (at v 0) → TypeKnown edition (type_of c) (count_of c)
  row_known known =
      let said = says v t (type_listed edition t known.type_known) in
      record {
        type_known = subst⁻¹ (λ (m : ℕ). (1 ≤ m) × (m ≤ last_type edition)) said.0 known.type_known;
        n_known = λ has. let also : takes_count t ≡ true = subst (λ (m : ℕ). takes_count m ≡ true) said.0 has in
            rw (said.0, said.1 also) (known.n_known also);
      }

  pub known_row : TypeKnown edition (type_of c) (count_of c) → TypeKnown edition t (at v 0)
  known_row known =
      split (ltb 0 t) (λ b. TypeKnown edition t (at v 0))
      (λ some. split (ltb t (length lengths)) (λ b. TypeKnown edition t (at v 0))
      (λ less. listed (omega (arith, ltb-true 0 t some), ltb-true t (length lengths) less))
      (λ past. absurd (none (λ both. omega (arith, both.1, ltb-false t (length lengths) past)))))
      (λ past. absurd (none (λ both. omega (arith, both.0, ltb-false 0 t past))))
    where
      none : ¬ ((1 ≤ t) × (t < length lengths)) → ⊥
      none other =
          let no : TypeKnown edition 7 0 = subst (λ (d : Constraint). TypeKnown edition (type_of d) (count_of d)) (no_type t v other) known in
          omega (arith, (no.n_known refl).0)

      listed : (1 ≤ t) × (t < length lengths) → TypeKnown edition t (at v 0)
      listed there =
          let said = says v t there in
          record {
            type_known = subst (λ (m : ℕ). (1 ≤ m) × (m ≤ last_type edition)) said.0 known.type_known;
            n_known = λ has. rw (said.0, said.1 has) at (known.n_known (subst⁻¹ (λ (m : ℕ). takes_count m ≡ true) said.0 has));
          }

-- the bytes of fields are as long as their roles say
pub fields_long : (roles values : List ℕ) (i : ℕ) → length (fields_bytes (fields_with roles values i)) ≡ total roles
unfolding fields_with fields_bytes
fields_long [] values i = refl
fields_long (r ∷ roles) values i =
    ap length (place_bytes r (at values i) (fields_with roles values (suc i)))
    ∙ length-append (bytes_of (width r) (at values i)) (fields_bytes (fields_with roles values (suc i)))
    ∙ ap₂ (λ (m n : ℕ). m + n) (bytes_length (width r) (at values i)) (fields_long roles values (suc i))

-- the questions of fields whose n is at hand
abbrev pub asked_with : ℕ → List Field → List Question
asked_with n fields = (5, KindsFit (kinds_in fields)) ∷ (18, EachField KindClassFits fields) ∷ (6, EachField FieldInRange fields) ∷
    (7, Ordered n 0 fields) ∷ []

-- the first of some fields has the first value, where its role is that of a byte
first_field : (roles values : List ℕ) → width (at roles 0) ≡ 1 → first_of (fields_as roles values) ≡ at values 0
unfolding fields_with
first_field [] values first = absurd (omega arith)
first_field (r ∷ roles) values first =
    by_role (λ fs. width r ≡ 1 → first_of (fs ++ fields_with roles values 1) ≡ at values 0) r (at values 0) (λ less one. absurd (small less one))
    (λ less one. refl) (λ more one. refl) first
  where
    small : r < 65 → width r ≡ 1 → ⊥
    small less one = let none : width r ≡ 0 = rw (lt-ltb r 65 less) in omega (arith, one, none)

module _ (edition t : ℕ) (v : List ℕ) (known : TypeKnown edition t (at v 0)) where
  pub row_fields : fields_of (row_read t v) ≡ fields_as (roles_of t (at v 0)) v
  row_fields = (reads edition t (at v 0) v known (λ e. refl)).1

  pub row_asked : (a : Answer) → Judged (asked_with (at v 0) (fields_as (roles_of t (at v 0)) v)) a
      → Judged (row_questions_in edition (row_read t v)) a
  unfolding KindsSuit InRange LowerFirst
  row_asked a h =
      let n : first_of (fields_as (roles_of t (at v 0)) v) ≡ at v 0 =
      first_field (roles_of t (at v 0)) v (shape edition t (at v 0) known).1 in
      judged_yes 4 _ _ a (row_known edition t v known)
      (subst⁻¹ (λ (fs : List Field). Judged (asked_with (first_of fs) fs) a) row_fields
      (subst⁻¹ (λ (m : ℕ). Judged (asked_with m (fields_as (roles_of t (at v 0)) v)) a) n h))

  pub row_body_lem : row_body (row_read t v) ≡ t ∷ fields_bytes (fields_as (roles_of t (at v 0)) v)
  unfolding row_body
  row_body_lem = ap₂ (λ (m : ℕ) (l : List ℕ). m ∷ l) (reads edition t (at v 0) v known (λ e. refl)).0 (ap fields_bytes row_fields)

  pub body_long : length (row_body (row_read t v)) ≡ 1 + total (roles_of t (at v 0))
  body_long = ap length row_body_lem ∙ omega (arith, fields_long (roles_of t (at v 0)) v 0)

  -- the stores of the length field, of the type byte and of the fields
  pub row_stores : (buffer one two three : List ℕ) (place size : ℕ) → size ≡ 1 + total (roles_of t (at v 0))
      → one ≡ sets buffer place (bytes_of 2 size)
      → two ≡ sets one (place + 2) (t ∷ []) → three ≡ sets two (place + 3) (fields_bytes (fields_as (roles_of t (at v 0)) v))
      → three ≡ sets buffer place (row_bytes (row_read t v))
  unfolding row_bytes
  row_stores buffer one two three place size s p q r =
      let body = fields_bytes (fields_as (roles_of t (at v 0)) v) in
      let field = bytes_of 2 size in
      let third : place + 2 + 1 ≡ place + 3 = omega arith in
      let stored : sets (sets (sets buffer place field) (place + 2) (t ∷ [])) (place + 3) body ≡ sets buffer place (field ++ (t ∷ body)) =
      sym (stores_append buffer place field (t ∷ body)
      ∙ ap (λ (n : ℕ). sets (sets buffer place field) (place + n) (t ∷ body)) (bytes_length 2 size)
      ∙ stores_append (sets buffer place field) (place + 2) (t ∷ []) body
      ∙ ap (λ (n : ℕ). sets (sets (sets buffer place field) (place + 2) (t ∷ [])) n body) third) in
      r ∙ ap (λ (l : List ℕ). sets l (place + 3) body) (q ∙ ap (λ (l : List ℕ). sets l (place + 2) (t ∷ [])) p) ∙ stored
      ∙ ap₂ (λ (m : ℕ) (l : List ℕ). sets buffer place (bytes_of 2 m ++ l)) (s ∙ sym body_long) (sym row_body_lem)

-- a record of no known type, or of no known n
pub row_unknown : (edition t : ℕ) (v : List ℕ) → ¬ TypeKnown edition t (at v 0) → Judged (row_questions_in edition (row_read t v)) (Refused 4)
row_unknown edition t v not = judged_no 4 _ _ (λ known. not (known_row edition t v known))

-- a body whose first byte is a type's is not empty
pub type_there : (edition : ℕ) (body : List ℕ) → TypeKnown edition (at body 0) (at body 1) → 0 < length body
type_there edition [] known = absurd (omega (arith, known.type_known.0))
type_there edition (x ∷ body) known = omega arith

-- a row is its length field and its body
pub row_bytes_long : (c : Constraint) → length (row_bytes c) ≡ 2 + length (row_body c)
unfolding row_bytes
row_bytes_long c = length-append (bytes_of 2 (length (row_body c))) (row_body c) ∙ rw (bytes_length 2 (length (row_body c)))

-- a row of a known type is short
pub row_short : (edition t : ℕ) (v : List ℕ) → TypeKnown edition (type_of (row_read t v)) (count_of (row_read t v))
    → length (row_body (row_read t v)) ≤ 145
row_short edition t v known =
    let here = known_row edition t v known in omega (arith, body_long edition t v here, total_small (roles_of t (at v 0)))
