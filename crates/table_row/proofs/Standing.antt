-- A body of fitting shape stands for the constraint that it is read as, and a constraint is read again from its body: so a body stands for one.
use Rattle.constraint.proofs.Library.{List, [], ◌+◌, ◌<◌, ◌∙◌, ◌∷◌, ◌≡◌, ◌≤◌, ap, append-nil, ap₂, arith, cond, drop, drop-cons}
use Rattle.constraint.proofs.Library.{List·getD-eq-default}
use Rattle.constraint.proofs.Library.{drop_of_length-le, length, length-drop, ltb, ltb-false, ltb-true, refl, subst, subst⁻¹}
use Rattle.constraint.proofs.Library.{subst₂, suc, sym, take_all, true, ℕ}
use Rattle.constraint.proofs.Lists.{split}
use Rattle.constraint.proofs.Lengths.{at_most}
use Rattle.constraint.specs.Steps.{at}
use Rattle.constraint.specs.Bytes.{Bytes, bytes_of, number_at, number_behind}
use Rattle.constraint.specs.Constraint.{Constraint}
use Rattle.constraint.specs.Types.{Field, byte, time, type_of, fields_of, first_of, count_of}
use Rattle.constraint.specs.Table.{fields_bytes, FieldsFit, row_body}
use Rattle.constraint.specs.Types.{lengths, length_of, last_type, last_types, takes_count}
use Rattle.constraint.specs.Types.{TypeKnown}
use Rattle.constraint.specs.Table.{ShapeFits, StandsFor}
use Rattle.table_row.specs.Records.{width, fields_as, roles_of, values_at, total, cleared, entries, row_read, row_from, row_in}
use Rattle.table_row.proofs.ByType.{Reads, again, first_wide, first_width, placed, values_read, values_of}
use Rattle.table_row.proofs.Bodies.{read_fits, read_written, written_read}

-- Places

pub values_length : (roles body : List ℕ) (place : ℕ) → length (values_at roles body place) ≡ length roles
unfolding values_at
values_length [] body place = refl
values_length (r ∷ roles) body place = ap suc (values_length roles body (place + width r))

first_value : (roles body : List ℕ) (place : ℕ) → 0 < length roles → at (values_at roles body place) 0 ≡ number_at (width (at roles 0)) body place
unfolding values_at
first_value [] body place some = absurd (omega arith)
first_value (r ∷ roles) body place some = refl

cleared_twice : (roles values : List ℕ) → cleared roles (cleared roles values) ≡ cleared roles values
cleared_twice [] values = refl
cleared_twice (r ∷ roles) [] = refl
cleared_twice (r ∷ roles) (x ∷ values) =
    ap₂ (λ (y : ℕ) (l : List ℕ). y ∷ l) (split (ltb r 65) (λ none. cond none 0 (cond none 0 x) ≡ cond none 0 x) (λ e. refl) (λ e. refl))
    (cleared_twice roles values)

-- the number in one byte
one_byte : (body : List ℕ) (place : ℕ) → number_at 1 body place ≡ at body place
unfolding number_behind
one_byte body place =
    split (ltb place (length body)) (λ b. number_at 1 body place ≡ at body place)
    (λ e. rw (drop-cons body place 0 (ltb-true place (length body) e)) (omega arith))
    (λ e. let past = ltb-false place (length body) e in rw (drop_of_length-le body {i = place} past, List·getD-eq-default body 0 {n = place} past))

-- the first byte of fields of which the first is a byte
pub first_byte : (fields : List Field) → FieldsFit fields → first_width fields ≡ 1 → at (fields_bytes fields) 0 ≡ first_of fields
unfolding fields_bytes bytes_of
first_byte [] fit one = absurd (omega arith)
first_byte (byte role x ∷ fields) fit one = omega (arith, fit.0)
first_byte (time role x ∷ fields) fit one = absurd (omega arith)

-- Types and editions

pub type_listed : (edition t : ℕ) → (1 ≤ t) × (t ≤ last_type edition) → (1 ≤ t) × (t < length lengths)
type_listed edition t known = (known.0, omega (arith, known.1, at_most 17 last_types (omega arith) edition))

-- what a type's line says where its n is known
pub shape : (edition t n : ℕ) → TypeKnown edition t n
    → (length_of t n ≡ 1 + total (roles_of t n)) × (width (at (roles_of t n) 0) ≡ 1) × (length (roles_of t n) ≡ 18)
shape edition t n known =
    let all = values_read n (n ∷ []) t (type_listed edition t known.type_known) (λ e. (refl, (known.n_known e).0, (known.n_known e).1)) in
    (all.2, all.3, all.4)

-- a row has a type byte and a byte behind it
pub two_long : (edition t n : ℕ) → TypeKnown edition t n → 2 ≤ length_of t n
two_long edition t n known = let about = shape edition t n known in omega (arith, about.0, about.1)

-- values of which the first is the n, where the type has one
pub reads : (edition t n : ℕ) (v : List ℕ) → TypeKnown edition t n → (takes_count t ≡ true → at v 0 ≡ n) → Reads t n v
reads edition t n v known first =
    values_read n v t (type_listed edition t known.type_known) (λ e. (first e, (known.n_known e).0, (known.n_known e).1))

-- From a body

pub row_stands : {edition : ℕ} (body : List ℕ) → Bytes body → ShapeFits edition body → StandsFor body (row_in (row_from body))
unfolding row_body
row_stands {edition} body all fits =
    let t = at body 0 in
    let n = at body 1 in
    let roles = roles_of t n in
    let v = values_at roles body 1 in
    let about = shape edition t n fits.known in
    let first : at v 0 ≡ n =
    first_value roles body 1 (omega (arith, about.2)) ∙ ap (λ (w : ℕ). number_at w body 1) about.1 ∙ one_byte body 1 in
    let here = reads edition t n v fits.known (λ e. first) in
    let there : 1 + total roles ≤ length body = omega (arith, fits.length_right, about.0) in
    record {
      bytes = ap₂ (λ (t : ℕ) (l : List ℕ). t ∷ l) here.0 (ap fields_bytes here.1 ∙ read_written body all roles 1 there
          ∙ take_all (total roles) (drop 1 body) (omega (arith, fits.length_right, about.0, length-drop 1 body)))
          ∙ sym (drop-cons body 0 0 fits.type_there);
      fits = subst⁻¹ FieldsFit here.1 (read_fits body all roles 1 there);
    }

-- From a constraint

-- where its n is known, its fields are those of its values
pub own_fields : (edition : ℕ) (c : Constraint) → TypeKnown edition (type_of c) (count_of c)
    → fields_of c ≡ fields_as (roles_of (type_of c) (count_of c)) (placed c)
own_fields edition c known =
    let own = again c known.n_known in
    ap fields_of (sym own.0) ∙ (reads edition (type_of c) (count_of c) (placed c) known (λ e. own.1)).1

pub row_again : (edition : ℕ) (c : Constraint) → TypeKnown edition (type_of c) (count_of c) → FieldsFit (fields_of c)
    → row_in (row_from (row_body c)) ≡ c
unfolding row_body
row_again edition c known fit =
    let t = type_of c in
    let own = again c known.n_known in
    let roles = roles_of t (count_of c) in
    let fields = own_fields edition c known in
    let n : at (row_body c) 1 ≡ count_of c = first_byte (fields_of c) fit (first_wide c) in
    let values : values_at roles (t ∷ fields_bytes (fields_of c)) 1 ≡ placed c =
    ap (λ (l : List ℕ). values_at roles (t ∷ l) 1) (ap fields_bytes fields ∙ sym (append-nil (fields_bytes (fields_as roles (placed c)))))
    ∙ written_read roles (placed c) (t ∷ []) [] ((shape edition t (count_of c) known).2 ∙ sym own.2) (subst FieldsFit fields fit)
    ∙ cleared_twice roles (entries 18 (values_of c) 0) in
    ap (λ (m : ℕ). row_read t (values_at (roles_of t m) (row_body c) 1)) n ∙ ap (row_read t) values ∙ own.0

-- a body of fitting shape says the type and the n of what it stands for
pub stands_known : {edition : ℕ} (body : List ℕ) (c : Constraint) → ShapeFits edition body → StandsFor body c
    → TypeKnown edition (type_of c) (count_of c)
unfolding row_body
stands_known {edition} body c fits stands =
    let type : at body 0 ≡ type_of c = ap (λ (l : List ℕ). at l 0) (sym stands.bytes) in
    let n : at body 1 ≡ count_of c = ap (λ (l : List ℕ). at l 1) (sym stands.bytes) ∙ first_byte (fields_of c) stands.fits (first_wide c) in
    subst₂ (TypeKnown edition) type n fits.known

-- a body of fitting shape stands for one constraint
pub stands_once : {edition : ℕ} (body : List ℕ) → ShapeFits edition body → (c d : Constraint) → StandsFor body c → StandsFor body d → c ≡ d
stands_once {edition} body fits c d one two =
    sym (row_again edition c (stands_known body c fits one) one.fits)
    ∙ ap (λ (l : List ℕ). row_in (row_from l)) (one.bytes ∙ sym two.bytes)
    ∙ row_again edition d (stands_known body d fits two) two.fits
