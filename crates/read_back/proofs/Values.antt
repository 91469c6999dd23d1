-- Values stored one after the other, and that constants begin behind two places.
use Rattle.constraint.proofs.Library.{List, [], ◌+◌, ◌<◌, ◌∙◌, ◌∷◌, ◌≡◌, ◌≤◌, add-one, ap, arith, cond, drop, drop-cons, drop-length, eqb, length}
use Rattle.constraint.proofs.Library.{leb}
use Rattle.constraint.proofs.Library.{refl, set, sets, suc, sym, ℕ, ◌-◌}
use Rattle.constraint.proofs.Lists.{split}
use Rattle.constraint.specs.Steps.{at}
use Rattle.table_row.proofs.Stores.{sets_all}
use Rattle.row_type.specs.declared.Parameters.{Parameters}
use Rattle.read_back.specs.Back.{behind_field, constants_from, field_in, values_back}

pub constants_late : (t : ℕ) → 2 ≤ constants_from t
constants_late t =
    split (eqb t 15) (λ b. 2 ≤ cond b 5 (cond (eqb t 16) 2 18)) (λ _. omega arith)
    (λ _. split (eqb t 16) (λ b. 2 ≤ cond b 2 18) (λ _. omega arith) (λ _. omega arith))

values_long : (roles : List ℕ) (p : Parameters) (words : List ℕ) (first i : ℕ) → length (values_back roles p words first i) ≡ length roles
unfolding values_back
values_long [] p words first i = refl
values_long (r ∷ roles) p words first i = ap suc (values_long roles (behind_field r p) words first (suc i))

-- stored over as many
pub all_stored : (values roles : List ℕ) (p : Parameters) (words : List ℕ) (first : ℕ) → length values ≡ length roles
    → sets values 0 (values_back roles p words first 0) ≡ values_back roles p words first 0
all_stored values roles p words first same =
    sets_all values (values_back roles p words first 0) (same ∙ sym (values_long roles p words first 0))

-- one place more
pub value_more : (values roles : List ℕ) (p : Parameters) (words : List ℕ) (first i : ℕ) → i < length roles
    → sets values i (values_back (drop i roles) p words first i)
    ≡ sets (set values i (cond (leb first i) (at words (i - first)) (field_in (at roles i) p))) (i + 1)
    (values_back (drop (i + 1) roles) (behind_field (at roles i) p) words first (i + 1))
unfolding values_back
value_more values roles p words first i h = rw (add-one i, drop-cons roles i 0 h)

-- no place is left
pub none_left : (values roles : List ℕ) (p : Parameters) (words : List ℕ) (first i : ℕ) → length roles ≡ i
    → sets values i (values_back (drop i roles) p words first i) ≡ values
unfolding values_back
none_left values roles p words first i all =
    ap (λ (rest : List ℕ). sets values i (values_back rest p words first i)) (ap (λ (n : ℕ). drop n roles) (sym all) ∙ drop-length roles)
