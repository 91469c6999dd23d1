-- The row that a monitor's words hold: the values of its fields from its numbers and from the constants in its ring, by the roles of its type.
use Rattle.std.specs.Prelude.{ℕ, suc, ◌-◌, Bool, cond, ◌||◌, List, [], ◌∷◌, eqb, leb, ltb, take}
use Rattle.constraint.specs.Steps.{at}
use Rattle.constraint.specs.Constraint.{Constraint}
use Rattle.table_row.specs.Records.{is_kind, roles_of, row_read}
use Rattle.row_type.specs.declared.Parameters.{Parameters}

-- the numbers without their first kind
abbrev pub behind_kind : Parameters → Parameters
behind_kind r =
    record {
      tag = r.tag;
      first = r.second;
      second = r.third;
      third = r.fourth;
      fourth = r.fifth;
      fifth = r.fifth;
      span = r.span;
      lower = r.lower;
      upper = r.upper;
      jitter = r.jitter;
      minimum = r.minimum;
    }

-- a lower, a length or a left is the lower among the numbers: L, W, X
abbrev pub is_lower : ℕ → Bool
is_lower r = eqb r 76 || eqb r 87 || eqb r 88

-- the value of a field of a role, with the numbers of the fields from it on: a kind is the first, another byte the span
abbrev pub field_in : ℕ → Parameters → ℕ
field_in r p =
    cond (is_kind r) p.first
    (cond (ltb 96 r) p.span
    (cond (eqb r 74) p.jitter
    (cond (eqb r 77) p.minimum
    (cond (is_lower r) p.lower
    p.upper))))

-- the numbers of the fields behind it
abbrev pub behind_field : ℕ → Parameters → Parameters
behind_field r p = cond (is_kind r) (behind_kind p) p

-- the place from which on the values of a row are constants, of which there are at most 16; 18 for none
abbrev pub constants_from : ℕ → ℕ
constants_from t = cond (eqb t 15) 5 (cond (eqb t 16) 2 18)

abbrev pub constant_limit : ℕ
constant_limit = 16

-- the values of some roles from the i-th on, with the constants that stand in some words
unfoldable pub values_back : List ℕ → Parameters → List ℕ → ℕ → ℕ → List ℕ
values_back [] p words first i = []
values_back (r ∷ roles) p words first i =
    cond (leb first i) (at words (i - first)) (field_in r p) ∷ values_back roles (behind_field r p) words first (suc i)

-- all 18 of them, by the row's numbers and the words of its ring
abbrev pub values_in : Parameters → List ℕ → List ℕ
values_in p words = values_back (roles_of p.tag p.span) p (take constant_limit words) (constants_from p.tag) 0

-- the row
unfoldable pub row_back : Parameters → List ℕ → Constraint
row_back p words = row_read p.tag (values_in p words)
