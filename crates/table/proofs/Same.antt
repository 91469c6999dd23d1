-- Rows of the same type and fields are equal, since a row can be made again from its type and its fields: its lists are the kinds, the offsets or the
-- pairs among the fields.
use Rattle.constraint.specs.Accepted.{kinds_in}
use Rattle.constraint.specs.Constraint.{Age, Arbitrary, Burst, Comparison, Delay, ExecutionTime, InputSynchronization, Order, OutputSynchronization}
use Rattle.constraint.specs.Constraint.{Pattern, Reaction, Repeat, Repetition, Sporadic, StrongDelay, StrongSynchronization, Synchronization}
use Rattle.constraint.specs.Types.{Field, byte, coloured, fields_of, kind, kind_fields, offset_fields, pair_fields, plain, time, tolerance, value_of}
use Rattle.constraint.proofs.Library.{List, [], ◌++◌, ◌∙◌, ◌∷◌, ◌≡◌, ap, ap₂, cond, drop, eqb, map, refl, sym, ℕ}
use Rattle.table.proofs.Names.{Constraint, Same, at, row_read, type_of}

-- ---- lists

last_of : List ℕ → ℕ
last_of [] = 0
last_of (x ∷ []) = x
last_of (x ∷ y ∷ l) = last_of (y ∷ l)

front : List ℕ → List ℕ
front [] = []
front (x ∷ []) = []
front (x ∷ y ∷ l) = x ∷ front (y ∷ l)

last_snoc : (l : List ℕ) (x : ℕ) → last_of (l ++ (x ∷ [])) ≡ x
unfolding last_of
last_snoc [] x = refl
last_snoc (y ∷ []) x = refl
last_snoc (y ∷ z ∷ l) x = last_snoc (z ∷ l) x

front_snoc : (l : List ℕ) (x : ℕ) → front (l ++ (x ∷ [])) ≡ l
unfolding front
front_snoc [] x = refl
front_snoc (y ∷ []) x = refl
front_snoc (y ∷ z ∷ l) x = ap (λ (r : List ℕ). y ∷ r) (front_snoc (z ∷ l) x)

pairs_of : List ℕ → List (ℕ × ℕ)
pairs_of [] = []
pairs_of (x ∷ []) = []
pairs_of (x ∷ y ∷ l) = (x, y) ∷ pairs_of l

-- ---- the fields of a list

abbrev values : List Field → List ℕ
values fields = map value_of fields

values_append : (a b : List Field) → values (a ++ b) ≡ values a ++ values b
values_append [] b = refl
values_append (f ∷ a) b = ap (λ (l : List ℕ). value_of f ∷ l) (values_append a b)

plain_kinds : (ks : List ℕ) (x : ℕ) → kinds_in (kind_fields kind ks ++ (time (plain tolerance) x ∷ [])) ≡ ks
plain_kinds [] x = refl
plain_kinds (k ∷ ks) x = ap (λ (l : List ℕ). k ∷ l) (plain_kinds ks x)

coloured_kinds : (ks : List ℕ) (x : ℕ) → kinds_in (kind_fields coloured ks ++ (time (plain tolerance) x ∷ [])) ≡ ks
coloured_kinds [] x = refl
coloured_kinds (k ∷ ks) x = ap (λ (l : List ℕ). k ∷ l) (coloured_kinds ks x)

chain_kinds : (ks : List ℕ) (a x : ℕ) → kinds_in (kind_fields coloured ks ++ (byte coloured a ∷ time (plain tolerance) x ∷ [])) ≡ ks ++ (a ∷ [])
chain_kinds [] a x = refl
chain_kinds (k ∷ ks) a x = ap (λ (l : List ℕ). k ∷ l) (chain_kinds ks a x)

-- the tolerance behind them
tolerance_last : (n : ℕ) (before : List Field) (x : ℕ) → last_of (n ∷ values (before ++ (time (plain tolerance) x ∷ []))) ≡ x
tolerance_last n before x =
    ap (λ (l : List ℕ). last_of (n ∷ l)) (values_append before (time (plain tolerance) x ∷ [])) ∙ last_snoc (n ∷ values before) x

chain_last : (n : ℕ) (before : List Field) (a x : ℕ) → last_of (n ∷ values (before ++ (byte coloured a ∷ time (plain tolerance) x ∷ []))) ≡ x
chain_last n before a x =
    ap (λ (l : List ℕ). last_of (n ∷ l)) (values_append before (byte coloured a ∷ time (plain tolerance) x ∷ []) ∙ two (values before))
    ∙ last_snoc (n ∷ (values before ++ (a ∷ []))) x
  where
    two : (l : List ℕ) → l ++ (a ∷ x ∷ []) ≡ (l ++ (a ∷ [])) ++ (x ∷ [])
    two [] = refl
    two (y ∷ l) = ap (λ (r : List ℕ). y ∷ r) (two l)

offsets_back : (xs : List ℕ) → values (offset_fields xs) ≡ xs
offsets_back [] = refl
offsets_back (x ∷ xs) = ap (λ (l : List ℕ). x ∷ l) (offsets_back xs)

pairs_back : (ps : List (ℕ × ℕ)) → pairs_of (values (pair_fields ps)) ≡ ps
unfolding pairs_of
pairs_back [] = refl
pairs_back (p ∷ ps) = ap (λ (l : List (ℕ × ℕ)). p ∷ l) (pairs_back ps)

-- ---- a row from its type and its fields

made : ℕ → List Field → Constraint
made t fields =
    let v = values fields in
    cond (eqb t 7) (StrongSynchronization (kinds_in fields) (last_of v))
    (cond (eqb t 11) (Synchronization (kinds_in fields) (last_of v))
    (cond (eqb t 13) (OutputSynchronization (at (kinds_in fields) 0) (drop 1 (kinds_in fields)) (last_of v))
    (cond (eqb t 14) (InputSynchronization (front (kinds_in fields)) (last_of (kinds_in fields)) (last_of v))
    (cond (eqb t 15) (Pattern (at v 1) (at v 2) (at v 3) (at v 4) (drop 5 v))
    (cond (eqb t 16) (Arbitrary (at v 1) (pairs_of (drop 2 v)))
    (row_read t v))))))

again : (c : Constraint) → made (type_of c) (fields_of c) ≡ c
unfolding made row_read
again (Delay a b x y) = refl
again (StrongDelay a b x y) = refl
again (Repeat a b x y) = refl
again (Sporadic a x y z w) = refl
again (Burst a b x y) = refl
again (Order a b) = refl
again (StrongSynchronization ks x) = ap₂ StrongSynchronization (plain_kinds ks x) (tolerance_last _ (kind_fields kind ks) x)
again (ExecutionTime a b c d x y) = refl
again (Reaction a b x y) = refl
again (Repetition a b x y z) = refl
again (Synchronization ks x) = ap₂ Synchronization (plain_kinds ks x) (tolerance_last _ (kind_fields kind ks) x)
again (Age a b x y) = refl
again (OutputSynchronization a ks x) =
    ap₂ (OutputSynchronization a) (coloured_kinds ks x) (tolerance_last _ (byte coloured a ∷ kind_fields coloured ks) x)
again (InputSynchronization ks a x) =
    ap₂ (λ (l : List ℕ). InputSynchronization (front l) (last_of l)) (chain_kinds ks a x) (chain_last _ (kind_fields coloured ks) a x)
    ∙ ap₂ (λ (l : List ℕ) (k : ℕ). InputSynchronization l k x) (front_snoc ks a) (last_snoc ks a)
again (Pattern a x y z xs) = ap (Pattern a x y z) (offsets_back xs)
again (Arbitrary a ps) = ap (Arbitrary a) (pairs_back ps)
again (Comparison o x y) = refl

-- §4.8: rows of the same type and the same fields are equal
pub same_equal : (c d : Constraint) → Same c d → c ≡ d
same_equal c d same = sym (again c) ∙ ap₂ made same.0 same.1 ∙ again d
