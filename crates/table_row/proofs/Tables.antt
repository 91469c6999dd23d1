-- A record has as many rows as its count says, and those of an accepted table are of known types.
use Rattle.constraint.proofs.Library.{List, List·getD-append, List·getD-map, [], ◌++◌, ◌+◌, ◌<◌, ◌∙◌, ◌∷◌, ◌≡◌, add-one, ap, arith, drop}
use Rattle.constraint.proofs.Library.{drop-cons, get_or, get_or-take, get_elem?, length, length-append, length-drop, length-map, length-replicate}
use Rattle.constraint.proofs.Library.{length-set}
use Rattle.constraint.proofs.Library.{length-take, map, refl, replicate, set, some, suc, sym, take, take-append-le, take-suc-set, zero, ℕ}
use Rattle.std.specs.Prelude.{Option, Some, ◌≤◌}
use Rattle.std.specs.List.{HoldsAt}
use Rattle.std.specs.Option.{MatchOption}
use Rattle.std.proofs.Common.{Bor}
use Rattle.std.proofs.lemmas.Option.{MatchOption-at_some}
use Rattle.constraint.proofs.Accepted.{row_accepted}
use Rattle.constraint.proofs.Judged.{judged_all}
use Rattle.constraint.specs.Accepted.{AcceptedIn}
use Rattle.constraint.specs.Constraint.{Constraint}
use Rattle.constraint.specs.Types.{TypeKnown, count_of, type_of}
use Rattle.table_row.specs.Records.{no_constraint, row_in}
use Rattle.table_row.specs.Tables.{rows_of}
use Rattle.table_row.specs.declared.Table.{Table}
use Rattle.table_row.specs.declared.TableRow.{TableRow}

pub rows_length : (table : Table) → length (rows_of table) ≡ table.count
unfolding rows_of
rows_length table =
    length-take table.count _
    ∙ omega (
      arith,
      length-append (map row_in table.rows) (replicate table.count no_constraint),
      length-replicate table.count no_constraint,
    )

-- the rows from a place on: that of the entry, and the others
pub rows_from : (table : Table) (i : ℕ) (other : TableRow) → i < table.count → i < length table.rows
    → drop i (rows_of table) ≡ row_in (get_or table.rows i other) ∷ drop (i + 1) (rows_of table)
unfolding rows_of
rows_from table i other counted there =
    let list : List Constraint = map row_in table.rows in
    rw (add-one i, drop-cons (rows_of table) i (row_in other) (omega (arith, rows_length table)))
    (ap (λ (c : Constraint). c ∷ drop (suc i) (rows_of table))
    (get_or-take table.count (list ++ replicate table.count no_constraint) i (row_in other) counted
    ∙ List·getD-append list (replicate table.count no_constraint) (row_in other) i
    (omega (arith, length-map table.rows row_in))
    ∙ List·getD-map row_in table.rows i other))

map_set : (l : List TableRow) (n : ℕ) (x : TableRow) → map row_in (set l n x) ≡ set (map row_in l) n (row_in x)
map_set [] n x = refl
map_set (y ∷ l) zero x = refl
map_set (y ∷ l) (suc n) x = ap (λ (rest : List Constraint). row_in y ∷ rest) (map_set l n x)

-- a row put behind the others
pub rows_more : (rows : List TableRow) (n : ℕ) (x : TableRow) → n < length rows
    → rows_of (record { rows = set rows n x; count = n + 1 }) ≡ rows_of (record { rows = rows; count = n }) ++ (row_in x ∷ [])
unfolding rows_of
rows_more rows n x there =
    let mapped = length-map rows row_in in
    take-append-le (n + 1) (map row_in (set rows n x)) (replicate (n + 1) no_constraint)
    (omega (arith, length-map (set rows n x) row_in, length-set rows n x))
    ∙ ap (take (n + 1)) (map_set rows n x)
    ∙ rw (add-one n) (take-suc-set (map row_in rows) n (row_in x) (omega arith))
    ∙ ap (λ (l : List Constraint). l ++ (row_in x ∷ [])) (sym (take-append-le n (map row_in rows) (replicate n no_constraint) (omega arith)))

-- the entry that is found at a place
pub rows_found : (table : Table) (i : ℕ) (found : Option (Bor TableRow)) (entry : Bor TableRow) → found ≡ Some entry
    → MatchOption found (length table.rows ≤ i) (λ x. (i < length table.rows) × HoldsAt (λ y. x.now ≡ y) table.rows i) → i < table.count
    → drop i (rows_of table) ≡ row_in entry.now ∷ drop (i + 1) (rows_of table)
rows_found table i found entry e looked counted =
    let there = MatchOption-at_some _ _ entry e looked in
    rows_from table i entry.now counted there.0
    ∙ ap (λ (row : TableRow). row_in row ∷ drop (i + 1) (rows_of table)) (sym (there.1 entry.now))

-- the rows of an accepted table are of known types
first_of : (l : List Constraint) (i : ℕ) (c : Constraint) (rest : List Constraint) → drop i l ≡ c ∷ rest → get_elem? l i ≡ some c
first_of [] i c rest e = absurd (omega (arith, ap length e, length-drop {A = Constraint} i []))
first_of (x ∷ l) zero c rest e = let same : x ≡ c = cc in ap some same
first_of (x ∷ l) (suc i) c rest e = first_of l i c rest e

pub row_known : (edition : ℕ) (table : Table) (i : ℕ) (other : TableRow) → i < table.count → i < length table.rows
    → AcceptedIn edition (rows_of table)
    → TypeKnown edition (type_of (row_in (get_or table.rows i other))) (count_of (row_in (get_or table.rows i other)))
row_known edition table i other counted there accepted =
    let c = row_in (get_or table.rows i other) in
    (judged_all 4 (TypeKnown edition (type_of c) (count_of c)) _
    (row_accepted edition 0 (rows_of table) accepted i c (first_of (rows_of table) i c _ (rows_from table i other counted there)))).0
