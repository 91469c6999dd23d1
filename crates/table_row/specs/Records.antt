-- What the code's record of a row holds: values in places, the numbers of their roles, and the constraint that the record stands for. No definition
-- of the contract rests on these.
use Rattle.std.specs.Prelude.{ℕ, zero, suc, ◌+◌, ◌-◌, ◌≡◌, Bool, true, cond, ◌||◌, List, [], ◌∷◌, ◌++◌, eqb, leb, ltb, drop, get_or, replicate}
use Rattle.std.proofs.lemmas.List.Edits.{sets}
use Rattle.constraint.specs.Limits.{span_limit, repetition_span_limit}
use Rattle.constraint.specs.Steps.{at}
use Rattle.constraint.specs.Bytes.{number_at}
use Rattle.constraint.specs.Constraint.{Constraint, Delay, StrongDelay, Repeat, Sporadic, Burst, Order, StrongSynchronization, ExecutionTime}
use Rattle.constraint.specs.Constraint.{Reaction, Repetition, Synchronization, Age, OutputSynchronization, InputSynchronization, Pattern}
use Rattle.constraint.specs.Constraint.{Arbitrary, Comparison}
use Rattle.constraint.specs.Types.{ByteRole, kind, coloured, count, span, TimeRole, lower, upper, upper_or_none, offset, left, right, plain}
use Rattle.constraint.specs.Types.{Plain, jitter, minimum, len, tolerance, Field, byte, time}
use Rattle.constraint.specs.Accepted.{bound_after}
use Rattle.table_row.specs.declared.TableRow.{TableRow}

-- Roles as letters: capitals for times, small ones for fields of one byte

-- the role of a field of one byte: k, c, n, s, t
abbrev pub byte_role : ℕ → ByteRole
byte_role r = cond (eqb r 107) kind (cond (eqb r 99) coloured (cond (eqb r 110) count (span (cond (eqb r 115) span_limit repetition_span_limit))))

-- the role of a time that is no bound: J, M, W, T
abbrev pub plain_role : ℕ → Plain
plain_role r = cond (eqb r 74) jitter (cond (eqb r 77) minimum (cond (eqb r 87) len tolerance))

-- the role of a time that an n compares: X, Y
abbrev pub operand_role : ℕ → TimeRole
operand_role r = cond (eqb r 88) left (cond (eqb r 89) right (plain (plain_role r)))

-- the role of a time: L, U, N, O
abbrev pub time_role : ℕ → TimeRole
time_role r = cond (eqb r 76) lower (cond (eqb r 85) upper (cond (eqb r 78) upper_or_none (cond (eqb r 79) offset (operand_role r))))

-- the role is that of a kind, plain or coloured
abbrev pub is_kind : ℕ → Bool
is_kind r = eqb r 107 || eqb r 99

-- how many bytes a field of a role has; what is no letter is no field
abbrev pub width : ℕ → ℕ
width r = cond (ltb r 65) 0 (cond (ltb r 97) 8 1)

-- the field of a role, and of a place, where the place is used
abbrev pub field_of : ℕ → ℕ → Field
field_of r x = cond (ltb r 97) (time (time_role r) x) (byte (byte_role r) x)

abbrev pub field_at : ℕ → ℕ → List Field
field_at r x = cond (ltb r 65) [] (field_of r x ∷ [])

-- the fields of some roles, with the values from the i-th on
unfoldable pub fields_with : List ℕ → List ℕ → ℕ → List Field
fields_with [] values i = []
fields_with (r ∷ roles) values i = field_at r (at values i) ++ fields_with roles values (suc i)

abbrev pub fields_as : List ℕ → List ℕ → List Field
fields_as roles values = fields_with roles values 0

-- from the i-th place on
abbrev pub fields_from : List ℕ → List ℕ → ℕ → List Field
fields_from roles values i = fields_with (drop i roles) values i

-- The types

-- the roles of the places of a row, as letters, by the type; 0 is not a type
abbrev pub role_lines : List (List ℕ)
role_lines =
    replicate 18 0
    -- 1 Delay: kkLN..............
    ∷ (107 ∷ 107 ∷ 76 ∷ 78 ∷ 46 ∷ 46 ∷ 46 ∷ 46 ∷ 46 ∷ 46 ∷ 46 ∷ 46 ∷ 46 ∷ 46 ∷ 46 ∷ 46 ∷ 46 ∷ 46 ∷ [])
    -- 2 StrongDelay: kkLU..............
    ∷ (107 ∷ 107 ∷ 76 ∷ 85 ∷ 46 ∷ 46 ∷ 46 ∷ 46 ∷ 46 ∷ 46 ∷ 46 ∷ 46 ∷ 46 ∷ 46 ∷ 46 ∷ 46 ∷ 46 ∷ 46 ∷ [])
    -- 3 Repeat: ksLN..............
    ∷ (107 ∷ 115 ∷ 76 ∷ 78 ∷ 46 ∷ 46 ∷ 46 ∷ 46 ∷ 46 ∷ 46 ∷ 46 ∷ 46 ∷ 46 ∷ 46 ∷ 46 ∷ 46 ∷ 46 ∷ 46 ∷ [])
    -- 4 Sporadic: kLNJM.............
    ∷ (107 ∷ 76 ∷ 78 ∷ 74 ∷ 77 ∷ 46 ∷ 46 ∷ 46 ∷ 46 ∷ 46 ∷ 46 ∷ 46 ∷ 46 ∷ 46 ∷ 46 ∷ 46 ∷ 46 ∷ 46 ∷ [])
    -- 5 Burst: ksWM..............
    ∷ (107 ∷ 115 ∷ 87 ∷ 77 ∷ 46 ∷ 46 ∷ 46 ∷ 46 ∷ 46 ∷ 46 ∷ 46 ∷ 46 ∷ 46 ∷ 46 ∷ 46 ∷ 46 ∷ 46 ∷ 46 ∷ [])
    -- 6 Order: kk................
    ∷ (107 ∷ 107 ∷ 46 ∷ 46 ∷ 46 ∷ 46 ∷ 46 ∷ 46 ∷ 46 ∷ 46 ∷ 46 ∷ 46 ∷ 46 ∷ 46 ∷ 46 ∷ 46 ∷ 46 ∷ 46 ∷ [])
    -- 7 StrongSynchronization: nkkkkT............
    ∷ (110 ∷ 107 ∷ 107 ∷ 107 ∷ 107 ∷ 84 ∷ 46 ∷ 46 ∷ 46 ∷ 46 ∷ 46 ∷ 46 ∷ 46 ∷ 46 ∷ 46 ∷ 46 ∷ 46 ∷ 46 ∷ [])
    -- 8 ExecutionTime: kkkkLU............
    ∷ (107 ∷ 107 ∷ 107 ∷ 107 ∷ 76 ∷ 85 ∷ 46 ∷ 46 ∷ 46 ∷ 46 ∷ 46 ∷ 46 ∷ 46 ∷ 46 ∷ 46 ∷ 46 ∷ 46 ∷ 46 ∷ [])
    -- 9 Reaction: ccLU..............
    ∷ (99 ∷ 99 ∷ 76 ∷ 85 ∷ 46 ∷ 46 ∷ 46 ∷ 46 ∷ 46 ∷ 46 ∷ 46 ∷ 46 ∷ 46 ∷ 46 ∷ 46 ∷ 46 ∷ 46 ∷ 46 ∷ [])
    -- 10 Repetition: ktLUJ.............
    ∷ (107 ∷ 116 ∷ 76 ∷ 85 ∷ 74 ∷ 46 ∷ 46 ∷ 46 ∷ 46 ∷ 46 ∷ 46 ∷ 46 ∷ 46 ∷ 46 ∷ 46 ∷ 46 ∷ 46 ∷ 46 ∷ [])
    -- 11 Synchronization: nkkkkT............
    ∷ (110 ∷ 107 ∷ 107 ∷ 107 ∷ 107 ∷ 84 ∷ 46 ∷ 46 ∷ 46 ∷ 46 ∷ 46 ∷ 46 ∷ 46 ∷ 46 ∷ 46 ∷ 46 ∷ 46 ∷ 46 ∷ [])
    -- 12 Age: ccLU..............
    ∷ (99 ∷ 99 ∷ 76 ∷ 85 ∷ 46 ∷ 46 ∷ 46 ∷ 46 ∷ 46 ∷ 46 ∷ 46 ∷ 46 ∷ 46 ∷ 46 ∷ 46 ∷ 46 ∷ 46 ∷ 46 ∷ [])
    -- 13 OutputSynchronization: ncccccT...........
    ∷ (110 ∷ 99 ∷ 99 ∷ 99 ∷ 99 ∷ 99 ∷ 84 ∷ 46 ∷ 46 ∷ 46 ∷ 46 ∷ 46 ∷ 46 ∷ 46 ∷ 46 ∷ 46 ∷ 46 ∷ 46 ∷ [])
    -- 14 InputSynchronization: ncccccT...........
    ∷ (110 ∷ 99 ∷ 99 ∷ 99 ∷ 99 ∷ 99 ∷ 84 ∷ 46 ∷ 46 ∷ 46 ∷ 46 ∷ 46 ∷ 46 ∷ 46 ∷ 46 ∷ 46 ∷ 46 ∷ 46 ∷ [])
    -- 15 Pattern: nkUJMOOOOOOOO.....
    ∷ (110 ∷ 107 ∷ 85 ∷ 74 ∷ 77 ∷ 79 ∷ 79 ∷ 79 ∷ 79 ∷ 79 ∷ 79 ∷ 79 ∷ 79 ∷ 46 ∷ 46 ∷ 46 ∷ 46 ∷ 46 ∷ [])
    -- 16 Arbitrary: nkLNLNLNLNLNLNLNLN
    ∷ (110 ∷ 107 ∷ 76 ∷ 78 ∷ 76 ∷ 78 ∷ 76 ∷ 78 ∷ 76 ∷ 78 ∷ 76 ∷ 78 ∷ 76 ∷ 78 ∷ 76 ∷ 78 ∷ 76 ∷ 78 ∷ [])
    -- 17 Comparison: nXY...............
    ∷ (110 ∷ 88 ∷ 89 ∷ 46 ∷ 46 ∷ 46 ∷ 46 ∷ 46 ∷ 46 ∷ 46 ∷ 46 ∷ 46 ∷ 46 ∷ 46 ∷ 46 ∷ 46 ∷ 46 ∷ 46 ∷ [])
    ∷ []

abbrev pub role_line : ℕ → List ℕ
role_line t = get_or role_lines t (replicate 18 0)

-- from which n on each place is used, as digits, by the type
abbrev pub need_lines : List (List ℕ)
need_lines =
    replicate 18 0
    -- 1 Delay: 000000000000000000
    ∷ (48 ∷ 48 ∷ 48 ∷ 48 ∷ 48 ∷ 48 ∷ 48 ∷ 48 ∷ 48 ∷ 48 ∷ 48 ∷ 48 ∷ 48 ∷ 48 ∷ 48 ∷ 48 ∷ 48 ∷ 48 ∷ [])
    -- 2 StrongDelay: 000000000000000000
    ∷ (48 ∷ 48 ∷ 48 ∷ 48 ∷ 48 ∷ 48 ∷ 48 ∷ 48 ∷ 48 ∷ 48 ∷ 48 ∷ 48 ∷ 48 ∷ 48 ∷ 48 ∷ 48 ∷ 48 ∷ 48 ∷ [])
    -- 3 Repeat: 000000000000000000
    ∷ (48 ∷ 48 ∷ 48 ∷ 48 ∷ 48 ∷ 48 ∷ 48 ∷ 48 ∷ 48 ∷ 48 ∷ 48 ∷ 48 ∷ 48 ∷ 48 ∷ 48 ∷ 48 ∷ 48 ∷ 48 ∷ [])
    -- 4 Sporadic: 000000000000000000
    ∷ (48 ∷ 48 ∷ 48 ∷ 48 ∷ 48 ∷ 48 ∷ 48 ∷ 48 ∷ 48 ∷ 48 ∷ 48 ∷ 48 ∷ 48 ∷ 48 ∷ 48 ∷ 48 ∷ 48 ∷ 48 ∷ [])
    -- 5 Burst: 000000000000000000
    ∷ (48 ∷ 48 ∷ 48 ∷ 48 ∷ 48 ∷ 48 ∷ 48 ∷ 48 ∷ 48 ∷ 48 ∷ 48 ∷ 48 ∷ 48 ∷ 48 ∷ 48 ∷ 48 ∷ 48 ∷ 48 ∷ [])
    -- 6 Order: 000000000000000000
    ∷ (48 ∷ 48 ∷ 48 ∷ 48 ∷ 48 ∷ 48 ∷ 48 ∷ 48 ∷ 48 ∷ 48 ∷ 48 ∷ 48 ∷ 48 ∷ 48 ∷ 48 ∷ 48 ∷ 48 ∷ 48 ∷ [])
    -- 7 StrongSynchronization: 012340000000000000
    ∷ (48 ∷ 49 ∷ 50 ∷ 51 ∷ 52 ∷ 48 ∷ 48 ∷ 48 ∷ 48 ∷ 48 ∷ 48 ∷ 48 ∷ 48 ∷ 48 ∷ 48 ∷ 48 ∷ 48 ∷ 48 ∷ [])
    -- 8 ExecutionTime: 000000000000000000
    ∷ (48 ∷ 48 ∷ 48 ∷ 48 ∷ 48 ∷ 48 ∷ 48 ∷ 48 ∷ 48 ∷ 48 ∷ 48 ∷ 48 ∷ 48 ∷ 48 ∷ 48 ∷ 48 ∷ 48 ∷ 48 ∷ [])
    -- 9 Reaction: 000000000000000000
    ∷ (48 ∷ 48 ∷ 48 ∷ 48 ∷ 48 ∷ 48 ∷ 48 ∷ 48 ∷ 48 ∷ 48 ∷ 48 ∷ 48 ∷ 48 ∷ 48 ∷ 48 ∷ 48 ∷ 48 ∷ 48 ∷ [])
    -- 10 Repetition: 000000000000000000
    ∷ (48 ∷ 48 ∷ 48 ∷ 48 ∷ 48 ∷ 48 ∷ 48 ∷ 48 ∷ 48 ∷ 48 ∷ 48 ∷ 48 ∷ 48 ∷ 48 ∷ 48 ∷ 48 ∷ 48 ∷ 48 ∷ [])
    -- 11 Synchronization: 012340000000000000
    ∷ (48 ∷ 49 ∷ 50 ∷ 51 ∷ 52 ∷ 48 ∷ 48 ∷ 48 ∷ 48 ∷ 48 ∷ 48 ∷ 48 ∷ 48 ∷ 48 ∷ 48 ∷ 48 ∷ 48 ∷ 48 ∷ [])
    -- 12 Age: 000000000000000000
    ∷ (48 ∷ 48 ∷ 48 ∷ 48 ∷ 48 ∷ 48 ∷ 48 ∷ 48 ∷ 48 ∷ 48 ∷ 48 ∷ 48 ∷ 48 ∷ 48 ∷ 48 ∷ 48 ∷ 48 ∷ 48 ∷ [])
    -- 13 OutputSynchronization: 001234000000000000
    ∷ (48 ∷ 48 ∷ 49 ∷ 50 ∷ 51 ∷ 52 ∷ 48 ∷ 48 ∷ 48 ∷ 48 ∷ 48 ∷ 48 ∷ 48 ∷ 48 ∷ 48 ∷ 48 ∷ 48 ∷ 48 ∷ [])
    -- 14 InputSynchronization: 012340000000000000
    ∷ (48 ∷ 49 ∷ 50 ∷ 51 ∷ 52 ∷ 48 ∷ 48 ∷ 48 ∷ 48 ∷ 48 ∷ 48 ∷ 48 ∷ 48 ∷ 48 ∷ 48 ∷ 48 ∷ 48 ∷ 48 ∷ [])
    -- 15 Pattern: 000001234567800000
    ∷ (48 ∷ 48 ∷ 48 ∷ 48 ∷ 48 ∷ 49 ∷ 50 ∷ 51 ∷ 52 ∷ 53 ∷ 54 ∷ 55 ∷ 56 ∷ 48 ∷ 48 ∷ 48 ∷ 48 ∷ 48 ∷ [])
    -- 16 Arbitrary: 001122334455667788
    ∷ (48 ∷ 48 ∷ 49 ∷ 49 ∷ 50 ∷ 50 ∷ 51 ∷ 51 ∷ 52 ∷ 52 ∷ 53 ∷ 53 ∷ 54 ∷ 54 ∷ 55 ∷ 55 ∷ 56 ∷ 56 ∷ [])
    -- 17 Comparison: 000000000000000000
    ∷ (48 ∷ 48 ∷ 48 ∷ 48 ∷ 48 ∷ 48 ∷ 48 ∷ 48 ∷ 48 ∷ 48 ∷ 48 ∷ 48 ∷ 48 ∷ 48 ∷ 48 ∷ 48 ∷ 48 ∷ 48 ∷ [])
    ∷ []

abbrev pub need_line : ℕ → List ℕ
need_line t = get_or need_lines t (replicate 18 0)

-- a place that is used from m on is used by n
abbrev pub uses : ℕ → ℕ → Bool
uses zero n = true
uses (suc m) n = leb (suc m) n

-- the role of a place of a type with an n; 0 where the n does not use it
abbrev pub role_at : ℕ → ℕ → ℕ → ℕ
role_at t n i = cond (uses (at (need_line t) i - 48) n) (at (role_line t) i) 0

-- and of all its places, from the i-th on
abbrev pub roles_from : ℕ → ℕ → ℕ → ℕ → List ℕ
roles_from zero t n i = []
roles_from (suc k) t n i = role_at t n i ∷ roles_from k t n (suc i)

abbrev pub roles_of : ℕ → ℕ → List ℕ
roles_of t n = roles_from 18 t n 0

-- Values

-- the values of fields of these roles in a body from a place on
unfoldable pub values_at : List ℕ → List ℕ → ℕ → List ℕ
values_at [] body place = []
values_at (r ∷ roles) body place = number_at (width r) body place ∷ values_at roles body (place + width r)

-- how many bytes fields of these roles have
abbrev pub total : List ℕ → ℕ
total [] = 0
total (r ∷ roles) = width r + total roles

-- the values with 0 in the places that are not used
abbrev pub cleared : List ℕ → List ℕ → List ℕ
cleared [] values = []
cleared (r ∷ roles) [] = []
cleared (r ∷ roles) (x ∷ values) = cond (ltb r 65) 0 x ∷ cleared roles values

-- the record that a body is read as
abbrev pub row_from : List ℕ → TableRow
row_from body = record { tag = at body 0; values = values_at (roles_of (at body 0) (at body 1)) body 1 }

-- the type that a body is read as, and its values stored over others
abbrev pub Loads : List ℕ → List ℕ → ℕ → List ℕ → Type 0
Loads body entry tag exit = (tag ≡ at body 0) × (exit ≡ sets entry 0 (values_at (roles_of (at body 0) (at body 1)) body 1))

-- n values from a place on, and n pairs of them
abbrev pub entries : ℕ → List ℕ → ℕ → List ℕ
entries zero values i = []
entries (suc n) values i = at values i ∷ entries n values (suc i)

abbrev pub pairs : ℕ → List ℕ → ℕ → List (ℕ × ℕ)
pairs zero values i = []
pairs (suc n) values i = (at values i, at values (suc i)) ∷ pairs n values (suc (suc i))

-- what stands for a record whose type is no type's: a synchronization of no kinds, which question 4 refuses as it refuses the record
abbrev pub no_constraint : Constraint
no_constraint = StrongSynchronization [] 0

-- the constraint of a type's number and of the values v in its places
unfoldable pub row_read : ℕ → List ℕ → Constraint
row_read t v =
    cond (eqb t 1) (Delay (at v 0) (at v 1) (at v 2) (at v 3))
    (cond (eqb t 2) (StrongDelay (at v 0) (at v 1) (at v 2) (at v 3))
    (cond (eqb t 3) (Repeat (at v 0) (at v 1) (at v 2) (at v 3))
    (cond (eqb t 4) (Sporadic (at v 0) (at v 1) (at v 2) (at v 3) (at v 4))
    (cond (eqb t 5) (Burst (at v 0) (at v 1) (at v 2) (at v 3))
    (cond (eqb t 6) (Order (at v 0) (at v 1))
    (cond (eqb t 7) (StrongSynchronization (entries (at v 0) v 1) (at v 5))
    (cond (eqb t 8) (ExecutionTime (at v 0) (at v 1) (at v 2) (at v 3) (at v 4) (at v 5))
    (cond (eqb t 9) (Reaction (at v 0) (at v 1) (at v 2) (at v 3))
    (cond (eqb t 10) (Repetition (at v 0) (at v 1) (at v 2) (at v 3) (at v 4))
    (cond (eqb t 11) (Synchronization (entries (at v 0) v 1) (at v 5))
    (cond (eqb t 12) (Age (at v 0) (at v 1) (at v 2) (at v 3))
    (cond (eqb t 13) (OutputSynchronization (at v 1) (entries (at v 0) v 2) (at v 6))
    (cond (eqb t 14) (InputSynchronization (entries (at v 0) v 1) (at v 5) (at v 6))
    (cond (eqb t 15) (Pattern (at v 1) (at v 2) (at v 3) (at v 4) (entries (at v 0) v 5))
    (cond (eqb t 16) (Arbitrary (at v 1) (pairs (at v 0) v 2))
    (cond (eqb t 17) (Comparison (at v 0) (at v 1) (at v 2))
    no_constraint))))))))))))))))

-- the constraint that a record stands for
abbrev pub row_in : TableRow → Constraint
row_in row = row_read row.tag row.values

-- Question 7

-- the bound behind some fields, with the bound `low` before them
abbrev pub bound_behind : ℕ → List Field → ℕ
bound_behind low [] = low
bound_behind low (f ∷ fields) = bound_behind (bound_after low f) fields
