-- The table of types (§4.4 to §4.7; 01, table): the types, their fields in order and the role of each field. The questions about a row, its bytes and
-- its numbers in a monitor follow from it.
use Rattle.std.specs.Prelude.{ℕ, ◌+◌, ◌*◌, ◌≤◌, ◌≡◌, Bool, true, List, [], ◌∷◌, ◌++◌, map, ltb, length}
use Rattle.constraint.specs.Limits.{span_limit, repetition_span_limit}
use Rattle.constraint.specs.Steps.{at}
use Rattle.constraint.specs.Constraint.{Constraint, Delay, StrongDelay, Repeat, Sporadic, Burst, Order, StrongSynchronization, ExecutionTime}
use Rattle.constraint.specs.Constraint.{Reaction, Repetition, Synchronization, Age, OutputSynchronization, InputSynchronization, Pattern}
use Rattle.constraint.specs.Constraint.{Arbitrary, Comparison}

-- §4.4, §4.6; 01, table; CR 6, 10: the role of a byte. A kind is plain or coloured. A count is n, the number of entries of the row's list, or the
-- operator of a Comparison. A span or maximum has its own limit
pub data ByteRole : Type 0 where
  kind : ByteRole
  coloured : ByteRole
  count : ByteRole
  span : ℕ → ByteRole

-- §4.4; 01, table: the role of a time that is neither a lower nor an upper
pub data Plain : Type 0 where
  jitter : Plain
  minimum : Plain
  len : Plain
  tolerance : Plain

-- §4.4, §4.7; 01, table; CR 1: the role of a time. An `upper_or_none` may be the mark for no limit. Offsets rise. A left is
-- compared with the right after it
pub data TimeRole : Type 0 where
  lower : TimeRole
  upper : TimeRole
  upper_or_none : TimeRole
  offset : TimeRole
  left : TimeRole
  right : TimeRole
  plain : Plain → TimeRole

-- §4.4; 01, table: a field: its width, its role and its value
pub data Field : Type 0 where
  byte : ByteRole → ℕ → Field
  time : TimeRole → ℕ → Field

-- §4.5: a field for each kind of a list
abbrev pub kind_fields : ByteRole → List ℕ → List Field
kind_fields role ks = map (byte role) ks

-- §4.5: a field for each offset of a list
abbrev pub offset_fields : List ℕ → List Field
offset_fields xs = map (time offset) xs

-- §4.5: two fields for each pair of a list
abbrev pub pair_fields : List (ℕ × ℕ) → List Field
pair_fields [] = []
pair_fields (p ∷ pairs) = time lower p.0 ∷ time upper_or_none p.1 ∷ pair_fields pairs

-- §4.5; 01, table; CR 2, 6, 10: a line for each type: its number, and its fields in their order
abbrev pub type_line : Constraint → ℕ × List Field
type_line (Delay source target low high) = (1, byte kind source ∷ byte kind target ∷ time lower low ∷ time upper_or_none high ∷ [])
type_line (StrongDelay source target low high) = (2, byte kind source ∷ byte kind target ∷ time lower low ∷ time upper high ∷ [])
type_line (Repeat event number low high) = (3, byte kind event ∷ byte (span span_limit) number ∷ time lower low ∷ time upper_or_none high ∷ [])
type_line (Sporadic event low high late apart) =
    (4, byte kind event ∷ time lower low ∷ time upper_or_none high ∷ time (plain jitter) late ∷ time (plain minimum) apart ∷ [])
type_line (Burst event most long apart) = (5, byte kind event ∷ byte (span span_limit) most ∷ time (plain len) long ∷ time (plain minimum) apart ∷ [])
type_line (Order source target) = (6, byte kind source ∷ byte kind target ∷ [])
type_line (StrongSynchronization kinds apart) = (7, byte count (length kinds) ∷ kind_fields kind kinds ++ time (plain tolerance) apart ∷ [])
type_line (ExecutionTime start stop preempt resume low high) =
    (8, byte kind start ∷ byte kind stop ∷ byte kind preempt ∷ byte kind resume ∷ time lower low ∷ time upper high ∷ [])
type_line (Reaction stimulus response low high) = (9, byte coloured stimulus ∷ byte coloured response ∷ time lower low ∷ time upper high ∷ [])
type_line (Repetition event number low high late) =
    (10, byte kind event ∷ byte (span repetition_span_limit) number ∷ time lower low ∷ time upper high ∷ time (plain jitter) late ∷ [])
type_line (Synchronization kinds apart) = (11, byte count (length kinds) ∷ kind_fields kind kinds ++ time (plain tolerance) apart ∷ [])
type_line (Age stimulus response low high) = (12, byte coloured stimulus ∷ byte coloured response ∷ time lower low ∷ time upper high ∷ [])
type_line (OutputSynchronization stimulus responses apart) =
    (13, byte count (length responses) ∷ byte coloured stimulus ∷ kind_fields coloured responses ++ time (plain tolerance) apart ∷ [])
type_line (InputSynchronization stimuli response apart) =
    (14, byte count (length stimuli) ∷ kind_fields coloured stimuli ++ byte coloured response ∷ time (plain tolerance) apart ∷ [])
type_line (Pattern event period late apart offsets) = (
  15,
  byte count (length offsets) ∷ byte kind event ∷ time upper period ∷ time (plain jitter) late ∷ time (plain minimum) apart
      ∷ offset_fields offsets,
)
type_line (Arbitrary event pairs) = (16, byte count (length pairs) ∷ byte kind event ∷ pair_fields pairs)
type_line (Comparison operator x y) = (17, byte count operator ∷ time left x ∷ time right y ∷ [])

-- §4.5; 01, table: the number of a row's type
abbrev pub type_of : Constraint → ℕ
type_of c = (type_line c).0

-- §4.5, §5.9.6; 01, table: the fields of a row
abbrev pub fields_of : Constraint → List Field
fields_of c = (type_line c).1

-- §4.4; 01, table: the value of a field
abbrev pub value_of : Field → ℕ
value_of (byte role x) = x
value_of (time role x) = x

-- §4.5: the value of the first field
abbrev pub first_of : List Field → ℕ
first_of [] = 0
first_of (f ∷ fields) = value_of f

-- §4.5; 01, table: the n of a row, if its type has one: the first field
abbrev pub count_of : Constraint → ℕ
count_of c = first_of (fields_of c)

-- The lists by the type byte. 0 is not a type

-- §4.5; 01, table; CR 2, 6, 10: the lengths without the entries of the row's list
abbrev pub lengths : List ℕ
lengths = 0 ∷ 19 ∷ 19 ∷ 19 ∷ 34 ∷ 19 ∷ 3 ∷ 10 ∷ 21 ∷ 19 ∷ 27 ∷ 10 ∷ 19 ∷ 11 ∷ 11 ∷ 27 ∷ 3 ∷ 18 ∷ []

-- §4.5: the number of bytes of an entry of the row's list, or 0
abbrev pub entry_sizes : List ℕ
entry_sizes = 0 ∷ 0 ∷ 0 ∷ 0 ∷ 0 ∷ 0 ∷ 0 ∷ 1 ∷ 0 ∷ 0 ∷ 0 ∷ 1 ∷ 0 ∷ 1 ∷ 1 ∷ 8 ∷ 16 ∷ 0 ∷ []

-- §4.5: the least n, or 0 if the type has none
abbrev pub least_counts : List ℕ
least_counts = 0 ∷ 0 ∷ 0 ∷ 0 ∷ 0 ∷ 0 ∷ 0 ∷ 2 ∷ 0 ∷ 0 ∷ 0 ∷ 2 ∷ 0 ∷ 2 ∷ 2 ∷ 1 ∷ 1 ∷ 1 ∷ []

-- §4.5: the largest n, or 0 if the type has none
abbrev pub most_counts : List ℕ
most_counts = 0 ∷ 0 ∷ 0 ∷ 0 ∷ 0 ∷ 0 ∷ 0 ∷ 4 ∷ 0 ∷ 0 ∷ 0 ∷ 4 ∷ 0 ∷ 4 ∷ 4 ∷ 8 ∷ 8 ∷ 5 ∷ []

-- §16.2: the last type of each edition of the table, by its version byte. No other number is an edition
abbrev pub last_types : List ℕ
last_types = 0 ∷ 10 ∷ 17 ∷ []

-- §16.2: the last type of an edition. If there is no such edition it is 0, which is not a type
abbrev pub last_type : ℕ → ℕ
last_type edition = at last_types edition

-- §4.5; 01, table: the first field of the type is n
abbrev pub takes_count : ℕ → Bool
takes_count t = ltb 0 (at most_counts t)

-- §4.5; 01, table: the length of a row by its type, and by its n if the type has one
abbrev pub length_of : ℕ → ℕ → ℕ
length_of t n = at lengths t + n * at entry_sizes t

-- §8.4, §16.5; 01, questions: the edition has the type, and the n is one of the type's
pub record TypeKnown (edition t n : ℕ) : Type 0 where
  pub type_known : (1 ≤ t) × (t ≤ last_type edition)
  pub n_known : takes_count t ≡ true → (at least_counts t ≤ n) × (n ≤ at most_counts t)

-- §8.4, §16.2: some edition has the row's type, and its n is one of the type's
abbrev pub Known : Constraint → Type 0
Known c = (edition : ℕ) × TypeKnown edition (type_of c) (count_of c)

-- the name of a number that is not a type; no table has one: Unknown
abbrev pub unknown_name : List ℕ
unknown_name = 85 ∷ 110 ∷ 107 ∷ 110 ∷ 111 ∷ 119 ∷ 110 ∷ []

-- §7.16; CR 5: the names of the types by their numbers, as TADL2 has them without the last word. 0 is not a type
abbrev pub type_names : List (List ℕ)
type_names =
    unknown_name
    -- 1 Delay
    ∷ (68 ∷ 101 ∷ 108 ∷ 97 ∷ 121 ∷ [])
    -- 2 StrongDelay
    ∷ (83 ∷ 116 ∷ 114 ∷ 111 ∷ 110 ∷ 103 ∷ 68 ∷ 101 ∷ 108 ∷ 97 ∷ 121 ∷ [])
    -- 3 Repeat
    ∷ (82 ∷ 101 ∷ 112 ∷ 101 ∷ 97 ∷ 116 ∷ [])
    -- 4 Sporadic
    ∷ (83 ∷ 112 ∷ 111 ∷ 114 ∷ 97 ∷ 100 ∷ 105 ∷ 99 ∷ [])
    -- 5 Burst
    ∷ (66 ∷ 117 ∷ 114 ∷ 115 ∷ 116 ∷ [])
    -- 6 Order
    ∷ (79 ∷ 114 ∷ 100 ∷ 101 ∷ 114 ∷ [])
    -- 7 StrongSynchronization
    ∷ (83 ∷ 116 ∷ 114 ∷ 111 ∷ 110 ∷ 103 ∷ 83 ∷ 121 ∷ 110 ∷ 99 ∷ 104 ∷ 114 ∷ 111 ∷ 110 ∷ 105 ∷ 122 ∷ 97 ∷ 116 ∷ 105 ∷ 111 ∷ 110 ∷ [])
    -- 8 ExecutionTime
    ∷ (69 ∷ 120 ∷ 101 ∷ 99 ∷ 117 ∷ 116 ∷ 105 ∷ 111 ∷ 110 ∷ 84 ∷ 105 ∷ 109 ∷ 101 ∷ [])
    -- 9 Reaction
    ∷ (82 ∷ 101 ∷ 97 ∷ 99 ∷ 116 ∷ 105 ∷ 111 ∷ 110 ∷ [])
    -- 10 Repetition
    ∷ (82 ∷ 101 ∷ 112 ∷ 101 ∷ 116 ∷ 105 ∷ 116 ∷ 105 ∷ 111 ∷ 110 ∷ [])
    -- 11 Synchronization
    ∷ (83 ∷ 121 ∷ 110 ∷ 99 ∷ 104 ∷ 114 ∷ 111 ∷ 110 ∷ 105 ∷ 122 ∷ 97 ∷ 116 ∷ 105 ∷ 111 ∷ 110 ∷ [])
    -- 12 Age
    ∷ (65 ∷ 103 ∷ 101 ∷ [])
    -- 13 OutputSynchronization
    ∷ (79 ∷ 117 ∷ 116 ∷ 112 ∷ 117 ∷ 116 ∷ 83 ∷ 121 ∷ 110 ∷ 99 ∷ 104 ∷ 114 ∷ 111 ∷ 110 ∷ 105 ∷ 122 ∷ 97 ∷ 116 ∷ 105 ∷ 111 ∷ 110 ∷ [])
    -- 14 InputSynchronization
    ∷ (73 ∷ 110 ∷ 112 ∷ 117 ∷ 116 ∷ 83 ∷ 121 ∷ 110 ∷ 99 ∷ 104 ∷ 114 ∷ 111 ∷ 110 ∷ 105 ∷ 122 ∷ 97 ∷ 116 ∷ 105 ∷ 111 ∷ 110 ∷ [])
    -- 15 Pattern
    ∷ (80 ∷ 97 ∷ 116 ∷ 116 ∷ 101 ∷ 114 ∷ 110 ∷ [])
    -- 16 Arbitrary
    ∷ (65 ∷ 114 ∷ 98 ∷ 105 ∷ 116 ∷ 114 ∷ 97 ∷ 114 ∷ 121 ∷ [])
    -- 17 Comparison
    ∷ (67 ∷ 111 ∷ 109 ∷ 112 ∷ 97 ∷ 114 ∷ 105 ∷ 115 ∷ 111 ∷ 110 ∷ [])
    ∷ []
