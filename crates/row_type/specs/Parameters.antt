-- A constraint as numbers.
use Rattle.std.specs.Prelude.{ℕ, suc, List, [], ◌∷◌, ◌++◌, Bool, cond, ◌||◌, eqb, ltb, drop, replicate, take}
use Rattle.constraint.specs.Limits.{no_limit}
use Rattle.constraint.specs.Steps.{at}
use Rattle.constraint.specs.Types.{kind, coloured, count, span, lower, upper, upper_or_none, offset, left, right, plain, jitter, minimum, len}
use Rattle.constraint.specs.Types.{tolerance, Field, byte, time, type_of, fields_of}
use Rattle.constraint.specs.Constraint.{Constraint, Delay, StrongDelay, Repeat, Sporadic, Burst, Order, StrongSynchronization, ExecutionTime}
use Rattle.constraint.specs.Constraint.{Reaction, Repetition, Synchronization, Age, OutputSynchronization, InputSynchronization, Pattern}
use Rattle.constraint.specs.Constraint.{Arbitrary, Comparison}
use Rattle.row_type.specs.declared.Parameters.{Parameters}

-- a kind that no event has
abbrev pub no_kind : ℕ
no_kind = 64

-- the numbers of a type without fields
abbrev pub no_fields : ℕ → Parameters
no_fields type =
    record {
      tag = type;
      first = no_kind;
      second = no_kind;
      third = no_kind;
      fourth = no_kind;
      fifth = no_kind;
      span = 0;
      lower = 0;
      upper = 0;
      jitter = 0;
      minimum = 0;
    }

-- the numbers with one more kind, before the others
abbrev pub with_kind : ℕ → Parameters → Parameters
with_kind x r =
    record {
      tag = r.tag;
      first = x;
      second = r.first;
      third = r.second;
      fourth = r.third;
      fifth = r.fourth;
      span = r.span;
      lower = r.lower;
      upper = r.upper;
      jitter = r.jitter;
      minimum = r.minimum;
    }

-- the numbers with another span, lower, upper, jitter and minimum
abbrev pub with_limits : ℕ → ℕ → ℕ → ℕ → ℕ → Parameters → Parameters
with_limits number low high late apart r =
    record {
      tag = r.tag;
      first = r.first;
      second = r.second;
      third = r.third;
      fourth = r.fourth;
      fifth = r.fifth;
      span = number;
      lower = low;
      upper = high;
      jitter = late;
      minimum = apart;
    }

-- what a field is among the numbers, those of the fields behind it being there: an n is a span, a tolerance an upper, a length a lower without an
-- upper limit, a left a lower and a right an upper; an offset is none of them
abbrev pub with_field : Field → Parameters → Parameters
with_field (byte kind x) r = with_kind x r
with_field (byte coloured x) r = with_kind x r
with_field (byte count x) r = with_limits x r.lower r.upper r.jitter r.minimum r
with_field (byte (span limit) x) r = with_limits x r.lower r.upper r.jitter r.minimum r
with_field (time lower x) r = with_limits r.span x r.upper r.jitter r.minimum r
with_field (time upper x) r = with_limits r.span r.lower x r.jitter r.minimum r
with_field (time upper_or_none x) r = with_limits r.span r.lower x r.jitter r.minimum r
with_field (time offset x) r = r
with_field (time left x) r = with_limits r.span x r.upper r.jitter r.minimum r
with_field (time right x) r = with_limits r.span r.lower x r.jitter r.minimum r
with_field (time (plain tolerance) x) r = with_limits r.span r.lower x r.jitter r.minimum r
with_field (time (plain len) x) r = with_limits r.span x no_limit r.jitter r.minimum r
with_field (time (plain jitter) x) r = with_limits r.span r.lower r.upper x r.minimum r
with_field (time (plain minimum) x) r = with_limits r.span r.lower r.upper r.jitter x r

-- and of fields in their order
abbrev pub with_fields : List Field → Parameters → Parameters
with_fields [] r = r
with_fields (f ∷ fields) r = with_field f (with_fields fields r)

-- a constraint as numbers: its type, and what each field is among them
abbrev pub parameters_of : Constraint → Parameters
parameters_of c = with_fields (fields_of c) (no_fields (type_of c))

-- what a row keeps times of waits in it: in a Delay, a StrongDelay and a StrongSynchronization (§6.1 to §6.3), and in no other type (§6.4)
abbrev pub waits_in : ℕ → Bool
waits_in tag = eqb tag 1 || eqb tag 2 || eqb tag 7

-- how many words a row has from the start, by its type: a Reaction and an Age have two for each colour, the two synchronizations of a chain five, a
-- Pattern its offsets, an Arbitrary its pairs and eight more
abbrev pub word_counts : List ℕ
word_counts = 0 ∷ 0 ∷ 0 ∷ 0 ∷ 0 ∷ 0 ∷ 0 ∷ 0 ∷ 0 ∷ 16 ∷ 0 ∷ 0 ∷ 16 ∷ 40 ∷ 40 ∷ 8 ∷ 24 ∷ 0 ∷ []

abbrev pub start_word_count : Parameters → ℕ
start_word_count parameters = at word_counts parameters.tag

-- pairs one after the other
abbrev pub flat_pairs : List (ℕ × ℕ) → List ℕ
flat_pairs [] = []
flat_pairs (p ∷ pairs) = p.0 ∷ p.1 ∷ flat_pairs pairs

-- the constants of a row, which stand in its first words: the offsets of a Pattern, and the pairs of an Arbitrary
abbrev pub constants_of : Constraint → List ℕ
constants_of (Delay source target low high) = []
constants_of (StrongDelay source target low high) = []
constants_of (Repeat event number low high) = []
constants_of (Sporadic event low high late apart) = []
constants_of (Burst event most long apart) = []
constants_of (Order source target) = []
constants_of (StrongSynchronization kinds apart) = []
constants_of (ExecutionTime start stop preempt resume low high) = []
constants_of (Reaction stimulus response low high) = []
constants_of (Repetition event number low high late) = []
constants_of (Synchronization kinds apart) = []
constants_of (Age stimulus response low high) = []
constants_of (OutputSynchronization stimulus responses apart) = []
constants_of (InputSynchronization stimuli response apart) = []
constants_of (Pattern event period late apart offsets) = offsets
constants_of (Arbitrary event pairs) = flat_pairs pairs
constants_of (Comparison operator x y) = []

-- the ring of a row before any step: its constants, and 0 in all other places; and the words of it that the row has from the start
abbrev pub start_ring : Constraint → List ℕ
start_ring c = take 64 (constants_of c ++ replicate 64 0)

abbrev pub start_words : Constraint → List ℕ
start_words c = take (start_word_count (parameters_of c)) (start_ring c)

-- the place from which on the values of a row of a type are constants; 18 for none
abbrev pub first_constants : List ℕ
first_constants = 18 ∷ 18 ∷ 18 ∷ 18 ∷ 18 ∷ 18 ∷ 18 ∷ 18 ∷ 18 ∷ 18 ∷ 18 ∷ 18 ∷ 18 ∷ 18 ∷ 18 ∷ 5 ∷ 2 ∷ 18 ∷ []

abbrev pub first_constant : ℕ → ℕ
first_constant t = at first_constants t

-- the values of some roles from the i-th on, 0 for a place that is not used
abbrev pub used_with : List ℕ → List ℕ → ℕ → List ℕ
used_with [] values i = []
used_with (r ∷ roles) values i = cond (ltb r 65) 0 (at values i) ∷ used_with roles values (suc i)

-- from the i-th place on
abbrev pub used_from : List ℕ → List ℕ → ℕ → List ℕ
used_from roles values i = used_with (drop i roles) values i
