-- The limits, one name each. The code's constants have the same names in capitals.
use Rattle.std.specs.Prelude.{ℕ, ◌^◌, ◌-◌}

-- §1.2, §8.9; 01, time: the last kind. Every event has a kind, a number: kinds below `first_coloured` are plain, the others coloured
abbrev pub last_kind : ℕ
last_kind = 63

-- §1.2; CR 6: the first coloured kind
abbrev pub first_coloured : ℕ
first_coloured = 48

-- §1.2; CR 6: the last colour. An event of a coloured kind has a colour, a number from 0
abbrev pub last_colour : ℕ
last_colour = 7

-- §1.9; CR 6: the number of streams: 48 plain kinds, and 16 coloured kinds with 8 colours each
abbrev pub stream_count : ℕ
stream_count = 176

-- §1.1, §8.10; CR 12: the largest time
abbrev pub last_time : ℕ
last_time = 2 ^ 60 - 1

-- §1.7, §8.24; CR 12: the largest number of steps
abbrev pub last_count : ℕ
last_count = 2 ^ 64 - 1

-- §4.7; 01, table; CR 1: the mark for no upper limit
abbrev pub no_limit : ℕ
no_limit = 2 ^ 64 - 1

-- §4.2, §8.3; 01, table: the largest number of rows in a table
abbrev pub row_limit : ℕ
row_limit = 32

-- §4.6; 01, table: the largest span or maximum
abbrev pub span_limit : ℕ
span_limit = 64

-- §4.6; CR 10: the largest span of a Repetition
abbrev pub repetition_span_limit : ℕ
repetition_span_limit = 8

-- §6.5, §8.12; 01, what waits: the largest number that may wait in a row
abbrev pub waiting_limit : ℕ
waiting_limit = 64
