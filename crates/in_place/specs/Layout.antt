-- The words of a lent monitor: 35 blocks of two arrays of 64. Block i below 32 is row i; block 32 has the numbers beside the rows and the rows of
-- each kind, block 34 the first free times of the coloured streams, and block 33 is spare.
use Rattle.std.specs.Prelude.{ℕ, zero, suc, ◌-◌, ◌/◌, ◌%◌, ◌<◌, min, ◌≡◌, Bool, cond, List, [], ◌∷◌, ◌++◌, length, get_or, take, drop, replicate, eqb}
use Rattle.constraint.specs.Limits.{row_limit, stream_count}
use Rattle.row.specs.Undo.{no_row_undo}
use Rattle.row.specs.Stored as Stored
use Rattle.row.specs.declared.RowUndo.{RowUndo}
use Rattle.row.specs.declared.Row.{Row}
use Rattle.monitor.specs.Machine.{no_row}
use Rattle.monitor.specs.declared.Monitor.{Monitor}

-- a monitor, a time before which no row is due, the set of the rows that may be nearly full, and for each kind the set of its rows
pub record Lent : Type 0 where
  pub monitor : Monitor
  pub soonest : ℕ
  pub full : ℕ
  pub lists : List ℕ

-- ---- a set of rows in a word

-- row i is in the set: digit i of the word is 1, where 0 is the lowest
unfoldable pub is_in : ℕ → ℕ → Bool
is_in word zero = eqb (word % 2) 1
is_in word (suc i) = is_in (word / 2) i

-- the numbers below n that pass a test, in their order
abbrev pub numbers : (ℕ → Bool) → ℕ → List ℕ
numbers test zero = []
numbers test (suc n) = numbers test n ++ cond (test n) (n ∷ []) []

-- the rows of a set, whatever else the word says
unfoldable pub rows_in : ℕ → List ℕ
rows_in word = numbers (is_in word) row_limit

-- the set of all rows
abbrev pub all_rows : ℕ
all_rows = 4294967295

-- ---- the words

abbrev pub Words : Type 0
Words = List (List (List ℕ))

unfoldable pub row_blocks : List Row → List RowUndo → Words
row_blocks [] kept = []
row_blocks (r ∷ rows) [] = []
row_blocks (r ∷ rows) (b ∷ kept) = Stored.words_of_row r b ∷ row_blocks rows kept

-- the numbers beside the rows, and the first free times of the plain kinds behind them; the word for "open" is 0 once the recording is closed, so
-- that memory
-- of zeros reads as closed
abbrev pub number_array : Monitor → ℕ → ℕ → List ℕ → List ℕ
number_array m soonest full plain =
    m.clock ∷ m.count ∷ (1 - m.closed) ∷ m.len ∷ soonest ∷ m.undo.may ∷ m.undo.place ∷ m.undo.next ∷ m.undo.clock ∷ m.undo.count
    ∷ m.undo.closed ∷ full ∷ 0 ∷ 0 ∷ 0 ∷ 0 ∷ plain

abbrev pub halves : List ℕ → List (List ℕ)
halves l = take 64 l ∷ drop 64 l ∷ []

abbrev pub number_block : Lent → List (List ℕ)
number_block h = number_array h.monitor h.soonest h.full (take 48 h.monitor.next) ∷ h.lists ∷ []

-- a block of zeros
abbrev pub no_words : List (List ℕ)
no_words = replicate 2 (replicate 64 0)

abbrev pub last_blocks : Lent → Words
last_blocks h = number_block h ∷ no_words ∷ halves (drop 48 h.monitor.next) ∷ []

unfoldable pub words_of_lent : Lent → Words
words_of_lent h = row_blocks h.monitor.rows h.monitor.before ++ last_blocks h

-- a row, and what is kept of it
abbrev pub row_at : Monitor → ℕ → Row
row_at m i = get_or m.rows i no_row

abbrev pub kept_at : Monitor → ℕ → RowUndo
kept_at m i = get_or m.before i no_row_undo

-- each part has its size, and what the type of a row never stores is 0 in it
pub record Shaped (h : Lent) : Type 0 where
  pub rows_there : length h.monitor.rows ≡ row_limit
  pub kept_there : length h.monitor.before ≡ row_limit
  pub next_there : length h.monitor.next ≡ stream_count
  pub lists_there : length h.lists ≡ 64
  pub rest_zero : (i : ℕ) → i < row_limit → Stored.RestZero (row_at h.monitor i) (kept_at h.monitor i)

-- ---- the rows of a kind

-- the set of the rows of a kind, and these rows
abbrev pub set_of : Lent → ℕ → ℕ
set_of h kind = get_or h.lists kind 0

abbrev pub rows_of_kind : Lent → ℕ → List ℕ
rows_of_kind h kind = rows_in (set_of h kind)

-- how many rows a monitor has, whatever its record says
abbrev pub held_rows : Monitor → ℕ
held_rows m = min m.len row_limit

-- the due time of row i
abbrev pub due_at : Monitor → ℕ → ℕ
due_at m i = (row_at m i).now.due
