-- A lent monitor made fresh over a table: every word of it, and the number that answers to the table's bytes.
use Rattle.std.specs.Prelude.{ℕ, zero, suc, ◌+◌, ◌*◌, ◌<◌, ◌≤◌, ◌≡◌, Bool, cond, List, [], ◌∷◌, ◌++◌, length, get_or, take, replicate}
use Rattle.std.specs.Prelude.{Result, Ok, Err}
use Rattle.constraint.specs.Limits.{row_limit}
use Rattle.constraint.specs.Accepted.{Accepted}
use Rattle.constraint.specs.Table.{ReadsRows, ReadsTableUpTo, table_of, table_refused}
use Rattle.constraint.specs.Steps.{at}
use Rattle.constraint.specs.Constraint.{Constraint}
use Rattle.constraint.specs.Answers.{refused_number}
use Rattle.constraint.specs.declared.RefusedAt.{RefusedAt}
use Rattle.row.specs.Stored as Stored
use Rattle.monitor.specs.Contract.{after}
use Rattle.monitor.specs.declared.Monitor.{Monitor}
use Rattle.in_place.specs.Layout.{Lent, Words, words_of_lent, Shaped, all_rows, row_at, kept_at}
use Rattle.in_place.specs.Contract.{is_of, Indexes}

-- ---- the set of rows for each kind

-- the set of those of n numbers from one on that pass a test; that one is 0 in it
unfoldable pub set_from : (ℕ → Bool) → ℕ → ℕ → ℕ
set_from test from zero = 0
set_from test from (suc n) = 2 * set_from test (suc from) n + cond (test from) 1 0

-- for each of the first kinds the set of those of the first rows that it concerns
unfoldable pub sets_to : Monitor → ℕ → ℕ → List ℕ
sets_to m rows zero = []
sets_to m rows (suc kind) = sets_to m rows kind ++ (set_from (is_of m kind) 0 rows ∷ [])

-- a list in a number of places, with zeros after it
unfoldable pub padded : ℕ → List ℕ → List ℕ
padded places list = take places (list ++ replicate places 0)

-- ---- the fresh monitor over a table's rows

abbrev pub with_lists : Lent → List ℕ → Lent
with_lists h lists = record { monitor = h.monitor; soonest = h.soonest; full = h.full; lists = lists }

abbrev pub fresh_lent : List Constraint → Lent
fresh_lent rows =
    record { monitor = after rows []; soonest = 0; full = all_rows; lists = sets_to (after rows []) (length rows) 64 }

-- §11.5: the number that a result is
abbrev pub table_code : {T : Type 0} → Result T RefusedAt → ℕ
table_code (Ok x) = 0
table_code (Err refused) = refused.place * 256 + refused_number refused

-- §11.5: the number that answers and the words then: 0, and each is the fresh monitor's; or 256 times the place and the number of the refusal, and
-- each as it was
pub data BeginsUpTo (newest : ℕ) (bytes : List ℕ) (entry : Words) : ℕ → Words → Type 0 where
  begun : (rows : List Constraint) → ReadsTableUpTo newest bytes (table_of rows) → Accepted rows → Indexes (fresh_lent rows)
      → BeginsUpTo newest bytes entry 0 (words_of_lent (fresh_lent rows))
  refused : (n place : ℕ) → ReadsTableUpTo newest bytes (table_refused n place) → 0 < n → n < 256
      → BeginsUpTo newest bytes entry (place * 256 + n) entry

-- §11.2, §11.5: over a table of the first edition
abbrev pub Begins : List ℕ → Words → ℕ → Words → Type 0
Begins = BeginsUpTo 1

-- ---- what its parts promise

-- the first blocks are those of a monitor's rows
abbrev pub RowsLie : Monitor → ℕ → Words → Type 0
RowsLie m n words = (i : ℕ) → i < n → get_or words i [] ≡ Stored.words_of_row (row_at m i) (kept_at m i)

-- so they are after some words, and the other blocks as they were
pub record RowsPut (entry : Words) (m : Monitor) (n : ℕ) (exit : Words) : Type 0 where
  pub long : length exit ≡ length entry
  pub rows_lie : RowsLie m n exit
  pub others : (i : ℕ) → n ≤ i → get_or exit i [] ≡ get_or entry i []

-- the rows that stand behind the version byte
abbrev pub RowsBehind : List ℕ → List Constraint → Type 0
RowsBehind bytes rows = ReadsRows (at bytes 0) bytes 0 1 (table_of rows)

-- the bytes hold a table
abbrev pub HoldsRows : List ℕ → Type 0
HoldsRows bytes = (rows : List Constraint) × RowsBehind bytes rows

-- the rows of the table that the bytes hold
abbrev pub StoresRows : List ℕ → Words → Words → Type 0
StoresRows bytes entry exit =
    (rows : List Constraint) → RowsBehind bytes rows → length entry ≡ 35 → RowsPut entry (after rows []) 32 exit

-- the sets so far
abbrev pub ListsLie : Lent → List ℕ → Words → Type 0
ListsLie h lists words = words ≡ words_of_lent (with_lists h (padded 64 lists))

-- every word but those of the sets, over the n rows of the table
abbrev pub StoresAll : List ℕ → ℕ → Words → Type 0
StoresAll bytes n exit =
    (rows : List Constraint) → RowsBehind bytes rows → length rows ≤ row_limit → n ≡ length rows → ListsLie (fresh_lent rows) [] exit

-- the sets over n rows, where there were none
abbrev pub Enlists : ℕ → Words → Words → Type 0
Enlists n entry exit = (h : Lent) → Shaped h → ListsLie h [] entry → exit ≡ words_of_lent (with_lists h (sets_to h.monitor n 64))
