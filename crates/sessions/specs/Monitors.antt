-- What is promised of memory in which a monitor lies, by its rows and the steps that are left.
use Rattle.std.specs.Prelude.{ℕ, ◌<◌, ◌≡◌, List, [], map, length, get_or, take, drop}
use Rattle.constraint.specs.Run.{Request, asks, Left, Run, Keeps}
use Rattle.constraint.specs.declared.Call.{Call}
use Rattle.constraint.specs.Constraint.{Constraint}
use Rattle.monitor.specs.Beside.{TakesAll}
use Rattle.in_place.specs.Layout.{words_of_lent}
use Rattle.in_place.specs.Contract.{answer_from, ReadOff}
use Rattle.fresh.specs.Fresh.{fresh_lent}
use Rattle.delkuthi.specs.Host.{Memory, Host, none_refused}
use Rattle.delkuthi.specs.Lent.{StepOfVerdict}
use Rattle.sessions.specs.Readers.{ReadsAs}

-- ---- the words that a withdrawn step may leave changed

-- §3.14: the two blocks of one row have the same words but 20 to 33 of the second array: what the row was before its last step
abbrev pub SameRow : List (List ℕ) → List (List ℕ) → Type 0
SameRow a b =
    (get_or a 0 [] ≡ get_or b 0 []) × (take 20 (get_or a 1 []) ≡ take 20 (get_or b 1 [])) × (drop 34 (get_or a 1 []) ≡ drop 34 (get_or b 1 []))

-- §3.14: the blocks of the numbers beside the rows have the same words but 4 to 11 of the first array: the time before which no row is due (4),
-- what may be withdrawn (5 to 10), and the mark that there is room in every row (11)
abbrev pub SameNumbers : List (List ℕ) → List (List ℕ) → Type 0
SameNumbers a b =
    (take 4 (get_or a 0 []) ≡ take 4 (get_or b 0 [])) × (drop 12 (get_or a 0 []) ≡ drop 12 (get_or b 0 [])) × (get_or a 1 [] ≡ get_or b 1 [])

-- §3.14: two memories have the same words but for these
pub record SameButUndo (a b : Memory) : Type 0 where
  pub rows : (i : ℕ) → i < 32 → SameRow (get_or a i []) (get_or b i [])
  pub numbers : SameNumbers (get_or a 32 []) (get_or b 32 [])
  pub spare : get_or a 33 [] ≡ get_or b 33 []
  pub coloured : get_or a 34 [] ≡ get_or b 34 []

-- ---- the promise

-- §11.2: all that is promised of memory in which a monitor over these rows lies, of which these steps are left
pub record Monitors (h : Memory) (rows : List Constraint) (left : Left) : Type 0 where
  -- §3.6, §3.13: each reader answers what the definitions say of the steps that are left
  pub reads : ReadsAs h rows left.steps
  -- §3.7, §3.15, runs A and B: a row that is broken stays broken, at its step, after every further list of calls that withdraws none of the steps
  -- that are left now
  pub broken_stays : {last : Memory} {further : List Request} {numbers : List ℕ} {then : Left} → Host h further numbers last
      → (run : Run rows left further (map answer_from numbers) then) → Keeps (length left.steps) run
      → (i n k : ℕ) → 0 < n → ReadOff h (λ m. StepOfVerdict m i) n → ReadOff last (λ m. StepOfVerdict m i) k → k ≡ n
  -- §3.14: the steps that are left are calls that a fresh monitor takes, and after just these its memory has the same words but for what may be
  -- withdrawn next and two numbers that affect no answer
  pub struck_out : (calls : List Call) × TakesAll rows calls left.steps
      × ((struck : Memory) → Host (words_of_lent (fresh_lent rows)) (map asks calls) (none_refused calls) struck → SameButUndo h struck)
