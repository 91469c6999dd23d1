-- What the calls for a printed page promise.
use Rattle.std.specs.Prelude.{ℕ, min, ◌≡◌, List, get_or}
use Rattle.constraint.specs.Limits.{row_limit}
use Rattle.constraint.specs.Run.{Request, Left}
use Rattle.constraint.specs.Accepted.{Accepted}
use Rattle.constraint.specs.Page.{page_text, Pages}
use Rattle.constraint.specs.Constraint.{Constraint}
use Rattle.text.specs.Content.{Copied}
use Rattle.monitor.specs.Machine.{no_row}
use Rattle.monitor.specs.Contract.{after, Remains}
use Rattle.monitor.specs.declared.Monitor.{Monitor}
use Rattle.page.specs.Sheet.{verdict_for}

-- how many rows a page has: a monitor's, and no more than 32
abbrev pub printed_rows : Monitor → ℕ
printed_rows m = min m.len row_limit

-- the number of row i's type, and its verdict, as the monitor holds them
abbrev pub type_in : Monitor → ℕ → ℕ
type_in m i = (get_or m.rows i no_row).parameters.tag

abbrev pub broken_in : Monitor → ℕ → ℕ
broken_in m i = (get_or m.rows i no_row).now.broken

-- the page's bytes, for any monitor
abbrev pub printed : Monitor → List ℕ
printed m = page_text (type_in m) (λ i. verdict_for m.closed (broken_in m i)) (printed_rows m)

-- §11.4: whatever was lent, a text of the answered length lies at the front of the buffer and the rest is as it was, or nothing is written and 0
-- is answered
abbrev pub WritesText : List ℕ → ℕ → List ℕ → Type 0
WritesText before answer written = (text : List ℕ) × Copied text before answer written

-- §7.14, §7.19: the page, or 0 in a buffer that is too short: of a monitor that requests have made, what each row reads after the
-- steps that they have left
pub record WritesPage (m : Monitor) (before : List ℕ) (answer : ℕ) (written : List ℕ) : Type 0 where
  pub equals : Copied (printed m) before answer written
  pub means : (rows : List Constraint) (requests : List Request) → Accepted rows → m ≡ after rows requests
      → (left : Left) × Remains rows requests left × Pages rows left.steps before answer written
