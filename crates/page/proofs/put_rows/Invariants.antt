-- After each turn the lines of the rows so far are stored, and the place is behind them.
use Rattle.constraint.proofs.Library.{◌*◌, ◌+◌, ◌/◌, ◌≡◌, length, sets}
use Rattle.constraint.specs.{Page.page_lines}
use Rattle.page.specs.Sheet.{types_of, verdicts_of}
use Rattle.page.proofs.put_rows.Given as goal

abbrev pub invariant-loop-i : goal.invariant-loop-i
invariant-loop-i l =
    (length l.buffer ≡ length l.initial.buffer) × (l.place ≡ 73 * (l.i + (l.i + 15) / 16))
    × (l.buffer ≡ sets l.initial.buffer 0 (page_lines (types_of l.rows) (verdicts_of l.closed l.rows) l.i))
