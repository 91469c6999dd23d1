-- The loop steps one row where it lies, from record to record: it ends where the row breaks, where a step crowds it, or behind the last record.
use Rattle.constraint.proofs.Library.{◌≤◌, ℕ}
use Rattle.stretch.proofs.Runs.{Lies}
use Rattle.stretch.proofs.need_from.Given as goal

-- the row has taken `size` records
abbrev pub invariant-loop-at : goal.invariant-loop-at
invariant-loop-at l = (small : l.count ≤ 256) × ((size : ℕ) × Lies l.records l.count l.start small l.initial.words l.words size l.at)
