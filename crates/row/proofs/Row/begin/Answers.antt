-- The numbers are the constraint's, and its constants stand in the first places of the ring.
use Rattle.constraint.proofs.Library.{List, ◌∙◌, ap, ap₂, replicate, ℕ}
use Rattle.row_type.specs.declared.Parameters.{Parameters}
use Rattle.row.specs.Machine.{fresh_state, row_from}
use Rattle.row.specs.declared.Row.{Row}
use Rattle.row.proofs.Names.{row_of}
use Rattle.row.proofs.Row.begin.Goals as goal

-- a row with another ring
with_times : Row → List ℕ → Row
with_times r times = record { parameters = r.parameters; times = times; now = r.now }

pub returns : goal.returns
unfolding row_of with_times
returns c =
    let blank = c.blank-made in let numbers = c.parameters_of in
    ap₂ with_times (blank.ensures ∙ ap (λ (p : Parameters). row_from p (replicate 64 0) (fresh_state p)) numbers.ensures)
    (c.put_constants.ensures (ap (λ (r : Row). r.times) blank.ensures))
