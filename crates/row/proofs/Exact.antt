-- What the row of a constraint proves: its type's laws, of what the dispatch decides.
use Rattle.row.proofs.Names.{Constraint, decide, parameters_of}
use Rattle.row_type.proofs.Exact as M
pub use Rattle.row_type.proofs.Exact.{Sound, OfStream, GoesOn, Waits, ByOutcome}

abbrev pub Exact : Constraint → Type 1
Exact c = M.Exact c (decide (parameters_of c))
