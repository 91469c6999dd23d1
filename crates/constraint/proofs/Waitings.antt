-- How many wait in a row depends only on the row's own events.
use Rattle.constraint.proofs.Names.{Constraint, List, Step, ◌≡◌, own, waiting}
use Rattle.constraint.proofs.{Lawful.same_times, Streams.streams, Types.lawful}

pub waiting_same : (c : Constraint) (a b : List Step) → own (streams c) a ≡ own (streams c) b → waiting c a ≡ waiting c b
waiting_same c a b same = (lawful c).waits_same a b (same_times (streams c) a b same)
