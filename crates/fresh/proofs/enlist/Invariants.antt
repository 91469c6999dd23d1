-- Kind after kind: before the turn of a kind the sets of those before it are stored.
use Rattle.fresh.proofs.Names.{Lent, ListsLie, Shaped, [], sets_to}
use Rattle.fresh.proofs.enlist.Given as goal

abbrev pub invariant-loop-kind : goal.invariant-loop-kind
invariant-loop-kind l = (h : Lent) → Shaped h → ListsLie h [] l.initial.m → ListsLie h (sets_to h.monitor l.n l.kind) l.m
