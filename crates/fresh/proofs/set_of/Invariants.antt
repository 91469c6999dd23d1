-- Row after row, the last first: before the turn of the row below number i the set of those from i on is there, one digit for each.
use Rattle.fresh.proofs.Names.{Lent, Shaped, ◌-◌, ◌<◌, ◌^◌, ◌≡◌, is_of}
use Rattle.fresh.proofs.Names.{set_from, words_of_lent}
use Rattle.fresh.proofs.set_of.Given as goal

abbrev pub invariant-loop-i : goal.invariant-loop-i
invariant-loop-i l =
    (l.rows < 2 ^ (l.n - l.i)) × ((h : Lent) → l.m ≡ words_of_lent h → Shaped h
    → l.rows ≡ set_from (is_of h.monitor l.kind) l.i (l.n - l.i))
