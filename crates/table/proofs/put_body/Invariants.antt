-- The loop stores byte after byte: storing those left in what there is now gives the whole.
use Rattle.table.proofs.Names.{◌+◌, ◌≡◌, drop, sets}
use Rattle.table.proofs.put_body.Given as goal

abbrev pub invariant-loop-i : goal.invariant-loop-i
invariant-loop-i l = sets l.buffer (l.place + l.i) (drop l.i l.body) ≡ sets l.initial.buffer l.place l.body
