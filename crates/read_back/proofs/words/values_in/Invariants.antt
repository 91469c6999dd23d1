-- The loop stores value after value: storing those left in what there is now gives the whole.
use Rattle.constraint.proofs.Library.{◌≡◌, drop, sets, take}
use Rattle.read_back.specs.Back.{constant_limit, values_back}
use Rattle.read_back.proofs.words.values_in.Given as goal

abbrev pub invariant-loop-i : goal.invariant-loop-i
invariant-loop-i l =
    sets l.values l.i (values_back (drop l.i l.roles) l.rest (take constant_limit l.times) l.first l.i)
    ≡ values_back l.roles l.initial.rest (take constant_limit l.times) l.first 0
