-- A constant is one of the first 16 words, as a row has at most 18 places and the first two are none.
use Rattle.constraint.proofs.Library.{◌-◌, arith, get_or-take, le-leb, lt-leb, sym}
use Rattle.read_back.proofs.words.value_at.Goals as goal

pub returns-then-first-i : goal.returns-then-first-i
returns-then-first-i c =
    let a = c.args in
    rw (le-leb a.first a.i (omega (arith, c.if-first-i.true)))
    (sym (get_or-take 16 a.times.now (a.i - a.first) 0 (omega (arith, c.requires))))

pub returns-else-first-i : goal.returns-else-first-i
returns-else-first-i c =
    let a = c.args in rw (lt-leb a.first a.i (omega (arith, c.if-first-i.false))) c.field_in.ensures
