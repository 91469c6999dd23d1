-- The first recording's record comes next where the other is no earlier; else the second's does. Where there is none, its time is later than any.
use Rattle.join.proofs.Names.{arith}
use Rattle.join.proofs.Walking.{comes_first, comes_second}
use Rattle.join.proofs.following.Goals as goal

pub returns-then-b-a : goal.returns-then-b-a
returns-then-b-a c =
    let a = c.args.a in let b = c.args.b in (
      λ one two heads others. comes_second one two a.place b.place a.head b.head heads others c.if-b-a.true,
      omega arith,
      omega arith,
    )

pub returns : goal.returns
returns c =
    let a = c.args.a in let b = c.args.b in (
      λ one two heads others. comes_first one two a.place b.place a.head b.head heads others c.if-b-a.false,
      omega arith,
      omega arith,
    )
