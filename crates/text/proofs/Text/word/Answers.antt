-- Putting the bytes left behind what there is now gives the whole.
use Rattle.constraint.proofs.Library.{◌∙◌, arith, drop_of_length-le, sym}
use Rattle.text.proofs.{Texts.extended_next}
use Rattle.text.specs.Content.{extended}
use Rattle.text.proofs.Text.word.Goals as goal

pub loop-byte-preserved : goal.loop-byte-preserved
loop-byte-preserved c =
    let loop = c.loop-byte in
    rw c.push.ensures (sym (extended_next c.args.word.now loop.byte-index loop.self (omega arith)) ∙ loop.invariant)

pub returns : goal.returns
unfolding extended
returns c =
    let loop = c.loop-byte in
    rw (drop_of_length-le c.args.word.now {i = loop.byte-index} (omega arith)) at loop.invariant
