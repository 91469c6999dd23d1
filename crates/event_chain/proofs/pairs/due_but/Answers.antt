-- The due time is the first last moment of all colours.
use Rattle.event_chain.specs.Pairs.{due_pairs, owed_pair}
use Rattle.constraint.proofs.Library.{◌∙◌, rules, sym}
use Rattle.ring.specs.Ring.{times_of}
use Rattle.event_chain.proofs.pairs.due_but.Goals as goal

pub returns : goal.returns
unfolding due_pairs
returns g c =
    let a = c.args in
    let t = g.T.Pairs in
    let words = times_of a.times in
    c.least_by.ensures (owed_pair t.owed a.colour a.pair.low a.pair.high words) (λ i r h p. search rules)
    ∙ sym (g.met.T.Pairs.first_owed a.colour a.pair.low a.pair.high words)
