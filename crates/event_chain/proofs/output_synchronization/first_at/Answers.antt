-- Each response is that of its kind.
use Rattle.event_chain.specs.{Coloured.words_at, Reaction.latest}
use Rattle.event_chain.proofs.Laws.ByWords.{words_at_lem}
use Rattle.constraint.proofs.Library.{◌<◌, arith, rules, suc}
use Rattle.constraint.specs.Steps.{at}
use Rattle.ring.specs.Ring.{times_of}
use Rattle.event_chain.proofs.output_synchronization.first_at.Goals as goal

pub returns : goal.returns
returns c =
    let a = c.args in
    let words = times_of a.words.times in
    c.least_by.ensures (λ i. latest (at (words_at words a.colour) (suc i)))
    (λ i r h p. let small : suc i < 5 = omega arith in let is = words_at_lem words a.colour (suc i) small in search rules)
