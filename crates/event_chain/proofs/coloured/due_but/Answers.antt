-- The due time is the first last moment of all colours.
use Rattle.event_chain.specs.Coloured.{due_words, words_but}
use Rattle.constraint.proofs.Library.{rules}
use Rattle.ring.specs.Ring.{times_of}
use Rattle.event_chain.proofs.coloured.due_but.Goals as goal

pub returns : goal.returns
unfolding due_words
returns g c =
    let a = c.args in
    let words = times_of a.words.times in
    c.least_by.ensures (λ e. g.T.Synchronization.owed a.kinds.count a.kinds.tolerance (words_but words a.place.colour a.place.kind a.value e))
    (λ i r h p. search rules)
