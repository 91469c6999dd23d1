-- The numbers of the row give its kinds and the place of the event's kind, which are those of the definition.
use Rattle.event_chain.specs.Coloured.{decide_words, event_words, kind_count, place_among}
use Rattle.event_chain.specs.Marked.{coloured_kind}
use Rattle.constraint.proofs.Library.{◌∙◌, ◌≡◌, ap₂, ℕ}
use Rattle.constraint.specs.Steps.{at}
use Rattle.ring.specs.Ring.{ring}
use Rattle.row_type.specs.Words.{changed_words, last_saved, number_words, row_as_words}
use Rattle.event_chain.proofs.coloured.apply.Goals as goal

pub returns : goal.returns
unfolding row_as_words number_words decide_words
returns g c parameters times state past e =
    let s = c.args in
    let t = g.T.Synchronization in
    let count : c.of-kinds.result.count ≡ kind_count parameters = rw e at c.of-kinds.ensures.count in
    let tolerance : c.of-kinds.result.tolerance ≡ parameters.upper = rw e at c.of-kinds.ensures.tolerance in
    let kind : c.of-place.result.kind ≡ place_among parameters (coloured_kind s.stream) = rw e at c.of-place.ensures.kind in
    let words = ring times state.head state.len in
    let made = λ (n tolerance d j : ℕ).
    changed_words last_saved parameters times state past
    (event_words (t.owed n tolerance) (t.breaks n) (λ w j y. t.next n (at w j) j y) state.registers words d j s.t) s.t s.number in
    let k = c.of-kinds.result in
    let p = c.of-place.result in
    c.apply_at.ensures parameters times state past e
    ∙ ap₂ (λ (n x : ℕ). made n x p.colour p.kind) count tolerance
    ∙ ap₂ (made (kind_count parameters) parameters.upper) c.of-place.ensures.colour kind
