-- The new word is put with the due time that it leaves.
use Rattle.event_chain.specs.Coloured.{due_words, kind_count, noted, one_new, words_at}
use Rattle.event_chain.specs.Marked.{due_marked, due_next, marking}
use Rattle.constraint.proofs.Library.{List, ◌*◌, ◌+◌, ◌∙◌, ◌≡◌, ap, ap₂, set, subst, ℕ}
use Rattle.row_type.specs.Words.{changed_words, last_saved, number_words, row_as_words}
use Rattle.ring.specs.Ring.{ring}
use Rattle.event_chain.proofs.coloured.note.Goals as goal

pub returns : goal.returns
unfolding row_as_words number_words changed_words
returns g c parameters times state past e =
    let s = c.args in
    let words = ring times state.head state.len in
    let w = words_at words s.place.colour in
    let t = g.T.Synchronization in
    let k = c.of-kinds.result in
    let count : k.count ≡ kind_count parameters = rw e at c.of-kinds.ensures.count in
    let tolerance : k.tolerance ≡ parameters.upper = rw e at c.of-kinds.ensures.tolerance in
    let f = t.owed k.count k.tolerance in
    let marked : c.due_marked-before.result ≡ due_marked state.registers = rw e at c.due_marked-before.ensures in
    let due : c.due_after-due.result ≡ due_next c.due_marked-before.result (f w) (f (set w s.place.kind s.value))
    (due_words f words s.place.colour s.place.kind s.value 8) =
    subst (λ (ws : List ℕ). c.due_after-due.result
    ≡ due_next c.due_marked-before.result (f (words_at ws s.place.colour)) (f (set (words_at ws s.place.colour) s.place.kind s.value))
    (due_words f ws s.place.colour s.place.kind s.value 8)) (rw e at c.times-times.ensures.times) c.due_after-due.ensures in
    c.put_word.ensures parameters times state past e
    ∙ ap (λ (x : ℕ). changed_words last_saved parameters times state past
    (marking (one_new (5 * s.place.colour + s.place.kind) s.value words) state.registers x) 0 s.number)
    (due ∙ ap (λ (x : ℕ). due_next x (f w) (f (set w s.place.kind s.value)) (due_words f words s.place.colour s.place.kind s.value 8)) marked)
    ∙ ap₂ (λ (n x : ℕ). changed_words last_saved parameters times state past
    (noted (t.owed n x) state.registers words s.place.colour s.place.kind s.value) 0 s.number) count tolerance
