-- A row of fewer words breaks. Else the words of the event's colour are those of the definition, and so is what the event makes of them.
use Rattle.event_chain.proofs.Laws.Words.{long_enough}
use Rattle.event_chain.specs.Pairs.{change_pair, decide_pairs}
use Rattle.event_chain.specs.declared.pairs.Pair.{Pair}
use Rattle.std.specs.Prelude.{Option}
use Rattle.constraint.proofs.Library.{◌%◌, ◌*◌, ◌+◌, ◌∙◌, ◌≡◌, ◌≤◌, ap, ap₂, arith, get_or, lt-ltb, refl, sym, ℕ}
use Rattle.row_type.specs.{Words.changed_words, Words.last_saved, Words.number_words, Words.row_as_words, declared.Change.Change}
use Rattle.ring.proofs.Laws.{ring_length, ring_read}
use Rattle.ring.specs.Ring.{ring}
use Rattle.event_chain.proofs.pairs.apply.Goals as goal

pub returns-then-times-lt-WORDS : goal.returns-then-times-lt-WORDS
unfolding row_as_words number_words changed_words decide_pairs
returns-then-times-lt-WORDS g c parameters times state past e =
    rw (
      c.break_at.ensures parameters times state past e,
      ring_length times state.head state.len,
      lt-ltb _ _ (rw (c.times-times.ensures.len, e) at c.if-times-lt-WORDS.true),
    ) refl

pub returns : goal.returns
unfolding row_as_words number_words decide_pairs
returns g c parameters times state past e =
    let s = c.args in
    let t = g.T.Pairs in
    let words = ring times state.head state.len in
    let place = 2 * (s.stream % 8) in
    let many : 16 ≤ state.len = rw (c.times-times.ensures.len, e) at c.if-times-lt-WORDS.false in
    let head = c.times-times.ensures.head in
    let low : c.at.result ≡ get_or words place 0 =
    rw (c.times-times.ensures.words, head, e) at c.at.ensures ∙ ring_read times state.head state.len place (omega arith) in
    let high : c.at-2.result ≡ get_or words (place + 1) 0 =
    rw (c.times-times.ensures.words, head, e) at c.at-2.ensures ∙ ring_read times state.head state.len (place + 1) (omega arith) in
    let pair : c.pair_after-pair.result ≡ t.pair_after parameters s.stream c.at.result c.at-2.result s.t = rw e at c.pair_after-pair.ensures in
    c.store.ensures parameters times state past e
    ∙ ap (λ (x : Option Pair). changed_words last_saved parameters times state past
    (change_pair t.owed t.due state.registers words (s.stream % 8) (t.owed c.at.result c.at-2.result) x) s.t s.number) pair
    ∙ ap₂ (λ (l h : ℕ). changed_words last_saved parameters times state past
    (change_pair t.owed t.due state.registers words (s.stream % 8) (t.owed l h) (t.pair_after parameters s.stream l h s.t)) s.t s.number) low high
    ∙ ap (λ (x : Change). changed_words last_saved parameters times state past x s.t s.number)
    (sym (long_enough 16 words _ (rw (ring_length times state.head state.len) many)))
