-- The tests are those of `together`, in its order.
use Rattle.event_chain.proofs.Laws.Firsts.{most_taken}
use Rattle.event_chain.specs.Coloured.{least_of}
use Rattle.constraint.proofs.Library.{◌∙◌, ◌≡◌, ◌≤◌, arith, length, lt-ltb, refl, rules}
use Rattle.constraint.specs.Steps.{at}
use Rattle.event_chain.proofs.input_synchronization.together.Goals as goal

pub returns-then-first-gt0 : goal.returns-then-first-gt0
returns-then-first-gt0 c =
    let few : c.args.kinds.count ≤ length c.args.w.now = omega arith in
    let first : c.least_by-first.result ≡ least_of (at c.args.w.now) c.args.kinds.count =
    c.least_by-first.ensures (at c.args.w.now) (λ i r h p. search rules) in
    rw (c.saturating_add.ensures, c.most.ensures ∙ most_taken _ _ few, ← first, lt-ltb _ _ c.if-first-gt0.true) refl
