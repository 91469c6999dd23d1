-- The tests are those of `owed_output`, in its order.
use Rattle.event_chain.specs.{Coloured.least_of, OutputSynchronization.first_response, Reaction.latest}
use Rattle.constraint.proofs.Library.{◌≡◌, eq-eqb, le-ltb, lt-ltb, ne_eqb, refl, rules, suc}
use Rattle.constraint.specs.Steps.{at}
use Rattle.event_chain.proofs.output_synchronization.OutputSynchronizationSynchronization.owed.Goals as goal
use Rattle.event_chain.proofs.output_synchronization.OutputSynchronizationSynchronization.owed.Goals.{then-w-eq0-via-then-w-eq0}
use Rattle.event_chain.proofs.output_synchronization.OutputSynchronizationSynchronization.owed.Goals.{then-w-eq0-via-else-w-eq0+then-least_by-gt0}

pub returns-then-w-eq0 : goal.returns-then-w-eq0
returns-then-w-eq0 c =
    elim c.then-w-eq0.branch [
      | then-w-eq0-via-then-w-eq0 w ↦ rw (eq-eqb _ _ w.if-w-eq0.true) refl
      | then-w-eq0-via-else-w-eq0+then-least_by-gt0 w ↦
          let least : w.least_by.result ≡ least_of (λ i. at c.args.w.now (suc i)) c.args.kinds.count =
          w.least_by.ensures (λ i. at c.args.w.now (suc i)) (λ i r h p. search rules) in
          rw (ne_eqb _ _ w.if-w-eq0.false, ← least, lt-ltb _ _ w.if-least_by-gt0.true) refl
    ]

pub returns : goal.returns
returns c =
    let least : c.least_by.result ≡ least_of (λ i. at c.args.w.now (suc i)) c.args.kinds.count =
    c.least_by.ensures (λ i. at c.args.w.now (suc i)) (λ i r h p. search rules) in
    let first : c.least_by-first.result ≡ first_response c.args.kinds.count c.args.w.now =
    c.least_by-first.ensures (λ i. latest (at c.args.w.now (suc i))) (λ i r h p. search rules) in
    rw (c.min.ensures, c.saturating_add.ensures, first, ne_eqb _ _ c.if-w-eq0.false, ← least, le-ltb _ _ c.if-least_by-gt0.false) refl
