-- An event of a coloured kind overflows no row: nothing waits in a row with coloured fields, and such an event does not concern any other row.
use Rattle.constraint.proofs.Library.{ℕ, ◌≤◌, ◌<◌, arith, ◌≡◌, refl, false, List, [], ◌∷◌, ◌++◌, eqb, ne_eqb}
use Rattle.constraint.specs.Limits.{first_coloured}
use Rattle.constraint.specs.Streams.{stream}
use Rattle.constraint.specs.Steps.{Step, event, among}
use Rattle.constraint.specs.Accepted.{EachField, KindClassFits, KindsSuit, Accepted}
use Rattle.constraint.specs.Questions.{Judged}
use Rattle.constraint.specs.Run.{step_for, questions, Request, Left}
use Rattle.constraint.specs.Waiting.{waiting}
use Rattle.constraint.specs.Answer.{Refused}
use Rattle.constraint.specs.declared.Call.{Call}
use Rattle.constraint.specs.Constraint.{Age, Arbitrary, Burst, Comparison, Constraint, Delay, ExecutionTime, InputSynchronization, Order}
use Rattle.constraint.specs.Constraint.{OutputSynchronization, Pattern, Reaction, Repeat, Repetition, Sporadic, StrongDelay, StrongSynchronization}
use Rattle.constraint.specs.Constraint.{Synchronization}
use Rattle.constraint.specs.Types.{Field, byte, coloured, count, fields_of, kind as plainKind, kind_fields, plain as neither, span, time as timed}
use Rattle.constraint.specs.Types.{tolerance}
use Rattle.constraint.proofs.AsBefore.{Uncoloured}
use Rattle.constraint.proofs.Streams.{streams, streams_in}
use Rattle.constraint.proofs.History.{own_other}
use Rattle.constraint.proofs.Continuations.{open_before}
use Rattle.constraint.proofs.Waitings.{waiting_same}
use Rattle.row.proofs.EveryType.{every_type_exact}
use Rattle.row.proofs.Steps.{fits_room}
use Rattle.monitor.specs.Contract.{Remains}
use Rattle.monitor.specs.declared.Monitor.{Monitor}
use Rattle.monitor.proofs.StepRefinement.{Follows}
use Rattle.monitor.proofs.Withdrawing.{after_follows}
use Rattle.queries.specs.Contract.{CrowdedRow, crowded, none_crowded}
use Rattle.queries.proofs.Crowded.{accepts_crowded, crowded_says}
use Rattle.queries.proofs.Theorem.{fit_at}

-- ---- what waits in a row stays as it is

-- the kinds of a list without colours
plain_fields : (ks : List ℕ) (later : List Field) → Uncoloured later → Uncoloured (kind_fields plainKind ks ++ later)
plain_fields [] later h = h
plain_fields (k ∷ ks) later h = plain_fields ks later h

module _ (s t : ℕ) (late : first_coloured ≤ s) (steps : List Step) where
  other : (k : ℕ) → k < first_coloured → eqb s k ≡ false
  other k plain = ne_eqb s k (λ same. omega (arith, same, plain, late))

  -- a row that has no such stream
  same_waits : (c : Constraint) → among s (streams c) ≡ false → waiting c (steps ++ (event s t ∷ [])) ≡ waiting c steps
  same_waits c none = waiting_same c (steps ++ (event s t ∷ [])) steps (own_other (streams c) s t steps none)

  -- fields of which none is coloured have none
  plain_none : (fields : List Field) → EachField KindClassFits fields → Uncoloured fields → among s (streams_in fields) ≡ false
  plain_none [] suit plain = refl
  plain_none (byte plainKind x ∷ fields) suit plain = rw (other x suit.0) (plain_none fields suit.1 plain)
  plain_none (byte coloured x ∷ fields) suit plain = absurd plain
  plain_none (byte count x ∷ fields) suit plain = plain_none fields suit.1 plain
  plain_none (byte (span limit) x ∷ fields) suit plain = plain_none fields suit.1 plain
  plain_none (timed role x ∷ fields) suit plain = plain_none fields suit.1 plain

  plain_waits : (c : Constraint) → KindsSuit c → Uncoloured (fields_of c) → waiting c (steps ++ (event s t ∷ [])) ≡ waiting c steps
  unfolding KindsSuit
  plain_waits c suit plain = same_waits c (plain_none (fields_of c) suit plain)

  coloured_waits : (c : Constraint) → KindsSuit c → waiting c (steps ++ (event s t ∷ [])) ≡ waiting c steps
  unfolding waiting
  coloured_waits (Delay a b x y) suit = plain_waits (Delay a b x y) suit tt
  coloured_waits (StrongDelay a b x y) suit = plain_waits (StrongDelay a b x y) suit tt
  coloured_waits (Repeat a b x y) suit = refl
  coloured_waits (Sporadic a x y z w) suit = refl
  coloured_waits (Burst a b x y) suit = refl
  coloured_waits (Order a b) suit = refl
  coloured_waits (StrongSynchronization ks x) suit =
      plain_waits (StrongSynchronization ks x) suit (plain_fields ks (timed (neither tolerance) x ∷ []) tt)
  coloured_waits (ExecutionTime a b c d x y) suit = refl
  coloured_waits (Reaction a b x y) suit = refl
  coloured_waits (Repetition a b x y z) suit = refl
  coloured_waits (Synchronization ks x) suit = refl
  coloured_waits (Age a b x y) suit = refl
  coloured_waits (OutputSynchronization a ks x) suit = refl
  coloured_waits (InputSynchronization ks a x) suit = refl
  coloured_waits (Pattern a x y z xs) suit = refl
  coloured_waits (Arbitrary a ps) suit = refl
  coloured_waits (Comparison a x y) suit = refl

-- ---- so it is never why an event is refused

module _ (rows : List Constraint) (steps : List Step) (m : Monitor) (f : Follows every_type_exact rows steps m) (kind colour time : ℕ) where
  abbrev call : Call
  call = Call.ColouredEvent kind colour time

  not_refused : {n : ℕ} → CrowdedRow rows steps call n → ¬ Judged (questions rows steps call) (Refused 12)
  not_refused (none_crowded free) = free
  not_refused (crowded i c judged is full others) =
      let fit = fit_at steps rows m.rows f.fit i c is in
      let accepts = accepts_crowded rows steps call judged in
      let few = fits_room c (every_type_exact c fit.0) steps f.valid _ fit.1 (open_before c steps (step_for call) accepts full.0) in
      absurd (omega (arith, few, full.1, coloured_waits (stream kind colour) time (omega arith) steps c fit.0.kinds_suit))

  coloured_free : ¬ Judged (questions rows steps call) (Refused 12)
  coloured_free = not_refused (crowded_says every_type_exact rows steps m f call)

-- §15.11: after any list of requests over an accepted table
pub coloured_crowds_none : (rows : List Constraint) (requests : List Request) → Accepted rows
    → (left : Left) × Remains rows requests left
    × ((kind colour time : ℕ) → ¬ Judged (questions rows left.steps (Call.ColouredEvent kind colour time)) (Refused 12))
coloured_crowds_none rows requests accepted =
    let a = after_follows every_type_exact rows requests accepted in
    (a.0, a.1, λ kind colour time. coloured_free rows a.0.steps _ a.2 kind colour time)
