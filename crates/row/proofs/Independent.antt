-- What does not concern a row: its machine looks at an event's kind only to ask whether it is one of the row's, so an event of no
-- kind of the row's does to it what a tick to that time does.
use Rattle.row.proofs.Names.{Constraint, StepInput, Row, ◌<◌, ◌∙◌, ◌≡◌, among, among_where, ap, at, concerns, event_at, false, kind_of, kinds}
use Rattle.row.proofs.Names.{length, no_event, refl, row_step, parameters_of, split, stream_count, tick_at, ℕ}
use Rattle.row.proofs.{Exact.Sound, OwnKinds.concerns_none, OwnKinds.concerns_stream}

-- two occurrences that are none of the row's, alike but for the kind and the stream
unconcerned : (r : Row) (o p : StepInput) (number : ℕ) → concerns r.parameters o.kind ≡ false → concerns r.parameters p.kind ≡ false
    → o.time ≡ p.time → o.closes ≡ p.closes → row_step r o number ≡ row_step r p number
unfolding row_step
unconcerned r o p number quiet quiet' same-time same-close = rw (quiet, quiet', same-time, same-close)

-- an event of no kind of the row's, and a tick
pub event_as_tick : (c : Constraint) → Sound c → (r : Row) → r.parameters ≡ parameters_of c → (s t number : ℕ) → s < stream_count
    → ¬ ((i : ℕ) × (i < length (kinds c)) × (at (kinds c) i ≡ kind_of s)) → row_step r (event_at s t) number ≡ row_step r (tick_at t) number
event_as_tick c sound r parameters s t number small other =
    unconcerned r (event_at s t) (tick_at t) number
    (of_parameters (kind_of s) (concerns_stream c sound.known s small
    ∙ split (among (kind_of s) (kinds c)) (λ b. b ≡ false) (λ e. absurd (other (among_where (kind_of s) (kinds c) e))) (λ e. refl)))
    (of_parameters no_event (concerns_none c sound)) refl refl
  where
    of_parameters : (j : ℕ) → concerns (parameters_of c) j ≡ false → concerns r.parameters j ≡ false
    of_parameters j e = ap (λ parameters. concerns parameters j) parameters ∙ e
