-- The contract's examples read as it says: the machine computes the answers and each verdict, and §3.6 makes them the definition's.
use Rattle.constraint.proofs.Library.{ℕ, ◌≡◌, refl, sym, ap, ap₂, subst, Bool, true, false, ◌&&◌, List, [], ◌∷◌, ◌++◌, map, Option, none, some, eqb}
use Rattle.constraint.proofs.Library.{eqb-true}
use Rattle.constraint.specs.Limits.{no_limit}
use Rattle.constraint.specs.Steps.{Step}
use Rattle.constraint.specs.Continuation.{Reads}
use Rattle.constraint.specs.Run.{asks, none_left, Run}
use Rattle.constraint.specs.Promise.{ReadsRow, row, play, Played}
use Rattle.constraint.specs.Examples.{Example, examples}
use Rattle.constraint.specs.Answer.{Answer}
use Rattle.constraint.specs.Answer.{Taken, Refused}
use Rattle.constraint.specs.declared.Call.{Call}
use Rattle.constraint.specs.declared.Call.TheVariants.{Tick}
use Rattle.constraint.specs.Constraint.{Constraint}
use Rattle.constraint.specs.Constraint.{Delay, Repeat}
use Rattle.constraint.specs.declared.Verdict.{Verdict}
use Rattle.constraint.specs.declared.Verdict.TheVariants.{Open, Kept, Broken}
use Rattle.constraint.proofs.Lists.{both}
use Rattle.examples.specs.Vectors.{patterns, arbitraries, comparisons}
use Rattle.patterns.specs.Pattern.{decide_pattern, later_pattern, placed_in, decide_in_words as decidePatternWords}
use Rattle.repeat_burst.specs.Arbitrary.{decide_arbitrary, late_enough, due_after, decide_in_words as decideArbitraryWords}
use Rattle.row.specs.Machine.{row_of, broken_row, applied, changed_row, row_step, row_verdict}
use Rattle.ring.specs.Ring.{ring, push_ring, put_ring, put_back}
use Rattle.row.specs.Undo.{moves_by, step_place, saved_by, back_row, row_without, kept_without}
use Rattle.monitor.specs.Machine.{monitor_of, map_first, zip_first, any_first, taken_call, step_of, withdrawn, withdraw_of, verdict_of}
use Rattle.monitor.specs.Contract.{step, after}
use Rattle.monitor.specs.declared.Monitor.{Monitor}
use Rattle.monitor.proofs.Theorem.{monitor_is_exact}
use Rattle.examples.specs.Reading.{ReadsSo, AllRead, BothRead, CrowdedSilence}
use Rattle.examples.proofs.Fitting.{and_true, fits, accepted_by, accepted_both}
use Rattle.examples.specs.Vectors.{crowded_rows, crowded_calls, crowded_answers}
use Rattle.delay_order.specs.Delay.{answered_by, decide_delay}
use Rattle.delay_order.specs.StrongDelay.{source_strong_delay, target_strong_delay, decide_strong_delay}
use Rattle.repeat_burst.specs.Repeat.{decide_repeat}
use Rattle.hidden_points.specs.Sporadic.{later_sporadic, decide_sporadic}
use Rattle.delay_order.specs.Order.{changes_to, decide_order}
use Rattle.synchronizations.specs.StrongSynchronization.{decide_strong_synchronization}
use Rattle.execution.specs.ExecutionTime.{while_idle, while_running, while_preempted, decide_execution_time}
use Rattle.event_chain.specs.Reaction.{due_but, decide_reaction}
use Rattle.event_chain.specs.Age.{due_age, decide_age}
use Rattle.event_chain.specs.Coloured.{decide_words, due_words, least_of, most_of}
use Rattle.examples.specs.Vectors.{ages, output_synchronizations, input_synchronizations}
use Rattle.repetition.specs.Repetition.{placed, decide_repetition}
use Rattle.synchronizations.specs.Synchronization.{decide_synchronization}
use Rattle.examples.specs.Vectors.{unlimited_delays, silences, execution_times, repetitions, long_clocks, reactions, synchronizations}

-- ---- what the machine computes

-- the same answers
same_answers : List Answer → List Answer → Bool
same_answers [] [] = true
same_answers [] (b ∷ others) = false
same_answers (a ∷ answers) [] = false
same_answers (Taken ∷ answers) (Taken ∷ others) = same_answers answers others
same_answers (Refused m ∷ answers) (Refused n ∷ others) = eqb m n && same_answers answers others
same_answers (Taken ∷ answers) (Refused n ∷ others) = false
same_answers (Refused m ∷ answers) (Taken ∷ others) = false

same_answers_lem : (answers others : List Answer) → same_answers answers others ≡ true → answers ≡ others
unfolding same_answers
same_answers_lem [] [] e = refl
same_answers_lem [] (b ∷ others) e = both (sym e)
same_answers_lem (a ∷ answers) [] e = both (sym e)
same_answers_lem (Taken ∷ answers) (Taken ∷ others) e = ap (λ (l : List Answer). Taken ∷ l) (same_answers_lem answers others e)
same_answers_lem (Refused m ∷ answers) (Refused n ∷ others) e =
    let parts = and_true (eqb m n) (same_answers answers others) e in
    ap₂ (λ (k : ℕ) (l : List Answer). Refused k ∷ l) (eqb-true m n parts.0) (same_answers_lem answers others parts.1)
same_answers_lem (Taken ∷ answers) (Refused n ∷ others) e = both (sym e)
same_answers_lem (Refused m ∷ answers) (Taken ∷ others) e = both (sym e)

-- there is a verdict, and it is this one
is_verdict : Option Verdict → Verdict → Bool
is_verdict none v = false
is_verdict (some Open) Open = true
is_verdict (some Kept) Kept = true
is_verdict (some (Broken m)) (Broken n) = eqb m n
is_verdict (some Open) Kept = false
is_verdict (some Open) (Broken n) = false
is_verdict (some Kept) Open = false
is_verdict (some Kept) (Broken n) = false
is_verdict (some (Broken m)) Open = false
is_verdict (some (Broken m)) Kept = false

is_verdict_lem : (o : Option Verdict) (v : Verdict) → is_verdict o v ≡ true → o ≡ some v
unfolding is_verdict
is_verdict_lem none v e = both (sym e)
is_verdict_lem (some Open) Open e = refl
is_verdict_lem (some Kept) Kept e = refl
is_verdict_lem (some (Broken m)) (Broken n) e = ap (λ x. some (Broken x)) (eqb-true m n e)
is_verdict_lem (some Open) Kept e = both (sym e)
is_verdict_lem (some Open) (Broken n) e = both (sym e)
is_verdict_lem (some Kept) Open e = both (sym e)
is_verdict_lem (some Kept) (Broken n) e = both (sym e)
is_verdict_lem (some (Broken m)) Open e = both (sym e)
is_verdict_lem (some (Broken m)) Kept e = both (sym e)

-- the machine over the example's row alone, after its requests
play_of : Example → Played Monitor
play_of e = play step (monitor_of (e.constraint ∷ [])) e.requests

-- the row is accepted, the machine gives the answers, and reads the verdict
computes : Example → Bool
computes e = fits e.constraint && (same_answers (play_of e).answers e.answers && is_verdict (verdict_of (play_of e).monitor 0) e.verdict)

all_compute : List Example → Bool
all_compute [] = true
all_compute (e ∷ later) = computes e && all_compute later

all_computed : (all_compute examples ≡ true) × (all_compute unlimited_delays ≡ true) × (all_compute silences ≡ true)
    × (all_compute execution_times ≡ true) × (all_compute repetitions ≡ true) × (all_compute long_clocks ≡ true) × (all_compute reactions ≡ true)
    × (all_compute synchronizations ≡ true)
unfolding all_compute computes play_of same_answers is_verdict play row_of broken_row applied changed_row row_step row_verdict ring push_ring
    put_ring put_back
    moves_by step_place saved_by back_row row_without kept_without monitor_of map_first zip_first any_first taken_call step_of withdrawn
    withdraw_of verdict_of
    answered_by decide_delay source_strong_delay target_strong_delay decide_strong_delay decide_repeat later_sporadic decide_sporadic changes_to
    decide_order
    decide_strong_synchronization while_idle while_running while_preempted decide_execution_time due_but decide_reaction placed decide_repetition
    decide_synchronization
all_computed = (refl, refl, refl, refl, refl, refl, refl, refl)

-- rows with words for each colour
chains_computed : (all_compute ages ≡ true) × (all_compute output_synchronizations ≡ true) × (all_compute input_synchronizations ≡ true)
unfolding all_compute computes play_of same_answers is_verdict play row_of broken_row applied changed_row row_step row_verdict ring push_ring
    put_ring put_back
    moves_by step_place saved_by back_row row_without kept_without monitor_of map_first zip_first any_first taken_call step_of withdrawn
    withdraw_of verdict_of
    due_age decide_age decide_words due_words least_of most_of
chains_computed = (refl, refl, refl)

-- ---- so each reads by the definitions what the machine computes

only_row : (c : Constraint) (steps : List Step) (v : Verdict) → ReadsRow (c ∷ []) steps 0 (some v) → Reads c steps v
only_row c steps v (row d w e r) = let same : d ≡ c = cc in subst (λ x. Reads x steps w) same r

reads_so : (e : Example) → computes e ≡ true → ReadsSo e
unfolding computes play_of after
reads_so e computed =
    let rows = e.constraint ∷ [] in
    let parts = and_true (fits e.constraint) _ computed in
    let later = and_true (same_answers (play_of e).answers e.answers) _ parts.1 in
    let reads : verdict_of (play_of e).monitor 0 ≡ some e.verdict = is_verdict_lem _ e.verdict later.1 in
    let exact = monitor_is_exact.exact rows (accepted_by e.constraint parts.0) e.requests in
    record {
      left = exact.0;
      answered = subst (λ answers. Run rows none_left e.requests answers exact.0) (same_answers_lem _ e.answers later.0) exact.1;
      defined = only_row e.constraint exact.0.steps e.verdict (subst (ReadsRow rows exact.0.steps 0) reads (exact.2 0));
      monitored = reads;
    }

all_read : (list : List Example) → all_compute list ≡ true → AllRead list
unfolding all_compute
all_read [] computed = tt
all_read (e ∷ later) computed = let parts = and_true (computes e) (all_compute later) computed in (reads_so e parts.0, all_read later parts.1)

-- §10.1 to §10.12, §10.14, §10.15
pub examples_hold : AllRead examples
examples_hold = all_read examples all_computed.0

-- §5.1.6, §5.1.7
pub unlimited_delays_hold : AllRead unlimited_delays
unlimited_delays_hold = all_read unlimited_delays all_computed.1

-- §5.3.2, §5.4.4
pub silences_hold : AllRead silences
silences_hold = all_read silences all_computed.2

-- §5.8.1 to §5.8.6
pub execution_times_hold : AllRead execution_times
execution_times_hold = all_read execution_times all_computed.3

-- §5.10 to §5.10.4
pub repetitions_hold : AllRead repetitions
repetitions_hold = all_read repetitions all_computed.4

-- §1.1, §1.10
pub long_clocks_hold : AllRead long_clocks
long_clocks_hold = all_read long_clocks all_computed.5

-- §5.9.1 to §5.9.7
pub reactions_hold : AllRead reactions
reactions_hold = all_read reactions all_computed.6

-- §5.12
pub ages_hold : AllRead ages
ages_hold = all_read ages chains_computed.0

-- §5.13
pub output_synchronizations_hold : AllRead output_synchronizations
output_synchronizations_hold = all_read output_synchronizations chains_computed.1

-- §5.14
pub input_synchronizations_hold : AllRead input_synchronizations
input_synchronizations_hold = all_read input_synchronizations chains_computed.2

-- §5.11 to §5.11.5
pub synchronizations_hold : AllRead synchronizations
synchronizations_hold = all_read synchronizations all_computed.7

-- ---- rows with offsets and pairs, and a row of no kind

patterns_computed : all_compute patterns ≡ true
unfolding all_compute computes play_of same_answers is_verdict play row_of broken_row applied changed_row row_step row_verdict ring push_ring
    put_ring put_back
    moves_by step_place saved_by back_row row_without kept_without monitor_of map_first zip_first any_first taken_call step_of withdrawn
    withdraw_of verdict_of
    decide_pattern later_pattern placed_in decidePatternWords
patterns_computed = refl

arbitraries_computed : all_compute arbitraries ≡ true
unfolding all_compute computes play_of same_answers is_verdict play row_of broken_row applied changed_row row_step row_verdict ring push_ring
    put_ring put_back
    moves_by step_place saved_by back_row row_without kept_without monitor_of map_first zip_first any_first taken_call step_of withdrawn
    withdraw_of verdict_of
    decide_arbitrary late_enough due_after decideArbitraryWords
arbitraries_computed = refl

comparisons_computed : all_compute comparisons ≡ true
unfolding all_compute computes play_of same_answers is_verdict play row_of broken_row applied changed_row row_step row_verdict ring push_ring
    put_ring put_back
    moves_by step_place saved_by back_row row_without kept_without monitor_of map_first zip_first any_first taken_call step_of withdrawn
    withdraw_of verdict_of
comparisons_computed = refl

-- §5.15
pub patterns_hold : AllRead patterns
patterns_hold = all_read patterns patterns_computed

-- §5.16
pub arbitraries_hold : AllRead arbitraries
arbitraries_hold = all_read arbitraries arbitraries_computed

-- §5.17
pub comparisons_hold : AllRead comparisons
comparisons_hold = all_read comparisons comparisons_computed

-- ---- a table of two rows

-- what the machine answers to calls over the crowded rows, and what these read then
crowded_play : List Call → Played Monitor
crowded_play calls = play step (monitor_of crowded_rows) (map asks calls)

both_read : (calls : List Call) (answers : List Answer) (first second : Verdict) → (crowded_play calls).answers ≡ answers
    → verdict_of (crowded_play calls).monitor 0 ≡ some first → verdict_of (crowded_play calls).monitor 1 ≡ some second
    → BothRead crowded_rows calls answers first second
unfolding crowded_play
both_read calls answers first second answered one two =
    let exact = monitor_is_exact.exact crowded_rows (accepted_both (Delay 0 1 0 no_limit) (Repeat 2 1 0 64) refl refl) (map asks calls) in (
      exact.0,
      subst (λ list. Run crowded_rows none_left (map asks calls) list exact.0) answered exact.1,
      subst (ReadsRow crowded_rows exact.0.steps 0) one (exact.2 0),
      subst (ReadsRow crowded_rows exact.0.steps 1) two (exact.2 1),
    )

-- §5.3.5
pub crowded_silence_holds : CrowdedSilence
unfolding crowded_play play monitor_of map_first any_first taken_call step_of verdict_of row_of broken_row applied changed_row row_step row_verdict
    ring
    push_ring put_ring answered_by decide_delay decide_repeat
crowded_silence_holds =
    record {
      refused = both_read crowded_calls crowded_answers Open Open refl refl refl;
      ticked = both_read (crowded_calls ++ (Tick 65 ∷ [])) (crowded_answers ++ (Taken ∷ [])) Open (Broken 66) refl refl refl;
    }
