-- A monitor over no rows has no row to crowd, so its clock, count, first free times and mark of the close alone answer each call; and what reading
-- gives from a place on, over the steps read before it, is what it gives from the start.
use Rattle.clock.specs.Clock.{After, RefusesRecord, TakesCall, TakesRecord, Ticks, clock_of, more_ticks, no_tick}
use Rattle.clock.specs.declared.Clock.{Clock}
use Rattle.constraint.proofs.Library.{List, [], ◌++◌, ◌+◌, ◌<◌, ◌∙◌, ◌∷◌, ◌≡◌, ◌≤◌, ap, arith, false, get_or, length, lt-ltb, map, refl, replicate}
use Rattle.constraint.proofs.Library.{set, set-get_or}
use Rattle.constraint.proofs.Library.{subst, sym, ℕ}
use Rattle.constraint.proofs.{History.Valid, History.valid_none, Judged.judged_none, Runs.run_valid, Sanity.run_once}
use Rattle.constraint.specs.Recording.{ReadsInOrder, ReadsRecords, RecordAt, RecordingRead, VersionKnown, call_at, no_more, record_refused}
use Rattle.constraint.specs.Recording.{record_taken, record_questions, recording_of, recording_refused, version_taken}
use Rattle.constraint.specs.{Accepted.Accepted, Accepted.rows_questions, Limits.stream_count, Promise.play, Questions.Judged, Run.Left, Run.asks}
use Rattle.constraint.specs.{Run.done, Run.questions, Run.step_for, Steps.Step, Steps.clock, Table.length_at}
use Rattle.constraint.specs.{Answer.Refused, Answer.Taken, declared.Call.Call}
use Rattle.row_type.specs.Parts.{plus}
use Rattle.monitor.proofs.{StepRefinement.Follows, Withdrawing.after_call, Withdrawing.remains_follows, Withdrawing.steps_keep}
use Rattle.monitor.proofs.{Withdrawing.takes_more}
use Rattle.monitor.specs.Machine.{any_first, monitor_of, refuses, step_of, stepped_by, taken_call, takes}
use Rattle.monitor.specs.{Beside.all_taken, Contract.Steps, Contract.after, declared.Monitor.Monitor, Stepped.Stepped}
use Rattle.questions.specs.Questions.{closed_after, free_after, step_input_by, place_for, refusal_by}
use Rattle.recording.proofs.Records.{record_judged, record_refused as record-not-there}
use Rattle.recording.specs.Record.{CallAt}
use Rattle.recording.specs.declared.CallRead.{CallRead}
use Rattle.row.proofs.EveryType.{every_type_exact}

-- ---- a call, on the clock's numbers

-- the first free time of a call's stream
abbrev pub free_for : Clock → Call → ℕ
free_for o s = get_or o.next (place_for s) 0

-- the number of the first "no" to its questions but 12, or 0
abbrev pub refusal_of : Clock → Call → ℕ
refusal_of o s = refusal_by s o.closed o.count o.time (free_for o s)

-- the clock after it
abbrev pub clock_after : Clock → Call → Clock
clock_after o s =
    record {
      time = (step_input_by s o.time).time;
      count = plus o.count 1;
      next = set o.next (place_for s) (free_after s (free_for o s));
      closed = closed_after s o.closed;
    }

-- ---- what it says of the monitor over no rows

none_accepted : Accepted []
unfolding rows_questions
none_accepted = (1, judged_none)

pub starts : After [] (record { time = 0; count = 0; next = replicate stream_count 0; closed = 0 })
unfolding after play monitor_of
starts = record { calls = []; all_taken_lem = (false, done); is = refl }

-- with no row none is crowded
taken_step : (m : Monitor) (s : Call) (number : ℕ) → m.len ≡ 0 → number ≡ 0 → stepped_by m s number ≡ takes (taken_call m s)
unfolding any_first
taken_step m s number none e = rw (e, none)

refused_step : (m : Monitor) (s : Call) (number : ℕ) → 0 < number → stepped_by m s number ≡ refuses number m
refused_step m s number h = rw (lt-ltb 0 number h)

module _ (steps : List Step) (o : Clock) (before : After steps o) where
  m : Monitor
  m = after [] (map asks before.calls)

  follows : Follows every_type_exact [] steps m
  unfolding m
  follows = remains_follows every_type_exact [] none_accepted (map asks before.calls) (all_taken before.calls, before.all_taken_lem.1)

  -- the clock is that of the steps, which could all be taken
  pub after_valid : Valid steps
  after_valid = run_valid before.all_taken_lem.1 valid_none

  pub after_clock : o.time ≡ clock steps
  unfolding m
  after_clock = ap (λ (x : Clock). x.time) before.is ∙ follows.clock_is

  module _ (s : Call) where
    kept : Steps m (asks s) (step_of m s)
    kept = steps_keep every_type_exact m (asks s)

    judged : Judged (questions [] steps s) (step_of m s).answer
    unfolding m
    judged =
        let means = (kept.means [] (map asks before.calls) none_accepted refl).0 in
        subst (λ (left : Left). Judged (questions [] left.steps s) (step_of m s).answer) (run_once [] means.1.1 before.all_taken_lem.1).1
        means.2

    same_number : refusal_of o s ≡ refusal_of (clock_of m) s
    unfolding m
    same_number = ap (λ (x : Clock). refusal_of x s) before.is

    pub call_refused : 0 < refusal_of o s → Judged (questions [] steps s) (Refused (refusal_of o s))
    unfolding step_of
    call_refused h =
        let number : 0 < refusal_of (clock_of m) s = subst (λ (n : ℕ). 0 < n) same_number h in
        subst (λ (n : ℕ). Judged (questions [] steps s) (Refused n)) (sym same_number)
        (subst (λ (x : Stepped). Judged (questions [] steps s) x.answer) (refused_step m s (refusal_of (clock_of m) s) number) judged)

    stepped : refusal_of o s ≡ 0 → step_of m s ≡ takes (taken_call m s)
    unfolding step_of
    stepped e = taken_step m s (refusal_of (clock_of m) s) follows.len_is (sym same_number ∙ e)

    pub call_taken : refusal_of o s ≡ 0 → Judged (questions [] steps s) Taken × After (steps ++ (step_for s ∷ [])) (clock_after o s)
    unfolding taken_call m
    call_taken e =
        let yes_all : Judged (questions [] steps s) Taken = subst (λ (x : Stepped). Judged (questions [] steps s) x.answer) (stepped e) judged in (
          yes_all,
          record {
            calls = before.calls ++ (s ∷ []);
            all_taken_lem = takes_more [] before.calls steps s before.all_taken_lem yes_all;
            is = ap (λ (x : Clock). clock_after x s) before.is
                ∙ ap (λ (x : Stepped). clock_of x.monitor) (sym (stepped e))
                ∙ ap clock_of ((kept.means [] (map asks before.calls) none_accepted refl).1 ∙ after_call [] before.calls s);
          },
        )

-- ---- what the code promises of a call and of a record

module _ (o : Clock) (s : Call) (n : ℕ) (is : n ≡ refusal_of o s) where
  pub takes_refused : 0 < n → TakesCall o s n o
  takes_refused h =
      record {
        taken = λ e. absurd (omega (arith, e, h));
        refused = λ more steps before. subst (λ (x : ℕ). Judged (questions [] steps s) (Refused x)) (sym is)
            (call_refused steps o before s (subst (λ (x : ℕ). 0 < x) is h));
        as_it_was = λ more. refl;
      }

  pub takes_taken : n ≤ 0 → (later : Clock) → later ≡ clock_after o s → TakesCall o s 0 later
  takes_taken h later e =
      record {
        taken = λ zero steps before. subst (λ (x : Clock). Judged (questions [] steps s) Taken × After (steps ++ (step_for s ∷ [])) x) (sym e)
            (call_taken steps o before s (omega (arith, is, h)));
        refused = λ more. absurd (omega (arith, more));
        as_it_was = λ more. absurd (omega (arith, more));
      }

module _ (bytes : List ℕ) (place : ℕ) (o : Clock) where
  pub read_none : ¬ RecordAt bytes place → RefusesRecord bytes place 14 o o
  read_none not_there =
      record { refused = λ steps before. record-not-there [] steps bytes place not_there; as_it_was = refl; none = λ _. refl }

  module _ (r : CallRead) (read : CallAt bytes place r.call r.next) (later : Clock) where
    pub read_refused : (n : ℕ) → 0 < n → TakesCall o r.call n later → RefusesRecord bytes place n o later
    read_refused n h taken =
        record {
          refused = λ steps before. record_judged [] steps bytes place r.call r.next (Refused n) read (taken.refused h steps before);
          as_it_was = taken.as_it_was h;
          none = λ not_there. absurd (not_there read.there);
        }

    pub read_taken : TakesCall o r.call 0 later → TakesRecord bytes place r o later
    read_taken taken =
        record {
          taken = λ steps before. let given = taken.taken refl steps before in
              (record_judged [] steps bytes place r.call r.next Taken read given.0, given.1);
          there = read.there;
          call_is = read.call_read;
          next_is = (read.next_read, omega (arith, read.next_read, read.there.0.1));
        }

-- ---- ticks

-- a tick changes no first free time
pub tick_after : (o : Clock) (t count : ℕ) → count ≡ plus o.count 1
    → record { time = t; count = count; next = o.next; closed = o.closed } ≡ clock_after o (Call.Tick t)
tick_after o t count e =
    rw e (ap (λ (next : List ℕ). record { time = t; count = plus o.count 1; next = next; closed = o.closed }) (sym (set-get_or o.next 0 0)))

pub ticks_more : {bytes : List ℕ} {place before : ℕ} {o now : Clock} {t : ℕ} {later : Clock} → Ticks bytes place o before now
    → CallAt bytes before (Call.Tick t) (before + 10) → TakesCall now (Call.Tick t) 0 later → Ticks bytes place o (before + 10) later
ticks_more {bytes} {place} {before} {o} {now} {t} {later} ticks read taken =
    let r : CallRead = record { call = Call.Tick t; next = before + 10 } in
    more_ticks t r later ticks (read_taken bytes before now r read later taken) refl

pub ticks_on : {bytes : List ℕ} {place to : ℕ} {o later : Clock} → Ticks bytes place o to later → place ≤ to
ticks_on no_tick = omega arith
ticks_on (more_ticks t r later ticks next tick) = omega (arith, ticks_on ticks, next.next_is.0)

-- ---- record by record

-- the records before a place were read and taken, and what is read from there on is the whole
pub record ReadUpTo (bytes : List ℕ) (place : ℕ) (steps : List Step) (o : Clock) : Type 0 where
  pub after : After steps o
  pub whole : (read : RecordingRead) → ReadsRecords [] bytes steps place read → ReadsInOrder bytes read

module _ (bytes : List ℕ) where
  pub up_to_start : VersionKnown bytes → (o : Clock) → After [] o → ReadUpTo bytes 1 [] o
  up_to_start known o start = record { after = start; whole = λ read reads. version_taken known reads }

  module _ (place : ℕ) (steps : List Step) (o : Clock) (before : ReadUpTo bytes place steps o) where
    pub up_to_more : (s : Call) (next : ℕ) (o' : Clock) → place < length bytes → call_at bytes place ≡ s → next ≡ place + 2 + length_at bytes place
        → Judged (record_questions [] steps bytes place) Taken → After (steps ++ (step_for s ∷ [])) o'
        → ReadUpTo bytes next (steps ++ (step_for s ∷ [])) o'
    up_to_more s next o' there is next_is taken later =
        record {
          after = later;
          whole = λ read reads.
              before.whole read
              (record_taken there taken
              (subst (λ (x : Call). ReadsRecords [] bytes (steps ++ (step_for x ∷ [])) (place + 2 + length_at bytes place) read) (sym is)
              (subst (λ (at : ℕ). ReadsRecords [] bytes (steps ++ (step_for s ∷ [])) at read) next_is reads)));
        }

    pub up_to_refused : (n : ℕ) → place < length bytes → Judged (record_questions [] steps bytes place) (Refused n)
        → ReadsInOrder bytes (recording_refused n place)
    up_to_refused n there refused = before.whole (recording_refused n place) (record_refused n there refused)

    pub up_to_end : length bytes ≤ place → ReadsInOrder bytes (recording_of steps)
    up_to_end end = before.whole (recording_of steps) (no_more end)
