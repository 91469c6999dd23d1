-- What is kept of the stamps goes on from record to record, and at the end it says what the row reads.
use Rattle.std.specs.Prelude.{Option, None}
use Rattle.stamps.proofs.Names.{After, LateRow, Call, Clock, Constraint, Judged, List, ReadUpTo, ReadsInOrder, ReadsStamps}
use Rattle.stamps.proofs.Names.{CallRead, RefusesRecord, TakesRecord}
use Rattle.stamps.proofs.Names.{RecordAt, Ticks, ap, arith, more_ticks, no_tick}
use Rattle.stamps.proofs.Names.{Stamps, Step, Taken, VersionKnown, [], ◌++◌, ◌<◌, ◌∷◌, ◌≤◌, accepts_taken, after_clock}
use Rattle.stamps.proofs.Names.{after_valid, call_after, call_at, clock, first_coloured, judged_all, last_time, length, past_of}
use Rattle.stamps.proofs.Names.{questions, record_questions, recording_of, recording_refused, refl, stamps_verdict, step_for, subst, sym, times}
use Rattle.stamps.proofs.Names.{up_to_end, up_to_more, up_to_refused, up_to_start, ℕ}
use Rattle.stamps.proofs.Laws.{Keeps, keeps_call, reads_now}

-- a record that is taken: its own question, and those of its step
pub record_accepts : (bytes : List ℕ) (rows : List Constraint) (steps : List Step) (place : ℕ)
    → Judged (record_questions rows steps bytes place) Taken
    → RecordAt bytes place × Judged (questions rows steps (call_at bytes place)) Taken
unfolding record_questions
record_accepts bytes rows steps place judged = judged_all 14 _ _ judged

-- the records before a place are read, and this is kept of their stamps
pub record PassedTo (bytes : List ℕ) (a : LateRow) (o : Clock) (s : Option Stamps) (place : ℕ) : Type 0 where
  pub steps : List Step
  pub read : ReadUpTo bytes place steps o
  pub keeps : a.event < first_coloured → a.lower ≤ last_time → Keeps a (times a.event steps) s

module _ (bytes : List ℕ) (a : LateRow) where
  pub pass_start : VersionKnown bytes → (o : Clock) → After [] o → PassedTo bytes a o None 1
  unfolding times
  pass_start known o start = record { steps = []; read = up_to_start bytes known o start; keeps = λ plain small. refl }

  module _ (o : Clock) (s : Option Stamps) (place : ℕ) (before : PassedTo bytes a o s place) where
    module _ (there : place < length bytes) where
      pub pass_more : (r : CallRead) (later : Clock) → TakesRecord bytes place r o later → PassedTo bytes a later (call_after a s r.call) r.next
      pass_more r later next =
          let taken = next.taken before.steps before.read.after in
          let asked = subst (λ (x : Call). Judged (questions [] before.steps x) Taken) next.call_is
          (record_accepts bytes [] before.steps place taken.0).1 in
          record {
            steps = before.steps ++ (step_for r.call ∷ []);
            read = up_to_more bytes place before.steps o before.read r.call r.next later there next.call_is next.next_is.0 taken.0 taken.1;
            keeps = λ plain small. keeps_call a plain small before.steps s (before.keeps plain small)
                r.call (accepts_taken [] before.steps r.call asked);
          }

      pub pass_refused : (n : ℕ) (later : Clock) → RefusesRecord bytes place n o later → ReadsInOrder bytes (recording_refused n place)
      pass_refused n later next =
          up_to_refused bytes place before.steps o before.read n there (next.refused before.steps before.read.after)

    pub pass_end : length bytes ≤ place → (steps : List Step) × ReadsInOrder bytes (recording_of steps)
        × (a.event < first_coloured → a.lower ≤ last_time → ReadsStamps a.late a.lower a.upper
        (times a.event steps) (clock steps) (stamps_verdict a s o.time))
    pass_end end = (
      before.steps,
      up_to_end bytes place before.steps o before.read end,
      λ plain small.
          subst (λ (now : ℕ). ReadsStamps a.late a.lower a.upper (times a.event before.steps) (clock before.steps)
          (stamps_verdict a s now))
          (sym (after_clock before.steps o before.read.after))
          (reads_now a (times a.event before.steps) (clock before.steps)
          (past_of (after_valid before.steps o before.read.after)).small s (before.keeps plain small)),
    )

-- ticks are no stamps
pub pass_ticks : (bytes : List ℕ) (a : LateRow) (s : Option Stamps) {place to : ℕ} {o later : Clock} → Ticks bytes place o to later
    → PassedTo bytes a o s place → PassedTo bytes a later s to
pass_ticks bytes a s no_tick before = before
pass_ticks bytes a s (more_ticks {before = at} {now = now} t r later ticks next tick) before =
    subst (λ (x : Option Stamps). PassedTo bytes a later x r.next) (ap (call_after a s) tick)
    (pass_more bytes a now s at (pass_ticks bytes a s ticks before) (omega (arith, next.there.0.0)) r later next)
