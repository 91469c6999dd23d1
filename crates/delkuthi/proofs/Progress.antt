-- Records are taken one after the other: what reading gives from a place on, over the steps taken before it, is what it gives from the start.
use Rattle.delkuthi.proofs.Names.{Accepted, Call, CallAt, Constraint, HoldsMonitor, Host, Judged, List, Memory, ReadAnswer, ReadsRecords}
use Rattle.delkuthi.proofs.Names.{RecordAt}
use Rattle.delkuthi.proofs.Names.{RecordingLeaves, RecordingRead, Refused, Step, Stepped, Steps, StepsBefore, Taken, Takes, TakesAll}
use Rattle.delkuthi.proofs.Names.{VersionKnown, [], ◌*◌, ◌++◌, ◌<◌, ◌∷◌, ◌≡◌, ◌≤◌, after, answer_from, arith, asks, at, at_first, at_version}
use Rattle.delkuthi.proofs.Names.{behind, body_at, call_at, closed, done, false, judged_all, judged_once, judged_yes, last_count, length}
use Rattle.delkuthi.proofs.Names.{length-append, map, never, no_more, none_refused, over, questions, record_judged, record-not-there}
use Rattle.delkuthi.proofs.Names.{record_refused, record_taken, record_questions, recording_of, recording_refused, refl, step_for, stepped_from}
use Rattle.delkuthi.proofs.Names.{subst, suc, sym, unclosed_more, version_refused, version_taken, zero, ℕ}
use Rattle.delkuthi.proofs.{Hosts.host_more, WordsRead.call_steps}
use Rattle.delkuthi.proofs.Taking.{took_judged, took_made, took_more}

-- how far a recording was taken

-- the version is known; the calls of the records before a place, which is not that of the version byte, were all taken, on memory in which a fresh
-- monitor lay; and what is read from there on is the whole
pub record TakenUpTo (rows : List Constraint) (bytes : List ℕ) (start : Memory) (place : ℕ) (words : Memory) : Type 0 where
  pub version : VersionKnown bytes
  pub steps : List Step
  pub calls : List Call
  pub all_taken_lem : TakesAll rows calls steps
  pub host : Host start (map asks calls) (none_refused calls) words
  pub holds : HoldsMonitor words (after rows (map asks calls))
  pub behind_version : 0 < place
  pub steps_before : StepsBefore rows bytes place steps
  pub not_closed : closed steps ≡ false
  pub whole : (read : RecordingRead) → ReadsRecords rows bytes steps place read → ReadsRecords rows bytes [] 1 read

-- a call that is taken answers 0
taken_number : (number : ℕ) → answer_from number ≡ Taken → number ≡ 0
taken_number zero e = refl
taken_number (suc n) e = never (cc)

-- Record by record

module _ (rows : List Constraint) (bytes : List ℕ) where
  -- each record has ten bytes at least, all of them among these
  records_few : {place : ℕ} {steps : List Step} → StepsBefore rows bytes place steps
      → (10 * length steps ≤ place) × (10 * length steps ≤ length bytes)
  unfolding record_questions
  records_few at_version = (omega arith, omega arith)
  records_few at_first = (omega arith, omega arith)
  records_few (behind {place} {steps} there before judged) =
      let whole = (judged_all 14 (RecordAt bytes place) _ judged).0 in
      let one_more = length-append steps (step_for (call_at bytes place) ∷ []) in
      let fewer = records_few before in
      (omega (arith, fewer.0, whole.1, one_more), omega (arith, fewer.0, whole.0.1, whole.1, one_more))

  -- §8.24: so neither a record nor the close meets 24
  pub count_left : length bytes ≤ last_count → {place : ℕ} {steps : List Step} → StepsBefore rows bytes place steps → length steps < last_count
  count_left fits before = omega (arith, (records_few before).1)

  module _ (accepted : Accepted rows) (start : Memory) where
    pub up_to_start : VersionKnown bytes → HoldsMonitor start (after rows []) → TakenUpTo rows bytes start 1 start
    unfolding closed
    up_to_start one holds =
        record {
          version = one;
          steps = [];
          calls = [];
          all_taken_lem = (false, done);
          host = over;
          holds = holds;
          behind_version = omega arith;
          steps_before = at_first;
          not_closed = refl;
          whole = λ read reads. reads;
        }

    -- question 13 is answered "no"
    pub version_unknown : ¬ VersionKnown bytes → RecordingLeaves rows bytes (ReadAnswer.Refused 13 0) start start
    version_unknown refused = record { calls = []; taken = ([], version_refused refused, at_version, (false, done)); host = over }

    module _ (words : Memory) (place : ℕ) (before : TakenUpTo rows bytes start place words) where
      module _ (there : place < length bytes) where
        -- question 14 is answered "no"
        pub up_to_none : ¬ RecordAt bytes place → RecordingLeaves rows bytes (ReadAnswer.Refused 14 place) start words
        up_to_none not_there =
            record {
              calls = before.calls;
              taken = (
                before.steps,
                version_taken before.version (before.whole (recording_refused 14 place)
                    (record_refused 14 there (record-not-there rows before.steps bytes place not_there))),
                before.steps_before,
                before.all_taken_lem,
              );
              host = before.host;
            }

        module _ (s : Call) (next : ℕ) (read : CallAt bytes place s next) where
          -- the answer to a record that stands for a call, which is made
          judged : (result : Stepped) → Steps (after rows (map asks before.calls)) (asks s) result
              → Judged (record_questions rows before.steps bytes place) result.answer
          judged result kept =
              record_judged rows before.steps bytes place s next result.answer read
              (took_judged rows before.steps before.calls accepted before.all_taken_lem s result kept)

          -- the record is taken
          pub up_to_more : (number : ℕ) (end : Memory) → number ≡ 0 → Takes words (asks s) number end → TakenUpTo rows bytes start next end
          up_to_more (suc n) end is takes = never (omega (arith, is))
          up_to_more zero end is takes =
              let stepped = call_steps (after rows (map asks before.calls)) before.holds takes in
              let result = stepped_from 0 stepped.0 in
              let taken : Judged (record_questions rows before.steps bytes place) Taken = judged result stepped.1 in
              let more = took_more rows before.steps before.calls accepted before.all_taken_lem s result stepped.1 refl in
              let made = took_made rows before.steps before.calls accepted before.all_taken_lem s result stepped.1 in
              record {
                version = before.version;
                steps = before.steps ++ (step_for (call_at bytes place) ∷ []);
                calls = before.calls ++ (s ∷ []);
                all_taken_lem = rw read.call_read more;
                host = host_more before.calls s before.host takes;
                holds = subst (HoldsMonitor end) made stepped.2;
                behind_version = omega (arith, read.next_read);
                steps_before =
                    subst (λ (after : ℕ). StepsBefore rows bytes after (before.steps ++ (step_for (call_at bytes place) ∷ []))) (sym read.next_read)
                    (behind before.behind_version before.steps_before taken);
                not_closed = unclosed_more (at bytes 0) (body_at bytes place) before.steps before.not_closed;
                whole = λ answer reads.
                    before.whole answer
                    (record_taken there taken
                    (subst (λ (after : ℕ). ReadsRecords rows bytes (before.steps ++ (step_for (call_at bytes place) ∷ [])) after answer)
                    read.next_read reads));
              }

          -- it is refused, and the memory is as it was
          pub up_to_refused : (number : ℕ) (end : Memory) → 0 < number → Takes words (asks s) number end
              → RecordingLeaves rows bytes (ReadAnswer.Refused number place) start end
          up_to_refused zero end above takes = never (omega (arith, above))
          up_to_refused (suc n) end above takes =
              let stepped = call_steps (after rows (map asks before.calls)) before.holds takes in
              record {
                calls = before.calls;
                taken = (
                  before.steps,
                  version_taken before.version (before.whole (recording_refused (suc n) place)
                      (record_refused (suc n) there (judged (stepped_from (suc n) stepped.0) stepped.1))),
                  before.steps_before,
                  before.all_taken_lem,
                );
                host = subst (Host start (map asks before.calls) (none_refused before.calls))
                    (sym (takes.untouched (λ zero. omega (arith, zero)))) before.host;
              }

      -- behind the last record the close is taken: the count has room, as each record has ten bytes at least
      pub up_to_end : (number : ℕ) (end : Memory) → length bytes ≤ last_count → length bytes ≤ place → Takes words (asks Call.Close) number end
          → RecordingLeaves rows bytes ReadAnswer.Accepted start end
      unfolding questions Judged
      up_to_end number end fits last takes =
          let m = after rows (map asks before.calls) in
          let stepped = call_steps m before.holds takes in
          let result = stepped_from number stepped.0 in
          let asked = took_judged rows before.steps before.calls accepted before.all_taken_lem Call.Close result stepped.1 in
          let room = count_left fits before.steps_before in
          let taken = judged_once (questions rows before.steps Call.Close) result.answer Taken asked
          (judged_yes 8 _ ((24, length before.steps < last_count) ∷ []) Taken before.not_closed (judged_yes 24 _ [] Taken room refl)) in
          record {
            calls = before.calls ++ (Call.Close ∷ []);
            taken = (
              before.steps,
              version_taken before.version (before.whole (recording_of before.steps) (no_more last)),
              took_more rows before.steps before.calls accepted before.all_taken_lem Call.Close result stepped.1 taken,
            );
            host = host_more before.calls Call.Close before.host
                (subst (λ (n : ℕ). Takes words (asks Call.Close) n end) (taken_number number taken) takes);
          }
