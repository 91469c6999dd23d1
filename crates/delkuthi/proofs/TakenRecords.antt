-- Records are taken one after the other: what is taken from a place on, after the records before it, is what is taken from the first record on.
use Rattle.delkuthi.proofs.Names.{Accepted, Call, CallAt, Constraint, HoldsMonitor, List, Memory, ReadAnswer, RecordAt, RecordingLeaves, Takes}
use Rattle.delkuthi.proofs.Names.{VersionKnown, [], ◌+◌, ◌<◌, ◌≡◌, ◌≤◌, after, arith, asks, call_at, last_count, length, refl, subst}
use Rattle.delkuthi.proofs.Names.{sym, ℕ}
use Rattle.delkuthi.proofs.Progress.{TakenUpTo, up_to_end, up_to_more, up_to_none, up_to_refused, up_to_start, version_unknown}
use Rattle.constraint.specs.Table.{length_at}
use Rattle.std.specs.Prelude.{Ok, Err}
use Rattle.constraint.proofs.Refusals.{numbered}
use Rattle.constraint.specs.Answers.{refusal_number}
use Rattle.constraint.specs.declared.Refusal.{Refusal}
use Rattle.constraint.specs.declared.Refusal.TheVariants.{Record}
use Rattle.delkuthi.specs.TakingRecords.{TakesBytes, TakesFrom, TakesNext, all_taken_lem, no_version, not_whole, step_refused, step_taken, versioned}

-- ---- how far the records were taken

pub record TakenTo (bytes : List ℕ) (start : Memory) (place : ℕ) (words : Memory) : Type 0 where
  pub version : VersionKnown bytes
  pub whole : (answer : ReadAnswer) (end : Memory) → TakesFrom bytes words place answer end → TakesFrom bytes start 1 answer end

module _ (bytes : List ℕ) (start : Memory) where
  pub to_start : VersionKnown bytes → TakenTo bytes start 1 start
  to_start version = record { version = version; whole = λ answer end takes. takes }

  module _ (words : Memory) (place : ℕ) (before : TakenTo bytes start place words) where
    pub to_end : length bytes ≤ place → TakesBytes bytes start ReadAnswer.Accepted words
    to_end last = versioned before.version (before.whole ReadAnswer.Accepted words (all_taken_lem last))

    module _ (there : place < length bytes) where
      pub to_more : (next : ℕ) (end : Memory) → TakesNext bytes place words (Ok next) end → TakenTo bytes start next end
      to_more next end (whole, next_is, takes) =
          record {
            version = before.version;
            whole = λ answer last rest.
                before.whole answer last (step_taken there whole takes
                (subst (λ (p : ℕ). TakesFrom bytes end p answer last) next_is rest));
          }

      pub to_refused : (refusal : Refusal) (end : Memory) → TakesNext bytes place words (Err refusal) end
          → TakesBytes bytes start (ReadAnswer.Refused (refusal_number refusal) place) end
      to_refused refusal end (same, from) =
          subst (λ (last : Memory). TakesBytes bytes start (ReadAnswer.Refused (refusal_number refusal) place) last) (sym same)
          (versioned before.version (before.whole (ReadAnswer.Refused (refusal_number refusal) place) words (from there)))

-- ---- one record

module _ (bytes : List ℕ) (words : Memory) (place : ℕ) where
  pub next_none : {refusal : Refusal} → (¬ RecordAt bytes place) × (refusal ≡ Record) → TakesNext bytes place words (Err refusal) words
  next_none {refusal} (none, is) =
      subst (λ (r : Refusal). TakesNext bytes place words (Err r) words) (sym is) (refl, λ there. not_whole there none)

  module _ (s : Call) (next : ℕ) (read : CallAt bytes place s next) where
    of_record : {number : ℕ} {end : Memory} → Takes words (asks s) number end → Takes words (asks (call_at bytes place)) number end
    of_record {number} {end} takes = subst (λ (call : Call). Takes words (asks call) number end) (sym read.call_read) takes

    pub next_taken : (end : Memory) → Takes words (asks s) 0 end → TakesNext bytes place words (Ok next) end
    next_taken end takes = (read.there, read.next_read, of_record takes)

    pub next_refused : (refusal : Refusal) (end : Memory) → Takes words (asks s) (refusal_number refusal) end
        → TakesNext bytes place words (Err refusal) end
    next_refused refusal end takes =
        let small = numbered refusal in
        let same : end ≡ words = takes.untouched (λ is. omega (arith, is, small.0)) in
        let stays : Takes words (asks (call_at bytes place)) (refusal_number refusal) words =
        subst (λ (last : Memory). Takes words (asks (call_at bytes place)) (refusal_number refusal) last) same (of_record takes) in
        (same, λ there. step_refused (refusal_number refusal) there read.there small.0 (omega (arith, small.1)) stays)

-- ---- the number of a refusal

from_small : {bytes : List ℕ} {h end : Memory} {from n place : ℕ} → TakesFrom bytes h from (ReadAnswer.Refused n place) end → (0 < n) × (n < 256)
from_small (not_whole there none) = (omega arith, omega arith)
from_small (step_refused number there whole above below takes) = (above, below)
from_small (step_taken there whole takes rest) = from_small rest

bytes_small : {bytes : List ℕ} {h end : Memory} (n place : ℕ) → TakesBytes bytes h (ReadAnswer.Refused n place) end → (0 < n) × (n < 256)
bytes_small n place (no_version unknown) = (omega arith, omega arith)
bytes_small n place (versioned version from) = from_small from

pub taken_small : {bytes : List ℕ} {h end : Memory} {answer : ReadAnswer} → TakesBytes bytes h answer end → (n place : ℕ)
    → answer ≡ ReadAnswer.Refused n place → (0 < n) × (n < 256)
taken_small {bytes} {h} {end} takes n place e = bytes_small n place (subst (λ (a : ReadAnswer). TakesBytes bytes h a end) e takes)

-- ---- on a fresh monitor

module _ (rows : List Constraint) (bytes : List ℕ) (accepted : Accepted rows) (start : Memory) where
  abbrev Outcome : ReadAnswer → Memory → Type 0
  Outcome ReadAnswer.Accepted end = (place : ℕ) × (length bytes ≤ place) × TakenUpTo rows bytes start place end
  Outcome (ReadAnswer.Refused n place) end = RecordingLeaves rows bytes (ReadAnswer.Refused n place) start end

  through : {words end : Memory} {place : ℕ} {answer : ReadAnswer} → TakenUpTo rows bytes start place words → TakesFrom bytes words place answer end
      → Outcome answer end
  through {place = place} before (all_taken_lem last) = (place, last, before)
  through {words} {place = place} before (not_whole there none) = up_to_none rows bytes accepted start words place before there none
  through {words} {place = place} before (step_refused number there whole above below takes) =
      up_to_refused rows bytes accepted start words place before there (call_at bytes place) (place + 2 + length_at bytes place)
      (record { there = whole; call_read = refl; next_read = refl }) number words above takes
  through {words} {place = place} before (step_taken {mid = mid} there whole takes rest) =
      through (up_to_more rows bytes accepted start words place before there (call_at bytes place) (place + 2 + length_at bytes place)
      (record { there = whole; call_read = refl; next_read = refl }) 0 mid refl takes) rest

  pub recording_cut : {end : Memory} (n place : ℕ) → HoldsMonitor start (after rows []) → TakesBytes bytes start (ReadAnswer.Refused n place) end
      → RecordingLeaves rows bytes (ReadAnswer.Refused n place) start end
  recording_cut n place holds (no_version unknown) = version_unknown rows bytes accepted start unknown
  recording_cut n place holds (versioned version from) = through (up_to_start rows bytes accepted start version holds) from

  pub recording_whole : {mid end : Memory} (number : ℕ) → HoldsMonitor start (after rows []) → length bytes ≤ last_count
      → TakesBytes bytes start ReadAnswer.Accepted mid → Takes mid (asks Call.Close) number end
      → RecordingLeaves rows bytes ReadAnswer.Accepted start end
  recording_whole {mid} {end} number holds fits (versioned version from) takes =
      let (place, last, before) = through (up_to_start rows bytes accepted start version holds) from in
      up_to_end rows bytes accepted start mid place before number end fits last takes
