-- What the writer of recordings promises (§7.26): one more record behind those that a buffer has, which reads back as its call.
use Rattle.std.specs.Prelude.{ℕ, ◌+◌, ◌≤◌, ◌<◌, ◌≡◌, cond, List, [], ◌∷◌, ◌++◌, ◌⊎◌, length, take, eqb, Result, Ok, Err}
use Rattle.std.proofs.lemmas.List.Edits.{sets}
use Rattle.constraint.specs.Limits.{last_kind, first_coloured, last_colour, last_time}
use Rattle.constraint.specs.Steps.{at}
use Rattle.constraint.specs.Questions.{Question, Judged}
use Rattle.constraint.specs.Answer.{Taken, Refused}
use Rattle.constraint.specs.Answers.{refusal_number}
use Rattle.constraint.specs.declared.Call.{Call}
use Rattle.constraint.specs.declared.Refusal.{Refusal}
use Rattle.recording.specs.Record.{CallAt}
use Rattle.join.specs.Walk.{call_bytes}
use Rattle.delkuthi.specs.Stamps.{place_number}

-- §7.26: a recording of no bytes begins with version 2, and its first record stands behind the version byte
abbrev pub version_for : List ℕ → ℕ → ℕ
version_for buffer size = cond (eqb size 0) 2 (at buffer 0)

abbrev pub place_for : ℕ → ℕ
place_for size = cond (eqb size 0) 1 size

-- §8.9, §8.10, §8.19: the questions of the record alone; a close has no record (§8.14)
abbrev pub form_questions : ℕ → Call → List Question
form_questions version (Call.Event k t) = (9, k ≤ last_kind) ∷ (19, k < first_coloured) ∷ (10, t ≤ last_time) ∷ []
form_questions version (Call.ColouredEvent k c t) =
    (9, k ≤ last_kind) ∷ (19, (first_coloured ≤ k) × (c ≤ last_colour) × (¬ (version ≡ 1))) ∷ (10, t ≤ last_time) ∷ []
form_questions version (Call.Tick t) = (10, t ≤ last_time) ∷ []
form_questions version Call.Close = (14, ⊥) ∷ []

-- §7.26: is the version known, do the record's questions say yes, and is there room?
abbrev pub write_questions : List ℕ → ℕ → Call → List Question
write_questions buffer size call =
    (13, (version_for buffer size ≡ 1) ⊎ (version_for buffer size ≡ 2))
    ∷ form_questions (version_for buffer size) call ++ (16, place_for size + length (call_bytes call) ≤ length buffer) ∷ []

-- §7.26: the buffer with the record; `sets` stores bytes from a place on, and no other byte changes
abbrev pub begun : List ℕ → ℕ → List ℕ
begun buffer size = cond (eqb size 0) (sets buffer 0 (2 ∷ [])) buffer

abbrev pub with_record : List ℕ → ℕ → Call → List ℕ
with_record buffer size call = sets (begun buffer size) (place_for size) (call_bytes call)

-- §7.26: what is answered, and the buffer then; the bytes up to the end of the record read there as the call
pub data PutsRecord (buffer : List ℕ) (size : ℕ) (call : Call) : ℕ → List ℕ → Type 0 where
  refused : (n : ℕ) → Judged (write_questions buffer size call) (Refused n) → 0 < n → n < 128 → PutsRecord buffer size call n buffer
  written : (next : ℕ) → Judged (write_questions buffer size call) Taken
      → CallAt (take next (with_record buffer size call)) (place_for size) call next
      → PutsRecord buffer size call (place_number next) (with_record buffer size call)

-- §7.26: the number that a result is: that of the size then, or of the refusal
abbrev pub put_number : Result ℕ Refusal → ℕ
put_number (Ok next) = place_number next
put_number (Err refusal) = refusal_number refusal
