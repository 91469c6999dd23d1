-- §16.6: of a table of the first edition the call for both editions promises just what the one for the first does, since they read it alike.
use Rattle.constraint.proofs.{Editions.reads_same, Library.List, Library.◌↔◌, Library.◌≡◌, Library.◌≤◌, Library.arith, Library.ℕ}
use Rattle.constraint.specs.Stretches.{AnswersStretchUpTo, answers, no_recording, no_table}
use Rattle.constraint.specs.{Steps.at, Stretches.StretchAnswer}
use Rattle.stretch_ffi.specs.Stretches.{NumbersStretch, NumbersStretchUpTo}

module _ (one other : ℕ) (table : List ℕ) (known : at table 0 ≤ one) (known' : at table 0 ≤ other) where
  answers_same : {recording : List ℕ} {i : ℕ} {answer : StretchAnswer} → AnswersStretchUpTo one table recording i answer
      → AnswersStretchUpTo other table recording i answer
  answers_same (no_table n place read) = no_table n place (reads_same one other table known known' read)
  answers_same (no_recording rows n place read records) = no_recording rows n place (reads_same one other table known known' read) records
  answers_same (answers rows steps read records answer) = answers rows steps (reads_same one other table known known' read) records answer

  numbers_same : {recording : List ℕ} {i number : ℕ} → NumbersStretchUpTo one table recording i number
      → NumbersStretchUpTo other table recording i number
  numbers_same numbers =
      record {
        answer = numbers.answer;
        answers = answers_same numbers.answers;
        equals = numbers.equals;
        small = numbers.small;
        parts = numbers.parts;
      }

-- §16.6
pub stretch_as_before : (table : List ℕ) → at table 0 ≡ 1 → (recording : List ℕ) (i number : ℕ)
    → NumbersStretchUpTo 2 table recording i number ↔ NumbersStretch table recording i number
stretch_as_before table first recording i number =
    let to_1 : at table 0 ≤ 1 = omega (arith, first) in
    let to_2 : at table 0 ≤ 2 = omega (arith, first) in
    (numbers_same 2 1 table to_2 to_1, numbers_same 1 2 table to_1 to_2)
