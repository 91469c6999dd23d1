-- The answer is put together in the order of the questions: the first recording's, the second's, 20 and 16.
use Rattle.std.specs.Prelude.{Option, Some, None, Ok}
use Rattle.std.specs.Option.{ok_or}
use Rattle.constraint.specs.LongAnswers.{joined_of}
use Rattle.constraint.specs.declared.JoinRefusal.TheVariants.{TooShort}
use Rattle.join.proofs.Names.{recording_refused}
use Rattle.join.proofs.Names.{AnswersJoin, Found, JoinAnswer, List, NoneInCommon, Passed, Passes, ReadsInOrder, Records, Step, Walks}
use Rattle.join.proofs.Names.{◌<◌, ◌∙◌, ◌≡◌, arith, both, false, in_common, joined_bytes, kinds_of, length, no_first, no_second, recording_of}
use Rattle.join.proofs.Names.{replicate, stores_front, subst, sym, too_short, true, written, ℕ}
use Rattle.join.proofs.Names.{Bool, Decides, OutgrowsIn}
use Rattle.join.proofs.Records.{whole}

module _ (one two before : List ℕ) where
  pub answer_first : (n place : ℕ) → ReadsInOrder one (recording_refused n place)
      → AnswersJoin one two before (JoinAnswer.FirstRefused n place) before
  answer_first n place refused = no_first n place refused

  module _ (p : Passed) (first_passes : Passes one (replicate 64 false) (Ok p)) where
    first : List Step
    first = first_passes.0

    first_read : ReadsInOrder one (recording_of first)
    unfolding first
    first_read = first_passes.1

    pub answer_second : (n place : ℕ) → ReadsInOrder two (recording_refused n place)
        → AnswersJoin one two before (JoinAnswer.SecondRefused n place) before
    answer_second n place refused = no_second first n place first_read refused

    module _ (q : Passed) (second_passes : Passes two p.kinds (Ok q)) where
      second : List Step
      second = second_passes.0

      second_read : ReadsInOrder two (recording_of second)
      unfolding second
      second_read = second_passes.1

      found : Found (kinds_of first) two second q.common
      unfolding first second
      found = second_passes.3 (kinds_of first) first_passes.2

      pub answer_common : (place : ℕ) → q.common ≡ Some place → AnswersJoin one two before (JoinAnswer.SecondRefused 20 place) before
      unfolding NoneInCommon
      answer_common place is =
          let hit = subst (Found (kinds_of first) two second) is found in
          in_common first second place first_read second_read (λ apart. both (sym hit.1.2 ∙ apart hit.1.0 hit.1.1)) hit.0

      module _ (free : q.common ≡ None) where
        apart : NoneInCommon first second
        unfolding NoneInCommon
        apart = subst (Found (kinds_of first) two second) free found

        first_records : Records one 1 first
        first_records = (whole one first first_read).records

        second_records : Records two 1 second
        second_records = (whole two second second_read).records

        module _ (long : Bool) (measured : OutgrowsIn one two (length before) long) where
          is_long : Decides (length before < length (joined_bytes one two first second)) long
          is_long = measured first second first_records second_records

          pub answer_short : long ≡ true → AnswersJoin one two before JoinAnswer.TooShort before
          answer_short e = too_short first second first_read second_read apart
              (subst (Decides (length before < length (joined_bytes one two first second))) e is_long)

          pub answer_written : long ≡ false → (r : Option ℕ) (end : List ℕ) → Walks one two before (length before) r end
              → AnswersJoin one two before (joined_of (ok_or r TooShort)) end
          answer_written e (Some size) end walks =
              let (size_is, room, stored) = walks first second first_records second_records in
              subst (λ (n : ℕ). AnswersJoin one two before (JoinAnswer.Joined n) end) (sym size_is)
              (subst (AnswersJoin one two before (JoinAnswer.Joined (length (joined_bytes one two first second))))
              (sym (stored (omega arith) ∙ stores_front before (joined_bytes one two first second) (omega (arith, size_is, room))))
              (written first second first_read second_read apart (omega (arith, size_is, room))))
          answer_written e None end walks =
              absurd (subst (Decides (length before < length (joined_bytes one two first second))) e is_long
              (walks first second first_records second_records))
