-- The answer is put together in the order of the questions: the table's, the recording's, the row's and that of the range.
use Rattle.std.specs.Prelude.{Option, Ok, Err}
use Rattle.constraint.specs.Answers.{refusal_number}
use Rattle.constraint.specs.declared.Refusal.{Refusal}
use Rattle.table_row.specs.declared.TableRow.{TableRow}
use Rattle.stamps.proofs.Names.{AnswersStampsUpTo, LateRow, Constraint, Finds, InRange, KindsSuit, List, PassesStamps, ReadsTableUpTo}
use Rattle.stamps.proofs.Names.{ReadsInOrder, ReadsStamps, StampedVerdict, clock, recording_refused, subst, times}
use Rattle.stamps.proofs.Names.{Refused, Repeat, RepeatRow, RowOf, Sound, StampedAnswer, [], ◌<◌, ◌∷◌, ◌≡◌, ◌≤◌}
use Rattle.stamps.proofs.Names.{accepted_sound, arith, first_coloured, get_elem?, judged_no, judged_yes, last_time, length, never, no_recording}
use Rattle.stamps.proofs.Names.{not_asked, read_accepted, reads, some, sound_at, suc, table_of, zero, ℕ}

-- a row that is there has a number below theirs
pub within : (rows : List Constraint) (i : ℕ) (c : Constraint) → get_elem? rows i ≡ some c → i < length rows
within [] i c e = never (cc)
within (d ∷ rows) zero c e = omega arith
within (d ∷ rows) (suc i) c e = omega (arith, within rows i c e)

lower_small : (k lower upper : ℕ) → Sound (Repeat k 1 lower upper) → lower ≤ last_time
unfolding InRange
lower_small k lower upper sound = sound.in_range.1.1.0

event_plain : (k lower upper : ℕ) → Sound (Repeat k 1 lower upper) → k < first_coloured
unfolding KindsSuit
event_plain k lower upper sound = sound.kinds_suit.0

module _ {newest : ℕ} (bytes recording : List ℕ) (i late : ℕ) (rows : List Constraint) (read : ReadsTableUpTo newest bytes (table_of rows))
    (row : Option TableRow) (is : RowOf rows i row) where
  pub answer_recording : (n place : ℕ) → ReadsInOrder recording (recording_refused n place)
      → AnswersStampsUpTo newest bytes recording i late (StampedAnswer.Refused n place)
  answer_recording n place refused = no_recording rows n place read refused

  module _ (a : LateRow) (verdict : StampedVerdict) (passes : PassesStamps recording a (Ok verdict)) where
    pub answer_row : (refusal : Refusal) → Finds row late (Err refusal)
        → AnswersStampsUpTo newest bytes recording i late (StampedAnswer.Refused (refusal_number refusal) 0)
    answer_row refusal finds = not_asked rows passes.0 (refusal_number refusal) read passes.1 (finds rows i is late)

    module _ (finds : Finds row late (Ok a)) where
      asked : RepeatRow rows i a.event a.lower a.upper
      asked = finds.1 rows i is

      pub answer_range : last_time < late → AnswersStampsUpTo newest bytes recording i late (StampedAnswer.Refused 10 0)
      answer_range h =
          not_asked rows passes.0 10 read passes.1
          (judged_yes 15 _ _ (Refused 10) (within rows i _ asked)
          (judged_yes 25 _ _ (Refused 10) (a.event, (a.lower, (a.upper, asked)))
          (judged_no 10 _ _ (λ small. omega (arith, small, h)))))

      pub answer_reads : late ≤ last_time → AnswersStampsUpTo newest bytes recording i late (StampedAnswer.Reads verdict)
      answer_reads h =
          let sound = sound_at rows (accepted_sound rows (_, read_accepted bytes rows read)) i _ asked in
          reads rows passes.0 a.event a.lower a.upper verdict read passes.1 asked h
          (subst (λ (e : ℕ). ReadsStamps e a.lower a.upper (times a.event passes.0) (clock passes.0) verdict) finds.0
          (passes.2 (event_plain a.event a.lower a.upper sound) (lower_small a.event a.lower a.upper sound)))
