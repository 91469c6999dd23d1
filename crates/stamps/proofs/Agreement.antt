-- With stamps that are never late there is one choice, the stamps themselves; so the word is what the monitor reads at the close, where that takes
-- every record.
use Rattle.stamps.proofs.Names.{AnswersStampsUpTo, Call, Constraint, Judged, List, Meets, MeetsRepeat, Reads, ReadsInOrder, ReadsRecording}
use Rattle.stamps.proofs.Names.{ReadsRecords, ReadsStamps, ReadsTableUpTo, RecordingRead, Refused, Repeat, RepeatRow, Room, StampedAnswer}
use Rattle.stamps.proofs.Names.{StampedVerdict, Step, Taken, TrueTimes, Valid, Verdict, [], ◌++◌, ◌+◌, ◌∙◌, ◌∷◌, ◌≡◌, accepts_taken, ap, arith}
use Rattle.stamps.proofs.Names.{both, both_occur, call_at, clock, clock_close, close, closed_close, each_meets, event, event_questions, ext_get_or}
use Rattle.stamps.proofs.Names.{judged_all, judged_none, judged_once, judged_yes, kept_exactly, never, no_more, no_recording, no_table}
use Rattle.stamps.proofs.Names.{none_meets, not_asked, past_of, questions, reads, reads_once, reads_open, record_refused, record_taken}
use Rattle.stamps.proofs.Names.{record_questions, recording_of, refl, rising_at, stamps_questions, stream, subst, sym, table_of, tick, times}
use Rattle.stamps.proofs.Names.{times_close, valid_more, valid_none, version_refused, version_taken, ℕ}
use Rattle.stamps.proofs.{Answers.within, Progress.record_accepts}

-- ---- one word

-- §12.3: exactly one of the three fits: the stamps are themselves a choice
pub word_once : (e lower upper : ℕ) (stamps : List ℕ) (now : ℕ) → TrueTimes e stamps stamps → (v w : StampedVerdict)
    → ReadsStamps e lower upper stamps now v → ReadsStamps e lower upper stamps now w → v ≡ w
word_once e lower upper stamps now own v w (each_meets all) (each_meets all') = refl
word_once e lower upper stamps now own v w (each_meets all) (none_meets none) = absurd (none stamps own (all stamps own))
word_once e lower upper stamps now own v w (each_meets all) (both_occur one other c m d f) = absurd (f (all other d))
word_once e lower upper stamps now own v w (none_meets none) (each_meets all) = absurd (none stamps own (all stamps own))
word_once e lower upper stamps now own v w (none_meets none) (none_meets none') = refl
word_once e lower upper stamps now own v w (none_meets none) (both_occur one other c m d f) = absurd (none one c m)
word_once e lower upper stamps now own v w (both_occur one other c m d f) (each_meets all) = absurd (f (all other d))
word_once e lower upper stamps now own v w (both_occur one other c m d f) (none_meets none) = absurd (none one c m)
word_once e lower upper stamps now own v w (both_occur one other c m d f) (both_occur one' other' c' m' d' f') = refl

-- §12.1: the stamps of valid steps are a choice
pub stamps_choice : (e k : ℕ) (steps : List Step) → Valid steps → TrueTimes e (times k steps) (times k steps)
stamps_choice e k steps valid =
    record {
      one_each = refl;
      near = λ i h. (omega arith, omega arith);
      rise = λ i h. rising_at (times k steps) ((past_of valid).rising k) i (i + 1) (omega arith) h;
    }

-- ---- a recording's reading

-- with no row there is room
room_none : (steps : List Step) → Room [] steps
unfolding Room
room_none steps i c there left = never (cc)

-- an event, or a call, that is taken over some rows is taken over none
event_taken : (rows : List Constraint) (steps : List Step) (s t : ℕ) → Judged (event_questions rows steps s t) Taken
    → Judged (event_questions [] steps s t) Taken
event_taken rows steps s t judged =
    let ten = judged_all 10 _ _ judged in
    let eleven = judged_all 11 _ _ ten.1 in
    judged_yes 10 _ _ Taken ten.0 (judged_yes 11 _ _ Taken eleven.0
    (judged_yes 12 _ _ Taken (room_none (steps ++ (event s t ∷ []))) judged_none))

none_taken : (rows : List Constraint) (steps : List Step) (s : Call) → Judged (questions rows steps s) Taken → Judged (questions [] steps s) Taken
unfolding questions
none_taken rows steps (Call.Event k t) judged =
    let eight = judged_all 8 _ _ judged in
    let full = judged_all 24 _ _ eight.1 in
    let nine = judged_all 9 _ _ full.1 in
    let tag = judged_all 19 _ _ nine.1 in
    judged_yes 8 _ _ Taken eight.0 (judged_yes 24 _ _ Taken full.0 (judged_yes 9 _ _ Taken nine.0
    (judged_yes 19 _ _ Taken tag.0 (event_taken rows steps k t tag.1))))
none_taken rows steps (Call.ColouredEvent k c t) judged =
    let eight = judged_all 8 _ _ judged in
    let full = judged_all 24 _ _ eight.1 in
    let nine = judged_all 9 _ _ full.1 in
    let tag = judged_all 19 _ _ nine.1 in
    judged_yes 8 _ _ Taken eight.0 (judged_yes 24 _ _ Taken full.0 (judged_yes 9 _ _ Taken nine.0
    (judged_yes 19 _ _ Taken tag.0 (event_taken rows steps (stream k c) t tag.1))))
none_taken rows steps (Call.Tick t) judged =
    let eight = judged_all 8 _ _ judged in
    let full = judged_all 24 _ _ eight.1 in
    let ten = judged_all 10 _ _ full.1 in
    let eleven = judged_all 11 _ _ ten.1 in
    judged_yes 8 _ _ Taken eight.0 (judged_yes 24 _ _ Taken full.0 (judged_yes 10 _ _ Taken ten.0 (judged_yes 11 _ _ Taken eleven.0
    (judged_yes 12 _ _ Taken (room_none (steps ++ (tick t ∷ []))) judged_none))))
none_taken rows steps Call.Close judged = judged

module _ (bytes : List ℕ) where
  record_none : (rows : List Constraint) (steps : List Step) (place : ℕ) → Judged (record_questions rows steps bytes place) Taken
      → Judged (record_questions [] steps bytes place) Taken
  unfolding record_questions
  record_none rows steps place judged =
      let both = record_accepts bytes rows steps place judged in
      judged_yes 14 _ _ Taken both.0 (none_taken rows steps (call_at bytes place) both.1)

  records_none : (rows : List Constraint) {before : List Step} {place : ℕ} {steps : List Step}
      → ReadsRecords rows bytes before place (recording_of steps)
      → ReadsRecords [] bytes before place (recording_of steps)
  records_none rows (no_more end) = no_more end
  records_none rows (record_taken {before} {place} there judged later) =
      record_taken there (record_none rows before place judged) (records_none rows later)

  records_valid : (rows : List Constraint) {before : List Step} {place : ℕ} {steps : List Step}
      → ReadsRecords rows bytes before place (recording_of steps)
      → Valid before → Valid steps
  records_valid rows (no_more end) valid = valid
  records_valid rows (record_taken {before} {place} there judged later) valid =
      records_valid rows later (valid_more _ valid (accepts_taken rows before (call_at bytes place)
      (record_accepts bytes rows before place judged).1))

  records_once : {before : List Step} {place : ℕ} {x y : RecordingRead} → ReadsRecords [] bytes before place x → ReadsRecords [] bytes before place y
      → x ≡ y
  records_once (no_more h) (no_more k) = refl
  records_once (no_more h) (record_refused n k q) = absurd (omega arith)
  records_once (no_more h) (record_taken k q later) = absurd (omega arith)
  records_once (record_refused n h p) (no_more k) = absurd (omega arith)
  records_once (record_refused {before} {place} n h p) (record_refused m k q) =
      let same = judged_once (record_questions [] before bytes place) (Refused n) (Refused m) p q in cc
  records_once (record_refused {before} {place} n h p) (record_taken k q later) =
      let same = judged_once (record_questions [] before bytes place) (Refused n) Taken p q in never (cc)
  records_once (record_taken h p earlier) (no_more k) = absurd (omega arith)
  records_once (record_taken {before} {place} h p earlier) (record_refused m k q) =
      let same = judged_once (record_questions [] before bytes place) Taken (Refused m) p q in never (cc)
  records_once (record_taken h p earlier) (record_taken k q later) = records_once earlier later

  -- a recording has one reading without 12
  pub order_once : {x y : RecordingRead} → ReadsInOrder bytes x → ReadsInOrder bytes y → x ≡ y
  order_once (version_refused h) (version_refused k) = refl
  order_once (version_refused h) (version_taken k rows) = absurd (h k)
  order_once (version_taken h rows) (version_refused k) = absurd (k h)
  order_once (version_taken h earlier) (version_taken k later) = records_once earlier later

  -- and it is the one over any rows that take every record
  pub order_of : (rows : List Constraint) {steps : List Step} → ReadsRecording rows bytes (recording_of steps)
      → ReadsInOrder bytes (recording_of steps)
  order_of rows (version_taken one records) = version_taken one (records_none rows records)

  pub recording_valid : (rows : List Constraint) {steps : List Step} → ReadsRecording rows bytes (recording_of steps) → Valid steps
  recording_valid rows (version_taken one records) = records_valid rows records valid_none

-- ---- never late

only_choice : (stamps chosen : List ℕ) → TrueTimes 0 stamps chosen → chosen ≡ stamps
only_choice stamps chosen c = ext_get_or 0 chosen stamps c.one_each (λ i h. omega (arith, c.near i (omega (arith, h, c.one_each))))

-- the word for a verdict at the close
abbrev pub stamped_of : Verdict → StampedVerdict
stamped_of Verdict.Open = StampedVerdict.Unsure
stamped_of Verdict.Kept = StampedVerdict.Kept
stamped_of (Verdict.Broken n) = StampedVerdict.Broken

module _ (k lower upper : ℕ) (steps : List Step) (valid : Valid steps) where
  abbrev after : List Step
  after = steps ++ (close ∷ [])

  meets_is : Meets (Repeat k 1 lower upper) after ≡ MeetsRepeat 1 lower upper (times k steps) (clock steps)
  unfolding Meets
  meets_is = rw (times_close k steps, clock_close steps) refl

  same_choice : (chosen : List ℕ) → TrueTimes 0 (times k steps) chosen → (P : List ℕ → Type 0) → P chosen → P (times k steps)
  same_choice chosen c P = subst P (only_choice (times k steps) chosen c)

  own : TrueTimes 0 (times k steps) (times k steps)
  own = stamps_choice 0 k steps valid

  -- where the stamps meet the row, and where they do not
  met : MeetsRepeat 1 lower upper (times k steps) (clock steps) → (w : StampedVerdict) → ReadsStamps 0 lower upper (times k steps) (clock steps) w
      → w ≡ StampedVerdict.Kept
  met m w (each_meets all) = refl
  met m w (none_meets none) = absurd (none (times k steps) own m)
  met m w (both_occur one other c n d f) = absurd (f (subst (λ (l : List ℕ). MeetsRepeat 1 lower upper l (clock steps))
      (sym (only_choice (times k steps) other d)) m))

  unmet : ¬ MeetsRepeat 1 lower upper (times k steps) (clock steps) → (w : StampedVerdict)
      → ReadsStamps 0 lower upper (times k steps) (clock steps) w → w ≡ StampedVerdict.Broken
  unmet m w (each_meets all) = absurd (m (all (times k steps) own))
  unmet m w (none_meets none) = refl
  unmet m w (both_occur one other c n d f) = absurd (m (same_choice one c (λ l. MeetsRepeat 1 lower upper l (clock steps)) n))

  word_agrees : Valid after → (v : Verdict) → Reads (Repeat k 1 lower upper) after v → (w : StampedVerdict)
      → ReadsStamps 0 lower upper (times k steps) (clock steps) w → w ≡ stamped_of v
  word_agrees valid-closed Verdict.Open (reads_open e o) w r = both (sym (closed_close steps) ∙ e)
  word_agrees valid-closed Verdict.Kept reading w r =
      met (subst (λ (t : Type 0). t) meets_is ((kept_exactly (Repeat k 1 lower upper) after valid-closed
      (closed_close steps) Verdict.Kept reading).0 refl)) w r
  word_agrees valid-closed (Verdict.Broken n) reading w r =
      unmet (λ m. let kept = (kept_exactly (Repeat k 1 lower upper) after valid-closed (closed_close steps) (Verdict.Broken n) reading).1
      (subst (λ (t : Type 0). t) (sym meets_is) m) in never (cc)) w r

-- §12.4
-- the call with late = 0 over a table and a recording whose every record the monitor takes, and the close: its answer is the word for what the row
-- reads then
pub stamps_agree : {newest : ℕ} (table recording : List ℕ) (rows : List Constraint) (steps : List Step) (i k lower upper : ℕ) (v : Verdict)
    (answer : StampedAnswer)
    → ReadsTableUpTo newest table (table_of rows) → ReadsRecording rows recording (recording_of steps) → Valid (steps ++ (close ∷ []))
    → RepeatRow rows i k lower upper
    → Reads (Repeat k 1 lower upper) (steps ++ (close ∷ [])) v → AnswersStampsUpTo newest table recording i 0 answer
    → answer ≡ StampedAnswer.Reads (stamped_of v)
stamps_agree table recording rows steps i k lower upper v answer read taken closes row reading (no_table n place refused) =
    let same = reads_once table read refused in never (cc)
stamps_agree table recording rows steps i k lower upper v answer read taken closes row reading (no_recording rows' n place read' refused) =
    let same = order_once recording (order_of recording rows taken) refused in never (cc)
stamps_agree table recording rows steps i k lower upper v answer read taken closes row reading (not_asked rows' steps' n read' taken' refused) =
    let same : table_of rows' ≡ table_of rows = reads_once table read' read in
    let rows_are : rows' ≡ rows = cc in
    let there : (k : ℕ) × ((lower : ℕ) × ((upper : ℕ) × RepeatRow rows i k lower upper)) = (k, (lower, (upper, row))) in
    let all_yes : Judged (stamps_questions rows i 0) Taken = judged_yes 15 _ _ Taken (within rows i _ row)
    (judged_yes 25 _ _ Taken there (judged_yes 10 _ _ Taken (omega arith) judged_none)) in
    let never_so = judged_once (stamps_questions rows i 0) (Refused n) Taken
    (subst (λ (l : List Constraint). Judged (stamps_questions l i 0) (Refused n)) rows_are refused) all_yes in
    never (cc)
stamps_agree table recording rows steps i k lower upper v answer read taken closes row reading
    (reads rows' steps' k' lower' upper' w read' taken' row' small says) =
    let same : table_of rows' ≡ table_of rows = reads_once table read' read in
    let rows_are : rows' ≡ rows = cc in
    let same_steps : recording_of steps' ≡ recording_of steps = order_once recording taken' (order_of recording rows taken) in
    let steps_are : steps' ≡ steps = cc in
    let k_is : k' ≡ k = cc in
    let lower_is : lower' ≡ lower = cc in
    let upper_is : upper' ≡ upper = cc in
    let word : ReadsStamps 0 lower upper (times k steps) (clock steps) w = rw (k_is, lower_is, upper_is, steps_are) at says in
    ap (λ (x : StampedVerdict). StampedAnswer.Reads x) (word_agrees k lower upper steps
    (recording_valid recording rows taken) closes v reading w word)
