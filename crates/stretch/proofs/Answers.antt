-- The numbers of the starts say which stretches break the row, so the first that is as long as its start needs is the first that breaks it;
-- and the answer is put together in the order of the questions.
use Rattle.constraint.proofs.Judged.{judged_no, judged_none, judged_yes}
use Rattle.constraint.proofs.Library.{Bool, List, [], ◌<◌, ◌∷◌, ◌≡◌, ◌≤◌, ap, arith, false, get_elem?, inl, le-leb, leb, leb-false, leb-true}
use Rattle.constraint.proofs.Library.{length, length-drop, lt-leb, min, refl, some, subst, sym, true, ℕ}
use Rattle.constraint.proofs.Accepted.{alone_accepted}
use Rattle.constraint.specs.Stretches.{AnswersRow, Breaking, FirstAt, Some, Stretch, found, no_stretch, stretch_of, stretch_questions, stretches}
use Rattle.constraint.specs.{Accepted.Accepted, Questions.Judged, Recording.ReadsInOrder, Recording.recording_of, Records.Decides}
use Rattle.constraint.specs.{Steps.Step, Steps.at, Answer.Answer, Answer.Refused, Answer.Taken}
use Rattle.constraint.specs.{Constraint.Constraint, Stretches.StretchAnswer}
use Rattle.stretch.proofs.{Places.Inside, Places.first_as, Places.some_as, Places.some_right, Places.stretches_inside, Taking.recording_taken}
use Rattle.stretch.specs.Machine.{Enough, Kept, NeedsFrom, RunOf, Searches, Tries, TriesAll}
use Rattle.std.specs.Prelude.{Some as Is, None}
use Rattle.constraint.specs.declared.FoundStretch.{FoundStretch}
use Rattle.stretch.specs.declared.KeptRecord.{KeptRecord}

-- ---- one row

-- a test and what it decides
decided : {asked : Type 0} (need m : ℕ) → Decides asked (leb need m) → need ≤ m → asked
decided {asked = asked} need m d h = subst (Decides asked) (le-leb need m h) d

undecided : {asked : Type 0} (need m : ℕ) → Decides asked (leb need m) → m < need → ¬ asked
undecided {asked = asked} need m d h = subst (Decides asked) (lt-leb need m h) d

module _ (c : Constraint) (records : List KeptRecord) (count : ℕ) (need : List ℕ)
    (each : (start : ℕ) → start < count → NeedsFrom c records count start (at need start))
    (steps : List Step) (run : RunOf steps records count) (accepted : Accepted (c ∷ [])) where
  decides : (s : Stretch) → Inside (length steps) s → Decides (Breaking c steps s) (leb (at need s.first) s.size)
  decides s inside =
      let start : s.first < count = omega (arith, inside.0, inside.1, run.counted) in
      each s.first start steps run accepted start s.size inside.0 (omega (arith, inside.1, length-drop s.first steps))

  breaking : (s : Stretch) → Inside (length steps) s → Enough need s → Breaking c steps s
  breaking s inside h = decided (at need s.first) s.size (decides s inside) h

  enough : (s : Stretch) → Inside (length steps) s → Breaking c steps s → Enough need s
  enough s inside breaks = go (leb (at need s.first) s.size) refl
    where
      go : (b : Bool) → leb (at need s.first) s.size ≡ b → Enough need s
      go true e = leb-true (at need s.first) s.size e
      go false e = absurd (undecided (at need s.first) s.size (decides s inside) (leb-false (at need s.first) s.size e) breaks)

  as_steps : stretches count ≡ stretches (length steps)
  as_steps = ap stretches (sym run.counted)

  -- §14.4
  pub tries_first : (f : FoundStretch) → Searches need count (Is f)
      → FirstAt (Breaking c steps) (stretches (length steps)) (stretch_of f.first f.size) f.tried
  tries_first f first_is =
      first_as (Enough need) (Breaking c steps) (Inside (length steps)) breaking enough
      (stretches (length steps)) (stretches_inside (length steps)) _ _
      (subst (λ (l : List Stretch). FirstAt (Enough need) l (stretch_of f.first f.size) f.tried) as_steps first_is)

  -- §8.23
  pub tries_none : Searches need count None → ¬ Some (Breaking c steps) (stretches (length steps))
  tries_none none one =
      none
      (subst (Some (Enough need)) (sym as_steps)
      (some_as (Breaking c steps) (Enough need) (Inside (length steps)) enough
      (stretches (length steps)) (stretches_inside (length steps)) one))

-- ---- a row of a table

-- the first that breaks is one that breaks
some_first : (P : Stretch → Type 0) (list : List Stretch) (s : Stretch) (place : ℕ) → FirstAt P list s place → Some P list
some_first P list s place f = subst (Some P) (sym f.in_order) (some_right P f.before (s ∷ f.later) (inl f.has))

module _ (rows : List Constraint) (steps : List Step) (i : ℕ) (records : List KeptRecord) (count : ℕ) (few : count ≤ 256)
    (run : RunOf steps records count) where
  pub no_such_row : length rows ≤ i → AnswersRow rows steps i (StretchAnswer.Refused 15 0)
  no_such_row past =
      no_stretch 15 (judged_yes 22 _ _ (Refused 15) (omega (arith, run.counted, few)) (judged_no 15 _ _ (λ h. omega (arith, h, past))))

  module _ (c : Constraint) (within : i < length rows) (is : get_elem? rows i ≡ some c) (accepted : Accepted rows) where
    alone : Accepted (c ∷ [])
    alone = (accepted.0, alone_accepted accepted.0 rows accepted.1 i c is)

    -- 22 and 15 are answered "yes"
    asked_first : (a : Answer)
        → Judged ((23, (d : Constraint) × (get_elem? rows i ≡ some d) × Some (Breaking d steps) (stretches (length steps))) ∷ []) a
        → Judged (stretch_questions rows steps i) a
    asked_first a later = judged_yes 22 _ _ a (omega (arith, run.counted, few)) (judged_yes 15 _ _ a within later)

    by_answer : (answer : StretchAnswer) → Tries c steps answer → AnswersRow rows steps i answer
    by_answer (StretchAnswer.Found first size tried) first-at =
        found c first size tried
        (asked_first Taken
        (judged_yes 23 _ _ Taken (c, is, some_first (Breaking c steps) (stretches (length steps)) (stretch_of first size) tried first-at)
        judged_none))
        is first-at
    by_answer (StretchAnswer.Refused n place) (n-is, place_is, none) =
        subst (λ (k : ℕ). AnswersRow rows steps i (StretchAnswer.Refused k place)) (sym n-is)
        (subst (λ (p : ℕ). AnswersRow rows steps i (StretchAnswer.Refused 23 p)) (sym place_is)
        (no_stretch 23 (asked_first (Refused 23) (judged_no 23 _ _ (λ one. none (of_row one.0 one.1 one.2))))))
      where
        of_row : (d : Constraint) → get_elem? rows i ≡ some d → Some (Breaking d steps) (stretches (length steps))
            → Some (Breaking c steps) (stretches (length steps))
        of_row d at_i one =
            let known = is in
            let same : d ≡ c = cc in
            subst (λ (x : Constraint). Some (Breaking x steps) (stretches (length steps))) same one

    pub row_tried : (answer : StretchAnswer) → TriesAll c records count answer → AnswersRow rows steps i answer
    row_tried answer tries = by_answer answer (tries steps run alone)

-- ---- a recording

pub run_of : (bytes : List ℕ) (records : List KeptRecord) (steps : List Step) (count : ℕ)
    → ReadsInOrder bytes (recording_of steps) → count ≡ min (length steps) 257 → Kept steps records
    → count ≤ 256 → RunOf steps records count
run_of bytes records steps count reads counted kept few =
    record { counted = omega (arith, counted, few); kept = kept; taken = recording_taken bytes steps reads }

-- more than 256 records
pub too_many : (rows : List Constraint) (steps : List Step) (i count : ℕ) → count ≡ min (length steps) 257 → 256 < count
    → AnswersRow rows steps i (StretchAnswer.Refused 22 0)
too_many rows steps i count counted many = no_stretch 22 (judged_no 22 _ _ (λ h. omega (arith, h, counted, many)))
