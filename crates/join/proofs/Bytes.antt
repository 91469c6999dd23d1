-- The bytes of a record read as its step, wherever they stand; so the bytes of steps each of which could be taken read as these steps.
use Rattle.join.proofs.Names.{Accepts, Call, CallAt, Judged, List, ReadsInOrder, ReadsRecords, RecordingRead, Room, Step, Taken, Valid, []}
use Rattle.join.proofs.Names.{◌%◌, ◌++◌, ◌+◌, ◌-◌, ◌<◌, ◌∙◌, ◌∷◌, ◌≡◌, ◌≤◌, ap, append_assoc, append-nil, append_snoc, arith, at, body_at}
use Rattle.join.proofs.Names.{bytes_of, call_at, call_of, close, coloured_kind_lem, coloured_bytes, cond, drop, drop_at, drop-drop, event}
use Rattle.join.proofs.Names.{event_bytes}
use Rattle.join.proofs.Names.{first_coloured, judged_none, judged_yes, kind_small, kind_of, last_time, length, length-append, length-drop}
use Rattle.join.proofs.Names.{length_at, ltb, ltb-false, ltb-true, ne_eqb, never, no_more, number, number_of_bytes, number_behind, questions}
use Rattle.join.proofs.Names.{record_judged, record_taken, recording_of, recording_bytes, refl, split, step_bytes, step_for, steps_bytes, stream}
use Rattle.join.proofs.Names.{subst, suc, sym, tick, tick_bytes, time_of, valid_more, valid_none, version_taken, ℕ}
use Rattle.join.proofs.Merging.{Fits, Line}

-- the call that a step was
abbrev pub call_for : Step → Call
call_for (event s t) = cond (ltb s first_coloured) (Call.Event s t) (Call.ColouredEvent (kind_of s) ((s - first_coloured) % 8) t)
call_for (tick t) = Call.Tick t
call_for close = Call.Close

-- ---- one record, where its bytes stand

module _ (bytes : List ℕ) (place : ℕ) (after : List ℕ) where
  standing : (stands : List ℕ) (call : Call) (size : ℕ) → drop place bytes ≡ stands → size ≡ 2 + length_at stands 0 → size ≤ length stands
      → 10 ≤ size → size ≤ 12 → call_of (at bytes 0) (body_at stands 0) ≡ call → CallAt bytes place call (place + size)
  standing stands call size e =
      subst (λ (x : List ℕ). size ≡ 2 + length_at x 0 → size ≤ length x → 10 ≤ size → size ≤ 12 → call_of (at bytes 0) (body_at x 0) ≡ call
      → CallAt bytes place call (place + size)) e
      (λ size_is whole long short is.
      record {
        there = ((omega (arith, length-drop place bytes), omega (arith, length-drop place bytes)), omega arith, omega arith);
        call_read = rw (← drop-drop 2 place bytes) is;
        next_read = omega arith;
      })

  small_number : (t : ℕ) → t ≤ last_time → number (bytes_of 8 t) ≡ t
  small_number t h = number_of_bytes 8 t (omega arith)

  pub read_plain : (k t : ℕ) → t ≤ last_time → drop place bytes ≡ event_bytes k t ++ after → CallAt bytes place (Call.Event k t) (place + 11)
  unfolding bytes_of number_behind
  read_plain k t small e =
      standing (event_bytes k t ++ after) (Call.Event k t) 11 e (omega arith) (omega arith) (omega arith) (omega arith)
      (ap (λ (n : ℕ). Call.Event k n) (small_number t small))

  pub read_tick : (t : ℕ) → t ≤ last_time → drop place bytes ≡ tick_bytes t ++ after → CallAt bytes place (Call.Tick t) (place + 10)
  unfolding bytes_of number_behind
  read_tick t small e =
      standing (tick_bytes t ++ after) (Call.Tick t) 10 e (omega arith) (omega arith) (omega arith) (omega arith)
      (ap (λ (n : ℕ). Call.Tick n) (small_number t small))

  pub read_coloured : (k c t : ℕ) → t ≤ last_time → ¬ (at bytes 0 ≡ 1) → drop place bytes ≡ coloured_bytes k c t ++ after
      → CallAt bytes place (Call.ColouredEvent k c t) (place + 12)
  unfolding bytes_of number_behind
  read_coloured k c t small two e =
      standing (coloured_bytes k c t ++ after) (Call.ColouredEvent k c t) 12 e (omega arith) (omega arith) (omega arith) (omega arith)
      (rw (ne_eqb (at bytes 0) 1 two) (ap (λ (n : ℕ). Call.ColouredEvent k c n) (small_number t small)))

  pub read_step : (s : Step) → Fits (at bytes 0) s → drop place bytes ≡ step_bytes s ++ after
      → CallAt bytes place (call_for s) (place + length (step_bytes s))
  unfolding step_bytes bytes_of
  read_step (event s t) fits stands =
      split (ltb s first_coloured)
      (λ x. drop place bytes ≡ cond x (event_bytes s t) (coloured_bytes (kind_of s) ((s - first_coloured) % 8) t) ++ after
      → CallAt bytes place (cond x (Call.Event s t) (Call.ColouredEvent (kind_of s) ((s - first_coloured) % 8) t))
      (place + length (cond x (event_bytes s t) (coloured_bytes (kind_of s) ((s - first_coloured) % 8) t))))
      (λ plain e. read_plain s t fits.1 e)
      (λ coloured e. read_coloured (kind_of s) ((s - first_coloured) % 8) t fits.1
      (λ one. omega (arith, fits.2 one, ltb-false s first_coloured coloured)) e)
      stands
  read_step (tick t) fits e = read_tick t fits e
  read_step close fits e = absurd fits

-- ---- its questions

room_none : (steps : List Step) → Room [] steps
unfolding Room
room_none steps i c e open_still = never (cc)

taken_plain : (steps : List Step) (s t : ℕ) → Accepts steps (event s t) → s < first_coloured → Judged (questions [] steps (Call.Event s t)) Taken
unfolding questions
taken_plain steps s t a plain =
    judged_yes 8 _ _ Taken a.not_closed
    (judged_yes 24 _ _ Taken a.counted
    (judged_yes 9 _ _ Taken (omega arith)
    (judged_yes 19 _ _ Taken plain
    (judged_yes 10 _ _ Taken a.time_small (judged_yes 11 _ _ Taken a.in_order (judged_yes 12 _ _ Taken (room_none _) judged_none))))))

pub same_stream : (s : ℕ) → first_coloured ≤ s → stream (kind_of s) ((s - first_coloured) % 8) ≡ s
same_stream s h = rw (coloured_kind_lem s h) (omega arith)

taken_coloured : (steps : List Step) (s t : ℕ) → Accepts steps (event s t) → first_coloured ≤ s
    → Judged (questions [] steps (Call.ColouredEvent (kind_of s) ((s - first_coloured) % 8) t)) Taken
unfolding questions
taken_coloured steps s t a h =
    judged_yes 8 _ _ Taken a.not_closed
    (judged_yes 24 _ _ Taken a.counted
    (judged_yes 9 _ _ Taken (kind_small s a.stream_small)
    (judged_yes 19 _ _ Taken (rw (coloured_kind_lem s h) (omega arith), omega arith)
    (judged_yes 10 _ _ Taken a.time_small
    (judged_yes 11 _ _ Taken (rw (same_stream s h) a.in_order) (judged_yes 12 _ _ Taken (room_none _) judged_none))))))

taken_tick : (steps : List Step) (t : ℕ) → Accepts steps (tick t) → Judged (questions [] steps (Call.Tick t)) Taken
unfolding questions
taken_tick steps t a =
    judged_yes 8 _ _ Taken a.not_closed
    (judged_yes 24 _ _ Taken a.counted
    (judged_yes 10 _ _ Taken a.time_small (judged_yes 11 _ _ Taken a.later (judged_yes 12 _ _ Taken (room_none _) judged_none))))

-- the call that a step was, is taken where the step is accepted, and is that step
taken_for : (version : ℕ) (steps : List Step) (s : Step) → Fits version s → Accepts steps s → Judged (questions [] steps (call_for s)) Taken
    × (step_for (call_for s) ≡ s)
taken_for version steps (event s t) fits a =
    split (ltb s first_coloured)
    (λ x. Judged (questions [] steps (cond x (Call.Event s t) (Call.ColouredEvent (kind_of s) ((s - first_coloured) % 8) t))) Taken
    × (step_for (cond x (Call.Event s t) (Call.ColouredEvent (kind_of s) ((s - first_coloured) % 8) t)) ≡ event s t))
    (λ plain. (taken_plain steps s t a (ltb-true s first_coloured plain), refl))
    (λ coloured. let h : first_coloured ≤ s = ltb-false s first_coloured coloured in
    (taken_coloured steps s t a h, ap (λ (x : ℕ). event x t) (same_stream s h)))
taken_for version steps (tick t) fits a = (taken_tick steps t a, refl)
taken_for version steps close fits a = absurd fits

-- ---- the records one after the other

pub bytes_append : (a b : List Step) → steps_bytes (a ++ b) ≡ steps_bytes a ++ steps_bytes b
unfolding steps_bytes
bytes_append [] b = refl
bytes_append (s ∷ a) b = ap (λ (x : List ℕ). step_bytes s ++ x) (bytes_append a b) ∙ sym (append_assoc (step_bytes s) (steps_bytes a) (steps_bytes b))

-- each record has bytes
pub steps_few : (version now : ℕ) (steps : List Step) → Line version now steps → length steps ≤ length (steps_bytes steps)
unfolding steps_bytes step_bytes
steps_few version now [] l = omega arith
steps_few version now (event s t ∷ steps) l =
    split (ltb s first_coloured)
    (λ x. suc (length steps) ≤ length (cond x (event_bytes s t) (coloured_bytes (kind_of s) ((s - first_coloured) % 8) t) ++ steps_bytes steps))
    (λ plain. omega (arith, length-append (event_bytes s t) (steps_bytes steps), steps_few version t steps l.2))
    (λ coloured. omega (
      arith,
      length-append (coloured_bytes (kind_of s) ((s - first_coloured) % 8) t) (steps_bytes steps),
      steps_few version t steps l.2,
    ))
steps_few version now (tick t ∷ steps) l = omega (arith, length-append (tick_bytes t) (steps_bytes steps), steps_few version t steps l.2)
steps_few version now (close ∷ steps) l = absurd l.1

line_each : (version now : ℕ) (a : List Step) (s : Step) (b : List Step) → Line version now (a ++ s ∷ b) → Fits version s
line_each version now [] s b l = l.1
line_each version now (x ∷ a) s b l = line_each version (time_of x) a s b l.2

module _ (version : ℕ) (known : (1 ≤ version) × (version ≤ 2)) where
  -- what is read behind some steps is read from the start
  reads_behind : {steps : List Step} → Valid steps → (rest : List Step) → Line version 0 (steps ++ rest) → (read : RecordingRead)
      → ReadsRecords [] (recording_bytes version (steps ++ rest)) steps (length (recording_bytes version steps)) read
      → ReadsInOrder (recording_bytes version (steps ++ rest)) read
  unfolding steps_bytes
  reads_behind valid_none rest l read reads = version_taken (omega arith, known.0, known.1) reads
  reads_behind (valid_more {steps = steps} s v a) rest l read reads =
      let again : (steps ++ (s ∷ [])) ++ rest ≡ steps ++ s ∷ rest = append_snoc steps s rest in
      let bytes = recording_bytes version (steps ++ s ∷ rest) in
      let place = length (recording_bytes version steps) in
      let line : Line version 0 (steps ++ s ∷ rest) = subst (Line version 0) again l in
      let fits : Fits version s = line_each version 0 steps s rest line in
      let stands : drop place bytes ≡ step_bytes s ++ steps_bytes rest = ap (drop (length (steps_bytes steps))) (bytes_append steps (s ∷ rest))
      ∙ drop_at (steps_bytes steps) (step_bytes s ++ steps_bytes rest) (length (steps_bytes steps)) refl in
      let here : CallAt bytes place (call_for s) (place + length (step_bytes s)) = read_step bytes place (steps_bytes rest) s fits stands in
      let taken = taken_for version steps s fits a in
      let size : length (steps_bytes (steps ++ (s ∷ []))) ≡ length (steps_bytes steps) + length (step_bytes s) =
      ap length (bytes_append steps (s ∷ [])) ∙ length-append (steps_bytes steps) (step_bytes s ++ [])
      ∙ ap (λ (x : List ℕ). length (steps_bytes steps) + length x) (append-nil (step_bytes s)) in
      let next : length (recording_bytes version (steps ++ (s ∷ []))) ≡ place + 2 + length_at bytes place = omega (arith, size, here.next_read) in
      let is : s ≡ step_for (call_at bytes place) = sym (ap step_for here.call_read ∙ taken.1) in
      subst (λ (x : List Step). ReadsInOrder (recording_bytes version x) read) (sym again)
      (reads_behind v (s ∷ rest) line read
      (record_taken (omega (arith, here.there.0.1, here.there.0.0))
      (record_judged [] steps bytes place (call_for s) (place + length (step_bytes s)) Taken here taken.0)
      (subst (λ (x : Step). ReadsRecords [] bytes (steps ++ (x ∷ [])) (place + 2 + length_at bytes place) read) is
      (subst (λ (n : ℕ). ReadsRecords [] bytes (steps ++ (s ∷ [])) n read) next
      (subst (λ (x : List Step). ReadsRecords [] (recording_bytes version x) (steps ++ (s ∷ []))
      (length (recording_bytes version (steps ++ (s ∷ [])))) read) again reads)))))

  -- valid steps that fit a version read back from their bytes
  pub reads_back : (steps : List Step) → Valid steps → Line version 0 steps → ReadsInOrder (recording_bytes version steps) (recording_of steps)
  reads_back steps v l =
      subst (λ (x : List Step). ReadsInOrder (recording_bytes version x) (recording_of steps)) (append-nil steps)
      (reads_behind v [] (subst (Line version 0) (sym (append-nil steps)) l) (recording_of steps)
      (no_more (omega (arith, ap (λ (x : List Step). length (steps_bytes x)) (append-nil steps)))))
