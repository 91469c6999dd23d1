-- A record's call, read from its own stretch, is that of the record in the whole recording; and what that says of its questions.
use Rattle.constraint.proofs.Library.{Bool, List, [], ◌++◌, ◌+◌, ◌-◌, ◌∙◌, ◌∷◌, ◌≡◌, ap, arith, cond, drop, drop-drop, eqb, false, length}
use Rattle.constraint.proofs.Library.{length-drop, length-take-le, refl, subst, sym, take, take_all, true, ℕ}
use Rattle.constraint.proofs.{History.closed_event, History.closed_tick, Judged.judged_no, Judged.judged_yes}
use Rattle.constraint.specs.Recording.{RecordAt, call_at, call_of, colour_in, record_questions}
use Rattle.constraint.specs.Steps.{Step, at, closed}
use Rattle.constraint.specs.{Bytes.number, Bytes.number_at, Questions.Judged, Run.questions, Run.step_for, Streams.stream, Table.body_at}
use Rattle.constraint.specs.{Table.length_at}
use Rattle.constraint.specs.{Answer.Answer, Answer.Refused, declared.Call.Call, Constraint.Constraint}
use Rattle.recording.specs.Record.{CallAt, TickAt}

-- From a record's own stretch to the whole recording

module _ (bytes : List ℕ) (place : ℕ) where
  -- the part that starts at the length field
  abbrev stretch : List ℕ
  stretch = take (length bytes - place) (drop place bytes)

  rest : stretch ≡ drop place bytes
  rest = take_all (length bytes - place) (drop place bytes) (omega (arith, length-drop place bytes))

  -- §7.1
  pub reads_whole : (call : Call) (size : ℕ) → RecordAt stretch 0 → call_of (at bytes 0) (body_at stretch 0) ≡ call → size ≡ 2 + length_at stretch 0
      → CallAt bytes place call (place + size)
  reads_whole call size =
      subst (λ (x : List ℕ). RecordAt x 0 → call_of (at bytes 0) (body_at x 0) ≡ call → size ≡ 2 + length_at x 0
      → CallAt bytes place call (place + size)) (sym rest)
      (λ there is size_is.
      record {
        there = (
          (omega (arith, length-drop place bytes, there.0.0), omega (arith, length-drop place bytes, there.0.1, there.1)),
          there.1,
          there.2,
        );
        call_read = rw (← drop-drop 2 place bytes) is;
        next_read = omega (arith, size_is);
      })

-- A tick

tick_of : (version : ℕ) (body : List ℕ) → length body ≡ 8 → call_of version body ≡ Call.Tick (number_at 8 body 0)
tick_of version body eight = rw eight refl

-- §7.2
pub tick_whole : (bytes : List ℕ) (place time : ℕ) → TickAt bytes place → time ≡ number_at 8 bytes (place + 2)
    → CallAt bytes place (Call.Tick time) (place + 10)
tick_whole bytes place time (room, eight) time_is =
    let body = take 8 (drop (place + 2) bytes) in
    let long : length body ≡ 8 = length-take-le 8 (drop (place + 2) bytes) (omega (arith, length-drop (place + 2) bytes, room)) in
    let same : body_at bytes place ≡ body = ap (λ (n : ℕ). take n (drop (place + 2) bytes)) eight in
    let timed : number_at 8 body 0 ≡ number_at 8 bytes (place + 2) = ap number (take_all 8 body (omega (arith, long))) in
    record {
      there = ((omega (arith, room), omega (arith, room, eight)), omega (arith, eight), omega (arith, eight));
      call_read = ap (call_of (at bytes 0)) same ∙ tick_of (at bytes 0) body long ∙ ap (λ (t : ℕ). Call.Tick t) (timed ∙ sym time_is);
      next_read = omega (arith, eight);
    }

-- From a record to the answer to its questions

-- §7.2, §8.14, §9.4: question 14 is answered "yes", so the answer is that to the step's questions
pub record_judged : (rows : List Constraint) (steps : List Step) (bytes : List ℕ) (place : ℕ) (call : Call) (next : ℕ) (a : Answer)
    → CallAt bytes place call next → Judged (questions rows steps call) a → Judged (record_questions rows steps bytes place) a
unfolding record_questions
record_judged rows steps bytes place call next a read judged =
    judged_yes 14 (RecordAt bytes place) (questions rows steps (call_at bytes place)) a read.there (rw read.call_read judged)

pub record_refused : (rows : List Constraint) (steps : List Step) (bytes : List ℕ) (place : ℕ)
    → ¬ RecordAt bytes place → Judged (record_questions rows steps bytes place) (Refused 14)
unfolding record_questions
record_refused rows steps bytes place not_there = judged_no 14 (RecordAt bytes place) (questions rows steps (call_at bytes place)) not_there

-- no record is a close
pub unclosed_more : (version : ℕ) (body : List ℕ) (steps : List Step) → closed steps ≡ false
    → closed (steps ++ (step_for (call_of version body) ∷ []))
    ≡ false
unclosed_more version body steps before = go (eqb (length body) 9) (eqb (length body) 10)
  where
    coloured : Call
    coloured = Call.ColouredEvent (at body 0) (colour_in version (at body 1)) (number_at 8 body 2)

    go : (nine ten : Bool)
        → closed (steps ++ (step_for (cond nine (Call.Event (at body 0) (number_at 8 body 1)) (cond ten coloured (Call.Tick (number_at 8 body 0))))
        ∷ [])) ≡ false
    go true ten = closed_event (at body 0) (number_at 8 body 1) steps ∙ before
    go false true = closed_event (stream (at body 0) (colour_in version (at body 1))) (number_at 8 body 2) steps ∙ before
    go false false = closed_tick (number_at 8 body 0) steps ∙ before
