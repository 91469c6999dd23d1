-- What is true of every list of calls: the steps that it accepts are in order, so each row reads one verdict, broken exactly when it is not open,
-- and at the close kept exactly when the recorded events meet its definition.
use Rattle.constraint.proofs.Names.{Answer, Call, Constraint, Judged, Left, List, Meets, Open, Reads, Refused, Request, Run, Step, Taken}
use Rattle.constraint.proofs.Names.{Verdict, ◌++◌, ◌<◌, ◌↔◌, ◌∙◌, ◌≡◌, ap, append-nil, arith, asks, closed, done, event, event_questions, false}
use Rattle.constraint.proofs.Names.{last_count, length, questions, reads_broken, reads_kept, reads_open, refl, request, step_for, stream}
use Rattle.constraint.proofs.Names.{stream_count, subst, sym, true, withdraws, ℕ}
use Rattle.constraint.proofs.History.{Accepts, Valid, valid_more, valid_none}
use Rattle.constraint.proofs.{Continuations.continues_closed, Judged.judged_all, Judged.never, Lists.both, Streams.stream_below}
use Rattle.constraint.proofs.{Verdicts.broken_once, Verdicts.broken_shut, Verdicts.open_of_meets, Withdrawals.but_last_lem, Withdrawals.but_last}

-- ---- the steps that a list of calls accepts

-- an event of a stream whose questions are all answered "yes"
accepts_event : (rows : List Constraint) (steps : List Step) (s t : ℕ) → closed steps ≡ false → length steps < last_count → s < stream_count
    → Judged (event_questions rows steps s t) Taken → Accepts steps (event s t)
accepts_event rows steps s t open_still counted small judged =
    let ten = judged_all 10 _ _ judged in
    record { not_closed = open_still; counted = counted; stream_small = small; time_small = ten.0; in_order = (judged_all 11 _ _ ten.1).0 }

-- a step whose questions are all answered "yes"
pub accepts_taken : (rows : List Constraint) (steps : List Step) (s : Call) → Judged (questions rows steps s) Taken → Accepts steps (step_for s)
unfolding questions
accepts_taken rows steps (Call.Event k t) judged =
    let eight = judged_all 8 _ _ judged in
    let full = judged_all 24 _ _ eight.1 in
    let tag = judged_all 19 _ _ (judged_all 9 _ _ full.1).1 in
    accepts_event rows steps k t eight.0 full.0 (omega (arith, tag.0)) tag.1
accepts_taken rows steps (Call.ColouredEvent k c t) judged =
    let eight = judged_all 8 _ _ judged in
    let full = judged_all 24 _ _ eight.1 in
    let nine = judged_all 9 _ _ full.1 in
    let tag = judged_all 19 _ _ nine.1 in
    accepts_event rows steps (stream k c) t eight.0 full.0 (stream_below k c nine.0 tag.0.1) tag.1
accepts_taken rows steps (Call.Tick t) judged =
    let eight = judged_all 8 _ _ judged in
    let full = judged_all 24 _ _ eight.1 in
    let ten = judged_all 10 _ _ full.1 in
    record { not_closed = eight.0; counted = full.0; time_small = ten.0; later = (judged_all 11 _ _ ten.1).0 }
accepts_taken rows steps Call.Close judged =
    let eight = judged_all 8 _ _ judged in record { not_closed = eight.0; counted = (judged_all 24 _ _ eight.1).0 }

-- without their last step they are in order too
pub valid_less : {steps : List Step} → Valid steps → Valid (but_last steps)
valid_less valid_none = valid_none
valid_less (valid_more {steps = steps} s v a) = subst Valid (sym (but_last_lem steps s)) v

pub run_valid : {rows : List Constraint} {left end : Left} {requests : List Request} {answers : List Answer} → Run rows left requests answers end
    → Valid left.steps → Valid end.steps
run_valid done v = v
run_valid {rows = rows} (request {left = left} (asks s) Taken judged rest) v =
    run_valid rest (valid_more (step_for s) v (accepts_taken rows left.steps s judged))
run_valid (request withdraws Taken judged rest) v = run_valid rest (valid_less v)
run_valid (request r (Refused n) judged rest) v = run_valid rest v

-- ---- what a row reads after them

module _ (c : Constraint) (steps : List Step) (valid : Valid steps) where
  -- a row reads one verdict
  pub reads_once : (v w : Verdict) → Reads c steps v → Reads c steps w → v ≡ w
  reads_once v w (reads_open e o) (reads_open f p) = refl
  reads_once v w (reads_open e o) (reads_kept f p) = both (sym f ∙ e)
  reads_once v w (reads_open e o) (reads_broken n b) = absurd (broken_shut c n valid b o)
  reads_once v w (reads_kept e o) (reads_open f p) = both (sym e ∙ f)
  reads_once v w (reads_kept e o) (reads_kept f p) = refl
  reads_once v w (reads_kept e o) (reads_broken n b) = absurd (broken_shut c n valid b o)
  reads_once v w (reads_broken n b) (reads_open f p) = absurd (broken_shut c n valid b p)
  reads_once v w (reads_broken n b) (reads_kept f p) = absurd (broken_shut c n valid b p)
  reads_once v w (reads_broken n b) (reads_broken k d) = ap Verdict.Broken (broken_once c steps n k b d)

  -- a row reads broken exactly when no continuation can still meet its definition
  pub broken_exactly : (v : Verdict) → Reads c steps v → ((n : ℕ) × (v ≡ Verdict.Broken n)) ↔ (¬ Open c steps)
  broken_exactly v (reads_open e o) = (λ b. never (cc b.1), λ shut. absurd (shut o))
  broken_exactly v (reads_kept e o) = (λ b. never (cc b.1), λ shut. absurd (shut o))
  broken_exactly v (reads_broken n b) = (λ k. broken_shut c n valid b, λ shut. (n, refl))

  -- at the close a row is kept exactly when the recorded events meet its definition
  pub kept_exactly : closed steps ≡ true → (v : Verdict) → Reads c steps v → (v ≡ Verdict.Kept) ↔ Meets c steps
  kept_exactly shut v (reads_open e o) = both (sym shut ∙ e)
  kept_exactly shut v (reads_kept e o) =
      (λ k. subst (Meets c) (append-nil steps) (subst (λ (f : List Step). Meets c (steps ++ f)) (continues_closed shut o.1) o.2), λ m. refl)
  kept_exactly shut v (reads_broken n b) = (λ k. never (cc), λ m. absurd (broken_shut c n valid b (open_of_meets c steps m)))
