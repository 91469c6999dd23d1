-- The withdrawal of one step asks whether one may be withdrawn, as every withdrawal does, and for the number of the last, which is the count.
use Rattle.sessions.proofs.Names.{Constraint, Left, List, Memory, Monitor, Refused, ◌<◌, ◌∙◌}
use Rattle.sessions.proofs.Names.{◌≡◌, after, answer_from, arith, left_by, length, never, refl, request_questions, run_once, subst, suc, sym}
use Rattle.sessions.proofs.Names.{zero, ℕ}
use Rattle.sessions.proofs.Reached.{Reached, reached_holds, reached_judged, reached_more}
use Rattle.constraint.proofs.Judged.{judged_all, judged_no, judged_yes}
use Rattle.constraint.proofs.Library.{inl, inr}
use Rattle.constraint.specs.{Questions.Judged, Run.withdraws}
use Rattle.delkuthi.proofs.Summaries.{made_follows}
use Rattle.delkuthi.specs.WithdrawingStep.{WithdrawsStep, last_step, nothing_left, other_step, step_questions}
use Rattle.monitor.proofs.Theorem.{step_kept}
use Rattle.monitor.specs.Contract.{result_of}

module _ {h : Memory} {rows : List Constraint} {left : Left} (r : Reached h rows left) where
  abbrev m : Monitor
  m = after rows r.requests

  -- what a withdrawal is answered there
  withdrawal_judged : Judged (request_questions rows left withdraws) (result_of m withdraws).answer
  withdrawal_judged =
      let means = ((step_kept m withdraws refl).means rows r.requests r.accepted refl).0 in
      subst (λ (l : Left). Judged (request_questions rows l withdraws) (result_of m withdraws).answer) (run_once rows means.1.1 r.run).1
      means.2

  -- the count is that of the steps that are left
  count_left : m.count ≡ length left.steps
  count_left =
      let follows = made_follows rows r.requests r.accepted refl in
      subst (λ (l : Left). m.count ≡ length l.steps) (run_once rows follows.1.1 r.run).1 follows.2.count_is

  -- one question more
  refused_first : Judged (request_questions rows left withdraws) (Refused 21) → (step : ℕ) → Judged (step_questions left step) (Refused 21)
  unfolding Judged
  refused_first (inl h) step = never (cc h.1)
  refused_first (inr h) step = inr h

  taken_then : (step : ℕ) → length left.steps ≡ step → (number : ℕ) → Judged (request_questions rows left withdraws) (answer_from number)
      → Judged (step_questions left step) (answer_from number)
  unfolding Judged
  taken_then step same zero (inl h) = inl (h.0, inl (same, refl))
  taken_then step same zero (inr h) = never (cc h.1)
  taken_then step same (suc n) (inl h) = never (cc h.1)
  taken_then step same (suc n) (inr h) = inr h

  pub step_answered : {step number : ℕ} {mid : Memory} → WithdrawsStep h step number mid
      → Judged (step_questions left step) (answer_from number) × Reached mid rows (left_by left withdraws (answer_from number))
  step_answered {step} (nothing_left none) =
      (refused_first (subst (Judged (request_questions rows left withdraws)) (none m (reached_holds r)) withdrawal_judged) step, r)
  step_answered {step} (other_step other) =
      let may = (judged_all 21 _ _ (subst (Judged (request_questions rows left withdraws)) (other m (reached_holds r)).0 withdrawal_judged)).0 in
      (judged_yes 21 _ _ (Refused 26) may (judged_no 26 _ _ (λ same. (other m (reached_holds r)).1 (count_left ∙ same))), r)
  step_answered {step} {number} {mid} (last_step last takes) = (
    taken_then step (sym count_left ∙ last m (reached_holds r)) number (reached_judged r withdraws number mid takes),
    reached_more r withdraws number mid takes,
  )

pub step_unchanged : {h mid : Memory} {step number : ℕ} → WithdrawsStep h step number mid → 0 < number → mid ≡ h
step_unchanged (nothing_left none) above = refl
step_unchanged (other_step other) above = refl
step_unchanged (last_step last takes) above = takes.untouched (λ zero. omega (arith, zero, above))
