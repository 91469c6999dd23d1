-- A monitor to which some steps are left answers the next as its questions say over those steps, and where it takes it has taken one more: a list of
-- requests has one outcome.
use Rattle.delkuthi.proofs.Names.{Accepted, Call, Constraint, Follows, Judged, Left, List, Step, Stepped, Steps, Taken, TakesAll, [], ◌++◌}
use Rattle.delkuthi.proofs.Names.{◌∙◌, ◌∷◌, ◌≡◌, after, after_call, all_taken, asks, every_type_exact, map, questions, refl, remains_follows}
use Rattle.delkuthi.proofs.Names.{run_once}
use Rattle.delkuthi.proofs.Names.{step_for, subst, takes_more}

module _ (rows : List Constraint) (steps : List Step) (calls : List Call) (accepted : Accepted rows) (taken : TakesAll rows calls steps) where
  -- its records follow the steps
  pub took_follows : Follows every_type_exact rows steps (after rows (map asks calls))
  took_follows = remains_follows every_type_exact rows accepted (map asks calls) (all_taken calls, taken.1)

  module _ (s : Call) (result : Stepped) (kept : Steps (after rows (map asks calls)) (asks s) result) where
    pub took_judged : Judged (questions rows steps s) result.answer
    took_judged =
        let means = (kept.means rows (map asks calls) accepted refl).0 in
        subst (λ (left : Left). Judged (questions rows left.steps s) result.answer) (run_once rows means.1.1 taken.1).1 means.2

    pub took_more : result.answer ≡ Taken → TakesAll rows (calls ++ (s ∷ [])) (steps ++ (step_for s ∷ []))
    took_more e = takes_more rows calls steps s taken (subst (Judged (questions rows steps s)) e took_judged)

    -- and this is the monitor then
    pub took_made : result.monitor ≡ after rows (map asks (calls ++ (s ∷ [])))
    took_made = (kept.means rows (map asks calls) accepted refl).1 ∙ after_call rows calls s
