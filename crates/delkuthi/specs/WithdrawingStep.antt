-- What the withdrawal of one certain step promises (§3.17): it is a withdrawal where that step is the last one.
use Rattle.std.specs.Prelude.{ℕ, ◌≡◌, true, List, [], ◌∷◌, length}
use Rattle.constraint.specs.Questions.{Question}
use Rattle.constraint.specs.Run.{Left, withdraws}
use Rattle.constraint.specs.Answer.{Taken, Refused}
use Rattle.monitor.specs.Contract.{result_of}
use Rattle.monitor.specs.declared.Monitor.{Monitor}
use Rattle.in_place.specs.Contract.{Takes, HoldsMonitor}
use Rattle.delkuthi.specs.Host.{Memory}

-- §8.21, §8.26, §9.5: may the last step be withdrawn, and does it have this number?
abbrev pub step_questions : Left → ℕ → List Question
step_questions left step = (21, left.may ≡ true) ∷ (26, length left.steps ≡ step) ∷ []

-- §3.17: `delkuthi_withdraw_step`, whatever was lent; a refusal changes no word
pub data WithdrawsStep (entry : Memory) (step : ℕ) : ℕ → Memory → Type 0 where
  nothing_left : ((m : Monitor) → HoldsMonitor entry m → (result_of m withdraws).answer ≡ Refused 21) → WithdrawsStep entry step 21 entry
  other_step : ((m : Monitor) → HoldsMonitor entry m → ((result_of m withdraws).answer ≡ Taken) × (¬ (m.count ≡ step)))
      → WithdrawsStep entry step 26 entry
  last_step : {number : ℕ} {exit : Memory} → ((m : Monitor) → HoldsMonitor entry m → m.count ≡ step) → Takes entry withdraws number exit
      → WithdrawsStep entry step number exit
