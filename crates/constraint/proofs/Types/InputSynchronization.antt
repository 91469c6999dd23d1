-- An InputSynchronization looks at the times of each colour of each of its stimuli and of its response.
use Rattle.constraint.proofs.Lawful.{Contingent}
use Rattle.constraint.proofs.Names.{event, last_colour, ne_eqb, suc, zero, ◌≤◌, arith}
use Rattle.constraint.proofs.Names.{InputSynchronization, List, Meets, MeetsInputSynchronization, Step, [], ◌<◌, ◌∷◌, ◌≡◌, at}
use Rattle.constraint.proofs.Names.{byte, coloured, length, plain, refl, stream, time, times, tolerance}
use Rattle.constraint.proofs.Names.{waiting, ℕ}
use Rattle.constraint.proofs.{Lawful.Lawful, Lawful.after_coloured, Lawful.coloured_same, Lawful.of_colour, Lists.each_left}
use Rattle.constraint.proofs.Streams.{colours}

inputs_same : (ks : List ℕ) (response x colour : ℕ) (a b : List Step)
    → ((j : ℕ) → j < length ks → times (stream (at ks j) colour) a ≡ times (stream (at ks j) colour) b)
    → times (stream response colour) a ≡ times (stream response colour) b
    → MeetsInputSynchronization ks response x colour a → MeetsInputSynchronization ks response x colour b
unfolding MeetsInputSynchronization
inputs_same ks response x colour a b each last m i j k h g l = rw (← each j g, ← each k l, ← last) (m i j k (rw last h) g l)

pub lawful_input_synchronization : (ks : List ℕ) (response x : ℕ) → Lawful (InputSynchronization ks response x)
unfolding Meets waiting
lawful_input_synchronization ks response x =
    let later = byte coloured response ∷ time (plain tolerance) x ∷ [] in
    record {
      same = λ a b in_order same earlier m colour few. inputs_same ks response x colour a b
          (λ j h. of_colour (at ks j) a b (coloured_same ks later a b same j h) colour few)
          (of_colour response a b (each_left (λ s. times s a ≡ times s b) (colours response) [] (after_coloured ks later a b same)) colour few)
          (m colour few);
      waits_same = λ a b same. refl;
    }

-- §2.2, §5.14: stimuli of colour 1 at 10 and 11 and a response at 12; and stimuli at 10 and 13 and a response at 14
pub input_contingent : Contingent (InputSynchronization (48 ∷ 49 ∷ []) 50 2) (event 49 10 ∷ event 57 11 ∷ event 65 12 ∷ [])
    (event 49 10 ∷ event 57 13 ∷ event 65 14 ∷ [])
unfolding Meets MeetsInputSynchronization times
input_contingent =
    record {
      can_be_met = λ colour few. met colour few;
      can_be_missed = λ m. omega (arith, (m 1 (omega arith) 0 1 0 (omega arith) (omega arith) (omega arith)).2);
    }
  where
    steps : List Step
    steps = event 49 10 ∷ event 57 11 ∷ event 65 12 ∷ []

    silent : (c : ℕ) → 2 ≤ c → c ≤ last_colour → length (times (stream 50 c) steps) ≡ 0
    silent c h few =
        rw (ne_eqb 49 (stream 50 c) (λ e. omega arith), ne_eqb 57 (stream 50 c) (λ e. omega arith), ne_eqb 65 (stream 50 c) (λ e. omega arith))

    met : (colour : ℕ) → colour ≤ last_colour → MeetsInputSynchronization (48 ∷ 49 ∷ []) 50 2 colour steps
    met zero few i j k h g l = absurd (omega arith)
    met (suc zero) few (suc i) j k h g l = absurd (omega arith)
    met (suc zero) few zero zero zero h g l = (omega arith, omega arith, omega arith)
    met (suc zero) few zero zero (suc zero) h g l = (omega arith, omega arith, omega arith)
    met (suc zero) few zero zero (suc (suc k)) h g l = absurd (omega arith)
    met (suc zero) few zero (suc zero) zero h g l = (omega arith, omega arith, omega arith)
    met (suc zero) few zero (suc zero) (suc zero) h g l = (omega arith, omega arith, omega arith)
    met (suc zero) few zero (suc zero) (suc (suc k)) h g l = absurd (omega arith)
    met (suc zero) few zero (suc (suc j)) k h g l = absurd (omega arith)
    met (suc (suc colour)) few i j k h g l = absurd (omega (arith, silent (suc (suc colour)) (omega arith) few))
