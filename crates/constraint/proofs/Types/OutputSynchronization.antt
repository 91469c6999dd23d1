-- An OutputSynchronization looks at the times of each colour of its stimulus and of each of its responses.
use Rattle.constraint.proofs.Lawful.{Contingent}
use Rattle.constraint.proofs.Names.{event, last_colour, ne_eqb, suc, zero, ◌≤◌, arith}
use Rattle.constraint.proofs.Names.{List, Meets, MeetsOutputSynchronization, OutputSynchronization, Step, [], ◌<◌, ◌∷◌, ◌≡◌, at}
use Rattle.constraint.proofs.Names.{coloured, kind_fields, length, plain, refl, stream, time, times, tolerance}
use Rattle.constraint.proofs.Names.{waiting, ℕ, ◌++◌}
use Rattle.constraint.proofs.{Lawful.Lawful, Lawful.coloured_same, Lawful.of_colour, Lists.each_left, Lists.each_right}
use Rattle.constraint.proofs.Streams.{colours, streams_in}

outputs_same : (stimulus : ℕ) (ks : List ℕ) (x colour : ℕ) (a b : List Step)
    → times (stream stimulus colour) a ≡ times (stream stimulus colour) b
    → ((j : ℕ) → j < length ks → times (stream (at ks j) colour) a ≡ times (stream (at ks j) colour) b)
    → MeetsOutputSynchronization stimulus ks x colour a → MeetsOutputSynchronization stimulus ks x colour b
unfolding MeetsOutputSynchronization
outputs_same stimulus ks x colour a b first each m i j k h g l = rw (← each j g, ← each k l, ← first) (m i j k (rw first h) g l)

pub lawful_output_synchronization : (stimulus : ℕ) (ks : List ℕ) (x : ℕ) → Lawful (OutputSynchronization stimulus ks x)
unfolding Meets waiting
lawful_output_synchronization stimulus ks x =
    let later = time (plain tolerance) x ∷ [] in
    let others = streams_in (kind_fields coloured ks ++ later) in
    record {
      same = λ a b in_order same earlier m colour few. outputs_same stimulus ks x colour a b
          (of_colour stimulus a b (each_left (λ s. times s a ≡ times s b) (colours stimulus) others same) colour few)
          (λ j h. of_colour (at ks j) a b
          (coloured_same ks later a b (each_right (λ s. times s a ≡ times s b) (colours stimulus) others same) j h) colour few)
          (m colour few);
      waits_same = λ a b same. refl;
    }

-- §2.2, §5.13: a stimulus of colour 1 at 10 and responses at 12 and 13; and at 12 and 15
pub output_contingent : Contingent (OutputSynchronization 48 (49 ∷ 50 ∷ []) 2) (event 49 10 ∷ event 57 12 ∷ event 65 13 ∷ [])
    (event 49 10 ∷ event 57 12 ∷ event 65 15 ∷ [])
unfolding Meets MeetsOutputSynchronization times
output_contingent =
    record {
      can_be_met = λ colour few. met colour few;
      can_be_missed = λ m. omega (arith, (m 1 (omega arith) 0 1 0 (omega arith) (omega arith) (omega arith)).2);
    }
  where
    steps : List Step
    steps = event 49 10 ∷ event 57 12 ∷ event 65 13 ∷ []

    silent : (c : ℕ) → 2 ≤ c → c ≤ last_colour → length (times (stream 48 c) steps) ≡ 0
    silent c h few =
        rw (ne_eqb 49 (stream 48 c) (λ e. omega arith), ne_eqb 57 (stream 48 c) (λ e. omega arith), ne_eqb 65 (stream 48 c) (λ e. omega arith))

    met : (colour : ℕ) → colour ≤ last_colour → MeetsOutputSynchronization 48 (49 ∷ 50 ∷ []) 2 colour steps
    met zero few i j k h g l = absurd (omega arith)
    met (suc zero) few (suc i) j k h g l = absurd (omega arith)
    met (suc zero) few zero zero zero h g l = (omega arith, omega arith, omega arith)
    met (suc zero) few zero zero (suc zero) h g l = (omega arith, omega arith, omega arith)
    met (suc zero) few zero zero (suc (suc k)) h g l = absurd (omega arith)
    met (suc zero) few zero (suc zero) zero h g l = (omega arith, omega arith, omega arith)
    met (suc zero) few zero (suc zero) (suc zero) h g l = (omega arith, omega arith, omega arith)
    met (suc zero) few zero (suc zero) (suc (suc k)) h g l = absurd (omega arith)
    met (suc zero) few zero (suc (suc j)) k h g l = absurd (omega arith)
    met (suc (suc colour)) few i j k h g l = absurd (omega (arith, silent (suc (suc colour)) (omega arith) few))
