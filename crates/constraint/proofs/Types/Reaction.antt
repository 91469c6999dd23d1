-- A Reaction looks at the times of each colour of its two kinds.
use Rattle.constraint.proofs.Names.{List, Meets, MeetsReaction, Reaction, Step, [], ◌∷◌, ◌≡◌, ◌≤◌, arith, event, last_colour, length, ne_eqb}
use Rattle.constraint.proofs.Names.{refl, stream, subst₂, suc, times, waiting, zero, ℕ}
use Rattle.constraint.proofs.{Lawful.Contingent, Lawful.Lawful, Lawful.of_colour, Lists.each_left, Lists.each_right, Streams.colours}

pub lawful_reaction : (stimulus response lower upper : ℕ) → Lawful (Reaction stimulus response lower upper)
unfolding Meets waiting
lawful_reaction stimulus response lower upper =
    record {
      same = λ a b in_order same earlier m colour few. subst₂ (MeetsReaction lower upper)
          (of_colour stimulus a b (each_left (λ s. times s a ≡ times s b) (colours stimulus) (colours response) same) colour few)
          (of_colour response a b (each_right (λ s. times s a ≡ times s b) (colours stimulus) (colours response) same) colour few) (m colour few);
      waits_same = λ a b same. refl;
    }

-- §2.2, §5.9: a stimulus of colour 1 at 10 and the first response of that colour at 15; and one at 17
pub reaction_contingent : Contingent (Reaction 48 49 4 6) (event 49 10 ∷ event 57 15 ∷ []) (event 49 10 ∷ event 57 17 ∷ [])
unfolding Meets MeetsReaction times
reaction_contingent = record {
  can_be_met = λ colour few. met colour few;
  can_be_missed =
      λ m. omega (arith, (m 1 (omega arith) 0 (omega arith)).1.1);
}
  where
    steps : List Step
    steps = event 49 10 ∷ event 57 15 ∷ []

    met : (colour : ℕ) → colour ≤ last_colour → MeetsReaction 4 6 (times (stream 48 colour) steps) (times (stream 49 colour) steps)
    met zero few i h = absurd (omega arith)
    met (suc zero) few zero h = (omega arith, (omega arith, omega arith))
    met (suc zero) few (suc i) h = absurd (omega arith)
    met (suc (suc colour)) few i h = absurd (omega (arith, silent (suc (suc colour)) (omega arith) few))
      where
        silent : (c : ℕ) → 2 ≤ c → c ≤ last_colour → length (times (stream 48 c) steps) ≡ 0
        silent c h few = rw (ne_eqb 49 (stream 48 c) (λ e. omega arith), ne_eqb 57 (stream 48 c) (λ e. omega arith))
