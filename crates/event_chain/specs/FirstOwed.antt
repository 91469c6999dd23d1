-- The due times of Reaction and of Age are the first of all colours' last moments.
use Rattle.event_chain.specs.{Age.due_age, Age.owed, Coloured.least_of, Pairs.due_pairs, Pairs.owed_pair}
use Rattle.event_chain.specs.Reaction.{due_but, high_but, latest}
use Rattle.std.specs.Prelude.{List, ◌*◌, ◌+◌, ◌≡◌, cond, eqb, get_or, min, suc, zero, ℕ}
use Rattle.constraint.proofs.Library.{ap, ap₂, refl}
use Rattle.constraint.proofs.Lists.{split}

module _ (colour low high : ℕ) (words : List ℕ) where
  highs : (n : ℕ) → latest (high_but colour high words n) ≡ owed_pair (λ l h. latest h) colour low high words n
  highs n =
      let x = get_or words (2 * n + 1) 0 in
      split (eqb n colour) (λ b. latest (cond b high x) ≡ cond b (latest high) (latest x)) (λ e. refl) (λ e. refl)

  reaction : (n : ℕ) → due_but n colour high words ≡ least_of (owed_pair (λ l h. latest h) colour low high words) n
  unfolding due_but least_of
  reaction zero = refl
  reaction (suc n) = ap₂ min (reaction n) (highs n)

  age : (n : ℕ) → due_age n colour low high words ≡ least_of (owed_pair owed colour low high words) n
  unfolding due_age least_of
  age zero = refl
  age (suc n) = ap (λ (x : ℕ). min x (owed_pair owed colour low high words n)) (age n)

  pub first_owed_reaction : due_but 8 colour high words ≡ due_pairs (λ l h. latest h) colour low high words 8
  unfolding due_pairs
  first_owed_reaction = reaction 8

  pub first_owed_age : due_age 8 colour low high words ≡ due_pairs owed colour low high words 8
  unfolding due_pairs
  first_owed_age = age 8
