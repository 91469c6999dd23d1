-- Of a list of questions the last stands apart: an answer that it does not give is the answer to those before it, so lists
-- that differ in it alone have one answer.
use Rattle.constraint.proofs.Names.{Answer, Judged, List, Question, Refused, Taken, [], ◌∷◌, ◌≡◌, inl, inr, subst, ℕ}
use Rattle.constraint.proofs.Judged.{judged_once, never}

-- the number of the last question, what it asks, and the questions before it
abbrev pub last_number : List Question → ℕ
last_number [] = 0
last_number (q ∷ []) = q.0
last_number (q ∷ (p ∷ later)) = last_number (p ∷ later)

abbrev pub LastAsked : List Question → Type 0
LastAsked [] = Unit {0}
LastAsked (q ∷ []) = q.1
LastAsked (q ∷ (p ∷ later)) = LastAsked (p ∷ later)

abbrev pub before : List Question → List Question
before [] = []
before (q ∷ []) = []
before (q ∷ (p ∷ later)) = q ∷ before (p ∷ later)

-- where all are answered "yes", the last is
pub judged_last : (qs : List Question) → Judged qs Taken → LastAsked qs
unfolding Judged
judged_last [] j = tt
judged_last (q ∷ []) (inl h) = h.0
judged_last (q ∷ []) (inr h) = never (cc)
judged_last (q ∷ (p ∷ later)) (inl h) = judged_last (p ∷ later) h.1
judged_last (q ∷ (p ∷ later)) (inr h) = never (cc)

-- an answer that the last does not give is the answer to those before it
judged_before : (qs : List Question) (a : Answer) → Judged qs a → ¬ (a ≡ Refused (last_number qs)) → Judged (before qs) a
unfolding Judged
judged_before [] a j other = j
judged_before (q ∷ []) a (inl h) other = h.1
judged_before (q ∷ []) a (inr h) other = absurd (other h.1)
judged_before (q ∷ (p ∷ later)) a (inl h) other = inl (h.0, judged_before (p ∷ later) a h.1 other)
judged_before (q ∷ (p ∷ later)) a (inr h) other = inr h

-- two lists of questions that differ in the last alone have one answer, if it gives neither
pub judged_but_last : (qs ps : List Question) → before qs ≡ before ps → (a b : Answer) → Judged qs a → Judged ps b
    → ¬ (a ≡ Refused (last_number qs)) → ¬ (b ≡ Refused (last_number ps)) → a ≡ b
judged_but_last qs ps same a b j k other other' =
    judged_once (before ps) a b (subst (λ (front : List Question). Judged front a) same (judged_before qs a j other)) (judged_before ps b k other')
