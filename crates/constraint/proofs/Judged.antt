-- Questions have one answer, since each is answered "yes" or "no"; and the answers to the parts of a list of questions determine the answer to the
-- list.
use Rattle.constraint.proofs.Names.{Answer, Bool, Decides, Judged, List, Question, Refused, Taken, [], ◌++◌, ◌∙◌, ◌∷◌, ◌≡◌, ◌≤◌, arith}
use Rattle.constraint.proofs.Names.{eqb, eqb-false, eqb-true, false, inl, inr, leb, leb-false, leb-true, not}
use Rattle.constraint.proofs.Names.{not-false, refl, subst⁻¹, sym, true, ℕ}

-- anything follows where two different constructors are said to be equal: from that, `cc` proves 0 ≡ 1
pub never : {A : Type 0} → ◌≡◌ {A = ℕ} 0 1 → A
never e = absurd (omega arith)

-- what a callee asks that requires nothing
pub free : {A K : Type 0} → A → K → Unit {0}
free c κs = tt

-- Tests

-- a test says "yes"
pub yes_of : {asked : Type 0} (b : Bool) → Decides asked b → b ≡ true → asked
yes_of true d e = d
yes_of false d e = never (cc)

-- a branch on the negated test is passed by
pub passed : {asked : Type 0} (b : Bool) → Decides asked b → not b ≡ false → asked
passed b d e = yes_of b d (not-false b e)

-- a branch on the negated test is taken
pub failed : {asked : Type 0} (b : Bool) → Decides asked b → not b ≡ true → ¬ asked
failed true d e = never (cc)
failed false d e = d

-- a test of one question is a test of another that asks the same
pub same_test : {asked other : Type 0} → (asked → other) → (other → asked) → (b : Bool) → Decides asked b → Decides other b
same_test f g true d = f d
same_test f g false d = λ h. d (g h)

pub test_le : (m n : ℕ) → Decides (m ≤ n) (leb m n)
test_le m n = go (leb m n) refl
  where
    go : (b : Bool) → leb m n ≡ b → Decides (m ≤ n) b
    go true e = leb-true m n e
    go false e = λ h. omega (arith, leb-false m n e)

pub test_equal : (m n : ℕ) → Decides (m ≡ n) (eqb m n)
test_equal m n = go (eqb m n) refl
  where
    go : (b : Bool) → eqb m n ≡ b → Decides (m ≡ n) b
    go true e = eqb-true m n e
    go false e = eqb-false m n e

-- Lists of questions

pub judged_none : Judged [] Taken
unfolding Judged
judged_none = refl

pub judged_yes : (n : ℕ) (asked : Type 0) (later : List Question) (a : Answer) → asked → Judged later a → Judged ((n, asked) ∷ later) a
unfolding Judged
judged_yes n asked later a h j = inl (h, j)

pub judged_no : (n : ℕ) (asked : Type 0) (later : List Question) → ¬ asked → Judged ((n, asked) ∷ later) (Refused n)
unfolding Judged
judged_no n asked later h = inr (h, refl)

-- where all are answered "yes", the first is, and the later ones are
pub judged_all : (n : ℕ) (asked : Type 0) (later : List Question) → Judged ((n, asked) ∷ later) Taken → asked × Judged later Taken
unfolding Judged
judged_all n asked later (inl h) = h
judged_all n asked later (inr h) = never (cc)

-- the answer to questions that are all answered "yes", and to later ones, is that to the later ones
pub judged_later : (first later : List Question) (a : Answer) → Judged first Taken → Judged later a → Judged (first ++ later) a
unfolding Judged
judged_later [] later a h j = j
judged_later (q ∷ first) later a (inl h) j = inl (h.0, judged_later first later a h.1 j)
judged_later (q ∷ first) later a (inr h) j = never (cc)

-- where all are answered "yes", those of each part are
pub judged_parts : (first later : List Question) → Judged (first ++ later) Taken → Judged first Taken × Judged later Taken
unfolding Judged
judged_parts [] later h = (refl, h)
judged_parts (q ∷ first) later (inl h) = let parts = judged_parts first later h.1 in (inl (h.0, parts.0), parts.1)
judged_parts (q ∷ first) later (inr h) = never (cc)

-- a refusal stands whatever is asked later
pub judged_first : (first later : List Question) (n : ℕ) → Judged first (Refused n) → Judged (first ++ later) (Refused n)
unfolding Judged
judged_first [] later n h = never (cc)
judged_first (q ∷ first) later n (inl h) = inl (h.0, judged_first first later n h.1)
judged_first (q ∷ first) later n (inr h) = inr h

-- a question that is answered "yes" may be left out, or put in
pub skipped : (before later : List Question) (n : ℕ) (asked : Type 0) → asked → (a : Answer) → Judged (before ++ ((n, asked) ∷ later)) a
    → Judged (before ++ later) a
unfolding Judged
skipped [] later n asked holds a (inl h) = h.1
skipped [] later n asked holds a (inr h) = absurd (h.0 holds)
skipped (q ∷ before) later n asked holds a (inl h) = inl (h.0, skipped before later n asked holds a h.1)
skipped (q ∷ before) later n asked holds a (inr h) = inr h

pub put_in : (before later : List Question) (n : ℕ) (asked : Type 0) → asked → (a : Answer) → Judged (before ++ later) a
    → Judged (before ++ ((n, asked) ∷ later)) a
unfolding Judged
put_in [] later n asked holds a j = inl (holds, j)
put_in (q ∷ before) later n asked holds a (inl h) = inl (h.0, put_in before later n asked holds a h.1)
put_in (q ∷ before) later n asked holds a (inr h) = inr h

-- a question that asks less may stand for another of its number, where the answer is not that number
pub widened : (first later : List Question) (n : ℕ) (asked wider : Type 0) → (asked → wider) → (a : Answer) → ¬ (a ≡ Refused n)
    → Judged (first ++ ((n, asked) ∷ later)) a → Judged (first ++ ((n, wider) ∷ later)) a
unfolding Judged
widened [] later n asked wider less a other (inl h) = inl (less h.0, h.1)
widened [] later n asked wider less a other (inr h) = absurd (other h.1)
widened (q ∷ first) later n asked wider less a other (inl h) = inl (h.0, widened first later n asked wider less a other h.1)
widened (q ∷ first) later n asked wider less a other (inr h) = inr h

-- §9.1: questions have one answer
pub judged_once : (questions : List Question) (a b : Answer) → Judged questions a → Judged questions b → a ≡ b
unfolding Judged
judged_once [] a b h k = h ∙ sym k
judged_once (q ∷ later) a b (inl h) (inl k) = judged_once later a b h.1 k.1
judged_once (q ∷ later) a b (inl h) (inr k) = absurd (k.0 h.0)
judged_once (q ∷ later) a b (inr h) (inl k) = absurd (h.0 k.0)
judged_once (q ∷ later) a b (inr h) (inr k) = h.1 ∙ sym k.1

-- the same where what is asked later may differ, unless the first are all answered "yes"
pub judged_once_on : (first later other : List Question) (a b : Answer) → (Judged first Taken → later ≡ other)
    → Judged (first ++ later) a → Judged (first ++ other) b → a ≡ b
unfolding Judged
judged_once_on [] later other a b same h k = judged_once later a b h (subst⁻¹ (λ (qs : List Question). Judged qs b) (same refl) k)
judged_once_on (q ∷ first) later other a b same (inl h) (inl k) = judged_once_on first later other a b (λ all. same (inl (h.0, all))) h.1 k.1
judged_once_on (q ∷ first) later other a b same (inl h) (inr k) = absurd (k.0 h.0)
judged_once_on (q ∷ first) later other a b same (inr h) (inl k) = absurd (h.0 k.0)
judged_once_on (q ∷ first) later other a b same (inr h) (inr k) = h.1 ∙ sym k.1
