-- What an exit by `?` gives, and an array that a closure fills.
use denote.Param.Members.{Mut}
use Rattle.constraint.proofs.Library.{List, ◌+◌, ◌<◌, ◌∙◌, ◌≡◌, ◌≤◌, ap, arith, get_or, ltb, ltb-false, ltb-true, refl, subst, suc, sym, zero, ℕ}
use Rattle.constraint.proofs.Lists.{both, split}
use Rattle.constraint.specs.Answer.{Taken}
use Rattle.constraint.specs.Answers.{answer_of}
use Rattle.constraint.specs.declared.Refusal.{Refusal}
use Rattle.std.specs.Array.{IsFromFnResultFrom}
use Rattle.std.specs.Fn.{Called}
use Rattle.std.specs.Prelude.{Err, Ok, Result}
use Rattle.std.specs.Result.{IsErrAnd, MatchResult, is_ok}

-- where the error is mapped first: what went on is an `Ok`, or what the closure gives for the error
pub taken_before : {T U : Type 0} {D : Type 0} (r : Result T Refusal) (mapped : Result U D) (x : U) → is_ok mapped ≡ is_ok r → mapped ≡ Ok x
    → answer_of r ≡ Taken
taken_before (Ok y) mapped x same e = refl
taken_before (Err refusal) mapped x same e = both (sym (ap is_ok e) ∙ same)

pub error_before : {T E D : Type 0} (r : Result T E) (mapped : Result T D) (Gives : E → D → Type 0)
    → MatchResult r (λ x. mapped ≡ Ok x) (λ e. IsErrAnd mapped (Gives e)) → (d : D) → mapped ≡ Err d → (e : E) × (r ≡ Err e) × Gives e d
error_before (Ok x) mapped Gives cases d e = both (ap is_ok (sym cases ∙ e))
error_before (Err error) mapped Gives cases d e = (error, refl, subst (λ (m : Result _ _). IsErrAnd m (Gives error)) e cases)

-- an array of what a closure gives at each place, which changes nothing
module _ {F B : Type 0} (g : Mut F (ℕ × Unit {0}) B) (f : F) (given : ℕ → B) (n : ℕ)
    (gives : (i : ℕ) (x : B) (q : F) → i < n → Called g f (i, tt) x q → (q ≡ f) × (x ≡ given i)) (xs : List B) where
  pub each_given : (more i : ℕ) → i + more ≡ n → (p : F) → p ≡ f → IsFromFnResultFrom g p xs i more → (k : ℕ) (d : B) → i ≤ k → k < n
      → get_or xs k d ≡ given k
  each_given zero i sum p e calls k d from below = absurd (omega (arith, sum))
  each_given (suc more) i sum p e calls k d from below =
      let here = gives i calls.1 calls.0 (omega (arith, sum)) (subst (λ (s : F). Called g s (i, tt) calls.1 calls.0) e calls.3) in
      split (ltb i k) (λ b. get_or xs k d ≡ given k)
      (λ less. each_given more (i + 1) (omega (arith, sum)) calls.0 here.0 calls.4 k d (omega (arith, ltb-true i k less)) below)
      (λ past. let same : i ≡ k = omega (arith, ltb-false i k past) in
      subst (λ (m : ℕ). get_or xs m d ≡ given m) same (calls.2.1 d ∙ here.1))
