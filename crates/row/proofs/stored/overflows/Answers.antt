-- The code picks the type by its number, as `machine_of` does.
use Rattle.row.proofs.Names.{arith, Bool, List, Machine, ◌∙◌, ◌≡◌, ap, asked_of, overflows, get_or, machine_of, refl, sym, ℕ}
use Rattle.row.proofs.Names.{false, subst, ⊎_elim}
use Rattle.constraint.proofs.Library.{by_cases, ◌≢◌, ◌<◌, ℕ_discrete}
use Rattle.row.proofs.{Machines.beyond}
use Rattle.delay_order.specs.Delay.{machine_delay}
use Rattle.delay_order.specs.StrongDelay.{machine_strong_delay}
use Rattle.repeat_burst.specs.Repeat.{machine_repeat}
use Rattle.synchronizations.specs.StrongSynchronization.{machine_strong_synchronization}
use Rattle.repetition.specs.Repetition.{machine_repetition}
use Rattle.row.proofs.stored.overflows.Goals as goal

-- what one type answers, where it is the one that is chosen
by_type : (m : Machine) (w : List ℕ) (s t : ℕ) {r : Bool} → r ≡ asked_of m.overflows w s t → machine_of (get_or w 0 0) ≡ m
    → r ≡ asked_of overflows w s t
by_type m w s t e is = e ∙ ap (λ (x : Machine). asked_of x.overflows w s t) (sym is)

pub returns-in-1 : goal.returns-in-1
returns-in-1 c = let a = c.args in
    by_type machine_delay a.w.now a.stream a.t c.overflows.ensures
    (ap machine_of c.in-1.is)

pub returns-in-2 : goal.returns-in-2
returns-in-2 c = let a = c.args in
    by_type machine_strong_delay a.w.now a.stream a.t c.overflows-in-2.ensures
    (ap machine_of c.in-2.is)

pub returns-in-3 : goal.returns-in-3
returns-in-3 c = let a = c.args in
    by_type machine_repeat a.w.now a.stream a.t c.overflows-in-3.ensures
    (⊎_elim (λ e. ap machine_of e) (λ e. ap machine_of e) c.in-3.is)

pub returns-in-7 : goal.returns-in-7
returns-in-7 c = let a = c.args in
    by_type machine_strong_synchronization a.w.now a.stream a.t c.overflows-in-7.ensures
    (ap machine_of c.in-7.is)

pub returns-in-10 : goal.returns-in-10
returns-in-10 c = let a = c.args in
    by_type machine_repetition a.w.now a.stream a.t c.overflows-in-10.ensures
    (ap machine_of c.in-10.is)

-- at a number that the code doesn't name, it is that of a type that never asks, or of no type
module _ (w : List ℕ) (s t : ℕ) where
  Silent : ℕ → Type 0
  Silent n = false ≡ asked_of (machine_of n).overflows w s t

  or_at : (k n : ℕ) → Silent k → (n ≢ k → Silent n) → Silent n
  or_at k n is other = by_cases (ℕ_discrete n k) (λ e. subst Silent (sym e) is) other

  past_all : (n : ℕ) → 16 < n → Silent n
  unfolding Silent
  past_all n h = ap (λ (m : Machine). asked_of m.overflows w s t) (sym (beyond n h))

pub returns-in_default : goal.returns-in_default
unfolding Silent
returns-in_default c =
    let a = c.args in let tag = get_or a.w.now 0 0 in let rest = c.in_default.in_default-own.rest in
    let at = or_at a.w.now a.stream a.t in
    at 0 tag refl (λ n0. at 4 tag refl (λ n4. at 6 tag refl (λ n6. at 8 tag refl (λ n8. at 9 tag refl (λ n9.
    at 11 tag refl (λ n11. at 12 tag refl (λ n12. at 13 tag refl (λ n13. at 14 tag refl (λ n14. at 15 tag refl (λ n15.
    at 16 tag refl (λ n16. past_all a.w.now a.stream a.t tag
    (grind (arith, n0, n4, n6, n8, n9, n11, n12, n13, n14, n15, n16, rest)))))))))))))
