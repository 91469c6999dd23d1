-- Row after row, the last first: before the turn of the row below number i the set of those from i on is there, one digit for each.
use Rattle.fresh.proofs.Names.{◌*◌, ◌+◌, ◌-◌, ◌<◌, ◌^◌, ◌∙◌, ◌≡◌, ◌≤◌, ap, ap₂, arith, is_of, pow-le-pow_right, pow-suc}
use Rattle.fresh.proofs.Names.{set_from, subst, suc, ℕ}
use Rattle.fresh.proofs.set_of.Goals as goal

pub loop-i-init : goal.loop-i-init
unfolding set_from
loop-i-init c =
    let a = c.args in
    let none : 0 ≡ a.n - a.n = omega arith in
    (subst (λ (k : ℕ). 0 < 2 ^ k) none (omega arith), λ h e s. ap (set_from (is_of h.monitor a.kind) a.n) none)

pub loop-i-preserved : goal.loop-i-preserved
unfolding set_from
loop-i-preserved c =
    let a = c.args in let i = c.loop-i.i in let inv = c.loop-i.invariant in
    let more : suc (a.n - i) ≡ a.n - (i - 1) = omega (arith, c.loop-i-test.true, c.loop-i.auto.i) in
    let same : i ≡ suc (i - 1) = omega (arith, c.loop-i-test.true) in (
      subst (λ (k : ℕ). 2 * c.loop-i.rows + c.digit_of.result < 2 ^ k) more
          (omega (arith, inv.0, c.digit_of.ensures.0, pow-suc 2 (a.n - i))),
      λ h e s.
          let test = is_of h.monitor a.kind in
          ap₂ (λ (x d : ℕ). 2 * x + d) (inv.1 h e s ∙ ap (λ (k : ℕ). set_from test k (a.n - i)) same) (c.digit_of.ensures.1 h e s)
          ∙ ap (set_from test (i - 1)) more,
    )

-- there are at most 32 digits
small : (n i rows : ℕ) → n ≤ 32 → rows < 2 ^ (n - i) → rows < 4294967296
small n i rows few below =
    let most : 2 ^ (n - i) ≤ 2 ^ 32 = pow-le-pow_right {n = 2} (omega arith) {i = n - i} {j = 32} (omega (arith, few)) in
    omega (arith, below, most)

pub overflow_mul-rows : goal.overflow_mul-rows
overflow_mul-rows c = omega (arith, small c.args.n c.loop-i.i c.loop-i.rows c.requires c.loop-i.invariant.0)
