-- The words are cleared, the numbers are stored that are not 0, and then the rows.
use Rattle.fresh.proofs.Names.{RowsPut, Words, [], ◌∙◌, ◌≡◌, after, ap, arith, length, no_words, replicate, subst, ℕ}
use Rattle.fresh.proofs.{Freshness.begun_words, Freshness.numbered}
use Rattle.fresh.proofs.begin.Goals as goal

pub returns : goal.returns
returns c rows reads few n-is =
    let a = c.args in
    let words : Words = c.clear.new.blocks in
    let wide : length a.m.now ≡ 35 = omega arith in
    let cleared : words ≡ replicate 35 no_words = c.clear.ensures ∙ ap (λ (n : ℕ). replicate n no_words) wide in
    let long : length (numbered words a.n) ≡ 35 = ap (λ (w : Words). length (numbered w a.n)) cleared in
    begun_words rows few words c.put_rows.new.m cleared
    (subst (λ (n : ℕ). RowsPut (numbered words n) (after rows []) 32 c.put_rows.new.m) n-is (c.put_rows.ensures rows reads long))
