-- Kind after kind: before the turn of a kind the sets of those before it are stored.
use Rattle.fresh.proofs.Names.{List, ListsLie, ◌∙◌, ◌≡◌, add-one, ap, arith, padded, sets_to, subst, sym, with_lists}
use Rattle.fresh.proofs.Names.{words_of_lent, ℕ}
use Rattle.fresh.proofs.{Freshness.sets_next, Freshness.sets_whole, Lists.shaped_lists}
use Rattle.fresh.proofs.enlist.Goals as goal

pub loop-kind-init : goal.loop-kind-init
unfolding sets_to
loop-kind-init c h s lies = lies

pub loop-kind-preserved : goal.loop-kind-preserved
loop-kind-preserved c h s lies =
    let n = c.args.n in let kind = c.loop-kind.kind in let m = h.monitor in
    let so_far = c.loop-kind.invariant h s lies in
    let h' = with_lists h (padded 64 (sets_to m n kind)) in
    let wide = shaped_lists h s (sets_to m n kind) in
    c.put_set.ensures h' so_far wide
    ∙ ap (λ (lists : List ℕ). words_of_lent (with_lists h lists)) (sets_next m n kind c.set_of-rows.result
    (c.set_of-rows.ensures h' so_far wide)
    ∙ ap (λ (k : ℕ). padded 64 (sets_to m n k)) (sym (add-one kind)))

pub returns : goal.returns
returns c h s lies =
    let l = c.loop-kind in let n = c.args.n in
    let at_end : l.kind ≡ 64 = omega (arith, c.loop-kind-test.false, l.auto.kind-end) in
    subst (λ (k : ℕ). ListsLie h (sets_to h.monitor n k) l.m) at_end (l.invariant h s lies)
    ∙ ap (λ (lists : List ℕ). words_of_lent (with_lists h lists)) (sets_whole h.monitor n)

pub set_of-rows-requires : goal.set_of-rows-requires
set_of-rows-requires c = c.requires
