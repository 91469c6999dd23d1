-- The bytes are judged before anything is stored; where they are accepted, every word is stored, those of the lists last.
use Rattle.fresh.proofs.Names.{BeginsUpTo, Constraint, List, Words, [], ◌∙◌, ◌≡◌, after, ap, arith, begun, fresh_lent, numbered}
use Rattle.fresh.proofs.Names.{refusal_number, refused, scan_start, sets_to, subst, sym, with_lists, words_of_lent, ℕ}
use Rattle.fresh.proofs.{Freshness.fresh_indexes, Freshness.fresh_shaped}
use Rattle.std.proofs.lemmas.Result.{err_from_is_err_and}
use Rattle.fresh.proofs.fresh.Goals as goal

pub begin-requires : goal.begin-requires
begin-requires c =
    let counted = c.in_ok-rows.ensures in (counted.rows, scan_start c.args.table.now counted.rows counted.reads)

pub enlist-requires : goal.enlist-requires
enlist-requires c = let counted = c.in_ok-rows.ensures in omega (arith, counted.counted, counted.room)

pub returns : goal.returns
returns c =
    let a = c.args in
    let counted = c.in_ok-rows.ensures in
    let rows : List Constraint = counted.rows in
    let lies = c.begin.ensures rows (scan_start a.table.now rows counted.reads) counted.room counted.counted in
    let words : c.enlist.new.m ≡ words_of_lent (fresh_lent rows) =
    c.enlist.ensures (fresh_lent rows) (fresh_shaped rows counted.room) lies
    ∙ ap (λ (n : ℕ). words_of_lent (with_lists (fresh_lent rows) (sets_to (after rows []) n 64)))
    counted.counted in
    subst (λ (exit : Words). BeginsUpTo a.newest a.table.now a.m.now 0 exit) (sym words)
    (begun rows counted.reads (_, counted.accepted) (fresh_indexes rows (_, counted.accepted)))

pub returns-in_err-rows : goal.returns-in_err-rows
returns-in_err-rows c =
    let a = c.args in
    let exit = err_from_is_err_and c.from_residual.result c.from_residual.ensures.1 in
    let some = numbered c.in_err-rows.field-0.0.refusal in
    rw (exit.1, exit.2)
    (refused (refusal_number c.in_err-rows.field-0.0.refusal) c.in_err-rows.field-0.0.place c.in_err-rows.ensures some.0 (omega (arith, some.1)))
