-- The test is that of `withdraw_of`; past it each row and each number is put back.
use Rattle.monitor.proofs.Names.{arith, cond_false, cond_true, le-ltb, lt-ltb, ltb, place_in_small, refuses, sym, takes}
use Rattle.monitor.proofs.Names.{withdraw_of, withdrawn, withdraws}
use Rattle.monitor.proofs.{Theorem.step_kept}
use Rattle.questions.proofs.{Places.no_undo_is}
use Rattle.monitor.proofs.Monitor.withdraw.Goals as goal

pub returns-then-undo-eq0 : goal.returns-then-undo-eq0
unfolding withdraw_of
returns-then-undo-eq0 c =
    let m = c.args.self in
    step_kept m withdraws (sym (cond_false (ltb 0 m.undo.may) (takes (withdrawn m)) (refuses 21 m)
    (le-ltb 0 m.undo.may (omega (arith, c.if-undo-eq0.true)))))

pub offset_bounds-after-at : goal.offset_bounds-after-at
offset_bounds-after-at c = omega (arith, c.place_in-at.ensures, place_in_small c.args.self.undo.place)

pub bounds-after-at : goal.bounds-after-at
bounds-after-at c = omega (
  arith,
  c.place_in-at.ensures,
  place_in_small c.args.self.undo.place,
)

pub returns : goal.returns
unfolding withdraw_of withdrawn
returns c =
    let m = c.args.self in
    step_kept m withdraws
    (simp (no_undo_is c.default-after.result c.default-after.ensures, c.undo_rows-after.ensures, c.place_in-at.ensures)
    (sym (cond_true (ltb 0 m.undo.may) (takes (withdrawn m)) (refuses 21 m)
    (lt-ltb 0 m.undo.may (omega (arith, c.if-undo-eq0.false))))))
