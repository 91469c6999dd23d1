-- The loop goes from byte to byte: where none before was the kind, the answer to what is asked of those left is the answer to all.
use Rattle.constraint.proofs.Library.{◌∙◌, arith, false, sym, true}
use Rattle.constraint.proofs.Judged.{same_test}
use Rattle.table_row.proofs.FieldByField.{fields_end, kind_elsewhere, kind_here}
use Rattle.table_row.proofs.fields.Fields.is_new.Goals as goal
use Rattle.table_row.proofs.fields.Fields.is_new.Goals.{else-is_kind-via-then-is_kind+else-values-i, else-is_kind-via-else-is_kind}

pub returns-then-values-i : goal.returns-then-values-i
returns-then-values-i c =
    let fields = c.args.self in
    let is = sym c.is_kind.ensures ∙ c.if-is_kind.true in
    c.loop-i.invariant false
    (λ absent. (rw (kind_here fields.roles.now fields.values.now c.loop-i.i (omega arith) is) at absent).0 (sym c.if-values-i.true))

pub loop-i-preserved : goal.loop-i-preserved
loop-i-preserved c b later =
    let roles = c.args.self.roles.now in let values = c.args.self.values.now in
    let is = sym c.is_kind.ensures in
    let i = c.loop-i.i in
    c.loop-i.invariant b
    (elim c.else-is_kind.branch [
      | else-is_kind-via-then-is_kind+else-values-i w ↦ (rw (kind_here roles values i (omega arith) (is ∙ w.if-is_kind.true))
          (same_test (λ absent. (λ e. w.if-values-i.false (sym e), absent)) (λ absent. absent.1) b later))
      | else-is_kind-via-else-is_kind w ↦ (rw (kind_elsewhere roles values i (omega arith) (is ∙ w.if-is_kind.false)) later)
    ])

pub returns : goal.returns
returns c =
    let fields = c.args.self in
    c.loop-i.invariant true (rw (fields_end fields.roles.now fields.values.now c.loop-i.i (omega (arith, fields.roles_long))) tt)
