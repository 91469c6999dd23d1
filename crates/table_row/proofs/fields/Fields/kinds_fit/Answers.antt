-- The loop goes from byte to byte: each kind is asked to be at most 63 and none of the later ones, and the later ones fit by the turns to come.
use Rattle.constraint.proofs.Library.{◌∙◌, arith, false, lt-ltb, sym, true}
use Rattle.constraint.proofs.Judged.{failed, passed, same_test}
use Rattle.constraint.proofs.FittingKinds.{kinds_first, kinds_more, kinds_none, kinds_rest}
use Rattle.constraint.proofs.Lists.{both}
use Rattle.constraint.specs.{Steps.at}
use Rattle.table_row.proofs.FieldByField.{fields_end, kind_elsewhere, kind_here}
use Rattle.table_row.proofs.fields.Fields.kinds_fit.Goals as goal
use Rattle.table_row.proofs.fields.Fields.kinds_fit.Goals.{else-is_kind-via-then-is_kind+else-not-is_new, then-from-kind, else-from-kind}
use Rattle.table_row.proofs.fields.Fields.kinds_fit.Goals.{else-is_kind-via-else-is_kind}

pub returns-then-not-is_new : goal.returns-then-not-is_new
returns-then-not-is_new c =
    let roles = c.args.self.roles.now in let values = c.args.self.values.now in
    let is = sym c.is_kind.ensures ∙ c.if-is_kind.true in
    c.loop-i.invariant false
    (λ fit. let first = kinds_first _ _ (rw (kind_here roles values c.loop-i.i (omega arith) is) at fit) in
    elim c.if-from-kind.branch [
      | then-from-kind w ↦ omega (arith, first.0, w.if-from-kind.true, c.from.ensures)
      | else-from-kind w ↦ failed w.is_new.result w.is_new.ensures (sym w.value-is ∙ c.if-not-is_new.true) first.1
    ])

pub loop-i-preserved : goal.loop-i-preserved
loop-i-preserved c b later =
    let roles = c.args.self.roles.now in let values = c.args.self.values.now in
    let is = sym c.is_kind.ensures in
    let i = c.loop-i.i in
    c.loop-i.invariant b
    (elim c.else-is_kind.branch [
      | else-is_kind-via-then-is_kind+else-not-is_new w ↦ (elim w.if-from-kind.branch [
        | then-from-kind v ↦ both (sym (lt-ltb _ _ v.if-from-kind.true) ∙ sym v.value-is ∙ w.if-not-is_new.false)
        | else-from-kind v ↦ (
            let new = passed v.is_new.result v.is_new.ensures (sym v.value-is ∙ w.if-not-is_new.false) in
            rw (kind_here roles values i (omega arith) (is ∙ w.if-is_kind.true))
            (same_test (kinds_more (at values i) _ (omega (arith, v.if-from-kind.false, w.from.ensures), new)) (kinds_rest (at values i) _) b later))
      ])
      | else-is_kind-via-else-is_kind w ↦ (rw (kind_elsewhere roles values i (omega arith) (is ∙ w.if-is_kind.false)) later)
    ])

pub returns : goal.returns
returns c =
    let fields = c.args.self in
    c.loop-i.invariant true (rw (fields_end fields.roles.now fields.values.now c.loop-i.i (omega (arith, fields.roles_long))) kinds_none)
