-- The row goes behind the others, where there is room; of a full table only the count is changed, and of a fuller one nothing is.
use Rattle.constraint.proofs.Library.{◌∙◌, ◌+◌, ap, arith, ℕ}
use Rattle.table_row.specs.Tables.{rows_of}
use Rattle.table_row.specs.declared.Table.{Table}
use Rattle.table_row.proofs.{Tables.rows_more}
use Rattle.table_row.proofs.Table.with_row.Goals as goal
use Rattle.table_row.proofs.Table.with_row.Goals.{then-self-lt-ROW_LIMIT, else-self-lt-ROW_LIMIT}

pub returns : goal.returns
returns c =
    let a = c.args in
    elim c.if-self-lt-ROW_LIMIT.branch [
      | then-self-lt-ROW_LIMIT w ↦ (
          let before = ap (λ (t : Table). t.count) w.self-is in
          record {
            room = λ h. ap (λ (n : ℕ). rows_of (record { rows = c.if-self-lt-ROW_LIMIT.self.rows; count = n + 1 })) before
                ∙ ap (λ (t : Table). rows_of (record { rows = t.rows; count = a.self.count + 1 })) w.self-is
                ∙ rows_more a.self.rows a.self.count a.row (omega (arith, w.if-self-lt-ROW_LIMIT.true));
            full = λ h. absurd (omega (arith, h, w.if-self-lt-ROW_LIMIT.true));
          })
      | else-self-lt-ROW_LIMIT w ↦ (
          let before = ap (λ (t : Table). t.count) w.self-is in
          record {
            room = λ h. absurd (omega (arith, h, w.if-self-lt-ROW_LIMIT.false));
            full = λ h. omega (arith, before, h, w.if-self-lt-ROW_LIMIT.false);
          })
    ]
