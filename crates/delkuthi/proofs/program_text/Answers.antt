-- The two sizes are asked for first, and then the report.
use Rattle.delkuthi.proofs.Names.{arith, fits, inl, inr, too_large}
use Rattle.delkuthi.proofs.{Reports.holds_refusal, Reports.summary_report}
use Rattle.delkuthi.proofs.program_text.Goals as goal

pub returns-then-table-gt-TABLE_SIZE_LIMIT : goal.returns-then-table-gt-TABLE_SIZE_LIMIT
returns-then-table-gt-TABLE_SIZE_LIMIT c =
    record {
      bytes = _;
      said = too_large (λ small. elim c.then-table-gt-TABLE_SIZE_LIMIT.either [
        | inl table ↦ omega (arith, small.0, table)
        | inr recording ↦ omega (arith, small.1, recording.1)
      ]);
      holds = holds_refusal 17 0 c.refused_line.new.self (rw (← c.new-text.ensures, ← c.from.ensures) c.refused_line.ensures);
    }

pub returns : goal.returns
returns c =
    let made = summary_report c.summary_of.result c.answer_on-answer.ensures c.summary_of.ensures in
    record { bytes = _; said = fits (omega arith) (omega arith) made; holds = c.text_of.ensures }
