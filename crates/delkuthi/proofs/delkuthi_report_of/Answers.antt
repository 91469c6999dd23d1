-- Before the close nothing is written; after it, what the summary of the monitor says.
use Rattle.delkuthi.proofs.Names.{Summary, [], ◌∙◌, ap, sym}
use Rattle.delkuthi.proofs.{Reports.copied_none, Reports.reports_closed, Reports.reports_unclosed}
use Rattle.delkuthi.proofs.delkuthi_report_of.Goals as goal

pub returns-then-not-summary : goal.returns-then-not-summary
returns-then-not-summary c =
    let buffer = c.args.buffer.now in (
      ([], copied_none buffer),
      λ n holds. let mark = ap (λ (s : Summary). s.closed) (c.summary_of-summary.ensures n holds) in
          reports_unclosed n buffer (sym mark ∙ c.if-not-summary.true),
    )

pub returns : goal.returns
returns c = (
  (_, c.write.ensures),
  λ n holds. let is = c.summary_of-summary.ensures n holds in
      reports_closed n c.args.buffer.now c.write.result _
      (sym (ap (λ (s : Summary). s.closed) is) ∙ c.if-not-summary.false) (rw is at c.write.ensures),
)
