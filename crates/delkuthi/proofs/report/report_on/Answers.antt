-- What is written is what the summary of the monitor says that has taken the recording.
use Rattle.delkuthi.proofs.{Reports.reports_on}
use Rattle.delkuthi.proofs.report.report_on.Goals as goal

pub returns : goal.returns
returns c =
    reports_on c.summary_of.result c.answer_on-answer.ensures c.summary_of.ensures c.write.ensures
