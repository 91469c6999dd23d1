-- What is written is the page of the monitor's summary.
use Rattle.delkuthi.proofs.Names.{Copied, text_of}
use Rattle.delkuthi.proofs.{WordsRead.rows_there, Printing.page_kept}
use Rattle.delkuthi.proofs.printed.delkuthi_page.Goals as goal

pub returns : goal.returns
returns c =
    let written : Copied (text_of c.summary_of.result) c.args.buffer.now c.unwrap_or.result c.write.new.buffer =
    rw c.unwrap_or.ensures c.write.ensures.copied in (
      (_, written),
      λ n holds. page_kept n _ c.unwrap_or.result _ (rows_there c.args.m.now n holds) (rw (c.summary_of.ensures n holds) at written),
    )
