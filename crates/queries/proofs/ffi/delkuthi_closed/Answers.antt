-- Whether it is closed is given as a number.
use Rattle.queries.proofs.Names.{◌∙◌, ◌≡◌, ap, ltb, mark}
use Rattle.queries.proofs.{Places.said, RowPresent.mark_small, RowPresent.marked, Theorem.closed_asked}
use Rattle.queries.proofs.ffi.delkuthi_closed.Goals as goal

pub returns : goal.returns
returns c =
    let is = c.from.ensures ∙ marked _ in (
      rw is (mark_small _),
      λ n holds. closed_asked n (is ∙ ap mark (said _ n holds (λ x. c.closed.result ≡ ltb 0 x.closed) c.closed.ensures)),
    )
