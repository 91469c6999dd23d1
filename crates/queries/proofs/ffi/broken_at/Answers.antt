-- The step that broke the row stands at its place.
use Rattle.queries.proofs.Names.{◌∙◌, ap, ltb, mark, ℕ}
use Rattle.queries.proofs.{Places.numbers_lie, RowPresent.mark_small, RowPresent.marked}
use Rattle.queries.proofs.ffi.broken_at.Goals as goal

pub returns : goal.returns
returns c =
    let is = c.from.ensures ∙ marked _ in (
      rw is (mark_small _),
      λ n holds. is ∙ ap (λ (k : ℕ). mark (ltb 0 k)) (numbers_lie c.args.m.now n holds c.args.i c.requires).broken_is,
    )
