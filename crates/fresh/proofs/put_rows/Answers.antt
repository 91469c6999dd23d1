-- Row after row: before the turn of number i the first i are stored, and the others are read from the place on that the turn has.
use Rattle.fresh.proofs.Names.{Constraint, List, [], ◌∙◌, after, ap, ap₂, arith}
use Rattle.fresh.proofs.Names.{Known, Placed, no_row_undo, row_of, subst, sym, ℕ}
use Rattle.fresh.proofs.Scanned.{put_next, row_known, scan_next}
use Rattle.fresh.proofs.{Freshness.kept_is, Freshness.row_is}
use Rattle.row.specs.Stored as Stored
use Rattle.fresh.proofs.put_rows.Goals as goal

-- the row that is loaded
abbrev placed : ℕ → List ℕ → ℕ → Placed
placed tag values next = record { row = record { tag = tag; values = values }; next = next }

pub loop-i-preserved : goal.loop-i-preserved
loop-i-preserved c =
    let l = c.loop-i in (
      c.load_at-found.ensures.many,
      λ rows reads.
          let so_far = l.invariant.1 rows reads in
          let next = scan_next _ rows l.i l.place
          (placed c.load_at-found.result.tag c.load_at-found.new.values c.load_at-found.result.next) so_far.0 c.load_at-found.ensures.placed in
          let row = c.begin.ensures ∙ ap (λ (x : Constraint). Stored.words_of_row (row_of x) no_row_undo) next.0
          ∙ ap₂ Stored.words_of_row (sym (row_is rows l.i)) (sym (kept_is rows l.i)) in
          (next.1, λ long. put_next _ (after rows []) l.i l.m c.begin.new.row (omega (arith, long)) (so_far.1 long) row),
    )

-- the row that is loaded is of a known type
pub begin-requires : goal.begin-requires
begin-requires c =
    let l = c.loop-i in
    let rows = c.requires.0 in let reads = c.requires.1 in
    let next = scan_next _ rows l.i l.place (placed c.load_at-found.result.tag c.load_at-found.new.values c.load_at-found.result.next)
    (l.invariant.1 rows reads).0 c.load_at-found.ensures.placed in
    subst Known (sym next.0) (row_known _ rows reads l.i)
