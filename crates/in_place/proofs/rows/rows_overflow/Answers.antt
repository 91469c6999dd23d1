-- Row after row, the lowest first: what is left to ask decides, as none of the rows before was crowded.
use Rattle.in_place.proofs.Names.{Bool, Lent, List, ◌-◌, ◌<◌, ◌||◌, ◌∙◌, ◌≡◌, ap, arith, bit_and, crowded, crowded_at, kept_at}
use Rattle.in_place.proofs.Names.{row_at, rows_in, sym, ℕ}
use Rattle.in_place.proofs.{Blocks.row_lies, RowSets.Lowest, RowSets.lowest, RowSets.no_rows, RowSets.rows_first}
use lib.Bits.{and_le_r}
use lib.Count.{count_trailing_zeros}
use Rattle.in_place.proofs.rows.rows_overflow.Goals as goal

-- the lowest row that is left
low : (left : ℕ) → 0 < left → left < 4294967296 → Lowest 32 left (count_trailing_zeros 32 left)
low left some few = lowest 32 left some few

-- it is asked, and then the others
next : (h : Lent) (rows left stream t : ℕ) (answer : Bool) → 0 < left → left < 4294967296
    → crowded h (rows_in rows) stream t ≡ crowded h (rows_in left) stream t → answer ≡ crowded_at h (count_trailing_zeros 32 left) stream t
    → crowded h (rows_in rows) stream t ≡ (answer || crowded h (rows_in (bit_and left (left - 1))) stream t)
next h rows left stream t answer some few so_far asked =
    so_far ∙ ap (λ (list : List ℕ). crowded h list stream t) (rows_first left some few)
    ∙ ap (λ (b : Bool). b || crowded h (rows_in (bit_and left (left - 1))) stream t) (sym asked)

pub returns-then-event_overflows : goal.returns-then-event_overflows
returns-then-event_overflows c h e s =
    let a = c.args in let left = c.loop-left.left in let i = count_trailing_zeros 32 left in
    let low_row = low left c.loop-left-test.true c.loop-left.invariant.0 in
    let asked = c.event_overflows.ensures (row_at h.monitor i) (kept_at h.monitor i) (row_lies h s a.m.now e i low_row.below) in
    sym (next h a.rows left a.stream a.t _ c.loop-left-test.true c.loop-left.invariant.0 (c.loop-left.invariant.1 h e s) asked
    ∙ ap (λ (b : Bool). b || crowded h (rows_in (bit_and left (left - 1))) a.stream a.t) c.if-event_overflows.true)

pub loop-left-preserved : goal.loop-left-preserved
loop-left-preserved c =
    let a = c.args in let left = c.loop-left.left in let i = count_trailing_zeros 32 left in
    let low_row = low left c.loop-left-test.true c.loop-left.invariant.0 in (
      omega (arith, c.loop-left.invariant.0, and_le_r left (left - 1)),
      λ h e s.
          let asked = c.event_overflows.ensures (row_at h.monitor i) (kept_at h.monitor i) (row_lies h s a.m.now e i low_row.below) in
          next h a.rows left a.stream a.t _ c.loop-left-test.true c.loop-left.invariant.0 (c.loop-left.invariant.1 h e s) asked
          ∙ ap (λ (b : Bool). b || crowded h (rows_in (bit_and left (left - 1))) a.stream a.t) c.if-event_overflows.false,
    )

pub returns : goal.returns
returns c h e s =
    let l = c.loop-left in let a = c.args in
    let none : l.left ≡ 0 = omega (arith, c.loop-left-test.false) in
    sym (l.invariant.1 h e s ∙ ap (λ (k : ℕ). crowded h (rows_in k) a.stream a.t) none
    ∙ ap (λ (rows : List ℕ). crowded h rows a.stream a.t) no_rows)
