-- The questions are put in their order, and the body is the part of the bytes that the definition names.
use Rattle.table.proofs.Names.{Bool, Bytes, Constraint, Decides, Judged, List, ShapeFits, [], ap, arith, body_at, failed, ◌≡◌}
use Rattle.table.proofs.Names.{◌+◌, ◌-◌, ◌∙◌, drop, length_at, loaded_row, not, refl, replicate, row_from, row_in, row_read, row_questions}
use Rattle.table.proofs.Names.{row_questions_in, row_read_at, skipped, stands_known, subst, take, yes_of, ℕ}
use Rattle.constraint.specs.Answers.{answer_of}
use Rattle.table.proofs.Places.{part_body, place_full, place_misshapen, place_row, place_short, row_at}
use Rattle.table.proofs.reader.validate_row.Goals as goal

-- the shape that is tested is that of the body at the place
shape : (edition : ℕ) (bytes : List ℕ) (place size : ℕ) → size ≡ length_at bytes place → (b : Bool)
    → Decides (ShapeFits edition (take (place + 2 + size - (place + 2)) (drop (place + 2) bytes))) b
    → Decides (ShapeFits edition (body_at bytes place)) b
shape edition bytes place size e b d = subst (λ (body : List ℕ). Decides (ShapeFits edition body) b) (part_body bytes place size e) d

-- a slice of bytes holds bytes, so the row at the place is the one that the body is read as
pub returns-then-not-whole_at : goal.returns-then-not-whole_at
unfolding Bytes
returns-then-not-whole_at c =
    let asked = c.whole_at in let a = c.args in (
      row_at a.edition a.bytes.now a.place (λ i h. omega (arith, (c.type_inv.bytes i).fits)),
      place_short a.edition a.bytes.now a.before a.place _ (failed asked.result asked.ensures (ap not c.if-not-whole_at.true)),
    )

pub returns-then-before-ge-ROW_LIMIT : goal.returns-then-before-ge-ROW_LIMIT
unfolding Bytes
returns-then-before-ge-ROW_LIMIT c =
    let a = c.args in
    let whole = yes_of c.whole_at.result c.whole_at.ensures c.if-not-whole_at.false in (
      row_at a.edition a.bytes.now a.place (λ i h. omega (arith, (c.type_inv.bytes i).fits)),
      place_full a.edition a.bytes.now a.before a.place _ whole c.if-before-ge-ROW_LIMIT.true,
    )

pub returns-then-not-shape_fits : goal.returns-then-not-shape_fits
unfolding Bytes
returns-then-not-shape_fits c =
    let a = c.args in
    let whole = yes_of c.whole_at.result c.whole_at.ensures c.if-not-whole_at.false in
    let size = c.two_at-size in (
      row_at a.edition a.bytes.now a.place (λ i h. omega (arith, (c.type_inv.bytes i).fits)),
      place_misshapen a.edition a.bytes.now a.before a.place _ whole (omega arith)
          (failed c.shape_fits.result (shape a.edition a.bytes.now a.place size.result size.ensures c.shape_fits.result c.shape_fits.ensures)
          (ap not c.if-not-shape_fits.true)),
    )

-- the row that is judged is the one that the body at the place is read as, and question 4 has been asked
pub returns : goal.returns
unfolding Bytes
returns c =
    let a = c.args in let bytes = a.bytes.now in
    let size = c.two_at-size in
    let whole = yes_of c.whole_at.result c.whole_at.ensures c.if-not-whole_at.false in
    let read : row_read c.load-tag.result c.load-tag.new.values ≡ row_read_at bytes a.place =
    loaded_row (take (a.place + 2 + size.result - (a.place + 2)) (drop (a.place + 2) bytes)) (replicate 18 0) c.load-tag.new.values
    c.load-tag.result refl c.load-tag.ensures
    ∙ ap (λ (body : List ℕ). row_in (row_from body)) (part_body bytes a.place size.result size.ensures) in
    let fits =
    yes_of c.shape_fits.result (shape a.edition bytes a.place size.result size.ensures c.shape_fits.result c.shape_fits.ensures)
    c.if-not-shape_fits.false in
    let here = row_at a.edition bytes a.place (λ i h. omega (arith, (c.type_inv.bytes i).fits)) in (
      here,
      place_row a.edition bytes a.before a.place _ _ whole (omega arith) fits
          (skipped [] (row_questions (row_read_at bytes a.place)) 4 _ (stands_known (body_at bytes a.place) _ fits (here fits)) _
          (subst (λ (found : Constraint). Judged (row_questions_in a.edition found) (answer_of c.validate_values.result)) read
          c.validate_values.ensures)),
    )
