-- Where a row is whole, its body is the part behind the length field, and it is read as the row that it stands for.
use Rattle.table.proofs.Names.{Bytes, List, RowAt, ◌+◌, ◌-◌, ◌∙◌, ◌≡◌, ap, arith, at, drop, failed, filler, length, length-sets}
use Rattle.table.proofs.Names.{loaded_row}
use Rattle.table.proofs.Names.{not, yes_of, refl, replicate, roles_of, row_from, row_in, row_read, row_read_at, subst⁻¹, take}
use Rattle.table.proofs.Names.{values_at, ℕ}
use Rattle.table.proofs.{Places.part_body, Places.row_at}
use Rattle.table.proofs.scan.load_at.Goals as goal

filler_is : row_read 6 (replicate 18 0) ≡ filler
unfolding row_read
filler_is = refl

pub returns-then-not-whole_at : goal.returns-then-not-whole_at
returns-then-not-whole_at c =
    let not_whole = failed c.whole_at.result c.whole_at.ensures (ap not c.if-not-whole_at.true) in
    record {
      placed = record {
        read = λ there. absurd (not_whole there);
        stands = λ there. absurd (not_whole there);
        behind = λ there. absurd (not_whole there);
        none = λ _. (filler_is, refl);
      };
      many = refl;
    }

-- a slice of bytes holds bytes, so the row at the place is the one that the body is read as
pub returns : goal.returns
unfolding Bytes
returns c =
    let a = c.args in let bytes = a.bytes.now in let size = c.two_at in
    let body = take (a.place + 2 + size.result - (a.place + 2)) (drop (a.place + 2) bytes) in
    let same : row_read c.load-tag.result c.load-tag.new.values ≡ row_read_at bytes a.place =
    loaded_row body a.values.now c.load-tag.new.values c.load-tag.result c.requires c.load-tag.ensures
    ∙ ap (λ (l : List ℕ). row_in (row_from l)) (part_body bytes a.place size.result size.ensures) in
    record {
      placed = record {
        read = λ there. same;
        stands = λ there edition. subst⁻¹ (RowAt edition bytes a.place) same (row_at edition bytes a.place (λ i h. omega (
          arith,
          (c.type_inv.bytes i).fits,
        )));
        behind = λ there. omega (arith, size.ensures);
        none = λ not_whole. absurd (not_whole (yes_of c.whole_at.result c.whole_at.ensures c.if-not-whole_at.false));
      };
      many = ap length c.load-tag.ensures.1 ∙ length-sets a.values.now 0 (values_at (roles_of (at body 0) (at body 1)) body 1) ∙ c.requires;
    }
