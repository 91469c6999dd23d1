-- The length and the body of the row are stored one after the other, and the body's bytes are those of the row that it is read as.
use Rattle.table.proofs.Names.{Bytes, ◌+◌, ◌∙◌, ap, length, raw_row, sets, sym, ℕ}
use Rattle.table.proofs.RawRows.{raw_bytes, raw_length}
use Rattle.table.proofs.Stores.{row_stores}
use Rattle.table.proofs.raw.GivenRows.put_row.Goals as goal

pub returns : goal.returns
unfolding Bytes
returns c =
    let a = c.args in
    let bytes = a.self.bytes.now in let known = c.requires.0.0 in let whole = c.requires.0.1 in
    let same = c.body-body.ensures ∙ sym (raw_bytes a.self.edition bytes a.i known whole a.self.each_fits) in
    record {
      stored =
          row_stores a.buffer.now c.put_two.new.buffer c.put_body.new.buffer a.place (raw_row bytes a.i) _ (ap length same) c.put_two.ensures
          (c.put_body.ensures ∙ ap (sets c.put_two.new.buffer (a.place + 2)) same);
      behind = ap (λ (k : ℕ). a.place + 2 + k) (ap length same ∙ raw_length a.self.edition bytes a.i known whole a.self.each_fits);
    }
