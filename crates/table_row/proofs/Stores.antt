-- Values and fields stored one after the other.
use Rattle.constraint.proofs.Library.{List, ◌++◌, ◌+◌, ◌<◌, ◌∙◌, ◌≡◌, add-one, ap, ap₂, append-nil, arith, drop, drop-cons}
use Rattle.constraint.proofs.Library.{drop_of_length-le}
use Rattle.constraint.proofs.Library.{length, set, sets, sym, ℕ}
use Rattle.constraint.specs.Steps.{at}
use Rattle.constraint.specs.Bytes.{bytes_of, number_at}
use Rattle.big_endian.proofs.Numbers.{bytes_length}
use Rattle.big_endian.proofs.Stores.{stores_append, stores_front}
use Rattle.constraint.specs.Table.{fields_bytes}
use Rattle.table_row.specs.Records.{Loads, fields_from, roles_of, row_from, row_in, row_read, values_at, width}
use Rattle.table_row.proofs.Bodies.{place_bytes}
use Rattle.table_row.proofs.{FieldByField.fields_next, Standing.values_length}

-- a list stored over one of its length
pub sets_all : (l vs : List ℕ) → length l ≡ length vs → sets l 0 vs ≡ vs
sets_all l vs same =
    stores_front l vs (omega arith) ∙ ap (λ (rest : List ℕ). vs ++ rest) (drop_of_length-le l {i = length vs} (omega arith)) ∙ append-nil vs

pub values_more : (values roles body : List ℕ) (place i : ℕ) → i < length roles
    → sets values i (values_at (drop i roles) body place)
    ≡ sets (set values i (number_at (width (at roles i)) body place)) (i + 1) (values_at (drop (i + 1) roles) body (place + width (at roles i)))
unfolding values_at
values_more values roles body place i h = rw (add-one i, drop-cons roles i 0 h)

pub fields_more : (buffer : List ℕ) (next : ℕ) (roles values : List ℕ) (i : ℕ) → i < length roles
    → sets buffer next (fields_bytes (fields_from roles values i))
    ≡ sets (sets buffer next (bytes_of (width (at roles i)) (at values i))) (next + width (at roles i)) (fields_bytes (fields_from roles values
    (i + 1)))
fields_more buffer next roles values i h =
    let later = fields_bytes (fields_from roles values (i + 1)) in
    let here = bytes_of (width (at roles i)) (at values i) in
    ap (sets buffer next) (ap fields_bytes (fields_next roles values i h) ∙ place_bytes (at roles i) (at values i) (fields_from roles values (i + 1)))
    ∙ stores_append buffer next here later
    ∙ ap (λ (n : ℕ). sets (sets buffer next here) (next + n) later) (bytes_length (width (at roles i)) (at values i))

-- a row that is loaded is the one that the body is read as
pub loaded_row : (body entry exit : List ℕ) (tag : ℕ) → length entry ≡ 18 → Loads body entry tag exit → row_read tag exit ≡ row_in (row_from body)
loaded_row body entry exit tag long loads =
    let roles = roles_of (at body 0) (at body 1) in
    ap₂ row_read loads.0 (loads.1 ∙ sets_all entry (values_at roles body 1) (long ∙ sym (values_length roles body 1)))
