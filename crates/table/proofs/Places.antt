-- The questions of the row at a place are put in their order, so each "no" needs the earlier ones answered "yes".
use Rattle.table.proofs.Names.{Answer, Bytes, Constraint, Decides, Judged, List, Refused, RowAt, ShapeFits, Taken, VersionUpTo, WholeAt, []}
use Rattle.table.proofs.Names.{◌+◌, ◌-◌, ◌<◌, ◌∷◌, ◌≡◌, ◌≤◌, add-sub_cancel_left, ap, arith, at, body_at, drop, edition_above}
use Rattle.table.proofs.Names.{judged_all, judged_no, judged_once_on, judged_yes, last_type, leb, length_at, place_questions, row_limit}
use Rattle.table.proofs.Names.{row_questions, same_test, take, test_le, ℕ}
use Rattle.table.proofs.Names.{bytes_part, row_stands, row_read_at, stands_once}
use Rattle.table.proofs.Shapes.{there}

module _ (edition : ℕ) (bytes : List ℕ) (i place : ℕ) (c : Constraint) where
  pub place_short : ¬ WholeAt bytes place → Judged (place_questions edition bytes i place c) (Refused 2)
  unfolding place_questions
  place_short short = judged_no 2 _ _ short

  pub place_full : WholeAt bytes place → row_limit ≤ i → Judged (place_questions edition bytes i place c) (Refused 3)
  unfolding place_questions
  place_full whole full = judged_yes 2 _ _ _ whole (judged_no 3 _ _ (λ h. omega arith))

  pub place_misshapen : WholeAt bytes place → i < row_limit → ¬ ShapeFits edition (body_at bytes place)
      → Judged (place_questions edition bytes i place c) (Refused 4)
  unfolding place_questions
  place_misshapen whole room shape = judged_yes 2 _ _ _ whole (judged_yes 3 _ _ _ room (judged_no 4 _ _ shape))

  pub place_row : (a : Answer) → WholeAt bytes place → i < row_limit → ShapeFits edition (body_at bytes place) → Judged (row_questions c) a
      → Judged (place_questions edition bytes i place c) a
  unfolding place_questions
  place_row a whole room shape judged = judged_yes 2 _ _ _ whole (judged_yes 3 _ _ _ room (judged_yes 4 _ _ _ shape judged))

-- what is known of a row that is taken
pub record PlaceTaken (edition : ℕ) (bytes : List ℕ) (i place : ℕ) (c : Constraint) : Type 0 where
  pub whole : WholeAt bytes place
  pub room : i < row_limit
  pub shape : ShapeFits edition (body_at bytes place)
  pub own : Judged (row_questions c) Taken

pub place_taken : (edition : ℕ) (bytes : List ℕ) (i place : ℕ) (c : Constraint) → Judged (place_questions edition bytes i place c) Taken
    → PlaceTaken edition bytes i place c
unfolding place_questions
place_taken edition bytes i place c judged =
    let whole = judged_all 2 (WholeAt bytes place) _ judged in
    let room = judged_all 3 (i < row_limit) _ whole.1 in
    let shape = judged_all 4 (ShapeFits edition (body_at bytes place)) _ room.1 in
    record { whole = whole.0; room = room.0; shape = shape.0; own = shape.1 }

-- the row that the body at a place is read as is the row at that place
pub row_at : (edition : ℕ) (bytes : List ℕ) (place : ℕ) → Bytes bytes → RowAt edition bytes place (row_read_at bytes place)
row_at edition bytes place all = row_stands {edition = edition} (body_at bytes place) (bytes_part bytes (length_at bytes place) (place + 2) all)

-- the row at a place is one, where it has a row's shape, so its questions have one answer
pub place_once : (edition : ℕ) (bytes : List ℕ) (i place : ℕ) (c d : Constraint) (a b : Answer) → RowAt edition bytes place c
    → RowAt edition bytes place d
    → Judged (place_questions edition bytes i place c) a → Judged (place_questions edition bytes i place d) b → a ≡ b
unfolding place_questions
place_once edition bytes i place c d a b at_c at-d one other =
    judged_once_on ((2, WholeAt bytes place) ∷ (3, i < row_limit) ∷ (4, ShapeFits edition (body_at bytes place)) ∷ []) (row_questions c)
    (row_questions d) a b
    (λ all. let room = judged_all 3 (i < row_limit) _ (judged_all 2 (WholeAt bytes place) _ all).1 in
    let shape = (judged_all 4 (ShapeFits edition (body_at bytes place)) _ room.1).0 in
    ap row_questions (stands_once (body_at bytes place) shape c d (at_c shape) (at-d shape)))
    one other

-- the part of the bytes from the one place to the other is the body
pub part_body : (bytes : List ℕ) (place size : ℕ) → size ≡ length_at bytes place
    → take (place + 2 + size - (place + 2)) (drop (place + 2) bytes) ≡ body_at bytes place
part_body bytes place size e = rw (add-sub_cancel_left (place + 2) size, e)

-- a first byte that is an edition's is there
pub version_asked : (newest : ℕ) (bytes : List ℕ) (version : ℕ) → version ≡ at bytes 0 → 0 < last_type version
    → Decides (VersionUpTo newest bytes) (leb version newest)
version_asked newest bytes version e some =
    let above = edition_above version some in
    let typed : 0 < last_type (at bytes 0) = rw (← e) some in
    let to : version ≤ newest → VersionUpTo newest bytes =
    λ known. (there bytes 0 (omega (arith, e, above)), omega (arith, e, above), omega (arith, e, known), typed) in
    same_test to (λ taken. omega (arith, e, taken.2)) (leb version newest) (test_le version newest)
