-- The numbers of an answer to adding a row fit in 64 bits: a table that is read is short, a body of a fitting shape is, and a refusal has the number
-- of a question.
use Rattle.constraint.proofs.Judged.{judged_all, judged_parts, never}
use Rattle.constraint.proofs.Library.{List, ◌*◌, ◌+◌, ◌<◌, ◌≡◌, ◌≤◌, arith, length, refl, subst, take, ℕ}
use Rattle.constraint.specs.{Limits.row_limit, Steps.at, Table.ShapeFits}
use Rattle.fresh.proofs.Refusals.{AllAbove, accepted_small, number_above, refused_small}
use Rattle.delkuthi.specs.Tables.{AddsNumbered}
use Rattle.table.specs.Appending.{AddsRow, AddsTo, add_questions, body_questions, row_right, row_wrong, table_wrong}
use Rattle.table.specs.AddAnswer.{AddAnswer}
use Rattle.table_row.proofs.Lines.{known_short}

-- an answer whose number is small
abbrev pub SmallAnswer : AddAnswer → Type 0
SmallAnswer (AddAnswer.Added n) = n ≤ 5413
SmallAnswer (AddAnswer.Refused n place) = (0 < n) × (place ≤ 5249)

pub add_small : (table body : List ℕ) (size : ℕ) (r : AddAnswer) → AddsTo table body size r → SmallAnswer r
unfolding AllAbove
add_small table body size r (table_wrong number place reads) = refused_small table number place reads
add_small table body size r (row_wrong rows c number reads stands judged) = (
  number_above (add_questions (length rows) body c (length table) size) number
      (omega arith, (omega arith, (omega arith, (omega arith, (omega arith, (omega arith, (omega arith, tt))))))) judged,
  accepted_small table rows reads,
)
add_small table body size r (row_right rows c reads stands judged) =
    let asked = (judged_parts (body_questions (length rows) body c) _ judged).0 in
    let shape = (judged_all 4 (ShapeFits 2 body) _ (judged_all 3 (length rows < row_limit) _ asked).1).0 in
    omega (arith, accepted_small table rows reads, shape.length_right, known_short 2 (at body 0) (at body 1) shape.known)

module _ (before : List ℕ) (size : ℕ) (body after : List ℕ) (r : AddAnswer) (adds : AddsRow before size body r after) where
  pub small_added : (n : ℕ) → r ≡ AddAnswer.Added n → n ≤ 5413
  small_added n e = subst SmallAnswer e (add_small (take size before) body (length before) r adds.answer)

  pub small_refused : (n place : ℕ) → r ≡ AddAnswer.Refused n place → (0 < n) × (place ≤ 5249)
  small_refused n place e = subst SmallAnswer e (add_small (take size before) body (length before) r adds.answer)

  pub numbered_added : (n : ℕ) → r ≡ AddAnswer.Added n → AddsNumbered before size body (n * 256) after
  numbered_added n e =
      record {
        answer = AddAnswer.Added n;
        adds = subst (λ (a : AddAnswer). AddsRow before size body a after) e adds;
        equals = refl;
        small = λ m place refused. never (cc);
      }

  pub numbered_refused : (n place : ℕ) → r ≡ AddAnswer.Refused n place → n < 256 → AddsNumbered before size body (place * 256 + n) after
  numbered_refused n place e below =
      record {
        answer = AddAnswer.Refused n place;
        adds = subst (λ (a : AddAnswer). AddsRow before size body a after) e adds;
        equals = refl;
        small = λ m other refused. let same : n ≡ m = cc in (omega (arith, same, (small_refused n place e).0), omega (arith, same, below));
      }
