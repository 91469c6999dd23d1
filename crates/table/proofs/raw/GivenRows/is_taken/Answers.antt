-- The row's first two bytes say whether its type is known; where it is, the row that its body stands for is judged.
use Rattle.constraint.specs.Answers.{answer_of, refusal_number}
use Rattle.constraint.specs.declared.Refusal.{Refusal}
use Rattle.std.specs.Prelude.{Result, Ok, Err}
use Rattle.std.specs.Result.{is_ok}
use Rattle.table.proofs.Names.{Answer, Bytes, Constraint, Decides, Judged, KnownAt, List, Refused, RowTaken, TableRow, Taken, [], ap}
use Rattle.table.proofs.Names.{judged_once, ◌*◌, ◌+◌, ◌≡◌, ◌≤◌, length, never, raw_body, raw_row, raw_size, row_from, row_in, row_questions}
use Rattle.table.proofs.Names.{row_questions_in, skipped, subst, yes_of, ℕ}
use Rattle.table.proofs.RawRows.{raw_known}
use Rattle.table.proofs.raw.GivenRows.is_taken.Goals as goal

-- what the row's own questions answer, where its type is known
own : (edition : ℕ) (bytes : List ℕ) (i : ℕ) → KnownAt edition bytes i → (i + 1) * raw_size ≤ length bytes → Bytes bytes → (row : TableRow)
    → row ≡ row_from (raw_body bytes i) → (a : Answer) → Judged (row_questions_in edition (row_in row)) a
    → Judged (row_questions (raw_row bytes i)) a
own edition bytes i known whole all row e a judged =
    skipped [] (row_questions (raw_row bytes i)) 4 _ (raw_known edition bytes i known whole all) a
    (subst (λ (row : Constraint). Judged (row_questions_in edition row) a) (ap row_in e) judged)

-- a result that is `Ok` is an answer that is taken
taken_where_ok : {T : Type 0} (edition : ℕ) (bytes : List ℕ) (i : ℕ) → KnownAt edition bytes i → (i + 1) * raw_size ≤ length bytes
    → (r : Result T Refusal) → Judged (row_questions (raw_row bytes i)) (answer_of r)
    → Decides (((i + 1) * raw_size ≤ length bytes) × RowTaken edition bytes i) (is_ok r)
taken_where_ok edition bytes i known whole (Ok x) judged = (whole, (known, judged))
taken_where_ok edition bytes i known whole (Err refusal) judged = λ taken. refused (judged_once _ _ Taken judged taken.1.1)
  where
    refused : Refused (refusal_number refusal) ≡ Taken → ⊥
    refused e = never (cc)

pub returns-then-is_known : goal.returns-then-is_known
unfolding Bytes
returns-then-is_known c =
    let fields = c.args.self in let bytes = fields.bytes.now in let i = c.args.i in
    let here = yes_of c.is_known.result c.is_known.ensures c.if-is_known.true in
    rw c.is_ok.ensures.value
    (taken_where_ok fields.edition bytes i here.0 here.1 c.validate.result
    (own fields.edition bytes i here.0 here.1 fields.each_fits c.row.result c.row.ensures _ c.validate.ensures))
