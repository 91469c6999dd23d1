-- Where another question is answered "no" the event is not refused with 12; else the first row is found that it crowds.
use Rattle.std.specs.Prelude.{Err, Ok, Result}
use Rattle.std.specs.Result.{is_err}
use Rattle.queries.proofs.Names.{Call, Refusal, ◌≡◌, arith, lt-ltb, ltb, number_in, numbered, refl, refusal_number}
use Rattle.queries.proofs.Places.{few_wait, held_lies, refusal_lies, rows_there}
use Rattle.queries.proofs.{Theorem.crowded_row_asked, RowPresent.first_crowded_is}
use Rattle.queries.proofs.ffi.delkuthi_crowded_row.Goals as goal

-- a result is a refusal where it has a number
has_number : (r : Result Unit Refusal) → ltb 0 (number_in r) ≡ is_err r
has_number (Ok x) = refl
has_number (Err refusal) = lt-ltb 0 (refusal_number refusal) (numbered refusal).0

pub returns-then-is_err : goal.returns-then-is_err
returns-then-is_err c =
    let call = Call.Event c.args.kind c.args.time in (
      omega arith,
      λ n holds. crowded_row_asked n call (rw (
        ← refusal_lies _ n holds call _ c.event_refusal.ensures.1,
        has_number c.event_refusal.result,
        ← c.is_err.ensures.value,
        c.if-is_err.true,
      )),
    )

pub returns : goal.returns
returns c =
    let m = c.args.m.now in
    let call = Call.Event c.args.kind c.args.time in (
      rw c.unwrap_or.ensures c.first_crowded.ensures.0,
      λ n holds. crowded_row_asked n call
          (rw (
            ← refusal_lies m n holds call _ c.event_refusal.ensures.1,
            has_number c.event_refusal.result,
            ← c.is_err.ensures.value,
            c.if-is_err.false,
            c.unwrap_or.ensures,
            c.first_crowded.ensures.1 n holds,
            held_lies m n holds _ c.held.ensures.1,
            c.event_of.ensures,
            c.from.ensures,
          ) (first_crowded_is n call (rows_there m n holds) (few_wait m n holds))),
    )
