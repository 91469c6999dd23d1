-- The questions are put in their order, and the first "no" gives the refusal.
use Rattle.std.proofs.lemmas.Result.{err_from_is_err_and}
use Rattle.delkuthi.proofs.Names.{arith, inl, inr}
use Rattle.delkuthi.proofs.WrittenRecords.{form_refused, no_room, place_least, room_there, unknown_version}
use Rattle.delkuthi.proofs.writing.write_refusal.Goals as goal

pub returns-then-version-ne2 : goal.returns-then-version-ne2
returns-then-version-ne2 c =
    let args = c.args in
    unknown_version args.recording.now args.size args.call c.version_for-version.result c.version_for-version.ensures
    (λ known. elim known [ inl one ↦ c.if-version-ne1.true one | inr two ↦ c.if-version-ne2.true two ])

pub returns-in_err-form_refusal : goal.returns-in_err-form_refusal
returns-in_err-form_refusal c =
    let args = c.args in
    let exit = err_from_is_err_and c.from_residual.result c.from_residual.ensures.1 in
    rw (exit.1, exit.2)
    (form_refused args.recording.now args.size args.call c.version_for-version.result c.version_for-version.ensures
    (elim c.else-version-ne1.either [ inl two ↦ inr two.1 | inr one ↦ inl one ]) _ c.in_err-form_refusal.ensures)

pub returns-then-saturating_sub-place_for : goal.returns-then-saturating_sub-place_for
returns-then-saturating_sub-place_for c =
    let args = c.args in
    no_room args.recording.now args.size args.call c.version_for-version.result c.version_for-version.ensures
    (elim c.else-version-ne1.either [ inl two ↦ inr two.1 | inr one ↦ inl one ]) c.in_ok-form_refusal.ensures
    (λ room. omega (arith, room, c.size_of.ensures, c.place_for.ensures, c.saturating_sub.ensures, c.if-saturating_sub-place_for.true))

pub returns : goal.returns
returns c =
    let args = c.args in
    room_there args.recording.now args.size args.call c.version_for-version.result c.version_for-version.ensures
    (elim c.else-version-ne1.either [ inl two ↦ inr two.1 | inr one ↦ inl one ]) c.in_ok-form_refusal.ensures
    (omega (arith, place_least args.size, c.size_of.ensures, c.place_for.ensures, c.saturating_sub.ensures, c.if-saturating_sub-place_for.false))
