-- The type and its n are asked for first, and then the length is compared with the list's.
use Rattle.constraint.proofs.Library.{◌∙◌, ◌≡◌, eqb, length, sym, ap, not}
use Rattle.constraint.proofs.Judged.{failed, passed, same_test, test_equal}
use Rattle.constraint.specs.Steps.{at}
use Rattle.constraint.specs.Types.{TypeKnown, length_of}
use Rattle.table_row.proofs.{Judging.type_there}
use Rattle.table_row.proofs.shape_fits.Goals as goal

pub returns-then-not-type_known : goal.returns-then-not-type_known
returns-then-not-type_known c =
    let test = c.type_known in
    λ fits. failed test.result test.ensures (ap not c.if-not-type_known.true)
    (rw (c.byte_at-tag.ensures, c.from.ensures, c.byte_at-n.ensures) fits.known)

pub returns : goal.returns
returns c =
    let test = c.type_known in
    let known = passed test.result test.ensures (ap not c.if-not-type_known.false) in
    let body = c.args.body.now in
    let here : TypeKnown c.args.edition (at body 0) (at body 1) = rw (c.byte_at-tag.ensures, c.from.ensures, c.byte_at-n.ensures) at known in
    let long : c.length_of.result ≡ length_of (at body 0) (at body 1) = rw (c.byte_at-tag.ensures, c.byte_at-n.ensures) at
    c.length_of.ensures in
    same_test
    (λ same. record { type_there = type_there c.args.edition body here; known = here; length_right = same ∙ long })
    (λ fits. fits.length_right ∙ sym long) (eqb (length body) c.length_of.result) (test_equal (length body) c.length_of.result)
