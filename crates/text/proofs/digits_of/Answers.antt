-- The loop takes off the last digit: those of what is left, and those stored, are those of the number. What is not yet stored is blank.
use Rattle.constraint.proofs.Library.{◌%◌, ◌+◌, ◌-◌, ◌∙◌, ◌≡◌, append-nil, arith, drop, get_or-replicate, get_or-set_other, length}
use Rattle.constraint.proofs.Library.{length-set, refl, set, sym}
use Rattle.constraint.specs.{Report.blank, Report.decimal}
use Rattle.text.proofs.Decimals.{aligned_right, digits_more, digits_one, digits_room, drop_stored}
use Rattle.text.proofs.digits_of.Goals as goal

pub loop-left-init : goal.loop-left-init
loop-left-init c = (omega arith, omega arith, omega arith, refl, append-nil (decimal c.args.x), λ k h. get_or-replicate 20 k blank 0 h)

pub loop-left-preserved : goal.loop-left-preserved
loop-left-preserved c =
    let loop = c.loop-left in
    let digit = 48 + loop.left % 10 in
    let room = digits_room loop.start loop.left (omega arith) (omega arith) in (
      room.0,
      omega arith,
      room.1,
      length-set loop.bytes (loop.start - 1) digit ∙ loop.invariant.3,
      rw (drop_stored loop.bytes loop.start digit (omega arith) (omega arith))
          (sym (digits_more loop.start loop.left (drop loop.start loop.bytes) (omega arith) (omega arith)) ∙ loop.invariant.4),
      λ k h. get_or-set_other loop.bytes (loop.start - 1) k digit 0 (λ e. omega arith) ∙ loop.invariant.5 k (omega arith),
    )

pub returns : goal.returns
returns c =
    let loop = c.loop-left in
    let digit = 48 + loop.left in
    let start = loop.start - 1 in
    let bytes = set loop.bytes start digit in
    let whole : length bytes ≡ 20 = length-set loop.bytes start digit ∙ loop.invariant.3 in
    let spelled : drop start bytes ≡ decimal c.args.x =
    rw (drop_stored loop.bytes loop.start digit (omega arith) (omega arith))
    (rw (digits_one loop.start loop.left (omega arith) (omega arith)) at loop.invariant.4) in
    record {
      size = whole;
      within = omega arith;
      spelled = spelled;
      aligned =
          aligned_right bytes start c.args.x whole (omega arith)
          (λ k h. get_or-set_other loop.bytes start k digit 0 (λ e. omega arith) ∙ loop.invariant.5 k (omega arith)) spelled;
    }
