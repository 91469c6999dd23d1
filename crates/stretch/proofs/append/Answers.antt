-- Two stores where there is room, none where there is not.
use Rattle.constraint.proofs.Library.{arith, refl}
use Rattle.stretch.proofs.append.Goals as goal

pub returns-then-count-ge-RECORD_LIMIT : goal.returns-then-count-ge-RECORD_LIMIT
returns-then-count-ge-RECORD_LIMIT c = record {
  room = λ h. absurd (omega (arith, h, c.if-count-ge-RECORD_LIMIT.true));
  full = λ h. (refl, refl);
}

pub returns : goal.returns
returns c = record { room = λ h. (refl, refl); full = λ h. absurd (omega (arith, h, c.if-count-ge-RECORD_LIMIT.false)) }
