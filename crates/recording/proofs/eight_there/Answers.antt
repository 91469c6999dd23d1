-- Added up byte by byte, each in its place, eight bytes are their number; and the bytes that are taken out are those of the whole.
use Rattle.constraint.proofs.Library.{List, ◌+◌, ◌-◌, ◌<◌, ◌∙◌, ◌≡◌, ap, arith, drop, get_or-drop, get_or-take, take, ℕ}
use Rattle.constraint.specs.Steps.{at}
use Rattle.recording.proofs.{Times.number_of_eight}
use Rattle.recording.proofs.eight_there.Goals as goal

part : (bytes : List ℕ) (place i : ℕ) → i < 8 → at (take (place + 8 - place) (drop place bytes)) i ≡ at bytes (place + i)
part bytes place i small = get_or-take (place + 8 - place) (drop place bytes) i 0 (omega arith) ∙ get_or-drop place bytes i 0

pub returns : goal.returns
returns c =
    let bytes = c.args.bytes.now in let place = c.args.place in
    let first : at (take (place + 8 - place) (drop place bytes)) 0 ≡ at bytes place =
    part bytes place 0 (omega arith) ∙ ap (λ (i : ℕ). at bytes i) (omega arith) in
    omega (
      arith,
      number_of_eight bytes place (omega arith),
      first,
      part bytes place 1 (omega arith),
      part bytes place 2 (omega arith),
      part bytes place 3 (omega arith),
      part bytes place 4 (omega arith),
      part bytes place 5 (omega arith),
      part bytes place 6 (omega arith),
      part bytes place 7 (omega arith),
    )
