-- Added up byte by byte, each in its place, two bytes are their number.
use Rattle.constraint.proofs.Library.{arith}
use Rattle.recording.proofs.{Times.number_of_two}
use Rattle.recording.proofs.two_there.Goals as goal

pub returns : goal.returns
returns c =
    let args = c.args in
    omega (arith, number_of_two args.bytes.now args.place (omega arith))
