-- What is read from the part that starts at the length field is the record of the whole at that place.
use Rattle.recording.proofs.{Records.reads_whole}
use Rattle.recording.proofs.call_at.Goals as goal

pub returns : goal.returns
returns c =
    let args = c.args in let read = c.in_ok-record.ensures in
    reads_whole args.bytes.now args.place _ _ read.0 (rw c.version.ensures at read.1) read.2
