-- The time stands behind what stands before it.
use Rattle.join.proofs.Names.{◌-◌, bytes_of, head_front}
use Rattle.join.proofs.Heads.{front_length, stored_behind}
use Rattle.join.proofs.put_record.Goals as goal

pub returns : goal.returns
returns c =
    let args = c.args in
    stored_behind args.buffer.now c.put_front.new.buffer _ args.place (args.head.size - 8) (head_front args.head)
    (bytes_of 8 args.head.time) (front_length args.head c.requires.0) c.put_front.ensures c.put_eight_there.ensures
