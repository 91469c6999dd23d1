-- The bytes of the number replace those that are there.
use Rattle.join.proofs.Names.{◌∙◌}
use Rattle.join.proofs.Heads.{eight_stored}
use Rattle.join.proofs.put_eight_there.Goals as goal

pub returns : goal.returns
returns c =
    eight_stored c.args.buffer.now c.copy_from_slice.new.self c.args.place c.args.x c.requires
    (c.copy_from_slice.ensures.after ∙ c.to_be_bytes.ensures)
