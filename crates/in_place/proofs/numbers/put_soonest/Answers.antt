-- The time is stored at its place.
use Rattle.in_place.proofs.Names.{[], ◌∙◌, ap, get_or, set}
use Rattle.in_place.proofs.{Parts.soonest_written}
use Rattle.in_place.proofs.numbers.put_soonest.Goals as goal

pub returns : goal.returns
returns c h e s = ap (λ m. set m 32 (set (get_or m 32 []) 0 (set (get_or (get_or m 32 []) 0 []) 4 c.args.time))) e ∙ soonest_written h s c.args.time
