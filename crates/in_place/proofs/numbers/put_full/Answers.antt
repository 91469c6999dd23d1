-- The set is stored at its place.
use Rattle.in_place.proofs.Names.{[], ◌∙◌, ap, get_or, set}
use Rattle.in_place.proofs.{Parts.full_written}
use Rattle.in_place.proofs.numbers.put_full.Goals as goal

pub returns : goal.returns
returns c h e s = ap (λ m. set m 32 (set (get_or m 32 []) 0 (set (get_or (get_or m 32 []) 0 []) 11 c.args.rows))) e ∙ full_written h s c.args.rows
