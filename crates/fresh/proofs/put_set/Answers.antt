-- The set is stored at the kind's place.
use Rattle.fresh.proofs.Names.{[], ◌∙◌, ap, get_or, set}
use Rattle.fresh.proofs.{Lists.set_written}
use Rattle.fresh.proofs.put_set.Goals as goal

pub returns : goal.returns
returns c h e s =
    let a = c.args in
    ap (λ m. set m 32 (set (get_or m 32 []) 1 (set (get_or (get_or m 32 []) 1 []) a.kind a.rows))) e ∙ set_written h s a.kind a.rows
