-- The clock stands at its place, and the stream's first free time at its own.
use Rattle.in_place.proofs.Names.{◌∙◌, ap₂, time_refusal}
use Rattle.in_place.proofs.{Parts.number_at}
use Rattle.in_place.proofs.calls.stream_refusal.Goals as goal

pub returns : goal.returns
returns c h e s =
    let a = c.args in c.time_refusal.ensures ∙ ap₂ (time_refusal a.time) (number_at h s a.m.now e 0) (c.free_at.ensures h e s)
