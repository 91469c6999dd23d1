-- The first 48 streams stand behind the numbers, the others in a block of their own.
use Rattle.in_place.proofs.Names.{[], ◌%◌, ◌+◌, ◌-◌, ◌/◌, ◌<◌, ◌∙◌, ◌≡◌, ap, arith, get_or, ℕ}
use Rattle.in_place.proofs.{Parts.coloured_free, Parts.plain_free}
use Rattle.in_place.proofs.numbers.free_at.Goals as goal

pub returns-then-stream-lt48 : goal.returns-then-stream-lt48
returns-then-stream-lt48 c h e s =
    let i = c.args.stream in
    ap (λ m. get_or (get_or (get_or m 32 []) 0 []) (16 + i) 0) e ∙ plain_free h s i c.if-stream-lt48.true

pub returns : goal.returns
returns c h e s =
    let i = c.args.stream in
    let small : i - 48 < 128 = omega (arith, c.if-stream-lt48.false, c.requires) in
    let place : 48 + (i - 48) ≡ i = omega (arith, c.if-stream-lt48.false) in
    ap (λ m. get_or (get_or (get_or m 34 []) ((i - 48) / 64) []) ((i - 48) % 64) 0) e ∙ coloured_free h s (i - 48) small
    ∙ ap (λ (k : ℕ). get_or h.monitor.next k 0) place
