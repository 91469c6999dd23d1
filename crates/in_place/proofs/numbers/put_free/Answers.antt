-- A store at the stream’s place is a store in the list of first free times.
use Rattle.in_place.proofs.Names.{[], ◌%◌, ◌+◌, ◌-◌, ◌/◌, ◌<◌, ◌∙◌, ◌≡◌, ap, arith, get_or, set, with_next, words_of_lent, ℕ}
use Rattle.in_place.proofs.{Parts.coloured_written, Parts.plain_written}
use Rattle.in_place.proofs.numbers.put_free.Goals as goal

pub returns-then-stream-lt48 : goal.returns-then-stream-lt48
returns-then-stream-lt48 c h e s =
    let a = c.args in
    ap (λ m. set m 32 (set (get_or m 32 []) 0 (set (get_or (get_or m 32 []) 0 []) (16 + a.stream) a.time))) e
    ∙ plain_written h s a.stream a.time c.if-stream-lt48.true

pub returns : goal.returns
returns c h e s =
    let a = c.args in
    let p = a.stream - 48 in
    let small : p < 128 = omega (arith, c.if-stream-lt48.false, c.requires) in
    let place : 48 + p ≡ a.stream = omega (arith, c.if-stream-lt48.false) in
    ap (λ m. set m 34 (set (get_or m 34 []) (p / 64) (set (get_or (get_or m 34 []) (p / 64) []) (p % 64) a.time))) e
    ∙ coloured_written h s p a.time small ∙ ap (λ (k : ℕ). words_of_lent (with_next h (set h.monitor.next k a.time))) place
