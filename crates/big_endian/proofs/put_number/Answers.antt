-- The loop stores byte after byte, each cut out by a shift: storing those left in what there is now gives the whole.
use Rattle.constraint.proofs.Library.{◌+◌, ◌-◌, ◌≡◌, ◌∙◌, ap, arith, by_cases, dec_lt, sets, sym, ℕ}
use Rattle.constraint.specs.Bytes.{bytes_of}
use Rattle.big_endian.proofs.{Shifts.stores_shifted, Stores.stores_past}
use Rattle.big_endian.proofs.put_number.Goals as goal

pub loop-i-preserved : goal.loop-i-preserved
loop-i-preserved c =
    let loop = c.loop-i in let a = c.args in
    let left = a.width - loop.i in
    let cut : left - 1 ≡ a.width - 1 - loop.i = omega arith in
    let fewer : a.width - (loop.i + 1) ≡ left - 1 = omega arith in
    let next : a.place + (loop.i + 1) ≡ a.place + loop.i + 1 = omega arith in
    rw (next, fewer)
    (sym (stores_shifted loop.buffer (a.place + loop.i) left a.x c.low_byte.result (omega arith) (rw cut c.low_byte.ensures)) ∙ loop.invariant)

pub returns : goal.returns
unfolding bytes_of
returns c =
    let loop = c.loop-i in let a = c.args in
    by_cases (dec_lt loop.i a.width)
    (λ room. sym (stores_past loop.buffer (a.place + loop.i) (bytes_of (a.width - loop.i) a.x) (omega arith)) ∙ loop.invariant)
    (λ all. let none : a.width - loop.i ≡ 0 = omega arith in
    sym (ap (λ (left : ℕ). sets loop.buffer (a.place + loop.i) (bytes_of left a.x)) none) ∙ loop.invariant)
