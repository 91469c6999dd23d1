-- The loop stores byte after byte: storing those left in what there is now gives the whole.
use Rattle.constraint.proofs.Library.{by_cases, dec_lt, get_or, set}
use Rattle.big_endian.proofs.Stores.{stores_past}
use Rattle.table.proofs.Names.{List, ◌+◌, ◌<◌, ◌∙◌, ◌≡◌, add-one, ap, arith, drop, drop-cons, drop_of_length-le, length, sets, sym, ℕ}
use Rattle.table.proofs.put_body.Goals as goal

-- the next byte is stored, and then those behind it
stores_more : (l : List ℕ) (next : ℕ) (vs : List ℕ) (i : ℕ) → i < length vs
    → sets l next (drop i vs) ≡ sets (set l next (get_or vs i 0)) (next + 1) (drop (i + 1) vs)
stores_more l next vs i h = rw (drop-cons vs i 0 h, add-one, add-one)

pub loop-i-preserved : goal.loop-i-preserved
loop-i-preserved c =
    let loop = c.loop-i in let a = c.args in
    let next : a.place + (loop.i + 1) ≡ a.place + loop.i + 1 = omega arith in
    rw next (sym (stores_more loop.buffer (a.place + loop.i) a.body.now loop.i (omega arith)) ∙ loop.invariant)

pub returns : goal.returns
returns c =
    let loop = c.loop-i in let a = c.args in
    by_cases (dec_lt loop.i (length a.body.now))
    (λ room. sym (stores_past loop.buffer (a.place + loop.i) (drop loop.i a.body.now) (omega arith)) ∙ loop.invariant)
    (λ all. sym (ap (λ (left : List ℕ). sets loop.buffer (a.place + loop.i) left) (drop_of_length-le a.body.now {i = loop.i} (omega arith)))
    ∙ loop.invariant)
