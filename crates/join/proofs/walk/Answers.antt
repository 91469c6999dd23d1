-- The version is stored, and then, turn by turn, what is left of the record that comes next.
use Rattle.join.proofs.Names.{List, [], ◌∙◌, ◌∷◌, ◌≡◌, ap, arith, joined, length}
use Rattle.join.proofs.Names.{length-sets, sets, steps_bytes, refl, ℕ}
use Rattle.join.proofs.{Heads.keeps_within, Walking.head_fits, Walking.next_whole, Walking.walk_end, Walking.walk_more}
use Rattle.join.proofs.{Walking.walk_short, Walking.walk_start}
use Rattle.join.proofs.walk.Goals as goal

-- the last place
abbrev last : ℕ
last = 18446744073709551615

pub loop-a-init : goal.loop-a-init
loop-a-init c =
    let args = c.args in
    let first = c.at-a.ensures in let second = c.at-b.ensures in (
      omega (arith, c.if-limit-eq0.false),
      refl,
      first.0,
      second.0,
      head_fits args.first.now _ _ last first.0 (omega arith) (omega (arith, first.1)),
      head_fits args.second.now _ _ last second.0 (omega arith) (omega (arith, second.1)),
      rw (first.1, second.1) (walk_start args.first.now args.second.now _ args.limit),
      omega arith,
      omega arith,
    )

-- storing the version leaves the length
headed : (l : List ℕ) (b : List ℕ) (v : ℕ) → b ≡ sets l 0 (v ∷ []) → length b ≡ length l
headed l b v e = ap length e ∙ length-sets l 0 (v ∷ [])

-- the version, and the records behind it
all_stored : (l b after : List ℕ) (v w : ℕ) (bytes : List ℕ) → b ≡ sets l 0 (v ∷ []) → v ≡ w → after ≡ sets b 1 bytes → after ≡ sets l 0 (w ∷ bytes)
all_stored l b after v w bytes e same later = later ∙ ap (λ (x : List ℕ). sets x 1 bytes) e ∙ ap (λ (x : ℕ). sets l 0 (x ∷ bytes)) same

pub shape_of-buffer-then-next-eq0 : goal.shape_of-buffer-then-next-eq0
shape_of-buffer-then-next-eq0 c =
    c.loop-a.invariant.1 ∙ headed c.args.buffer.now c.put_byte.new.buffer c.version.result c.put_byte.ensures

pub returns-then-next-eq0 : goal.returns-then-next-eq0
returns-then-next-eq0 c first second records others =
    let loop = c.loop-a in
    let args = c.args in
    let end = walk_end args.first.now args.second.now c.put_byte.new.buffer args.limit loop.a.place loop.b.place loop.part.clock
    loop.part.size loop.buffer first second (loop.invariant.6 first second records others) c.following-next.result
    (c.following-next.ensures.0 _ _ loop.invariant.2 loop.invariant.3) c.if-next-eq0.true in (
      end.0,
      loop.invariant.0,
      λ room.
          all_stored args.buffer.now c.put_byte.new.buffer _ c.version.result _
          (steps_bytes (joined first second)) c.put_byte.ensures c.version.ensures
          (end.1 (omega (arith, room, headed args.buffer.now c.put_byte.new.buffer c.version.result c.put_byte.ensures))),
    )

pub keep-requires : goal.keep-requires
keep-requires c =
    let loop = c.loop-a in
    let nexts = c.following-next.ensures.0 _ _ loop.invariant.2 loop.invariant.3 in
    (next_whole _ _ _ _ c.following-next.result nexts (omega (arith, c.if-next-eq0.false)), loop.invariant.0)

pub shape_of-buffer-in_err-part : goal.shape_of-buffer-in_err-part
shape_of-buffer-in_err-part c =
    c.keep.ensures.0 ∙ c.loop-a.invariant.1 ∙ headed c.args.buffer.now c.put_byte.new.buffer c.version.result c.put_byte.ensures

pub returns-in_err-part : goal.returns-in_err-part
returns-in_err-part c =
    let loop = c.loop-a in
    let args = c.args in
    rw c.from_residual.ensures
    (λ first second records others. walk_short args.first.now args.second.now _ args.limit loop.a.place loop.b.place loop.part.clock
    loop.part.size loop.buffer first second (loop.invariant.6 first second records others) c.following-next.result
    (c.following-next.ensures.0 _ _ loop.invariant.2 loop.invariant.3) (omega (arith, c.if-next-eq0.false)) c.in_err-part.ensures.1)

pub loop-a-smaller : goal.loop-a-smaller
loop-a-smaller c =
    let loop = c.loop-a in
    let less = (c.following-next.ensures.0 _ _ loop.invariant.2 loop.invariant.3).less (omega (arith, c.if-next-eq0.false)) in
    omega (arith, less, c.moved-a.ensures.1, c.moved-b.ensures.1)

pub loop-a-preserved : goal.loop-a-preserved
loop-a-preserved c =
    let loop = c.loop-a in
    let args = c.args in
    let first = c.moved-a.ensures.0 loop.invariant.2 in let second = c.moved-b.ensures.0 loop.invariant.3 in
    let keeps = c.in_ok-part.ensures.1 in (
      keeps_within loop.buffer loop.part.size args.limit loop.part.clock _ c.in_ok-part.part _ keeps loop.invariant.0,
      c.keep.ensures.0 ∙ loop.invariant.1,
      first,
      second,
      head_fits args.first.now c.moved-a.result.place _ last first loop.invariant.7
          (omega (arith, c.moved-a.ensures.1, c.following-next.ensures.1, loop.invariant.4)),
      head_fits args.second.now c.moved-b.result.place _ last second loop.invariant.8
          (omega (arith, c.moved-b.ensures.1, c.following-next.ensures.2, loop.invariant.5)),
      λ a b records others. rw (c.moved-a.ensures.1, c.moved-b.ensures.1)
          (walk_more args.first.now args.second.now _ args.limit loop.a.place loop.b.place loop.part.clock
          loop.part.size loop.buffer a b (loop.invariant.6 a b records others) c.following-next.result
          (c.following-next.ensures.0 _ _ loop.invariant.2 loop.invariant.3) (omega (arith, c.if-next-eq0.false)) c.in_ok-part.part _ loop.invariant.1
          keeps),
      loop.invariant.7,
      loop.invariant.8,
    )

pub following-next-requires : goal.following-next-requires
following-next-requires c = (c.loop-a.invariant.4, c.loop-a.invariant.5)
