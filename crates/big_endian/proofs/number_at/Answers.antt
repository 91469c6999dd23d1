-- The loop reads byte after byte: the number read, behind which the bytes left stand, is the whole.
use Rattle.constraint.proofs.Library.{◌+◌, ◌-◌, ◌<◌, ◌∙◌, ◌≡◌, ◌≤◌, add-zero, ap, arith, drop, get_or-drop, length, length-drop, refl, sym, ℕ}
use Rattle.constraint.specs.{Bytes.bytes_at, Bytes.number_behind, Steps.at}
use Rattle.big_endian.proofs.Numbers.{number_end, number_more, rest_is, room_first, room_next, room_now}
use Rattle.big_endian.proofs.{Shifts.shifted_up}
use Rattle.big_endian.proofs.number_at.Goals as goal

pub returns-in_default : goal.returns-in_default
returns-in_default c =
    let loop = c.loop-i in let a = c.args in
    let rest = rest_is a.bytes.now a.place c.min.result c.min.ensures in
    let spent : length (drop a.place a.bytes.now) ≤ loop.i = rw rest at c.in_default.ensures.lookup.3 in
    let past : length a.bytes.now ≤ a.place + loop.i = omega (arith, simp length-drop at spent) in
    sym (number_end a.bytes.now loop.value (a.place + loop.i) (a.width - loop.i) past) ∙ loop.invariant.1

pub loop-i-preserved : goal.loop-i-preserved
loop-i-preserved c =
    let loop = c.loop-i in let a = c.args in
    let bytes = a.bytes.now in
    let next = a.place + loop.i in
    let left = a.width - loop.i in
    let one = at bytes next in
    let rest = rest_is bytes a.place c.min.result c.min.ensures in
    let more : loop.i < length (drop a.place bytes) = rw rest at c.in-Some.ensures.lookup.3.0 in
    let there : next < length bytes = omega (arith, simp length-drop at more) in
    let same : c.from.result ≡ one = c.from.ensures ∙ rw (rest, get_or-drop) at (c.in-Some.ensures.lookup.3.1 0) in
    let byte : one < 256 = (c.type_inv.bytes next).fits in
    let behind = shifted_up loop.value one (room_now loop.value left loop.invariant.0 (omega arith)) byte in
    let fewer : a.width - (loop.i + 1) ≡ left - 1 = omega arith in
    let further : a.place + (loop.i + 1) ≡ next + 1 = omega arith in
    rw (same, behind, fewer, further) (
      room_next loop.value left one loop.invariant.0 (omega arith) byte,
      sym (number_more bytes loop.value next left there (omega arith)) ∙ loop.invariant.1,
    )

pub returns : goal.returns
unfolding number_behind
returns c =
    let loop = c.loop-i in let a = c.args in
    let none : a.width - loop.i ≡ 0 = omega arith in
    sym (ap (λ (left : ℕ). number_behind loop.value (bytes_at left a.bytes.now (a.place + loop.i))) none) ∙ loop.invariant.1

pub loop-i-init : goal.loop-i-init
loop-i-init c =
    let all : c.args.width - 0 ≡ c.args.width = omega arith in
    rw (all, add-zero) (room_first c.args.width c.requires, refl)
