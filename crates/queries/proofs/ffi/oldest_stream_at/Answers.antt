-- Where something waits, the stream is the kind that the row's numbers name.
use Rattle.queries.proofs.Names.{◌<◌, ◌∙◌, ap, ap₂, arith, le-ltb, lt-ltb, min, ℕ}
use Rattle.queries.proofs.{Oldest.above_zero, Places.parameters_lie, Places.registers_lie}
use Rattle.queries.specs.{Numbers.oldest_kind, Numbers.waiting_at, Oldest.no_stream}
use Rattle.queries.proofs.ffi.oldest_stream_at.Goals as goal

pub returns-then-waiting_at-eq0 : goal.returns-then-waiting_at-eq0
returns-then-waiting_at-eq0 c n holds =
    let i = c.args.i in
    rw (le-ltb 0 (waiting_at n i) (omega (arith, c.waiting_at.ensures n holds, c.if-waiting_at-eq0.true)))

pub returns : goal.returns
returns c n holds =
    let args = c.args in
    let m = args.m.now in
    let there = c.requires in
    let waits : 0 < waiting_at n args.i = omega (arith, above_zero _ c.if-waiting_at-eq0.false, c.waiting_at.ensures n holds) in
    rw (lt-ltb 0 (waiting_at n args.i) waits)
    (c.stream_from.ensures ∙ ap (λ (kind : ℕ). min kind no_stream)
    (c.oldest_kind.ensures ∙ ap₂ oldest_kind (parameters_lie m n holds args.i there) (registers_lie m n holds args.i there)))
