-- Where the soonest due time is past, the rows that are overdue end; else it is stored.
use Rattle.in_place.proofs.Names.{◌∙◌, ◌≡◌, ap, ap₂, clock_applied, false, held_rows, le-ltb, lt-ltb, ltb, soonest_all, soonest_of}
use Rattle.in_place.proofs.Names.{sym, tick_at}
use Rattle.in_place.proofs.Names.{true, up_to_four, with_soonest, words_of_lent, ℕ}
use Rattle.in_place.proofs.{Parts.number_at, Parts.shaped_ended}
use Rattle.in_place.proofs.calls.expire_rows.Goals as goal

pub returns-then-soonest-time : goal.returns-then-soonest-time
returns-then-soonest-time c h e s =
    let a = c.args in
    let held = c.held-rows.ensures.1 h e s in
    let soon : c.soonest-soonest.result ≡ soonest_all h = c.soonest-soonest.ensures h e s
    ∙ ap (λ (n : ℕ). soonest_of h.monitor.rows (up_to_four n)) held in
    let past : ltb (soonest_all h) a.time ≡ true = ap (λ (x : ℕ). ltb x a.time) (sym soon) ∙ lt-ltb _ _ c.if-soonest-time.true in
    let stopped = c.apply_clock_all.ensures h e s
    ∙ ap₂ (λ (x y : ℕ). words_of_lent (clock_applied h x (tick_at a.time) y)) held (number_at h s a.m.now e 1) in
    rw past (c.put_soonest.ensures (clock_applied h (held_rows h.monitor) (tick_at a.time) h.monitor.count) stopped
    (shaped_ended h (held_rows h.monitor) (tick_at a.time) h.monitor.count s))

pub returns : goal.returns
returns c h e s =
    let a = c.args in
    let soon : c.soonest-soonest.result ≡ soonest_all h = c.soonest-soonest.ensures h e s
    ∙ ap (λ (n : ℕ). soonest_of h.monitor.rows (up_to_four n)) (c.held-rows.ensures.1 h e s) in
    let not_past : ltb (soonest_all h) a.time ≡ false = ap (λ (x : ℕ). ltb x a.time) (sym soon) ∙ le-ltb _ _ c.if-soonest-time.false in
    rw not_past (c.put_soonest-2.ensures h e s ∙ ap (λ (x : ℕ). words_of_lent (with_soonest h x)) soon)
