-- The soonest due time that is stored says whether a row may be overdue.
use Rattle.in_place.proofs.Names.{◌∙◌, ◌≡◌, ap, false, le-ltb, lt-ltb, ltb, sym, true, ℕ}
use Rattle.in_place.proofs.{Parts.number_at}
use Rattle.in_place.proofs.calls.check_deadlines.Goals as goal

pub returns-then-m-time : goal.returns-then-m-time
returns-then-m-time c h e s =
    let a = c.args in
    let past : ltb h.soonest a.time ≡ true = ap (λ (x : ℕ). ltb x a.time) (sym (number_at h s a.m.now e 4))
    ∙ lt-ltb _ _ c.if-m-time.true in
    rw past (c.expire_rows.ensures h e s)

pub returns-else-m-time : goal.returns-else-m-time
returns-else-m-time c h e s =
    let a = c.args in
    let not_past : ltb h.soonest a.time ≡ false = ap (λ (x : ℕ). ltb x a.time) (sym (number_at h s a.m.now e 4))
    ∙ le-ltb _ _ c.if-m-time.false in
    rw not_past e
