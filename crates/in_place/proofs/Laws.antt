-- What a call and a withdrawal leave of the words of a monitor is what the monitor's step makes of it, and the words agree with it: by the kind of
-- the call, where no question refuses it.
use Rattle.in_place.proofs.Names.{Bool, Call, Indexes, Lent, List, Monitor, StepInput, Request, Steps, Stores, Takes, Words, ◌<◌, ◌≡◌}
use Rattle.in_place.proofs.Names.{answer_to}
use Rattle.in_place.proofs.Names.{ap, ap₂, arith, asks, close_at, cond, event_at, false, first_coloured, last_colour, last_count, last_kind, leaves}
use Rattle.in_place.proofs.Names.{leb}
use Rattle.in_place.proofs.Names.{leb-false, left_after, lt-ltb, ltb, ltb-false, next_for, number_of, own_refusal, plain_kind, plus, refl}
use Rattle.in_place.proofs.Names.{refusal_in}
use Rattle.in_place.proofs.Names.{refuses, set, set-get_or, step_kept, step_of, stepped_by, stepped_from, stream, stream_below, stream_kind}
use Rattle.in_place.proofs.Names.{stream_count, subst, suc, sym, taken_call, takes, tick_at, time_refusal, true, withdraw_of, withdrawn}
use Rattle.in_place.proofs.Names.{withdrawn_lent}
use Rattle.in_place.proofs.Names.{withdraws, zero, ℕ}
use Rattle.in_place.proofs.{RefusalOrder.not_closed, RecordedNumbers.Answered, RecordedNumbers.taken_from, ClockSteps.on_close}
use Rattle.in_place.proofs.{ClockSteps.on_tick, EventSteps.on_stream}
use Rattle.in_place.proofs.{Withdrawn.withdrawn_indexes, Withdrawn.withdrawn_is}

-- ---- a call that no other question refuses

after_first : (a b : Bool) (n : ℕ) → cond a 8 (cond b 24 n) ≡ 0 → n ≡ 0
after_first true b n e = absurd (omega (arith, e))
after_first false true n e = absurd (omega (arith, e))
after_first false false n e = e

no_further : (a : Bool) (number rest : ℕ) → 0 < number → cond a number rest ≡ 0 → (a ≡ false) × (rest ≡ 0)
no_further true number rest h e = absurd (omega (arith, h, e))
no_further false number rest h e = (refl, e)

module _ (h : Lent) (ix : Indexes h) where
  abbrev m : Monitor
  m = h.monitor

  own : (call : Call) → refusal_in h call ≡ 0 → own_refusal call m.clock (next_for m call) ≡ 0
  own call e = after_first (ltb 0 m.closed) (leb last_count m.count) (own_refusal call m.clock (next_for m call)) e

  going : (call : Call) → refusal_in h call ≡ 0 → m.closed ≡ 0
  going call e = not_closed m.closed (leb last_count m.count) (own_refusal call m.clock (next_for m call)) e

  at_place : (o : StepInput) (s time : ℕ) → s < stream_count
      → taken_from m o (cond (ltb s stream_count) s 0) (set m.next (cond (ltb s stream_count) s 0) (plus time 1)) m.closed
      ≡ taken_from m o s (set m.next s (plus time 1)) m.closed
  at_place o s time l = ap (λ (b : Bool). taken_from m o (cond b s 0) (set m.next (cond b s 0) (plus time 1)) m.closed) (lt-ltb s stream_count l)

  taken_event : (kind time : ℕ) → kind < stream_count
      → taken_call m (Call.Event kind time) ≡ taken_from m (event_at kind time) kind (set m.next kind (plus time 1)) m.closed
  unfolding taken_call
  taken_event kind time l = at_place (event_at kind time) kind time l

  taken_coloured : (kind colour time : ℕ) → stream kind colour < stream_count
      → taken_call m (Call.ColouredEvent kind colour time)
      ≡ taken_from m (event_at (stream kind colour) time) (stream kind colour) (set m.next (stream kind colour) (plus time 1)) m.closed
  unfolding taken_call
  taken_coloured kind colour time l = at_place (event_at (stream kind colour) time) (stream kind colour) time l

  taken_tick : (time : ℕ) → m.closed ≡ 0 → taken_call m (Call.Tick time) ≡ taken_from m (tick_at time) 0 m.next 0
  unfolding taken_call
  taken_tick time e = ap₂ (taken_from m (tick_at time) 0) (set-get_or m.next 0 0) e

  taken_close : taken_call m Call.Close ≡ taken_from m (close_at m.clock) 0 m.next 1
  unfolding taken_call
  taken_close = ap (λ (next : List ℕ). taken_from m (close_at m.clock) 0 next 1) (set-get_or m.next 0 0)

  answered : (call : Call) → refusal_in h call ≡ 0 → Answered h call (answer_to h call) (left_after h call)
  answered (Call.Event kind time) e =
      let rest = cond (leb first_coloured kind) 19 (time_refusal time m.clock (next_for m (Call.Event kind time))) in
      let small = no_further (ltb last_kind kind) 9 rest (omega arith) (own (Call.Event kind time) e) in
      let plain = leb-false first_coloured kind (no_further (leb first_coloured kind) 19
      (time_refusal time m.clock (next_for m (Call.Event kind time))) (omega arith) small.1).0 in
      on_stream h ix (Call.Event kind time) kind kind time (omega (arith, plain)) (plain_kind kind (omega (arith, plain))) refl
      (taken_event kind time (omega (arith, plain)))
  answered (Call.ColouredEvent kind colour time) e =
      let last = time_refusal time m.clock (next_for m (Call.ColouredEvent kind colour time)) in
      let small = no_further (ltb last_kind kind) 9 (cond (ltb kind first_coloured) 19 (cond (ltb last_colour colour) 19 last)) (omega arith)
      (own (Call.ColouredEvent kind colour time) e) in
      let coloured = no_further (ltb kind first_coloured) 19 (cond (ltb last_colour colour) 19 last) (omega arith) small.1 in
      let few = ltb-false last_colour colour (no_further (ltb last_colour colour) 19 last (omega arith) coloured.1).0 in
      let below = ltb-false last_kind kind small.0 in
      on_stream h ix (Call.ColouredEvent kind colour time) kind (stream kind colour) time (omega (arith, below))
      (stream_kind kind colour (ltb-false kind first_coloured coloured.0) few) refl
      (taken_coloured kind colour time (stream_below kind colour below few))
  answered (Call.Tick time) e =
      on_tick h ix (Call.Tick time) (tick_at time) refl refl 0 (omega arith) (taken_tick time (going (Call.Tick time) e)) refl
  answered Call.Close e = on_close h ix Call.Close (close_at m.clock) refl refl 1 (omega arith) taken_close

  -- refused or not
  by_refusal : (call : Call) (number : ℕ) → refusal_in h call ≡ number
      → (stepped_from (cond (ltb 0 number) number (answer_to h call)) (cond (ltb 0 number) h (left_after h call)).monitor ≡ stepped_by m call number)
      × Indexes (cond (ltb 0 number) h (left_after h call))
  by_refusal call zero e = answered call e
  by_refusal call (suc number) e = rw (lt-ltb 0 (suc number) (omega arith)) (refl, ix)

  -- ---- a withdrawal

  by_may : (b : Bool) → (stepped_from (cond b 0 21) (cond b (withdrawn_lent h) h).monitor ≡ cond b (takes (withdrawn m)) (refuses 21 m))
      × Indexes (cond b (withdrawn_lent h) h)
  by_may true = (ap takes (withdrawn_is h ix.shaped.rows_there ix.shaped.kept_there), withdrawn_indexes h ix)
  by_may false = (refl, ix)

  withdrawal_is : stepped_from (number_of h withdraws) (leaves h withdraws).monitor ≡ withdraw_of m
  unfolding withdraw_of
  withdrawal_is = (by_may (ltb 0 m.undo.may)).0

  call_is : (call : Call) → stepped_from (number_of h (asks call)) (leaves h (asks call)).monitor ≡ step_of m call
  unfolding step_of
  call_is call = (by_refusal call (refusal_in h call) refl).0

-- ---- the laws

-- §11.2: the answer and the monitor left are those of the monitor's step
pub law_steps : (h : Lent) (r : Request) → Indexes h → Steps h.monitor r (stepped_from (number_of h r) (leaves h r).monitor)
law_steps h (asks call) ix = step_kept h.monitor (asks call) (call_is h ix call)
law_steps h withdraws ix = step_kept h.monitor withdraws (withdrawal_is h ix)

-- §11.2: what the words said of the monitor they say of the one after it
pub law_indexes : (h : Lent) (r : Request) → Indexes h → Indexes (leaves h r)
law_indexes h (asks call) ix = (by_refusal h ix call (refusal_in h call) refl).1
law_indexes h withdraws ix = (by_may h ix (ltb 0 h.monitor.undo.may)).1

-- §11.2: so a function that stores each word keeps the contract of a call
pub takes_of : {entry exit : Words} {r : Request} {number : ℕ} → Stores entry r number exit → Takes entry r number exit
takes_of {entry} {exit} {r} {number} s =
    record {
      untouched = s.untouched;
      stores = s.stores;
      steps = λ h e ix. (
        subst (λ (k : ℕ). Steps h.monitor r (stepped_from k (leaves h r).monitor)) (sym (s.stores h e ix.shaped).0) (law_steps h r ix),
        law_indexes h r ix,
      );
    }
