-- §3.6 to §3.8 and §3.13 to §3.15 for every row type: the promise over the machine, with the engine of every type put in.
use Rattle.monitor.proofs.Names.{Accepted, Call, Constraint, Delay, Iff·trans, Left, List, Meets, Monitor, Open, Option, Promise, Reading}
use Rattle.monitor.proofs.Names.{Reads, ReadsRow, Remains, Repeat, Request, SameBare, Sound, Sporadic, Stepped, Steps, TakesAll, Verdict, ◌++◌}
use Rattle.monitor.proofs.Names.{◌+◌, ◌<◌, ◌↔◌, ◌≡◌, ◌≤◌, after, asks, at, broken_exactly, clock, closed, every_type_exact, false, get_elem?}
use Rattle.monitor.proofs.Names.{kept_exactly, length, map, monitor_of, never, no_row_lem, no_limit, past_of, refl, result_of, row, run_once}
use Rattle.monitor.proofs.Names.{run_valid, silent_repeat_shut, silent_sporadic_shut, some, step, subst, sym, times, true}
use Rattle.monitor.proofs.Names.{unlimited_delay_open, valid_none, verdict_of, ℕ}
use Rattle.monitor.proofs.Withdrawing.{promise, reading_keeps, stays, steps_keep, struck}
use Rattle.monitor.proofs.{Demand.accepted_sound, FittingRows.sound_at}

-- §3.1, §3.6 to §3.8, §3.12 to §3.15, §8.21, §9.2: over every table, every list of calls and withdrawals from a fresh monitor, and every row
pub monitor_is_exact : Promise monitor_of step verdict_of
monitor_is_exact = promise every_type_exact

-- §3.7: a row that is broken stays so, at the same step, whatever calls follow: these withdraw nothing
pub broken_stays : (rows : List Constraint) → Accepted rows → (requests : List Request) (calls : List Call) (i n : ℕ)
    → verdict_of (after rows requests) i ≡ some (Verdict.Broken n) → verdict_of (after rows (requests ++ map asks calls)) i ≡ some (Verdict.Broken n)
broken_stays = stays every_type_exact

-- §3.14: after any requests over an accepted table the monitor is, but for what may be withdrawn, the one after the calls that are left
pub struck_out : (rows : List Constraint) → Accepted rows → (requests : List Request)
    → (left : Left) × Remains rows requests left × (calls : List Call) × TakesAll rows calls left.steps
    × SameBare (after rows requests) (after rows (map asks calls))
struck_out = struck every_type_exact

-- §11.2: what equals the machine's result for a request keeps the contract of a request
pub step_kept : (m : Monitor) (r : Request) {result : Stepped} → result ≡ result_of m r → Steps m r result
step_kept m r e = subst (Steps m r) (sym e) (steps_keep every_type_exact m r)

-- what equals a verdict of the machine keeps the contract of a verdict
pub reading_kept : (m : Monitor) (i : ℕ) {verdict : Option Verdict} → verdict ≡ verdict_of m i → Reading m i verdict
reading_kept m i e = subst (Reading m i) (sym e) (reading_keeps every_type_exact m i)

-- ---- in the buyer's words, after any list of requests over an accepted table

module _ (rows : List Constraint) (requests : List Request) (left : Left) (accepted : Accepted rows) (remains : Remains rows requests left) (i : ℕ)
    (c : Constraint) (there : get_elem? rows i ≡ some c) where
  -- the row has a verdict, and it reads that after the steps that are left
  pub row_reads : (v : Verdict) × (verdict_of (after rows requests) i ≡ some v) × Reads c left.steps v
  row_reads =
      let read = (reading_keeps every_type_exact (after rows requests) i).means rows requests accepted refl in
      of_row (verdict_of (after rows requests) i) (subst (λ (x : Left). ReadsRow rows x.steps i (verdict_of (after rows requests) i))
      (run_once rows read.1.1 remains.1).1 read.2)
    where
      of_row : (o : Option Verdict) → ReadsRow rows left.steps i o → (v : Verdict) × (o ≡ some v) × Reads c left.steps v
      of_row o (row d v e r) = let same : d ≡ c = cc in (v, refl, subst (λ (x : Constraint). Reads x left.steps v) same r)
      of_row o (no_row_lem e) = never (cc)

  same_verdict : (v : Verdict) → (verdict_of (after rows requests) i ≡ some v) ↔ (row_reads.0 ≡ v)
  same_verdict v = let e = row_reads.1 in (λ p. cc, λ q. cc)

  -- §2.6: at the close a row is kept exactly when the recorded events meet its definition
  pub kept_at_the_close : closed left.steps ≡ true → (verdict_of (after rows requests) i ≡ some Verdict.Kept) ↔ Meets c left.steps
  kept_at_the_close shut = Iff·trans (same_verdict Verdict.Kept)
      (kept_exactly c left.steps (run_valid remains.1 valid_none) shut row_reads.0 row_reads.2)

  -- §2.5: a row reads broken exactly when no continuation can still meet its definition
  pub broken_while_it_runs : ((n : ℕ) × (verdict_of (after rows requests) i ≡ some (Verdict.Broken n))) ↔ (¬ Open c left.steps)
  broken_while_it_runs =
      let exactly = broken_exactly c left.steps (run_valid remains.1 valid_none) row_reads.0 row_reads.2 in (
        λ b. exactly.0 (b.0, (same_verdict (Verdict.Broken b.0)).0 b.1),
        λ shut. let b = exactly.1 shut in
            (b.0, (same_verdict (Verdict.Broken b.0)).1 b.1),
      )

  -- §5.1.6: a Delay without an upper limit is not broken before the close
  pub unlimited_delay_unbroken : (source target lower : ℕ) → c ≡ Delay source target lower no_limit → closed left.steps ≡ false
      → (n : ℕ) → ¬ (verdict_of (after rows requests) i ≡ some (Verdict.Broken n))
  unlimited_delay_unbroken source target lower is before n broken =
      let sound : Sound (Delay source target lower no_limit) = subst Sound is (sound_at rows (accepted_sound rows accepted) i c there) in
      broken_while_it_runs.0 (n, broken)
      (subst (λ (x : Constraint). Open x left.steps) (sym is)
      (unlimited_delay_open source target lower sound (past_of (run_valid remains.1 valid_none)) before))

  -- §5.3.2, §5.4.4: the row reads broken
  abbrev pub ReadsBroken : Type 0
  ReadsBroken = (n : ℕ) × (verdict_of (after rows requests) i ≡ some (Verdict.Broken n))

  -- §5.3: where an event of a Repeat has none span places after it and is more than upper before the clock
  pub silent_repeat_broken : (kind span lower upper : ℕ) → c ≡ Repeat kind span lower upper → ¬ (upper ≡ no_limit) → (place : ℕ)
      → place < length (times kind left.steps) → length (times kind left.steps) ≤ place + span
      → at (times kind left.steps) place + upper < clock left.steps → ReadsBroken
  silent_repeat_broken kind span lower upper is limit place there none silent =
      broken_while_it_runs.1
      (λ o. silent_repeat_shut kind span lower upper left.steps limit place there none silent
      (subst (λ (x : Constraint). Open x left.steps) is o))

  -- §5.4: and where the last event of a Sporadic is more than upper and jitter before the clock
  pub silent_sporadic_broken : (kind lower upper jitter minimum : ℕ) → c ≡ Sporadic kind lower upper jitter minimum → ¬ (upper ≡ no_limit)
      → (place : ℕ) → place + 1 ≡ length (times kind left.steps) → at (times kind left.steps) place + upper + jitter < clock left.steps
      → ReadsBroken
  silent_sporadic_broken kind lower upper jitter minimum is limit place last silent =
      broken_while_it_runs.1
      (λ o. silent_sporadic_shut kind lower upper jitter minimum left.steps limit place last silent
      (subst (λ (x : Constraint). Open x left.steps) is o))
