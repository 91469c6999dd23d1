-- §3.6: a refusal leaves the monitor as it was, a fresh monitor follows the empty list of steps, and the rows of one that follows some steps read
-- what the
-- definitions say.
use Rattle.monitor.proofs.Names.{Accepted, Bool, BrokenAt, Call, Constraint, Exact, Judged, List, Monitor, Option, Reads, ReadsRow, Refused}
use Rattle.monitor.proofs.Names.{Sound, Step, Stepped, Taken, Valid, Verdict, [], ◌+◌, ◌-◌, ◌<◌, ◌∷◌, ◌≡◌, ◌≤◌, ap, arith, by_cases, clock_from}
use Rattle.monitor.proofs.Names.{closed, cond, crowds, dec_lt, false, get_or, get_or-replicate, get_elem?, inl, inr, le-ltb, length}
use Rattle.monitor.proofs.Names.{length-replicate, lt-ltb, ltb, monitor_of, never, next_free, no_row_lem, no_row, none, reads_broken, reads_once}
use Rattle.monitor.proofs.Names.{refl, refusal_for, refuses, replicate, row, row_limit, row_verdict, rows_room, rows_questions, some, step_of}
use Rattle.monitor.proofs.Names.{subst, suc, taken_call, takes, times, true, valid_none, verdict_of, zero, ℕ}
use Rattle.monitor.proofs.{FittingRows.SoundRows, FittingRows.fit_reads, FittingRows.fit_start, StepRefinement.Follows}

-- ---- a refusal leaves the monitor as it was

-- a result that refuses only with the monitor as it was
pub record Untouched (m : Monitor) (result : Stepped) : Type 0 where
  pub same : (n : ℕ) → result.answer ≡ Refused n → result.monitor ≡ m

-- a test that refuses, or what is asked later
untouched_or : (m : Monitor) (n : ℕ) (test : Bool) {later : Stepped} → Untouched m later → Untouched m (cond test (refuses n m) later)
untouched_or m n true u = record { same = λ k e. refl }
untouched_or m n false u = u

untouched_taken : (m after : Monitor) → Untouched m (takes after)
untouched_taken m after = record { same = λ n e. never (cc) }

pub step_untouched : (m : Monitor) (s : Call) → Untouched m (step_of m s)
unfolding step_of
step_untouched m s =
    let number = refusal_for m s in
    untouched_or m number (ltb 0 number) (untouched_or m 12 (crowds m s) (untouched_taken m (taken_call m s)))

-- ---- fresh

-- a table that is accepted has sound rows
rows_sound : (edition i : ℕ) (rows : List Constraint) → Judged (rows_questions edition i rows []) Taken → SoundRows rows
unfolding Judged rows_questions
rows_sound edition i [] taken = tt
rows_sound edition i (c ∷ rows) (inl (room, inl (known, inl (fit, inl (suit, inl (range, inl (lower, later))))))) =
    let sound : Sound c = record { known = (edition, known); kinds_fit = fit; kinds_suit = suit; in_range = range; lower_first = lower } in
    (sound, rows_sound edition (i + 1) rows later)
rows_sound edition i (c ∷ rows) (inl (room, inl (known, inl (fit, inl (suit, inl (range, inr e)))))) = never (cc e.1)
rows_sound edition i (c ∷ rows) (inl (room, inl (known, inl (fit, inl (suit, inr e))))) = never (cc e.1)
rows_sound edition i (c ∷ rows) (inl (room, inl (known, inl (fit, inr e)))) = never (cc e.1)
rows_sound edition i (c ∷ rows) (inl (room, inl (known, inr e))) = never (cc e.1)
rows_sound edition i (c ∷ rows) (inl (room, inr e)) = never (cc e.1)
rows_sound edition i (c ∷ rows) (inr e) = never (cc e.1)

pub accepted_sound : (rows : List Constraint) → Accepted rows → SoundRows rows
accepted_sound rows (edition, accepted) = rows_sound edition 0 rows accepted

-- and there is room for them
pub accepted_few : (rows : List Constraint) → Accepted rows → length rows ≤ row_limit
accepted_few rows (edition, accepted) = omega (arith, rows_room edition 0 rows (omega arith) accepted)

-- ---- verdicts

pub has_row : (rows : List Constraint) (i : ℕ) → i < length rows → (c : Constraint) × (get_elem? rows i ≡ some c)
has_row [] i h = absurd (omega arith)
has_row (c ∷ rows) zero h = (c, refl)
has_row (c ∷ rows) (suc i) h = has_row rows i (omega arith)

pub has_none : (rows : List Constraint) (i : ℕ) → length rows ≤ i → get_elem? rows i ≡ none
has_none [] i h = refl
has_none (c ∷ rows) zero h = absurd (omega arith)
has_none (c ∷ rows) (suc i) h = has_none rows i (omega arith)

-- a row that reads broken at a step
pub broken_row : (rows : List Constraint) (steps : List Step) (i n : ℕ) → ReadsRow rows steps i (some (Verdict.Broken n)) → (c : Constraint)
    × (get_elem? rows i ≡ some c) × BrokenAt c steps n
broken_row rows steps i n (row c v e (reads_broken k b)) = (c, e, b)

-- a row that was broken reads so
pub reads_still : (rows : List Constraint) (steps : List Step) (i n : ℕ) (c : Constraint) → Valid steps → get_elem? rows i ≡ some c
    → BrokenAt c steps n
    → (o : Option Verdict) → ReadsRow rows steps i o → o ≡ some (Verdict.Broken n)
reads_still rows steps i n c valid e b o (row d v f r) =
    let same : d ≡ c = cc in
    ap some (reads_once c steps valid v (Verdict.Broken n) (subst (λ x. Reads x steps v) same r) (reads_broken n b))
reads_still rows steps i n c valid e b o (no_row_lem f) = never (cc)

module _ (every_type_exact : (c : Constraint) → Sound c → Exact c) where
  -- §1.6, §3.2: a fresh monitor follows the empty list of steps
  pub start_follows : (rows : List Constraint) → Accepted rows → Follows every_type_exact rows [] (monitor_of rows)
  unfolding monitor_of closed clock_from times next_free
  start_follows rows accepted =
      record {
        valid = valid_none;
        clock_is = refl;
        count_is = refl;
        closed_is = refl;
        next_whole = length-replicate {A = ℕ} 176 0;
        next_is = λ k kind. get_or-replicate 176 k 0 0 (omega arith);
        len_is = refl;
        few = accepted_few rows accepted;
        fit = fit_start every_type_exact rows (replicate (row_limit - length rows) no_row) (accepted_sound rows accepted);
      }

  -- §8.15, §9.6: each row number reads what the definitions say
  pub verdict_reads : (rows : List Constraint) (steps : List Step) (m : Monitor) → Follows every_type_exact rows steps m → (i : ℕ)
      → ReadsRow rows steps i (verdict_of m i)
  unfolding verdict_of
  verdict_reads rows steps m f i =
      by_cases (dec_lt i (length rows))
      (λ h. let found = has_row rows i h in
      rw (f.len_is, lt-ltb i (length rows) h, lt-ltb i row_limit (omega (arith, f.few)), f.closed_is)
      (row found.0 (row_verdict (get_or m.rows i no_row) (closed steps)) found.1
      (fit_reads every_type_exact steps f.valid rows m.rows f.fit i found.0 found.1)))
      (λ h. rw (f.len_is, le-ltb i (length rows) (omega arith)) (no_row_lem (has_none rows i (omega arith))))
