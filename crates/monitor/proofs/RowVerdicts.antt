-- The verdict that is read off a row's numbers is the machine's.
use Rattle.monitor.proofs.Names.{Bool, Monitor, Row, RowVerdict, Verdict, VerdictOf, ◌&&◌, ◌<◌, ◌∙◌, ◌≡◌, ap, arith, cond, false, get_or}
use Rattle.monitor.proofs.Names.{get_d_within, length, ltb, ltb-true, never, no_row, none, place_of, refl, row_limit, row_verdict, some, split, sym}
use Rattle.monitor.proofs.Names.{true, verdict_by, verdict_in, verdict_of, ℕ}
use Rattle.monitor.proofs.Theorem.{reading_kept}

pub place_small : (i : ℕ) → place_of i < row_limit
place_small i = split (ltb i row_limit) (λ b. cond b i 0 < row_limit) (λ e. ltb-true i row_limit e) (λ e. omega arith)

-- both tests say "yes", or there is no such row
chosen : (x y : Bool) (v w : Verdict) → (y ≡ true → v ≡ w) → verdict_in (cond (x && y) (RowVerdict.Reads v) (RowVerdict.Refused 15))
    ≡ cond (x && y) (some w) none
chosen true true v w e = ap some (e refl)
chosen true false v w e = refl
chosen false y v w e = refl

-- the only number that it refuses with
refused : (there : Bool) (v : Verdict) (n : ℕ) → cond there (RowVerdict.Reads v) (RowVerdict.Refused 15) ≡ RowVerdict.Refused n → n ≡ 15
refused true v n e = never (cc)
refused false v n e = cc

module _ (m : Monitor) (full : length m.rows ≡ row_limit) (i : ℕ) (other : Row) where
  of : ℕ → Verdict
  of broken = cond (ltb 0 broken) (Verdict.Broken broken) (cond (ltb 0 m.closed) Verdict.Kept Verdict.Open)

  pub verdict_by_is : verdict_in (verdict_by i m.len m.closed (get_or m.rows (place_of i) other).now.broken) ≡ verdict_of m i
  unfolding verdict_of row_verdict of
  verdict_by_is =
      chosen (ltb i m.len) (ltb i row_limit) (of (get_or m.rows (place_of i) other).now.broken) (of (get_or m.rows i no_row).now.broken)
      (λ e. rw e (ap (λ (r : Row). of r.now.broken) (get_d_within m.rows i other no_row (omega (arith, ltb-true i row_limit e)))))

  pub verdict_kept : (answer : RowVerdict) → answer ≡ verdict_by i m.len m.closed (get_or m.rows (place_of i) other).now.broken
      → VerdictOf m i answer
  unfolding of
  verdict_kept answer e =
      record {
        reads = reading_kept m i (ap verdict_in e ∙ verdict_by_is);
        number = λ n f. refused (ltb i m.len && ltb i row_limit) (of (get_or m.rows (place_of i) other).now.broken) n (sym e ∙ f);
      }
