-- The numbers that the readers of a lent monitor answer with say what the machine reads: no verdict has the word 15, and a row that is broken has a
-- step that is not 0.
use Rattle.delkuthi.proofs.Names.{Bool, Constraint, HoldsMonitor, KnownWord, List, Monitor, NumberOfRows, NumberOfVerdict, Option, ReadOff}
use Rattle.delkuthi.proofs.Names.{Reading}
use Rattle.delkuthi.proofs.Names.{ReadsRow, RowVerdict, Step, StepOfVerdict, Verdict, WordOfVerdict, Words, ◌&&◌, ◌<◌, ◌∙◌, ◌≡◌, ◌≤◌, ap}
use Rattle.delkuthi.proofs.Names.{arith, by_cases, cond, dec_lt, false, get_or, has_row, inl, inr, length, ltb, ltb-true, never, no_row_lem, no_row}
use Rattle.delkuthi.proofs.Names.{none, refl, row, row_limit, row_verdict, some, split, step_in, subst, sym, true, verdict_in, verdict_of, within}
use Rattle.delkuthi.proofs.Names.{word_of, ℕ}
use Rattle.delkuthi.proofs.Summaries.{made_follows}

-- ---- verdicts

-- each word is known
known : (v : Option Verdict) → KnownWord (word_of v)
known (some Verdict.Open) = inl (omega arith)
known (some Verdict.Kept) = inl (omega arith)
known (some (Verdict.Broken n)) = inl (omega arith)
known none = inr refl

-- no verdict has the word 15, so it says that there is no row of that number
no_15 : (v : Verdict) → word_of (some v) ≡ 15 → ⊥
no_15 Verdict.Open e = omega arith
no_15 Verdict.Kept e = omega arith
no_15 (Verdict.Broken n) e = omega arith

missing : (rows : List Constraint) (steps : List Step) (i : ℕ) (v : Option Verdict) → ReadsRow rows steps i v
    → (word_of v ≡ 15 → length rows ≤ i) × (length rows ≤ i → word_of v ≡ 15)
missing rows steps i v (row c w e reads) = (λ f. absurd (no_15 w f), λ h. absurd (omega (arith, within rows i c e)))
missing rows steps i v (no_row_lem e) =
    (λ f. by_cases (dec_lt i (length rows)) (λ h. let there = (has_row rows i h).1 in never (cc)) (λ h. omega arith), λ h. refl)

module _ {m : Monitor} {i : ℕ} {v : Option Verdict} (reading : Reading m i v) where
  number_kept : (number : Option Verdict → ℕ) (answer : ℕ) → answer ≡ number v → NumberOfVerdict number m i answer
  number_kept number answer e =
      record {
        equals = e ∙ ap number reading.equals;
        means = λ rows requests accepted made.
            let read = reading.means rows requests accepted made in (read.0, read.1, v, read.2, e);
      }

  word_kept : (word : ℕ) → word ≡ word_of v → WordOfVerdict m i word
  word_kept word e =
      record {
        says = number_kept word_of word e;
        no_row_lem = λ rows requests accepted made.
            let read = reading.means rows requests accepted made in rw e (missing rows read.0.steps i v read.2);
      }

-- what is answered on words, for what was read off them
pub word_read : {words : Words} {i : ℕ} (v : RowVerdict) → ((m : Monitor) → HoldsMonitor words m → Reading m i (verdict_in v)) → {word : ℕ}
    → word ≡ word_of (verdict_in v) → KnownWord word × ReadOff words (λ m. WordOfVerdict m i) word
word_read v reads {word} e = (subst KnownWord (sym e) (known (verdict_in v)), λ m holds. word_kept (reads m holds) word e)

-- a verdict of the machine is broken exactly where its step is not 0
abbrev Agree : Option Verdict → Type 0
Agree v = (0 < step_in v → word_of v ≡ 2) × (word_of v ≡ 2 → 0 < step_in v)

step_agrees : (m : Monitor) (i : ℕ) → Agree (verdict_of m i)
unfolding verdict_of row_verdict
step_agrees m i =
    split (ltb i m.len && ltb i row_limit)
    (λ b. Agree (cond b (some (cond (ltb 0 broken) (Verdict.Broken broken) (cond (ltb 0 m.closed) Verdict.Kept Verdict.Open))) none))
    (λ _. split (ltb 0 broken) (λ b. Agree (some (cond b (Verdict.Broken broken) (cond (ltb 0 m.closed) Verdict.Kept Verdict.Open))))
    (λ h. (λ _. refl, λ _. ltb-true 0 broken h)) (λ _. not_broken (ltb 0 m.closed)))
    (λ _. (λ h. absurd (omega arith), λ h. absurd (omega arith)))
  where
    broken : ℕ
    broken = (get_or m.rows i no_row).now.broken

    not_broken : (b : Bool) → Agree (some (cond b Verdict.Kept Verdict.Open))
    not_broken true = (λ h. absurd (omega arith), λ h. absurd (omega arith))
    not_broken false = (λ h. absurd (omega arith), λ h. absurd (omega arith))

pub step_read : {words : Words} {i : ℕ} (v : RowVerdict) → ((m : Monitor) → HoldsMonitor words m → Reading m i (verdict_in v)) → {step : ℕ}
    → step ≡ step_in (verdict_in v) → ReadOff words (λ m. StepOfVerdict m i) step
step_read {i = i} v reads {step} e m holds =
    let says = number_kept (reads m holds) step_in step e in record { says = says; broken = rw says.equals (step_agrees m i) }

-- ---- rows

pub rows_kept : (m : Monitor) (number : ℕ) → number ≡ m.len → NumberOfRows m number
rows_kept m number so =
    record { equals = so; means = λ rows requests accepted made. so ∙ (made_follows rows requests accepted made).2.len_is }
