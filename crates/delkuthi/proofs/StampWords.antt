-- Where no stamp is late the number that answers for late stamps is that of the closed monitor's word: both read one list of steps.
use Rattle.delkuthi.proofs.Names.{Accepted, Call, Constraint, Left, List, NumbersStampsUpTo, Option, ReadAnswer, Reads, ReadsRow}
use Rattle.delkuthi.proofs.Names.{ReadsTableUpTo, RecordingTakenAs, Repeat, RepeatRow, StampedAnswer, Step, Verdict, WordOfVerdict, [], ◌*◌}
use Rattle.delkuthi.proofs.Names.{◌++◌, ◌∙◌, ◌∷◌, ◌≡◌, after, ap, arith, asks, both, close, closed_close, map, never, no_row_lem, read_accepted}
use Rattle.delkuthi.proofs.Names.{reads_open, refl, row, run_once, run_valid, some, stamped_number, stamped_of, stamps_agree, subst, sym}
use Rattle.delkuthi.proofs.Names.{table_of, valid_none, word_of, ℕ}

-- 1 for kept and 2 for broken are 256 and 512
numbers_agree : (c : Constraint) (steps : List Step) (v : Verdict) → Reads c (steps ++ (close ∷ [])) v
    → stamped_number (StampedAnswer.Reads (stamped_of v)) ≡ word_of (some v) * 256
numbers_agree c steps Verdict.Open (reads_open e o) = both (sym (closed_close steps) ∙ e)
numbers_agree c steps Verdict.Kept reading = omega arith
numbers_agree c steps (Verdict.Broken n) reading = omega arith

-- §12.4
pub stamps_as_the_monitor : {newest : ℕ} (table recording : List ℕ) (rows : List Constraint) (calls : List Call)
    (i k lower upper word number : ℕ) → ReadsTableUpTo newest table (table_of rows)
    → RecordingTakenAs rows recording ReadAnswer.Accepted calls → RepeatRow rows i k lower upper
    → WordOfVerdict (after rows (map asks calls)) i word → NumbersStampsUpTo newest table recording i 0 number → number ≡ word * 256
stamps_as_the_monitor table recording rows calls i k lower upper word number read taken there verdict numbers =
    let says = verdict.says.means rows (map asks calls) (_, read_accepted table rows read) refl in
    of_row says.2 (subst (λ (left : Left). ReadsRow rows left.steps i says.2) (run_once rows says.1.1 taken.2.1).1 says.3)
    says.4
  where
    of_row : (o : Option Verdict) → ReadsRow rows (taken.0 ++ (close ∷ [])) i o → word ≡ word_of o → number ≡ word * 256
    of_row o (row c v e r) w =
        let same : c ≡ Repeat k 1 lower upper = cc in
        let reading : Reads (Repeat k 1 lower upper) (taken.0 ++ (close ∷ [])) v =
        subst (λ (x : Constraint). Reads x (taken.0 ++ (close ∷ [])) v) same r in
        let closes = run_valid taken.2.1 valid_none in
        let agrees = stamps_agree table recording rows taken.0 i k lower upper v numbers.answer read taken.1 closes there reading
        numbers.answers in
        numbers.equals ∙ ap stamped_number agrees ∙ numbers_agree (Repeat k 1 lower upper) taken.0 v reading ∙ ap (λ (x : ℕ). x * 256) (sym w)
    of_row o (no_row_lem e) w = never (cc)
