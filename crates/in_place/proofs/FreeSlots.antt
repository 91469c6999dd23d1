-- Whether an event crowds a row of its kind is whether it crowds any row; and a row that is not nearly full is crowded by nothing, so that it need
-- not be asked.
use Rattle.in_place.proofs.Names.{Bool, Indexes, Lent, List, Monitor, StepInput, [], ◌&&◌, ◌<◌, ◌≤◌, ◌||◌, ◌∙◌, ◌∷◌, ◌≡◌, any_all, any_first}
use Rattle.in_place.proofs.Names.{ap, arith, asked_of, crowded, crowded_at, crowded_on, crowds, event_at, false, full_known, held_rows, is_in, is_of}
use Rattle.in_place.proofs.Names.{length, no_row, not, numbers, refl, room_free, row_at, rows_in, row_step, set_of, split, step_crowds, subst, sym}
use Rattle.in_place.proofs.Names.{true}
use Rattle.in_place.proofs.Names.{without_asked, ℕ}
use Rattle.in_place.proofs.{Concerned.calm, RowByRow.any_none, RowByRow.any_numbers, RowByRow.any_same, RowByRow.any_in}
use Rattle.in_place.proofs.{RowSets.and_true, RowSets.in_and, RowSets.in_less, RowSets.numbers_below}

-- ---- the question

crowd_is : (h : Lent) (s t : ℕ) (rows : List ℕ) → crowded h rows s t ≡ any_in (λ i. crowded_at h i s t) rows
crowd_is h s t [] = refl
crowd_is h s t (i ∷ rows) = ap (λ (b : Bool). crowded_at h i s t || b) (crowd_is h s t rows)

module _ (h : Lent) (ix : Indexes h) (kind stream time : ℕ) (small : kind < 64) (kind_is : (event_at stream time).kind ≡ kind) where
  abbrev o : StepInput
  o = event_at stream time

  abbrev held : ℕ
  held = held_rows h.monitor

  abbrev test : ℕ → Bool
  test = is_of h.monitor kind

  abbrev full_row : ℕ → Bool
  full_row i = crowded_at h i stream time

  abbrev asked : ℕ → Bool
  asked = is_in (asked_of h kind)

  -- of a row that it concerns the question is the machine's
  known : (i : ℕ) → i < held → test i ≡ true → full_row i ≡ crowds o (row_at h.monitor i)
  known i l own =
      full_known (row_at h.monitor i) o (ix.roomy.now_few i l) (subst (λ (k : ℕ). is_of h.monitor k i ≡ true) (sym kind_is) own)

  own_asked : (i : ℕ) → i < held → asked i ≡ (test i && is_in h.full i)
  own_asked i l = in_and (set_of h kind) h.full i ∙ ap (λ (b : Bool). b && is_in h.full i) (ix.listed kind i small l)

  none_asked : (i : ℕ) → held ≤ i → i < 32 → asked i ≡ false
  none_asked i from l = in_and (set_of h kind) h.full i ∙ ap (λ (b : Bool). b && is_in h.full i) (ix.no_others kind i small from l)

  -- one that is not asked is not crowded
  left_out : (i : ℕ) → i < held → asked i ≡ false → crowds o (row_at h.monitor i) ≡ false
  left_out i l out =
      split (test i) (λ b. test i ≡ b → crowds o (row_at h.monitor i) ≡ false)
      (λ _ own.
      let unmarked : is_in h.full i ≡ false = sym (own_asked i l ∙ ap (λ (b : Bool). b && is_in h.full i) own) ∙ out in
      sym (known i l own)
      ∙ room_free (row_at h.monitor i).parameters (row_at h.monitor i).now stream time (ix.roomy.has_room i l unmarked))
      (λ _ other. calm (row_at h.monitor i) o (subst (λ (k : ℕ). is_of h.monitor k i ≡ false) (sym kind_is) other)) refl

  asked_own : (i : ℕ) → i < held → asked i ≡ true → test i ≡ true
  asked_own i l is = both_true (test i) (is_in h.full i) (sym (own_asked i l) ∙ is)
    where
      both_true : (a b : Bool) → (a && b) ≡ true → a ≡ true
      both_true true b e = refl
      both_true false b e = e

  pub crowd_known : crowded_on h kind stream time ≡ any_first held (crowds o) h.monitor.rows
  unfolding rows_in
  crowd_known =
      crowd_is h stream time (numbers asked 32)
      ∙ ap (any_in full_row) (numbers_below asked held 32 (omega arith) none_asked)
      ∙ any_same full_row (λ i. crowds o (row_at h.monitor i)) asked held (λ i l is. known i l (asked_own i l is))
      ∙ any_numbers (crowds o) asked h.monitor.rows held (omega (arith, ix.shaped.rows_there)) left_out

  -- what loses its mark is of the kind
  pub lost_mark : (i : ℕ) → i < held → is_in (without_asked h kind).full i ≡ false → test i ≡ false → is_in h.full i ≡ false
  lost_mark i l out other =
      sym (ap (λ (b : Bool). is_in h.full i && not b) (ix.listed kind i small l ∙ other) ∙ and_true (is_in h.full i))
      ∙ sym (in_less (set_of h kind) h.full i) ∙ out

-- a step crowds one of the rows
pub step_crowd : (m : Monitor) (o : StepInput) (number : ℕ) → length m.rows ≡ 32
    → any_first (held_rows m) (crowds o) m.rows ≡ any_first m.len (λ r. (row_step r o number).crowded) m.rows
step_crowd m o number whole =
    sym (λ i. any_first (held_rows m) (λ r. step_crowds r o number i) m.rows)
    ∙ any_all (λ r. (row_step r o number).crowded) m.rows (held_rows m) m.len (omega (arith, whole))

-- where none is, each has room
pub each_free : (m : Monitor) (o : StepInput) → length m.rows ≡ 32 → any_first (held_rows m) (crowds o) m.rows ≡ false
    → (i : ℕ) → i < held_rows m → crowds o (row_at m i) ≡ false
each_free m o whole none i l = any_none (crowds o) (held_rows m) i m.rows no_row none l (omega (arith, whole, l))
