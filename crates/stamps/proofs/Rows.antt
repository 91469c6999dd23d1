-- A row is a Repeat of span 1 just where its type's number and its second value say so.
use Rattle.std.specs.Prelude.{Some, None, Ok, Err}
use Rattle.constraint.specs.declared.Refusal.TheVariants.{NoRow, NotRepeat}
use Rattle.table_row.specs.declared.TableRow.{TableRow}
use Rattle.stamps.proofs.Names.{Constraint, Finds, List, Refused, Repeat, RepeatRow, row_in, refl, ◌<◌, ◌∙◌, ◌≡◌, ◌≤◌, ap, arith, at}
use Rattle.stamps.proofs.Names.{by_cases, dec_lt, get_elem?, judged_no, judged_yes, length, lengths, never, no_type, parameters_of, row_read, says}
use Rattle.stamps.proofs.Names.{some, sym, type_of, ℕ}

-- ---- a row's values

-- a row of type 3 is the Repeat of its values
repeat_is : (t : ℕ) (v : List ℕ) → t ≡ 3 → row_read t v ≡ Repeat (at v 0) (at v 1) (at v 2) (at v 3)
unfolding row_read
repeat_is t v three = rw three

-- and a row that is a Repeat has that type
type_is : (t : ℕ) (v : List ℕ) → type_of (row_read t v) ≡ 3 → t ≡ 3
type_is t v three =
    by_cases (dec_lt t (length lengths))
    (λ below. by_cases (dec_lt 0 t) (λ above. sym (says v t (above, below)).0 ∙ three) (λ none. unlisted (λ known. omega (arith, known.0, none))))
    (λ past. unlisted (λ known. omega (arith, known.1, past)))
  where
    unlisted : ¬ ((1 ≤ t) × (t < length lengths)) → t ≡ 3
    unlisted other = absurd (omega (arith, sym (ap type_of (no_type t v other)) ∙ three))

repeat_of : (t : ℕ) (v : List ℕ) (k low high : ℕ) → row_read t v ≡ Repeat k 1 low high → (t ≡ 3) × (at v 1 ≡ 1)
repeat_of t v k low high same =
    let three = type_is t v (ap type_of same) in
    (three, ap (λ (c : Constraint). (parameters_of c).span) (sym (repeat_is t v three) ∙ same))

-- ---- what is found

pub finds_none : (late : ℕ) → Finds None late (Err NoRow)
finds_none late rows i past e = judged_no 15 _ _ (λ h. omega (arith, h, past))

module _ (row : TableRow) (late : ℕ) where
  pub finds_other : (row.tag ≡ 3 → at row.values 1 ≡ 1 → ◌≡◌ {A = ℕ} 0 1) → Finds (Some row) late (Err NotRepeat)
  finds_other other rows i is e =
      judged_yes 15 _ _ (Refused 25) is.0
      (judged_no 25 _ _ (λ asked.
      let k = asked.0 in let low = asked.1.0 in let high = asked.1.1.0 in
      let numbers = repeat_of row.tag row.values k low high (of_row rows i k low high is.1 asked.1.1.1) in
      never (other numbers.0 numbers.1)))
    where
      of_row : (rows : List Constraint) (i k low high : ℕ) → get_elem? rows i ≡ some (row_in row) → RepeatRow rows i k low high
          → row_in row ≡ Repeat k 1 low high
      of_row rows i k low high one two = cc

  pub finds_it : row.tag ≡ 3 → at row.values 1 ≡ 1
      → Finds (Some row) late (Ok (record { event = at row.values 0; lower = at row.values 2; upper = at row.values 3; late = late }))
  finds_it three one = (
    refl,
    λ rows i is.
        is.1
        ∙ ap (λ (d : Constraint). some d)
        (repeat_is row.tag row.values three ∙ ap (λ (span : ℕ). Repeat (at row.values 0) span (at row.values 2) (at row.values 3)) one),
  )
