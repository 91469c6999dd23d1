-- What a row's words keep by an event is all that the row was, where what its type never stores is 0; and that stays so: a type changes only marks
-- that it keeps, and a row that breaks or begins has none.
use Rattle.row.proofs.Names.{RowUndo, Constraint, StepInput, RestZero, Row, State, Unused, ◌∙◌, ◌≡◌, ap, applied, undo_of_event, applied_keeps}
use Rattle.row.proofs.Names.{applied_row, arith, back_row, both, broken_by_event, broken_state, change_by, concerns, cond, ended_row, ended_saves}
use Rattle.row.proofs.Names.{ended_state, ends_by, eqb, eqb-true, event_keeps, event_row, event_saves, false, items_of, kept_at_place}
use Rattle.row.proofs.Names.{saved_registers}
use Rattle.row.proofs.Names.{kept_without, ltb, ltb-false, no_row_undo, no_registers, refl, row_from, row_of, row_without, parameters_of, saved_at}
use Rattle.row.proofs.Names.{second_at}
use Rattle.row.proofs.Names.{split, sym, time_at, true, with_change, writes_at, ℕ}
use Rattle.row.proofs.Machines.{fits}

-- ---- the marks that a type keeps

none_unused : (tag : ℕ) → Unused tag no_registers
none_unused tag = (fits tag).keeping.over_own no_registers

-- ---- where the words keep all that the row was

module _ (r : Row) (b : RowUndo) where
  -- the marks and the step that broke the row are those that they would be
  abbrev pub KeepsWhole : Type 0
  KeepsWhole = (saved_registers r.parameters.tag r.now.registers b.state.registers ≡ r.now.registers)
      × (b.state.broken ≡ r.now.broken)

  -- so where what it was is what it is
  pub keeps_own : b.state ≡ r.now → KeepsWhole
  keeps_own same = (
    ap (λ (x : State). saved_registers r.parameters.tag r.now.registers x.registers) same
        ∙ (fits r.parameters.tag).keeping.over_own r.now.registers,
    ap (λ (x : State). x.broken) same,
  )

  kept_all : (place number : ℕ) → KeepsWhole → kept_at_place r b place number ≡ saved_at r place number
  kept_all place number whole = λ i.
      record {
        state =
            record {
              registers = whole.0 i;
              head = r.now.head;
              len = r.now.len;
              due = r.now.due;
              kept = r.now.kept;
              broken = whole.1 i;
            };
        place = place;
        first = time_at r.times place 0;
        second = second_at r.times place;
        step = number;
      }

  applied_all : (o : StepInput) (number : ℕ) → KeepsWhole → applied_keeps r b o number ≡ undo_of_event r o number
  unfolding applied_keeps
  applied_all o number whole =
      split (change_by r o).breaks
      (λ x. cond x (undo_of_event r o number) (kept_at_place r b (writes_at r o) number) ≡ undo_of_event r o number)
      (λ _. refl) (λ _. kept_all (writes_at r o) number whole)

  pub event_keeps_all : (o : StepInput) (number : ℕ) → KeepsWhole → event_keeps o number r b ≡ event_saves o number r b
  event_keeps_all o number whole = ap (λ (x : RowUndo). cond (eqb r.now.broken 0) x b) (applied_all o number whole)

  pub rest_zero_keeps : (o : StepInput) (number : ℕ) → RestZero r b → event_keeps o number r b ≡ event_saves o number r b
  rest_zero_keeps o number f =
      split (eqb r.now.broken 0) (λ x. cond x (applied_keeps r b o number) b ≡ cond x (undo_of_event r o number) b)
      (λ e. applied_all o number (registers, f.past_open ∙ sym (eqb-true r.now.broken 0 e))) (λ _. refl)
    where
      registers : saved_registers r.parameters.tag r.now.registers b.state.registers ≡ r.now.registers
      registers =
          ap (saved_registers r.parameters.tag r.now.registers) (sym f.past_unused)
          ∙ (fits r.parameters.tag).keeping.over_past r.now.registers b.state.registers ∙ f.now_unused

  -- ---- it stays so

  applied_rest_zero : (o : StepInput) (number : ℕ) → RestZero r b → r.now.broken ≡ 0 → RestZero (applied_row r o number) (undo_of_event r o number)
  unfolding with_change applied
  applied_rest_zero o number f is_open =
      split (change_by r o).breaks
      (λ x. RestZero (cond x (broken_by_event r o.time number) (applied r (change_by r o))) (undo_of_event r o number))
      (λ _. record { now_unused = none_unused r.parameters.tag; past_unused = f.now_unused; past_open = is_open })
      (λ _.
      record {
        now_unused = (fits r.parameters.tag).unkept r.parameters r.now.registers (items_of r) o.stream o.time f.now_unused;
        past_unused = f.now_unused;
        past_open = is_open;
      })

  pub rest_zero_event : (o : StepInput) (number : ℕ) → RestZero r b → RestZero (event_row o number r) (event_saves o number r b)
  rest_zero_event o number f =
      split (eqb r.now.broken 0) (λ x. RestZero (cond x (applied_row r o number) r) (cond x (undo_of_event r o number) b))
      (λ e. applied_rest_zero o number f (eqb-true r.now.broken 0 e)) (λ _. f)

  ends_open : (o : StepInput) → ends_by r.parameters r.now o ≡ true → r.now.broken ≡ 0
  unfolding ends_by
  ends_open o =
      split (ltb 0 r.now.broken)
      (λ x. cond x false (cond (ltb r.now.due o.time) true (cond o.closes (cond (concerns r.parameters o.kind) false true) false)) ≡
      true
      → r.now.broken ≡ 0)
      (λ _ e. both (sym e)) (λ l _. omega (arith, ltb-false 0 r.now.broken l))

  ended_unused : (o : StepInput) (number : ℕ) → Unused r.parameters.tag r.now.registers
      → Unused r.parameters.tag (ended_state r.now o number).registers
  unfolding ended_state
  ended_unused o number unused =
      split (ltb r.now.due o.time)
      (λ x. Unused r.parameters.tag (cond x broken (cond (eqb r.now.kept 0) broken r.now)).registers)
      (λ _. none_unused r.parameters.tag)
      (λ _. split (eqb r.now.kept 0) (λ x. Unused r.parameters.tag (cond x broken r.now).registers)
      (λ _. none_unused r.parameters.tag) (λ _. unused))
    where
      broken : State
      broken = broken_state r.now o.time o.closes number

  pub rest_zero_ended : (o : StepInput) (number : ℕ) → RestZero r b → RestZero (ended_row o number r) (ended_saves o number r b)
  rest_zero_ended o number f =
      split (ends_by r.parameters r.now o)
      (λ x. RestZero (cond x (row_from r.parameters r.times (ended_state r.now o number)) r) (cond x (saved_at r 0 number) b))
      (λ e. record { now_unused = ended_unused o number f.now_unused; past_unused = f.now_unused; past_open = ends_open o e })
      (λ _. f)

  pub rest_zero_without : (number : ℕ) → RestZero r b → RestZero (row_without number r b) (kept_without number b)
  unfolding row_without kept_without back_row
  rest_zero_without number f =
      split (eqb b.step number) (λ x. RestZero (cond x (back_row r b) r) (cond x no_row_undo b))
      (λ _. record { now_unused = f.past_unused; past_unused = none_unused r.parameters.tag; past_open = refl }) (λ _. f)

pub rest_zero_fresh : (c : Constraint) → RestZero (row_of c) no_row_undo
unfolding row_of
rest_zero_fresh c = record { now_unused = none_unused (parameters_of c).tag; past_unused = none_unused (parameters_of c).tag; past_open = refl }
