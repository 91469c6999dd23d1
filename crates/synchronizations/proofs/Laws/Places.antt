-- The number of a kind lies at the kind's place among a row's numbers: the three tests that choose the one choose the other.
use Rattle.constraint.proofs.Library.{Bool, List, [], ◌∷◌, ◌≡◌, ap, cond, eqb, false, get_or, refl, set, true, ℕ}
use Rattle.row_type.specs.Words.{UndoRecord, number_words, parameters_at, registers_at, row_as_words, with_registers}
use Rattle.row_type.specs.{declared.Parameters.Parameters, declared.Registers.Registers, declared.State.State}
use Rattle.synchronizations.specs.Kinds.{register_of, register_place, with_four, with_register_of}

pub register_at : (w : List ℕ) (parameters : Parameters) (kind : ℕ)
    → get_or w (register_place parameters kind) 0 ≡ register_of parameters (registers_at w) kind
unfolding register_place
register_at w parameters kind = by (eqb kind parameters.first) (eqb kind parameters.second) (eqb kind parameters.third)
  where
    by : (a b c : Bool)
        → get_or w (cond a 11 (cond b 12 (cond c 13 14))) 0 ≡ cond a (get_or w 11 0) (cond b (get_or w 12 0) (cond c (get_or w 13 0) (get_or w 14 0)))
    by true b c = refl
    by false true c = refl
    by false false true = refl
    by false false false = refl

pub register_put : (parameters : Parameters) (state : State) (past : UndoRecord) (kind n : ℕ)
    → set (number_words parameters state past) (register_place parameters kind) n
    ≡ number_words parameters (with_registers state (with_register_of parameters state.registers kind n)) past
unfolding number_words register_place
register_put parameters state past kind n = by (eqb kind parameters.first) (eqb kind parameters.second) (eqb kind parameters.third)
  where
    m : Registers
    m = state.registers

    by : (a b c : Bool) → set (number_words parameters state past) (cond a 11 (cond b 12 (cond c 13 14))) n
        ≡ number_words parameters
        (with_registers state
        (with_four (cond a n (cond b m.first (cond c m.first m.first))) (cond a m.second (cond b n (cond c m.second m.second)))
        (cond a m.third (cond b m.third (cond c n m.third))) (cond a m.fourth (cond b m.fourth (cond c m.fourth n))) m))
        past
    by true b c = refl
    by false true c = refl
    by false false true = refl
    by false false false = refl

-- read and stored where a row lies
module _ (m : List (List ℕ)) (parameters : Parameters) (times : List ℕ) (state : State) (past : UndoRecord) (kind place : ℕ)
    (e : m ≡ row_as_words parameters times state past) (is : place ≡ register_place (parameters_at (get_or m 1 [])) kind) where
  pub register_read : get_or (get_or m 1 []) place 0 ≡ register_of parameters state.registers kind
  unfolding row_as_words number_words
  register_read = rw (is, e) (register_at (number_words parameters state past) parameters kind)

  pub register_stored : (stored n : ℕ) → stored ≡ n
      → set m 1 (set (get_or m 1 []) place stored)
      ≡ row_as_words parameters times (with_registers state (with_register_of parameters state.registers kind n)) past
  unfolding row_as_words number_words
  register_stored stored n same = rw (is, e, same) (ap (λ w. times ∷ w ∷ []) (register_put parameters state past kind n))
