-- One row in two memories (§3.10, §3.11).
use Rattle.std.specs.Prelude.{ℕ, ◌≡◌}
use Rattle.in_place.specs.Contract.{ReadOff}
use Rattle.delkuthi.specs.Host.{Memory}
use Rattle.delkuthi.specs.Lent.{WordOfVerdict, StepOfVerdict}

-- §3.10: `delkuthi_row_verdict` and `delkuthi_row_step` answer the same of row i in the one memory and row j in the other
pub record ReadsAlike (a : Memory) (i : ℕ) (b : Memory) (j : ℕ) : Type 0 where
  pub words : (word word' : ℕ) → ReadOff a (λ m. WordOfVerdict m i) word → ReadOff b (λ m. WordOfVerdict m j) word' → word ≡ word'
  pub steps : (step step' : ℕ) → ReadOff a (λ m. StepOfVerdict m i) step → ReadOff b (λ m. StepOfVerdict m j) step' → step ≡ step'
