-- What each row type proves of its machine, so that code and proofs that step rows never look inside a type.
use Rattle.row_type.proofs.Names.{Accepts, Bool, Change, Constraint, InRange, KindsFit, Known, KindsSuit, List, LowerFirst, Registers, Meets}
use Rattle.row_type.proofs.Names.{Open}
use Rattle.row_type.proofs.Names.{Past}
use Rattle.row_type.proofs.Names.{Step, [], ◌++◌, ◌<◌, ◌∷◌, ◌≡◌, ◌≤◌, at, changed, clock, closed, cond, event, false, kinds, last_time, length}
use Rattle.row_type.proofs.Names.{no_limit, no_registers, own, parameters_of, start_words, streams, tick, true, waiting, waiting_limit, waits_in, ℕ}

-- a row whose answers to questions 4, 5, 18, 6 and 7 are yes
pub record Sound (c : Constraint) : Type 0 where
  pub known : Known c
  pub kinds_fit : KindsFit (kinds c)
  pub kinds_suit : KindsSuit c
  pub in_range : InRange c
  pub lower_first : LowerFirst c

-- s is one of the row's streams
abbrev pub OfStream : Constraint → ℕ → Type 0
OfStream c s = (i : ℕ) × (i < length (streams c)) × (at (streams c) i ≡ s)

-- what holds of marks and times, with the due time and the mark for kept that go with them, before any event
pub record Starts (Live : Registers → List ℕ → Type 0) (due : Registers → List ℕ → ℕ) (kept : Registers → List ℕ → Bool)
    (times : List ℕ) : Type 0 where
  pub live : Live no_registers times
  pub due_is : no_limit ≡ due no_registers times
  pub kept_is : true ≡ kept no_registers times

-- and after a change at t that the row goes on with
pub record GoesOn (Live : Registers → List ℕ → Type 0) (due : Registers → List ℕ → ℕ) (kept : Registers → List ℕ → Bool) (times : List ℕ) (t : ℕ)
    (change : Change) : Type 0 where
  pub live : Live change.registers (changed change.edit times)
  pub due_is : change.due ≡ due change.registers (changed change.edit times)
  pub kept_is : change.kept ≡ kept change.registers (changed change.edit times)
  pub in_time : t ≤ change.due

-- of a type in which each time waits, or none does: how many wait, of n times
abbrev pub Waits : Bool → ℕ → ℕ → Type 0
Waits true waiting n = waiting ≡ n
Waits false waiting n = (waiting ≡ 0) × (n ≤ waiting_limit)

-- by what a change does: it breaks the row, or the row goes on with it
abbrev pub ByOutcome : Type 0 → (Change → Type 0) → Change → Type 0
ByOutcome Breaks Goes change = cond change.breaks Breaks (Goes change)

pub outcome_map : {A B P Q : Type 0} (breaks : Bool) → (A → B) → (P → Q) → cond breaks A P → cond breaks B Q
outcome_map true f g = f
outcome_map false f g = g

-- a constraint whose rows decide so
pub record Exact (c : Constraint) (decide : Registers → List ℕ → ℕ → ℕ → Change) : Type 1 where
  -- what holds between the steps and what the row keeps of them, while it is open; its due time, and whether it is kept at a close
  pub Live : List Step → Registers → List ℕ → Type 0
  pub due : Registers → List ℕ → ℕ
  pub kept : Registers → List ℕ → Bool
  -- Start
  pub start : Starts (Live []) due kept (start_words c)
  -- Events: one that comes in time either leaves no continuation or leaves the row going on
  pub does : {steps : List Step} {registers : Registers} {times : List ℕ} {k t : ℕ} → Past steps → Live steps registers times → OfStream c k
      → Accepts steps (event k t) → t ≤ due registers times
      → ByOutcome (¬ Open c (steps ++ (event k t ∷ []))) (GoesOn (Live (steps ++ (event k t ∷ []))) due kept times t) (decide registers times k t)
  -- §2.1: Ticks: steps that record nothing of the row's streams leave it as it is, until its due time has passed
  pub same : {a b : List Step} {registers : Registers} {times : List ℕ} → own (streams c) a ≡ own (streams c) b → Live a registers times
      → Live b registers times
  pub late : {steps : List Step} {registers : Registers} {times : List ℕ} {t : ℕ} → Past steps → Live steps registers times → due registers times < t
      → t ≤ last_time → ¬ Open c (steps ++ (tick t ∷ []))
  -- §2.4: Open
  pub is_open : {steps : List Step} {registers : Registers} {times : List ℕ} → Past steps → closed steps ≡ false → Live steps registers times
      → clock steps ≤ due registers times → Open c steps
  -- §5.9.7, §6.1 to §6.4: Waiting
  pub waits : {steps : List Step} {registers : Registers} {times : List ℕ} → Past steps → Live steps registers times
      → Waits (waits_in (parameters_of c).tag) (waiting c steps) (length times)
  -- Close
  pub is_kept : {steps : List Step} {registers : Registers} {times : List ℕ} → Past steps → Live steps registers times
      → clock steps ≤ due registers times
      → kept registers times ≡ true → Meets c steps
  pub not_kept : {steps : List Step} {registers : Registers} {times : List ℕ} → Past steps → Live steps registers times
      → kept registers times ≡ false → ¬ Meets c steps
