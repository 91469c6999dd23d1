-- The machine of a row type: all that a row asks of its type.
use Rattle.std.specs.Prelude.{ℕ, Bool, false, List}
use Rattle.row_type.specs.Parts.{breaking}
use Rattle.row_type.specs.Words.{none_saved}
use Rattle.row_type.specs.declared.Parameters.{Parameters}
use Rattle.row_type.specs.declared.Registers.{Registers}
use Rattle.row_type.specs.declared.Change.{Change}

pub record Machine : Type 0 where
  -- the marks of the past, by those of the state and of the past: those that the type changes are the state's (§3.13)
  pub keeps : Registers → Registers → Registers
  -- what an event of one of the row's streams makes of it, the clock not being past its due time
  pub decide : Parameters → Registers → List ℕ → ℕ → ℕ → Change
  -- an event of one of them lets more wait than there is room for, 63 or 64 waiting (§8.12)
  pub overflows : Parameters → Registers → ℕ → ℕ → ℕ → Bool
  -- how many of the row's 64 places are taken, by its span and how many times it keeps: none where no event can let too many wait
  pub taken : ℕ → ℕ → ℕ

-- no event lets too many wait: none of the places is taken
abbrev pub never_overflows : Parameters → Registers → ℕ → ℕ → ℕ → Bool
never_overflows parameters registers len s t = false

abbrev pub none_taken : ℕ → ℕ → ℕ
none_taken span len = 0

-- each time takes a place
abbrev pub each_taken : ℕ → ℕ → ℕ
each_taken span len = len

-- that of no type: the row breaks at its first event
abbrev pub no_machine : Machine
no_machine = record { keeps = none_saved; decide = λ parameters registers times s t. breaking; overflows = never_overflows; taken = none_taken }
