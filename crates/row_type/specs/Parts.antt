-- What row types share: sums and tests, the oldest time, and the parts of a change.
use Rattle.std.specs.Prelude.{ℕ, ◌+◌, min, Bool, true, false, ◌||◌, List, [], ◌∷◌, leb, eqb}
use Rattle.constraint.specs.Limits.{no_limit}
use Rattle.ring.specs.Ring.{changed}
use Rattle.ring.specs.declared.Edit.{Edit}
use Rattle.ring.specs.declared.Edit.TheVariants.{Drop}
use Rattle.row_type.specs.declared.Registers.{Registers}
use Rattle.row_type.specs.declared.Change.{Change}

-- a sum that does not wrap: past the largest number it stays there
abbrev pub plus : ℕ → ℕ → ℕ
plus a b = min (a + b) no_limit

-- t is at least minimum after the last event, where there was one; `last` is one more than its time
abbrev pub far_enough : ℕ → ℕ → ℕ → Bool
far_enough minimum last t = eqb last 0 || leb (last + minimum) (t + 1)

-- the first of the times
abbrev pub front : List ℕ → ℕ
front [] = 0
front (t ∷ ts) = t

-- there is none
abbrev pub none_left : List ℕ → Bool
none_left [] = true
none_left (t ∷ ts) = false

-- the due time that the oldest time gives, or another where there is none
abbrev pub due_or : ℕ → ℕ → List ℕ → ℕ
due_or otherwise upper [] = otherwise
due_or otherwise upper (t ∷ ts) = plus t upper

abbrev pub due_oldest : ℕ → List ℕ → ℕ
due_oldest upper times = due_or no_limit upper times

abbrev pub no_registers : Registers
no_registers = record { last = 0; first = 0; second = 0; third = 0; fourth = 0 }

-- marks with these numbers, and the last two of others
abbrev pub registers_of : ℕ → ℕ → ℕ → Registers → Registers
registers_of last first second m = record { last = last; first = first; second = second; third = m.third; fourth = m.fourth }

-- one more than the time of a target beyond the number of sources, where a type keeps that for the last time; 0 for none
abbrev pub early_of : Registers → ℕ
early_of m = m.last

-- the marks with another last time
abbrev pub with_last : Registers → ℕ → Registers
with_last m last = registers_of last m.first m.second m

-- the change of a row that goes on, and that of one that breaks
abbrev pub continues_with : Edit → Registers → ℕ → Bool → Change
continues_with edit registers due kept = record { breaks = false; edit = edit; registers = registers; due = due; kept = kept }

abbrev pub breaking : Change
breaking = record { breaks = true; edit = Drop 0; registers = no_registers; due = 0; kept = false }

-- the change of a row each of whose times waits until upper after it: the oldest gives the due time, and it is kept where none waits
abbrev pub waits : ℕ → List ℕ → Edit → Registers → Change
waits upper times edit registers = continues_with edit registers (due_oldest upper (changed edit times)) (none_left (changed edit times))
