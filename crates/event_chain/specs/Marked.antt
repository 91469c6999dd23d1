-- What rows of coloured kinds share: the kind of a stream, and a mark that tells the row's due time, so that few events look at every colour.
use Rattle.std.specs.Prelude.{ℕ, ◌+◌, ◌-◌, ◌/◌, cond, eqb, leb, ltb}
use Rattle.constraint.specs.Limits.{no_limit}
use Rattle.ring.specs.declared.Edit.{Edit}
use Rattle.row_type.specs.Parts.{continues_with, with_last}
use Rattle.row_type.specs.declared.Registers.{Registers}
use Rattle.row_type.specs.declared.Change.{Change}

-- §1.9: the kind of a coloured stream
abbrev pub coloured_kind : ℕ → ℕ
coloured_kind s = s / 8 + 42

-- the due time that the mark tells: no limit before any event
abbrev pub due_marked : Registers → ℕ
due_marked registers = no_limit - registers.last

-- the due time where one colour has a new last moment, by the due time before, the colour's last moment before, and the first one of all colours:
-- that one counts only where the colour may have had the first, and has a later one now
abbrev pub due_next : ℕ → ℕ → ℕ → ℕ → ℕ
due_next before old new all = cond (leb new before) new (cond (ltb before old) before all)

-- the change of a row that goes on with a due time; it is kept where nothing is due
abbrev pub marking : Edit → Registers → ℕ → Change
marking edit registers due = continues_with edit (with_last registers (no_limit - due)) due (eqb due no_limit)
