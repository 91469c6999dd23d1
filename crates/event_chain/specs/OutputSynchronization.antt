-- OutputSynchronization: each word of a colour is one more than the time of the first event of its kind, or 0. The stimulus has place 0, and the
-- kinds of responses follow it.
use Rattle.std.specs.Prelude.{ℕ, suc, ◌-◌, min, Bool, cond, ◌&&◌, ◌||◌, List, eqb, ltb}
use Rattle.constraint.specs.Limits.{no_limit}
use Rattle.constraint.specs.Steps.{at}
use Rattle.row_type.specs.Parts.{plus}
use Rattle.row_type.specs.Machine.{Machine, never_overflows, none_taken}
use Rattle.row_type.specs.Words.{last_saved}
use Rattle.row_type.specs.declared.Parameters.{Parameters}
use Rattle.row_type.specs.declared.Registers.{Registers}
use Rattle.row_type.specs.declared.Change.{Change}
use Rattle.event_chain.specs.Reaction.{latest}
use Rattle.event_chain.specs.Coloured.{least_of, first_word, decide_words}

-- the first response of all n kinds, or the mark; and whether each kind has one
abbrev pub first_response : ℕ → List ℕ → ℕ
first_response n w = least_of (λ i. latest (at w (suc i))) n

abbrev pub all_responded : ℕ → List ℕ → Bool
all_responded n w = ltb 0 (least_of (λ i. at w (suc i)) n)

-- the last moment of a colour: tolerance after the first response, where there is a stimulus and a kind is missing; before any response it is one
-- that no clock reaches
abbrev pub owed_output : ℕ → ℕ → List ℕ → ℕ
owed_output n tolerance w = cond (eqb (at w 0) 0 || all_responded n w) no_limit (min (plus (first_response n w) tolerance) (no_limit - 1))

-- a stimulus after a response breaks the row
abbrev pub breaks_output : ℕ → List ℕ → ℕ → ℕ → Bool
breaks_output n w j t = eqb j 0 && ltb (first_response n w) t

abbrev pub word_output : ℕ → List ℕ → ℕ → ℕ → ℕ
word_output n w j t = first_word (at w j) t

abbrev pub decide_output_synchronization : Parameters → Registers → List ℕ → ℕ → ℕ → Change
decide_output_synchronization = decide_words owed_output breaks_output word_output

abbrev pub machine_output_synchronization : Machine
machine_output_synchronization =
    record { keeps = last_saved; decide = decide_output_synchronization; overflows = never_overflows; taken = none_taken }
