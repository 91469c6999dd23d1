-- InputSynchronization: the word of a kind of stimuli is one more than the time of the latest, that of the response, which follows them, one more
-- than the time of the first; 0 for none.
use Rattle.std.specs.Prelude.{ℕ, ◌-◌, Bool, cond, ◌&&◌, ◌||◌, List, eqb, ltb, leb}
use Rattle.constraint.specs.Limits.{no_limit}
use Rattle.constraint.specs.Steps.{at}
use Rattle.row_type.specs.Parts.{plus}
use Rattle.row_type.specs.Machine.{Machine, never_overflows, none_taken}
use Rattle.row_type.specs.Words.{last_saved}
use Rattle.row_type.specs.declared.Parameters.{Parameters}
use Rattle.row_type.specs.declared.Registers.{Registers}
use Rattle.row_type.specs.declared.Change.{Change}
use Rattle.event_chain.specs.Coloured.{least_of, most_of, first_word, decide_words}

-- each of the n kinds has a stimulus, and the latest ones lie within tolerance of one another
abbrev pub together : ℕ → ℕ → List ℕ → Bool
together n tolerance w = ltb 0 (least_of (at w) n) && leb (most_of (at w) n) (plus (least_of (at w) n) tolerance)

-- the last moment of a colour: that of a response which is owed a stimulus
abbrev pub owed_input : ℕ → ℕ → List ℕ → ℕ
owed_input n tolerance w = cond (eqb (at w n) 0 || together n tolerance w) no_limit (at w n - 1)

-- a stimulus after the first response, of which this is the word, breaks the row
abbrev pub late_stimulus : ℕ → ℕ → ℕ → ℕ → Bool
late_stimulus n response j t = ltb j n && (ltb 0 response && ltb response (plus t 1))

abbrev pub breaks_input : ℕ → List ℕ → ℕ → ℕ → Bool
breaks_input n w j t = late_stimulus n (at w n) j t

-- the new word of a kind, by the word before
abbrev pub next_input : ℕ → ℕ → ℕ → ℕ → ℕ
next_input n old j t = cond (ltb j n) (plus t 1) (first_word old t)

abbrev pub word_input : ℕ → List ℕ → ℕ → ℕ → ℕ
word_input n w j t = next_input n (at w j) j t

abbrev pub decide_input_synchronization : Parameters → Registers → List ℕ → ℕ → ℕ → Change
decide_input_synchronization = decide_words owed_input breaks_input word_input

abbrev pub machine_input_synchronization : Machine
machine_input_synchronization =
    record { keeps = last_saved; decide = decide_input_synchronization; overflows = never_overflows; taken = none_taken }
