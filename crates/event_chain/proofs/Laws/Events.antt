-- What an event makes of a row with a word for each kind, case by case: it breaks the row, leaves its words, or gives one a new value. A stimulus of
-- an InputSynchronization before the response leaves the due time as it is, for nothing is owed before or after it.
use Rattle.event_chain.proofs.Laws.ByWords.{words_at_lem}
use Rattle.event_chain.specs.Coloured.{event_words, noted, unchanged, words_at}
use Rattle.event_chain.specs.Marked.{due_next}
use Rattle.constraint.proofs.Library.{Bool, List, ◌*◌, ◌+◌, ◌<◌, ◌∙◌, ◌||◌, ◌≡◌, ◌≤◌, ap, arith, cond, eq-eqb, eqb, false, get_or}
use Rattle.constraint.proofs.Library.{le-ltb, leb, leb-false, leb-true, length, lt-ltb, ltb, ne_eqb, refl, sym, true, ℕ}
use Rattle.constraint.proofs.Lists.{split}
use Rattle.constraint.specs.{Limits.no_limit, Steps.at}
use Rattle.row_type.specs.{Parts.breaking, declared.Change.Change, declared.Registers.Registers}

module _ (owed : List ℕ → ℕ) (breaks : List ℕ → ℕ → ℕ → Bool) (word : List ℕ → ℕ → ℕ → ℕ) (registers : Registers) (words : List ℕ) (d j t : ℕ) where
  abbrev w : List ℕ
  w = words_at words d

  abbrev change : Change
  change = event_words owed breaks word registers words d j t

  abbrev going : Change
  going = cond (eqb (word w j t) (at w j)) (unchanged registers) (noted owed registers words d j (word w j t))

  pub breaks_short : length words < 40 → change ≡ breaking
  breaks_short few = rw (lt-ltb (length words) 40 few) refl

  pub breaks_event : breaks w j t ≡ true → change ≡ breaking
  breaks_event is = split (ltb (length words) 40) (λ b. cond (b || breaks w j t) breaking going ≡ breaking) (λ e. refl) (λ e. rw is refl)

  module _ (many : 40 ≤ length words) (goes : breaks w j t ≡ false) where
    pub stays_event : word w j t ≡ at w j → change ≡ unchanged registers
    stays_event same = rw (le-ltb (length words) 40 many, goes, eq-eqb (word w j t) (at w j) same) refl

    pub notes_event : ¬ (word w j t ≡ at w j) → change ≡ noted owed registers words d j (word w j t)
    notes_event other = rw (le-ltb (length words) 40 many, goes, ne_eqb (word w j t) (at w j) other) refl

-- the same by the colour's old word and the new one, where the new one follows from the old
module _ (owed : List ℕ → ℕ) (breaks : List ℕ → ℕ → ℕ → Bool) (next : ℕ → ℕ → ℕ → ℕ) (registers : Registers) (words : List ℕ)
    (d j t : ℕ) (small : j < 5) (many : 40 ≤ length words) (goes : breaks (words_at words d) j t ≡ false)
    (old value : ℕ) (there : old ≡ get_or words (5 * d + j) 0) (follows : value ≡ next old j t) where
  abbrev next_change : Change
  next_change = event_words owed breaks (λ w j t. next (at w j) j t) registers words d j t

  same : old ≡ at (words_at words d) j
  same = there ∙ sym (words_at_lem words d j small)

  new : next (at (words_at words d) j) j t ≡ value
  new = ap (λ x. next x j t) (sym same) ∙ sym follows

  pub stays_next : value ≡ old → next_change ≡ unchanged registers
  stays_next e = stays_event owed breaks (λ w j t. next (at w j) j t) registers words d j t many goes (new ∙ e ∙ same)

  pub notes_next : ¬ (value ≡ old) → next_change ≡ noted owed registers words d j value
  notes_next other =
      notes_event owed breaks (λ w j t. next (at w j) j t) registers words d j t many goes (λ e. other (sym new ∙ e ∙ sym same))
      ∙ ap (noted owed registers words d j) new

-- nothing is owed before and after
pub next_none : (before old new all : ℕ) → before ≤ no_limit → old ≡ no_limit → new ≡ no_limit → before ≡ due_next before old new all
next_none before old new all fits none still =
    rw (none, still)
    (split (leb no_limit before) (λ b. before ≡ cond b no_limit (cond (ltb before no_limit) before all))
    (λ e. omega (arith, leb-true no_limit before e)) (λ e. rw (lt-ltb before no_limit (leb-false no_limit before e)) refl))
