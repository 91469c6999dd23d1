-- Rows of coloured kinds with five words for each colour: one for each of the row's kinds, at the kind's place among them. An event gives the word of
-- its kind a new value, and the due time is the first last moment of the eight colours.
use Rattle.std.specs.Prelude.{ℕ, ◌≡◌, zero, suc, ◌+◌, ◌*◌, ◌%◌, min, max, Bool, cond, ◌||◌, List, [], ◌∷◌, get_or, length, set, eqb, ltb}
use Rattle.constraint.specs.Limits.{no_limit}
use Rattle.constraint.specs.Steps.{at}
use Rattle.ring.specs.declared.Edit.{Edit}
use Rattle.ring.specs.declared.Edit.TheVariants.{Drop, Store}
use Rattle.row_type.specs.Parts.{plus, continues_with, breaking}
use Rattle.row_type.specs.declared.Parameters.{Parameters}
use Rattle.row_type.specs.declared.Registers.{Registers}
use Rattle.row_type.specs.declared.Change.{Change}
use Rattle.event_chain.specs.Marked.{coloured_kind, due_marked, due_next, marking}

-- the least of the first n numbers, and the largest
unfoldable pub least_of : (ℕ → ℕ) → ℕ → ℕ
least_of f zero = no_limit
least_of f (suc n) = min (least_of f n) (f n)

unfoldable pub most_of : (ℕ → ℕ) → ℕ → ℕ
most_of f zero = 0
most_of f (suc n) = max (most_of f n) (f n)

-- the words of a colour
abbrev pub words_at : List ℕ → ℕ → List ℕ
words_at words d =
    get_or words (5 * d + 0) 0 ∷ get_or words (5 * d + 1) 0 ∷ get_or words (5 * d + 2) 0 ∷ get_or words (5 * d + 3) 0 ∷ get_or words
    (5 * d + 4) 0 ∷ []

-- the place of a kind among some
abbrev pub place_in : List ℕ → ℕ → ℕ
place_in [] k = 0
place_in (x ∷ ks) k = cond (eqb x k) 0 (suc (place_in ks k))

-- a kind's word after an event at t, where it is one more than the kind's first event; 0 before any
abbrev pub first_word : ℕ → ℕ → ℕ
first_word x t = cond (eqb x 0) (plus t 1) x

-- one word is new, and the word behind it is what it was
abbrev pub one_new : ℕ → ℕ → List ℕ → Edit
one_new place x words = Store place x (get_or words (place + 1) 0)

-- the words of the colour e, the j-th of the colour d being new
abbrev pub words_but : List ℕ → ℕ → ℕ → ℕ → ℕ → List ℕ
words_but words d j x e = cond (eqb e d) (set (words_at words d) j x) (words_at words e)

-- the due time so far: the first last moment of the first n colours, by what a type owes on a colour's words
unfoldable pub due_words : (List ℕ → ℕ) → List ℕ → ℕ → ℕ → ℕ → ℕ → ℕ
due_words owed words d j x n = least_of (λ e. owed (words_but words d j x e)) n

-- nothing is owed on a colour's words, whatever the j-th becomes
abbrev pub OwesNothing : (List ℕ → ℕ) → List ℕ → ℕ → Type 0
OwesNothing owed w j = (owed w ≡ no_limit) × ((x : ℕ) → owed (set w j x) ≡ no_limit)

-- the change that a new word of the j-th kind and of the colour d makes
abbrev pub noted : (List ℕ → ℕ) → Registers → List ℕ → ℕ → ℕ → ℕ → Change
noted owed registers words d j x =
    marking (one_new (5 * d + j) x words) registers
    (due_next (due_marked registers) (owed (words_at words d)) (owed (set (words_at words d) j x)) (due_words owed words d j x 8))

-- no word changes
abbrev pub unchanged : Registers → Change
unchanged registers = continues_with (Drop 0) registers (due_marked registers) (eqb (due_marked registers) no_limit)

-- a kind's event at t, of the colour d: whether it breaks the row, and the new word, by the colour's words, the kind's place and the time; a row of
-- fewer than 40 words, which none is, breaks
abbrev pub event_words : (List ℕ → ℕ) → (List ℕ → ℕ → ℕ → Bool) → (List ℕ → ℕ → ℕ → ℕ) → Registers → List ℕ → ℕ → ℕ → ℕ → Change
event_words owed breaks word registers words d j t =
    let w = words_at words d in
    cond (ltb (length words) 40 || breaks w j t) breaking
    (cond (eqb (word w j t) (at w j)) (unchanged registers) (noted owed registers words d j (word w j t)))

-- how many kinds there are beside the stimulus or the response, at most four
abbrev pub kind_count : Parameters → ℕ
kind_count parameters = min parameters.span 4

-- the first four kinds of a row
abbrev pub four_kinds : Parameters → List ℕ
four_kinds parameters = parameters.first ∷ parameters.second ∷ parameters.third ∷ parameters.fourth ∷ []

-- the place of a kind among the row's five; one that is none of the first four has the last place
abbrev pub place_among : Parameters → ℕ → ℕ
place_among parameters kind = place_in (four_kinds parameters) kind

-- an event of one of the row's streams, by what the type owes, breaks and notes with that many kinds
unfoldable pub decide_words : (ℕ → ℕ → List ℕ → ℕ) → (ℕ → List ℕ → ℕ → ℕ → Bool) → (ℕ → List ℕ → ℕ → ℕ → ℕ)
    → Parameters → Registers → List ℕ → ℕ → ℕ → Change
decide_words owed breaks word parameters registers words s t =
    event_words (owed (kind_count parameters) parameters.upper) (breaks (kind_count parameters)) (word (kind_count parameters)) registers words
    (s % 8)
    (place_among parameters (coloured_kind s)) t
