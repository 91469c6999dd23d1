-- The row's numbers are read off its words, and asked.
use Rattle.fresh.proofs.Names.{RowUndo, Bool, Lent, List, Row, Parameters, Shaped, Words, [], ◌<◌, ◌∙◌, ◌≡◌, ◌≤◌, ap, arith, concerns, cond, false}
use Rattle.fresh.proofs.Names.{get_or, is_of, kept_at}
use Rattle.fresh.proofs.Names.{number_words, parameters_at, refl, row_lies, row_at, row_as_words, true, words_of_lent, ℕ}
use Rattle.std.specs.Int.{from_bool}
use Rattle.row.specs.Stored as Stored
use Rattle.fresh.proofs.digit_of.Goals as goal

parameters_read : (r : Row) (b : RowUndo) → parameters_at (get_or (Stored.words_of_row r b) 1 []) ≡ r.parameters
unfolding Stored.words_of_row row_as_words number_words
parameters_read r b = refl

asked : (h : Lent) → Shaped h → (m : Words) → m ≡ words_of_lent h → (i kind : ℕ) → i < 32 → (parameters : Parameters) (answer : Bool)
    → parameters ≡ parameters_at (get_or (get_or m i []) 1 []) → answer ≡ concerns parameters kind → answer ≡ is_of h.monitor kind i
asked h s m e i kind there parameters answer read is =
    is ∙ ap (λ (r : Parameters). concerns r kind) (read
    ∙ ap (λ (w : List (List ℕ)). parameters_at (get_or w 1 [])) (row_lies h s m e i there)
    ∙ parameters_read (row_at h.monitor i) (kept_at h.monitor i))

digit : (b : Bool) → (from_bool b ≡ cond b 1 0) × (from_bool b ≤ 1)
digit true = (refl, omega arith)
digit false = (refl, omega arith)

pub returns : goal.returns
returns c =
    let is = digit c.concerns.result in (
      omega (arith, c.from.ensures, is.1),
      λ h e s.
          c.from.ensures ∙ is.0
          ∙ ap (λ (b : Bool). cond b 1 0) (asked h s c.args.m.now e c.args.i c.args.kind c.requires _ _ c.parameters_at.ensures c.concerns.ensures),
    )
