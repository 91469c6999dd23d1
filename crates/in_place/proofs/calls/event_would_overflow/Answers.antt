-- A row that is not nearly full is not asked; where none of the others is crowded they lose their mark, and are looked at again after the event.
use Rattle.in_place.proofs.Names.{Lent, List, Shaped, [], ◌-◌, ◌∙◌, ◌≡◌, ap, ap₂, arith, asked_of, bit_and, both, crowded, get_or}
use Rattle.in_place.proofs.Names.{refl, rows_in}
use Rattle.in_place.proofs.Names.{sym, with_full, words_of_lent, ℕ}
use Rattle.in_place.proofs.Parts.{number_at, set_at}
use Rattle.in_place.proofs.{RowSets.no_rows, RowSets.rows_low}
use lib.Bits.{and_le_r}
use Rattle.in_place.proofs.calls.event_would_overflow.Goals as goal

pub returns-then-asked-eq0 : goal.returns-then-asked-eq0
returns-then-asked-eq0 c =
    let a = c.args in
    let none : (h : Lent) → a.m.now ≡ words_of_lent h → Shaped h → asked_of h a.kind ≡ 0 =
    λ h e s. sym (ap₂ bit_and (set_at h s a.m.now e a.kind) (number_at h s a.m.now e 11)) ∙ c.if-asked-eq0.true in
    record {
      untouched = λ _. refl;
      asked = λ h e s. sym (ap (λ (k : ℕ). crowded h (rows_in k) a.stream a.time) (none h e s)
          ∙ ap (λ (rows : List ℕ). crowded h rows a.stream a.time) no_rows);
      marked = λ h e s _.
          let same : h.full ≡ h.full - asked_of h a.kind = omega (arith, none h e s) in
          e ∙ ap (λ (full : ℕ). words_of_lent (with_full h full)) same;
    }

pub returns-then-rows_overflow : goal.returns-then-rows_overflow
returns-then-rows_overflow c =
    let a = c.args in
    record {
      untouched = λ _. refl;
      asked = λ h e s. sym c.if-rows_overflow.true ∙ c.rows_overflow.ensures h e s
          ∙ ap (λ (rows : List ℕ). crowded h rows a.stream a.time) (rows_low _
          ∙ ap rows_in (ap₂ bit_and (set_at h s a.m.now e a.kind) (number_at h s a.m.now e 11)));
      marked = λ h e s calm. both calm;
    }

pub returns : goal.returns
returns c =
    let a = c.args in
    record {
      untouched = λ full. both (sym full);
      asked = λ h e s. sym c.if-rows_overflow.false ∙ c.rows_overflow.ensures h e s
          ∙ ap (λ (rows : List ℕ). crowded h rows a.stream a.time) (rows_low _
          ∙ ap rows_in (ap₂ bit_and (set_at h s a.m.now e a.kind) (number_at h s a.m.now e 11)));
      marked = λ h e s _. c.put_full.ensures h e s
          ∙ ap₂ (λ (set full : ℕ). words_of_lent (with_full h (full - bit_and set full))) (set_at h s a.m.now e a.kind)
          (number_at h s a.m.now e 11);
    }

pub overflow_sub-full : goal.overflow_sub-full
overflow_sub-full c =
    let a = c.args in let b = get_or a.m.now 32 [] in
    omega (arith, and_le_r (get_or (get_or b 1 []) a.kind 0) (get_or (get_or b 0 []) 11 0))
