-- The first free time of the stream is stored, and then the numbers are counted on.
use Rattle.in_place.proofs.Names.{List, Words, [], ◌∙◌, ◌∷◌, ap, ap₂, recorded_monitor, get_or, number_array, plus, refl, set, sym, take}
use Rattle.in_place.proofs.Names.{with_monitor, with_next, words_of_lent, ℕ}
use Rattle.in_place.proofs.{Parts.block_written, Parts.numbers_read, Parts.shaped_next}
use Rattle.in_place.proofs.numbers.record_event.Goals as goal

pub returns : goal.returns
returns c h e s going =
    let a = c.args in
    let h₁ = with_next h (set h.monitor.next a.stream (plus a.time 1)) in
    let stored = c.put_free.ensures h e s ∙ ap (λ (t : ℕ). words_of_lent (with_next h (set h.monitor.next a.stream t))) c.saturating_add.ensures in
    let wide = shaped_next h a.stream (plus a.time 1) s in
    let block = ap (λ m. get_or m 32 []) stored ∙ numbers_read h₁ wide in
    let counted = c.record_step.ensures h₁.monitor h₁.soonest h₁.full (take 48 h₁.monitor.next) h₁.lists block going in
    let free = c.free_at-free.ensures h e s in
    ap₂ (λ (m : Words) (b : List (List ℕ)). set m 32 b) stored counted
    ∙ ap (λ (k : ℕ). set (words_of_lent h₁) 32 (number_array (recorded_monitor h₁.monitor a.stream k a.time 0) h.soonest h.full
    (take 48 h₁.monitor.next) ∷ h.lists ∷ [])) free
    ∙ block_written h₁ wide (with_monitor h (recorded_monitor h₁.monitor a.stream (get_or h.monitor.next a.stream 0)
    a.time 0)) refl refl
    ∙ ap (λ (k : ℕ). words_of_lent (with_monitor h (recorded_monitor h₁.monitor a.stream (get_or h.monitor.next a.stream 0) a.time k)))
    (sym going)
