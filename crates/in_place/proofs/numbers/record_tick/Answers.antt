-- The numbers are counted on, with the first free time of stream 0 as it is.
use Rattle.in_place.proofs.Names.{List, Words, [], ◌∙◌, ◌∷◌, ap, ap₂, recorded_monitor, recorded_to, get_or, number_array, refl, set, take}
use Rattle.in_place.proofs.Names.{words_of_lent, ℕ}
use Rattle.in_place.proofs.{Parts.block_written, Parts.numbers_read}
use Rattle.in_place.proofs.numbers.record_tick.Goals as goal

pub returns : goal.returns
returns c h e s going =
    let a = c.args in
    let block = ap (λ m. get_or m 32 []) e ∙ numbers_read h s in
    let counted = c.record_step.ensures h.monitor h.soonest h.full (take 48 h.monitor.next) h.lists block going in
    let free = c.free_at-free.ensures h e s in
    ap₂ (λ (m : Words) (b : List (List ℕ)). set m 32 b) e counted
    ∙ ap (λ (k : ℕ). set (words_of_lent h) 32 (number_array (recorded_monitor h.monitor 0 k a.time 0) h.soonest h.full
    (take 48 h.monitor.next) ∷ h.lists ∷ [])) free
    ∙ block_written h s (recorded_to h a.time 0) refl refl
