-- The row is added to the set where it is nearly full, and else the set stays.
use Rattle.in_place.proofs.Names.{List, Words, [], ◌%◌, ◌*◌, ◌^◌, ◌∙◌, ◌≡◌, ap, arith, bit_or, false, get_or, le-ltb, lt-ltb, ltb}
use Rattle.in_place.proofs.Names.{number_words, row_at, row_as_words, set, sym, true, with_full, words_of_lent, ℕ}
use Rattle.in_place.proofs.{Blocks.row_lies, Parts.full_written, Parts.number_at}
use Rattle.row.specs.Stored as Stored
use Rattle.std.proofs.lemmas.Nat.{one_shl}
use Rattle.in_place.proofs.rows.mark_full.Goals as goal

pub returns-then-m-i-gt-NEARLY_FULL : goal.returns-then-m-i-gt-NEARLY_FULL
unfolding Stored.words_of_row row_as_words number_words
returns-then-m-i-gt-NEARLY_FULL c h e s =
    let a = c.args in
    let len = ap (λ (y : List (List ℕ)). get_or (get_or y 1 []) 16 0) (row_lies h s a.m.now e a.i c.requires) in
    let more : ltb 62 (row_at h.monitor a.i).now.len ≡ true = ap (ltb 62) (sym len) ∙ lt-ltb _ _ c.if-m-i-gt-NEARLY_FULL.true in
    let bit : 1 * 2 ^ a.i % 2 ^ 64 ≡ 2 ^ a.i = one_shl a.i 64 (omega (arith, c.requires)) in
    let full = get_or (get_or (get_or a.m.now 32 []) 0 []) 11 0 in
    rw more
    (ap (λ (x : ℕ). set a.m.now 32 (set (get_or a.m.now 32 []) 0 (set (get_or (get_or a.m.now 32 []) 0 []) 11 (bit_or full x)))) bit
    ∙ ap (λ (m : Words). set m 32 (set (get_or m 32 []) 0 (set (get_or (get_or m 32 []) 0 []) 11 (bit_or full (2 ^ a.i))))) e
    ∙ full_written h s (bit_or full (2 ^ a.i))
    ∙ ap (λ (x : ℕ). words_of_lent (with_full h (bit_or x (2 ^ a.i)))) (number_at h s a.m.now e 11))

pub returns-else-m-i-gt-NEARLY_FULL : goal.returns-else-m-i-gt-NEARLY_FULL
unfolding Stored.words_of_row row_as_words number_words
returns-else-m-i-gt-NEARLY_FULL c h e s =
    let a = c.args in
    let len = ap (λ (y : List (List ℕ)). get_or (get_or y 1 []) 16 0) (row_lies h s a.m.now e a.i c.requires) in
    let few : ltb 62 (row_at h.monitor a.i).now.len ≡ false = ap (ltb 62) (sym len) ∙ le-ltb _ _ c.if-m-i-gt-NEARLY_FULL.false in
    rw few e
