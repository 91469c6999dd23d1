-- Row after row, the lowest first: what the event makes of the rows that are left, after those before, is what it makes of all; the soonest time is
-- kept beside, and stored at the end.
use Rattle.in_place.proofs.Names.{List, Words, [], ◌-◌, ◌<◌, ◌∙◌, ◌≡◌, ap, ap₂, arith, dispatched, dispatched_to}
use Rattle.in_place.proofs.Names.{event_at, get_or, kept_at, min, number_words, refl, rest_zero_event, rest_zero_keeps, row_at}
use Rattle.in_place.proofs.Names.{rows_in, row_as_words, set, sym, with_row, with_soonest, words_of_lent, ℕ}
use Rattle.in_place.proofs.Parts.{number_at, shaped_full, shaped_row, shaped_soonest, soonest_written}
use Rattle.in_place.proofs.{Blocks.row_lies, Blocks.row_stored, RowSets.Lowest, RowSets.lowest, RowSets.no_rows, RowSets.rows_first}
use Rattle.row.specs.Stored as Stored
use lib.Bits.{and_le_r}
use lib.Count.{count_trailing_zeros}
use Rattle.in_place.proofs.rows.dispatch_rows.Goals as goal

pub loop-left-init : goal.loop-left-init
loop-left-init c = (
  omega arith,
  λ h e s. record {
    lent = h;
    shaped = s;
    words_are = e;
    soonest_is = number_at h s _ e 4;
    same = refl;
  },
)

-- the lowest row that is left
low : (left : ℕ) → 0 < left → left < 4294967296 → Lowest 32 left (count_trailing_zeros 32 left)
low left some few = lowest 32 left some few

pub loop-left-preserved : goal.loop-left-preserved
unfolding Stored.words_of_row row_as_words number_words
loop-left-preserved c =
    let a = c.args in let left = c.loop-left.left in let i = count_trailing_zeros 32 left in
    let o = event_at a.stream a.t in
    let there : i < 32 = (low c.loop-left.left c.loop-left-test.true c.loop-left.invariant.0).below in (
      omega (arith, c.loop-left.invariant.0, and_le_r left (left - 1)),
      λ h e s.
          let mid = c.loop-left.invariant.1 h e s in
          let x = mid.lent in
          let x₀ = with_soonest x h.soonest in
          let wide = shaped_soonest x h.soonest mid.shaped in
          let r = row_at x.monitor i in
          let b = kept_at x.monitor i in
          let row' = Stored.event_row o a.number r in
          let kept' = Stored.event_saves o a.number r b in
          let zero_there = wide.rest_zero i there in
          let zero_then = rest_zero_event r b o a.number zero_there in
          let taken = c.event.ensures r b (row_lies x₀ wide _ mid.words_are i there)
          ∙ ap (Stored.words_of_row row') (rest_zero_keeps r b o a.number zero_there) in
          let stored = row_stored x₀ wide _ mid.words_are i there c.event.new.row row' kept' taken in
          let y = with_row x₀ i row' kept' in
          let wide' = shaped_row x₀ i row' kept' (λ _. zero_then) wide in
          let due = ap (λ (w : List (List ℕ)). get_or (get_or w 1 []) 17 0) (row_lies y wide' _ stored i there) in
          record {
            lent = dispatched_to x i o a.number;
            shaped = shaped_full _ _ (shaped_soonest _ _ (shaped_row x i row' kept' (λ _. zero_then) mid.shaped));
            words_are = c.mark_full.ensures y stored wide';
            soonest_is = c.min-soonest.ensures ∙ ap₂ min mid.soonest_is due;
            same = mid.same ∙ ap (λ (rows : List ℕ). dispatched x rows o a.number)
                (rows_first left c.loop-left-test.true c.loop-left.invariant.0);
          },
    )

pub returns : goal.returns
returns c h e s =
    let l = c.loop-left in let a = c.args in
    let o = event_at a.stream a.t in
    let none : l.left ≡ 0 = omega (arith, c.loop-left-test.false) in
    let mid = l.invariant.1 h e s in
    let x = mid.lent in
    ap₂ (λ (m : Words) (t : ℕ). set m 32 (set (get_or m 32 []) 0 (set (get_or (get_or m 32 []) 0 []) 4 t))) mid.words_are mid.soonest_is
    ∙ soonest_written (with_soonest x h.soonest) (shaped_soonest x h.soonest mid.shaped) x.soonest
    ∙ ap words_of_lent (sym (mid.same ∙ ap (λ (k : ℕ). dispatched x (rows_in k) o a.number) none
    ∙ ap (λ (rows : List ℕ). dispatched x rows o a.number) no_rows))

pub bounds-m-i : goal.bounds-m-i
bounds-m-i c = omega (arith, (low c.loop-left.left c.loop-left-test.true c.loop-left.invariant.0).below)

pub loop-left-smaller : goal.loop-left-smaller
loop-left-smaller c = let left = c.loop-left.left in omega (arith, and_le_r left (left - 1))
