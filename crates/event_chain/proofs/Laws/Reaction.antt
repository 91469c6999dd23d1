-- A Reaction is exact, colour by colour: a colour that waits has a time left, and a response at its last moment ends its waiting.
use Rattle.event_chain.proofs.Laws.ByPairs.{ByPairs, NearerPair, exact_by_pairs, maximum_small, minimum_first, steady_pair}
use Rattle.event_chain.proofs.Laws.Colour.{LiveColour, answered, answers, colour_kept, colour_late, colour_unkept, quiet, response_does}
use Rattle.event_chain.proofs.Laws.Colour.{stimulus_does, waits}
use Rattle.event_chain.specs.FirstOwed.{first_owed_reaction}
use Rattle.event_chain.proofs.Laws.Words.{high_of, latest_some, low_of}
use Rattle.event_chain.specs.Reaction.{after_response, after_stimulus, decide_reaction, due_but, latest, machine_reaction, pair_after}
use Rattle.constraint.proofs.Library.{List, ◌%◌, ◌+◌, ◌<◌, ◌≤◌, arith, cond, eqb, ne_eqb, refl, ℕ}
use Rattle.constraint.specs.{Constraint.Reaction, Limits.last_time, Limits.no_limit, Meets.Meets, Meets.MeetsReaction}
use Rattle.constraint.specs.{Waiting.waiting}
use Rattle.row_type.proofs.Exact.{Exact, Sound}
use Rattle.row_type.proofs.FitsRow.{FitsRow, Steady, fits_steady, keeping_last}
use Rattle.row_type.specs.{Parameters.parameters_of, Words.last_saved, declared.Parameters.Parameters, declared.Registers.Registers}

-- the last moment of a colour, by its words
abbrev owed : ℕ → ℕ → ℕ
owed low high = latest high

-- 1 while it waits
abbrev lacks : ℕ → ℕ → ℕ
lacks low high = cond (eqb high 0) 0 1

module _ (minimum maximum : ℕ) (low_first : minimum ≤ maximum) (max_small : maximum ≤ last_time) where
  near : (f : ℕ → List ℕ) (low high now : ℕ) → LiveColour minimum maximum (f 0) (f 1) low high → now ≤ owed low high → owed low high < no_limit
      → NearerPair (LiveColour minimum maximum) owed lacks f low high now
  near f low high now colour in_time soon =
      let p = waits minimum maximum (f 0) (f 1) low high colour soon in
      let is = latest_some high (λ e. omega (arith, p.room)) in
      record {
        kind = 1;
        of_row = omega arith;
        moment = latest high;
        begun = in_time;
        soon = omega arith;
        rises = λ i h. absurd (omega (arith, p.no_response));
        new_low = latest high + 1;
        new_high = 0;
        keeps = answered (answers minimum maximum (f 0) (f 1) low high (latest high) p (omega (arith, is, p.room)) (omega (arith, is, p.room)));
        in_time = omega (arith, soon);
        fewer = rw (ne_eqb high 0 (λ e. omega (arith, p.room))) (omega arith);
      }

  by_reaction : ByPairs (MeetsReaction minimum maximum) owed (after_stimulus minimum maximum) after_response
  by_reaction =
      record {
        Colour = LiveColour minimum maximum;
        lacks = lacks;
        start = quiet (record { no_stimulus = refl; no_response = refl; low_is = refl; high_is = refl });
        start_due = refl;
        stimulus_does = λ stimuli responses t past past_responses small.
            stimulus_does minimum maximum stimuli responses t past past_responses small low_first max_small;
        response_does = λ stimuli responses t past rises small. response_does minimum maximum stimuli responses t small;
        late = λ stimuli responses low high t colour passed small.
            let p = waits minimum maximum stimuli responses low high colour (omega arith) in
            colour_late minimum maximum stimuli responses low high t p (omega (arith, latest_some high (λ e. omega (arith, p.room))));
        says = colour_kept minimum maximum;
        unsaid = λ stimuli responses low high colour soon.
            colour_unkept minimum maximum stimuli responses low high (waits minimum maximum stimuli responses low high colour soon);
        nearer = near;
      }

-- §5.9
pub exact_reaction : (stimulus response minimum maximum : ℕ) → Sound (Reaction stimulus response minimum maximum)
    → Exact (Reaction stimulus response minimum maximum) (decide_reaction (parameters_of (Reaction stimulus response minimum maximum)))
unfolding Meets waiting decide_reaction
exact_reaction stimulus response minimum maximum sound =
    let c = Reaction stimulus response minimum maximum in
    exact_by_pairs c sound stimulus response minimum maximum refl (MeetsReaction minimum maximum) owed (λ d low high words. due_but 8 d high words)
    (after_stimulus minimum maximum) after_response
    (by_reaction minimum maximum (minimum_first c sound stimulus response minimum maximum refl)
    (maximum_small c sound stimulus response minimum maximum refl))
    first_owed_reaction refl refl refl (λ steps. refl) (λ steps. (λ m. m, λ m. m))

-- ---- In a row

steady_reaction : (parameters : Parameters) (m : Registers) (words : List ℕ) (s t : ℕ)
    → Steady last_saved m words (decide_reaction parameters m words s t)
unfolding decide_reaction
steady_reaction parameters m words s t =
    steady_pair owed (λ d low high words. due_but 8 d high words) m words (s % 8)
    (pair_after parameters s (low_of words (s % 8)) (high_of words (s % 8)) t)

pub fits_reaction : FitsRow machine_reaction
fits_reaction = fits_steady keeping_last steady_reaction
