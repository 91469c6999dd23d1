-- Comparison: a row of a table is true, or question 7 refuses the table. So it is met whatever the steps: no event is of a stream of the row,
-- nothing is ever due, and the empty continuation meets it.
use Rattle.constraint.proofs.Library.{Bool, List, [], ◌≡◌, append-nil, arith, refl, true, true≢false, ℕ}
use Rattle.constraint.specs.{Accepted.LowerFirst, Constraint.Comparison, Continuation.stop, Limits.no_limit, Meets.Meets, Steps.Step, Waiting.waiting}
use Rattle.row_type.proofs.{Exact.Exact, Exact.OfStream, Exact.Sound, Exact.Starts, FitsRow.FitsRow, FitsRow.fits_none}
use Rattle.row_type.specs.{Parameters.parameters_of, Parameters.start_words, declared.Registers.Registers}
use Rattle.comparison.specs.Comparison.{machine_comparison}

module _ (operator left right : ℕ) (sound : Sound (Comparison operator left right)) where
  -- the row keeps nothing
  abbrev Live : List Step → Registers → List ℕ → Type 0
  Live steps registers times = times ≡ []

  abbrev never : Registers → List ℕ → ℕ
  never registers times = no_limit

  abbrev always : Registers → List ℕ → Bool
  always registers times = true

  -- question 7 asks what the row says
  met : (steps : List Step) → Meets (Comparison operator left right) steps
  unfolding Meets LowerFirst
  met steps = sound.lower_first.1.1.0

  start : Starts (Live []) never always (start_words (Comparison operator left right))
  start = record { live = refl; due_is = refl; kept_is = refl }

  no_stream : (k : ℕ) → ¬ OfStream (Comparison operator left right) k
  no_stream k (i, inside, is) = omega arith

  -- §5.17
  pub exact_comparison : Exact (Comparison operator left right) (machine_comparison.decide (parameters_of (Comparison operator left right)))
  unfolding waiting
  exact_comparison =
      record {
        Live = Live;
        due = never;
        kept = always;
        start = start;
        does = λ {k = k} p live of_stream a soon. absurd (no_stream k of_stream);
        same = λ same live. live;
        late = λ p live passed small o. omega arith;
        is_open = λ {steps} p o live soon. ([], stop, rw (append-nil steps) (met steps));
        waits = λ p live. (refl, rw live (omega arith));
        is_kept = λ {steps} p live soon e. met steps;
        not_kept = λ p live e. absurd (true≢false e);
      }

-- §5.17
pub fits_comparison : FitsRow machine_comparison
fits_comparison = fits_none
