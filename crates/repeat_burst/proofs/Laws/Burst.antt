-- Burst: the machine is that of a Repeat with no upper, and so are the laws; without an upper no clock is past its due time.
use Rattle.constraint.proofs.Library.{List, [], ◌↔◌, ◌≡◌, ◌≤◌, arith, refl, ℕ}
use Rattle.constraint.specs.{Accepted.InRange, Constraint.Burst, Limits.last_time, Limits.no_limit, Meets.Meets, Meets.MeetsBurst, Waiting.waiting}
use Rattle.row_type.proofs.{Exact.Exact, Exact.Sound, Oldest.due_reached, OneKind.exact_one_kind, Spans.apart_first}
use Rattle.row_type.specs.{Parameters.parameters_of, declared.Parameters.Parameters, declared.Registers.Registers}
use Rattle.repeat_burst.proofs.Laws.Repeat.{KeepsRepeat, due_repeat, repeat_event, repeat_few, repeat_none}
use Rattle.repeat_burst.specs.Repeat.{decide_repeat}

-- ---- Open

burst_says : (parameters : Parameters) → parameters.upper ≡ no_limit
    → (events : List ℕ) (registers : Registers) (kept : List ℕ) (now : ℕ) → now ≤ last_time
    → KeepsRepeat parameters events registers kept
    → MeetsBurst parameters.span parameters.lower parameters.minimum events ↔ (now ≤ due_repeat parameters registers kept)
unfolding MeetsBurst
burst_says parameters none events registers kept now small keeps = (
  λ m. due_reached parameters.upper now kept small (λ some. omega arith),
  λ soon. (rw none at keeps.spans, keeps.apart),
)

-- ---- Exact

-- §5.5
pub exact_burst : (kind maximum len minimum : ℕ) → Sound (Burst kind maximum len minimum)
    → Exact (Burst kind maximum len minimum) (decide_repeat (parameters_of (Burst kind maximum len minimum)))
unfolding Meets MeetsBurst waiting InRange
exact_burst kind maximum len minimum sound =
    exact_one_kind (Burst kind maximum len minimum) (decide_repeat parameters)
    (record {
      kind = kind;
      Says = λ events now. MeetsBurst maximum len minimum events;
      words = [];
      one_kind = refl;
      start_words_lem = refl;
      meets = λ steps. (λ m. m, λ m. m);
      none_waits = refl;
      waits_none = λ steps. refl;
      follows = record {
        Keeps = KeepsRepeat parameters;
        due = due_repeat parameters;
        says_first = λ xs ys now later h after m. (apart_first maximum len no_limit xs ys m.0, apart_first 1 minimum no_limit xs ys m.1);
        keeps_none = repeat_none parameters;
        due_none = refl;
        keeps_says = λ now rises small keeps. burst_says parameters refl _ _ _ now small keeps;
        keeps_few = repeat_few parameters sound.in_range.1.0.1;
        keeps_event = λ t rises small keeps soon.
            repeat_event parameters _ _ _ keeps t sound.in_range.1.0.0 small rises soon kind
            (λ events now. MeetsBurst maximum len minimum events)
            (λ m. m);
      };
    })
  where
    parameters : Parameters
    parameters = parameters_of (Burst kind maximum len minimum)
