-- What each type shows of its definition: it looks only at the row's own events and the clock, and what is met at a clock is met at every earlier
-- one; and what its examples show: it can be met, and can be missed.
use Rattle.constraint.proofs.Names.{Constraint, Field, List, Meets, NotLater, Step, [], ◌++◌, ◌<◌, ◌∙◌, ◌∷◌, ◌≡◌, ◌≤◌, among, ap, arith, at}
use Rattle.constraint.proofs.Names.{clock, close}
use Rattle.constraint.proofs.Names.{coloured, cond, kind, kind_fields, length, plain, suc, time, tolerance, zero}
use Rattle.constraint.proofs.Names.{eqb, event, inl, inr, last_colour, ne_eqb, own, refl, stream, subst, sym, tick, times, true, waiting, ℕ}
use Rattle.constraint.proofs.{Lists.Each, Lists.both, Lists.each_cons, Lists.each_left, Lists.each_right, Lists.each_tail, Lists.split}
use Rattle.constraint.proofs.{Streams.among_at}
use Rattle.constraint.proofs.Streams.{colour_at, colours, streams, streams_in}

-- ---- a row looks only at its own events and the clock

-- the times of one kind among some events
unfoldable pub times_in : ℕ → List (ℕ × ℕ) → List ℕ
times_in k [] = []
times_in k (e ∷ es) = cond (eqb e.0 k) (e.1 ∷ times_in k es) (times_in k es)

pub own_times : (ks : List ℕ) (k : ℕ) → among k ks ≡ true → (steps : List Step) → times k steps ≡ times_in k (own ks steps)
unfolding times own times_in
own_times ks k is [] = refl
own_times ks k is (event j t ∷ steps) =
    split (among j ks) (λ x. among j ks ≡ x → cond (eqb j k) (t ∷ times k steps) (times k steps)
    ≡ times_in k (cond x ((j, t) ∷ own ks steps) (own ks steps)))
    (λ e f. ap (λ (l : List ℕ). cond (eqb j k) (t ∷ l) l) (own_times ks k is steps))
    (λ e f. rw (ne_eqb j k (λ same. both (sym is ∙ ap (λ (i : ℕ). among i ks) (sym same) ∙ f))) (own_times ks k is steps)) refl
own_times ks k is (tick t ∷ steps) = own_times ks k is steps
own_times ks k is (close ∷ steps) = own_times ks k is steps

-- two lists of steps have the same times of each of these kinds
abbrev pub SameTimes : List ℕ → List Step → List Step → Type 0
SameTimes ks a b = Each (λ k. times k a ≡ times k b) ks

-- they do if they have the same events of these kinds
pub same_times : (ks : List ℕ) (a b : List Step) → own ks a ≡ own ks b → SameTimes ks a b
same_times ks a b same i h =
    own_times ks (at ks i) (among_at ks i h) a ∙ ap (times_in (at ks i)) same ∙ sym (own_times ks (at ks i) (among_at ks i h) b)

-- the same times of each colour of a kind
pub of_colour : (k : ℕ) (a b : List Step) → SameTimes (colours k) a b → (colour : ℕ) → colour ≤ last_colour → times (stream k colour) a
    ≡ times (stream k colour) b
of_colour k a b same colour few = subst (λ (s : ℕ). times s a ≡ times s b) (colour_at k colour few) (same colour (omega arith))

-- the same times of the kinds of a list, before a tolerance
pub listed_same : (ks : List ℕ) (x : ℕ) (a b : List Step) → SameTimes (streams_in (kind_fields kind ks ++ (time (plain tolerance) x ∷ []))) a b
    → SameTimes ks a b
listed_same [] x a b same = same
listed_same (k ∷ ks) x a b same =
    let Alike : ℕ → Type 0 = λ k. times k a ≡ times k b in
    each_cons Alike k ks (same 0 (omega arith))
    (listed_same ks x a b (each_tail Alike k (streams_in (kind_fields kind ks ++ (time (plain tolerance) x ∷ []))) same))

-- the same times of each colour of the kinds of a list, before other fields
pub coloured_same : (ks : List ℕ) (later : List Field) (a b : List Step) → SameTimes (streams_in (kind_fields coloured ks ++ later)) a b
    → (j : ℕ) → j < length ks → SameTimes (colours (at ks j)) a b
coloured_same [] later a b same j h = absurd (omega arith)
coloured_same (k ∷ ks) later a b same zero h =
    each_left (λ s. times s a ≡ times s b) (colours k) (streams_in (kind_fields coloured ks ++ later)) same
coloured_same (k ∷ ks) later a b same (suc j) h =
    let others = streams_in (kind_fields coloured ks ++ later) in
    coloured_same ks later a b (each_right (λ s. times s a ≡ times s b) (colours k) others same) j (omega arith)

-- and the fields after them
pub after_coloured : (ks : List ℕ) (later : List Field) (a b : List Step) → SameTimes (streams_in (kind_fields coloured ks ++ later)) a b
    → SameTimes (streams_in later) a b
after_coloured [] later a b same = same
after_coloured (k ∷ ks) later a b same =
    after_coloured ks later a b (each_right (λ s. times s a ≡ times s b) (colours k) (streams_in (kind_fields coloured ks ++ later)) same)

-- what is met at a clock is met at every earlier one
pub not_later_earlier : {upper : ℕ} (x now later : ℕ) → now ≤ later → NotLater upper x later → NotLater upper x now
not_later_earlier x now later h (inl e) = inl e
not_later_earlier x now later h (inr soon) = inr (omega arith)

-- ---- what is shown of each type

pub record Lawful (c : Constraint) : Type 0 where
  -- what the row says of some events and a clock it says of the same events and every earlier clock
  pub same : (a b : List Step) → own (streams c) a ≡ own (streams c) b → SameTimes (streams c) a b → clock b ≤ clock a → Meets c a → Meets c b
  -- how many wait depends only on the row's own events
  pub waits_same : (a b : List Step) → SameTimes (streams c) a b → waiting c a ≡ waiting c b

-- the definition can be met, by events of its kinds, and can be missed
pub record Contingent (c : Constraint) (met missed : List Step) : Type 0 where
  pub can_be_met : Meets c met
  pub can_be_missed : ¬ Meets c missed
