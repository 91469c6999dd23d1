-- What is true of every list of accepted steps: the times of a stream rise strictly and none is after the clock, since each step was accepted in
-- order.
use Rattle.constraint.proofs.Names.{EventInOrder, List, Step, [], ◌++◌, ◌<◌, ◌∙◌, ◌∷◌, ◌≡◌, ◌≤◌, among, ap, append-nil, arith, clock}
use Rattle.constraint.proofs.Names.{clock_from, close, closed, cond, eq-eqb, eqb, eqb-true, event, false, last_count, last_time, length}
use Rattle.constraint.proofs.Names.{length-append, ne_eqb, own, refl, stream_count, subst, sym, tick, times, true, ℕ}
use Rattle.constraint.proofs.Lists.{Each, Rising, each_append, each_cons, each_none, rising_snoc, split}

-- ---- what joined steps have recorded

pub times_append : (k : ℕ) (a b : List Step) → times k (a ++ b) ≡ times k a ++ times k b
unfolding times
times_append k [] b = refl
times_append k (event j t ∷ a) b =
    split (eqb j k) (λ x. cond x (t ∷ times k (a ++ b)) (times k (a ++ b)) ≡ cond x (t ∷ times k a) (times k a) ++ times k b)
    (λ e. ap (λ (l : List ℕ). t ∷ l) (times_append k a b)) (λ e. times_append k a b)
times_append k (tick t ∷ a) b = times_append k a b
times_append k (close ∷ a) b = times_append k a b

-- an event is the last of its kind, and of no other kind
pub times_own : (k t : ℕ) (steps : List Step) → times k (steps ++ (event k t ∷ [])) ≡ times k steps ++ (t ∷ [])
unfolding times
times_own k t steps = times_append k steps (event k t ∷ []) ∙ rw (eq-eqb k k refl)

pub times_other : (k j t : ℕ) (steps : List Step) → ¬ (j ≡ k) → times k (steps ++ (event j t ∷ [])) ≡ times k steps
unfolding times
times_other k j t steps h = times_append k steps (event j t ∷ []) ∙ rw (ne_eqb j k h) (append-nil (times k steps))

pub times_tick : (k t : ℕ) (steps : List Step) → times k (steps ++ (tick t ∷ [])) ≡ times k steps
unfolding times
times_tick k t steps = times_append k steps (tick t ∷ []) ∙ append-nil (times k steps)

pub times_close : (k : ℕ) (steps : List Step) → times k (steps ++ (close ∷ [])) ≡ times k steps
unfolding times
times_close k steps = times_append k steps (close ∷ []) ∙ append-nil (times k steps)

-- the events of some kinds
pub own_append : (ks : List ℕ) (a b : List Step) → own ks (a ++ b) ≡ own ks a ++ own ks b
unfolding own
own_append ks [] b = refl
own_append ks (event k t ∷ a) b =
    split (among k ks) (λ x. cond x ((k, t) ∷ own ks (a ++ b)) (own ks (a ++ b)) ≡ cond x ((k, t) ∷ own ks a) (own ks a) ++ own ks b)
    (λ e. ap (λ (l : List (ℕ × ℕ)). (k, t) ∷ l) (own_append ks a b)) (λ e. own_append ks a b)
own_append ks (tick t ∷ a) b = own_append ks a b
own_append ks (close ∷ a) b = own_append ks a b

pub own_other : (ks : List ℕ) (k t : ℕ) (steps : List Step) → among k ks ≡ false → own ks (steps ++ (event k t ∷ [])) ≡ own ks steps
unfolding own
own_other ks k t steps h = own_append ks steps (event k t ∷ []) ∙ rw h (append-nil (own ks steps))

pub own_tick : (ks : List ℕ) (t : ℕ) (steps : List Step) → own ks (steps ++ (tick t ∷ [])) ≡ own ks steps
unfolding own
own_tick ks t steps = own_append ks steps (tick t ∷ []) ∙ append-nil (own ks steps)

pub own_close : (ks : List ℕ) (steps : List Step) → own ks (steps ++ (close ∷ [])) ≡ own ks steps
unfolding own
own_close ks steps = own_append ks steps (close ∷ []) ∙ append-nil (own ks steps)

pub clock_append : (now : ℕ) (a b : List Step) → clock_from now (a ++ b) ≡ clock_from (clock_from now a) b
unfolding clock_from
clock_append now [] b = refl
clock_append now (event k t ∷ a) b = clock_append t a b
clock_append now (tick t ∷ a) b = clock_append t a b
clock_append now (close ∷ a) b = clock_append now a b

-- a later clock before some steps is no earlier one after them
pub clock_later : (now later : ℕ) (steps : List Step) → now ≤ later → clock_from now steps ≤ clock_from later steps
unfolding clock_from
clock_later now later [] h = h
clock_later now later (event k t ∷ steps) h = clock_later t t steps (omega arith)
clock_later now later (tick t ∷ steps) h = clock_later t t steps (omega arith)
clock_later now later (close ∷ steps) h = clock_later now later steps h

pub clock_event : (k t : ℕ) (steps : List Step) → clock (steps ++ (event k t ∷ [])) ≡ t
unfolding clock_from
clock_event k t steps = clock_append 0 steps (event k t ∷ [])

pub clock_tick : (t : ℕ) (steps : List Step) → clock (steps ++ (tick t ∷ [])) ≡ t
unfolding clock_from
clock_tick t steps = clock_append 0 steps (tick t ∷ [])

pub clock_close : (steps : List Step) → clock (steps ++ (close ∷ [])) ≡ clock steps
unfolding clock_from
clock_close steps = clock_append 0 steps (close ∷ [])

pub closed_event : (k t : ℕ) (steps : List Step) → closed (steps ++ (event k t ∷ [])) ≡ closed steps
unfolding closed
closed_event k t [] = refl
closed_event k t (event j s ∷ steps) = closed_event k t steps
closed_event k t (tick s ∷ steps) = closed_event k t steps
closed_event k t (close ∷ steps) = refl

pub closed_tick : (t : ℕ) (steps : List Step) → closed (steps ++ (tick t ∷ [])) ≡ closed steps
unfolding closed
closed_tick t [] = refl
closed_tick t (event j s ∷ steps) = closed_tick t steps
closed_tick t (tick s ∷ steps) = closed_tick t steps
closed_tick t (close ∷ steps) = refl

pub closed_close : (steps : List Step) → closed (steps ++ (close ∷ [])) ≡ true
unfolding closed
closed_close [] = refl
closed_close (event j s ∷ steps) = closed_close steps
closed_close (tick s ∷ steps) = closed_close steps
closed_close (close ∷ steps) = refl

-- ---- accepted steps

-- an event that is accepted after the steps, question 12 aside
pub record AcceptsEvent (steps : List Step) (k t : ℕ) : Type 0 where
  pub not_closed : closed steps ≡ false
  pub counted : length steps < last_count
  pub stream_small : k < stream_count
  pub time_small : t ≤ last_time
  pub in_order : EventInOrder steps k t

-- a tick that is
pub record AcceptsTick (steps : List Step) (t : ℕ) : Type 0 where
  pub not_closed : closed steps ≡ false
  pub counted : length steps < last_count
  pub time_small : t ≤ last_time
  pub later : clock steps < t

-- a close that is
pub record AcceptsClose (steps : List Step) : Type 0 where
  pub not_closed : closed steps ≡ false
  pub counted : length steps < last_count

-- a step that is
abbrev pub Accepts : List Step → Step → Type 0
Accepts steps (event k t) = AcceptsEvent steps k t
Accepts steps (tick t) = AcceptsTick steps t
Accepts steps close = AcceptsClose steps

-- steps each of which was accepted after those before it
pub data Valid : List Step → Type 0 where
  valid_none : Valid []
  valid_more : {steps : List Step} (s : Step) → Valid steps → Accepts steps s → Valid (steps ++ (s ∷ []))

-- what is needed of such steps
pub record Past (steps : List Step) : Type 0 where
  pub rising : (k : ℕ) → Rising (times k steps)
  pub past : (k : ℕ) → Each (λ t. t ≤ clock steps) (times k steps)
  pub small : clock steps ≤ last_time

-- the times of a kind after an event: with its time if it is of that kind
pub with_time : (k j t : ℕ) (steps : List Step) (P : List ℕ → Type 0) → (j ≡ k → P (times k steps ++ (t ∷ []))) → P (times k steps)
    → P (times k (steps ++ (event j t ∷ [])))
with_time k j t steps P own other =
    split (eqb j k) (λ x. eqb j k ≡ x → P (times k (steps ++ (event j t ∷ []))))
    (λ e f. let same : j ≡ k = eqb-true j k e in
    subst (λ (i : ℕ). P (times k (steps ++ (event i t ∷ [])))) (sym same) (subst P (sym (times_own k t steps)) (own same)))
    (λ e f. subst P (sym (times_other k j t steps (λ same. never (sym (eq-eqb j k same) ∙ e)))) other) refl
  where
    never : true ≡ false → ⊥
    never e = let z : ◌≡◌ {A = ℕ} 0 1 = cc in omega arith

past_event : (j t : ℕ) (steps : List Step) → Past steps → t ≤ last_time → EventInOrder steps j t → Past (steps ++ (event j t ∷ []))
past_event j t steps p small order =
    record {
      rising = λ k. with_time k j t steps Rising (λ e. rising_snoc (times k steps) t (p.rising k)
          (subst (λ (i : ℕ). Each (λ s. s < t) (times i steps)) e order.1)) (p.rising k);
      past = λ k. rw (clock_event j t steps) (with_time k j t steps (Each (λ s. s ≤ t))
          (λ e. each_append (λ s. s ≤ t) (times k steps) (t ∷ []) (before k) (each_cons (λ s. s ≤ t) t [] (omega arith) (each_none (λ s. s ≤ t))))
          (before k));
      small = rw (clock_event j t steps) small;
    }
  where
    before : (k : ℕ) → Each (λ s. s ≤ t) (times k steps)
    before k i h = omega (arith, p.past k i h, order.0)

pub past_tick : (t : ℕ) (steps : List Step) → Past steps → t ≤ last_time → clock steps < t → Past (steps ++ (tick t ∷ []))
past_tick t steps p small later =
    record {
      rising = λ k. rw (times_tick k t steps) (p.rising k);
      past = λ k. rw (clock_tick t steps, times_tick k t steps) (λ i h. omega (arith, p.past k i h));
      small = rw (clock_tick t steps) small;
    }

past_close : (steps : List Step) → Past steps → Past (steps ++ (close ∷ []))
past_close steps p =
    record {
      rising = λ k. rw (times_close k steps) (p.rising k);
      past = λ k. rw (clock_close steps, times_close k steps) (p.past k);
      small = rw (clock_close steps) p.small;
    }

past_more : (s : Step) (steps : List Step) → Past steps → Accepts steps s → Past (steps ++ (s ∷ []))
past_more (event k t) steps p a = past_event k t steps p a.time_small a.in_order
past_more (tick t) steps p a = past_tick t steps p a.time_small a.later
past_more close steps p a = past_close steps p

pub past_of : {steps : List Step} → Valid steps → Past steps
unfolding times clock_from
past_of valid_none = record { rising = λ k. tt; past = λ k. each_none (λ t. t ≤ 0); small = omega arith }
past_of (valid_more {steps = steps} s v a) = past_more s steps (past_of v) a

-- there is room for the count of the step that is accepted, so the count of all of them fits
pub counted_of : (s : Step) (steps : List Step) → Accepts steps s → length steps < last_count
counted_of (event k t) steps a = a.counted
counted_of (tick t) steps a = a.counted
counted_of close steps a = a.counted

-- §1.7, §3.9
pub count_of : {steps : List Step} → Valid steps → length steps ≤ last_count
count_of valid_none = omega arith
count_of (valid_more {steps = steps} s v a) = omega (arith, length-append steps (s ∷ []), counted_of s steps a)
