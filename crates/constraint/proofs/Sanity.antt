-- What a reader would check first: a list of requests has one list of answers and leaves one list of steps, and what the mark for no limit says it
-- says only where it stands. That each definition can be met and can be missed is shown in the type's file of Types.
use Rattle.constraint.proofs.Names.{Answer, Apart, AtLeastApart, Between, Burst, Call, Constraint, HiddenPoints, Judged, Left, List, Meets}
use Rattle.constraint.proofs.Names.{MeetsBurst, MeetsDelay, MeetsRepeat, MeetsSporadic, Question, Refused, Request, Run, SpansApart, Step}
use Rattle.constraint.proofs.Names.{Taken, [], ◌&&◌, ◌+◌, ◌<◌, ◌||◌, ◌↔◌, ◌∷◌, ◌≡◌, answered, ap₂, arith, at, closed, done, false, inl, inr}
use Rattle.constraint.proofs.Names.{last_count, leb, left_by, length, ne_eqb, no_limit, questions, refl, request, request_questions, subst, sym}
use Rattle.constraint.proofs.Names.{times, ℕ, ⊎_elim}
use Rattle.constraint.proofs.Judged.{judged_no, judged_once, judged_yes}

-- ---- lists of requests

-- §3.3, §3.13: a list of requests has at most one list of answers, and leaves one list of steps
pub run_once : (rows : List Constraint) {left end end' : Left} {requests : List Request} {xs ys : List Answer}
    → Run rows left requests xs end → Run rows left requests ys end' → (xs ≡ ys) × (end ≡ end')
run_once rows done done = (refl, refl)
run_once rows (request {left = left} {end = e} {requests = requests} {answers = xs} r a j rest) (request {end = f} {answers = ys} _ b k other) =
    let same : a ≡ b = judged_once (request_questions rows left r) a b j k in
    let later : (xs ≡ ys) × (e ≡ f) = run_once rows rest (subst (λ x. Run rows (left_by left r x) requests ys f) (sym same) other) in
    (ap₂ (λ (x : Answer) (l : List Answer). x ∷ l) same later.0, later.1)

-- questions cannot fail to have an answer
judged_some : (qs : List Question) → ¬ ¬ ((a : Answer) × Judged qs a)
unfolding Judged
judged_some [] denied = denied (Taken, refl)
judged_some (q ∷ later) denied =
    let answered_no : ¬ ¬ q.1 = λ shut. denied (Refused q.0, inr (shut, refl)) in
    answered_no (λ asked. judged_some later (λ found. denied (found.0, inl (asked, found.1))))

-- §8.24: at the last count every call is answered 24, whatever it gives, until the recording is closed
pub full_refused : (rows : List Constraint) (steps : List Step) → closed steps ≡ false → length steps ≡ last_count → (s : Call)
    → Judged (questions rows steps s) (Refused 24)
unfolding questions
full_refused rows steps open_still full (Call.Event k t) = judged_yes 8 _ _ _ open_still (judged_no 24 _ _ (λ h. omega (arith, full)))
full_refused rows steps open_still full (Call.ColouredEvent k c t) = judged_yes 8 _ _ _ open_still (judged_no 24 _ _ (λ h. omega (arith, full)))
full_refused rows steps open_still full (Call.Tick t) = judged_yes 8 _ _ _ open_still (judged_no 24 _ _ (λ h. omega (arith, full)))
full_refused rows steps open_still full Call.Close = judged_yes 8 _ _ _ open_still (judged_no 24 _ _ (λ h. omega (arith, full)))

-- §3.3: a list of requests cannot fail to have answers
pub run_some : (rows : List Constraint) (requests : List Request) (left : Left)
    → ¬ ¬ ((answers : List Answer) × (end : Left) × Run rows left requests answers end)
run_some rows [] left denied = denied ([], left, done)
run_some rows (r ∷ requests) left denied =
    judged_some (request_questions rows left r) (λ found. run_some rows requests (left_by left r found.0)
    (λ rest. denied (found.0 ∷ rest.0, rest.1, request r found.0 found.1 rest.2)))

-- ---- a Delay with a limit

-- lower to upper apart is just between them, where there is a limit
apart_between : (lower upper x y : ℕ) → ¬ (upper ≡ no_limit) → Apart lower upper x y → Between lower upper x y
apart_between lower upper x y limit b = (b.0, ⊎_elim (λ e. absurd (limit e)) (λ h. h) b.1)

-- §5.1: it asks for a target between the two, and nothing else: the mark says something only where it stands
pub delay_as_before : (lower upper : ℕ) (sources targets : List ℕ) → ¬ (upper ≡ no_limit)
    → MeetsDelay lower upper sources targets
    ↔ ((i : ℕ) → i < length sources → (j : ℕ) × (j < length targets) × Between lower upper (at sources i) (at targets j))
unfolding MeetsDelay
delay_as_before lower upper sources targets limit = (
  λ m i h. let a = m i h in (a.0, a.1, apart_between lower upper (at sources i) (at targets a.0) limit a.2),
  λ m i h. let a = m i h in (a.0, a.1, (a.2.0, inr a.2.1)),
)

-- §5.1: and a source waits while no target is between them
pub answered_as_before : (lower upper s t : ℕ) (targets : List ℕ) → ¬ (upper ≡ no_limit)
    → answered lower upper s (t ∷ targets) ≡ ((leb (s + lower) t && leb t (s + upper)) || answered lower upper s targets)
unfolding answered
answered_as_before lower upper s t targets limit = rw (ne_eqb upper no_limit limit)

-- ---- rows that silence does not break

-- §5.3: without an upper limit a Repeat and a Sporadic ask of the events alone, at every clock
pub unlimited_repeat_as_before : (span lower : ℕ) (events : List ℕ) (now : ℕ)
    → MeetsRepeat span lower no_limit events now ↔ SpansApart span lower no_limit events
unfolding MeetsRepeat
unlimited_repeat_as_before span lower events now = (λ m. m.0, λ m. (m, λ i h end. inl refl))

-- §5.4
pub unlimited_sporadic_as_before : (lower jitter minimum : ℕ) (events : List ℕ) (now : ℕ)
    → MeetsSporadic lower no_limit jitter minimum events now
    ↔ (((points : List ℕ) × HiddenPoints 1 lower no_limit jitter events points) × AtLeastApart minimum events)
unfolding MeetsSporadic
unlimited_sporadic_as_before lower jitter minimum events now = (
  λ m. ((m.0.0, m.0.1), m.1),
  λ m. ((m.0.0, m.0.1, λ i e. inl refl), m.1),
)

-- §5.5: and so does a Burst
pub burst_as_before : (kind maximum len minimum : ℕ) (a b : List Step) → times kind a ≡ times kind b
    → Meets (Burst kind maximum len minimum) a → Meets (Burst kind maximum len minimum) b
unfolding Meets
burst_as_before kind maximum len minimum a b same m = subst (MeetsBurst maximum len minimum) same m
