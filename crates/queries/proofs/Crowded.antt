-- The first row that the machine finds crowded is the first that the call would leave open with more than 64 waiting: so it is row by row.
use Rattle.queries.proofs.Names.{Accepts, After, Answer, Bool, Call, Constraint, CrowdedRow, Crowds, Exact, FitRows, Follows, Judged, List}
use Rattle.queries.proofs.Names.{Monitor, Question, Refused, Row, Sound, Step, Taken, Valid, [], ◌++◌, ◌+◌, ◌<◌, ◌||◌, ◌∙◌, ◌∷◌, ◌≡◌, any_first}
use Rattle.queries.proofs.Names.{arith, both, cond, counted_of, crowded, crowded_first, crowded_row_of, crowds, eq-eqb, eqb, false, first_coloured}
use Rattle.queries.proofs.Names.{first_marked, fits_room, fits_step, get_elem?, inl, inr, judged_once, last_colour, last_count, last_kind, last_time}
use Rattle.queries.proofs.Names.{leb, length, ltb, never, next_for, next_step, none_crowded, step_input_of, or_false, own_refusal, questions, refl}
use Rattle.queries.proofs.Names.{refusal_for, refuses, row_limit, row_step, seen, seen_is, some, split, step_answered, step_is, step_for, step_of}
use Rattle.queries.proofs.Names.{stream_below, subst, suc, sym, taken_call, takes, time_refusal, true, valid_more, zero, ℕ}

-- the first row that has a mark, as a statement: row i + k, or none of them
module _ (f : Row → Bool) where
  none_marked : (n : ℕ) (i : ℕ) (rows : List Row) → any_first n f rows ≡ false → first_marked n f i rows ≡ row_limit
  unfolding any_first first_marked
  none_marked zero i rows e = refl
  none_marked (suc n) i [] e = refl
  none_marked (suc n) i (r ∷ rows) e =
      let parts = or_false (f r) (any_first n f rows) e in
      rw parts.0 (none_marked n (i + 1) rows parts.1)

module _ (every_type_exact : (c : Constraint) → Sound c → Exact c) (steps : List Step) (valid : Valid steps) (call : Call) (number : ℕ)
    (counted : number ≡ length steps + 1) (accepts : Accepts steps (step_for call)) where
  abbrev full : Row → Bool
  full r = (row_step r (seen steps (step_for call)) number).crowded

  abbrev moved : Row → Row
  moved r = (row_step r (seen steps (step_for call)) number).row

  -- what a row's test says
  row_full : (c : Constraint) (sound : Sound c) (r : Row) → Rattle.row.proofs.Steps.Fits c (every_type_exact c sound) steps r
      → (b : Bool) → full r ≡ b
      → cond b (Crowds steps call c) (¬ Crowds steps call c)
  row_full c sound r fit b is =
      let after : After c (every_type_exact c sound) (steps ++ (step_for call ∷ [])) (full r) (moved r) = rw counted
      (fits_step c (every_type_exact c sound) steps valid sound (step_for call) accepts r fit) in
      by_test b (subst (λ x. After c (every_type_exact c sound) (steps ++ (step_for call ∷ [])) x (moved r)) is after)
    where
      by_test : (x : Bool) → After c (every_type_exact c sound) (steps ++ (step_for call ∷ [])) x (moved r)
          → cond x (Crowds steps call c) (¬ Crowds steps call c)
      by_test true after = after
      by_test false after = λ crowding. omega (
        arith,
        fits_room c (every_type_exact c sound) (steps ++ (step_for call ∷ []))
            (valid_more (step_for call) valid accepts) _ after crowding.0,
        crowding.1,
      )

  -- row k is crowded, and none before it
  abbrev FirstFull : List Constraint → ℕ → Type 0
  FirstFull cs k =
      (c : Constraint) × (get_elem? cs k ≡ some c) × Crowds steps call c
      × ((j : ℕ) (d : Constraint) → j < k → get_elem? cs j ≡ some d → ¬ Crowds steps call d)

  -- the first full row, of rows numbered from i on
  first_full : (cs : List Constraint) (rows : List Row) → FitRows every_type_exact steps cs rows → (i : ℕ) → any_first (length cs) full rows ≡ true
      → (k : ℕ) × (first_marked (length cs) full i rows ≡ i + k) × FirstFull cs k
  unfolding any_first first_marked
  first_full [] rows fit i e = both (sym e)
  first_full (c ∷ cs) [] fit i e = absurd fit
  first_full (c ∷ cs) (r ∷ rows) fit i e =
      split (full r)
      (λ b. full r ≡ b → (b || any_first (length cs) full rows) ≡ true → (k : ℕ) × (cond b i (first_marked (length cs) full (i + 1) rows) ≡ i + k)
      × FirstFull (c ∷ cs) k)
      (λ _ is some_full. (0, omega arith, (c, refl, row_full c fit.0.0 r fit.0.1 true is, λ j d h. absurd (omega arith))))
      (λ _ is some_full.
      let found = first_full cs rows fit.1 (i + 1) some_full in (
        suc found.0,
        found.1 ∙ omega arith,
        (found.2.0, found.2.1, found.2.2, behind (row_full c fit.0.0 r fit.0.1 false is) found.2.3),
      ))
      refl e
    where
      behind : {k : ℕ} → ¬ Crowds steps call c → ((j : ℕ) (d : Constraint) → j < k → get_elem? cs j ≡ some d → ¬ Crowds steps call d)
          → (j : ℕ) (d : Constraint) → j < suc k → get_elem? (c ∷ cs) j ≡ some d → ¬ Crowds steps call d
      behind free others zero d h is = let same : c ≡ d = cc in subst (λ (x : Constraint). ¬ Crowds steps call x) same free
      behind free others (suc j) d h is = others j d (omega arith) is

-- ---- a call that is refused with 12 is accepted but for that

-- what is asked before 12
Passed : List Question → Type 0
Passed [] = ⊥
Passed (q ∷ later) = cond (eqb q.0 12) (Unit {0}) (q.1 × Passed later)

passed : (asked : List Question) → Judged asked (Refused 12) → Passed asked
unfolding Judged Passed
passed [] e = never (cc)
passed (q ∷ later) (inl h) = split (eqb q.0 12) (λ b. cond b (Unit {0}) (q.1 × Passed later)) (λ _. tt) (λ _. (h.0, passed later h.1))
passed (q ∷ later) (inr h) = let same : q.0 ≡ 12 = cc h.1 in rw (eq-eqb q.0 12 same) tt

pub accepts_crowded : (rows : List Constraint) (steps : List Step) (call : Call) → Judged (questions rows steps call) (Refused 12)
    → Accepts steps (step_for call)
unfolding Judged questions Passed
accepts_crowded rows steps (Call.Event k t) judged =
    let a = passed (questions rows steps (Call.Event k t)) judged in
    record { not_closed = a.0; counted = a.1.0; stream_small = omega arith; time_small = a.1.1.1.1.0; in_order = a.1.1.1.1.1.0 }
accepts_crowded rows steps (Call.ColouredEvent k c t) judged =
    let a = passed (questions rows steps (Call.ColouredEvent k c t)) judged in
    record {
      not_closed = a.0;
      counted = a.1.0;
      stream_small = stream_below k c a.1.1.0 a.1.1.1.0.1;
      time_small = a.1.1.1.1.0;
      in_order = a.1.1.1.1.1.0;
    }
accepts_crowded rows steps (Call.Tick t) judged =
    let a = passed (questions rows steps (Call.Tick t)) judged in
    record { not_closed = a.0; counted = a.1.0; time_small = a.1.1.0; later = a.1.1.1.0 }
accepts_crowded rows steps Call.Close judged = absurd (passed (questions rows steps Call.Close) judged).1.1

-- ---- the answer

-- no other question has the number 12
other_number : (b : Bool) (m n : ℕ) → ¬ (m ≡ 12) → ¬ (n ≡ 12) → ¬ (cond b m n ≡ 12)
other_number true m n p q = p
other_number false m n p q = q

time_number : (t clock next : ℕ) → ¬ (time_refusal t clock next ≡ 12)
time_number t clock next =
    other_number (ltb last_time t) 10 _ (λ e. omega arith)
    (other_number (ltb t clock) 11 _ (λ e. omega arith) (other_number (ltb t next) 11 0 (λ e. omega arith) (λ e. omega arith)))

own_number : (call : Call) (clock next : ℕ) → ¬ (own_refusal call clock next ≡ 12)
own_number (Call.Event k t) clock next =
    other_number (ltb last_kind k) 9 _ (λ e. omega arith) (other_number (leb first_coloured k) 19 _ (λ e. omega arith) (time_number t clock next))
own_number (Call.ColouredEvent k c t) clock next =
    other_number (ltb last_kind k) 9 _ (λ e. omega arith) (other_number (ltb k first_coloured) 19 _ (λ e. omega arith)
    (other_number (ltb last_colour c) 19 _ (λ e. omega arith) (time_number t clock next)))
own_number (Call.Tick t) clock next = other_number (ltb last_time t) 10 _ (λ e. omega arith)
    (other_number (leb t clock) 11 0 (λ e. omega arith) (λ e. omega arith))
own_number Call.Close clock next = λ e. omega arith

module _ (every_type_exact : (c : Constraint) → Sound c
    → Exact c) (rows : List Constraint) (steps : List Step) (m : Monitor) (f : Follows every_type_exact rows steps m)
    (call : Call) where
  abbrev refusal : ℕ
  refusal = refusal_for m call

  refusal_other : ¬ (refusal ≡ 12)
  refusal_other =
      other_number (ltb 0 m.closed) 8 _ (λ e. omega arith)
      (other_number (leb last_count m.count) 24 _ (λ e. omega arith) (own_number call m.clock (next_for m call)))

  not_crowded : (a : Answer) → ¬ (a ≡ Refused 12) → Judged (questions rows steps call) a → ¬ Judged (questions rows steps call) (Refused 12)
  not_crowded a other judged crowding = other (judged_once (questions rows steps call) a (Refused 12) judged crowding)

  -- what the rows see is what the definitions' step is
  first_is : (k : ℕ) → first_marked (length rows) (λ r. (row_step r (seen steps (step_for call)) (next_step m)).crowded) 0 m.rows ≡ 0 + k
      → crowded_first m call ≡ k
  first_is k e = rw (f.len_is, seen_is every_type_exact rows steps m f call) (e ∙ omega arith)

  is_crowded : crowds m call ≡ true → Judged (questions rows steps call) (Refused 12) → CrowdedRow rows steps call (crowded_first m call)
  is_crowded full judged =
      let accepts = accepts_crowded rows steps call judged in
      let some_full : any_first (length rows) (λ r. (row_step r (seen steps (step_for call)) (next_step m)).crowded) m.rows
      ≡ true = rw (f.len_is, seen_is every_type_exact rows steps m f call) at full in
      let found = first_full every_type_exact steps f.valid call (next_step m)
      (step_is every_type_exact rows steps m f (counted_of (step_for call) steps accepts)) accepts rows m.rows f.fit 0 some_full in
      subst (CrowdedRow rows steps call) (sym (first_is found.0 found.1))
      (crowded found.0 found.2.0 judged found.2.1 found.2.2 found.2.3)

  -- §15.11
  pub crowded_says : CrowdedRow rows steps call (crowded_row_of m call)
  unfolding step_of
  crowded_says =
      split (ltb 0 refusal)
      (λ b. Judged (questions rows steps call) (cond b (refuses refusal m) (cond (crowds m call) (refuses 12 m) (takes (taken_call m call)))).answer
      → CrowdedRow rows steps call (cond b row_limit (crowded_first m call)))
      (λ e judged. none_crowded (not_crowded (Refused refusal) (λ same. refusal_other (cc)) judged))
      (λ e. split (crowds m call)
      (λ b. crowds m call ≡ b → Judged (questions rows steps call) (cond b (refuses 12 m) (takes (taken_call m call))).answer
      → CrowdedRow rows steps call (crowded_first m call))
      (λ _ full judged. is_crowded full judged)
      (λ _ free judged. subst (CrowdedRow rows steps call)
      (sym (none_marked (λ r. (row_step r (step_input_of m call) (next_step m)).crowded) m.len 0 m.rows free))
      (none_crowded (not_crowded Taken (λ same. never (cc)) judged)))
      refl)
      (step_answered every_type_exact rows steps m f call).0
