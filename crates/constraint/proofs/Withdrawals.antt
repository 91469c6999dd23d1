-- Where a list of requests withdraws none of the first steps, what is left begins with them, and a row that they broke stays broken at the same step.
use Rattle.constraint.proofs.Names.{Answer, BrokenAt, Call, Constraint, Keeps, Left, List, Refused, Request, Run, Step, Taken, [], ◌++◌, ◌-◌}
use Rattle.constraint.proofs.Names.{◌∙◌, ◌∷◌, ◌≡◌, ◌≤◌, ap, append_assoc, append-nil, arith, asks, done, length, length-append, length-take}
use Rattle.constraint.proofs.Names.{map, refl, request, step_for, subst, suc, sym, take, take-append_seam, withdraws, zero, ℕ}
use Rattle.constraint.proofs.Verdicts.{broken_later}

-- ---- a list without its last

abbrev pub but_last : List Step → List Step
but_last steps = take (length steps - 1) steps

pub but_last_lem : (steps : List Step) (s : Step) → but_last (steps ++ (s ∷ [])) ≡ steps
but_last_lem steps s =
    let less : length (steps ++ (s ∷ [])) - 1 ≡ length steps = omega (arith, length-append steps (s ∷ [])) in
    ap (λ (n : ℕ). take n (steps ++ (s ∷ []))) less ∙ take-append_seam steps (s ∷ [])

-- one list of steps begins with another
abbrev pub Begins : List Step → List Step → Type 0
Begins steps all = (later : List Step) × (all ≡ steps ++ later)

-- if the first n of a list are at least as many as a beginning has, they start with that beginning
take_begins : (n : ℕ) (first later : List Step) → length first ≤ n → Begins first (take n (first ++ later))
take_begins n [] later h = (take n later, refl)
take_begins zero (x ∷ first) later h = absurd (omega (arith, h))
take_begins (suc n) (x ∷ first) later h =
    let rest = take_begins n first later (omega (arith, h)) in (rest.0, ap (λ (l : List Step). x ∷ l) rest.1)

-- ---- what is left begins with the steps that are kept

begins_more : (first steps : List Step) (s : Step) → Begins first steps → Begins first (steps ++ (s ∷ []))
begins_more first steps s b = (b.0 ++ (s ∷ []), ap (λ (l : List Step). l ++ (s ∷ [])) b.1 ∙ append_assoc first b.0 (s ∷ []))

begins_less : (first steps : List Step) (n : ℕ) → length first ≤ length (take n steps) → Begins first steps → Begins first (take n steps)
begins_less first steps n enough b =
    subst (λ (l : List Step). Begins first (take n l)) (sym b.1) (take_begins n first b.0 (omega (arith, enough, length-take n steps)))

-- §3.15
pub keeps_begins : (first : List Step) {rows : List Constraint} {left end : Left} {requests : List Request} {answers : List Answer}
    (run : Run rows left requests answers end) → Keeps (length first) run → Begins first left.steps → Begins first end.steps
keeps_begins first done keeps b = b
keeps_begins first (request {left = left} (asks call) Taken judged rest) keeps b =
    keeps_begins first rest keeps.1 (begins_more first left.steps (step_for call) b)
keeps_begins first (request {left = left} withdraws Taken judged rest) keeps b =
    keeps_begins first rest keeps.1 (begins_less first left.steps (length left.steps - 1) keeps.0 b)
keeps_begins first (request r (Refused n) judged rest) keeps b = keeps_begins first rest keeps.1 b

-- §3.7: a list of calls withdraws nothing
pub calls_keep : (n : ℕ) {rows : List Constraint} (calls : List Call) {left end : Left} {answers : List Answer}
    (run : Run rows left (map asks calls) answers end) → n ≤ length left.steps → Keeps n run
calls_keep n [] done h = tt
calls_keep n (s ∷ calls) (request {left = left} _ Taken judged rest) h =
    let more : n ≤ length (left.steps ++ (step_for s ∷ [])) = omega (arith, h, length-append left.steps (step_for s ∷ [])) in
    (more, calls_keep n calls rest more)
calls_keep n (s ∷ calls) (request _ (Refused k) judged rest) h = (h, calls_keep n calls rest h)

-- a row that the first steps broke is broken after all of them, at the same step
broken_behind : (c : Constraint) (n : ℕ) (steps later : List Step) → BrokenAt c steps n → BrokenAt c (steps ++ later) n
broken_behind c n steps [] b = subst (λ (l : List Step). BrokenAt c l n) (sym (append-nil steps)) b
broken_behind c n steps (s ∷ later) b =
    subst (λ (l : List Step). BrokenAt c l n) (append_assoc steps (s ∷ []) later)
    (broken_behind c n (steps ++ (s ∷ [])) later (broken_later c steps s n b))

pub begins_broken : (c : Constraint) (n : ℕ) (steps all : List Step) → Begins steps all → BrokenAt c steps n → BrokenAt c all n
begins_broken c n steps all begins b = subst (λ (l : List Step). BrokenAt c l n) (sym begins.1) (broken_behind c n steps begins.0 b)
