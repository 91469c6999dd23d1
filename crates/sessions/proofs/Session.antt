-- §11.2: every list of the exported calls, from any memory: a table that is accepted makes the monitor fresh whatever lay there, each call after it
-- is the machine's, and one that is refused changes nothing.
use Rattle.sessions.proofs.Names.{Accepted, BeginsUpTo, Call, Constraint, Host, Indexes, Left, LeftBy, List, Memory, ReadAnswer}
use Rattle.sessions.proofs.Names.{ReadsTableUpTo, RecordingTakenAs, Refused, Request, Run, Step, Takes, TakesAll, [], ◌++◌, ◌∷◌, ◌≡◌, all_taken}
use Rattle.sessions.proofs.Names.{answer_from, arith, asks, begun, close, done, fresh_lent, leaves, left_by, map, none, none_left, none_refused}
use Rattle.sessions.proofs.Names.{refl, refused, request, step_for, subst, table_of, true, unused, used, words_of_lent, zero, ℕ}
use Rattle.sessions.proofs.Reached.{Reached, monitors, reached_fresh, reached_judged, reached_more}
use Rattle.sessions.proofs.Recorded.{begun_with, fresh_refused, left_refused, reached_taken}
use Rattle.sessions.proofs.TakenRecords.{reached_bytes, take_unchanged}
use Rattle.sessions.proofs.WithdrawnStep.{step_answered, step_unchanged}
use Rattle.delkuthi.specs.{TakingRecords.TakesBytes, WithdrawingStep.WithdrawsStep}
use Rattle.sessions.specs.Session as S

-- ---- what is known

-- the memory was reached from a fresh monitor over the rows
abbrev Stands-in : Memory → S.Standing → Type 0
Stands-in h S.nothing = Unit {0}
Stands-in h (S.monitor rows left) = Reached h rows left

promised : (h : Memory) (known : S.Standing) → Stands-in h known → S.Promised h known
promised h S.nothing reached = tt
promised h (S.monitor rows left) reached = monitors reached

-- ---- steps that were all taken

all_more : (steps : List Step) (s : Step) → record { steps = steps ++ (s ∷ []); may = true } ≡ S.all_left (steps ++ (s ∷ []))
all_more [] s = refl
all_more (x ∷ steps) s = refl

all_from : {rows : List Constraint} (calls : List Call) {left end : Left} → Run rows left (map asks calls) (all_taken calls) end
    → left ≡ S.all_left left.steps → end ≡ S.all_left end.steps
all_from [] done e = e
all_from (c ∷ calls) (request {left = left} _ _ judged rest) e = all_from calls rest (all_more left.steps (step_for c))

reached_all : {end : Memory} (rows : List Constraint) (calls : List Call) (steps : List Step) → Accepted rows → Indexes (fresh_lent rows)
    → TakesAll rows calls steps → Host (words_of_lent (fresh_lent rows)) (map asks calls) (none_refused calls) end
    → Reached end rows (S.all_left steps)
reached_all {end} rows calls steps accepted indexes taken host =
    subst (Reached end rows) (all_from calls taken.1 refl) (reached_taken rows calls steps accepted indexes taken host)

-- ---- one call

-- what is known after it, and how it was answered
abbrev Then : Memory → (S.Standing → Type 0) → Type 0
Then mid Answers = (then : S.Standing) × Answers then × Stands-in mid then

module _ (h : Memory) (known : S.Standing) (reached : Stands-in h known) where
  after_fresh : {newest : ℕ} (table : List ℕ) {number : ℕ} {mid : Memory} → BeginsUpTo newest table h number mid
      → Then mid (S.FreshAnswers newest table known number)
  after_fresh table (begun rows read accepted indexes) =
      (S.monitor rows none_left, S.accepted rows read, reached_fresh rows accepted indexes)
  after_fresh table (refused n place read above below) = (known, S.refused n place read above below, reached)

  by_recording : {newest : ℕ} (table recording : List ℕ) {mid : Memory} (rows : List Constraint) (answer : ReadAnswer) (calls : List Call)
      → ReadsTableUpTo newest table (table_of rows) → Accepted rows → Indexes (fresh_lent rows) → RecordingTakenAs rows recording answer calls
      → Host (words_of_lent (fresh_lent rows)) (map asks calls) (none_refused calls) mid → Then mid (S.ReportLeaves newest table recording known)
  by_recording table recording rows ReadAnswer.Accepted calls read accepted indexes (steps, reads, taken) host = (
    S.monitor rows (S.all_left (steps ++ (close ∷ []))),
    S.all_taken_lem rows steps read reads,
    reached_all rows calls (steps ++ (close ∷ [])) accepted indexes taken host,
  )
  by_recording table recording rows (ReadAnswer.Refused n place) calls read accepted indexes (steps, reads, earlier, taken) host = (
    S.monitor rows (S.all_left steps),
    S.no_record rows n place steps read reads earlier,
    reached_all rows calls steps accepted indexes taken host,
  )

  after_report : {newest : ℕ} (table recording : List ℕ) {answer : ReadAnswer} {mid : Memory} → LeftBy newest h table recording answer mid
      → Then mid (S.ReportLeaves newest table recording known)
  after_report table recording (unused n place read) = (known, S.no_table n place read, reached)
  after_report table recording (used rows answer end read begins left) =
      let both = begun_with table rows read begins in
      by_recording table recording rows answer left.calls read both.0 both.1 left.taken left.host

after_request : (h : Memory) (known : S.Standing) → Stands-in h known → (r : Request) (number : ℕ) (mid : Memory) → Takes h r number mid
    → Then mid (S.RequestAnswers r known number)
after_request h S.nothing reached r number mid takes = (S.nothing, S.free number, tt)
after_request h (S.monitor rows left) reached r number mid takes = (
  S.monitor rows (left_by left r (answer_from number)),
  S.judged rows left number (reached_judged reached r number mid takes),
  reached_more reached r number mid takes,
)

after_take : (h : Memory) (known : S.Standing) → Stands-in h known → (recording : List ℕ) (answer : ReadAnswer) (mid : Memory)
    → TakesBytes recording h answer mid → Then mid (S.TakeAnswers recording known answer)
after_take h S.nothing reached recording answer mid takes = (S.nothing, S.free answer, tt)
after_take h (S.monitor rows left) reached recording answer mid takes =
    let (end, leaves, there) = reached_bytes rows recording reached takes in (S.monitor rows end, S.taken rows left answer end leaves, there)

after_withdraw_step : (h : Memory) (known : S.Standing) → Stands-in h known → (step number : ℕ) (mid : Memory) → WithdrawsStep h step number mid
    → Then mid (S.StepAnswers step known number)
after_withdraw_step h S.nothing reached step number mid answered = (S.nothing, S.free number, tt)
after_withdraw_step h (S.monitor rows left) reached step number mid answered =
    let then = step_answered reached answered in (_, S.judged rows left number then.0, then.1)

-- ---- one call after the other

through : {h end : Memory} (known : S.Standing) → Stands-in h known → (session : S.Session h end) → Then end (S.SessionAnswers known session)
through known reached S.none = (known, refl, reached)
through {h} known reached (S.fresh newest table number begins rest) =
    let (then, answers, there) = after_fresh h known reached table begins in
    let (last, others, at_last) = through then there rest in (last, (then, answers, others), at_last)
through {h} known reached (S.request r number takes rest) =
    let (then, answers, there) = after_request h known reached r number _ takes in
    let (last, others, at_last) = through then there rest in (last, (then, answers, others), at_last)
through {h} known reached (S.report_on newest table recording buffer number written on rest) =
    let (then, leaves, there) = after_report h known reached table recording on.left_by in
    let (last, others, at_last) = through then there rest in (last, (on.reports, then, leaves, others), at_last)
through {h} known reached (S.take recording number numbers rest) =
    let (then, answers, there) = after_take h known reached recording numbers.answer _ numbers.takes in
    let (last, others, at_last) = through then there rest in
    (last, (numbers.answer, numbers.equals, then, answers, others), at_last)
through {h} known reached (S.withdraw_step step number answered rest) =
    let (then, answers, there) = after_withdraw_step h known reached step number _ answered in
    let (last, others, at_last) = through then there rest in (last, (then, answers, others), at_last)

untouched : {h end : Memory} (session : S.Session h end) → S.Unchanged session
untouched S.none = tt
untouched (S.fresh newest table number begins rest) = (fresh_refused begins, untouched rest)
untouched (S.request r number takes rest) = (λ above. takes.untouched (λ zero. omega arith), untouched rest)
untouched (S.report_on newest table recording buffer number written on rest) = (left_refused table recording on.left_by, untouched rest)
untouched (S.take recording number numbers rest) = (take_unchanged numbers, untouched rest)
untouched (S.withdraw_step step number answered rest) = (step_unchanged answered, untouched rest)

-- §7.22, §11.2
pub session_is_exact : {h end : Memory} (session : S.Session h end) → S.SessionExact session
session_is_exact {end = end} session =
    let (known, answers, there) = through S.nothing tt session in
    record { standing = known; answers = answers; untouched = untouched session; promised = promised end known there }
