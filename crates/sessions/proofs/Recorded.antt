-- A report on lent memory is a table that makes the monitor fresh and calls that are all taken: so it reaches what a host's calls do.
use Rattle.sessions.proofs.Names.{Accepted, BeginsUpTo, Call, Constraint, Host, Indexes, LeftBy, List, Memory, ReadAnswer, ReadsRecorded}
use Rattle.sessions.proofs.Names.{ReadsTableUpTo, RecordingTakenAs, Refused, Step, TakesAll, [], ◌++◌, ◌<◌, ◌∷◌, ◌≡◌, after, all_taken, arith}
use Rattle.sessions.proofs.Names.{asks, at, begun, close, cut, fresh_lent, map, never, none_refused, reads_once, refl, refused, subst, table_of}
use Rattle.sessions.proofs.Names.{table_refused, unused, used, whole, words_of_lent, ℕ}
use Rattle.sessions.proofs.Reached.{Reached, monitors}

-- calls that are all taken
pub reached_taken : {end : Memory} (rows : List Constraint) (calls : List Call) (steps : List Step) → Accepted rows → Indexes (fresh_lent rows)
    → (taken : TakesAll rows calls steps) → Host (words_of_lent (fresh_lent rows)) (map asks calls) (none_refused calls) end
    → Reached end rows (record { steps = steps; may = taken.0 })
reached_taken rows calls steps accepted indexes taken host =
    record {
      accepted = accepted;
      indexes = indexes;
      requests = map asks calls;
      numbers = none_refused calls;
      answers = all_taken calls;
      host = host;
      run = taken.1;
    }

-- a table that is refused leaves the memory as it was
pub fresh_refused : {newest : ℕ} {table : List ℕ} {before after : Memory} {number : ℕ} → BeginsUpTo newest table before number after → 0 < number
    → after ≡ before
fresh_refused (begun rows read accepted indexes) above = absurd (omega arith)
fresh_refused (refused n place read low high) above = refl

-- the table that was accepted, and what the words say then
begun_on : {newest : ℕ} {table : List ℕ} {before words : Memory} {number : ℕ} → BeginsUpTo newest table before number words → number ≡ 0
    → (rows : List Constraint) × ReadsTableUpTo newest table (table_of rows) × Accepted rows × Indexes (fresh_lent rows)
begun_on (begun rows read accepted indexes) is = (rows, read, accepted, indexes)
begun_on (refused n place read above below) is = absurd (omega (arith, is, above))

pub begun_with : {newest : ℕ} (table : List ℕ) {before words : Memory} (rows : List Constraint) → ReadsTableUpTo newest table (table_of rows)
    → BeginsUpTo newest table before 0 words → Accepted rows × Indexes (fresh_lent rows)
begun_with table rows read begins =
    let (others, reads, accepted, indexes) = begun_on begins refl in
    let once = reads_once table reads read in
    let same : others ≡ rows = cc in
    subst (λ (r : List Constraint). Accepted r × Indexes (fresh_lent r)) same (accepted, indexes)

-- what the readers read then
reads_recorded : {end : Memory} (rows : List Constraint) (recording : List ℕ) (answer : ReadAnswer) (calls : List Call) → Accepted rows
    → Indexes (fresh_lent rows) → RecordingTakenAs rows recording answer calls
    → Host (words_of_lent (fresh_lent rows)) (map asks calls) (none_refused calls) end → ReadsRecorded end rows recording
reads_recorded rows recording ReadAnswer.Accepted calls accepted indexes (steps, reads, taken) host =
    whole steps reads (monitors (reached_taken rows calls (steps ++ (close ∷ [])) accepted indexes taken host)).reads
reads_recorded rows recording (ReadAnswer.Refused n place) calls accepted indexes (steps, reads, earlier, taken) host =
    cut n place steps reads earlier (monitors (reached_taken rows calls steps accepted indexes taken host)).reads

module _ {newest : ℕ} {before : Memory} (table recording : List ℕ) where
  pub left_refused : {answer : ReadAnswer} {h : Memory} → LeftBy newest before table recording answer h → (n place : ℕ)
      → ReadsTableUpTo newest table (table_refused n place) → h ≡ before
  left_refused (unused m at reads) n place r = refl
  left_refused (used rows answer h reads begins left) n place r = let same = reads_once table reads r in never (cc)

  pub left_used : {answer : ReadAnswer} {h : Memory} → LeftBy newest before table recording answer h → (rows : List Constraint)
      → ReadsTableUpTo newest table (table_of rows) → ReadsRecorded h rows recording
  left_used (unused m at reads) rows r = let same = reads_once table reads r in never (cc)
  left_used (used others answer h reads begins left) rows r =
      let once = reads_once table reads r in
      let same : others ≡ rows = cc in
      let both = begun_with table others reads begins in
      subst (λ (list : List Constraint). ReadsRecorded h list recording) same
      (reads_recorded others recording answer left.calls both.0 both.1 left.taken left.host)
