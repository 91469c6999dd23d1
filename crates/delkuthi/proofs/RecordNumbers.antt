-- Each question of a table, of a record and of its step has a number from 1 to 127, as a test over the list computes, and so has each refusal.
use Rattle.delkuthi.proofs.Names.{AnswersStampsUpTo, Bool, Call, Constraint, Judged, List, Question, ReadsInOrder, ReadsRecords, ReadsRows}
use Rattle.delkuthi.proofs.Names.{ReadsTableUpTo, Refused, StampedAnswer, Step, TableRead, [], ◌&&◌, ◌+◌, ◌<◌, ◌∷◌, ◌≡◌, arith, call_at, false}
use Rattle.delkuthi.proofs.Names.{inl, inr, ltb, ltb-true, never, not_asked, place_questions, questions, record_refused, record_taken}
use Rattle.delkuthi.proofs.Names.{record_questions, recording_refused, refl, row_then, rows_questions, stamps_questions, table_of, table_refused}
use Rattle.delkuthi.proofs.Names.{true, version_refused, version_taken, ℕ}
use Rattle.constraint.specs.Stamps.{no_recording, no_table}
use Rattle.constraint.specs.Table as Table

-- a number that leaves room for one bit more in its byte
abbrev pub Short : ℕ → Type 0
Short n = (0 < n) × (n < 128)

unfoldable pub short? : List Question → Bool
short? [] = true
short? (q ∷ later) = (ltb 0 q.0 && ltb q.0 128) && short? later

and_true : (a b : Bool) → (a && b) ≡ true → (a ≡ true) × (b ≡ true)
and_true true b e = (refl, e)
and_true false b e = never (cc)

pub number_short : (questions : List Question) (n : ℕ) → short? questions ≡ true → Judged questions (Refused n) → Short n
unfolding short? Judged
number_short [] n e judged = never (cc)
number_short (q ∷ later) n e (inl h) = number_short later n (and_true (ltb 0 q.0 && ltb q.0 128) (short? later) e).1 h.1
number_short (q ∷ later) n e (inr h) =
    let here = and_true (ltb 0 q.0) (ltb q.0 128) (and_true (ltb 0 q.0 && ltb q.0 128) (short? later) e).0 in
    let same : n ≡ q.0 = cc h.1 in
    (omega (arith, ltb-true 0 q.0 here.0), omega (arith, ltb-true q.0 128 here.1))

-- ---- of rows

pub rows_short : (edition i : ℕ) (rows : List Constraint) (later : List Question) → short? later ≡ true
    → short? (rows_questions edition i rows later) ≡ true
unfolding rows_questions short?
rows_short edition i [] later e = e
rows_short edition i (c ∷ rows) later e = rows_short edition (i + 1) rows later e

-- ---- of a recording

call_short : (steps : List Step) (s : Call) → short? (questions [] steps s) ≡ true
unfolding questions short?
call_short steps (Call.Event k t) = refl
call_short steps (Call.ColouredEvent k c t) = refl
call_short steps (Call.Tick t) = refl
call_short steps Call.Close = refl

records_short : (bytes : List ℕ) {before : List Step} {place n last : ℕ} → ReadsRecords [] bytes before place (recording_refused n last) → Short n
unfolding record_questions short?
records_short bytes (record_refused {before} {place} n there judged) =
    number_short (record_questions [] before bytes place) n (call_short before (call_at bytes place)) judged
records_short bytes (record_taken there judged later) = records_short bytes later

pub refusal_short : (bytes : List ℕ) (n place : ℕ) → ReadsInOrder bytes (recording_refused n place) → Short n
refusal_short bytes n place (version_refused one) = (omega arith, omega arith)
refusal_short bytes n place (version_taken one records) = records_short bytes records

-- ---- of a table

place_short : (edition : ℕ) (bytes : List ℕ) (i place n : ℕ) (c : Constraint) → Judged (place_questions edition bytes i place c) (Refused n) → Short n
unfolding place_questions short?
place_short edition bytes i place n c judged = number_short (place_questions edition bytes i place c) n refl judged

-- what is read from a place on
abbrev ShortRead : TableRead → Type 0
ShortRead (table_of rows) = Unit {0}
ShortRead (table_refused n place) = Short n

then_short : (c : Constraint) (later : TableRead) → ShortRead later → ShortRead (row_then c later)
then_short c (table_of rows) short = tt
then_short c (table_refused n place) short = short

read_short : {edition : ℕ} (bytes : List ℕ) {i start : ℕ} {read : TableRead} → ReadsRows edition bytes i start read → ShortRead read
read_short bytes (Table.no_more end) = tt
read_short {edition} bytes (Table.row_refused {i} {place} n c there at_c judged) = place_short edition bytes i place n c judged
read_short bytes (Table.row_taken {later = later} c there at_c judged reads) = then_short c later (read_short bytes reads)

pub table_short : {newest : ℕ} (bytes : List ℕ) (n place : ℕ) → ReadsTableUpTo newest bytes (table_refused n place) → Short n
table_short bytes n place (Table.version_refused one) = (omega arith, omega arith)
table_short bytes n place (Table.version_taken one reads) = read_short bytes reads

-- ---- of late stamps

pub stamped_short : {newest : ℕ} (table recording : List ℕ) (i e n place : ℕ)
    → AnswersStampsUpTo newest table recording i e (StampedAnswer.Refused n place) → Short n
unfolding short?
stamped_short table recording i e n place (no_table m at read) = table_short table m at read
stamped_short table recording i e n place (no_recording rows m at read refused) = refusal_short recording m at refused
stamped_short table recording i e n place (not_asked rows steps m read taken judged) = number_short (stamps_questions rows i e) m refl judged
