-- Records that are taken on a monitor are calls, one after the other, each answered over the steps that are left then.
use Rattle.sessions.proofs.Names.{Constraint, Left, List, Memory, ReadAnswer, Refused, ◌+◌, ◌<◌, ◌≡◌, ◌≤◌, arith, asks}
use Rattle.sessions.proofs.Names.{never, refl, suc, zero, ℕ}
use Rattle.sessions.proofs.Reached.{Reached, reached_judged, reached_more}
use Rattle.constraint.specs.Recording.{call_at}
use Rattle.constraint.specs.Table.{length_at}
use Rattle.delkuthi.specs.TakingRecords as T
use Rattle.recording.proofs.Records.{record_judged, record_refused}

module _ (rows : List Constraint) (bytes : List ℕ) where
  -- what is left after the records, and the memory then
  abbrev pub Left-by : (Left → Type 0) → Memory → Type 0
  Left-by Says end = (left : Left) × Says left × Reached end rows left

  from_there : {h end : Memory} {left : Left} {place : ℕ} {answer : ReadAnswer} → Reached h rows left → T.TakesFrom bytes h place answer end
      → Left-by (T.LeavesFrom rows bytes left place answer) end
  from_there {left = left} reached (T.all_taken_lem last) = (left, T.no_more last, reached)
  from_there {left = left} {place = place} reached (T.not_whole there none) =
      (left, T.refused 14 there (record_refused rows left.steps bytes place none), reached)
  from_there reached (T.step_refused zero there whole above below takes) = never (omega (arith, above))
  from_there {h} {left = left} {place = place} reached (T.step_refused (suc n) there whole above below takes) = (
    left,
    T.refused (suc n) there
        (record_judged rows left.steps bytes place (call_at bytes place) (place + 2 + length_at bytes place) (Refused (suc n))
        (record { there = whole; call_read = refl; next_read = refl }) (reached_judged reached (asks (call_at bytes place)) (suc n) h takes)),
    reached,
  )
  from_there {left = left} {place = place} reached (T.step_taken {mid = mid} there whole takes rest) =
      let (last, leaves, at_last) = from_there (reached_more reached (asks (call_at bytes place)) 0 mid takes) rest in (
        last,
        T.taken there
            (record_judged rows left.steps bytes place (call_at bytes place) (place + 2 + length_at bytes place) _
            (record { there = whole; call_read = refl; next_read = refl }) (reached_judged reached (asks (call_at bytes place)) 0 mid takes))
            leaves,
        at_last,
      )

  pub reached_bytes : {h end : Memory} {left : Left} {answer : ReadAnswer} → Reached h rows left → T.TakesBytes bytes h answer end
      → Left-by (T.TakeLeaves rows bytes left answer) end
  reached_bytes {left = left} reached (T.no_version unknown) = (left, T.unknown unknown, reached)
  reached_bytes reached (T.versioned version from) =
      let (last, leaves, at_last) = from_there reached from in (last, T.known version leaves, at_last)

-- ---- a refusal of the version byte or of the first record changes nothing

-- a record that is refused behind others stands behind their places
refused_behind : {bytes : List ℕ} {h end : Memory} {from n place : ℕ} → T.TakesFrom bytes h from (ReadAnswer.Refused n place) end → from ≤ place
refused_behind (T.not_whole there none) = omega arith
refused_behind (T.step_refused number there whole above below takes) = omega arith
refused_behind (T.step_taken there whole takes rest) = omega (arith, refused_behind rest)

first_refused : {bytes : List ℕ} {h end : Memory} (n place : ℕ) → place < 2 → T.TakesBytes bytes h (ReadAnswer.Refused n place) end → end ≡ h
first_refused n place first (T.no_version unknown) = refl
first_refused n place first (T.versioned version (T.not_whole there none)) = refl
first_refused n place first (T.versioned version (T.step_refused number there whole above below takes)) = refl
first_refused n place first (T.versioned version (T.step_taken there whole takes rest)) = never (omega (arith, refused_behind rest, first))

pub take_unchanged : {bytes : List ℕ} {h end : Memory} {number : ℕ} → T.NumbersTaken h bytes number end → 0 < number → number < 512 → end ≡ h
take_unchanged {bytes} {h} {end} {number} numbers above below = by_answer numbers.answer numbers.takes numbers.equals
  where
    by_answer : (answer : ReadAnswer) → T.TakesBytes bytes h answer end → number ≡ T.taken_number answer → end ≡ h
    by_answer ReadAnswer.Accepted takes e = never (omega (arith, e, above))
    by_answer (ReadAnswer.Refused n place) takes e = first_refused n place (omega (arith, e, below)) takes
