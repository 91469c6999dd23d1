-- An event that goes to the rows of a set, one after the other: what lies in the words between two of them.
use Rattle.in_place.proofs.Names.{Lent, Shaped, Words, ◌≡◌, dispatched, event_at, rows_in, with_soonest, words_of_lent, ℕ}

-- a monitor from which the rows that are left make what all rows make of the first; its soonest time is not stored yet
pub record Midway (h : Lent) (rows stream t number soonest left : ℕ) (m : Words) : Type 0 where
  pub lent : Lent
  pub shaped : Shaped lent
  pub words_are : m ≡ words_of_lent (with_soonest lent h.soonest)
  pub soonest_is : soonest ≡ lent.soonest
  pub same : dispatched h (rows_in rows) (event_at stream t) number ≡ dispatched lent (rows_in left) (event_at stream t) number
