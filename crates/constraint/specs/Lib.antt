-- The contract (docs/CONTRACT.md) in definitions, in its order where dependencies allow. §5.1 is its clause 5.1; "01, row 3" is the place in
-- the scope that it renders, "CR 3" the change request (docs/history/REQUESTS.md); docs/READING.md leads from each clause to its definition, theorem
-- and function. The signs:
--   (i : ℕ) → P i          for every whole number i, from 0 on, P i
--   (j : ℕ) × P j          there is a whole number j with P j
--   A → B, A × B, A ⊎ B    if A then B; A and B; A or B
--   ¬ A, x ≡ y             not A; x is y
--   [], x ∷ xs, xs ++ ys   the empty list; x in front of xs; xs and then ys
--   p.0, p.1, r.field   the first part of p, the second; a field of r
--   Option A, none, some x an A or nothing; nothing; it is x
--   Bool, cond b x y       true or false; x where b is true, else y
--   Unit, ⊥                what always holds; what never does
--   name : A → Type 0      the name stands for a statement about an A
--   record, data           all of the lines below hold; it holds in one of the ways below and in no other
--   {x : A}, pub, abbrev, unfoldable    an x that is clear from the rest; the other words are for the checker alone
pub mod Limits
pub mod Constraint
pub mod Streams
pub mod Steps
pub mod Meets
pub mod Continuation
pub mod Waiting
pub mod Answer
pub mod Questions
pub mod Types
pub mod Accepted
pub mod Run
pub mod Promise
pub mod Bytes
pub mod Table
pub mod Recording
pub mod Stamps
pub mod Stretches
pub mod Report
pub mod Page
pub mod Examples
-- What the code's results say, and what its records hold.
pub mod Answers
pub mod Records
pub mod Joined
pub mod LongAnswers
