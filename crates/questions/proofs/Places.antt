-- A place is a stream that was tested to be one, or 0; and the default says that there is nothing to withdraw.
use Rattle.constraint.proofs.Library.{◌<◌, ◌≡◌, arith, cond, lt-ltb, ltb, ltb-true, refl, ℕ}
use Rattle.constraint.proofs.Lists.{split}
use Rattle.constraint.specs.{Limits.stream_count, declared.Call.Call}
use Rattle.questions.specs.Questions.{no_undo, place_for, place_in, stream_for}
use Rattle.questions.specs.declared.Undo.{Undo}

-- a stream is its own place
pub stream_place : (call : Call) → stream_for call < stream_count → place_for call ≡ stream_for call
stream_place call small = rw (lt-ltb (stream_for call) stream_count small)

pub place_small : (call : Call) → place_for call < stream_count
place_small call =
    split (ltb (stream_for call) stream_count) (λ x. cond x (stream_for call) 0 < stream_count) (λ e. ltb-true (stream_for call) stream_count e)
    (λ e. omega arith)

pub place_in_small : (place : ℕ) → place_in place < stream_count
place_in_small place = split (ltb place stream_count) (λ x. cond x place 0 < stream_count) (λ e. ltb-true place stream_count e) (λ e. omega arith)

-- each number of the default is 0
pub no_undo_is : (u : Undo) → (u.may ≡ 0) × ((u.place ≡ 0) × ((u.next ≡ 0) × ((u.clock ≡ 0) × ((u.count ≡ 0) × (u.closed ≡ 0))))) → u ≡ no_undo
no_undo_is u (a, (b, (c, (d, (e, f))))) = rw (a, b, c, d, e, f) refl
