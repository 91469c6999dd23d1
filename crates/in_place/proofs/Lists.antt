-- No call and no withdrawal changes the sets of rows by kind: each of their parts stores other words.
use Rattle.in_place.proofs.Names.{Call, Lent, List, StepInput, Request, [], ◌∙◌, ◌∷◌, ◌≡◌, asks, rows_undone, deadlines_checked, close_at, cond}
use Rattle.in_place.proofs.Names.{recorded_on, recorded_to, crowded_on, clock_applied, dispatched_to, event_at, held_rows, leaves, left_after}
use Rattle.in_place.proofs.Names.{left_on}
use Rattle.in_place.proofs.Names.{ltb}
use Rattle.in_place.proofs.Names.{next_number, refl, refusal_in, rows_of_kind, split, stream, suc, tick_at, dispatched, withdrawn_lent, withdraws}
use Rattle.in_place.proofs.Names.{without_asked}
use Rattle.in_place.proofs.Names.{zero, ℕ}
use Rattle.in_place.proofs.Parts.{by_outcome}

-- the sets are those of the first
abbrev pub SameLists : Lent → Lent → Type 0
SameLists h x = x.lists ≡ h.lists

visited_lists : (h : Lent) (rows : List ℕ) (o : StepInput) (number : ℕ) → SameLists h (dispatched h rows o number)
visited_lists h [] o number = refl
visited_lists h (i ∷ rows) o number = visited_lists (dispatched_to h i o number) rows o number

ended_lists : (h : Lent) (n : ℕ) (o : StepInput) (number : ℕ) → SameLists h (clock_applied h n o number)
ended_lists h zero o number = refl
ended_lists h (suc n) o number = ended_lists h n o number

backed_lists : (h : Lent) (n number : ℕ) → SameLists h (rows_undone h n number)
backed_lists h zero number = refl
backed_lists h (suc n) number = backed_lists h n number

begun_lists : (h : Lent) (o : StepInput) → SameLists h (deadlines_checked h o)
begun_lists h o = by_outcome h o (SameLists h) (ended_lists h (held_rows h.monitor) o h.monitor.count) refl refl

-- an event of a stream, or none where a row is crowded
stream_lists : (h : Lent) (kind stream time : ℕ) → SameLists h (cond (crowded_on h kind stream time) h (left_on h kind stream time))
stream_lists h kind stream time =
    split (crowded_on h kind stream time) (λ b. SameLists h (cond b h (left_on h kind stream time))) (λ _. refl) (λ _.
    visited_lists (deadlines_checked (recorded_on (without_asked h kind) stream time) (event_at stream time)) (rows_of_kind h kind)
    (event_at stream time) (next_number h)
    ∙ begun_lists (recorded_on (without_asked h kind) stream time) (event_at stream time))

after_lists : (h : Lent) (call : Call) → SameLists h (left_after h call)
after_lists h (Call.Event kind time) = stream_lists h kind kind time
after_lists h (Call.ColouredEvent kind colour time) = stream_lists h kind (stream kind colour) time
after_lists h (Call.Tick time) = begun_lists (recorded_to h time 0) (tick_at time)
after_lists h Call.Close =
    ended_lists (recorded_to h h.monitor.clock 1) (held_rows h.monitor) (close_at h.monitor.clock) (next_number h)

pub lists_stay : (h : Lent) (r : Request) → SameLists h (leaves h r)
lists_stay h (asks call) =
    split (ltb 0 (refusal_in h call)) (λ b. SameLists h (cond b h (left_after h call))) (λ _. refl) (λ _. after_lists h call)
lists_stay h withdraws =
    split (ltb 0 h.monitor.undo.may) (λ b. SameLists h (cond b (withdrawn_lent h) h))
    (λ _. backed_lists h (held_rows h.monitor) h.monitor.count) (λ _. refl)
