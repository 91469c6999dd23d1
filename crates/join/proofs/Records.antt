-- A recording that is read gives its records one after the other, and each is a step that could be taken after those before it.
use Rattle.join.proofs.Names.{Accepts, Bool, Call, Judged, List, ReadsInOrder, ReadsRecords, Records, Step, Taken, Valid, VersionKnown, []}
use Rattle.join.proofs.Names.{◌%◌, ◌++◌, ◌+◌, ◌-◌, ◌/◌, ◌<◌, ◌∙◌, ◌∷◌, ◌≡◌, ◌≤◌, accepts_taken, append-nil, append_snoc, arith, at, body_at}
use Rattle.join.proofs.Names.{call_at, call_bytes, call_of, clock, clock_event, clock_tick, clock_from, close, colour_in, cond, eq-eqb, eqb}
use Rattle.join.proofs.Names.{event}
use Rattle.join.proofs.Names.{false, first_coloured, judged_all, last_colour, last_time, le-ltb, length, length_at, lt-ltb, more, no_more}
use Rattle.join.proofs.Names.{none, number_at}
use Rattle.join.proofs.Names.{questions, record_taken, record_questions, recording_of, refl, step_bytes, step_for, stream, subst, sym, tick}
use Rattle.join.proofs.Names.{time_of, true, valid_more, valid_none, version_taken, ℕ}
use Rattle.join.proofs.Merging.{Comes, Fits, Line, Strict}

-- ---- what a record that is taken holds

module _ (version : ℕ) (steps : List Step) where
  fits_plain : (k t : ℕ) → Judged (questions [] steps (Call.Event k t)) Taken → Fits version (event k t)
  unfolding questions
  fits_plain k t j =
      let a = accepts_taken [] steps (Call.Event k t) j in
      (a.stream_small, a.time_small, λ one. (judged_all 19 _ _ (judged_all 9 _ _ (judged_all 24 _ _ (judged_all 8 _ _ j).1).1).1).0)

  fits_coloured : (k c t : ℕ) → Judged (questions [] steps (Call.ColouredEvent k (colour_in version c) t)) Taken
      → Fits version (event (stream k (colour_in version c)) t)
  unfolding questions
  fits_coloured k c t j =
      let a = accepts_taken [] steps (Call.ColouredEvent k (colour_in version c) t) j in
      let few : colour_in version c ≤ last_colour = (judged_all 19 _ _ (judged_all 9 _ _ (judged_all 24 _ _ (judged_all 8 _ _ j).1).1).1).0.1 in
      (a.stream_small, a.time_small, λ one. absurd (no_colour few one))
    where
      no_colour : colour_in version c ≤ last_colour → version ≡ 1 → ⊥
      no_colour few one = let h : 255 ≤ last_colour = rw (eq-eqb version 1 one) at few in omega (arith, h)

  fits_tick : (t : ℕ) → Judged (questions [] steps (Call.Tick t)) Taken → Fits version (tick t)
  fits_tick t j = (accepts_taken [] steps (Call.Tick t) j).time_small

  fits_call : (body : List ℕ) → Judged (questions [] steps (call_of version body)) Taken → Fits version (step_for (call_of version body))
  fits_call body = go (eqb (length body) 9) (eqb (length body) 10)
    where
      plain : Call
      plain = Call.Event (at body 0) (number_at 8 body 1)

      coloured : Call
      coloured = Call.ColouredEvent (at body 0) (colour_in version (at body 1)) (number_at 8 body 2)

      go : (nine ten : Bool) → Judged (questions [] steps (cond nine plain (cond ten coloured (Call.Tick (number_at 8 body 0))))) Taken
          → Fits version (step_for (cond nine plain (cond ten coloured (Call.Tick (number_at 8 body 0)))))
      go true ten j = fits_plain (at body 0) (number_at 8 body 1) j
      go false true j = fits_coloured (at body 0) (at body 1) (number_at 8 body 2) j
      go false false j = fits_tick (number_at 8 body 0) j

  -- it is no earlier than the clock, and the clock is at its time then
  in_time : (s : Step) → Fits version s → Accepts steps s → (clock steps ≤ time_of s) × Comes (clock steps) s
      × (clock (steps ++ (s ∷ [])) ≡ time_of s)
  in_time (event s t) fits a = (a.in_order.0, a.in_order.0, clock_event s t steps)
  in_time (tick t) fits a = (omega (arith, a.later), a.later, clock_tick t steps)
  in_time close fits a = absurd fits

  small : (s : Step) → Fits version s → time_of s ≤ last_time
  small (event s t) fits = fits.1
  small (tick t) fits = fits
  small close fits = absurd fits

-- its bytes are those of its step
bytes_plain : (k t : ℕ) → k < first_coloured → call_bytes (Call.Event k t) ≡ step_bytes (event k t)
unfolding step_bytes
bytes_plain k t h = rw (lt-ltb k first_coloured h)

bytes_coloured : (k c t : ℕ) → first_coloured ≤ k → c ≤ last_colour → call_bytes (Call.ColouredEvent k c t) ≡ step_bytes (event (stream k c) t)
unfolding step_bytes
bytes_coloured k c t h few =
    let kind : first_coloured + (stream k c - first_coloured) / 8 ≡ k = omega arith in
    let colour : (stream k c - first_coloured) % 8 ≡ c = omega arith in
    sym (rw (le-ltb (stream k c) first_coloured (omega arith)) (rw (kind, colour)))

bytes_call : (steps : List Step) (call : Call) → Judged (questions [] steps call) Taken → call_bytes call ≡ step_bytes (step_for call)
unfolding questions step_bytes
bytes_call steps (Call.Event k t) j = bytes_plain k t (judged_all 19 _ _ (judged_all 9 _ _ (judged_all 24 _ _ (judged_all 8 _ _ j).1).1).1).0
bytes_call steps (Call.ColouredEvent k c t) j =
    let asked = (judged_all 19 _ _ (judged_all 9 _ _ (judged_all 24 _ _ (judged_all 8 _ _ j).1).1).1).0 in
    bytes_coloured k c t asked.0 asked.1
bytes_call steps (Call.Tick t) j = refl
bytes_call steps Call.Close j = refl

-- ---- the records from a place on

-- what is known where all is read from a place on, over the steps before it
pub record Chain (bytes : List ℕ) (before : List Step) (place : ℕ) (all : List Step) : Type 0 where
  pub rest : List Step
  pub is : all ≡ before ++ rest
  pub records : Records bytes place rest
  pub line : Line (at bytes 0) (clock before) rest
  pub strict : Strict (clock before) rest
  pub valid : Valid all

module _ (bytes : List ℕ) where
  chain_more : (before : List Step) (place : ℕ) (all : List Step) → place < length bytes → Valid before
      → Judged (record_questions [] before bytes place) Taken
      → (Valid (before ++ (step_for (call_at bytes place) ∷ []))
      → Chain bytes (before ++ (step_for (call_at bytes place) ∷ [])) (place + 2 + length_at bytes place) all)
      → Chain bytes before place all
  unfolding record_questions
  chain_more before place all there v judged later =
      let s = step_for (call_at bytes place) in
      let (whole, asked) = judged_all 14 _ _ judged in
      let fits : Fits (at bytes 0) s = fits_call (at bytes 0) before (body_at bytes place) asked in
      let accepts : Accepts before s = accepts_taken [] before (call_at bytes place) asked in
      let timed = in_time (at bytes 0) before s fits accepts in
      let c = later (valid_more s v accepts) in
      record {
        rest = s ∷ c.rest;
        is = c.is ∙ append_snoc before s c.rest;
        records = more there whole (bytes_call before (call_at bytes place) asked) (small (at bytes 0) before s fits) c.records;
        line = (timed.0, fits, subst (λ (n : ℕ). Line (at bytes 0) n c.rest) timed.2 c.line);
        strict = (timed.1, subst (λ (n : ℕ). Strict n c.rest) timed.2 c.strict);
        valid = c.valid;
      }

  chain : {before : List Step} {place : ℕ} {all : List Step} → ReadsRecords [] bytes before place (recording_of all) → Valid before
      → Chain bytes before place all
  chain {before} (no_more end) v = record { rest = []; is = sym (append-nil before); records = none end; line = tt; strict = tt; valid = v }
  chain {before} {place} {all} (record_taken there judged reads) v = chain_more before place all there v judged (λ w. chain reads w)

  -- a recording that is read: its version, its records, and their order
  pub record Whole (all : List Step) : Type 0 where
    pub known : VersionKnown bytes
    pub records : Records bytes 1 all
    pub line : Line (at bytes 0) 0 all
    pub strict : Strict 0 all
    pub valid : Valid all

  pub whole : (all : List Step) → ReadsInOrder bytes (recording_of all) → Whole all
  unfolding clock_from
  whole all (version_taken known reads) =
      let c = chain reads valid_none in
      record {
        known = known;
        records = subst (Records bytes 1) (sym c.is) c.records;
        line = subst (Line (at bytes 0) 0) (sym c.is) c.line;
        strict = subst (Strict 0) (sym c.is) c.strict;
        valid = c.valid;
      }
