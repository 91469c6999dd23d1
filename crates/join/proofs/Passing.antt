-- A record that is taken adds its kind to those marked, and the first one of a kind to avoid is kept.
use Rattle.std.specs.Prelude.{Option, Some, None, Ok}
use Rattle.join.proofs.Names.{After, Bool, Call, Clock, FirstOf, Found, Judged, List, Marks, ReadUpTo, ReadsInOrder}
use Rattle.join.proofs.Names.{CallRead, Passes, RefusesRecord, Step, TakesRecord, get_or, is_marked, marked_with}
use Rattle.join.proofs.Names.{Taken, VersionKnown, [], ◌++◌, ◌+◌, ◌<◌, ◌||◌, ◌∙◌, ◌∷◌, ◌≡◌, ◌≤◌, among, ap}
use Rattle.join.proofs.Names.{append-nil, arith, both, call_at, call_kind, close, either_true, eq-eqb, eqb, eqb-false, eqb-true}
use Rattle.join.proofs.Names.{event}
use Rattle.join.proofs.Names.{Ticks, more_ticks, no_tick}
use Rattle.join.proofs.Names.{false, first_common, get_or-replicate, get_or-set_other, get_or-set_same, here, judged_all, kind_of, kinds_of}
use Rattle.join.proofs.Names.{last_kind, later, length, length-replicate, length-set, length_at, lt-ltb, ne_eqb, of_kinds, plain_kind}
use Rattle.join.proofs.Names.{questions}
use Rattle.join.proofs.Names.{record_questions, recording_refused, refl, replicate, set, split, step_for, stream}
use Rattle.join.proofs.Names.{stream_kind, subst, sym, tick, true, up_to_end, up_to_more, up_to_refused, up_to_start, ℕ}

-- ---- one more of some kinds

among_last : (k : ℕ) (ks : List ℕ) → among k (ks ++ (k ∷ [])) ≡ true
among_last k [] = rw (eq-eqb k k refl)
among_last k (j ∷ ks) = rw (among_last k ks) (either_true (eqb k j))

among_others : (j k : ℕ) (ks : List ℕ) → ¬ (j ≡ k) → among j (ks ++ (k ∷ [])) ≡ among j ks
among_others j k [] h = rw (ne_eqb j k h)
among_others j k (i ∷ ks) h = ap (λ (x : Bool). eqb j i || x) (among_others j k ks h)

among_still : (j k : ℕ) (ks : List ℕ) → among j ks ≡ true → among j (ks ++ (k ∷ [])) ≡ true
among_still j k ks e =
    split (eqb j k) (λ x. among j (ks ++ (k ∷ [])) ≡ true)
    (λ s. subst (λ (i : ℕ). among j (ks ++ (i ∷ [])) ≡ true) (eqb-true j k s) (among_last j ks))
    (λ o. among_others j k ks (eqb-false j k o) ∙ e)

pub kinds_append : (a b : List Step) → kinds_of (a ++ b) ≡ kinds_of a ++ kinds_of b
kinds_append [] b = refl
kinds_append (event s t ∷ a) b = ap (λ (l : List ℕ). kind_of s ∷ l) (kinds_append a b)
kinds_append (tick t ∷ a) b = kinds_append a b
kinds_append (close ∷ a) b = kinds_append a b

-- ---- the kind of a call that is taken

-- an event of that kind; or the call has none
abbrev KindIs : Step → Option ℕ → Type 0
KindIs s (Some k) = (kinds_of (s ∷ []) ≡ k ∷ []) × (k < 64) × ((ks : List ℕ) → of_kinds ks s ≡ among k ks)
KindIs s None = (kinds_of (s ∷ []) ≡ []) × ((ks : List ℕ) → of_kinds ks s ≡ false)

event_kind : (s k t : ℕ) → kind_of s ≡ k → k ≤ last_kind → KindIs (event s t) (Some k)
event_kind s k t e h = (ap (λ (x : ℕ). x ∷ []) e, omega arith, λ ks. ap (λ (x : ℕ). among x ks) e)

call_kind_lem : (steps : List Step) (call : Call) → Judged (questions [] steps call) Taken → KindIs (step_for call) (call_kind call)
unfolding questions
call_kind_lem steps (Call.Event k t) j =
    let nine = judged_all 9 _ _ (judged_all 24 _ _ (judged_all 8 _ _ j).1).1 in
    event_kind k k t (plain_kind k (judged_all 19 _ _ nine.1).0) nine.0
call_kind_lem steps (Call.ColouredEvent k c t) j =
    let nine = judged_all 9 _ _ (judged_all 24 _ _ (judged_all 8 _ _ j).1).1 in
    let coloured = (judged_all 19 _ _ nine.1).0 in
    event_kind (stream k c) k t (stream_kind k c coloured.0 coloured.1) nine.0
call_kind_lem steps (Call.Tick t) j = (refl, λ ks. refl)
call_kind_lem steps Call.Close j = (refl, λ ks. refl)

-- ---- the marks

pub marks_none : Marks (replicate 64 false) []
marks_none = record { each = λ k h. get_or-replicate 64 k false false h; size = length-replicate {A = Bool} 64 false }

marks_set : (marks : List Bool) (ks : List ℕ) (k : ℕ) → k < 64 → Marks marks ks → Marks (set marks k true) (ks ++ (k ∷ []))
marks_set marks ks k h m =
    record {
      each = λ j small. split (eqb j k) (λ x. get_or (set marks k true) j false ≡ among j (ks ++ (k ∷ [])))
          (λ e. let same : k ≡ j = sym (eqb-true j k e) in
          subst (λ (i : ℕ). get_or (set marks k true) i false ≡ among i (ks ++ (k ∷ []))) same
          (get_or-set_same marks k true false (omega (arith, m.size, h)) ∙ sym (among_last k ks)))
          (λ e. get_or-set_other marks k j true false (eqb-false j k e) ∙ m.each j small ∙ sym (among_others j k ks (eqb-false j k e)));
      size = length-set marks k true ∙ m.size;
    }

marks_more : (marks : List Bool) (steps : List Step) (s : Step) (k : Option ℕ) → KindIs s k → Marks marks (kinds_of steps)
    → Marks (marked_with marks k) (kinds_of (steps ++ (s ∷ [])))
marks_more marks steps s (Some k) (e, h, of) m =
    rw (lt-ltb k 64 h)
    (subst (Marks (set marks k true)) (sym (kinds_append steps (s ∷ []) ∙ ap (λ (l : List ℕ). kinds_of steps ++ l) e))
    (marks_set marks (kinds_of steps) k h m))
marks_more marks steps s None (e, of) m =
    subst (Marks marks) (sym (kinds_append steps (s ∷ []) ∙ ap (λ (l : List ℕ). kinds_of steps ++ l) e ∙ append-nil (kinds_of steps))) m

-- the test of a mark
marked_as : (marks : List Bool) (ks : List ℕ) (s : Step) (k : Option ℕ) → KindIs s k → Marks marks ks → is_marked marks k ≡ of_kinds ks s
marked_as marks ks s (Some k) (e, h, of) m = rw (lt-ltb k 64 h, m.each k h) (sym (of ks))
marked_as marks ks s None (e, of) m = sym (of ks)

-- ---- the search

-- before a place: none so far, and what is found from there on is found from the start; or found
abbrev Search : List ℕ → List ℕ → ℕ → List Step → Option ℕ → Type 0
Search ks bytes place steps None = ((k : ℕ) → among k ks ≡ true → among k (kinds_of steps) ≡ false)
    × ((found : ℕ) → FirstOf ks bytes place found → FirstOf ks bytes 1 found)
Search ks bytes place steps (Some common) = FirstOf ks bytes 1 common × ((k : ℕ) × (among k ks ≡ true) × (among k (kinds_of steps) ≡ true))

module _ (ks bytes : List ℕ) (place : ℕ) (steps : List Step) (s : Step)
    (at_place : s ≡ step_for (call_at bytes place)) (within : place < length bytes) where
  all_kinds : (j : ℕ) → among j (kinds_of (steps ++ (s ∷ []))) ≡ among j (kinds_of steps ++ kinds_of (s ∷ []))
  all_kinds j = ap (among j) (kinds_append steps (s ∷ []))

  still : (k : Option ℕ) → KindIs s k → (j : ℕ) → among j (kinds_of steps) ≡ true → among j (kinds_of (steps ++ (s ∷ []))) ≡ true
  still (Some k) (f, h, of) j e = all_kinds j ∙ rw f (among_still j k (kinds_of steps) e)
  still None (f, of) j e = all_kinds j ∙ rw f (rw (append-nil (kinds_of steps)) e)

  hit : (k : Option ℕ) → KindIs s k → of_kinds ks s ≡ true
      → (j : ℕ) × (among j ks ≡ true) × (among j (kinds_of (steps ++ (s ∷ []))) ≡ true)
  hit (Some k) (f, h, of) e = (k, sym (of ks) ∙ e, all_kinds k ∙ rw f (among_last k (kinds_of steps)))
  hit None (f, of) e = both (sym e ∙ of ks)

  miss : (k : Option ℕ) → KindIs s k → of_kinds ks s ≡ false → ((j : ℕ) → among j ks ≡ true → among j (kinds_of steps) ≡ false)
      → (j : ℕ) → among j ks ≡ true → among j (kinds_of (steps ++ (s ∷ []))) ≡ false
  miss (Some k) (f, h, of) e before j t =
      all_kinds j
      ∙ rw f (among_others j k (kinds_of steps) (λ same. both (sym t ∙ ap (λ (x : ℕ). among x ks) same ∙ sym (of ks) ∙ e)) ∙ before j t)
  miss None (f, of) e before j t = all_kinds j ∙ rw f (rw (append-nil (kinds_of steps)) (before j t))

  search_more : (k : Option ℕ) → KindIs s k → (common : Option ℕ) → Search ks bytes place steps common → (avoided : Bool)
      → avoided ≡ of_kinds ks s → Search ks bytes (place + 2 + length_at bytes place) (steps ++ (s ∷ [])) (first_common common avoided place)
  search_more k is (Some common) (first, (j, there, seen)) avoided e = (first, (j, there, still k is j seen))
  search_more k is None (none, on) true e = (on place (here within (ap (of_kinds ks) (sym at_place) ∙ sym e)), hit k is (sym e))
  search_more k is None (none, on) false e = (
    miss k is (sym e) none,
    λ found first. on found (later within (ap (of_kinds ks) (sym at_place) ∙ sym e) first),
  )

-- ---- the pass

-- the records before a place are read, their kinds are marked, and the search has come to the place
pub record PassedTo (bytes : List ℕ) (avoid : List Bool) (o : Clock) (kinds : List Bool) (common : Option ℕ) (place : ℕ) : Type 0 where
  pub steps : List Step
  pub read : ReadUpTo bytes place steps o
  pub marks : Marks kinds (kinds_of steps)
  pub search : (ks : List ℕ) → Marks avoid ks → Search ks bytes place steps common

module _ (bytes : List ℕ) (avoid : List Bool) where
  pub pass_start : VersionKnown bytes → (o : Clock) → After [] o → PassedTo bytes avoid o (replicate 64 false) None 1
  pass_start known o start =
      record {
        steps = [];
        read = up_to_start bytes known o start;
        marks = marks_none;
        search = λ ks m. (λ k e. refl, λ found first. first);
      }

  module _ (o : Clock) (kinds : List Bool) (common : Option ℕ) (place : ℕ) (before : PassedTo bytes avoid o kinds common place) where
    module _ (there : place < length bytes) where
      pub pass_more : (r : CallRead) (after : Clock) → TakesRecord bytes place r o after → (kind : Option ℕ) → kind ≡ call_kind r.call
          → PassedTo bytes avoid after (marked_with kinds kind) (first_common common (is_marked avoid kind) place) r.next
      unfolding record_questions
      pass_more r after next kind kind_is =
          let taken = next.taken before.steps before.read.after in
          let asked = subst (λ (x : Call). Judged (questions [] before.steps x) Taken) next.call_is (judged_all 14 _ _ taken.0).1 in
          let is : KindIs (step_for r.call) kind = subst (KindIs (step_for r.call)) (sym kind_is) (call_kind_lem before.steps r.call asked) in
          record {
            steps = before.steps ++ (step_for r.call ∷ []);
            read = up_to_more bytes place before.steps o before.read r.call r.next after there next.call_is next.next_is.0 taken.0 taken.1;
            marks = marks_more kinds before.steps (step_for r.call) kind is before.marks;
            search = λ ks m.
                subst (λ (n : ℕ). Search ks bytes n (before.steps ++ (step_for r.call ∷ [])) (first_common common (is_marked avoid kind) place))
                (sym next.next_is.0)
                (search_more ks bytes place before.steps (step_for r.call) (ap step_for (sym next.call_is)) there kind is common (before.search ks m)
                (is_marked avoid kind) (marked_as avoid ks (step_for r.call) kind is m));
          }

      pub pass_refused : (n : ℕ) (after : Clock) → RefusesRecord bytes place n o after → ReadsInOrder bytes (recording_refused n place)
      pass_refused n after next =
          up_to_refused bytes place before.steps o before.read n there (next.refused before.steps before.read.after)

    pub pass_end : length bytes ≤ place → Passes bytes avoid (Ok (record { kinds = kinds; common = common }))
    pass_end end = (
      before.steps,
      up_to_end bytes place before.steps o before.read end,
      before.marks,
      λ ks m. found before.steps ks common (before.search ks m),
    )
      where
        found : (steps : List Step) (ks : List ℕ) (n : Option ℕ) → Search ks bytes place steps n → Found ks bytes steps n
        found steps ks None (none, on) = none
        found steps ks (Some place) hit = hit

stays : (n : Option ℕ) (place : ℕ) → first_common n false place ≡ n
stays None place = refl
stays (Some found) place = refl

-- ticks have no kind
pub pass_ticks : (bytes : List ℕ) (avoid kinds : List Bool) (common : Option ℕ) {place to : ℕ} {o o' : Clock} → Ticks bytes place o to o'
    → PassedTo bytes avoid o kinds common place → PassedTo bytes avoid o' kinds common to
pass_ticks bytes avoid kinds common no_tick before = before
pass_ticks bytes avoid kinds common (more_ticks {before = at_tick} {now = now} t r o' ticks next is) before =
    subst (λ (n : Option ℕ). PassedTo bytes avoid o' kinds n r.next) (stays common at_tick)
    (pass_more bytes avoid now kinds common at_tick (pass_ticks bytes avoid kinds common ticks before) (omega (arith, next.there.0.0)) r o' next
    None (sym (ap call_kind is)))
