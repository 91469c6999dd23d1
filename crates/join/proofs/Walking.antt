-- Each turn of the walk takes the record that stands next in the merged list; what is left of it is stored behind what is left of those before it.
use Rattle.std.specs.Prelude.{Result, Ok, Err}
use Rattle.constraint.specs.Recording.{RecordAt}
use Rattle.join.proofs.Names.{both}
use Rattle.join.proofs.Names.{Behind, Bool, Call, CallAt, CallRead, Head, HeadAt, KeepsWithin, List, Next, Nexts, ReadsCall, RecordSize}
use Rattle.join.proofs.Names.{Part, Records, Refusal, Step, call_read, is_kept}
use Rattle.join.proofs.Names.{[], ◌++◌, ◌+◌, ◌-◌, ◌<◌, ◌∙◌, ◌∷◌, ◌≡◌, ◌≤◌, ap, append_assoc, append-nil, arith, call_bytes, cond}
use Rattle.join.proofs.Names.{false, head_for, is_dropped, joined, joined_bytes, last_time, le-leb, leb, left_bytes, left_clock, length}
use Rattle.join.proofs.Names.{length-append, lt-leb, merged, more, none, refl, sets, split, step_bytes, step_for, steps_bytes}
use Rattle.join.proofs.Names.{subst, sym, time_of, true, undropped, ℕ}
use Rattle.join.proofs.{Bytes.bytes_append, Heads.call_next, Heads.keeps_left, Heads.keeps_short, Heads.stored_behind, Heads.time_is}
use Rattle.join.proofs.{Heads.whole_size}

-- ---- the record at a place

-- whether one was read
abbrev pub is_read : Result CallRead Refusal → Bool
is_read (Ok r) = true
is_read (Err refusal) = false

-- the place behind it
abbrev next_of : Result CallRead Refusal → ℕ
next_of (Ok r) = r.next
next_of (Err refusal) = 0

found_lem : (bytes : List ℕ) (place : ℕ) (r : Result CallRead Refusal) → ReadsCall bytes place r → is_read r ≡ true
    → CallAt bytes place (call_read r) (next_of r)
found_lem bytes place (Ok r) read e = read
found_lem bytes place (Err refusal) refused e = both (sym e)

unread_lem : (bytes : List ℕ) (place : ℕ) (r : Result CallRead Refusal) → ReadsCall bytes place r → is_read r ≡ false
    → (¬ RecordAt bytes place) × (call_read r ≡ Call.Close)
unread_lem bytes place (Ok r) read e = both e
unread_lem bytes place (Err refusal) refused e = (refused.0, refl)

module _ (bytes : List ℕ) (place : ℕ) (r : Result CallRead Refusal) (reads : ReadsCall bytes place r) where
  found : is_read r ≡ true → CallAt bytes place (call_read r) (next_of r)
  found = found_lem bytes place r reads

  unread : is_read r ≡ false → (¬ RecordAt bytes place) × (call_read r ≡ Call.Close)
  unread = unread_lem bytes place r reads

  -- where there is one, it is the first of the records from there on
  record First (steps : List Step) : Type 0 where
    pub rest : List Step
    pub is : steps ≡ step_for (call_read r) ∷ rest
    pub records : Records bytes (next_of r) rest
    pub same : call_bytes (call_read r) ≡ step_bytes (step_for (call_read r))
    pub soon : time_of (step_for (call_read r)) ≤ last_time

  head_first : (steps : List Step) → is_read r ≡ true → Records bytes place steps → First steps
  head_first steps e (none end) = absurd (omega (arith, (found e).there.0.0, end))
  head_first steps e (more {rest = rest} there whole same soon records) =
      record {
        rest = rest;
        is = ap (λ (c : Call). step_for c ∷ rest) (found e).call_read;
        records = subst (λ (n : ℕ). Records bytes n rest) (sym (found e).next_read) records;
        same = subst (λ (c : Call). call_bytes c ≡ step_bytes (step_for c)) (found e).call_read same;
        soon = subst (λ (c : Call). time_of (step_for c) ≤ last_time) (found e).call_read soon;
      }

  head_ends : (steps : List Step) → is_read r ≡ false → Records bytes place steps → steps ≡ []
  head_ends steps e (none end) = refl
  head_ends steps e (more there whole same soon records) = absurd ((unread e).0 whole)

  -- its head says how many bytes it has, and that there is none where none was read
  head_next : is_read r ≡ true
      → (next_of r ≡ place + (head_for (call_read r)).size) × RecordSize (head_for (call_read r)) × (next_of r ≤ length bytes)
  head_next e = call_next bytes place (call_read r) (next_of r) (found e)

  no_size : is_read r ≡ false → (head_for (call_read r)).size ≡ 0
  no_size e = ap (λ (c : Call). (head_for c).size) (unread e).1

  no_time : is_read r ≡ false → (head_for (call_read r)).time ≡ 18446744073709551615
  no_time e = ap (λ (c : Call). (head_for c).time) (unread e).1

  head_read : 0 < (head_for (call_read r)).size → is_read r ≡ true
  head_read h = split (is_read r) (λ x. x ≡ true) (λ e. refl) (λ e. absurd (omega (arith, h, no_size e)))

  head_none : (head_for (call_read r)).size ≡ 0 → is_read r ≡ false
  head_none h = split (is_read r) (λ x. x ≡ false) (λ e. absurd (omega (arith, h, (head_next e).1.0))) (λ e. refl)

  head_time : is_read r ≡ true → (head_for (call_read r)).time ≡ time_of (step_for (call_read r))
  head_time e = time_is (call_read r) (omega (arith, (head_next e).1.0))

  head_less : is_read r ≡ true → length bytes - (place + (head_for (call_read r)).size) < length bytes - place
  head_less e = let next = head_next e in omega (arith, next.0, next.1.0, next.2)

-- ---- the record that comes next

merged_none : (first : List Step) → merged first [] ≡ first
unfolding merged
merged_none [] = refl
merged_none (a ∷ first) = refl

merged_first : (a : Step) (first : List Step) (b : Step) (second : List Step) → leb (time_of a) (time_of b) ≡ true
    → merged (a ∷ first) (b ∷ second) ≡ a ∷ merged first (b ∷ second)
unfolding merged
merged_first a first b second e = rw e

merged_second : (a : Step) (first : List Step) (b : Step) (second : List Step) → leb (time_of a) (time_of b) ≡ false
    → merged (a ∷ first) (b ∷ second) ≡ b ∷ merged (a ∷ first) second
unfolding merged
merged_second a first b second e = rw e

merged_only : (a : Step) (first : List Step) → merged (a ∷ first) [] ≡ a ∷ merged first []
unfolding merged
merged_only a first = ap (λ (l : List Step). a ∷ l) (sym (merged_none first))

merged_other : (second : List Step) → merged [] second ≡ second
unfolding merged
merged_other second = refl

module _ (one two : List ℕ) (place other : ℕ) (a b : Result CallRead Refusal) (heads : ReadsCall one place a) (others : ReadsCall two other b) where
  module _ (there : is_read a ≡ true)
      (comes : is_read b ≡ true → leb (time_of (step_for (call_read a))) (time_of (step_for (call_read b))) ≡ true) where
    taken_first : (rest second : List Step) → Records two other second → merged (step_for (call_read a) ∷ rest) second ≡ step_for (call_read a)
        ∷ merged rest second
    taken_first rest second records =
        split (is_read b) (λ x. merged (step_for (call_read a) ∷ rest) second ≡ step_for (call_read a) ∷ merged rest second)
        (λ e. let f = head_first two other b others second e records in
        subst (λ (l : List Step). merged (step_for (call_read a) ∷ rest) l ≡ step_for (call_read a) ∷ merged rest l) (sym f.is)
        (merged_first (step_for (call_read a)) rest (step_for (call_read b)) f.rest (comes e)))
        (λ e. subst (λ (l : List Step). merged (step_for (call_read a) ∷ rest) l ≡ step_for (call_read a) ∷ merged rest l)
        (sym (head_ends two other b others second e records))
        (merged_only (step_for (call_read a)) rest))

  module _ (comes : is_read a ≡ true → (is_read b ≡ true) × (leb (time_of (step_for (call_read a))) (time_of (step_for (call_read b))) ≡ false)) where
    taken_second : (first rest : List Step) → Records one place first → merged first (step_for (call_read b) ∷ rest) ≡ step_for (call_read b)
        ∷ merged first rest
    taken_second first rest records =
        split (is_read a) (λ x. merged first (step_for (call_read b) ∷ rest) ≡ step_for (call_read b) ∷ merged first rest)
        (λ e. let f = head_first one place a heads first e records in
        subst (λ (l : List Step). merged l (step_for (call_read b) ∷ rest) ≡ step_for (call_read b) ∷ merged l rest) (sym f.is)
        (merged_second (step_for (call_read a)) f.rest (step_for (call_read b)) rest (comes e).1))
        (λ e. subst (λ (l : List Step). merged l (step_for (call_read b) ∷ rest) ≡ step_for (call_read b) ∷ merged l rest)
        (sym (head_ends one place a heads first e records))
        (merged_other (step_for (call_read b) ∷ rest) ∙ ap (λ (l : List Step). step_for (call_read b) ∷ l) (sym (merged_other rest))))

  -- §13.1
  pub next_first : (head_for (call_read a)).time ≤ (head_for (call_read b)).time
      → Nexts one two place other (record { head = head_for (call_read a); first = place + (head_for (call_read a)).size; second = other })
  next_first in_order =
      record {
        call = call_read a;
        head_is = refl;
        there = λ h first second records more_records.
            let e = head_read one place a heads h in let f = head_first one place a heads first e records in
            record {
              rest = f.rest;
              other = second;
              is = ap (λ (l : List Step). merged l second) f.is ∙ taken_first e (λ t. comes e t) f.rest second more_records;
              records = subst (λ (n : ℕ). Records one n f.rest) (head_next one place a heads e).0 f.records;
              others = more_records;
              bytes = f.same;
            };
        ends = λ h first second records more_records.
            ap (λ (l : List Step). merged l second) (head_ends one place a heads first (head_none one place a heads h) records) ∙ merged_other second
            ∙ head_ends two other b others second (no_other h second more_records) more_records;
        less = λ h. omega (arith, head_less one place a heads (head_read one place a heads h));
      }
    where
      comes : is_read a ≡ true → is_read b ≡ true → leb (time_of (step_for (call_read a))) (time_of (step_for (call_read b))) ≡ true
      comes e t =
          le-leb (time_of (step_for (call_read a))) (time_of (step_for (call_read b)))
          (omega (arith, in_order, head_time one place a heads e, head_time two other b others t))

      -- no record is as late as none
      no_other : (head_for (call_read a)).size ≡ 0 → (second : List Step) → Records two other second → is_read b ≡ false
      no_other h second records =
          split (is_read b) (λ x. x ≡ false)
          (λ t. absurd (omega (
            arith,
            in_order,
            no_time one place a heads (head_none one place a heads h),
            head_time two other b others t,
            (head_first two other b others second t records).soon,
          )))
          (λ t. refl)

  -- §13.1
  pub next_second : (head_for (call_read b)).time < (head_for (call_read a)).time
      → Nexts one two place other (record { head = head_for (call_read b); first = place; second = other + (head_for (call_read b)).size })
  next_second earlier =
      record {
        call = call_read b;
        head_is = refl;
        there = λ h first second records more_records.
            let t = head_read two other b others h in let f = head_first two other b others second t more_records in
            record {
              rest = first;
              other = f.rest;
              is = ap (λ (l : List Step). merged first l) f.is ∙ taken_second (λ e. (t, comes e t)) first f.rest records;
              records = records;
              others = subst (λ (n : ℕ). Records two n f.rest) (head_next two other b others t).0 f.records;
              bytes = f.same;
            };
        ends = λ h first second records more_records. absurd (not_none h first records);
        less = λ h. omega (arith, head_less two other b others (head_read two other b others h));
      }
    where
      comes : is_read a ≡ true → is_read b ≡ true → leb (time_of (step_for (call_read a))) (time_of (step_for (call_read b))) ≡ false
      comes e t =
          lt-leb (time_of (step_for (call_read a))) (time_of (step_for (call_read b)))
          (omega (arith, earlier, head_time one place a heads e, head_time two other b others t))

      -- nothing is later than none
      not_none : (head_for (call_read b)).size ≡ 0 → (first : List Step) → Records one place first → ⊥
      not_none h first records =
          let late = no_time two other b others (head_none two other b others h) in
          split (is_read a) (λ x. ⊥)
          (λ e. omega (arith, earlier, late, head_time one place a heads e, (head_first one place a heads first e records).soon))
          (λ e. omega (arith, earlier, late, no_time one place a heads e))

-- the same by heads
module _ (one two : List ℕ) (place other : ℕ) (a b : Head) where
  pub comes_first : HeadAt one place a → HeadAt two other b → a.time ≤ b.time
      → Nexts one two place other (record { head = a; first = place + a.size; second = other })
  comes_first (ra, heads, ea) (rb, others, eb) in_order =
      subst (λ (h : Head). Nexts one two place other (record { head = h; first = place + h.size; second = other })) (sym ea)
      (next_first one two place other ra rb heads others
      (omega (arith, in_order, ap (λ (h : Head). h.time) ea, ap (λ (h : Head). h.time) eb)))

  pub comes_second : HeadAt one place a → HeadAt two other b → b.time < a.time
      → Nexts one two place other (record { head = b; first = place; second = other + b.size })
  comes_second (ra, heads, ea) (rb, others, eb) earlier =
      subst (λ (h : Head). Nexts one two place other (record { head = h; first = place; second = other + h.size })) (sym eb)
      (next_second one two place other ra rb heads others
      (omega (arith, earlier, ap (λ (h : Head). h.time) ea, ap (λ (h : Head). h.time) eb)))

-- a record ends within its recording, so the place behind it can be counted
pub head_fits : (bytes : List ℕ) (place : ℕ) (h : Head) (last : ℕ) → HeadAt bytes place h → length bytes ≤ last → place ≤ last
    → place + h.size ≤ last
head_fits bytes place h last (r, reads, e) few low =
    let size : h.size ≡ (head_for (call_read r)).size = ap (λ (x : Head). x.size) e in
    split (is_read r) (λ x. place + h.size ≤ last)
    (λ t. let next = head_next bytes place r reads t in omega (arith, size, next.0, next.2, few))
    (λ f. omega (arith, size, no_size bytes place r reads f, low))

-- the next one is whole
pub next_whole : (one two : List ℕ) (place other : ℕ) (r : Next) → Nexts one two place other r → 0 < r.head.size → RecordSize r.head
next_whole one two place other r nexts there =
    let size : r.head.size ≡ (head_for nexts.call).size = ap (λ (x : Head). x.size) nexts.head_is in
    let whole = whole_size nexts.call (omega (arith, size, there)) in
    (omega (arith, size, whole.0), omega (arith, size, whole.1))

-- ---- what is left of a record

-- a step, or nothing where it is dropped
abbrev left_of : ℕ → Step → List Step
left_of now s = cond (is_dropped now s) [] (s ∷ [])

left_more : (now : ℕ) (call : Call) (steps : List Step) → undropped now (step_for call ∷ steps) ≡ left_of now (step_for call)
    ++ undropped (left_clock now call) steps
unfolding undropped
left_more now call steps =
    split (is_dropped now (step_for call))
    (λ x. cond x (undropped now steps) (step_for call ∷ undropped (time_of (step_for call)) steps) ≡ cond x [] (step_for call ∷ [])
    ++ undropped (cond x now (time_of (step_for call))) steps)
    (λ e. refl) (λ e. refl)

left_same : (now : ℕ) (call : Call) → call_bytes call ≡ step_bytes (step_for call) → steps_bytes (left_of now (step_for call)) ≡ left_bytes now call
unfolding steps_bytes
left_same now call same =
    split (is_dropped now (step_for call)) (λ x. steps_bytes (cond x [] (step_for call ∷ [])) ≡ cond x [] (call_bytes call))
    (λ e. refl) (λ e. append-nil (step_bytes (step_for call)) ∙ sym same)

-- ---- the walk

module _ (one two before : List ℕ) (limit : ℕ) where
  -- after some turns: what is left of the records so far is stored behind the version, unless the buffer is too short, and this is the rest
  pub record Walking (place other clock size : ℕ) (buffer : List ℕ) (first second : List Step) : Type 0 where
    pub rest : List Step
    pub other_rest : List Step
    pub done : List Step
    pub records : Records one place rest
    pub others : Records two other other_rest
    pub is : joined first second ≡ done ++ undropped clock (merged rest other_rest)
    pub size_is : size ≡ 1 + length (steps_bytes done)
    pub stored : limit ≤ length before → buffer ≡ sets before 1 (steps_bytes done)

  pub walk_start : (first second : List Step) → Records one 1 first → Records two 1 second → Walking 1 1 0 1 before first second
  unfolding steps_bytes
  walk_start first second records others =
      record {
        rest = first;
        other_rest = second;
        done = [];
        records = records;
        others = others;
        is = refl;
        size_is = refl;
        stored = λ room. refl;
      }

  module _ (place other clock size : ℕ) (buffer : List ℕ) (first second : List Step) (w : Walking place other clock size buffer first second)
      (r : Next) (nexts : Nexts one two place other r) where
    pub walk_end : r.head.size ≡ 0 → (size ≡ length (joined_bytes one two first second))
        × (limit ≤ length before → buffer ≡ sets before 1 (steps_bytes (joined first second)))
    unfolding undropped
    walk_end e =
        let all : joined first second ≡ w.done = w.is ∙ ap (λ (l : List Step). w.done ++ undropped clock l)
        (nexts.ends e w.rest w.other_rest w.records w.others) ∙ append-nil w.done in (
          omega (arith, w.size_is, ap (λ (l : List Step). length (steps_bytes l)) all),
          λ room. w.stored room ∙ ap (λ (l : List Step). sets before 1 (steps_bytes l)) (sym all),
        )

    module _ (e : 0 < r.head.size) where
      call : Call
      call = nexts.call

      b : Behind one two w.rest w.other_rest call r
      unfolding call
      b = nexts.there e w.rest w.other_rest w.records w.others

      again : List Step
      again = w.done ++ left_of clock (step_for call)

      all_is : joined first second ≡ again ++ undropped (left_clock clock call) (merged b.rest b.other)
      unfolding again
      all_is =
          w.is ∙ ap (λ (l : List Step). w.done ++ undropped clock l) b.is
          ∙ ap (λ (l : List Step). w.done ++ l) (left_more clock call (merged b.rest b.other))
          ∙ sym (append_assoc w.done (left_of clock (step_for call)) (undropped (left_clock clock call) (merged b.rest b.other)))

      bytes_are : steps_bytes again ≡ steps_bytes w.done ++ left_bytes clock call
      unfolding again
      bytes_are =
          bytes_append w.done (left_of clock (step_for call))
          ∙ ap (λ (l : List ℕ). steps_bytes w.done ++ l) (left_same clock call b.bytes)

      size_more : 1 + length (steps_bytes again) ≡ size + length (left_bytes clock call)
      size_more = omega (arith, ap length bytes_are, length-append (steps_bytes w.done) (left_bytes clock call), w.size_is)

      positive : 0 < (head_for call).size
      unfolding call
      positive = subst (λ (h : Head). 0 < h.size) nexts.head_is e

      -- §13.2
      pub walk_more : (k : Part) (buffer' : List ℕ) → length buffer ≡ length before → KeepsWithin buffer size limit clock r.head k buffer'
          → Walking r.first r.second k.clock k.size buffer' first second
      unfolding call
      walk_more k buffer' long keeps =
          let keeps_call : KeepsWithin buffer size limit clock (head_for call) k buffer' =
          subst (λ (h : Head). KeepsWithin buffer size limit clock h k buffer') nexts.head_is keeps in
          let (s, c, stored) = keeps_left buffer size limit clock call positive k buffer' keeps_call in
          record {
            rest = b.rest;
            other_rest = b.other;
            done = again;
            records = b.records;
            others = b.others;
            is = all_is ∙ ap (λ (n : ℕ). again ++ undropped n (merged b.rest b.other)) (sym c);
            size_is = s ∙ sym size_more;
            stored = λ room.
                stored_behind before buffer buffer' 1 (length (steps_bytes w.done)) (steps_bytes w.done) (left_bytes clock call) refl
                (w.stored room)
                (stored (omega (arith, room, long)) ∙ ap (λ (n : ℕ). sets buffer n (left_bytes clock call)) w.size_is)
                ∙ ap (λ (l : List ℕ). sets before 1 l) (sym bytes_are);
          }

      pub walk_short : (is_kept clock r.head ≡ true) × (limit < size + r.head.size) → limit < length (joined_bytes one two first second)
      unfolding call
      walk_short past =
          let past_call : (is_kept clock (head_for call) ≡ true) × (limit < size + (head_for call).size) =
          subst (λ (h : Head). (is_kept clock h ≡ true) × (limit < size + h.size)) nexts.head_is past in
          let rest = undropped (left_clock clock call) (merged b.rest b.other) in
          let parts : steps_bytes (joined first second) ≡ steps_bytes again ++ steps_bytes rest = ap steps_bytes all_is ∙ bytes_append again rest in
          omega (
            arith,
            ap length parts,
            length-append (steps_bytes again) (steps_bytes rest),
            size_more,
            keeps_short buffer size limit clock call positive past_call,
          )
