-- A head says what its record says: how many bytes it has, whether it is kept, and what is stored.
use Rattle.std.specs.Prelude.{Ok}
use Rattle.std.specs.Int.{to_be_bytes, w64}
use borrow.Rule.Slice.PartMut.{put_mid}
use Rattle.constraint.proofs.Library.{append_assoc, drop-drop, sets-eq, take}
use Rattle.join.proofs.Names.{Call, CallAt, Head, HeadAt, KeepsWithin, Part, List, RecordSize, [], ◌++◌, ◌+◌, ◌-◌, ◌<◌, ◌∙◌}
use Rattle.join.proofs.Names.{◌∷◌}
use Rattle.join.proofs.Names.{◌≡◌, ◌≤◌, ap, arith, at, body_at, both, bytes_of, call_bytes, call_of, colour_in, cond, div-one, drop, eqb}
use Rattle.join.proofs.Names.{eqb-false}
use Rattle.join.proofs.Names.{eqb-true, head_bytes, head_for, head_front, is_dropped, is_kept, le-leb, le-ltb, leb, leb-false}
use Rattle.join.proofs.Names.{leb-true}
use Rattle.join.proofs.Names.{left_bytes, left_clock, length, length-drop, length-set, length-take-le, length_at, lt-leb, lt-ltb, ltb, not}
use Rattle.join.proofs.Names.{number_at, refl, set}
use Rattle.join.proofs.Names.{sets, split, step_for, stores_append, subst, sym, time_of, true, ℕ}

-- ---- a record

head_size : (version : ℕ) (body : List ℕ) → 8 ≤ length body → length body ≤ 10 → (head_for (call_of version body)).size ≡ 2 + length body
head_size version body long short =
    split (eqb (length body) 9) (λ x. (head_for (cond x plain (cond (eqb (length body) 10) coloured ticked))).size ≡ 2 + length body)
    (λ e. omega (arith, eqb-true (length body) 9 e))
    (λ e. split (eqb (length body) 10) (λ x. (head_for (cond x coloured ticked)).size ≡ 2 + length body)
    (λ f. omega (arith, eqb-true (length body) 10 f))
    (λ f. omega (arith, long, short, eqb-false (length body) 9 e, eqb-false (length body) 10 f)))
  where
    plain : Call
    plain = Call.Event (at body 0) (number_at 8 body 1)

    coloured : Call
    coloured = Call.ColouredEvent (at body 0) (colour_in version (at body 1)) (number_at 8 body 2)

    ticked : Call
    ticked = Call.Tick (number_at 8 body 0)

pub call_next : (bytes : List ℕ) (place : ℕ) (call : Call) (next : ℕ) → CallAt bytes place call next
    → (next ≡ place + (head_for call).size) × RecordSize (head_for call) × (next ≤ length bytes)
call_next bytes place call next read =
    let n = length_at bytes place in
    let body : length (body_at bytes place) ≡ n =
    length-take-le n (drop (place + 2) bytes) (omega (arith, read.there.0.0, read.there.0.1, length-drop (place + 2) bytes)) in
    let size : (head_for call).size ≡ 2 + length (body_at bytes place) =
    subst (λ (c : Call). (head_for c).size ≡ 2 + length (body_at bytes place)) read.call_read
    (head_size (at bytes 0) (body_at bytes place) (omega (arith, body, read.there.1)) (omega (arith, body, read.there.2))) in (
      omega (arith, size, body, read.next_read),
      (omega (arith, size, body, read.there.1), omega (arith, size, body, read.there.2)),
      omega (arith, read.next_read, read.there.0.1),
    )

pub tick_head : (bytes : List ℕ) (place t : ℕ) → CallAt bytes place (Call.Tick t) (place + 10) → HeadAt bytes place (head_for (Call.Tick t))
tick_head bytes place t read = (Ok (record { call = Call.Tick t; next = place + 10 }), read, refl)

pub whole_size : (call : Call) → 0 < (head_for call).size → RecordSize (head_for call)
whole_size (Call.Event k t) h = (omega arith, omega arith)
whole_size (Call.ColouredEvent k c t) h = (omega arith, omega arith)
whole_size (Call.Tick t) h = (omega arith, omega arith)
whole_size Call.Close h = absurd (omega (arith, h))

pub time_is : (call : Call) → 0 < (head_for call).size → (head_for call).time ≡ time_of (step_for call)
time_is (Call.Event k t) h = refl
time_is (Call.ColouredEvent k c t) h = refl
time_is (Call.Tick t) h = refl
time_is Call.Close h = absurd (omega (arith, h))

-- its bytes
bytes_are : (call : Call) → 0 < (head_for call).size → head_bytes (head_for call) ≡ call_bytes call
bytes_are (Call.Event k t) h = refl
bytes_are (Call.ColouredEvent k c t) h = refl
bytes_are (Call.Tick t) h = refl
bytes_are Call.Close h = absurd (omega (arith, h))

size_is : (call : Call) → (head_for call).size ≡ length (call_bytes call)
unfolding bytes_of
size_is (Call.Event k t) = refl
size_is (Call.ColouredEvent k c t) = refl
size_is (Call.Tick t) = refl
size_is Call.Close = refl

-- ---- what is left of it

later_tick : (now t : ℕ) → ltb now t ≡ not (leb t now)
later_tick now t =
    split (leb t now) (λ x. ltb now t ≡ not x) (λ e. le-ltb now t (leb-true t now e)) (λ e. lt-ltb now t (leb-false t now e))

kept_as : (now : ℕ) (call : Call) → 0 < (head_for call).size → is_kept now (head_for call) ≡ not (is_dropped now (step_for call))
kept_as now (Call.Event k t) h = refl
kept_as now (Call.ColouredEvent k c t) h = refl
kept_as now (Call.Tick t) h = later_tick now t
kept_as now Call.Close h = absurd (omega (arith, h))

pub keeps_within : (before : List ℕ) (size limit now : ℕ) (h : Head) (r : Part) (after : List ℕ) → KeepsWithin before size limit now h r after
    → size ≤ limit → r.size ≤ limit
keeps_within before size limit now h r after keeps room =
    split (is_kept now h) (λ x. r.size ≤ limit) (λ e. (keeps.kept e).1) (λ e. omega (arith, (keeps.dropped e).0, room))

module _ (before : List ℕ) (size limit now : ℕ) (call : Call) (there : 0 < (head_for call).size) where
  pub keeps_left : (r : Part) (after : List ℕ) → KeepsWithin before size limit now (head_for call) r after
      → (r.size ≡ size + length (left_bytes now call)) × (r.clock ≡ left_clock now call)
      × (limit ≤ length before → after ≡ sets before size (left_bytes now call))
  keeps_left r after keeps =
      split (is_dropped now (step_for call))
      (λ x. (r.size ≡ size + length (cond x [] (call_bytes call))) × (r.clock ≡ cond x now (time_of (step_for call)))
      × (limit ≤ length before → after ≡ sets before size (cond x [] (call_bytes call))))
      (λ e. let g = keeps.dropped (kept_as now call there ∙ ap not e) in (omega (arith, g.0), g.1, λ room. g.2))
      (λ e. let g = keeps.kept (kept_as now call there ∙ ap not e) in (
        g.0 ∙ ap (λ (n : ℕ). size + n) (size_is call),
        g.2 ∙ time_is call there,
        λ room. g.3 room ∙ ap (λ (l : List ℕ). sets before size l) (bytes_are call there),
      ))

  pub keeps_short : (is_kept now (head_for call) ≡ true) × (limit < size + (head_for call).size) → limit < size + length (left_bytes now call)
  keeps_short g =
      split (is_dropped now (step_for call)) (λ x. limit < size + length (cond x [] (call_bytes call)))
      (λ e. both (sym g.0 ∙ kept_as now call there ∙ ap not e)) (λ e. omega (arith, g.1, size_is call))

-- ---- the stores

-- what is stored behind a list of bytes is stored with it
pub stored_behind : (buffer one two : List ℕ) (place n : ℕ) (front back : List ℕ) → length front ≡ n → one ≡ sets buffer place front → two
    ≡ sets one (place + n) back
    → two ≡ sets buffer place (front ++ back)
stored_behind buffer one two place n front back size first second =
    second ∙ ap (λ (l : List ℕ). sets l (place + n) back) first
    ∙ sym (stores_append buffer place front back ∙ ap (λ (k : ℕ). sets (sets buffer place front) (place + k) back) size)

-- the eight bytes of a number, in the place of those that are there
pub eight_stored : (l ys : List ℕ) (p x : ℕ) → p + 8 ≤ length l → ys ≡ to_be_bytes w64 x → put_mid p (p + 8 - p) l ys ≡ sets l p (bytes_of 8 x)
unfolding bytes_of
eight_stored l ys p x room is =
    let eight : p + 8 - p ≡ 8 = omega arith in
    let same : to_be_bytes w64 x ≡ bytes_of 8 x = rw div-one refl in
    rw (eight, is ∙ same, drop-drop 8 p l)
    (sym (append_assoc (take p l) (bytes_of 8 x) (drop (p + 8) l)) ∙ sym (sets-eq (bytes_of 8 x) l p (omega (arith, room))))

-- bytes stored one by one
module _ (l : List ℕ) (p : ℕ) where
  abbrev pub put_one : ℕ → List ℕ
  put_one a = set l p a

  abbrev pub put_two : ℕ → ℕ → List ℕ
  put_two a b = set (put_one a) (p + 1) b

  abbrev pub put_three : ℕ → ℕ → ℕ → List ℕ
  put_three a b c = set (put_two a b) (p + 2) c

  abbrev pub put_four : ℕ → ℕ → ℕ → ℕ → List ℕ
  put_four a b c d = set (put_three a b c) (p + 3) d

  pub long_one : (a : ℕ) → length (put_one a) ≡ length l
  long_one a = length-set l p a

  pub long_two : (a b : ℕ) → length (put_two a b) ≡ length l
  long_two a b = length-set (put_one a) (p + 1) b ∙ long_one a

  pub long_three : (a b c : ℕ) → length (put_three a b c) ≡ length l
  long_three a b c = length-set (put_two a b) (p + 2) c ∙ long_two a b

  stored_two : (a b : ℕ) → put_two a b ≡ sets l p (a ∷ b ∷ [])
  stored_two a b =
      stored_behind l (put_one a) (put_two a b) p 1 (a ∷ []) (b ∷ []) refl refl refl

  stored_three : (a b c : ℕ) → put_three a b c ≡ sets l p (a ∷ b ∷ c ∷ [])
  stored_three a b c =
      stored_behind l (put_two a b) (put_three a b c) p 2 (a ∷ b ∷ []) (c ∷ []) refl (stored_two a b) refl

  stored_four : (a b c d : ℕ) → put_four a b c d ≡ sets l p (a ∷ b ∷ c ∷ d ∷ [])
  stored_four a b c d =
      stored_behind l (put_three a b c) (put_four a b c d) p 3 (a ∷ b ∷ c ∷ []) (d ∷ []) refl (stored_three a b c) refl

module _ (l : List ℕ) (p : ℕ) (h : Head) where
  pub front_tick : h.size ≤ 10 → put_two l p 0 (h.size - 2) ≡ sets l p (head_front h)
  front_tick small = rw (le-leb h.size 10 small) (stored_two l p 0 (h.size - 2))

  pub front_event : 10 < h.size → h.size ≤ 11 → put_three l p 0 (h.size - 2) h.kind ≡ sets l p (head_front h)
  front_event large small =
      rw (lt-leb h.size 10 large, le-leb h.size 11 small) (stored_three l p 0 (h.size - 2) h.kind)

  pub front_coloured : 11 < h.size
      → put_four l p 0 (h.size - 2) h.kind h.colour ≡ sets l p (head_front h)
  front_coloured large =
      rw (lt-leb h.size 10 (omega (arith, large)), lt-leb h.size 11 large) (stored_four l p 0 (h.size - 2) h.kind h.colour)

pub front_length : (h : Head) → RecordSize h → length (head_front h) ≡ h.size - 8
front_length h whole =
    split (leb h.size 10)
    (λ x. length (0 ∷ (h.size - 2) ∷ cond x [] (h.kind ∷ cond (leb h.size 11) [] (h.colour ∷ []))) ≡ h.size - 8)
    (λ e. omega (arith, leb-true h.size 10 e, whole.0))
    (λ e. split (leb h.size 11) (λ x. length (0 ∷ (h.size - 2) ∷ h.kind ∷ cond x [] (h.colour ∷ [])) ≡ h.size - 8)
    (λ f. omega (arith, leb-false h.size 10 e, leb-true h.size 11 f))
    (λ f. omega (arith, leb-false h.size 11 f, whole.1)))
