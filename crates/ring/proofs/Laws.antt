-- Laws of `ring`, the times of a list of 64 from a place on, and of what an edit makes of a ring.
use Rattle.ring.proofs.Names.{Bool, Drop, Edit, List, Push, PushTwo, Ring, Store, [], ◌%◌, ◌++◌, ◌+◌, ◌-◌, ◌<◌, ◌∙◌, ◌∷◌, ◌≡◌, ◌≢◌, ◌≤◌, ◌⊎◌}
use Rattle.ring.proofs.Names.{add_assoc, add-one, add-suc, add-zero, ap, ap₂, append_assoc, arith, by_cases, changed, cond, drop, drop-cons}
use Rattle.ring.proofs.Names.{drop_of_length-le, drop_ring, edit_place, edited, eqb, eqb-true, ext_get_or, false, get_or, get_or-set_other}
use Rattle.ring.proofs.Names.{get_or-take}
use Rattle.ring.proofs.Names.{get_or-set_same, head_after, inl, inr, items, le-ltb, length, length-append, length-drop, length-set}
use Rattle.ring.proofs.Names.{length-take-le, lt-ltb, ltb}
use Rattle.ring.proofs.Names.{ltb-false, ltb-true, push_ring, put_back, put_ring, refl, ring, ring_of, ring_place, second_at, set}
use Rattle.ring.proofs.Names.{set_out, subst, suc, suc-add, sym, take, time_at, true, two_from, zero, ℕ, ℕ_discrete, ⊎_elim}

-- ---- Rings

pub ring_length : (l : List ℕ) (f n : ℕ) → length (ring l f n) ≡ n
unfolding ring
ring_length l f zero = refl
ring_length l f (suc n) = ap suc (ring_length l (suc f) n)

-- a ring depends only on its start modulo 64
ring_mod : (l : List ℕ) (f g n : ℕ) → f % 64 ≡ g % 64 → ring l f n ≡ ring l g n
unfolding ring
ring_mod l f g zero e = refl
ring_mod l f g (suc n) e = λ i. get_or l (e i) 0 ∷ ring_mod l (suc f) (suc g) n (omega arith) i

-- a place of the list holds the item
ring_at : (l : List ℕ) (f n i : ℕ) → i < n → get_or (ring l f n) i 0 ≡ get_or l ((f + i) % 64) 0
unfolding ring
ring_at l f zero i h = absurd (omega arith)
ring_at l f (suc n) zero h = rw add-zero
ring_at l f (suc n) (suc i) h = rw (add-suc, ← suc-add) (ring_at l (suc f) n i (omega arith))

pub ring_read : (l : List ℕ) (f n i : ℕ) → i < n → time_at l f i ≡ get_or (ring l f n) i 0
ring_read l f n i h =
    let e : (f % 64 + i % 64) % 64 ≡ (f + i) % 64 = omega arith in
    rw (e, ring_at)

-- past its end it has none
pub ring_past : (l : List ℕ) (f n i : ℕ) → n ≤ i → get_or (ring l f n) i 0 ≡ 0
unfolding ring
ring_past l f zero i h = refl
ring_past l f (suc n) zero h = absurd (omega arith)
ring_past l f (suc n) (suc i) h = ring_past l (suc f) n i (omega arith)

-- after 64 it repeats itself
pub ring_round : (l : List ℕ) (f i : ℕ) → time_at l f i ≡ time_at l f (i % 64)
ring_round l f i =
    let e : (f % 64 + i % 64) % 64 ≡ (f % 64 + i % 64 % 64) % 64 = omega arith in
    rw e

-- without its first d
ring_drop : (l : List ℕ) (f n d : ℕ) → drop d (ring l f n) ≡ ring l (f + d) (n - d)
unfolding ring
ring_drop l f n zero =
    let e : n - 0 ≡ n = omega arith in
    rw (add-zero, e)
ring_drop l f zero (suc d) =
    let e : 0 - suc d ≡ 0 = omega arith in
    rw e
ring_drop l f (suc n) (suc d) =
    let e : suc n - suc d ≡ n - d = omega arith in
    rw (add-suc, ← suc-add, e) (ring_drop l (suc f) n d)

-- what is left then begins with the time at d, or is nothing
pub ring_from : (l : List ℕ) (f n d : ℕ) → d < n → drop d (ring l f n) ≡ time_at l f d ∷ drop (suc d) (ring l f n)
ring_from l f n d h = rw (ring_read l f n d h) (drop-cons (ring l f n) d 0 (rw ring_length h))

pub ring_spent : (l : List ℕ) (f n d : ℕ) → n ≤ d → drop d (ring l f n) ≡ []
ring_spent l f n d h = let all : length (ring l f n) ≤ d = rw ring_length h in drop_of_length-le (ring l f n) all

-- one more at the end
ring_snoc : (l : List ℕ) (f n : ℕ) → ring l f (suc n) ≡ ring l f n ++ get_or l ((f + n) % 64) 0 ∷ []
unfolding ring
ring_snoc l f zero = rw add-zero
ring_snoc l f (suc n) = rw (add-suc, ← suc-add) (ap (λ (r : List ℕ). get_or l (f % 64) 0 ∷ r) (ring_snoc l (suc f) n))

-- from the first place on it is the list
pub ring_take : (l : List ℕ) (n : ℕ) → n ≤ 64 → n ≤ length l → ring l 0 n ≡ take n l
ring_take l n few there =
    ext_get_or 0 (ring l 0 n) (take n l) (ring_length l 0 n ∙ sym (length-take-le n l there))
    (λ i h. let inside : i < n = rw ring_length at h in
    let place : (0 + i) % 64 ≡ i = omega arith in
    ring_at l 0 n i inside ∙ ap (λ j. get_or l j 0) place ∙ sym (get_or-take n l i 0 inside))

-- a store outside, and one inside
ring_set : (l : List ℕ) (f n p t : ℕ) → ((i : ℕ) → i < n → (f + i) % 64 ≢ p) → ring (set l p t) f n ≡ ring l f n
unfolding ring
ring_set l f zero p t h = refl
ring_set l f (suc n) p t h =
    rw (
      get_or-set_other l p (f % 64) t 0 (rw add-zero at (h 0 (omega arith))),
      ring_set l (suc f) n p t (λ i k. rw (suc-add, ← add-suc) (h (suc i) (omega arith))),
    )

ring_put : (l : List ℕ) (f n i t : ℕ) → length l ≡ 64 → n ≤ 64 → i < n → ring (set l ((f + i) % 64) t) f n ≡ set (ring l f n) i t
unfolding ring
ring_put l f zero i t size few h = absurd (omega arith)
ring_put l f (suc n) zero t size few h =
    let first : f % 64 ≡ (f + 0) % 64 = omega arith in
    subst (λ (p : ℕ). ring (set l p t) f (suc n) ≡ set (ring l f (suc n)) 0 t) first
    (ap₂ (λ (x : ℕ) (rest : List ℕ). x ∷ rest) (get_or-set_same l (f % 64) t 0 (omega arith)) (ring_set l (suc f) n (f % 64) t (λ i k. omega arith)))
ring_put l f (suc n) (suc i) t size few h =
    let next : (suc f + i) % 64 ≡ (f + suc i) % 64 = omega arith in
    subst (λ (p : ℕ). ring (set l p t) f (suc n) ≡ set (ring l f (suc n)) (suc i) t) next
    (ap₂ (λ (x : ℕ) (rest : List ℕ). x ∷ rest) (get_or-set_other l ((suc f + i) % 64) (f % 64) t 0 (λ e. omega arith))
    (ring_put l (suc f) n i t size (omega arith) (omega arith)))

ring_push : (l : List ℕ) (f n p t : ℕ) → length l ≡ 64 → n < 64 → p ≡ (f + n) % 64 → ring (set l p t) f (n + 1) ≡ ring l f n ++ t ∷ []
ring_push l f n p t size room e = rw (add-one, ring_snoc, ring_set l f n p t (λ i k. omega arith), ← e, get_or-set_same l p t 0 (omega arith))

-- ---- Edits

-- the place that is i behind a place
pub place_is : (head i : ℕ) → ring_place head i ≡ (head + i) % 64
place_is head i = omega arith

-- the head, whether it moves or not, modulo 64
head_moved : (head d : ℕ) → head_after head d % 64 ≡ (head + d) % 64
head_moved head d = by_none (eqb d 0) refl
  where
    by_none : (b : Bool) → eqb d 0 ≡ b → cond b head (ring_place head d) % 64 ≡ (head + d) % 64
    by_none true e = omega (arith, eqb-true d 0 e)
    by_none false e = omega arith

items_dropped : (q : Ring) (d : ℕ) → items (drop_ring d q) ≡ drop d (items q)
items_dropped q d = rw ring_drop (ring_mod q.times (head_after q.head d) (q.head + d) (q.len - d) (head_moved q.head d))

items_pushed : (q : Ring) (word : ℕ) → length q.times ≡ 64 → q.len < 64 → items (push_ring word q) ≡ items q ++ (word ∷ [])
unfolding push_ring
items_pushed q word size room =
    rw (lt-ltb q.len 64 room, ring_push q.times q.head q.len (ring_place q.head q.len) word size room (place_is q.head q.len))

items_put : (q : Ring) (i word : ℕ) → length q.times ≡ 64 → q.len ≤ 64 → items (put_ring i word q) ≡ set (items q) i word
unfolding put_ring
items_put q i word size few = by_place (ltb i q.len) refl
  where
    by_place : (b : Bool) → ltb i q.len ≡ b
        → items (cond b (ring_of (set q.times (ring_place q.head i) word) q.head q.len) q) ≡ set (items q) i word
    by_place true e = rw place_is (ring_put q.times q.head q.len i word size few (ltb-true i q.len e))
    by_place false e = rw (set_out (items q) i word (omega (arith, ring_length q.times q.head q.len, ltb-false i q.len e)))

either_times : (b : Bool) (x y : Ring) → length x.times ≡ length y.times → length (cond b x y).times ≡ length y.times
either_times true x y e = e
either_times false x y e = refl

pushed_times : (q : Ring) (word : ℕ) → length (push_ring word q).times ≡ length q.times
unfolding push_ring
pushed_times q word = either_times (ltb q.len 64) _ q (length-set q.times _ word)

put_times : (q : Ring) (i word : ℕ) → length (put_ring i word q).times ≡ length q.times
unfolding put_ring
put_times q i word = either_times (ltb i q.len) _ q (length-set q.times _ word)

pushed_len : (q : Ring) (word : ℕ) → q.len < 64 → (push_ring word q).len ≡ q.len + 1
unfolding push_ring
pushed_len q word room = rw (lt-ltb q.len 64 room)

put_len : (q : Ring) (i word : ℕ) → (put_ring i word q).len ≡ q.len
unfolding put_ring
put_len q i word = either_len (ltb i q.len) _ q refl
  where
    either_len : (b : Bool) (x y : Ring) → x.len ≡ y.len → (cond b x y).len ≡ y.len
    either_len true x y e = e
    either_len false x y e = refl

-- an edit of the ring is that edit of its items, where these stay at most 64
module _ (q : Ring) (size : length q.times ≡ 64) (few : q.len ≤ 64) where
  left_over : (d : ℕ) (words : List ℕ) → length (drop d (items q) ++ words) ≤ 64 → q.len - d + length words ≤ 64
  left_over d words fits = omega (arith, simp (length-append, length-drop, ring_length) at fits)

  pub items_edited : (e : Edit) → length (changed e (items q)) ≤ 64 → items (edited e q) ≡ changed e (items q)
  items_edited (Drop d) fits = items_dropped q d
  items_edited (Push d word) fits =
      items_pushed (drop_ring d q) word size (omega (arith, left_over d (word ∷ []) fits))
      ∙ ap (λ (l : List ℕ). l ++ (word ∷ [])) (items_dropped q d)
  items_edited (PushTwo d first second) fits =
      let some : ℕ = q.len - d in
      let room : some + 2 ≤ 64 = left_over d (first ∷ second ∷ []) fits in
      let one : Ring = push_ring first (drop_ring d q) in
      let more : one.len ≡ some + 1 = pushed_len (drop_ring d q) first (omega arith) in
      items_pushed one second (pushed_times (drop_ring d q) first ∙ size) (omega arith)
      ∙ rw (items_pushed (drop_ring d q) first size (omega arith), items_dropped q d) (append_assoc (drop d (items q)) (first ∷ []) (second ∷ []))
  items_edited (Store place first second) fits =
      let one : Ring = put_ring place first q in
      items_put one (place + 1) second (put_times q place first ∙ size) (omega (arith, put_len q place first))
      ∙ ap (λ (l : List ℕ). set l (place + 1) second) (items_put q place first size few)

pub times_edited : (q : Ring) (e : Edit) → length (edited e q).times ≡ length q.times
times_edited q (Drop d) = refl
times_edited q (Push d word) = pushed_times (drop_ring d q) word
times_edited q (PushTwo d first second) = pushed_times (push_ring first (drop_ring d q)) second ∙ pushed_times (drop_ring d q) first
times_edited q (Store place first second) = put_times (put_ring place first q) (place + 1) second ∙ put_times q place first

-- ---- what an edit overwrites is put back

-- two lists of words that agree but at a place and the next
record Near (p : ℕ) (a b : List ℕ) : Type 0 where
  pub size : length a ≡ length b
  pub rest : (j : ℕ) → j ≢ ring_place p 0 → j ≢ ring_place p 1 → get_or a j 0 ≡ get_or b j 0

near_same : (p : ℕ) (a : List ℕ) → Near p a a
near_same p a = record { size = refl; rest = λ j h k. refl }

-- a store at one of the two places
near_set : (p : ℕ) (a b : List ℕ) (i word : ℕ) → (i ≡ ring_place p 0) ⊎ (i ≡ ring_place p 1) → Near p a b → Near p (set a i word) b
near_set p a b i word at n =
    record {
      size = length-set a i word ∙ n.size;
      rest = λ j h k. get_or-set_other a i j word 0 (λ e. ⊎_elim (λ f. h (e ∙ f)) (λ f. k (e ∙ f)) at) ∙ n.rest j h k;
    }

-- with the words of the one stored into the other they are the same
both_back : (p : ℕ) (a b : List ℕ) → length b ≡ 64 → Near p a b → set (set a (ring_place p 0) (time_at b p 0)) (ring_place p 1) (time_at b p 1) ≡ b
both_back p a b size n =
    ext_get_or 0 _ b (length-set once (ring_place p 1) (time_at b p 1) ∙ length-set a (ring_place p 0) (time_at b p 0)
    ∙ n.size) (λ j small. by_place j)
  where
    once : List ℕ
    once = set a (ring_place p 0) (time_at b p 0)

    by_place : (j : ℕ) → get_or (set once (ring_place p 1) (time_at b p 1)) j 0 ≡ get_or b j 0
    by_place j =
        by_cases (ℕ_discrete j (ring_place p 1))
        (λ e. subst (λ (i : ℕ). get_or (set once (ring_place p 1) (time_at b p 1)) i 0 ≡ get_or b i 0) (sym e)
        (get_or-set_same once (ring_place p 1) (time_at b p 1) 0 (omega (arith, length-set a (ring_place p 0) (time_at b p 0), n.size, size))))
        (λ far. get_or-set_other once (ring_place p 1) j (time_at b p 1) 0 far
        ∙ by_cases (ℕ_discrete j (ring_place p 0))
        (λ e. subst (λ (i : ℕ). get_or once i 0 ≡ get_or b i 0) (sym e) (get_or-set_same a (ring_place p 0) (time_at b p 0) 0 (omega (
          arith,
          n.size,
          size,
        ))))
        (λ off. get_or-set_other a (ring_place p 0) j (time_at b p 0) 0 off ∙ n.rest j off far))

-- so with one word, where it is the only one that differs: the old word stored over another is the old list
one_back : (l : List ℕ) (i word : ℕ) → length l ≡ 64 → i < 64 → set (set l i word) i (get_or l i 0) ≡ l
one_back l i word size small =
    ext_get_or 0 _ l (length-set (set l i word) i (get_or l i 0) ∙ length-set l i word) (λ j few. by_place j)
  where
    by_place : (j : ℕ) → get_or (set (set l i word) i (get_or l i 0)) j 0 ≡ get_or l j 0
    by_place j =
        by_cases (ℕ_discrete j i)
        (λ e. subst (λ (k : ℕ). get_or (set (set l i word) i (get_or l i 0)) k 0 ≡ get_or l k 0) (sym e)
        (get_or-set_same (set l i word) i (get_or l i 0) 0 (omega (arith, length-set l i word, size))))
        (λ far. get_or-set_other (set l i word) i j (get_or l i 0) 0 far ∙ get_or-set_other l i j word 0 far)

-- a word stored where it stands
same_set : (l : List ℕ) (i : ℕ) → length l ≡ 64 → set l i (get_or l i 0) ≡ l
same_set l i size =
    ext_get_or 0 _ l (length-set l i (get_or l i 0)) (λ j few.
    by_cases (ℕ_discrete j i)
    (λ e. subst (λ (k : ℕ). get_or (set l i (get_or l i 0)) k 0 ≡ get_or l k 0) (sym e)
    (get_or-set_same l i (get_or l i 0) 0 (omega (arith, e, few, length-set l i (get_or l i 0), size))))
    (λ far. get_or-set_other l i j (get_or l i 0) 0 far))

near_either : (p : ℕ) (b : Bool) (x y : Ring) (l : List ℕ) → Near p x.times l → Near p y.times l → Near p (cond b x y).times l
near_either p true x y l n k = n
near_either p false x y l n k = k

near_push : (p : ℕ) (q : Ring) (word : ℕ) (l : List ℕ) → (ring_place q.head q.len ≡ ring_place p 0)
    ⊎ (ring_place q.head q.len ≡ ring_place p 1)
    → Near p q.times l → Near p (push_ring word q).times l
unfolding push_ring
near_push p q word l at n = near_either p (ltb q.len 64) _ q l (near_set p q.times l _ word at n) n

near_put : (p : ℕ) (q : Ring) (i word : ℕ) (l : List ℕ) → (ring_place q.head i ≡ ring_place p 0) ⊎ (ring_place q.head i ≡ ring_place p 1)
    → Near p q.times l → Near p (put_ring i word q).times l
unfolding put_ring
near_put p q i word l at n = near_either p (ltb i q.len) _ q l (near_set p q.times l _ word at n) n

-- the place behind a place
next_place : (head i : ℕ) → ring_place head (i + 1) ≡ ring_place (ring_place head i) 1
next_place head i =
    let behind : (head + (i + 1)) % 64 ≡ ((head + i) % 64 + 1) % 64 = ap (λ (k : ℕ). k % 64) (sym (add_assoc head i 1)) ∙ next (head + i) in
    place_is head (i + 1) ∙ behind ∙ sym (place_is (ring_place head i) 1 ∙ ap (λ (p : ℕ). (p + 1) % 64) (place_is head i))
  where
    next : (k : ℕ) → (k + 1) % 64 ≡ (k % 64 + 1) % 64
    next k = omega arith

-- a ring with one word more is full, or its next place is the next
pushed_place : (q : Ring) (word : ℕ) → let p = ring_place q.head q.len in let r = push_ring word q in
    (ring_place r.head r.len ≡ ring_place p 0) ⊎ (ring_place r.head r.len ≡ ring_place p 1)
unfolding push_ring
pushed_place q word = by_room (ltb q.len 64)
  where
    by_room : (b : Bool)
        → let p = ring_place q.head q.len in let r = cond b (ring_of (set q.times p word) q.head (q.len + 1)) q in
        (ring_place r.head r.len ≡ ring_place p 0) ⊎ (ring_place r.head r.len ≡ ring_place p 1)
    by_room true = inr (next_place q.head q.len)
    by_room false = inl (omega arith)

put_head : (q : Ring) (i word : ℕ) → (put_ring i word q).head ≡ q.head
unfolding put_ring
put_head q i word = either_head (ltb i q.len) _ q refl
  where
    either_head : (b : Bool) (x y : Ring) → x.head ≡ y.head → (cond b x y).head ≡ y.head
    either_head true x y e = e
    either_head false x y e = refl

-- a push overwrites one word, or none where there is no room
push_back : (q : Ring) (word : ℕ) → length q.times ≡ 64
    → set (push_ring word q).times (ring_place q.head q.len) (time_at q.times q.head q.len) ≡ q.times
unfolding push_ring
push_back q word size = by_room (ltb q.len 64)
  where
    by_room : (b : Bool) → set (cond b (ring_of (set q.times (ring_place q.head q.len) word) q.head (q.len + 1)) q).times
        (ring_place q.head q.len) (time_at q.times q.head q.len) ≡ q.times
    by_room true = one_back q.times (ring_place q.head q.len) word size (omega arith)
    by_room false = same_set q.times (ring_place q.head q.len) size

-- two words are overwritten at a place and the next alone
near_pushed : (q : Ring) (d first second : ℕ)
    → Near (ring_place (head_after q.head d) (q.len - d)) (edited (PushTwo d first second) q).times q.times
near_pushed q d first second =
    near_push _ (push_ring first (drop_ring d q)) second q.times (pushed_place (drop_ring d q) first)
    (near_push _ (drop_ring d q) first q.times (inl (omega arith)) (near_same _ q.times))

near_stored : (q : Ring) (place first second : ℕ) → Near (ring_place q.head place) (edited (Store place first second) q).times q.times
near_stored q place first second =
    near_put _ (put_ring place first q) (place + 1) second q.times
    (inr (ap (λ (h : ℕ). ring_place h (place + 1)) (put_head q place first) ∙ next_place q.head place))
    (near_put _ q place first q.times (inl (omega arith)) (near_same _ q.times))

-- the place with 64 added is the place
two_place : (p i : ℕ) → ring_place (two_from p) i ≡ ring_place p i
two_place p i = omega arith

two_back : (p : ℕ) (a b : List ℕ) → length b ≡ 64 → Near p a b → put_back (two_from p) (time_at b (two_from p) 0) (second_at b (two_from p)) a ≡ b
unfolding put_back
two_back p a b size n = rw (le-ltb (two_from p) 64 (omega arith), two_place p 0, two_place p 1) (both_back p a b size n)

pub edit_back : (q : Ring) (e : Edit) → length q.times ≡ 64
    → put_back (edit_place e q) (time_at q.times (edit_place e q) 0) (second_at q.times (edit_place e q)) (edited e q).times ≡ q.times
unfolding put_back
edit_back q (Drop d) size = same_set q.times 0 size
edit_back q (Push d word) size =
    let p : ℕ = ring_place (head_after q.head d) (q.len - d) in
    let one : ring_place p 0 ≡ p = omega arith in
    rw (lt-ltb p 64 (omega arith), one) (push_back (drop_ring d q) word size)
edit_back q (PushTwo d first second) size = two_back _ _ q.times size (near_pushed q d first second)
edit_back q (Store place first second) size = two_back _ _ q.times size (near_stored q place first second)

-- what stands at a place is put back where nothing was written
pub same_back : (place : ℕ) (l : List ℕ) → length l ≡ 64 → put_back place (time_at l place 0) (second_at l place) l ≡ l
unfolding put_back
same_back place l size = by_size (ltb place 64)
  where
    by_size : (b : Bool) → cond b (set l (ring_place place 0) (time_at l place 0))
        (set (set l (ring_place place 0) (time_at l place 0)) (ring_place place 1) (cond b 0 (time_at l place 1))) ≡ l
    by_size true = same_set l (ring_place place 0) size
    by_size false = both_back place l l size (near_same place l)
