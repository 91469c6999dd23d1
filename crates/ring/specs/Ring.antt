-- What a ring of 64 words holds, and what an edit makes of it.
use Rattle.std.specs.Prelude.{ℕ, zero, suc, ◌+◌, ◌-◌, ◌%◌, cond, List, [], ◌∷◌, ◌++◌, get_or, set, drop, ltb, eqb}
use Rattle.ring.specs.declared.Edit.{Edit}
use Rattle.ring.specs.declared.Edit.TheVariants.{Drop, Push, PushTwo, Store}
use Rattle.ring.specs.declared.Times.{Times}

-- the words, the place of the oldest time, and how many times there are
pub record Ring : Type 0 where
  pub times : List ℕ
  pub head : ℕ
  pub len : ℕ

abbrev pub ring_of : List ℕ → ℕ → ℕ → Ring
ring_of times head len = record { times = times; head = head; len = len }

-- n times of a list of 64, from a place on, and round at the end
unfoldable pub ring : List ℕ → ℕ → ℕ → List ℕ
ring times head zero = []
ring times head (suc n) = get_or times (head % 64) 0 ∷ ring times (suc head) n

-- the times that a row keeps
abbrev pub times_of : Times → List ℕ
times_of t = ring t.words.now t.head t.len

-- the place that is i behind a place, round at the end, and the time there
abbrev pub ring_place : ℕ → ℕ → ℕ
ring_place head i = (head % 64 + i % 64) % 64

abbrev pub time_at : List ℕ → ℕ → ℕ → ℕ
time_at times head i = get_or times (ring_place head i) 0

-- what a ring holds, the oldest first
abbrev pub items : Ring → List ℕ
items q = ring q.times q.head q.len

-- a list of times so edited: without its first, with one word or two behind the rest, or with two at a place of their own
abbrev pub changed : Edit → List ℕ → List ℕ
changed (Drop dropped) list = drop dropped list
changed (Push dropped word) list = drop dropped list ++ (word ∷ [])
changed (PushTwo dropped first second) list = drop dropped list ++ (first ∷ second ∷ [])
changed (Store place first second) list = set (set list place first) (place + 1) second

-- the ring without its oldest: the head moves on, and stays as it is where none leaves
abbrev pub head_after : ℕ → ℕ → ℕ
head_after head dropped = cond (eqb dropped 0) head (ring_place head dropped)

abbrev pub drop_ring : ℕ → Ring → Ring
drop_ring dropped q = record { times = q.times; head = head_after q.head dropped; len = q.len - dropped }

-- the ring with a word behind the rest; one that would hold more than 64 takes none
unfoldable pub push_ring : ℕ → Ring → Ring
push_ring word q =
    cond (ltb q.len 64) (ring_of (set q.times (ring_place q.head q.len) word) q.head (q.len + 1)) q

-- the ring with a word at one of its places
unfoldable pub put_ring : ℕ → ℕ → Ring → Ring
put_ring i word q = cond (ltb i q.len) (ring_of (set q.times (ring_place q.head i) word) q.head q.len) q

-- the ring so edited
abbrev pub edited : Edit → Ring → Ring
edited (Drop dropped) q = drop_ring dropped q
edited (Push dropped word) q = push_ring word (drop_ring dropped q)
edited (PushTwo dropped first second) q = push_ring second (push_ring first (drop_ring dropped q))
edited (Store place first second) q = put_ring (place + 1) second (put_ring place first q)

-- ---- what an edit overwrites

-- where an edit writes (§3.13): at one place, or, with 64 added, at one and the next
abbrev pub two_from : ℕ → ℕ
two_from place = 64 + place

abbrev pub edit_place : Edit → Ring → ℕ
edit_place (Drop dropped) q = 0
edit_place (Push dropped word) q = ring_place (head_after q.head dropped) (q.len - dropped)
edit_place (PushTwo dropped first second) q = two_from (ring_place (head_after q.head dropped) (q.len - dropped))
edit_place (Store place first second) q = two_from (ring_place q.head place)

-- the second of the words that such an edit overwrites; 0 where it writes at one place
abbrev pub second_at : List ℕ → ℕ → ℕ
second_at times place = cond (ltb place 64) 0 (time_at times place 1)

-- the words with one put back at a place, or two from it on
unfoldable pub put_back : ℕ → ℕ → ℕ → List ℕ → List ℕ
put_back place first second times =
    cond (ltb place 64) (set times (ring_place place 0) first) (set (set times (ring_place place 0) first) (ring_place place 1) second)
