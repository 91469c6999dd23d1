-- A row that is there has the numbers that its words say, and the rows behind the last add nothing: so what is found row after row is what is asked.
use Rattle.std.specs.Int.{from_bool}
use Rattle.queries.proofs.Names.{Bool, Call, List, Monitor, Row, [], ◌%◌, ◌&&◌, ◌*◌, ◌+◌, ◌-◌, ◌/◌, ◌<◌, ◌^◌, ◌∙◌, ◌∷◌, ◌≡◌, ◌≤◌, add-one, ap}
use Rattle.queries.proofs.Names.{ap₂, arith, bit, broken_mark, broken_marks, by_cases, cond, crowded_known, crowded_by, crowded_first, deadline_of}
use Rattle.queries.proofs.Names.{dec_lt, drop, false, first_marked, get_or, held_rows, le-ltb, least_of, length, lt-ltb, ltb, mark, min, next_step}
use Rattle.queries.proofs.Names.{no_limit, no_row, step_input_of, refl, row_at, row_limit, row_step, step_crowds, suc, sym, there, true}
use Rattle.queries.proofs.Names.{waiting_limit}
use Rattle.queries.proofs.Names.{zero, ℕ}

pub is_there : (i len : ℕ) → i < min len row_limit → there i len ≡ true
is_there i len l = rw (lt-ltb i len (omega arith), lt-ltb i row_limit (omega arith)) refl

pub not_there : (i len : ℕ) → min len row_limit ≤ i → there i len ≡ false
not_there i len l =
    by_cases (dec_lt i len) (λ h. rw (lt-ltb i len h, le-ltb i row_limit (omega arith)) refl) (λ h. rw (le-ltb i len (omega (arith, h))) refl)

-- ---- deadlines, row after row

module _ (m : Monitor) where
  pub least_none : least_of m 0 ≡ no_limit
  unfolding least_of
  least_none = refl

  pub least_next : (n : ℕ) → least_of m (n + 1) ≡ min (least_of m n) (deadline_of m n)
  unfolding least_of
  least_next n = rw (add-one n)

  pub least_limit : (n : ℕ) → least_of m n ≤ no_limit
  unfolding least_of
  least_limit zero = omega arith
  least_limit (suc n) = omega (arith, least_limit n)

  -- the rows behind the last have none
  least_behind : (k n : ℕ) → min m.len row_limit ≤ n → least_of m (k + n) ≡ least_of m n
  unfolding least_of
  least_behind zero n l = let same : 0 + n ≡ n = omega arith in rw same
  least_behind (suc k) n l =
      let one : suc k + n ≡ suc (k + n) = omega arith in
      rw (one, not_there (k + n) m.len (omega arith)) (omega (arith, least_limit (k + n), least_behind k n l))

  pub least_all : (n : ℕ) → n ≡ min m.len row_limit → least_of m n ≡ least_of m row_limit
  least_all n all =
      let rest : row_limit ≡ (row_limit - n) + n = omega (arith, all) in
      sym (ap (least_of m) rest ∙ least_behind (row_limit - n) n (omega (arith, all)))

-- ---- marks, from the last row to the first

pub mark_small : (b : Bool) → mark b ≤ 1
mark_small true = omega arith
mark_small false = omega arith

-- the number of a test is its mark
pub marked : (b : Bool) → from_bool b ≡ mark b
marked true = refl
marked false = refl

module _ (m : Monitor) where
  pub marks_none : (n i : ℕ) → min m.len row_limit ≤ i → broken_marks m i n ≡ 0
  unfolding broken_marks
  marks_none zero i l = refl
  marks_none (suc n) i l = rw (not_there i m.len l) (omega (arith, marks_none n (i + 1) (omega arith)))

  -- one row more, before those that are marked
  pub marks_next : (i mask b : ℕ) → 0 < i → i ≤ min m.len row_limit → mask ≡ broken_marks m i (row_limit - i)
      → b ≡ mark (ltb 0 (row_at m (i - 1)).now.broken) → mask * 2 + b ≡ broken_marks m (i - 1) (row_limit - (i - 1))
  unfolding broken_marks
  marks_next i mask b some_left l so_far is =
      let more : row_limit - (i - 1) ≡ suc (row_limit - i) = omega arith in
      let again : i - 1 + 1 ≡ i = omega arith in
      rw (more, is_there (i - 1) m.len (omega arith), again) (omega (arith, so_far, is))

  -- each is a bit of the number
  pub bit_is : (n i k : ℕ) → k < n → bit (broken_marks m i n) k ≡ broken_mark m (i + k)
  unfolding bit broken_marks
  bit_is zero i k h = absurd (omega arith)
  bit_is (suc n) i zero h =
      let small = mark_small (there i m.len && ltb 0 (row_at m i).now.broken) in
      let odd : (broken_mark m i + 2 * broken_marks m (i + 1) n) % 2 ≡ broken_mark m i = omega (arith, small) in
      odd ∙ ap (broken_mark m) (omega arith)
  bit_is (suc n) i (suc k) h =
      let small = mark_small (there i m.len && ltb 0 (row_at m i).now.broken) in
      let halved : (broken_mark m i + 2 * broken_marks m (i + 1) n) / 2 ≡ broken_marks m (i + 1) n = omega (arith, small) in
      ap (λ (x : ℕ). bit x k) halved ∙ bit_is n (i + 1) k (omega arith) ∙ ap (broken_mark m) (omega arith)

  pub marks_below : (n i : ℕ) → broken_marks m i n < 2 ^ n
  unfolding broken_marks
  marks_below zero i = omega arith
  marks_below (suc n) i = omega (arith, marks_below n (i + 1), mark_small (there i m.len && ltb 0 (row_at m i).now.broken))

pub power_some : (n : ℕ) → 0 < 2 ^ n
power_some zero = omega arith
power_some (suc n) = omega (arith, power_some n)

module _ (i mask b : ℕ) (some_left : 0 < i) (few : i ≤ 32) (below : mask < 2 ^ (32 - i)) (bit : b ≤ 1) where
  -- what has a bit for each row from row i on has room for one more
  pub bits_next : mask * 2 + b < 2 ^ (32 - (i - 1))
  bits_next = let more : 32 - (i - 1) ≡ suc (32 - i) = omega arith in rw more (omega arith)

-- ---- the first row that has a mark

module _ (f : Row → Bool) where
  -- the first of those from row i on is row i or one behind it
  pub first_here : (n i : ℕ) (rows : List Row) → i < n → i < length rows
      → first_marked (n - i) f i (drop i rows) ≡ cond (f (get_or rows i no_row)) i (first_marked (n - (i + 1)) f (i + 1) (drop (i + 1) rows))
  unfolding first_marked
  first_here n i rows l there =
      let more : n - i ≡ suc (n - (i + 1)) = omega arith in
      rw more (one_more (n - (i + 1)) i i rows there ∙ rw (add-one i))
    where
      one_more : (n i k : ℕ) (rows : List Row) → i < length rows
          → first_marked (suc n) f k (drop i rows) ≡ cond (f (get_or rows i no_row)) k (first_marked n f (k + 1) (drop (suc i) rows))
      one_more n i k [] l = absurd (omega (arith, l))
      one_more n zero k (r ∷ rows) l = refl
      one_more n (suc i) k (r ∷ rows) l = one_more n i k rows (omega (arith, l))

  pub first_none : (n i : ℕ) (rows : List Row) → n ≤ i → first_marked (n - i) f i (drop i rows) ≡ row_limit
  unfolding first_marked
  first_none n i rows l = let none : n - i ≡ 0 = omega arith in rw none

-- the same marks on all rows that are there
first_same : (f g : Row → Bool) (n k : ℕ) (rows : List Row) → ((i : ℕ) → i < min n (length rows)
    → f (get_or rows i no_row) ≡ g (get_or rows i no_row))
    → first_marked (min n (length rows)) f k rows ≡ first_marked n g k rows
unfolding first_marked
first_same f g zero k rows same = let none : min 0 (length rows) ≡ 0 = omega arith in ap (λ (n : ℕ). first_marked n f k rows) none
first_same f g (suc n) k [] same = let none : min (suc n) 0 ≡ 0 = omega arith in ap (λ (x : ℕ). first_marked x f k []) none
first_same f g (suc n) k (r ∷ rows) same =
    let less : min (suc n) (suc (length rows)) ≡ suc (min n (length rows)) = omega arith in
    ap (λ (x : ℕ). first_marked x f k (r ∷ rows)) less
    ∙ ap₂ (λ (b : Bool) (x : ℕ). cond b k x) (same 0 (omega arith)) (first_same f g n (k + 1) rows (λ i l. same (suc i) (omega (arith, l))))

-- §15.11: in rows in which at most 64 wait, what is found by the types' own tests is the first row that the call crowds
pub first_crowded_is : (m : Monitor) (call : Call) → length m.rows ≡ row_limit → ((i : ℕ) → i < held_rows m → (row_at m i).now.len ≤ waiting_limit)
    → first_marked (held_rows m) (λ r. crowded_by r.parameters r.now (step_input_of m call)) 0 m.rows ≡ crowded_first m call
first_crowded_is m call whole few =
    let o = step_input_of m call in
    rw (← whole)
    (first_same (λ r. crowded_by r.parameters r.now o) (λ r. (row_step r o (next_step m)).crowded) m.len 0 m.rows
    (λ i l. crowded_known (row_at m i) o (few i (omega (arith, l, whole))) ∙ sym (step_crowds (row_at m i) o (next_step m))))
