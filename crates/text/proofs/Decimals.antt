-- Decimal digits: how the code takes them off one by one, how many there are, and what they stand for.
use Rattle.constraint.proofs.Library.{List, List·getD-append, [], ◌%◌, ◌*◌, ◌++◌, ◌+◌, ◌-◌, ◌/◌, ◌<◌, ◌^◌, ◌∙◌, ◌∷◌, ◌≡◌, ◌≤◌, ap, append_assoc}
use Rattle.constraint.proofs.Library.{arith, cond, dec_lt, drop, drop-cons, drop-set-lt, eqb, ext_get_or, get_or-replicate, get_or-set_same}
use Rattle.constraint.proofs.Library.{get_or-take}
use Rattle.constraint.proofs.Library.{le-ltb, length, length-append, length-drop, length-replicate, length-set, length-take-le, lt-ltb, ltb, ne_eqb}
use Rattle.constraint.proofs.Library.{pow-succ', replicate, set, suc, sym, take, take-append-drop, zero, ℕ}
use Rattle.constraint.proofs.Lists.{Each, each_append, each_cons, each_none}
use Rattle.constraint.specs.{Page.right_in, Report.blank, Report.decimal, Report.digits, Steps.at}
use Rattle.text.specs.Content.{number_from}

-- One by one from the last

-- the last digit is taken off
pub digits_more : (n x : ℕ) (rest : List ℕ) → 0 < n → 10 ≤ x → digits n x ++ rest ≡ digits (n - 1) (x / 10) ++ (48 + x % 10) ∷ rest
unfolding digits
digits_more zero x rest some more = absurd (omega arith)
digits_more (suc n) x rest some more =
    let less : suc n - 1 ≡ n = omega arith in
    rw (less, le-ltb x 10 more, append_assoc (digits n (x / 10)) ((48 + x % 10) ∷ []) rest)

-- one digit is left
pub digits_one : (n x : ℕ) → 0 < n → x < 10 → digits n x ≡ (48 + x) ∷ []
unfolding digits
digits_one zero x some one = absurd (omega arith)
digits_one (suc n) x some one =
    let same : x % 10 ≡ x = omega arith in
    rw (lt-ltb x 10 one, same)

-- a number with more than one digit, in suc n places: without its last it has room in n
digits_left : (n x : ℕ) → x < 10 ^ suc n → 10 ≤ x → (0 < n) × (x / 10 < 10 ^ n)
digits_left zero x fits more = absurd (omega arith)
digits_left (suc n) x fits more = (omega arith, omega (arith, pow-succ' 10 (suc n)))

pub digits_room : (n x : ℕ) → x < 10 ^ n → 10 ≤ x → (0 < n - 1) × (x / 10 < 10 ^ (n - 1))
digits_room zero x fits more = absurd (omega arith)
digits_room (suc n) x fits more =
    let less : suc n - 1 ≡ n = omega arith in
    rw less (digits_left n x fits more)

-- a byte is stored in front of the others
pub drop_stored : (l : List ℕ) (start v : ℕ) → 0 < start → start ≤ length l → drop (start - 1) (set l (start - 1) v) ≡ v ∷ drop start l
drop_stored l zero v some there = absurd (omega arith)
drop_stored l (suc i) v some there =
    let less : suc i - 1 ≡ i = omega arith in
    rw (
      less,
      drop-cons (set l i v) i 0 (omega (arith, length-set l i v)),
      get_or-set_same l i v 0 (omega arith),
      drop-set-lt (suc i) l i v (omega arith),
    )

-- blanks, and behind them the digits of a number, are the number right-aligned
pub aligned_right : (bytes : List ℕ) (start x : ℕ) → length bytes ≡ 20 → start ≤ 20 → ((k : ℕ) → k < start → at bytes k ≡ blank)
    → drop start bytes ≡ decimal x → bytes ≡ right_in 20 (decimal x)
aligned_right bytes start x size within blanks spelled =
    let gap : 20 - length (decimal x) ≡ start = omega (arith, ap length spelled, length-drop start bytes) in
    let kept : length (take start bytes) ≡ start = length-take-le start bytes (omega arith) in
    let front : take start bytes ≡ replicate start blank =
    ext_get_or 0 (take start bytes) (replicate start blank) (kept ∙ sym (length-replicate start blank))
    (λ k h. get_or-take start bytes k 0 (omega arith) ∙ blanks k (omega arith) ∙ sym (get_or-replicate start k blank 0 (omega arith))) in
    rw (gap, ← front, ← spelled) (sym (take-append-drop start bytes))

-- How many there are

-- the last digit is taken off, or it is the only one
by_last : (P : List ℕ → Type 0) (n x : ℕ) → (x < 10 → P ((48 + x) ∷ [])) → (10 ≤ x → P (digits n (x / 10) ++ ((48 + x % 10) ∷ [])))
    → P (digits (suc n) x)
unfolding digits
by_last P n x one more = go (dec_lt x 10)
  where
    go : Dec (x < 10) → P (cond (ltb x 10) [] (digits n (x / 10)) ++ ((48 + x % 10) ∷ []))
    go (yes below) = let same : x % 10 ≡ x = omega arith in rw (lt-ltb x 10 below, same) (one below)
    go (no above) = let higher : 10 ≤ x = omega arith in rw (le-ltb x 10 higher) (more higher)

digits_length : (n x : ℕ) → length (digits n x) ≤ n
unfolding digits
digits_length zero x = omega arith
digits_length (suc n) x =
    by_last (λ list. length list ≤ suc n) n x (λ below. omega arith)
    (λ above. omega (arith, length-append (digits n (x / 10)) ((48 + x % 10) ∷ []), digits_length n (x / 10)))

digits_some : (n x : ℕ) → 0 < n → 0 < length (digits n x)
digits_some zero x some = absurd (omega arith)
digits_some (suc n) x some =
    by_last (λ list. 0 < length list) n x (λ below. omega arith) (λ above. omega (arith, length-append (digits n (x / 10)) ((48 + x % 10) ∷ [])))

-- a number has from 1 to 20 digits
pub decimal_length : (x : ℕ) → (1 ≤ length (decimal x)) × (length (decimal x) ≤ 20)
decimal_length x = (digits_some 20 x (omega arith), digits_length 20 x)

-- a number below 10 ^ k has at most k
digits_few : (n k x : ℕ) → x < 10 ^ suc k → length (digits n x) ≤ suc k
unfolding digits
digits_few zero k x fits = omega arith
digits_few (suc n) zero x fits = by_last (λ list. length list ≤ 1) n x (λ below. omega arith) (λ above. absurd (omega arith))
digits_few (suc n) (suc k) x fits =
    by_last (λ list. length list ≤ suc (suc k)) n x (λ below. omega arith)
    (λ above.
    omega (arith, length-append (digits n (x / 10)) ((48 + x % 10) ∷ []), digits_few n k (x / 10) (omega (arith, pow-succ' 10 (suc k)))))

pub decimal_few : (k x : ℕ) → x < 10 ^ suc k → length (decimal x) ≤ suc k
decimal_few k x fits = digits_few 20 k x fits

-- each is a digit: no blank, no line end
digits_each : (n x : ℕ) → Each (λ byte. blank < byte) (digits n x)
unfolding digits
digits_each zero x = each_none (λ byte. blank < byte)
digits_each (suc n) x =
    by_last (Each (λ byte. blank < byte)) n x (λ below. one (48 + x) (omega arith))
    (λ above. each_append (λ byte. blank < byte) (digits n (x / 10)) ((48 + x % 10) ∷ []) (digits_each n (x / 10)) (one (48 + x % 10) (omega arith)))
  where
    one : (digit : ℕ) → blank < digit → Each (λ byte. blank < byte) (digit ∷ [])
    one digit above = each_cons (λ byte. blank < byte) digit [] above (each_none (λ byte. blank < byte))

pub decimal_each : (x : ℕ) → Each (λ byte. blank < byte) (decimal x)
decimal_each x = digits_each 20 x

-- What they stand for

-- one digit more
number_last : (high : ℕ) (list : List ℕ) (digit : ℕ) → blank < digit → number_from high (list ++ (digit ∷ []))
    ≡ number_from high list * 10 + (digit - 48)
unfolding number_from
number_last high [] digit above = rw (ne_eqb digit blank (λ e. omega arith))
number_last high (first ∷ list) digit above = number_last (cond (eqb first blank) high (high * 10 + (first - 48))) list digit above

digits_value : (n x : ℕ) → 0 < n → x < 10 ^ n → number_from 0 (digits n x) ≡ x
unfolding number_from
digits_value zero x some fits = absurd (omega arith)
digits_value (suc n) x some fits =
    by_last (λ list. number_from 0 list ≡ x) n x (λ below. rw (ne_eqb (48 + x) blank (λ e. omega arith)) (omega arith))
    (λ above.
    let room = digits_left n x fits above in
    rw (number_last 0 (digits n (x / 10)) (48 + x % 10) (omega arith), digits_value n (x / 10) room.0 room.1) (omega arith))

digits_first : (n x : ℕ) → 0 < n → x < 10 ^ n → 0 < x → 48 < at (digits n x) 0
digits_first zero x some fits above = absurd (omega arith)
digits_first (suc n) x some fits positive =
    by_last (λ list. 48 < at list 0) n x (λ below. omega arith)
    (λ above.
    let room = digits_left n x fits above in
    rw (List·getD-append (digits n (x / 10)) ((48 + x % 10) ∷ []) 0 0 (digits_some n (x / 10) room.0))
    (digits_first n (x / 10) room.0 room.1 (omega arith)))

-- §7.7: 20 digits are enough: they stand for the number
pub decimal_value : (x : ℕ) → x < 10 ^ 20 → number_from 0 (decimal x) ≡ x
decimal_value x fits = digits_value 20 x (omega arith) fits

-- §7.7: no leading zeros: the first digit is 0 of the number 0 alone, which is one digit
pub decimal_first : (x : ℕ) → x < 10 ^ 20 → 0 < x → 48 < at (decimal x) 0
decimal_first x fits positive = digits_first 20 x (omega arith) fits positive
