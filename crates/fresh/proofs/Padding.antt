-- A list that is padded with zeros: a store just behind it makes it one longer, and where it has no room for one more nothing changes.
use Rattle.fresh.proofs.Names.{List, [], ◌++◌, ◌+◌, ◌<◌, ◌∙◌, ◌∷◌, ◌≡◌, ◌≤◌, add-one, ap, append_assoc, append_snoc, arith}
use Rattle.fresh.proofs.Names.{length, length-append, length-replicate, length-set, length-take-le, ltb, ltb-false, ltb-true}
use Rattle.fresh.proofs.Names.{padded, refl, replicate, replicate-append-replicate, set, set_at, split, suc, sym, take, take_all}
use Rattle.fresh.proofs.Names.{take-append-le, take-length, take-set-le, take-set-lt, zero, ℕ}

set_past : (i v : ℕ) (l : List ℕ) → length l ≤ i → set l i v ≡ l
set_past i v l past = sym (take_all (length l) (set l i v) (omega (arith, length-set l i v))) ∙ take-set-le (length l) l i v past ∙ take-length l

module _ (list : List ℕ) where
  behind_length : (places : ℕ) → length (list ++ replicate places 0) ≡ length list + places
  behind_length places = length-append list (replicate places 0) ∙ ap (λ (n : ℕ). length list + n) (length-replicate {A = ℕ} places 0)

  pub padded_length : (places : ℕ) → length (padded places list) ≡ places
  unfolding padded
  padded_length places = length-take-le places (list ++ replicate places 0) (omega (arith, behind_length places))

  -- ---- one more

  -- the zeros behind it are enough
  stored_next : (places v : ℕ) → length list < places
      → take places (set (list ++ replicate places 0) (length list) v) ≡ take places (list ++ (v ∷ []) ++ replicate places 0)
  stored_next zero v room = absurd (omega (arith, room))
  stored_next (suc n) v room =
      let whole : List ℕ = list ++ (v ∷ replicate n 0) in
      let long : length whole ≡ length list + suc n =
      length-append list (v ∷ replicate n 0) ∙ ap (λ (k : ℕ). length list + suc k) (length-replicate {A = ℕ} n 0) in
      ap (take (suc n)) (set_at list 0 (replicate n 0) v (length list) refl)
      ∙ sym (take-append-le (suc n) whole (0 ∷ []) (omega (arith, long)))
      ∙ ap (take (suc n)) (append_assoc list (v ∷ replicate n 0) (0 ∷ [])
      ∙ ap (λ (zeros : List ℕ). list ++ (v ∷ zeros)) (replicate-append-replicate n 1 0 ∙ ap (λ (k : ℕ). replicate k 0) (add-one n))
      ∙ sym (append_snoc list v (replicate (suc n) 0)))

  pub padded_next : (places v : ℕ) → set (padded places list) (length list) v ≡ padded places (list ++ (v ∷ []))
  unfolding padded
  padded_next places v =
      split (ltb (length list) places) (λ _. set (padded places list) (length list) v ≡ padded places (list ++ (v ∷ [])))
      (λ e. sym (take-set-lt places (list ++ replicate places 0) (length list) v (ltb-true (length list) places e))
      ∙ stored_next places v (ltb-true (length list) places e))
      (λ e.
      let past : places ≤ length list = ltb-false (length list) places e in
      let longer : length (list ++ (v ∷ [])) ≡ length list + 1 = length-append list (v ∷ []) in
      set_past (length list) v (take places (list ++ replicate places 0)) (omega (arith, padded_length places, past))
      ∙ take-append-le places list (replicate places 0) past
      ∙ sym (take-append-le places (list ++ (v ∷ [])) (replicate places 0) (omega (arith, longer, past)) ∙ take-append-le places list (v ∷ []) past))
