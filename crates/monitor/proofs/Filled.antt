-- A list of n places is filled from the front with what f makes of the items of another list, one after the other.
use Rattle.monitor.proofs.Names.{List, [], ◌++◌, ◌+◌, ◌-◌, ◌<◌, ◌∙◌, ◌∷◌, ◌≡◌, add-one, ap, append_snoc, arith, get_or, length, length-map}
use Rattle.monitor.proofs.Names.{length-take-le, map, map-append, replicate, set, set_at, suc, sym, take, take-suc, ℕ}

module _ {A B : Type 0} (f : A → B) (empty : B) (items : List A) (n : ℕ) where
  -- the first i items, and room behind them
  abbrev pub filled : ℕ → List B
  filled i = map f (take i items) ++ replicate (n - i) empty

  pub filled_next : (i : ℕ) (other : A) → i < length items → i < n → set (filled i) i (f (get_or items i other)) ≡ filled (i + 1)
  filled_next i other h l =
      let room : n - i ≡ suc (n - (i + 1)) = omega arith in
      let rest : List B = replicate (n - (i + 1)) empty in
      rw room
      (set_at (map f (take i items)) empty rest (f (get_or items i other)) i (length-map (take i items) f ∙ length-take-le i items (omega arith))
      ∙ sym (ap (λ (l : List B). l ++ rest) (ap (map f) (ap (λ (k : ℕ). take k items) (add-one i) ∙ take-suc items i other h)
      ∙ map-append f (take i items) (get_or items i other ∷ []))
      ∙ append_snoc (map f (take i items)) (f (get_or items i other)) rest))
