-- Hidden points: what one more event adds is its own point, behind the last.
use Rattle.constraint.proofs.Library.{List, [], ◌++◌, ◌+◌, ◌<◌, ◌∙◌, ◌∷◌, ◌≡◌, arith, by_cases, dec_lt, get_or-take, length, length-append}
use Rattle.constraint.proofs.Library.{length-take}
use Rattle.constraint.proofs.Library.{refl, subst, sym, take, ℕ}
use Rattle.constraint.proofs.Lists.{at_left, at_next}
use Rattle.constraint.specs.{Meets.Apart, Meets.Between, Meets.HiddenPoints, Steps.at}

-- q can be the point behind p
abbrev pub NextPoint : ℕ → ℕ → ℕ → ℕ → Type 0
NextPoint lower upper p q = (p < q) × Apart lower upper p q

-- the points of the first events are the first points
pub points_first : (span lower upper jitter : ℕ) (xs ys points : List ℕ) → HiddenPoints span lower upper jitter (xs ++ ys) points
    → HiddenPoints span lower upper jitter xs (take (length xs) points)
points_first span lower upper jitter xs ys points hidden =
    record {
      one_each = length-take (length xs) points ∙ omega (arith, hidden.one_each, length-append xs ys);
      near = λ i h. rw (get_or-take (length xs) points i 0 h) (rw (at_left xs ys i h) at (hidden.near i (omega (arith, length-append xs ys))));
      rise = λ i h. rw (get_or-take (length xs) points i 0 (omega arith), get_or-take (length xs) points (i + 1) 0 h)
          (hidden.rise i (omega (arith, length-append xs ys)));
      apart = λ i h. rw (get_or-take (length xs) points i 0 (omega arith), get_or-take (length xs) points (i + span) 0 h)
          (hidden.apart i (omega (arith, length-append xs ys)));
    }

module _ (lower upper jitter : ℕ) where
  pub points_none : (events : List ℕ) → length events ≡ 0 → HiddenPoints 1 lower upper jitter events []
  points_none events e =
      record { one_each = sym e; near = λ i h. absurd (omega arith); rise = λ i h. absurd (omega arith); apart = λ i h. absurd (omega arith) }

  module _ (events : List ℕ) (t : ℕ) (points : List ℕ) where
    pub points_more : (q : ℕ) → HiddenPoints 1 lower upper jitter events points → Between 0 jitter q t
        → ((n : ℕ) → n + 1 ≡ length events → NextPoint lower upper (at points n) q)
        → HiddenPoints 1 lower upper jitter (events ++ (t ∷ [])) (points ++ (q ∷ []))
    points_more q hidden near next =
        record {
          one_each = length-append points (q ∷ []) ∙ omega (arith, hidden.one_each, length-append events (t ∷ []));
          near = all_near;
          rise = λ i h. (all_next i h).0;
          apart = λ i h. (all_next i h).1;
        }
      where
        all_near : (i : ℕ) → i < length (events ++ (t ∷ [])) → Between 0 jitter (at (points ++ (q ∷ [])) i) (at (events ++ (t ∷ [])) i)
        all_near i h =
            by_cases (dec_lt i (length events))
            (λ old. rw (at_left points (q ∷ []) i (omega (arith, hidden.one_each)), at_left events (t ∷ []) i old) (hidden.near i old))
            (λ end. let e : i ≡ length events = omega (arith, length-append events (t ∷ [])) in
            rw (at_next points q [] i (e ∙ sym hidden.one_each), at_next events t [] i e) near)

        all_next : (i : ℕ) → i + 1 < length (events ++ (t ∷ [])) → NextPoint lower upper (at (points ++ (q ∷ [])) i) (at (points ++ (q ∷ [])) (i + 1))
        all_next i h =
            rw (at_left points (q ∷ []) i (omega (arith, hidden.one_each, length-append events (t ∷ []))))
            (by_cases (dec_lt (i + 1) (length events))
            (λ old. rw (at_left points (q ∷ []) (i + 1) (omega (arith, hidden.one_each))) (hidden.rise i old, hidden.apart i old))
            (λ end. let e : i + 1 ≡ length events = omega (arith, length-append events (t ∷ [])) in
            rw (at_next points q [] (i + 1) (e ∙ sym hidden.one_each)) (next i e)))

    pub points_near : HiddenPoints 1 lower upper jitter (events ++ (t ∷ [])) points → Between 0 jitter (at points (length events)) t
    points_near hidden =
        rw (at_next events t [] (length events) refl) at (hidden.near (length events) (omega (arith, length-append events (t ∷ []))))

    pub points_next : HiddenPoints 1 lower upper jitter (events ++ (t ∷ [])) points → (n : ℕ) → n + 1 ≡ length events
        → NextPoint lower upper (at points n) (at points (length events))
    points_next hidden n e =
        let last : n + 1 < length (events ++ (t ∷ [])) = omega (arith, length-append events (t ∷ [])) in
        subst (λ (m : ℕ). NextPoint lower upper (at points n) (at points m)) e (hidden.rise n last, hidden.apart n last)
