-- The questions 8 and 24 come first: where one is answered "no" that is the number, and else the call's own questions give it.
use Rattle.in_place.proofs.Names.{Bool, Call, Lent, Shaped, Stores, Words, ◌<◌, ◌∙◌, ◌≡◌, ◌≤◌, answer_to, ap, arith, asks, cond, cond_false}
use Rattle.in_place.proofs.Names.{cond_true, false, kind_refusal, last_count, last_kind, le-ltb, leb, left_after, lt-ltb, ltb, ltb-false, next_for}
use Rattle.in_place.proofs.Names.{Refusal, numbered, own_refusal, refl, refusal_number}
use Rattle.in_place.proofs.Names.{refusal_in, split, sym, true, words_of_lent, ℕ}

pub some_number : (refusal : Refusal) → ¬ (refusal_number refusal ≡ 0)
some_number refusal none = let some = numbered refusal in omega (arith, none, some.0)

first_no : (a b : Bool) (n own : ℕ) → n ≡ cond a 8 (cond b 24 0) → 0 < n → n ≡ cond a 8 (cond b 24 own)
first_no true b n own e l = e
first_no false true n own e l = e
first_no false false n own e l = absurd (omega (arith, e, l))

first_yes : (a b : Bool) (own : ℕ) → ◌≡◌ {A = ℕ} 0 (cond a 8 (cond b 24 0)) → cond a 8 (cond b 24 own) ≡ own
first_yes true b own e = absurd (omega (arith, e))
first_yes false true own e = absurd (omega (arith, e))
first_yes false false own e = refl

kind_no : (a b k : Bool) (n own : ℕ) → n ≡ cond a 8 (cond b 24 (cond k 9 0)) → 0 < n → n ≡ cond a 8 (cond b 24 (cond k 9 own))
kind_no true b k n own e l = e
kind_no false true k n own e l = e
kind_no false false true n own e l = e
kind_no false false false n own e l = absurd (omega (arith, e, l))

kind_yes : (a b k : Bool) (own : ℕ) → ◌≡◌ {A = ℕ} 0 (cond a 8 (cond b 24 (cond k 9 0))) → cond a 8 (cond b 24 (cond k 9 own)) ≡ own
kind_yes true b k own e = absurd (omega (arith, e))
kind_yes false true k own e = absurd (omega (arith, e))
kind_yes false false true own e = absurd (omega (arith, e))
kind_yes false false false own e = refl

module _ (h : Lent) where
  -- the first questions, and then some other
  abbrev pub asked_first : ℕ → ℕ
  asked_first own = cond (ltb 0 h.monitor.closed) 8 (cond (leb last_count h.monitor.count) 24 own)

  pub first_number : (first own : ℕ) → first ≡ asked_first 0 → 0 < first → first ≡ asked_first own
  first_number first own e l = first_no (ltb 0 h.monitor.closed) (leb last_count h.monitor.count) first own e l

  pub own_number : (number own : ℕ) → 0 ≡ asked_first 0 → number ≡ own → number ≡ asked_first own
  own_number number own e is = is ∙ sym (first_yes (ltb 0 h.monitor.closed) (leb last_count h.monitor.count) own e)

  -- the same for an event, whose kind is asked next
  pub kind_number : (kind first own : ℕ) → first ≡ kind_refusal h kind → 0 < first → first ≡ asked_first (cond (ltb last_kind kind) 9 own)
  kind_number kind first own e l = kind_no (ltb 0 h.monitor.closed) (leb last_count h.monitor.count) (ltb last_kind kind) first own e l

  pub form_number : (kind number own : ℕ) → 0 ≡ kind_refusal h kind → number ≡ own → number ≡ asked_first (cond (ltb last_kind kind) 9 own)
  form_number kind number own e is = is ∙ sym (kind_yes (ltb 0 h.monitor.closed) (leb last_count h.monitor.count) (ltb last_kind kind) own e)

pub not_closed : (closed : ℕ) (b : Bool) (own : ℕ) → cond (ltb 0 closed) 8 (cond b 24 own) ≡ 0 → closed ≡ 0
not_closed closed b own =
    split (ltb 0 closed) (λ z. cond z 8 (cond b 24 own) ≡ 0 → closed ≡ 0) (λ _ e. absurd (omega (arith, e)))
    (λ f _. omega (arith, ltb-false 0 closed f))

module _ (entry : Words) (call : Call) (refusal : ℕ) (asked : (h : Lent) → entry ≡ words_of_lent h → Shaped h → refusal ≡ refusal_in h call) where
  pub refused_stores : 0 < refusal → Stores entry (asks call) refusal entry
  refused_stores some =
      record {
        untouched = λ _. refl;
        stores = λ h e s.
            let is = asked h e s in
            let test = lt-ltb 0 (refusal_in h call) (omega (arith, is, some)) in (
              is ∙ sym (cond_true (ltb 0 (refusal_in h call)) (refusal_in h call) (answer_to h call) test),
              e ∙ sym (ap words_of_lent (cond_true (ltb 0 (refusal_in h call)) h (left_after h call) test)),
            );
      }

  pub taken_stores : (number : ℕ) (exit : Words) → refusal ≤ 0 → (¬ (number ≡ 0) → exit ≡ entry)
      → ((h : Lent) → entry ≡ words_of_lent h → Shaped h → h.monitor.closed ≡ 0 → (number ≡ answer_to h call)
      × (exit ≡ words_of_lent (left_after h call)))
      → Stores entry (asks call) number exit
  taken_stores number exit none same done =
      record {
        untouched = same;
        stores = λ h e s.
            let is = asked h e s in
            let zero_is : refusal_in h call ≡ 0 = omega (arith, is, none) in
            let test = le-ltb 0 (refusal_in h call) (omega (arith, zero_is)) in
            let going = not_closed h.monitor.closed (leb last_count h.monitor.count)
            (own_refusal call h.monitor.clock (next_for h.monitor call)) zero_is in
            let so = done h e s going in (
              so.0 ∙ sym (cond_false (ltb 0 (refusal_in h call)) (refusal_in h call) (answer_to h call) test),
              so.1 ∙ sym (ap words_of_lent (cond_false (ltb 0 (refusal_in h call)) h (left_after h call) test)),
            );
      }
