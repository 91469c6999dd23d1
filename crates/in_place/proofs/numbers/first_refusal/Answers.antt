-- A word of 0 says closed, and the count stands beside it.
use Rattle.in_place.proofs.Names.{List, [], ◌-◌, ◌<◌, ◌∙◌, ◌≡◌, ◌≤◌, ap, arith, get_or, last_count, le-leb, le-ltb, lt-leb, lt-ltb, refl}
use Rattle.in_place.proofs.Names.{suc}
use Rattle.in_place.proofs.Names.{sym, zero, ℕ}
use Rattle.in_place.proofs.{Parts.numbers_read}
use Rattle.in_place.proofs.numbers.first_refusal.Goals as goal

-- a word that is not 0 says that the recording is not closed
none_closed : (closed word : ℕ) → 1 - closed ≡ word → ¬ (word ≡ 0) → closed ≤ 0
none_closed zero word e some = omega arith
none_closed (suc closed) word e some = absurd (some (omega (arith, e)))

pub returns-then-m-eq0 : goal.returns-then-m-eq0
returns-then-m-eq0 c h e s =
    let going = ap (λ m. get_or (get_or (get_or m 32 []) 0 []) 2 0) e ∙ ap (λ (b : List (List ℕ)). get_or (get_or b 0 []) 2 0) (numbers_read h s) in
    rw (lt-ltb 0 h.monitor.closed (omega (arith, going, c.if-m-eq0.true))) refl

pub returns-then-m-ge-LAST_COUNT : goal.returns-then-m-ge-LAST_COUNT
returns-then-m-ge-LAST_COUNT c h e s =
    let going = ap (λ m. get_or (get_or (get_or m 32 []) 0 []) 2 0) e ∙ ap (λ (b : List (List ℕ)). get_or (get_or b 0 []) 2 0) (numbers_read h s) in
    let count = ap (λ m. get_or (get_or (get_or m 32 []) 0 []) 1 0) e ∙ ap (λ (b : List (List ℕ)). get_or (get_or b 0 []) 1 0) (numbers_read h s) in
    let more : last_count ≤ h.monitor.count = omega (arith, count, c.if-m-ge-LAST_COUNT.true) in
    rw (
      le-ltb 0 h.monitor.closed (none_closed h.monitor.closed _ (sym going) c.if-m-eq0.false),
      le-leb last_count h.monitor.count more,
    ) refl

pub returns : goal.returns
returns c h e s =
    let going = ap (λ m. get_or (get_or (get_or m 32 []) 0 []) 2 0) e ∙ ap (λ (b : List (List ℕ)). get_or (get_or b 0 []) 2 0) (numbers_read h s) in
    let count = ap (λ m. get_or (get_or (get_or m 32 []) 0 []) 1 0) e ∙ ap (λ (b : List (List ℕ)). get_or (get_or b 0 []) 1 0) (numbers_read h s) in
    let less : h.monitor.count < last_count = omega (arith, count, c.if-m-ge-LAST_COUNT.false) in
    rw (
      le-ltb 0 h.monitor.closed (none_closed h.monitor.closed _ (sym going) c.if-m-eq0.false),
      lt-leb last_count h.monitor.count less,
    ) refl
