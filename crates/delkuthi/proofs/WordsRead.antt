-- What is read of the words of a lent monitor is what the monitor that lies there says: each of its numbers has its own place.
use Rattle.std.specs.Int.{from_bool}
use Rattle.constraint.proofs.Library.{ltb-false}
use Rattle.delkuthi.proofs.Names.{Bool, HoldsMonitor, Lent, List, Monitor, Request, Shaped, Stepped, Steps, Takes, Words, [], ◌<◌, ◌≤◌, ◌∙◌, ◌≡◌}
use Rattle.delkuthi.proofs.Names.{answer_from, ap, arith, get_or, held_rows, kept_at, leaves, length, min, no_row, number_at, number_words}
use Rattle.delkuthi.proofs.Names.{ltb, ltb-true, place_small, place_of, refl, result_of, row_lies, row_at, row_limit, row_as_words, split}
use Rattle.delkuthi.proofs.Names.{stepped_from, subst, sym}
use Rattle.delkuthi.proofs.Names.{verdict_by, words_of_lent, ℕ}
use Rattle.row.specs.Stored as Stored

-- what crate lent says of the words, whatever monitor they are
abbrev pub Said : Words → (Lent → Type 0) → Type 0
Said words Says = (x : Lent) → words ≡ words_of_lent x → Shaped x → Says x

module _ (words : Words) (m : Monitor) (holds : HoldsMonitor words m) where
  abbrev h : Lent
  h = holds.lent

  is : h.monitor ≡ m
  is = holds.monitor_is

  pub rows_there : length m.rows ≡ row_limit
  rows_there = ap (λ (x : Monitor). length x.rows) (sym is) ∙ holds.indexes.shaped.rows_there

  pub len_read : (n : ℕ) → Said words (λ x. n ≡ held_rows x.monitor) → n ≡ m.len
  len_read n says =
      let here : n ≡ min h.monitor.len row_limit = says h holds.words_are holds.indexes.shaped in
      subst (λ (x : Monitor). n ≡ x.len) is (omega (arith, here, holds.indexes.sound.rows_few))

  pub closed_read : (b : Bool) → Said words (λ x. b ≡ ltb 0 x.monitor.closed) → b ≡ ltb 0 m.closed
  closed_read b says = subst (λ (x : Monitor). b ≡ ltb 0 x.closed) is (says h holds.words_are holds.indexes.shaped)

  -- its number
  mark_read : (b : Bool) → Said words (λ x. b ≡ ltb 0 x.monitor.closed) → from_bool b ≡ m.closed
  mark_read b says =
      let few : m.closed ≤ 1 = subst (λ (x : Monitor). x.closed ≤ 1) is holds.indexes.sound.closed_mark in
      rw (closed_read b says)
      (split (ltb 0 m.closed) (λ v. from_bool v ≡ m.closed) (λ e. omega (arith, ltb-true 0 m.closed e))
      (λ e. omega (arith, ltb-false 0 m.closed e)))

  pub count_read : get_or (get_or (get_or words 32 []) 0 []) 1 0 ≡ m.count
  count_read = number_at h holds.indexes.shaped words holds.words_are 1 ∙ ap (λ (x : Monitor). x.count) is

  module _ (i : ℕ) (small : i < 32) where
    number_read : (k : ℕ) → get_or (get_or (get_or words i []) 1 []) k 0
        ≡ get_or (get_or (Stored.words_of_row (row_at h.monitor i) (kept_at h.monitor i)) 1 []) k 0
    number_read k = ap (λ (w : List (List ℕ)). get_or (get_or w 1 []) k 0) (row_lies h holds.indexes.shaped words holds.words_are i small)

    pub broken_read : get_or (get_or (get_or words i []) 1 []) 19 0 ≡ (get_or m.rows i no_row).now.broken
    unfolding Stored.words_of_row row_as_words number_words
    broken_read = number_read 19 ∙ ap (λ (x : Monitor). (get_or x.rows i no_row).now.broken) is

    pub tag_read : get_or (get_or (get_or words i []) 1 []) 0 0 ≡ (get_or m.rows i no_row).parameters.tag
    unfolding Stored.words_of_row row_as_words number_words
    tag_read = number_read 0 ∙ ap (λ (x : Monitor). (get_or x.rows i no_row).parameters.tag) is

-- ---- a row's verdict

-- the place of a row is one of 32
pub placed : (at row : ℕ) → at ≡ place_of row → at < row_limit
placed at row e = subst (λ (k : ℕ). k < row_limit) (sym e) (place_small row)

-- what it is read off
pub verdict_read : (words : Words) (m : Monitor) → HoldsMonitor words m → (row at len : ℕ) (closed : Bool) → at ≡ place_of row
    → Said words (λ x. len ≡ held_rows x.monitor) → Said words (λ x. closed ≡ ltb 0 x.monitor.closed)
    → verdict_by row len (from_bool closed) (get_or (get_or (get_or words at []) 1 []) 19 0)
    ≡ verdict_by row m.len m.closed (get_or m.rows (place_of row) no_row).now.broken
verdict_read words m holds row at len closed there counted marked =
    let broken : ℕ = get_or (get_or (get_or words at []) 1 []) 19 0 in
    ap (λ (n : ℕ). verdict_by row n (from_bool closed) broken) (len_read words m holds len counted)
    ∙ ap (λ (n : ℕ). verdict_by row m.len n broken) (mark_read words m holds closed marked)
    ∙ ap (verdict_by row m.len m.closed)
    (broken_read words m holds at (placed at row there) ∙ ap (λ (k : ℕ). (get_or m.rows k no_row).now.broken) there)

-- ---- a call on them

-- what a call on the words answers and leaves there is what the machine gives
pub call_steps : {entry exit : Words} {r : Request} {number : ℕ} (m : Monitor) → HoldsMonitor entry m → Takes entry r number exit
    → (m' : Monitor) × Steps m r (stepped_from number m') × HoldsMonitor exit m'
call_steps {r = r} {number = number} m holds takes =
    let h = holds.lent in
    let one = takes.steps h holds.words_are holds.indexes in (
      (leaves h r).monitor,
      subst (λ (x : Monitor). Steps x r (stepped_from number (leaves h r).monitor)) holds.monitor_is one.0,
      record { lent = leaves h r; words_are = (takes.stores h holds.words_are holds.indexes.shaped).1; indexes = one.1; monitor_is = refl },
    )

pub call_holds : {entry exit : Words} {r : Request} {number : ℕ} (m : Monitor) → HoldsMonitor entry m → Takes entry r number exit
    → (answer_from number ≡ (result_of m r).answer) × HoldsMonitor exit (result_of m r).monitor
call_holds {exit = exit} m holds takes =
    let one = call_steps m holds takes in
    (ap (λ (s : Stepped). s.answer) one.1.equals, subst (HoldsMonitor exit) (ap (λ (s : Stepped). s.monitor) one.1.equals) one.2)
