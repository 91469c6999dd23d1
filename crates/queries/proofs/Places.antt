-- The words of a lent monitor at their places are the numbers of the monitor that lies there.
use Rattle.queries.proofs.Names.{Bool, Call, HoldsMonitor, Lent, List, Monitor, Shaped, Words, [], ◌<◌, ◌∙◌, ◌≡◌, ◌≤◌, ap, arith, get_or}
use Rattle.queries.proofs.Names.{held_rows, kept_at, lt-ltb, ltb, mark, refl, suc, zero}
use Rattle.queries.proofs.Names.{length, number_at, number_words, refusal_for, refusal_in, row_lies, row_at, row_limit, row_as_words, subst}
use Rattle.queries.proofs.Names.{waiting_limit, words_of_lent, ℕ}
use Rattle.row_type.specs.Words.{parameters_at, registers_at}
use Rattle.row.specs.Stored as Stored

-- the numbers of row i that are read
pub record RowLies (words : Words) (m : Monitor) (i : ℕ) : Type 0 where
  pub tag_is : get_or (get_or (get_or words i []) 1 []) 0 0 ≡ (row_at m i).parameters.tag
  pub head_is : get_or (get_or (get_or words i []) 1 []) 15 0 ≡ (row_at m i).now.head
  pub kept_is : get_or (get_or (get_or words i []) 1 []) 16 0 ≡ (row_at m i).now.len
  pub due_is : get_or (get_or (get_or words i []) 1 []) 17 0 ≡ (row_at m i).now.due
  pub mark_is : get_or (get_or (get_or words i []) 1 []) 18 0 ≡ (row_at m i).now.kept
  pub broken_is : get_or (get_or (get_or words i []) 1 []) 19 0 ≡ (row_at m i).now.broken

mark_is_one : (closed : ℕ) → closed ≤ 1 → mark (ltb 0 closed) ≡ closed
mark_is_one zero small = refl
mark_is_one (suc closed) small = rw (lt-ltb 0 (suc closed) (omega arith)) (omega (arith, small))

module _ (words : Words) (m : Monitor) (holds : HoldsMonitor words m) where
  -- what is said of the monitor whose words they are holds for the one stored in them
  pub said : (P : Monitor → Type 0) → ((h : Lent) → words ≡ words_of_lent h → Shaped h → P h.monitor) → P m
  said P so = subst P holds.monitor_is (so holds.lent holds.words_are holds.indexes.shaped)

  pub held_lies : (n : ℕ) → ((h : Lent) → words ≡ words_of_lent h → Shaped h → n ≡ held_rows h.monitor) → n ≡ held_rows m
  held_lies n = said (λ x. n ≡ held_rows x)

  pub closed_lies : (b : Bool) → ((h : Lent) → words ≡ words_of_lent h → Shaped h → b ≡ ltb 0 h.monitor.closed) → mark b ≡ m.closed
  closed_lies b so =
      ap mark (said (λ x. b ≡ ltb 0 x.closed) so)
      ∙ mark_is_one m.closed (subst (λ (x : Monitor). x.closed ≤ 1) holds.monitor_is holds.indexes.sound.closed_mark)

  pub clock_lies : get_or (get_or (get_or words 32 []) 0 []) 0 0 ≡ m.clock
  clock_lies = said (λ x. get_or (get_or (get_or words 32 []) 0 []) 0 0 ≡ x.clock) (λ h e s. number_at h s words e 0)

  pub count_lies : get_or (get_or (get_or words 32 []) 0 []) 1 0 ≡ m.count
  count_lies = said (λ x. get_or (get_or (get_or words 32 []) 0 []) 1 0 ≡ x.count) (λ h e s. number_at h s words e 1)

  pub refusal_lies : (call : Call) (n : ℕ) → ((h : Lent) → words ≡ words_of_lent h → Shaped h → n ≡ refusal_in h call) → n ≡ refusal_for m call
  refusal_lies call n = said (λ x. n ≡ refusal_for x call)

  pub few_wait : (i : ℕ) → i < held_rows m → (row_at m i).now.len ≤ waiting_limit
  few_wait =
      subst (λ (x : Monitor). (i : ℕ) → i < held_rows x → (row_at x i).now.len ≤ waiting_limit) holds.monitor_is holds.indexes.roomy.now_few

  pub rows_there : length m.rows ≡ row_limit
  rows_there = said (λ x. length x.rows ≡ row_limit) (λ h e s. s.rows_there)

  module _ (i : ℕ) (l : i < 32) where
    pub block_lies : get_or words i [] ≡ Stored.words_of_row (row_at m i) (kept_at m i)
    block_lies = said (λ x. get_or words i [] ≡ Stored.words_of_row (row_at x i) (kept_at x i)) (λ h e s. row_lies h s words e i l)

    pub times_lie : get_or (get_or words i []) 0 [] ≡ (row_at m i).times
    unfolding Stored.words_of_row row_as_words
    times_lie = ap (λ (w : List (List ℕ)). get_or w 0 []) block_lies

    pub parameters_lie : parameters_at (get_or (get_or words i []) 1 []) ≡ (row_at m i).parameters
    unfolding Stored.words_of_row row_as_words number_words
    parameters_lie = ap (λ (w : List (List ℕ)). parameters_at (get_or w 1 [])) block_lies

    pub registers_lie : registers_at (get_or (get_or words i []) 1 []) ≡ (row_at m i).now.registers
    unfolding Stored.words_of_row row_as_words number_words
    registers_lie = ap (λ (w : List (List ℕ)). registers_at (get_or w 1 [])) block_lies

    pub numbers_lie : RowLies words m i
    unfolding Stored.words_of_row row_as_words number_words
    numbers_lie = record { tag_is = place 0; head_is = place 15; kept_is = place 16; due_is = place 17; mark_is = place 18; broken_is = place 19 }
      where
        place : (k : ℕ) → get_or (get_or (get_or words i []) 1 []) k 0 ≡ get_or (get_or (Stored.words_of_row (row_at m i) (kept_at m i)) 1 []) k 0
        place k = ap (λ (w : List (List ℕ)). get_or (get_or w 1 []) k 0) block_lies
