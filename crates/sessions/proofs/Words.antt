-- Each call leaves known words, so a list of them does; and of two monitors that differ in what may be withdrawn alone, the words differ in
-- those that say it and in the two numbers that are kept beside them.
use Rattle.sessions.proofs.Names.{Host, Indexes, Lent, List, Memory, Monitor, Request, Row, SameBare, SameButUndo, SameLists, SameNumbers}
use Rattle.sessions.proofs.Names.{SameRow, Shaped, Stepped, [], ◌-◌, ◌<◌, ◌∙◌, ◌∷◌, ◌≡◌, ap, asked, bare, coloured_read, drop, spare_read}
use Rattle.sessions.proofs.Names.{get_or, halves, kept_at, leaves, leaves_all, lists_stay, no_row, number_words, numbers_read, over, play, refl}
use Rattle.sessions.proofs.Names.{row_read, row_at, row_as_words, step, subst, subst₂, sym, take, words_of_lent, ℕ}
use Rattle.row.specs.Stored as Stored

-- ---- every word after a list of calls

-- what the list leaves: each word, which agrees with the monitor; the lists of rows as they were; and the machine's monitor
pub record Leaves (h : Lent) (requests : List Request) (end : Memory) : Type 0 where
  pub words_are : end ≡ words_of_lent (leaves_all h requests)
  pub indexes : Indexes (leaves_all h requests)
  pub lists : SameLists h (leaves_all h requests)
  pub monitor_is : (leaves_all h requests).monitor ≡ (play step h.monitor requests).monitor

pub leaves_known : {words end : Memory} {requests : List Request} {numbers : List ℕ} (h : Lent) → words ≡ words_of_lent h → Indexes h
    → Host words requests numbers end → Leaves h requests end
unfolding leaves_all play
leaves_known h are indexes over = record { words_are = are; indexes = indexes; lists = refl; monitor_is = refl }
leaves_known h are indexes (asked {requests = requests} r number takes rest) =
    let one = takes.steps h are indexes in
    let later = leaves_known (leaves h r) (takes.stores h are indexes.shaped).1 one.1 rest in
    let same = ap (λ (s : Stepped). s.monitor) one.0.equals in
    let stays = lists_stay h r in
    record {
      words_are = later.words_are;
      indexes = later.indexes;
      lists = later.lists ∙ stays;
      monitor_is = later.monitor_is ∙ ap (λ (m : Monitor). (play step m requests).monitor) same;
    }

-- ---- two monitors that differ in what may be withdrawn

module _ (x y : Lent) (shaped : Shaped x) (shaped' : Shaped y) (same : SameBare x.monitor y.monitor) where
  rows_same : x.monitor.rows ≡ y.monitor.rows
  unfolding bare
  rows_same = ap (λ (m : Monitor). m.rows) same

  row_same : (i : ℕ) → i < 32 → SameRow (get_or (words_of_lent x) i []) (get_or (words_of_lent y) i [])
  unfolding Stored.words_of_row row_as_words number_words
  row_same i small =
      subst₂ SameRow (sym (row_read x shaped i small)) (sym (row_read y shaped' i small))
      (subst (λ (r : Row). SameRow (Stored.words_of_row (row_at x.monitor i) (kept_at x.monitor i)) (Stored.words_of_row r (kept_at y.monitor i)))
      (ap (λ (rows : List Row). get_or rows i no_row) rows_same) (refl, refl, refl))

  numbers_same : x.lists ≡ y.lists → SameNumbers (get_or (words_of_lent x) 32 []) (get_or (words_of_lent y) 32 [])
  unfolding bare
  numbers_same lists =
      subst₂ SameNumbers (sym (numbers_read x shaped)) (sym (numbers_read y shaped')) (
        ap (λ (m : Monitor). m.clock ∷ m.count ∷ (1 - m.closed) ∷ m.len ∷ []) same,
        ap (λ (m : Monitor). 0 ∷ 0 ∷ 0 ∷ 0 ∷ take 48 m.next) same,
        lists,
      )

  pub same_words : x.lists ≡ y.lists → SameButUndo (words_of_lent x) (words_of_lent y)
  unfolding bare
  same_words lists =
      record {
        rows = row_same;
        numbers = numbers_same lists;
        spare = spare_read x shaped ∙ sym (spare_read y shaped');
        coloured = coloured_read x shaped ∙ ap (λ (m : Monitor). halves (drop 48 m.next)) same ∙ sym (coloured_read y shaped');
      }
