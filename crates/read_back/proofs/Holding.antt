-- The words of a row of a monitor hold the row of the table: its numbers and constants stay what they were, and give its fields again.
use Rattle.constraint.proofs.Library.{List, [], ◌<◌, ◌∙◌, ◌≡◌, ◌≤◌, ap, arith, get_or, length, refl, subst, sym, ℕ}
use Rattle.constraint.specs.Accepted.{Accepted}
use Rattle.constraint.specs.Constraint.{Constraint}
use Rattle.constraint.specs.Run.{Request}
use Rattle.constraint.specs.Steps.{at}
use Rattle.constraint.specs.Table.{row_body}
use Rattle.constraint.specs.Types.{Known, TypeKnown, count_of, type_of}
use Rattle.table_row.proofs.{Judging.known_row, Judging.row_known, Standing.type_listed}
use Rattle.table_row.specs.Records.{row_read}
use Rattle.row_type.specs.Words.{number_words, parameters_at, row_as_words}
use Rattle.row_type.specs.declared.Parameters.{Parameters}
use Rattle.row.proofs.EveryType.{every_type_exact}
use Rattle.row.specs.Stored.{words_of_row}
use Rattle.row.specs.declared.{Row.Row, RowUndo.RowUndo}
use Rattle.monitor.proofs.{Demand.has_none, Demand.has_row, Withdrawing.after_follows}
use Rattle.monitor.specs.Contract.{after}
use Rattle.monitor.specs.declared.Monitor.{Monitor}
use Rattle.in_place.proofs.Blocks.{row_lies}
use Rattle.in_place.specs.Contract.{HoldsMonitor}
use Rattle.in_place.specs.Layout.{Lent, Shaped, Words, held_rows, kept_at, row_at, words_of_lent}
use Rattle.read_back.specs.Back.{row_back, values_in}
use Rattle.read_back.specs.Contract.{GivesBody, MonitorRowBack, WordsBack, a_row, no_row_lem, nothing_given, some_given}
use Rattle.read_back.proofs.Bodies.{known_at}
use Rattle.read_back.proofs.Inverse.{inverse}
use Rattle.read_back.proofs.Kept.{Kept, kept_after}

-- ---- a row's words

module _ (words : List (List ℕ)) (p : Parameters) (is : p ≡ parameters_at (get_or words 1 [])) (v : List ℕ)
    (from : v ≡ values_in p (get_or words 0 [])) (before : List ℕ) where
  back_is : row_read p.tag v ≡ row_back (parameters_at (get_or words 1 [])) (get_or words 0 [])
  unfolding row_back
  back_is = ap (row_read p.tag) from ∙ ap (λ (q : Parameters). row_read q.tag (values_in q (get_or words 0 []))) is

  -- a row of no known type
  pub unknown_back : ¬ TypeKnown 2 p.tag (at v 0) → WordsBack words before 15 before
  unknown_back unknown =
      record {
        answers = nothing_given;
        gives = λ c same known. absurd (unknown (known_row 2 p.tag v
            (subst (λ (d : Constraint). TypeKnown 2 (type_of d) (count_of d)) (same ∙ sym back_is) known)));
      }

  pub known_back : TypeKnown 2 p.tag (at v 0) → Known (row_read p.tag v)
  known_back known = (2, row_known 2 p.tag v known)

  pub given_back : {number : ℕ} {written : List ℕ} → GivesBody (row_body (row_read p.tag v)) before number written
      → WordsBack words before number written
  given_back {number} {written} gives =
      record {
        answers = some_given _ gives;
        gives = λ c same known.
            subst (λ (d : Constraint). GivesBody (row_body d) before number written) (back_is ∙ sym same) gives;
      }

-- a number above those of the types
pub far_back : (words : List (List ℕ)) (p : Parameters) → p ≡ parameters_at (get_or words 1 []) → (before : List ℕ) → 17 < p.tag
    → WordsBack words before 15 before
far_back words p is before far =
    unknown_back words p is (values_in p (get_or words 0 [])) refl before
    (λ known. let small : p.tag ≤ 17 = known.type_known.1 in absurd (omega (arith, small, far)))

-- ---- a monitor

-- a type of any edition is one of the second
pub newest_known : (edition t n : ℕ) → TypeKnown edition t n → TypeKnown 2 t n
newest_known edition t n known =
    let listed = type_listed edition t known.type_known in
    record { type_known = (listed.0, omega (arith, listed.1)); n_known = known.n_known }

module _ (rows : List Constraint) (requests : List Request) (accepted : Accepted rows) (i : ℕ) where
  pub counted : (m : Monitor) → m ≡ after rows requests → held_rows m ≡ length rows
  counted m e =
      let f = (after_follows every_type_exact rows requests accepted).2 in
      let len : m.len ≡ length rows = ap (λ (x : Monitor). x.len) e ∙ f.len_is in omega (arith, len, f.few)

-- a row's words, by the row
words_back : (words : List (List ℕ)) (r : Row) (b : RowUndo) → words ≡ words_of_row r b
    → row_back (parameters_at (get_or words 1 [])) (get_or words 0 []) ≡ row_back r.parameters r.times
unfolding words_of_row row_as_words number_words
words_back words r b is = ap (λ (w : List (List ℕ)). row_back (parameters_at (get_or w 1 [])) (get_or w 0 [])) is

module _ (m : Monitor) (i : ℕ) (before : List ℕ) where
  pub missing_back : held_rows m ≤ i → MonitorRowBack m i before 15 before
  missing_back past =
      record { means = λ rows requests accepted e. no_row_lem (has_none rows i (omega (arith, counted rows requests accepted i m e, past))) }

  pub found_back : (words : Words) → HoldsMonitor words m → i < held_rows m → i < 32 → {number : ℕ} {written : List ℕ}
      → WordsBack (get_or words i []) before number written → MonitorRowBack m i before number written
  found_back words holds there few back =
      record {
        means = λ rows requests accepted e.
            let (c, is) = has_row rows i (omega (arith, counted rows requests accepted i m e, there)) in
            let kept = subst (λ (x : Monitor). Kept c (row_at x i)) (sym e) (kept_after rows accepted requests i c is) in
            let block = subst (λ (x : Monitor). get_or words i [] ≡ words_of_row (row_at x i) (kept_at x i)) holds.monitor_is
            (row_lies holds.lent holds.indexes.shaped words holds.words_are i few) in
            let known = known_at accepted.0 rows accepted.1 i c is in
            let same = words_back (get_or words i []) (row_at m i) (kept_at m i) block
            ∙ ap (λ (p : Parameters). row_back p (row_at m i).times) kept.parameters_is
            ∙ inverse (row_at m i).times c known.n_known kept.constants in
            a_row c is (back.gives c (sym same) (newest_known accepted.0 (type_of c) (count_of c) known));
      }

-- the number of rows that is read off the words
pub held_lies : (words : Words) (m : Monitor) → HoldsMonitor words m → (n : ℕ)
    → ((h : Lent) → words ≡ words_of_lent h → Shaped h → n ≡ held_rows h.monitor) → n ≡ held_rows m
held_lies words m holds n so =
    subst (λ (x : Monitor). n ≡ held_rows x) holds.monitor_is (so holds.lent holds.words_are holds.indexes.shaped)
