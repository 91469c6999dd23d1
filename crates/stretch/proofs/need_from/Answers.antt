-- The loop steps one row where it lies, from record to record: it ends where the row breaks, where a step crowds it, or behind the last record.
use Rattle.constraint.proofs.Library.{List, [], ◌+◌, ◌-◌, ◌<◌, ◌∙◌, ◌≡◌, ◌≤◌, ap, arith, get_or, subst, sym, ℕ}
use Rattle.row_type.specs.Words.{number_words, row_as_words}
use Rattle.row.specs.{StepParts.crowded_by, StepParts.stepped_row, Stored.step_keeps, Stored.words_of_row}
use Rattle.row.specs.{declared.Row.Row, declared.RowUndo.RowUndo, declared.StepInput.StepInput}
use Rattle.stretch.specs.Machine.{NeedsFrom}
use Rattle.stretch.proofs.Runs.{to_broken, to_crowded, to_end, to_next, to_start}
use Rattle.table_row.specs.Records.{row_in}
use Rattle.stretch.proofs.need_from.Goals as goal

-- a row that lies in words is broken by the word that says so
broken_word : (words : List (List ℕ)) (r : Row) → (b : _) → words ≡ words_of_row r b → get_or (get_or words 1 []) 19 0 ≡ r.now.broken
unfolding words_of_row row_as_words number_words
broken_word words r b e = ap (λ m. get_or (get_or m 1 []) 19 0) e

-- the words after a step, which is given its number in another way
as_numbered : (r : Row) (b : RowUndo) {o p : StepInput} {m n : ℕ} → o ≡ p → m ≡ n
    → words_of_row (stepped_row o m r) (step_keeps o m r b) ≡ words_of_row (stepped_row p n r) (step_keeps p n r b)
as_numbered r b e f = rw (e, f)

pub loop-at-init : goal.loop-at-init
loop-at-init c =
    let args = c.args in (
      c.requires.0,
      (0, to_start args.records.now args.count args.start c.requires.0 (row_in args.wanted) _ c.begin.ensures),
    )

pub returns-then-step_overflows : goal.returns-then-step_overflows
returns-then-step_overflows c =
    let args = c.args in
    let inv = c.loop-at.invariant in let here = inv.1.1 in
    let r = here.row in
    let asked = c.step_overflows.ensures r here.before here.lies
    ∙ ap (λ (o : StepInput). crowded_by r.parameters r.now o) c.seen-o.ensures in
    to_crowded args.records.now args.count args.start inv.0 _ _ _ _ here.to (omega arith)
    (sym asked ∙ c.if-step_overflows.true) (row_in args.wanted) c.begin.ensures

pub returns-then-words-gt0 : goal.returns-then-words-gt0
returns-then-words-gt0 c =
    let args = c.args in
    let inv = c.loop-at.invariant in let here = inv.1.1 in
    let r = here.row in
    let asked = c.step_overflows.ensures r here.before here.lies
    ∙ ap (λ (o : StepInput). crowded_by r.parameters r.now o) c.seen-o.ensures in
    let steps : c.loop-at.at - args.start + 1 ≡ inv.1.0 + 1 = omega (arith, here.to.placed) in
    let stepped = c.step.ensures r here.before here.lies
    ∙ as_numbered r here.before c.seen-o.ensures steps in
    subst (NeedsFrom (row_in args.wanted) args.records.now args.count args.start) (sym steps)
    (to_broken args.records.now args.count args.start inv.0 _ _ _ _ here.to (omega arith)
    (sym asked ∙ c.if-step_overflows.false) (subst (λ (n : ℕ). 0 < n) (broken_word _ _ _ stepped) c.if-words-gt0.true)
    (row_in args.wanted) c.begin.ensures)

pub loop-at-preserved : goal.loop-at-preserved
loop-at-preserved c =
    let args = c.args in
    let inv = c.loop-at.invariant in let here = inv.1.1 in
    let r = here.row in
    let asked = c.step_overflows.ensures r here.before here.lies
    ∙ ap (λ (o : StepInput). crowded_by r.parameters r.now o) c.seen-o.ensures in
    let steps : c.loop-at.at - args.start + 1 ≡ inv.1.0 + 1 = omega (arith, here.to.placed) in
    let stepped = c.step.ensures r here.before here.lies
    ∙ as_numbered r here.before c.seen-o.ensures steps in (
      inv.0,
      (
        inv.1.0 + 1,
        record {
          row = _;
          before = _;
          lies = stepped;
          to = to_next args.records.now args.count args.start inv.0 _ _ _ _ here.to (omega arith)
              (sym asked ∙ c.if-step_overflows.false) (subst (λ (n : ℕ). n ≤ 0) (broken_word _ _ _ stepped) c.if-words-gt0.false);
        },
      ),
    )

pub returns : goal.returns
returns c =
    let args = c.args in
    let inv = c.loop-at.invariant in
    to_end args.records.now args.count args.start inv.0 _ _ _ _ inv.1.1.to (omega arith) (row_in args.wanted)
    c.begin.ensures

pub begin-requires : goal.begin-requires
begin-requires c = c.requires.1
