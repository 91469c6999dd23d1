-- The summary that is gathered row after row is the monitor's, and where the monitor follows some steps it says what each row reads after them.
use Rattle.delkuthi.proofs.Names.{Accepted, Constraint, EachReads, FitRows, Follows, Left, List, List·getD-map, Monitor, Remains, Request, Row}
use Rattle.delkuthi.proofs.Names.{RowSummary, Step, Summary, [], ◌++◌, ◌+◌, ◌-◌, ◌<◌, ◌∙◌, ◌∷◌, ◌≡◌, ◌≤◌, add-one, after, after_follows, append-nil}
use Rattle.delkuthi.proofs.Names.{append_snoc, arith, at, every_type_exact, fits_reads, tag_is, get_or, get_d_within, length, length-map, length-take}
use Rattle.delkuthi.proofs.Names.{length-take-le, ltb, map, no_row, printed_rows, refl, replicate, row_reads, row_limit, row_of, row_summary}
use Rattle.delkuthi.proofs.Names.{row_verdict, set, set_at}
use Rattle.delkuthi.proofs.Names.{subst, suc, summary_of, sym, take, take_all, take-suc, type_of, verdict_at, verdict_for, verdict_said, verdicts_in}
use Rattle.delkuthi.proofs.Names.{zero, ℕ}
use Rattle.constraint.specs.Report.{no_row_lem}

-- ---- row after row

-- a row of which nothing is said
abbrev pub nothing_said : RowSummary
nothing_said = record { tag = 0; broken = 0 }

-- a list up to a place, and such rows behind it
abbrev pub front : ℕ → List RowSummary → List RowSummary
front i l = take i l ++ replicate (row_limit - i) nothing_said

pub said_at : (rows : List Row) (i : ℕ) → i < length rows → row_of (map row_summary rows) i ≡ row_summary (get_or rows i no_row)
said_at rows i there =
    get_d_within (map row_summary rows) i nothing_said (row_summary no_row) (omega (arith, length-map rows row_summary))
    ∙ List·getD-map row_summary rows i no_row

module _ (rows : List Row) (whole : length rows ≡ row_limit) where
  pub front_next : (i : ℕ) → i < row_limit
      → set (front i (map row_summary rows)) i (row_summary (get_or rows i no_row)) ≡ front (i + 1) (map row_summary rows)
  front_next i small =
      let l = map row_summary rows in
      let long : length l ≡ row_limit = length-map rows row_summary ∙ whole in
      let left : row_limit - i ≡ suc (row_limit - suc i) = omega arith in
      let behind : List RowSummary = replicate (row_limit - suc i) nothing_said in
      rw (
        ← said_at rows i (omega arith),
        left,
        set_at (take i l) nothing_said behind (row_of l i) i (length-take-le i l (omega arith)),
        add-one i,
        take-suc l i nothing_said (omega arith),
      ) (sym (append_snoc (take i l) (row_of l i) behind))

  pub front_all : front row_limit (map row_summary rows) ≡ map row_summary rows
  front_all = rw (take_all row_limit (map row_summary rows) (omega (arith, length-map rows row_summary))) (append-nil (map row_summary rows))

-- ---- what it says

-- no more than 32 verdicts
pub verdicts_few : (summary : Summary) → length (verdicts_in summary) ≤ row_limit
verdicts_few summary = simp (length-map, length-take) (omega arith)

module _ (rows : List Constraint) (steps : List Step) (m : Monitor) (f : Follows every_type_exact rows steps m) where
  pub count_is : printed_rows m ≡ length rows
  count_is = omega (arith, f.len_is, f.few)

  -- §7.4
  pub each_summarized : EachReads steps rows (verdicts_in (summary_of m))
  unfolding row_verdict
  each_summarized = rw count_is (go rows m.rows f.fit)
    where
      go : (cs : List Constraint) (l : List Row) → FitRows every_type_exact steps cs l
          → EachReads steps cs (map (verdict_said (ltb 0 m.closed)) (take (length cs) (map row_summary l)))
      go [] l fit = no_row_lem
      go (c ∷ cs) [] fit = absurd fit
      go (c ∷ cs) (r ∷ l) fit =
          row_reads {c = c} {v = verdict_for m.closed r.now.broken}
          (rw f.closed_is (fits_reads c (every_type_exact c fit.0.0) steps f.valid r fit.0.1)) (go cs l fit.1)

  -- the type and the verdict of a row
  pub row_summarized : (i : ℕ) → i < length rows
      → (at (map type_of rows) i ≡ (get_or m.rows i no_row).parameters.tag)
      × (verdict_at (verdicts_in (summary_of m)) i ≡ verdict_for m.closed (get_or m.rows i no_row).now.broken)
  row_summarized i h = rw count_is (go rows m.rows f.fit i h)
    where
      go : (cs : List Constraint) (l : List Row) → FitRows every_type_exact steps cs l → (i : ℕ) → i < length cs
          → (at (map type_of cs) i ≡ (get_or l i no_row).parameters.tag)
          × (verdict_at (map (verdict_said (ltb 0 m.closed)) (take (length cs) (map row_summary l))) i
          ≡ verdict_for m.closed (get_or l i no_row).now.broken)
      go [] l fit i h = absurd (omega arith)
      go (c ∷ cs) [] fit i h = absurd fit
      go (c ∷ cs) (r ∷ l) fit zero h = (rw fit.0.1.parameters_is (sym (tag_is c)), refl)
      go (c ∷ cs) (r ∷ l) fit (suc i) h = go cs l fit.1 i (omega arith)

-- a monitor that requests have made follows the steps that they have left
pub made_follows : {m : Monitor} (rows : List Constraint) (requests : List Request) → Accepted rows → m ≡ after rows requests
    → (left : Left) × Remains rows requests left × Follows every_type_exact rows left.steps m
made_follows rows requests accepted made =
    let a = after_follows every_type_exact rows requests accepted in
    (a.0, a.1, subst (Follows every_type_exact rows a.0.steps) (sym made) a.2)
