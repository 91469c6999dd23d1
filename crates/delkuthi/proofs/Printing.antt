-- The page that is written says what the rows read: it is made of the summary, which says the type of each of the table's rows and its verdict.
use Rattle.delkuthi.proofs.Names.{Accepted, Constraint, Copied, Follows, List, Monitor, PageOf, Pages, Reads, Request, RowSummary, Step, StepFits}
use Rattle.delkuthi.proofs.Names.{Valid}
use Rattle.delkuthi.proofs.Names.{Verdict, WritesPage, ◌<◌, ◌∙◌, ◌≡◌, ◌≤◌, after, after_follows, ap, arith, at, broken_in, by_cases, count_of}
use Rattle.delkuthi.proofs.Names.{dec_lt, every_type_exact, equal_pages, fit_reads, has_row, length, line_read, lt-ltb, ltb, map, name_of, page_of}
use Rattle.delkuthi.proofs.Names.{page_reads_back, page_too_short, page_written, page_text, printed, printed_rows, reads_broken, reads_kept}
use Rattle.delkuthi.proofs.Names.{reads_open, row_limit, row_verdict, same_rows, some, subst, summary_of, sym, text_of, type_in, type_of, types_of}
use Rattle.delkuthi.proofs.Names.{verdict_at}
use Rattle.delkuthi.proofs.Names.{verdict_for, verdict_of, verdict_said, verdicts_in, verdicts_of, ℕ}
use Rattle.delkuthi.proofs.Summaries.{count_is, each_summarized, made_follows, row_summarized, said_at}

-- a step that a row reads is one of those taken, of which there are fewer than 2^64
reads_fits : {c : Constraint} {steps : List Step} (v : Verdict) → Valid steps → Reads c steps v → StepFits v
reads_fits v valid (reads_open e o) = tt
reads_fits v valid (reads_kept e o) = tt
reads_fits v valid (reads_broken n b) = omega (arith, b.counted, count_of valid)

module _ (rows : List Constraint) (steps : List Step) (m : Monitor) (f : Follows every_type_exact rows steps m) where
  abbrev v : ℕ → Verdict
  v i = verdict_for m.closed (broken_in m i)

  -- the page is that of what the rows read
  page_says : PageOf rows steps (printed m)
  page_says =
      let verdicts = verdicts_in (summary_of m) in
      subst (PageOf rows steps)
      (same_rows (at (map type_of rows)) (type_in m) (verdict_at verdicts) v (length rows) (λ i h. (row_summarized rows steps m f i h).0)
      (λ i h. (row_summarized rows steps m f i h).1) ∙ ap (page_text (type_in m) v) (sym (count_is rows steps m f)))
      (page_of verdicts (each_summarized rows steps m f))

  -- ---- what is read off

  verdict_is : (i : ℕ) → i < length rows → verdict_of m i ≡ some (v i)
  unfolding verdict_of row_verdict
  verdict_is i h = rw (lt-ltb i m.len (omega (arith, f.len_is)), lt-ltb i row_limit (omega (arith, f.few)))

  fits : (i : ℕ) → i < printed_rows m → StepFits (v i)
  unfolding row_verdict
  fits i h =
      let c = has_row rows i (omega (arith, count_is rows steps m f)) in
      let reads = fit_reads every_type_exact steps f.valid rows m.rows f.fit i c.0 c.1 in
      reads_fits {c = c.0} {steps = steps} (v i) f.valid (rw f.closed_is reads)

module _ (rows : List Constraint) (requests : List Request) (accepted : Accepted rows) where
  abbrev made : Monitor
  made = after rows requests

  abbrev followed : (steps : List Step) × Follows every_type_exact rows steps made
  followed = let a = after_follows every_type_exact rows requests accepted in (a.0.steps, a.2)

  -- §7.18: a row's line gives back its number, the name of its type, and what the call for its verdict answers
  pub printed_back : (i : ℕ) → i < length rows
      → line_read (printed made) i ≡ record { number = i; name = name_of (at (map type_of rows) i); verdict = verdict_of made i }
  printed_back i h =
      let steps = followed.0 in let f = followed.1 in
      let there : i < printed_rows made = omega (arith, count_is rows steps made f) in
      rw ((row_summarized rows steps made f i h).0, verdict_is rows steps made f i h)
      (page_reads_back (type_in made) (v rows steps made f) (printed_rows made) i (omega arith) there (fits rows steps made f i there))

-- §7.18: two pages of the same bytes: as many rows, and the same verdict of each
pub printed_alike : (rows others : List Constraint) (requests more : List Request) (accepted : Accepted rows) (accepted' : Accepted others)
    → printed (after rows requests) ≡ printed (after others more)
    → (length rows ≡ length others) × ((i : ℕ) → i < length rows → verdict_of (after rows requests) i ≡ verdict_of (after others more) i)
printed_alike rows others requests more accepted accepted' e =
    let m = after rows requests in
    let n = after others more in
    let one = followed rows requests accepted in
    let other = followed others more accepted' in
    let alike = equal_pages (type_in m) (type_in n) (v rows one.0 m one.1) (v others other.0 n other.1) (printed_rows m) (printed_rows n)
    (omega arith) (omega arith) (fits rows one.0 m one.1) (fits others other.0 n other.1) e in
    let count = count_is rows one.0 m one.1 in
    let same : length rows ≡ length others = omega (arith, alike.0, count, count_is others other.0 n other.1) in (
      same,
      λ i h. verdict_is rows one.0 m one.1 i h ∙ ap some (alike.1 i (omega (arith, count)))
          ∙ sym (verdict_is others other.0 n other.1 i (omega (arith, same))),
    )

-- ---- what is written

-- a page that is copied to a buffer is the call's
copied_pages : (rows : List Constraint) (steps : List Step) (text before : List ℕ) (answer : ℕ) (left : List ℕ)
    → PageOf rows steps text → Copied text before answer left → Pages rows steps before answer left
copied_pages rows steps text before answer left page copied =
    by_cases (dec_lt (length before) (length text))
    (λ short. rw ((copied.too_short short).0, (copied.too_short short).1) (page_too_short text page short))
    (λ long. let fits : length text ≤ length before = omega arith in rw ((copied.fits fits).0, (copied.fits fits).1) (page_written text page fits))

-- what was copied of a monitor's summary is the monitor's page
pub page_kept : (m : Monitor) (before : List ℕ) (answer : ℕ) (left : List ℕ) → length m.rows ≡ row_limit
    → Copied (text_of (summary_of m)) before answer left → WritesPage m before answer left
page_kept m before answer left whole copied =
    let text : text_of (summary_of m) ≡ printed m =
    same_rows (types_of (summary_of m).rows) (type_in m) (verdicts_of (ltb 0 m.closed) (summary_of m).rows)
    (λ i. verdict_for m.closed (broken_in m i))
    (printed_rows m) (λ i h. ap (λ (r : RowSummary). r.tag) (said_at m.rows i (omega arith)))
    (λ i h. ap (verdict_said (ltb 0 m.closed)) (said_at m.rows i (omega arith))) in
    let equal = subst (λ (text : List ℕ). Copied text before answer left) text copied in
    record {
      equals = equal;
      means = λ rows requests accepted made.
          let a = made_follows rows requests accepted made in
          (a.0, a.1, copied_pages rows a.0.steps (printed m) before answer left (page_says rows a.0.steps m a.2) equal);
    }
