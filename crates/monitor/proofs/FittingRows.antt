-- The monitor's rows fit the steps one by one: what a step makes of a row it makes of each of them.
use Rattle.monitor.proofs.Names.{Accepts, After, Constraint, Exact, Fits, List, Open, Reads, Room, Row, RowStep, Sound, Step, Valid, [], ◌++◌}
use Rattle.monitor.proofs.Names.{◌+◌, ◌<◌, ◌∷◌, ◌≡◌, ◌≤◌, any_first, arith, both, clock, close_calm, close_at, closed, false, filler, fits_reads}
use Rattle.monitor.proofs.Names.{fits_room, fits_start, fits_step, get_or, get_elem?, length, map, map_first, never, no_row, or_false, or-true}
use Rattle.monitor.proofs.Names.{refl, row_of, row_step, row_verdict, seen, some, subst, suc, sym, true, waiting, waiting_limit, zero, ℕ, ⊎_elim}

-- each row of a table is sound
abbrev pub SoundRows : List Constraint → Type 0
SoundRows [] = Unit {0}
SoundRows (c ∷ cs) = Sound c × SoundRows cs

pub sound_at : (rows : List Constraint) → SoundRows rows → (i : ℕ) (c : Constraint) → get_elem? rows i ≡ some c → Sound c
sound_at [] sound i c there = never (cc)
sound_at (d ∷ rows) sound zero c there = let same : d ≡ c = cc in subst Sound same sound.0
sound_at (d ∷ rows) sound (suc i) c there = sound_at rows sound.1 i c there

pub sound_place : (rows : List Constraint) → SoundRows rows → (i : ℕ) → i < length rows → Sound (get_or rows i filler)
sound_place [] sound i there = absurd (omega arith)
sound_place (c ∷ rows) sound zero there = sound.0
sound_place (c ∷ rows) sound (suc i) there = sound_place rows sound.1 i (omega arith)

module _ (every_type_exact : (c : Constraint) → Sound c → Exact c) where
  -- each of a table's rows fits the steps
  abbrev pub FitRows : List Step → List Constraint → List Row → Type 0
  FitRows steps [] rows = Unit {0}
  FitRows steps (c ∷ cs) [] = ⊥
  FitRows steps (c ∷ cs) (r ∷ rows) = ((sound : Sound c) × Fits c (every_type_exact c sound) steps r) × FitRows steps cs rows

  pub fit_start : (cs : List Constraint) (rest : List Row) → SoundRows cs → FitRows [] cs (map row_of cs ++ rest)
  fit_start [] rest sound = tt
  fit_start (c ∷ cs) rest sound = ((sound.0, fits_start c (every_type_exact c sound.0)), fit_start cs rest sound.1)

  -- ---- a step

  module _ (steps : List Step) (valid : Valid steps) (s : Step) (number : ℕ) (counted : number ≡ length steps + 1) (accepts : Accepts steps s) where
    abbrev moved : Row → RowStep
    moved r = row_step r (seen steps s) number

    after_step : (c : Constraint) (sound : Sound c) (r : Row) → Fits c (every_type_exact c sound) steps r
        → After c (every_type_exact c sound) (steps ++ (s ∷ [])) (moved r).crowded (moved r).row
    after_step c sound r fit = rw counted (fits_step c (every_type_exact c sound) steps valid sound s accepts r fit)

    -- no row is crowded
    pub fit_step : (cs : List Constraint) (rows : List Row) → FitRows steps cs rows → any_first (length cs) (λ r. (moved r).crowded) rows ≡ false
        → FitRows (steps ++ (s ∷ [])) cs (map_first (length cs) (λ r. (moved r).row) rows)
    unfolding map_first any_first
    fit_step [] rows fit free = tt
    fit_step (c ∷ cs) [] fit free = fit
    fit_step (c ∷ cs) (r ∷ rows) fit free =
        let none_crowded = or_false (moved r).crowded (any_first (length cs) (λ r. (moved r).crowded) rows) free in (
          (
            fit.0.0,
            subst (λ b. After c (every_type_exact c fit.0.0) (steps ++ (s ∷ [])) b (moved r).row) none_crowded.0
                (after_step c fit.0.0 r fit.0.1),
          ),
          fit_step cs rows fit.1 none_crowded.1,
        )

    -- some row is crowded: it would be open with more than 64 waiting
    pub fit_crowded : (cs : List Constraint) (rows : List Row) → FitRows steps cs rows → any_first (length cs) (λ r. (moved r).crowded) rows ≡ true
        → (i : ℕ) × (c : Constraint) × (get_elem? cs i ≡ some c) × Open c (steps ++ (s ∷ [])) × (waiting_limit < waiting c (steps ++ (s ∷ [])))
    unfolding any_first
    fit_crowded [] rows fit crowded = both (sym crowded)
    fit_crowded (c ∷ cs) [] fit crowded = absurd fit
    fit_crowded (c ∷ cs) (r ∷ rows) fit crowded =
        ⊎_elim
        (λ e. let full = subst (λ b. After c (every_type_exact c fit.0.0) (steps ++ (s ∷ [])) b (moved r).row) e
        (after_step c fit.0.0 r fit.0.1) in
        (0, c, refl, full.0, full.1))
        (λ e. let found = fit_crowded cs rows fit.1 e in (suc found.0, found.1, found.2, found.3, found.4))
        (or-true (moved r).crowded (any_first (length cs) (λ r. (moved r).crowded) rows) crowded)

  -- the close crowds no row
  pub fit_calm : (steps : List Step) → Valid steps → (number : ℕ) (cs : List Constraint) (rows : List Row) → FitRows steps cs rows
      → any_first (length cs) (λ r. (row_step r (close_at (clock steps)) number).crowded) rows ≡ false
  unfolding any_first
  fit_calm steps valid number [] rows fit = refl
  fit_calm steps valid number (c ∷ cs) [] fit = refl
  fit_calm steps valid number (c ∷ cs) (r ∷ rows) fit =
      rw (close_calm c (every_type_exact c fit.0.0) steps valid fit.0.0 r fit.0.1 number) (fit_calm steps valid number cs rows fit.1)

  -- ---- what the rows hold and read

  module _ (steps : List Step) (valid : Valid steps) where
    row_room : (cs : List Constraint) (rows : List Row) → FitRows steps cs rows → (i : ℕ) (c : Constraint) → get_elem? cs i ≡ some c → Open c steps
        → waiting c steps ≤ waiting_limit
    row_room [] rows fit i c e o = absurd (let z : ◌≡◌ {A = ℕ} 0 1 = cc in omega arith)
    row_room (d ∷ cs) [] fit i c e o = absurd fit
    row_room (d ∷ cs) (r ∷ rows) fit zero c e o =
        let same : d ≡ c = cc in
        subst (λ x. waiting x steps ≤ waiting_limit) same (fits_room d (every_type_exact d fit.0.0) steps valid r fit.0.1
        (subst (λ x. Open x steps) (sym same) o))
    row_room (d ∷ cs) (r ∷ rows) fit (suc i) c e o = row_room cs rows fit.1 i c e o

    pub fit_room : (cs : List Constraint) (rows : List Row) → FitRows steps cs rows → Room cs steps
    unfolding Room
    fit_room cs rows fit i c e o = row_room cs rows fit i c e o

    pub fit_reads : (cs : List Constraint) (rows : List Row) → FitRows steps cs rows → (i : ℕ) (c : Constraint) → get_elem? cs i ≡ some c
        → Reads c steps (row_verdict (get_or rows i no_row) (closed steps))
    fit_reads [] rows fit i c e = absurd (let z : ◌≡◌ {A = ℕ} 0 1 = cc in omega arith)
    fit_reads (d ∷ cs) [] fit i c e = absurd fit
    fit_reads (d ∷ cs) (r ∷ rows) fit zero c e =
        let same : d ≡ c = cc in
        subst (λ x. Reads x steps (row_verdict r (closed steps))) same (fits_reads d (every_type_exact d fit.0.0) steps valid r fit.0.1)
    fit_reads (d ∷ cs) (r ∷ rows) fit (suc i) c e = fit_reads cs rows fit.1 i c e
