-- What a row asks of a machine beside that it is exact: its words keep all that a step changes, and how many times it keeps tells when an event would
-- let more wait than its 64 places hold. What the proofs of several types share is by cases on the edit of a change.
use Rattle.row_type.proofs.Names.{Bool, Change, Drop, List, Machine, Registers, Parameters, Store, [], ◌++◌, ◌+◌, ◌-◌, ◌<◌, ◌∷◌, ◌≡◌, ◌≤◌}
use Rattle.row_type.proofs.Names.{arith, at_most}
use Rattle.row_type.proofs.Names.{breaking, changed, cond, continues_with, counts_saved, drop, each_taken, false, never_overflows}
use Rattle.row_type.proofs.Names.{first_three_saved}
use Rattle.row_type.proofs.Names.{last_saved, le-ltb, length, length-append, length-drop, length-set, lt-ltb, ltb, ltb-false, ltb-true}
use Rattle.row_type.proofs.Names.{no_machine}
use Rattle.row_type.proofs.Names.{no_registers, none_saved, none_taken, refl, set, split, sym, true, waiting_limit, start_word_count, word_counts, ℕ}

-- ---- the marks

-- the marks that a type keeps of a state are enough, where the others are 0 in its past, or what they were
pub record Keeping (keeps : Registers → Registers → Registers) : Type 0 where
  pub over_past : (registers past : Registers) → keeps registers (keeps past no_registers) ≡ keeps registers no_registers
  pub over_own : (registers : Registers) → keeps registers registers ≡ registers

pub keeping_none : Keeping none_saved
keeping_none = record { over_past = λ registers past. refl; over_own = λ registers. refl }

pub keeping_last : Keeping last_saved
keeping_last = record { over_past = λ registers past. refl; over_own = λ registers. refl }

pub keeping_first_three : Keeping first_three_saved
keeping_first_three = record { over_past = λ registers past. refl; over_own = λ registers. refl }

pub keeping_counts : Keeping counts_saved
keeping_counts = record { over_past = λ registers past. refl; over_own = λ registers. refl }

-- the marks that a type does not keep are 0
abbrev pub Unkept : (Registers → Registers → Registers) → Registers → Type 0
Unkept keeps registers = keeps registers no_registers ≡ registers

-- ---- the places

-- how many places are taken rises with how many times are kept: not above 64, and one is free where 62 are kept
pub record Places (taken : ℕ → ℕ → ℕ) : Type 0 where
  pub rise : (span n m : ℕ) → n ≤ m → taken span n ≤ taken span m
  pub few : (span n : ℕ) → n ≤ 64 → taken span n ≤ 64
  pub free : (span n : ℕ) → n ≤ 62 → taken span n ≤ 63

pub places_none : Places none_taken
places_none = record { rise = λ span n m l. omega arith; few = λ span n l. omega arith; free = λ span n l. omega arith }

pub places_each : Places each_taken
places_each = record { rise = λ span n m l. l; few = λ span n l. l; free = λ span n l. omega (arith, l) }

-- ---- what each row type proves

-- a change lets more wait than there is room for
abbrev pub kind_overflows : Change → List ℕ → Bool
kind_overflows change times = cond change.breaks false (ltb waiting_limit (length (changed change.edit times)))

pub record FitsRow (m : Machine) : Type 0 where
  pub keeping : Keeping m.keeps
  -- only marks that it keeps change: the others stay 0
  pub unkept : (parameters : Parameters) (registers : Registers) (times : List ℕ) (s t : ℕ) → Unkept m.keeps registers
      → Unkept m.keeps (m.decide parameters registers times s t).registers
  -- with 63 or 64 times, `overflows` is whether the change lets more wait than there is room for
  pub crowding : (parameters : Parameters) (registers : Registers) (times : List ℕ) (s t : ℕ) → 63 ≤ length times → length times ≤ 64
      → m.overflows parameters registers (length times) s t ≡ kind_overflows (m.decide parameters registers times s t) times
  -- and it is not so where a place is free
  pub room : (parameters : Parameters) (registers : Registers) (n s t : ℕ) → 63 ≤ n → m.taken parameters.span n < 64
      → m.overflows parameters registers n s t ≡ false
  pub places : Places m.taken

pub neither : (b : Bool) → cond b false false ≡ false
neither true = refl
neither false = refl

pub fits_none : FitsRow no_machine
fits_none =
    record {
      keeping = keeping_none;
      unkept = λ parameters registers times s t e. refl;
      crowding = λ parameters registers times s t many few. refl;
      room = λ parameters registers n s t many free. refl;
      places = places_none;
    }

-- ---- types that never keep more times than before, once there are many

-- such a change, of marks of which a type keeps some
pub record Steady (keeps : Registers → Registers → Registers) (registers : Registers) (times : List ℕ) (change : Change) : Type 0 where
  pub unkept : Unkept keeps registers → Unkept keeps change.registers
  pub no_more : 63 ≤ length times → length (changed change.edit times) ≤ length times

module _ {keeps : Registers → Registers → Registers} {registers : Registers} {times : List ℕ} where
  pub steady_by : (b : Bool) {x y : Change} → Steady keeps registers times x → Steady keeps registers times y
      → Steady keeps registers times (cond b x y)
  steady_by true x y = x
  steady_by false x y = y

  pub steady_breaking : Keeping keeps → Steady keeps registers times breaking
  steady_breaking keeping =
      record { unkept = λ e. keeping.over_own no_registers; no_more = λ many. omega (arith, length-drop 0 times) }

  pub steady_drop : (k : ℕ) {new : Registers} {due : ℕ} {kept : Bool} → (Unkept keeps registers → Unkept keeps new)
      → Steady keeps registers times (continues_with (Drop k) new due kept)
  steady_drop k unkept = record { unkept = unkept; no_more = λ many. omega (arith, length-drop k times) }

  pub steady_store : (place first second : ℕ) {new : Registers} {due : ℕ} {kept : Bool} → (Unkept keeps registers → Unkept keeps new)
      → Steady keeps registers times (continues_with (Store place first second) new due kept)
  steady_store place first second unkept =
      record {
        unkept = unkept;
        no_more = λ many. omega (arith, length-set (set times place first) (place + 1) second, length-set times place first);
      }

pub fits_steady : {keeps : Registers → Registers → Registers} {decide : Parameters → Registers → List ℕ → ℕ → ℕ → Change} → Keeping keeps
    → ((parameters : Parameters) (registers : Registers) (times : List ℕ) (s t : ℕ) → Steady keeps registers times
    (decide parameters registers times s t))
    → FitsRow (record { keeps = keeps; decide = decide; overflows = never_overflows; taken = none_taken })
fits_steady {keeps} {decide} keeping steady =
    record {
      keeping = keeping;
      unkept = λ parameters registers times s t. (steady parameters registers times s t).unkept;
      crowding = λ parameters registers times s t many few.
          sym (calm (decide parameters registers times s t) times (omega (arith, (steady parameters registers times s t).no_more many, few)));
      room = λ parameters registers n s t many free. refl;
      places = places_none;
    }
  where
    calm : (change : Change) (times : List ℕ) → length (changed change.edit times) ≤ 64 → kind_overflows change times ≡ false
    calm change times fit = rw (le-ltb 64 (length (changed change.edit times)) fit) (neither change.breaks)

-- ---- types that let more wait: by a test, and by the edit

pub unkept_by : (keeps : Registers → Registers → Registers) (b : Bool) (x y : Change) → Unkept keeps x.registers → Unkept keeps y.registers
    → Unkept keeps (cond {A = Change} b x y).registers
unkept_by keeps true x y p q = p
unkept_by keeps false x y p q = q

module _ (times : List ℕ) where
  abbrev n : ℕ
  n = length times

  -- a change lets not too many wait
  abbrev pub Calm : Change → Type 0
  Calm change = kind_overflows change times ≡ false

  pub calm_by : (b : Bool) (x y : Change) → Calm x → Calm y → Calm (cond b x y)
  calm_by true x y p q = p
  calm_by false x y p q = q

  pub dropped : (k : ℕ) → n ≤ 64 → ltb 64 (length (drop k times)) ≡ false
  dropped k few = rw (length-drop k times) (le-ltb 64 (n - k) (omega (arith, few)))

  pub pushed : (t : ℕ) → ltb 64 (length (drop 0 times ++ (t ∷ []))) ≡ cond (ltb n waiting_limit) false true
  pushed t =
      rw (length-append times (t ∷ []))
      (split (ltb n 64) (λ b. ltb n 64 ≡ b → ltb 64 (n + 1) ≡ cond b false true)
      (λ _ e. le-ltb 64 (n + 1) (omega (arith, ltb-true n 64 e))) (λ _ e. lt-ltb 64 (n + 1) (omega (arith, ltb-false n 64 e))) refl)

-- a test that is asked first where a place is free
pub free_first : (n : ℕ) → n < 64 → (b : Bool) → cond (ltb n waiting_limit) false b ≡ false
free_first n l b = rw (lt-ltb n 64 l)

-- and one before it
pub free_second : (n : ℕ) → n < 64 → (b c : Bool) → cond b (cond (ltb n waiting_limit) false c) false ≡ false
free_second n l b c = rw (lt-ltb n 64 l) (neither b)

-- ---- the words that a row has from the start

pub words_few : (parameters : Parameters) → start_word_count parameters ≤ waiting_limit
words_few parameters = at_most waiting_limit word_counts (omega arith) parameters.tag
