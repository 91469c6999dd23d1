-- The word for the row's type picks the machine that `machine_of` does, and the type's function makes its change; only of a broken row it is 31.
use Rattle.row.proofs.Names.{Applies, Changes, List, Machine, [], ◌%◌, ◌∙◌, ◌≡◌, ap, arith, changed_words, eq-eqb, get_or, machine_of}
use Rattle.row.proofs.Names.{Parameters, State, ne_eqb, no_machine, number_words, refl, ring, row_as_words, sym, ℕ, ⊎_elim}
use Rattle.row.proofs.{Machines.live_none, Machines.live_type, Machines.none_of}
use Rattle.row_type.specs.Words.{UndoRecord, live_of}
use Rattle.delay_order.specs.Delay.{machine_delay}
use Rattle.delay_order.specs.StrongDelay.{machine_strong_delay}
use Rattle.repeat_burst.specs.Repeat.{machine_repeat}
use Rattle.hidden_points.specs.Sporadic.{machine_sporadic}
use Rattle.delay_order.specs.Order.{machine_order}
use Rattle.synchronizations.specs.StrongSynchronization.{machine_strong_synchronization}
use Rattle.execution.specs.ExecutionTime.{machine_execution_time}
use Rattle.event_chain.specs.Reaction.{machine_reaction}
use Rattle.repetition.specs.Repetition.{machine_repetition}
use Rattle.synchronizations.specs.Synchronization.{machine_synchronization}
use Rattle.event_chain.specs.Age.{machine_age}
use Rattle.event_chain.specs.OutputSynchronization.{machine_output_synchronization}
use Rattle.event_chain.specs.InputSynchronization.{machine_input_synchronization}
use Rattle.patterns.specs.Pattern.{machine_pattern}
use Rattle.repeat_burst.specs.Arbitrary.{machine_arbitrary}
use Rattle.row.proofs.stored.apply_by_type.Goals as goal

-- the word for the row's type, read off the words
abbrev live_in : List (List ℕ) → ℕ
live_in row = get_or (get_or row 1 []) 35 0

-- what one machine makes of the words, where it is the one that is chosen
by_type : (m : Machine) (entry exit : List (List ℕ)) (stream t number k : ℕ) → Applies m.keeps m.decide entry stream t number exit
    → live_in entry % 32 ≡ k → ¬ (k ≡ 31) → machine_of k ≡ m → Changes entry stream t number exit
unfolding row_as_words number_words
by_type m entry exit stream t number k made is some m_is parameters times state past e =
    let live : live_of parameters.tag state.broken % 32 ≡ k = sym (ap (λ (row : List (List ℕ)). live_in row % 32) e) ∙ is in
    let chosen = live_type parameters.tag state.broken (λ z. some (sym live ∙ z)) in
    made parameters times state past e
    ∙ ap (λ (x : Machine). changed_words x.keeps parameters times state past
    (x.decide parameters state.registers (ring times state.head state.len) stream t) t number)
    (sym m_is ∙ ap machine_of (sym live) ∙ sym chosen.1)
    ∙ rw (eq-eqb state.broken 0 chosen.0) refl

-- a broken row stays
shut : (entry : List (List ℕ)) (parameters : Parameters) (times : List ℕ) (state : State) (past : UndoRecord) → live_in entry % 32 ≡ 31
    → entry ≡ row_as_words parameters times state past → ¬ (state.broken ≡ 0)
unfolding row_as_words number_words
shut entry parameters times state past is e =
    live_none parameters.tag state.broken (sym (ap (λ (row : List (List ℕ)). live_in row % 32) e) ∙ is)

stays_broken : (entry : List (List ℕ)) (stream t number : ℕ) → live_in entry % 32 ≡ 31 → Changes entry stream t number entry
stays_broken entry stream t number is parameters times state past e =
    rw (ne_eqb state.broken 0 (shut entry parameters times state past is e)) e

pub returns-in-31 : goal.returns-in-31
returns-in-31 c = let a = c.args in stays_broken a.row.now a.stream a.t a.number c.in-31.is

pub returns-in-1 : goal.returns-in-1
returns-in-1 c =
    let a = c.args in
    by_type machine_delay a.row.now c.apply.new.row a.stream a.t a.number 1 c.apply.ensures
    c.in-1.is (λ z. absurd (omega (arith, z))) refl

pub returns-in-2 : goal.returns-in-2
returns-in-2 c =
    let a = c.args in
    by_type machine_strong_delay a.row.now c.apply-in-2.new.row a.stream a.t a.number 2 c.apply-in-2.ensures
    c.in-2.is (λ z. absurd (omega (arith, z))) refl

pub returns-in-3 : goal.returns-in-3
returns-in-3 c =
    let a = c.args in
    ⊎_elim
    (λ e. by_type machine_repeat a.row.now c.apply-in-3.new.row a.stream a.t a.number 3 c.apply-in-3.ensures e
    (λ z. absurd (omega (arith, z))) refl)
    (λ e. by_type machine_repeat a.row.now c.apply-in-3.new.row a.stream a.t a.number 5 c.apply-in-3.ensures e
    (λ z. absurd (omega (arith, z))) refl)
    c.in-3.is

pub returns-in-4 : goal.returns-in-4
returns-in-4 c =
    let a = c.args in
    by_type machine_sporadic a.row.now c.apply-in-4.new.row a.stream a.t a.number 4 c.apply-in-4.ensures
    c.in-4.is (λ z. absurd (omega (arith, z))) refl

pub returns-in-6 : goal.returns-in-6
returns-in-6 c =
    let a = c.args in
    by_type machine_order a.row.now c.apply-in-6.new.row a.stream a.t a.number 6 c.apply-in-6.ensures
    c.in-6.is (λ z. absurd (omega (arith, z))) refl

pub returns-in-7 : goal.returns-in-7
returns-in-7 c =
    let a = c.args in
    by_type machine_strong_synchronization a.row.now c.apply-in-7.new.row a.stream a.t a.number 7 c.apply-in-7.ensures
    c.in-7.is (λ z. absurd (omega (arith, z))) refl

pub returns-in-8 : goal.returns-in-8
returns-in-8 c =
    let a = c.args in
    by_type machine_execution_time a.row.now c.apply-in-8.new.row a.stream a.t a.number 8 c.apply-in-8.ensures
    c.in-8.is (λ z. absurd (omega (arith, z))) refl

pub returns-in-9 : goal.returns-in-9
returns-in-9 c =
    let a = c.args in
    by_type machine_reaction a.row.now c.apply-in-9.new.row a.stream a.t a.number 9 c.apply-in-9.ensures
    c.in-9.is (λ z. absurd (omega (arith, z))) refl

pub returns-in-10 : goal.returns-in-10
returns-in-10 c =
    let a = c.args in
    by_type machine_repetition a.row.now c.apply-in-10.new.row a.stream a.t a.number 10 c.apply-in-10.ensures
    c.in-10.is (λ z. absurd (omega (arith, z))) refl

pub returns-in-11 : goal.returns-in-11
returns-in-11 c =
    let a = c.args in
    by_type machine_synchronization a.row.now c.apply-in-11.new.row a.stream a.t a.number 11 c.apply-in-11.ensures
    c.in-11.is (λ z. absurd (omega (arith, z))) refl

pub returns-in-12 : goal.returns-in-12
returns-in-12 c =
    let a = c.args in
    by_type machine_age a.row.now c.apply-in-12.new.row a.stream a.t a.number 12 c.apply-in-12.ensures
    c.in-12.is (λ z. absurd (omega (arith, z))) refl

pub returns-in-13 : goal.returns-in-13
returns-in-13 c =
    let a = c.args in
    by_type machine_output_synchronization a.row.now c.apply-in-13.new.row a.stream a.t a.number 13 c.apply-in-13.ensures
    c.in-13.is (λ z. absurd (omega (arith, z))) refl

pub returns-in-14 : goal.returns-in-14
returns-in-14 c =
    let a = c.args in
    by_type machine_input_synchronization a.row.now c.apply-in-14.new.row a.stream a.t a.number 14 c.apply-in-14.ensures
    c.in-14.is (λ z. absurd (omega (arith, z))) refl

pub returns-in-15 : goal.returns-in-15
returns-in-15 c =
    let a = c.args in
    by_type machine_pattern a.row.now c.apply-in-15.new.row a.stream a.t a.number 15 c.apply-in-15.ensures
    c.in-15.is (λ z. absurd (omega (arith, z))) refl

pub returns-in-16 : goal.returns-in-16
returns-in-16 c =
    let a = c.args in
    by_type machine_arbitrary a.row.now c.apply-in-16.new.row a.stream a.t a.number 16 c.apply-in-16.ensures
    c.in-16.is (λ z. absurd (omega (arith, z))) refl

pub returns-in-17 : goal.returns-in-17
unfolding changed_words
returns-in-17 c =
    let a = c.args in let is = c.in-17.is in
    by_type no_machine a.row.now c.break_at.new.row a.stream a.t a.number _ c.break_at.ensures refl (λ z. absurd (grind (arith, z, is)))
    (none_of (live_in a.row.now % 32) (λ other. grind (arith, other, is)))

pub returns-in-0 : goal.returns-in-0
unfolding changed_words
returns-in-0 c =
    let a = c.args in let is = c.in-0.is in
    by_type no_machine a.row.now c.break_at-in-0.new.row a.stream a.t a.number _ c.break_at-in-0.ensures refl (λ z. absurd (grind (arith, z, is)))
    (none_of (live_in a.row.now % 32) (λ other. grind (arith, other, is)))

pub returns-in_default : goal.returns-in_default
returns-in_default c = let rest = c.in_default.in_default-own.rest in absurd (grind (arith, rest))
