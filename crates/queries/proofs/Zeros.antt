-- In memory of zeros lies a monitor without rows whose word for "open" is 0: so it reads as closed, and takes nothing.
use Rattle.queries.proofs.Names.{AsksClosed, Call, HoldsMonitor, Indexes, Lent, ReadOff, RestZero, Shaped, Takes, Words, ◌<◌, ◌∙◌, ◌≡◌, ap}
use Rattle.queries.proofs.Names.{arith}
use Rattle.queries.proofs.Names.{asks, false, get_or-replicate, is_in, no_row_undo, no_row, number_words, refl, replicate, row_blocks, row_limit}
use Rattle.queries.proofs.Names.{row_as_words}
use Rattle.queries.proofs.Names.{set_of, subst₂, suc, sym, withdraws, words_of_lent, zero, zero_monitor, zero_row, zeros, ℕ}
use Rattle.row.specs.Stored as Stored

-- ---- the monitor that lies there

abbrev zero_lent : Lent
zero_lent = record { monitor = zero_monitor; soonest = 0; full = 0; lists = replicate 64 0 }

are : zeros ≡ words_of_lent zero_lent
unfolding words_of_lent row_blocks Stored.words_of_row row_as_words number_words
are = refl

shaped : Shaped zero_lent
shaped =
    record {
      rows_there = refl;
      kept_there = refl;
      next_there = refl;
      lists_there = refl;
      rest_zero = λ i l. subst₂ RestZero (sym (get_or-replicate row_limit i zero_row no_row l)) (sym
          (get_or-replicate row_limit i no_row_undo no_row_undo l))
          (record { now_unused = refl; past_unused = refl; past_open = refl });
    }

-- no row is of a kind
none_in : (i : ℕ) → is_in 0 i ≡ false
unfolding is_in
none_in zero = refl
none_in (suc i) = none_in i

none_of : (kind i : ℕ) → kind < 64 → is_in (set_of zero_lent kind) i ≡ false
none_of kind i l = ap (λ (w : ℕ). is_in w i) (get_or-replicate 64 kind 0 0 l) ∙ none_in i

indexes : Indexes zero_lent
indexes =
    record {
      shaped = shaped;
      sound = record { rows_few = omega arith; closed_mark = omega arith; closed_then = omega arith };
      listed = λ kind i small l. absurd (omega (arith, l));
      no_others = λ kind i small from l. none_of kind i small;
      no_ticks = λ i l. absurd (omega (arith, l));
      no_sooner = λ i l. absurd (omega (arith, l));
      roomy = record {
        now_few = λ i l. absurd (omega (arith, l));
        then_few = λ i l. absurd (omega (arith, l));
        has_room = λ i l. absurd (omega (arith, l));
      };
    }

-- §15.13
pub zeros_hold : HoldsMonitor zeros zero_monitor
zeros_hold = record { lent = zero_lent; words_are = are; indexes = indexes; monitor_is = refl }

-- ---- by the contracts of the calls

-- §15.13
pub zeros_closed : (answer : ℕ) → ReadOff zeros AsksClosed answer → answer ≡ 1
zeros_closed answer asked = (asked zero_monitor zeros_hold).equals

-- §15.13
pub zeros_refuse : (call : Call) (number : ℕ) (exit : Words) → Takes zeros (asks call) number exit → (number ≡ 8) × (exit ≡ zeros)
zeros_refuse call number exit takes =
    let eight : number ≡ 8 = (takes.stores zero_lent are shaped).0 in
    (eight, takes.untouched (λ z. omega (arith, eight, z)))

-- §15.13
pub zeros_not_withdrawn : (number : ℕ) (exit : Words) → Takes zeros withdraws number exit → (number ≡ 21) × (exit ≡ zeros)
zeros_not_withdrawn number exit takes =
    let none : number ≡ 21 = (takes.stores zero_lent are shaped).0 in
    (none, takes.untouched (λ z. omega (arith, none, z)))
