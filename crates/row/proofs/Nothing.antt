-- The defaults say that nothing is kept: each of their numbers is 0.
use Rattle.row.proofs.Names.{RowUndo, State, ◌≡◌, no_row_undo, no_state, refl}

-- each number of a state is 0
abbrev pub ZeroState : State → Type 0
ZeroState s =
    ((s.registers.last ≡ 0) × ((s.registers.first ≡ 0) × ((s.registers.second ≡ 0) × ((s.registers.third ≡ 0) × (s.registers.fourth ≡ 0)))))
    × ((s.head ≡ 0) × ((s.len ≡ 0) × ((s.due ≡ 0) × ((s.kept ≡ 0) × (s.broken ≡ 0)))))

pub state_is : (s : State) → ZeroState s → s ≡ no_state
state_is s ((a, (b, (c, (d, e)))), (f, (g, (h, (i, j))))) = rw (a, b, c, d, e, f, g, h, i, j) refl

pub undo_is : (b : RowUndo) → ZeroState b.state × ((b.place ≡ 0) × ((b.first ≡ 0) × ((b.second ≡ 0) × (b.step ≡ 0)))) → b ≡ no_row_undo
undo_is b (s, (p, (f, (g, n)))) = rw (state_is b.state s, p, f, g, n) refl
