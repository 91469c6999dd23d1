-- The names of the definitions and laws below this crate that its proofs use, passed on from one place.
pub use Prim.Native.Nat.{◌%◌, ◌+◌, ◌-◌, ◌<◌, ◌≤◌, suc, zero, ℕ}
pub use Rattle.ring.specs.Ring.{Ring, changed, drop_ring, edit_place, edited, head_after, items, ring_of, ring_place, second_at, time_at, two_from}
pub use Rattle.ring.specs.declared.Edit.{Edit}
pub use Rattle.ring.specs.declared.Edit.TheVariants.{Drop, Push, PushTwo, Store}
pub use borrow.Author.Tests.{eqb-true, le-ltb, lt-ltb, ltb-false, ltb-true}
pub use lib.ListN.{drop, drop_of_length-le, get_or, length, length-append, length-drop, length-set, set, take}
pub use lib.{Dec.eqb, Dec.ltb, Seq.drop-cons, Seq.ext_get_or, Seq.get_or-set_other, Seq.get_or-set_same, Seq.get_or-take, Seq.length-take-le}
pub use lib.{Seq.set_out}
pub use mathlib.Core.{Bool.Bool, Bool.cond, Bool.false, Bool.true, List.List, List.[], List.◌++◌, List.◌∷◌, List.append_assoc, Logic.◌≢◌, Logic.◌⊎◌}
pub use mathlib.Core.{Logic.by_cases, Logic.inl, Logic.inr, Logic.⊎_elim, Path.◌∙◌, Path.◌≡◌, Path.ap, Path.ap₂, Path.refl, Path.subst, Path.sym}
pub use native.Mathlib.{Decide.ℕ_discrete, Nat.add_assoc, Nat.add-suc, Nat.add-zero, Nat.suc-add, Numerals.add-one, Omega.arith}
unfoldable pub use Rattle.ring.specs.Ring.{push_ring, put_back, put_ring, ring}
