-- The names of the kit's libraries that proofs use, passed on from one place.
pub use Prim.Native.Nat.{◌%◌, ◌*◌, ◌+◌, ◌-◌, ◌/◌, ◌<◌, ◌^◌, ◌≤◌, max, min, suc, zero, ℕ}
pub use borrow.Author.Rules.{rules}
pub use borrow.Author.Tests.{eq-eqb, eqb-false, eqb-true, le-leb, le-ltb, leb-false, leb-true, lt-leb, lt-ltb, ltb-false, ltb-true, ne_eqb, not-false}
pub use borrow.Author.Tests.{not-true}
pub use lib.Dec.{eqb, leb, ltb}
pub use lib.ListN.{get_or-append as List·getD-append, get_or-eq_default as List·getD-eq-default, get_or-map as List·getD-map, drop, drop_of_length-le}
pub use lib.ListN.{get_or, get_or-replicate, get_elem?, length}
pub use lib.ListN.{length-append, length-drop, length-map, length-replicate, length-set, length-take, replicate, replicate-append-replicate, set}
pub use lib.ListN.{take, take-append-drop}
pub use lib.Seq.{append_snoc, drop-append-add, drop-append-le, drop-append_seam, drop_at, drop-cons, drop-drop, drop-length, drop-nil, drop-set-add}
pub use lib.Seq.{drop-set-lt, ext_get_or, get_or-append-add, get_or_at, get_or-drop, get_or-set_other, get_or-set_same, get_or-take, length-sets}
pub use lib.Seq.{length-take-le}
pub use lib.Seq.{set_at, set-get_or, set_out, set-set, sets, sets-eq, take-add, take_all, take-append-le, take-append_seam, take_at, take-length}
pub use lib.Seq.{take-nil, take-set-le, take-set-lt, take-suc, take-suc-set, take-take}
pub use mathlib.Core.Bool.{Bool, ◌&&◌, ◌||◌, and-eq-true_iff, cond, false, false≢true, not, or-true, true, true≢false}
pub use mathlib.Core.List.{List, [], ◌++◌, ◌∷◌, append_assoc, append-nil, map, map-append}
pub use mathlib.Core.Logic.Iff.{trans as Iff·trans}
pub use mathlib.Core.Logic.{◌↔◌, ◌≢◌, ◌⊎◌, by_cases, inl, inr, ⊎_elim}
pub use mathlib.Core.Option.{Option, none, some}
pub use mathlib.Core.Path.{◌∙◌, ◌≡◌, ap, ap₂, refl, subst, subst⁻¹, subst₂, sym, transport}
pub use native.Mathlib.Decide.{dec_lt, ℕ_discrete}
pub use native.Mathlib.Nat.{add-mul, add-sub_cancel_left, add-suc, add-zero, div-one, le_of_suc-le-suc, le_trans}
pub use native.Mathlib.Nat.{mod-eq_of_lt, mul-add, mul_assoc, mul-le-mul_left, mul-le-mul_right, mul-one, mul-suc, not-suc-le-zero, one-le-pow}
pub use native.Mathlib.Nat.{one-mul, pow-le-pow_right, pow-suc, pow-succ', suc-add, zero-add, zero-mul}
pub use native.Mathlib.Numerals.{add-one}
pub use native.Mathlib.Omega.{arith}
