-- What is written of the text lies within its bytes.
use Rattle.std.proofs.Common.{length-take-le, sym}
use native.Mathlib.Omega.{arith}
use Rattle.delkuthi_cli.proofs.main.Goals as goal

pub slice_bounds-write_all-end : goal.slice_bounds-write_all-end
slice_bounds-write_all-end c =
    let text = c.program_text-text in
    sym (length-take-le text.result.len text.result.bytes (omega (arith, text.ensures.holds.size, text.ensures.holds.within)))
