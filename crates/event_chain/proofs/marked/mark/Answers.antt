-- The mark and the two numbers are stored at their places, and nothing else.
use Rattle.row_type.proofs.Tests.{bool_number}
use Rattle.constraint.proofs.Library.{◌-◌, ◌∙◌, refl}
use Rattle.constraint.specs.Limits.{no_limit}
use Rattle.row_type.specs.{Parts.with_last, Words.number_words, Words.with_registers}
use Rattle.event_chain.proofs.marked.mark.Goals as goal

pub returns : goal.returns
unfolding number_words
returns c parameters state past e =
    let a = c.args in
    c.settle.ensures parameters (with_registers state (with_last state.registers (no_limit - a.due))) past (rw e refl)
    ∙ rw (c.from.ensures, bool_number) refl
