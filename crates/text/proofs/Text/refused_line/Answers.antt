-- The parts of the line are put behind one another.
use Rattle.text.proofs.{Texts.extended_append}
use Rattle.text.specs.Content.{extended}
use Rattle.text.proofs.Text.refused_line.Goals as goal

pub returns : goal.returns
unfolding extended
returns c =
    rw (c.push-2.ensures, c.decimal-2.ensures, c.push.ensures, c.decimal.ensures, c.word.ensures, c.from.ensures)
    (simp extended_append)
