-- The parts of the line are put behind one another, by the verdict.
use Rattle.text.proofs.{Texts.extended_append}
use Rattle.text.specs.Content.{extended}
use Rattle.text.proofs.Text.row_line.Goals as goal
use Rattle.text.proofs.Text.row_line.Goals.{in-Open, in-Kept, in-Broken}

pub returns : goal.returns
unfolding extended
returns c =
    elim c.match-verdict.branch [
      | in-Open w ↦ rw (c.push-2.ensures, w.self-is, c.push.ensures, c.decimal.ensures, w.in-Open.is) (simp extended_append)
      | in-Kept w ↦ rw (c.push-2.ensures, w.self-is, w.word.ensures, c.push.ensures, c.decimal.ensures, w.in-Kept.is) (simp extended_append)
      | in-Broken w ↦
          rw (
            c.push-2.ensures,
            w.self-is,
            w.decimal-in-Broken.ensures,
            w.word-in-Broken.ensures,
            c.push.ensures,
            c.decimal.ensures,
            w.in-Broken.is,
          ) (simp extended_append)
    ]
