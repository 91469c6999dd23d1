-- Putting the bytes left behind what there is now gives the whole.
use Rattle.constraint.proofs.Library.{◌≡◌, drop}
use Rattle.text.specs.Content.{extended}
use Rattle.text.proofs.Text.word.Given as goal

abbrev pub invariant-loop-byte : goal.invariant-loop-byte
invariant-loop-byte l = extended (drop l.byte-index l.word) l.self ≡ extended l.word l.initial.self
