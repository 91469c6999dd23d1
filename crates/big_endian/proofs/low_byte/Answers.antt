-- A mask of eight bits keeps the remainder by 256, which is the one byte that the definition names: it divides by 1.
use Rattle.constraint.proofs.Library.{[], ◌∙◌, ◌∷◌, ap, div-one, ℕ}
use Rattle.constraint.specs.Bytes.{bytes_of}
use lib.Bits.{and_mask}
use Rattle.big_endian.proofs.low_byte.Goals as goal

pub returns : goal.returns
unfolding bytes_of
returns c = ap (λ (byte : ℕ). byte ∷ []) (and_mask c.args.x 8 ∙ rw div-one)
