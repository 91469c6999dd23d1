-- Each number is stored at its place.
use Rattle.constraint.proofs.Library.{refl}
use Rattle.row_type.specs.Words.{number_words}
use Rattle.delay_order.proofs.order.wait_for_target.Goals as goal

pub returns : goal.returns
unfolding number_words
returns c parameters state past e = rw (c.settle.ensures parameters state past e) refl
