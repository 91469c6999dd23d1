-- The place is stored where some leave.
use Rattle.row_type.proofs.Names.{arith, ne_eqb, number_words, refl}
use Rattle.row_type.proofs.row_words.move_head.Goals as goal

pub returns-then-dropped-gt0 : goal.returns-then-dropped-gt0
unfolding number_words
returns-then-dropped-gt0 c parameters state past e = rw (e, ne_eqb c.args.dropped 0 (λ none. omega (arith, c.if-dropped-gt0.true))) refl
