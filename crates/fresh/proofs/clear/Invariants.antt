-- Block after block: before the turn of number i the first i are cleared.
use Rattle.fresh.proofs.Names.{◌≡◌, no_words, replicate, take}
use Rattle.fresh.proofs.clear.Given as goal

abbrev pub invariant-loop-block : goal.invariant-loop-block
invariant-loop-block l = take l.block-index l.blocks ≡ replicate l.block-index no_words
