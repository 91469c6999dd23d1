-- What the joined recording is: valid, of the higher version, and with the records of both.
use Rattle.join.proofs.Names.{Interleaves, List, NoneInCommon, ReadsInOrder, Step, ◌<◌, ◌^◌, ◌≡◌, arith, at, joined, joined_bytes, length}
use Rattle.join.proofs.Names.{max}
use Rattle.join.proofs.Names.{recording_of, refl, times_of, without, ℕ}
use Rattle.join.proofs.Merging.{joined_line, joined_valid, line_other}
use Rattle.join.proofs.{Bytes.reads_back, Bytes.steps_few, Holding.joined_interleaves, Records.whole}

module _ (one two : List ℕ) (first second : List Step) (read : ReadsInOrder one (recording_of first))
    (also : ReadsInOrder two (recording_of second)) where
  -- §13.4: it is valid, and reads as the joined steps; the bytes are those of a buffer, of which there are fewer than 2 ^ 64
  pub joined_reads : NoneInCommon first second → length (joined_bytes one two first second) < 2 ^ 64
      → ReadsInOrder (joined_bytes one two first second) (recording_of (joined first second))
  joined_reads apart long =
      let a = whole one first read in
      let b = whole two second also in
      let version = max (at one 0) (at two 0) in
      let l = line_other (at one 0) version (λ e. omega (arith, a.known.1, b.known.1, e)) 0 first a.line in
      let m = line_other (at two 0) version (λ e. omega (arith, a.known.1, b.known.1, e)) 0 second b.line in
      let line = joined_line version first second l m in
      reads_back version (omega (arith, a.known.1), omega (arith, a.known.2, b.known.2)) (joined first second)
      (joined_valid version first second a.valid b.valid l m apart (omega (arith, long, steps_few version 0 (joined first second) line))) line

  -- §13.3: its version is the higher one
  pub joined_version : at (joined_bytes one two first second) 0 ≡ max (at one 0) (at two 0)
  joined_version = refl

  -- §13.4
  -- it holds every record of the first, and of the second all but the ticks at a time of which the first has a record; each in its order, and no
  -- other
  pub joined_holds : Interleaves first (without (times_of first) second) (joined first second)
  joined_holds = joined_interleaves first second (whole one first read).strict (whole two second also).strict
