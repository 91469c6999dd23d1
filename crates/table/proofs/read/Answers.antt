-- The version byte is asked for first, and then the rows of its edition.
use Rattle.table.proofs.Names.{ReadsRows, ap, failed, not, yes_of, read_of, subst, version_refused, version_taken, ℕ}
use Rattle.table.proofs.read.Goals as goal

pub returns-then-not-version_known : goal.returns-then-not-version_known
returns-then-not-version_known c =
    let test = c.version_known in version_refused (failed test.result test.ensures (ap not c.if-not-version_known.true))

pub returns : goal.returns
returns c =
    version_taken (yes_of c.version_known.result c.version_known.ensures c.if-not-version_known.false)
    (subst (λ (e : ℕ). ReadsRows e c.args.bytes.now 0 1 (read_of c.read_rows.result)) c.byte_at-edition.ensures c.read_rows.ensures)

pub read_rows-requires : goal.read_rows-requires
read_rows-requires c = (yes_of c.version_known.result c.version_known.ensures c.if-not-version_known.false).0
