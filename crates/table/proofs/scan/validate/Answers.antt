-- The version byte is asked for first, and then the rows of its edition.
use Rattle.table.proofs.Names.{ap, failed, not, version_refused, yes_of}
use Rattle.table.proofs.{Scanning.counted_behind}
use Rattle.table.proofs.scan.validate.Goals as goal

pub returns-then-not-version_known : goal.returns-then-not-version_known
returns-then-not-version_known c =
    let test = c.version_known in
    version_refused (failed test.result test.ensures (ap not c.if-not-version_known.true))

pub returns : goal.returns
returns c =
    let found = c.validate_rows in let edition = c.byte_at-edition in let a = c.args in
    let test = c.version_known in
    counted_behind a.newest edition.result a.bytes.now found.result
    (yes_of test.result test.ensures c.if-not-version_known.false)
    edition.ensures found.ensures
