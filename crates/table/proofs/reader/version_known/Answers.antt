-- A first byte that is an edition is there, so it is left to compare it with the newest edition.
use Rattle.table.proofs.Names.{arith}
use Rattle.table.proofs.{Places.version_asked}
use Rattle.table.proofs.reader.version_known.Goals as goal

pub returns-then-last_type-ne0 : goal.returns-then-last_type-ne0
returns-then-last_type-ne0 c =
    let byte = c.byte_at-version in let a = c.args in
    version_asked a.newest a.bytes.now byte.result byte.ensures (omega (arith, c.last_type.ensures, c.if-last_type-ne0.true))
