-- Both words are put, one after the other; places that the ring does not have stay as they are.
use Rattle.ring.proofs.Names.{Ring, ◌+◌, ◌≡◌, ◌≤◌, arith, le-ltb, put_ring, sym, ℕ}
use Rattle.ring.proofs.put_pair.Goals as goal

-- words at places that the ring does not have
beyond : (q : Ring) (place first second : ℕ) → q.len ≤ place → put_ring (place + 1) second (put_ring place first q) ≡ q
unfolding put_ring
beyond q place first second out = rw (le-ltb place q.len out, le-ltb (place + 1) q.len (omega arith))

pub returns-else-place-len : goal.returns-else-place-len
returns-else-place-len c = sym (beyond _ _ _ _ c.if-place-len.false)
