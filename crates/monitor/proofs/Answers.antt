-- The number of the first "no" except 12 determines a call's answer: refused with it, or refused with 12, or taken.
use Rattle.monitor.proofs.Names.{Call, Monitor, ◌<◌, ◌≡◌, ◌≤◌, crowds, false, le-ltb, lt-ltb, refuses, stepped_by, taken_call, takes, true, ℕ}

module _ (m : Monitor) (call : Call) (number : ℕ) where
  pub refused_by : 0 < number → refuses number m ≡ stepped_by m call number
  refused_by h = rw (lt-ltb 0 number h)

  pub crowded_by : number ≤ 0 → crowds m call ≡ true → refuses 12 m ≡ stepped_by m call number
  crowded_by h full = rw (le-ltb 0 number h, full)

  pub taken_by : number ≤ 0 → crowds m call ≡ false → takes (taken_call m call) ≡ stepped_by m call number
  taken_by h free = rw (le-ltb 0 number h, free)
