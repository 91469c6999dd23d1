-- Whether a step may be withdrawn, and which number the last one has, stand at their places.
use Rattle.delkuthi.proofs.Names.{Bool, HoldsMonitor, Monitor, Refused, Taken, Words, [], ◌<◌, ◌∙◌, ◌≡◌, ap, cond, get_or, lt-ltb, ltb}
use Rattle.delkuthi.proofs.Names.{number_at, ℕ}
use Rattle.monitor.specs.Machine.{refuses, takes, withdraw_of, withdrawn}

module _ (words : Words) (m : Monitor) (holds : HoldsMonitor words m) where
  pub may_read : get_or (get_or (get_or words 32 []) 0 []) 5 0 ≡ m.undo.may
  may_read =
      number_at holds.lent holds.indexes.shaped words holds.words_are 5 ∙ ap (λ (x : Monitor). x.undo.may) holds.monitor_is

pub none_answers : (m : Monitor) → m.undo.may ≡ 0 → (withdraw_of m).answer ≡ Refused 21
unfolding withdraw_of
none_answers m e = ap (λ (k : ℕ). (cond (ltb 0 k) (takes (withdrawn m)) (refuses 21 m)).answer) e

pub some_answers : (m : Monitor) → 0 < m.undo.may → (withdraw_of m).answer ≡ Taken
unfolding withdraw_of
some_answers m h = ap (λ (b : Bool). (cond b (takes (withdrawn m)) (refuses 21 m)).answer) (lt-ltb 0 m.undo.may h)
