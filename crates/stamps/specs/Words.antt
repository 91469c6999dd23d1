-- The three words as bytes.
use Rattle.std.specs.Prelude.{ℕ, List, [], ◌∷◌}
use Rattle.constraint.specs.Report.{kept_word, broken_word}
use Rattle.constraint.specs.declared.StampedVerdict.{StampedVerdict}

abbrev pub unsure_word : List ℕ
unsure_word = 117 ∷ 110 ∷ 115 ∷ 117 ∷ 114 ∷ 101 ∷ []

-- §12.3: kept, broken, unsure
abbrev pub stamped_word : StampedVerdict → List ℕ
stamped_word StampedVerdict.Kept = kept_word
stamped_word StampedVerdict.Broken = broken_word
stamped_word StampedVerdict.Unsure = unsure_word
