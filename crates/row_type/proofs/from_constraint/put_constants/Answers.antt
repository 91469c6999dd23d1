-- The values from the first constant on are the constraint's constants; a row without constants keeps its zeros.
use Rattle.constraint.proofs.Library.{List, [], ◌∙◌, ◌≡◌, ap, ap₂, arith, drop_of_length-le, replicate, sets, sym, ℕ}
use Rattle.constraint.specs.Steps.{at}
use Rattle.table_row.specs.Records.{roles_of}
use Rattle.table_row.proofs.Judging.{known_row}
use Rattle.row_type.specs.Parameters.{first_constant, used_from}
use Rattle.row_type.proofs.{RowNumbers.row_words}
use Rattle.row_type.proofs.from_constraint.put_constants.Goals as goal

pub returns-then-first-lt-MOST_FIELDS : goal.returns-then-first-lt-MOST_FIELDS
returns-then-first-lt-MOST_FIELDS c zeros =
    let a = c.args in let v = a.values.now in let edition = c.requires.0 in
    c.put_values.ensures
    ∙ ap₂ (λ (l roles : List ℕ). sets l 0 (used_from roles v c.first_constant-first.result)) zeros
    c.roles_of.ensures
    ∙ ap (λ (i : ℕ). sets (replicate 64 0) 0 (used_from (roles_of a.tag (at v 0)) v i))
    c.first_constant-first.ensures
    ∙ row_words edition a.tag v (known_row edition a.tag v c.requires.1)

pub returns-else-first-lt-MOST_FIELDS : goal.returns-else-first-lt-MOST_FIELDS
returns-else-first-lt-MOST_FIELDS c zeros =
    let a = c.args in let v = a.values.now in let edition = c.requires.0 in
    let roles = roles_of a.tag (at v 0) in
    let none : used_from roles v (first_constant a.tag) ≡ [] =
    rw (drop_of_length-le roles {i = first_constant a.tag} (omega (arith, c.if-first-lt-MOST_FIELDS.false, c.first_constant-first.ensures))) in
    zeros ∙ ap (sets (replicate 64 0) 0) (sym none) ∙ row_words edition a.tag v (known_row edition a.tag v c.requires.1)
