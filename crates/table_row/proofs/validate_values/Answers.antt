-- EachField test answers its question of the record's fields, which are the constraint's.
use Rattle.constraint.proofs.Library.{List, ◌∷◌, ◌≡◌, [], ap, subst, ℕ, not}
use Rattle.constraint.proofs.Judged.{failed, judged_no, judged_none, judged_yes, passed}
use Rattle.constraint.specs.Questions.{Judged, Question}
use Rattle.constraint.specs.Steps.{at}
use Rattle.constraint.specs.Answer.{Answer}
use Rattle.constraint.specs.Types.{Field, TypeKnown}
use Rattle.constraint.specs.Accepted.{EachField, FieldInRange, KindsFit, Ordered, KindClassFits, kinds_in, row_questions_in}
use Rattle.table_row.specs.Records.{fields_as, fields_from, roles_of, row_read}
use Rattle.table_row.proofs.{Judging.asked_with, Judging.row_asked, Judging.row_unknown}
use Rattle.table_row.proofs.validate_values.Goals as goal

-- the answer to the questions of the fields is the answer to all
module _ (edition tag : ℕ) (values roles : List ℕ) (same : roles ≡ roles_of tag (at values 0)) (known : TypeKnown edition tag (at values 0)) where
  abbrev n : ℕ
  n = at values 0

  abbrev fields : List Field
  fields = fields_from roles values 0

  abbrev Answers : List Question → Type 0
  Answers questions = (a : Answer) → Judged questions a → Judged (row_questions_in edition (row_read tag values)) a

  asked_5 : Answers (asked_with n fields)
  asked_5 a h = row_asked edition tag values known a (subst (λ (r : List ℕ). Judged (asked_with n (fields_as r values)) a) same h)

  -- the questions that are left
  abbrev from_18 : List Question
  from_18 = (18, EachField KindClassFits fields) ∷ (6, EachField FieldInRange fields) ∷ (7, Ordered n 0 fields) ∷ []

  asked_18 : KindsFit (kinds_in fields) → Answers from_18
  asked_18 kinds a h = asked_5 a (judged_yes 5 _ _ a kinds h)

  asked_6 : KindsFit (kinds_in fields) → EachField KindClassFits fields → Answers ((6, EachField FieldInRange fields) ∷ (7, Ordered n 0 fields) ∷ [])
  asked_6 kinds classes a h = asked_18 kinds a (judged_yes 18 _ _ a classes h)

  asked_7 : KindsFit (kinds_in fields) → EachField KindClassFits fields → EachField FieldInRange fields → Answers ((7, Ordered n 0 fields) ∷ [])
  asked_7 kinds classes ranges a h = asked_6 kinds classes a (judged_yes 6 _ _ a ranges h)

pub returns-then-not-type_known : goal.returns-then-not-type_known
returns-then-not-type_known c =
    let a = c.args in let test = c.type_known in
    row_unknown a.edition a.tag a.values.now (failed test.result test.ensures (ap not c.if-not-type_known.true))

pub returns-then-not-kinds_fit : goal.returns-then-not-kinds_fit
returns-then-not-kinds_fit c =
    asked_5 c.args.edition c.args.tag c.args.values.now c.roles_of-roles.result c.roles_of-roles.ensures
    (passed c.type_known.result c.type_known.ensures (ap not c.if-not-type_known.false))
    _
    (judged_no 5 _ _ (failed c.kinds_fit.result c.kinds_fit.ensures (ap not c.if-not-kinds_fit.true)))

pub returns-then-not-kind_classes_valid : goal.returns-then-not-kind_classes_valid
returns-then-not-kind_classes_valid c =
    asked_18 c.args.edition c.args.tag c.args.values.now c.roles_of-roles.result c.roles_of-roles.ensures
    (passed c.type_known.result c.type_known.ensures (ap not c.if-not-type_known.false))
    (passed c.kinds_fit.result c.kinds_fit.ensures (ap not c.if-not-kinds_fit.false))
    _
    (judged_no 18 _ _ (failed c.kind_classes_valid.result c.kind_classes_valid.ensures (ap not c.if-not-kind_classes_valid.true)))

pub returns-then-not-ranges_fit : goal.returns-then-not-ranges_fit
returns-then-not-ranges_fit c =
    asked_6 c.args.edition c.args.tag c.args.values.now c.roles_of-roles.result c.roles_of-roles.ensures
    (passed c.type_known.result c.type_known.ensures (ap not c.if-not-type_known.false))
    (passed c.kinds_fit.result c.kinds_fit.ensures (ap not c.if-not-kinds_fit.false))
    (passed c.kind_classes_valid.result c.kind_classes_valid.ensures (ap not c.if-not-kind_classes_valid.false))
    _
    (judged_no 6 _ _ (failed c.ranges_fit.result c.ranges_fit.ensures (ap not c.if-not-ranges_fit.true)))

pub returns-then-not-lower_first : goal.returns-then-not-lower_first
returns-then-not-lower_first c =
    asked_7 c.args.edition c.args.tag c.args.values.now c.roles_of-roles.result c.roles_of-roles.ensures
    (passed c.type_known.result c.type_known.ensures (ap not c.if-not-type_known.false))
    (passed c.kinds_fit.result c.kinds_fit.ensures (ap not c.if-not-kinds_fit.false))
    (passed c.kind_classes_valid.result c.kind_classes_valid.ensures (ap not c.if-not-kind_classes_valid.false))
    (passed c.ranges_fit.result c.ranges_fit.ensures (ap not c.if-not-ranges_fit.false))
    _
    (judged_no 7 _ _ (failed c.lower_first.result c.lower_first.ensures (ap not c.if-not-lower_first.true)))

pub lower_first-requires : goal.lower_first-requires
lower_first-requires c = passed c.ranges_fit.result c.ranges_fit.ensures (ap not c.if-not-ranges_fit.false)

pub returns : goal.returns
returns c =
    asked_7 c.args.edition c.args.tag c.args.values.now c.roles_of-roles.result c.roles_of-roles.ensures
    (passed c.type_known.result c.type_known.ensures (ap not c.if-not-type_known.false))
    (passed c.kinds_fit.result c.kinds_fit.ensures (ap not c.if-not-kinds_fit.false))
    (passed c.kind_classes_valid.result c.kind_classes_valid.ensures (ap not c.if-not-kind_classes_valid.false))
    (passed c.ranges_fit.result c.ranges_fit.ensures (ap not c.if-not-ranges_fit.false))
    _
    (judged_yes 7 _ _ _ (passed c.lower_first.result c.lower_first.ensures (ap not c.if-not-lower_first.false)) judged_none)
