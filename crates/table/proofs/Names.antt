-- The names of the definitions and laws below this crate that its proofs use, passed on from one place.
pub use Rattle.constraint.proofs.Accepted.{row_accepted, rows_refused, rows_room, rows_taken, rows_then}
pub use Rattle.constraint.proofs.Judged.{failed, judged_all, judged_first, judged_later, judged_no, judged_none, judged_once, judged_once_on}
pub use Rattle.constraint.proofs.Judged.{judged_parts, judged_yes, never, passed, same_test, test_le, yes_of}
pub use Rattle.constraint.proofs.Library.{Bool, not}
pub use Rattle.constraint.proofs.Library.{List, [], ◌*◌, ◌++◌, ◌+◌, ◌-◌, ◌<◌, ◌∙◌, ◌∷◌, ◌≡◌, ◌≤◌, add-one}
pub use Rattle.constraint.proofs.Library.{add-sub_cancel_left, add-zero, ap, append_assoc, ap₂, arith, drop, drop-append_seam}
pub use Rattle.constraint.proofs.Library.{drop_at, drop-cons, drop-drop, drop_of_length-le, eqb, eqb-false, eqb-true, ext_get_or, get_or}
pub use Rattle.constraint.proofs.Library.{get_or-drop, get_or-take, get_elem?, leb, length, length-append, length-drop}
pub use Rattle.constraint.proofs.Library.{length-take, length-take-le, ltb, ltb-false, ltb-true, rules, refl, sets, some, subst}
pub use Rattle.constraint.proofs.Library.{subst⁻¹, subst₂, suc, sym, take, take_all, take-append-drop, take-append_seam, take_at}
pub use Rattle.constraint.proofs.Library.{zero, ℕ}
pub use Rattle.constraint.proofs.{Editions.edition_above, Judged.skipped, Lists.split}
pub use Rattle.table_row.proofs.Accepting.{ReadBack, write_then_read as write-back}
pub use Rattle.table_row.proofs.Bodies.{bytes_part, number_back}
pub use Rattle.table_row.proofs.Standing.{row_stands, stands_known, stands_once, two_long}
pub use Rattle.table_row.proofs.{Judging.row_bytes_long, Judging.row_short, Lines.known_short, Tables.row_known, Tables.rows_from, Tables.rows_length}
pub use Rattle.table_row.proofs.Stores.{loaded_row}
pub use Rattle.table_row.specs.Records.{roles_of, row_from, row_in}
pub use Rattle.constraint.proofs.Library.{length-sets, replicate}
pub use Rattle.table_row.specs.{Tables.rows_of, declared.Table.Table, declared.TableRow.TableRow}
pub use Rattle.constraint.specs.Accepted.{Accepted, AcceptedIn, row_questions, row_questions_in}
pub use Rattle.constraint.specs.Bytes.{bytes_at, bytes_of}
pub use Rattle.constraint.specs.Records.{Decides, filler}
pub use Rattle.constraint.specs.Table.{ReadsRows, ReadsTableUpTo, RowAt, Same, ShapeFits, StandsFor, TableRead, VersionUpTo, WholeAt}
pub use Rattle.constraint.specs.Table.{body_at, length_at, no_more, row_refused, row_taken, row_then, table_of, table_refused, version_refused}
pub use Rattle.constraint.specs.Table.{version_taken, writer_questions}
pub use Rattle.constraint.specs.Types.{TypeKnown, count_of, last_type, length_of, type_of}
pub use Rattle.constraint.specs.{Limits.row_limit, Questions.Judged, Questions.Question, Steps.at, Answer.Answer}
pub use Rattle.constraint.specs.{Answer.Refused, Answer.Taken, Constraint.Constraint}
pub use Rattle.big_endian.proofs.Numbers.{bytes_length, number_of_bytes}
pub use Rattle.big_endian.proofs.Stores.{stores_append, stores_front}
pub use Rattle.table.specs.Raw.{KnownAt, KnownRows, RawRows, RowTaken, WholeRow, WritesRaw, all_read, body_length, raw_body, raw_row}
pub use Rattle.table.specs.Raw.{raw_size, stopped_at}
pub use Rattle.table.specs.{Reading.ReadsInto, Reading.read_of, Rows.ReadsAt, Rows.row_read_at}
pub use Rattle.table.specs.{Scan.Counted, Scan.PlacedAt, Scan.Says, Writing.Writes}
pub use Rattle.table.specs.{WriteAnswer.WriteAnswer, declared.scan.Placed.Placed}
unfoldable pub use Rattle.constraint.specs.Table.{place_questions, row_body, row_bytes, rows_bytes, table_bytes_in}
unfoldable pub use Rattle.constraint.specs.{Accepted.rows_questions, Bytes.Bytes}
unfoldable pub use Rattle.table.specs.Raw.{raw_rows}
unfoldable pub use Rattle.table_row.specs.Records.{row_read, values_at}
