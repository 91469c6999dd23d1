-- A record that is stored behind the bytes before it stands there as it was stored, so it reads back as its call.
use Rattle.delkuthi.proofs.Names.{Answer, Call, Judged, List, Question, Refused, Taken, [], ◌++◌, ◌+◌, ◌<◌, ◌∙◌, ◌∷◌, ◌≡◌, ◌≤◌}
use Rattle.delkuthi.proofs.Names.{ap, append-nil, ap₂, arith, at, cond, drop, eqb, judged_all, judged_no, judged_none, judged_parts}
use Rattle.delkuthi.proofs.Names.{judged_yes}
use Rattle.delkuthi.proofs.Names.{length, length-append, length-take-le, refl, split, subst, sym, take, true, ℕ}
use Rattle.std.specs.Prelude.{max}
use Rattle.delkuthi.proofs.RecordNumbers.{number_short, short?}
use Rattle.constraint.proofs.Judged.{judged_first, judged_later}
use Rattle.constraint.proofs.Library.{◌⊎◌, subst₂}
use Rattle.constraint.proofs.Library.{List·getD-append, drop_at, eqb-false, eqb-true, get_or-set_same, get_or-take, length-sets, sets, sets-eq}
use Rattle.constraint.proofs.Library.{take_at}
use Rattle.constraint.specs.Bytes.{bytes_of}
use Rattle.delkuthi.specs.Stamps.{place_number}
use Rattle.delkuthi.specs.Writing.{PutsRecord, begun, form_questions, place_for, refused, version_for, with_record, write_questions, written}
use Rattle.join.proofs.Bytes.{read_coloured, read_plain, read_tick}
use Rattle.join.specs.Walk.{call_bytes}
use Rattle.recording.specs.Record.{CallAt}

-- the place of the next record is at least 1
pub place_max : (size : ℕ) → max size 1 ≡ place_for size
place_max size =
    split (eqb size 0) (λ b. max size 1 ≡ cond b 1 size) (λ e. omega (arith, eqb-true size 0 e)) (λ e. omega (arith, eqb-false size 0 e))

pub place_least : (size : ℕ) → 0 < place_for size
place_least size = omega (arith, place_max size)

-- ---- the bytes up to the end of the record

module _ (buffer : List ℕ) (size : ℕ) (call : Call) (room : place_for size + length (call_bytes call) ≤ length buffer) where
  abbrev place : ℕ
  place = place_for size

  abbrev next : ℕ
  next = place + length (call_bytes call)

  begun_length : length (begun buffer size) ≡ length buffer
  begun_length =
      split (eqb size 0) (λ b. length (cond b (sets buffer 0 (2 ∷ [])) buffer) ≡ length buffer) (λ e. length-sets buffer 0 (2 ∷ [])) (λ e. refl)

  place_above : 0 < place
  place_above = place_least size

  front_length : length (take place (begun buffer size)) ≡ place
  front_length = length-take-le place (begun buffer size) (omega (arith, begun_length, room))

  front : take next (with_record buffer size call) ≡ take place (begun buffer size) ++ call_bytes call
  front =
      ap (take next) (sets-eq (call_bytes call) (begun buffer size) place (omega (arith, begun_length, room)))
      ∙ take_at (take place (begun buffer size) ++ call_bytes call) (drop next (begun buffer size)) next
      (length-append (take place (begun buffer size)) (call_bytes call) ∙ ap (λ (n : ℕ). n + length (call_bytes call)) front_length)

  stands : drop place (take next (with_record buffer size call)) ≡ call_bytes call ++ []
  stands =
      ap (drop place) front ∙ drop_at (take place (begun buffer size)) (call_bytes call) place front_length ∙ sym (append-nil (call_bytes call))

  version_kept : at (take next (with_record buffer size call)) 0 ≡ version_for buffer size
  version_kept =
      ap (λ (l : List ℕ). at l 0) front
      ∙ List·getD-append (take place (begun buffer size)) (call_bytes call) 0 0 (omega (arith, front_length, place_above))
      ∙ get_or-take place (begun buffer size) 0 0 place_above
      ∙ split (eqb size 0) (λ b. at (cond b (sets buffer 0 (2 ∷ [])) buffer) 0 ≡ cond b 2 (at buffer 0))
      (λ e. get_or-set_same buffer 0 2 0 (omega (arith, room, place_above))) (λ e. refl)

-- ---- the record is its call

module _ (buffer : List ℕ) (size : ℕ) where
  pub reads_back : (call : Call) → place_for size + length (call_bytes call) ≤ length buffer
      → Judged (form_questions (version_for buffer size) call) Taken
      → CallAt (take (place_for size + length (call_bytes call)) (with_record buffer size call)) (place_for size) call
      (place_for size + length (call_bytes call))
  unfolding bytes_of
  reads_back (Call.Event k t) room judged =
      let time = (judged_all 10 _ _ (judged_all 19 _ _ (judged_all 9 _ _ judged).1).1).0 in
      read_plain _ (place_for size) [] k t time (stands buffer size (Call.Event k t) room)
  reads_back (Call.ColouredEvent k c t) room judged =
      let coloured = judged_all 19 _ _ (judged_all 9 _ _ judged).1 in
      read_coloured _ (place_for size) [] k c t (judged_all 10 _ _ coloured.1).0
      (λ one. coloured.0.2 (sym (version_kept buffer size (Call.ColouredEvent k c t) room) ∙ one))
      (stands buffer size (Call.ColouredEvent k c t) room)
  reads_back (Call.Tick t) room judged =
      read_tick _ (place_for size) [] t (judged_all 10 _ _ judged).0 (stands buffer size (Call.Tick t) room)
  reads_back Call.Close room judged = absurd (judged_all 14 _ _ judged).0

  -- the parts of the questions
  pub judged_form : (call : Call) → Judged (write_questions buffer size call) Taken
      → Judged (form_questions (version_for buffer size) call) Taken × (place_for size + length (call_bytes call) ≤ length buffer)
  judged_form call judged =
      let later = judged_parts (form_questions (version_for buffer size) call) _ (judged_all 13 _ _ judged).1 in
      (later.0, (judged_all 16 _ _ later.1).0)

  -- ---- the number of a refusal

  short_write : (call : Call) → short? (write_questions buffer size call) ≡ true
  unfolding short?
  short_write (Call.Event k t) = refl
  short_write (Call.ColouredEvent k c t) = refl
  short_write (Call.Tick t) = refl
  short_write Call.Close = refl

  pub refusal_write : (call : Call) (n : ℕ) → Judged (write_questions buffer size call) (Refused n) → (0 < n) × (n < 128)
  refusal_write call n judged = number_short (write_questions buffer size call) n (short_write call) judged

-- ---- what the writer's functions come to

module _ (buffer : List ℕ) (size : ℕ) (call : Call) where
  abbrev room_question : List Question
  room_question = (16, place_for size + length (call_bytes call) ≤ length buffer) ∷ []

  module _ (version : ℕ) (is : version ≡ version_for buffer size) where
    same_known : (version ≡ 1) ⊎ (version ≡ 2) → (version_for buffer size ≡ 1) ⊎ (version_for buffer size ≡ 2)
    same_known = subst (λ (v : ℕ). (v ≡ 1) ⊎ (v ≡ 2)) is

    pub unknown_version : ¬ ((version ≡ 1) ⊎ (version ≡ 2)) → Judged (write_questions buffer size call) (Refused 13)
    unknown_version none =
        judged_no 13 _ (form_questions (version_for buffer size) call ++ room_question)
        (λ known. none (subst (λ (v : ℕ). (v ≡ 1) ⊎ (v ≡ 2)) (sym is) known))

    module _ (known : (version ≡ 1) ⊎ (version ≡ 2)) where
      pub form_refused : (n : ℕ) → Judged (form_questions version call) (Refused n) → Judged (write_questions buffer size call) (Refused n)
      form_refused n judged =
          judged_yes 13 _ (form_questions (version_for buffer size) call ++ room_question) (Refused n) (same_known known)
          (judged_first (form_questions (version_for buffer size) call) room_question n
          (subst (λ (v : ℕ). Judged (form_questions v call) (Refused n)) is judged))

      module _ (form : Judged (form_questions version call) Taken) where
        behind_form : (answer : Answer) → Judged room_question answer → Judged (write_questions buffer size call) answer
        behind_form answer later =
            judged_yes 13 _ (form_questions (version_for buffer size) call ++ room_question) answer (same_known known)
            (judged_later (form_questions (version_for buffer size) call) room_question answer
            (subst (λ (v : ℕ). Judged (form_questions v call) Taken) is form)
            later)

        pub no_room : ¬ (place_for size + length (call_bytes call) ≤ length buffer) → Judged (write_questions buffer size call) (Refused 16)
        no_room none_left = behind_form (Refused 16) (judged_no 16 _ [] none_left)

        pub room_there : place_for size + length (call_bytes call) ≤ length buffer → Judged (write_questions buffer size call) Taken
        room_there fits = behind_form Taken (judged_yes 16 _ [] Taken fits judged_none)

  pub put_refused : (n : ℕ) → Judged (write_questions buffer size call) (Refused n) → PutsRecord buffer size call n buffer
  put_refused n judged = let small = refusal_write buffer size call n judged in refused n judged small.0 small.1

  -- there is room where no question says no
  pub put_room : Judged (write_questions buffer size call) Taken → place_for size + length (call_bytes call) ≤ length buffer
  put_room judged = (judged_form buffer size call judged).1

  pub put_written : Judged (write_questions buffer size call) Taken → {place next : ℕ} {mid after : List ℕ}
      → place ≡ place_for size → next ≡ place + length (call_bytes call) → mid ≡ begun buffer size
      → after ≡ sets mid place (call_bytes call) → PutsRecord buffer size call (place_number next) after
  put_written judged p e g h =
      let parts = judged_form buffer size call judged in
      let end : ℕ = place_for size + length (call_bytes call) in
      subst₂ (PutsRecord buffer size call)
      (sym (ap place_number (e ∙ ap (λ (k : ℕ). k + length (call_bytes call)) p)))
      (sym (h ∙ ap₂ (λ (l : List ℕ) (k : ℕ). sets l k (call_bytes call)) g p))
      (written end judged (reads_back buffer size call parts.1 parts.0))
