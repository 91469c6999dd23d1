-- Bytes put behind a text, one after the other: what it holds then is what it held and those bytes, as long as there is room.
use Rattle.constraint.proofs.Library.{List, [], ◌++◌, ◌+◌, ◌<◌, ◌∙◌, ◌∷◌, ◌≡◌, ◌≤◌, add-one, ap, append_assoc, append-nil, arith, drop, drop-cons}
use Rattle.constraint.proofs.Library.{by_cases, dec_lt, get_or, get_or-set_other, length, length-append, length-replicate, length-set}
use Rattle.constraint.proofs.Library.{length-take-le, lt-ltb, min, refl, replicate, set, sets, suc, sym, take, take_all, take-suc-set, zero, ℕ}
use Rattle.big_endian.proofs.Stores.{stores_front}
use Rattle.text.specs.Content.{Copied, HoldsText, content, empty_text, extended, text_limit, with_byte}
use Rattle.text.specs.declared.Text.{Text}

-- Bytes behind a text

pub extended_append : (first later : List ℕ) (text : Text) → extended (first ++ later) text ≡ extended later (extended first text)
unfolding extended
extended_append [] later text = refl
extended_append (byte ∷ first) later text = extended_append first later (with_byte byte text)

-- a text with room stores the byte behind what it holds
pushed_stored : (byte : ℕ) (text : Text) → text.len < text_limit → with_byte byte text
    ≡ record { bytes = set text.bytes text.len byte; len = text.len + 1 }
unfolding with_byte
pushed_stored byte text room = rw (lt-ltb text.len text_limit room)

-- the first of the bytes left is put behind it
pub extended_next : (list : List ℕ) (i : ℕ) (text : Text) → i < length list
    → extended (drop i list) text ≡ extended (drop (i + 1) list) (with_byte (get_or list i 0) text)
unfolding extended
extended_next list i text there = rw (drop-cons list i 0 there, add-one i)

-- What a text holds

held_length : (text : Text) (list : List ℕ) → HoldsText text list → text.len ≡ length list
held_length text list holds = rw (← holds.held, length-take-le text.len text.bytes (omega arith))

zeros : (n i : ℕ) → get_or {A = ℕ} (replicate n 0) i 0 ≡ 0
zeros zero i = refl
zeros (suc n) zero = refl
zeros (suc n) (suc i) = zeros n i

pub holds_nothing : HoldsText empty_text []
holds_nothing = record { size = length-replicate {A = ℕ} text_limit 0; within = omega arith; held = refl; rest = λ i h. zeros text_limit i }

holds_pushed : (text : Text) (list : List ℕ) (byte : ℕ) → HoldsText text list → length list < text_limit
    → HoldsText (with_byte byte text) (list ++ (byte ∷ []))
holds_pushed text list byte holds room =
    let len : text.len < text_limit = omega (arith, held_length text list holds) in
    rw (pushed_stored byte text len)
    (record {
      size = length-set text.bytes text.len byte ∙ holds.size;
      within = omega arith;
      held = rw (add-one text.len, take-suc-set text.bytes text.len byte (omega arith), holds.held);
      rest = λ i h. get_or-set_other text.bytes text.len i byte 0 (λ e. omega arith) ∙ holds.rest i (omega arith);
    })

pub holds_extended : (text : Text) (list more : List ℕ) → HoldsText text list → length list + length more ≤ text_limit
    → HoldsText (extended more text) (list ++ more)
unfolding extended
holds_extended text list [] holds room = rw (append-nil list) holds
holds_extended text list (byte ∷ more) holds room =
    rw (← append_assoc list (byte ∷ []) more)
    (holds_extended (with_byte byte text) (list ++ (byte ∷ [])) more (holds_pushed text list byte holds (omega arith))
    (omega (arith, length-append list (byte ∷ []))))

-- a text that was made from nothing holds what was put there
pub holds_all : (list : List ℕ) → length list ≤ text_limit → HoldsText (extended list empty_text) list
holds_all list room = holds_extended empty_text [] list holds_nothing (omega arith)

-- A text copied to a buffer

pub copied_all : (text before : List ℕ) → length text ≤ length before → Copied text before (length text) (sets before 0 text)
copied_all text before long =
    record { fits = λ h. (refl, stores_front before text long); too_short = λ h. absurd (omega arith) }

pub copied_none : (text before : List ℕ) → length before < length text → Copied text before 0 before
copied_none text before short = record { fits = λ h. absurd (omega arith); too_short = λ h. (refl, refl) }

-- the bytes that a text holds, and also one whose length says more than there is
module _ (text : Text) (before : List ℕ) (len : ℕ) (size : length text.bytes ≡ text_limit) (least : len ≡ min text.len text_limit) where
  held : take len text.bytes ≡ content text
  held =
      by_cases (dec_lt text.len text_limit) (λ short. let same : len ≡ text.len = omega arith in rw same)
      (λ full. take_all len text.bytes (omega arith) ∙ sym (take_all text.len text.bytes (omega arith)))

  counted : len ≡ length (content text)
  counted = sym (length-take-le len text.bytes (omega arith)) ∙ ap length held

  pub copied_held : len ≤ length before → Copied (content text) before len (sets before 0 (take len text.bytes))
  copied_held long = rw (held, counted) (copied_all (content text) before (omega (arith, counted)))

  pub copied_short : length before < len → Copied (content text) before 0 before
  copied_short short = copied_none (content text) before (omega (arith, counted))

  -- the answer is some length just where there is room
  pub room_held : len ≤ length before → (length (content text) ≤ length before) × (len ≡ length (content text))
  room_held long = (omega (arith, counted, long), counted)

  pub room_short : length before < len → ¬ (length (content text) ≤ length before)
  room_short short long = omega (arith, counted, short, long)
