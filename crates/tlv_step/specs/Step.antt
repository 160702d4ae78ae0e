-- A step over a TLV area.
use Rattle.std.specs.Prelude.{◌≡◌, List, ℕ, ◌+◌, ltb, leb, length, get_or, take, drop, Option, Some, None, Result, Ok, Err}
use Rattle.std.specs.Borrow.{Bor}
use Rattle.exact.specs.Pick.{pick}
use Rattle.tlv.specs.Test.{well_formed}
use Rattle.tlv.specs.Heads.{size_at}
use Rattle.tlv_step.specs.declared.IllFormed.{IllFormed}
use Rattle.tlv_step.specs.declared.Tlv.{Tlv}

-- "Each step shows the type and the value as the very part of the lent bytes, or the end", or answers a number; the part is told by its start and size
pub data Step : Type 0 where
  shown : (type start size : ℕ) → Step
  end : Step
  refused : (number : ℕ) → Step

-- the code's answer, by its number and values
abbrev pub told_step : Result (Option Tlv) IllFormed → Step
told_step (Ok (Some t)) = shown t.tlv_type t.value.start t.value.size
told_step (Ok None) = end
told_step (Err e) = refused 12

-- "the type and the value", or "the end": 12, if the TLV does not end in the area or "the place lies beyond the area"
abbrev pub head_at : List ℕ → ℕ → Step
head_at s at =
    pick (ltb at (length s))
    (pick (leb (at + 3 + size_at s at) (length s)) (shown (get_or s at 0) (at + 3) (size_at s at)) (refused 12))
    (pick (ltb (length s) at) (refused 12) end)

-- "if what remains from its place is ill-formed, .. the step answers 12"
abbrev pub step_at : List ℕ → ℕ → Step
step_at s at = pick (well_formed (drop at s)) (head_at s at) (refused 12)

-- where the value that is shown starts, and its length; 0 and 0, if none is
abbrev pub start_of : Step → ℕ
start_of (shown type start size) = start
start_of end = 0
start_of (refused number) = 0

abbrev pub length_of : Step → ℕ
length_of (shown type start size) = size
length_of end = 0
length_of (refused number) = 0

-- the bytes of the value that is shown
abbrev pub value_of : List ℕ → Step → List ℕ
value_of s r = take (length_of r) (drop (start_of r) s)

-- "the value as the very part of the lent bytes": it starts so far into the area's memory, and has those bytes
abbrev pub ValuePart : Bor (List ℕ) → Step → Bor (List ℕ) → Type 0
ValuePart area r value =
    (value.ref_ptr.0 ≡ area.ref_ptr.0) × (value.ref_ptr.1 ≡ area.ref_ptr.1 + start_of r) × (value.now ≡ value_of area.now r)

-- "the walker stays where it was. A shown TLV moves the place just past it; the end moves nothing"
abbrev pub place_after : ℕ → Step → ℕ
place_after at (shown type start size) = start + size
place_after at end = at
place_after at (refused number) = at

-- an answer as it is, if what it shows lies in the area; else the end
abbrev pub within : List ℕ → Step → Step
within s r = pick (leb (start_of r + length_of r) (length s)) r end
