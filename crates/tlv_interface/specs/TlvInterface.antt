-- What the C functions that look into a TLV area answer and leave.
use Rattle.std.specs.Prelude.{◌≡◌, List, [], ◌∷◌, ℕ, leb, length}
use Rattle.exact.specs.Pick.{pick}
use Rattle.lookup.specs.Lookup.{Lookup, lookup_of}
use Rattle.tlv_step.specs.Step.{Step, shown, end, refused, start_of, length_of, place_after}
use Rattle.lent.specs.Buffers.{told_in}
use Rattle.numbers.specs.Numbers.{numbers_size, lookup_number}

-- the number of TLVs examined, the type asked for, and where the value starts in the area and its length
abbrev pub lookup_numbers : ℕ → Lookup → List ℕ
lookup_numbers wanted x = x.count ∷ wanted ∷ x.start ∷ x.length ∷ []

-- what `dawnhawse_lookup` answers and leaves: with too little room 14, and the numbers as they were
pub record LookupTold (area : List ℕ) (wanted limit : ℕ) (numbers : List ℕ) (answer : ℕ) (after : List ℕ) : Type 0 where
  pub answers : answer ≡ pick (leb numbers_size (length numbers)) (lookup_number (lookup_of area wanted limit).outcome) 14
  pub left : after ≡ told_in numbers_size (lookup_numbers wanted (lookup_of area wanted limit)) numbers

-- "the step answers 12"; 0 is a TLV shown, 252 the end
abbrev pub step_number : Step → ℕ
step_number (shown type start size) = 0
step_number end = 252
step_number (refused number) = number

abbrev pub type_of : Step → ℕ
type_of (shown type start size) = type
type_of end = 0
type_of (refused number) = 0

-- the place after the step, the type, and where the value starts in the area and its length
abbrev pub step_numbers : ℕ → Step → List ℕ
step_numbers at step = place_after at step ∷ type_of step ∷ start_of step ∷ length_of step ∷ []

-- what a step at a place leaves: with too little room 14, and the numbers as they were
pub record StepTold (at : ℕ) (step : Step) (numbers : List ℕ) (answer : ℕ) (after : List ℕ) : Type 0 where
  pub answers : answer ≡ pick (leb numbers_size (length numbers)) (step_number step) 14
  pub left : after ≡ told_in numbers_size (step_numbers at step) numbers
