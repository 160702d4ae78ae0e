-- What `dawnhawse_doorman` answers and leaves in the numbers that are lent to it.
use Rattle.std.specs.Prelude.{◌≡◌, List, ℕ, leb, length}
use Rattle.exact.specs.Pick.{pick}
use Rattle.lent.specs.Buffers.{told_in}
use Rattle.numbers.specs.declared.Told.{Told}
use Rattle.numbers.specs.Numbers.{numbers_size, tells_one, four_of}
use Rattle.profile.specs.Profile.{Admission, admitted, more, refused, denied}

-- 0 with the level, the header's length, and where the value of TLV 0x05 starts in the bytes and its length; 255 with how few further bytes could make a
-- whole header; the number of a refusal with its place; "30 to 34 with zeros"
abbrev pub told_admission : Admission → Told
told_admission (admitted level n start size) = record { answer = 0; first = level; second = n; start = start; length = size }
told_admission (more n) = tells_one 255 n
told_admission (refused k p) = tells_one k p
told_admission (denied k) = tells_one k 0

-- what is told of an answer: "14 for fewer than 4 numbers", and the numbers as they were
pub record AdmissionTold (a : Admission) (numbers : List ℕ) (answer : ℕ) (after : List ℕ) : Type 0 where
  pub answers : answer ≡ pick (leb numbers_size (length numbers)) (told_admission a).answer 14
  pub left : after ≡ told_in numbers_size (four_of (told_admission a)) numbers
