-- What each answer tells C callers in numbers.
use Rattle.std.specs.Prelude.{List, [], ◌∷◌, ℕ, ◌-◌, leb}
use Rattle.exact.specs.Pick.{pick}
use Rattle.record.specs.declared.Kind.{Kind}
use Rattle.answer.specs.declared.Stop.{Stop}
use Rattle.answer.specs.declared.Stop.TheVariants.{More, Refused}
use Rattle.answer.specs.Answers.{number_of, WriteAnswer, wrote, refuses}
use Rattle.area.specs.Area.{span_start, span_end}
use Rattle.numbers.specs.declared.Told.{Told}
use Rattle.lent.specs.Buffers.{told_in}
use Rattle.stored_form.specs.Loading.{LoadAnswer, loads, no_record}
use Rattle.lookup.specs.Lookup.{Finding, found, absent, gave_up, refused as no_area}

-- the C functions tell four numbers
abbrev pub numbers_size : ℕ
numbers_size = 4

-- "14: the output is shorter than what must be written": where the numbers are too few, there is no room for the output either
abbrev pub room_beside : (numbers output : ℕ) → ℕ
room_beside numbers output = pick (leb numbers_size numbers) output 0

-- 0, or the number of the refusal
abbrev pub written_number : WriteAnswer → ℕ
written_number (wrote n) = 0
written_number (refuses k) = k

-- the length written; a refusal changes no number
abbrev pub numbers_after : WriteAnswer → List ℕ → List ℕ
numbers_after (wrote n) numbers = told_in numbers_size (n ∷ 0 ∷ 0 ∷ 0 ∷ []) numbers
numbers_after (refuses k) numbers = numbers

-- 0 is accepted; else "15, 16, 17, 18", and 24
abbrev pub load_number : LoadAnswer → ℕ
load_number (loads r) = 0
load_number (no_record k) = k

-- "An ill-formed area: 12"; 0 is found, 253 absent, 254 gave up
abbrev pub lookup_number : Finding → ℕ
lookup_number found = 0
lookup_number absent = 253
lookup_number gave_up = 254
lookup_number (no_area number) = number

-- an answer that tells one number
abbrev pub tells_one : (answer first : ℕ) → Told
tells_one answer first = record { answer = answer; first = first; second = 0; start = 0; length = 0 }

abbrev pub four_of : Told → List ℕ
four_of t = t.first ∷ t.second ∷ t.start ∷ t.length ∷ []

-- what is told of a header of n bytes, of which size are there, and of bytes that are no whole header
abbrev pub header_told : (n version : ℕ) → Kind → ℕ → Told
header_told n version kind size =
    record {
      answer = 0;
      first = n;
      second = version;
      start = n - (span_end n version kind size - span_start n version kind size);
      length = span_end n version kind size - span_start n version kind size;
    }

abbrev pub stop_told : Stop → Told
stop_told (More n) = tells_one 255 n
stop_told (Refused k p) = tells_one (number_of k) p
