-- Stored bytes and what is answered, worked out by hand from documents 01 and 02, as computed tests of the definitions. Most rows that are refused have
-- faults of later checks too, so that the order shows.
use Rattle.std.specs.Prelude.{List, [], ◌∷◌, map, ℕ}
use Rattle.answer.specs.Answers.{WriteAnswer, refuses}
use Rattle.stored_form.specs.declared.StoredVersion.{StoredVersion}
use Rattle.stored_form.specs.Loading.{LoadAnswer, no_record, load_answer}
use Rattle.stored_form.specs.Converting.{convert_answer}

-- ── the reader's order ──
pub record Row : Type 0 where
  pub bytes : List ℕ
  pub number : ℕ

abbrev pub refusals : StoredVersion → List Row → List LoadAnswer
refusals v = map (λ (r : Row). load_answer v r.bytes)

abbrev pub numbers : List Row → List LoadAnswer
numbers = map (λ (r : Row). no_record r.number)

-- "under 6 bytes 18, mark 15, version 16, code 17, total length 18"
abbrev pub version_1 : List Row
version_1 =
    record { bytes = 0x00 ∷ 0x00 ∷ 0x00 ∷ 0x00 ∷ 0x00 ∷ []; number = 18 }
    ∷ record { bytes = 0x43 ∷ 0x53 ∷ 0x53 ∷ 0x00 ∷ 0x02 ∷ 0x02 ∷ 0x00 ∷ []; number = 15 }
    ∷ record { bytes = 0x43 ∷ 0x53 ∷ 0x52 ∷ 0x00 ∷ 0x02 ∷ 0x02 ∷ 0x00 ∷ []; number = 16 }
    ∷ record { bytes = 0x43 ∷ 0x53 ∷ 0x52 ∷ 0x00 ∷ 0x01 ∷ 0x02 ∷ 0x00 ∷ []; number = 17 }
    ∷ record { bytes = 0x43 ∷ 0x53 ∷ 0x52 ∷ 0x00 ∷ 0x01 ∷ 0x01 ∷ 0x00 ∷ []; number = 18 } ∷ []

-- "24 between 17 and the final length check; … under 7 bytes is 18"; "Matched beside local or unspecified reads as 24"
abbrev pub version_2 : List Row
version_2 =
    record { bytes = 0x00 ∷ 0x00 ∷ 0x00 ∷ 0x00 ∷ 0x00 ∷ 0x00 ∷ []; number = 18 }
    ∷ record { bytes = 0x42 ∷ 0x53 ∷ 0x52 ∷ 0x00 ∷ 0x01 ∷ 0x10 ∷ 0x02 ∷ 0x00 ∷ []; number = 15 }
    ∷ record { bytes = 0x43 ∷ 0x53 ∷ 0x52 ∷ 0x00 ∷ 0x01 ∷ 0x10 ∷ 0x02 ∷ 0x00 ∷ []; number = 16 }
    ∷ record { bytes = 0x43 ∷ 0x53 ∷ 0x52 ∷ 0x00 ∷ 0x02 ∷ 0x10 ∷ 0x02 ∷ 0x00 ∷ []; number = 17 }
    ∷ record { bytes = 0x43 ∷ 0x53 ∷ 0x52 ∷ 0x00 ∷ 0x02 ∷ 0x11 ∷ 0x02 ∷ 0x00 ∷ []; number = 24 }
    ∷ record { bytes = 0x43 ∷ 0x53 ∷ 0x52 ∷ 0x00 ∷ 0x02 ∷ 0x00 ∷ 0x01 ∷ 0x00 ∷ []; number = 24 }
    ∷ record { bytes = 0x43 ∷ 0x53 ∷ 0x52 ∷ 0x00 ∷ 0x02 ∷ 0x01 ∷ 0x01 ∷ []; number = 24 }
    ∷ record { bytes = 0x43 ∷ 0x53 ∷ 0x52 ∷ 0x00 ∷ 0x02 ∷ 0x11 ∷ 0x01 ∷ 0x00 ∷ []; number = 18 } ∷ []

-- "An invalid input first gives its reader's number": into no room at all
abbrev pub moves : (from to : StoredVersion) → List Row → List WriteAnswer
moves from to = map (λ (r : Row). convert_answer from to r.bytes 0)

abbrev pub refused : List Row → List WriteAnswer
refused = map (λ (r : Row). refuses r.number)
