-- Lemmas on what specs/Table.antt defines.
use Rattle.std.specs.Prelude.{◌≡◌, refl, List, [], ◌∷◌, ℕ}
use Rattle.record.specs.declared.Transport.TheVariants.{Stream}
use Rattle.record.specs.declared.Kind.TheVariants.{Local, Unspecified, Ip4}
use Rattle.record.specs.declared.Checksum.{Checksum}
use Rattle.record.specs.declared.Checksum.TheVariants.{Absent, Matched}
use Rattle.record.specs.declared.Record.{Record}
use Rattle.record.specs.Records.{record_of, with_checksum, bare}
use Rattle.answer.specs.Answers.{wrote, refuses}
use Rattle.stored_form.specs.declared.StoredVersion.TheVariants.{One, Two}
use Rattle.stored_form.specs.Stored.{stored, store_answer}
use Rattle.stored_form.specs.Loading.{loads, load_answer}
use Rattle.stored_form.specs.Converting.{converted, convert_answer}
use Rattle.stored_form.specs.Table.{moves, numbers, refusals, refused, version_1, version_2}

-- ── the reader's order ──
pub order_1 : refusals One version_1 ≡ numbers version_1
order_1 = refl

pub order_2 : refusals Two version_2 ≡ numbers version_2
order_2 = refl

pub invalid_first : (moves One Two version_1 ≡ refused version_1) × (moves Two One version_2 ≡ refused version_2)
invalid_first = (refl, refl)

-- ── one record in both versions ──
-- 192.168.0.1 to 192.168.0.11, port 56324 to port 443
abbrev block : List ℕ
block = 192 ∷ 168 ∷ 0 ∷ 1 ∷ 192 ∷ 168 ∷ 0 ∷ 11 ∷ 0xdc ∷ 0x04 ∷ 0x01 ∷ 0xbb ∷ []

abbrev caller : Checksum → Record
caller c = with_checksum c (record_of (Ip4 Stream) (192 ∷ 168 ∷ 0 ∷ 1 ∷ []) (192 ∷ 168 ∷ 0 ∷ 11 ∷ []) 56324 443)

abbrev one : List ℕ
one = 0x43 ∷ 0x53 ∷ 0x52 ∷ 0x00 ∷ 0x01 ∷ 0x11 ∷ block

abbrev two : (state : ℕ) → List ℕ
two state = 0x43 ∷ 0x53 ∷ 0x52 ∷ 0x00 ∷ 0x02 ∷ 0x11 ∷ state ∷ block

pub written : (stored One (caller Absent) ≡ one) × (stored Two (caller Absent) ≡ two 0x00) × (stored Two (caller Matched) ≡ two 0x01)
unfolding stored
written = (refl, refl, refl)

pub read_again : (load_answer One one ≡ loads (caller Absent)) × (load_answer Two (two 0x00) ≡ loads (caller Absent))
    × (load_answer Two (two 0x01) ≡ loads (caller Matched))
read_again = (refl, refl, refl)

-- "every writer keeps 11 for it": matched beside local or unspecified, before 24 and 14
pub unused_first : (store_answer One (with_checksum Matched (bare Local)) 0 ≡ refuses 11) × (store_answer Two (with_checksum Matched (bare Unspecified)) 0 ≡ refuses 11)
unfolding stored
unused_first = (refl, refl)

-- version 1's writer: 24 before 14
pub matched_refused : (store_answer One (caller Matched) 17 ≡ refuses 24) × (store_answer One (caller Absent) 17 ≡ refuses 14) × (store_answer One (caller Absent) 18 ≡ wrote 18)
unfolding stored
matched_refused = (refl, refl, refl)

-- forward; and back, which answers 24 before 14
pub moved : (converted One Two one ≡ two 0x00) × (converted Two One (two 0x00) ≡ one) × (convert_answer One Two one 18 ≡ refuses 14) × (convert_answer One Two one 19 ≡ wrote 19)
    × (convert_answer Two One (two 0x01) 0 ≡ refuses 24) × (convert_answer Two One (two 0x00) 17 ≡ refuses 14) × (convert_answer Two One (two 0x00) 18 ≡ wrote 18)
unfolding converted
moved = (refl, refl, refl, refl, refl, refl, refl)
