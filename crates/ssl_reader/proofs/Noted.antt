-- Lemmas on what specs/Noted.antt defines.
use Rattle.std.specs.Prelude.{◌≡◌, refl, Bool, true, false, List, [], ◌∷◌, ◌++◌, ℕ, zero, suc, ◌+◌, ◌<◌, eqb, ltb, length, drop, replicate, Option, None}
use Rattle.std.proofs.Common.{sym, ap, ap₂, ◌∙◌, arith, ltb-true, lt-ltb, le-ltb, length-append, append-nil, append_assoc}
use Rattle.exact.specs.Pick.{pick}
use Rattle.tlv.specs.Tlv.{Tlv, written}
use Rattle.tlv.specs.Listed.{tlvs_of}
use Rattle.tlv.proofs.Laws.{written-append}
use Rattle.tlv_step.specs.declared.Tlv.{Tlv as Placed}
use Rattle.tlv_step.specs.Left.{placed, left_from}
use Rattle.lookup.specs.Lookup.{index_of_first}
use Rattle.lookup.proofs.JoinedLists.{either, first_joined, start_first, start_second, length_first, length_second}
use Rattle.ssl_reader.specs.Ssl.{Part, part_at, part_of, parts_from, parts_of}
use Rattle.ssl_reader.specs.Noted.{noted, or_part, part_behind}

module _ (subs : List Tlv) (t : Tlv) (type : ℕ) where
  abbrev i : ℕ
  i = index_of_first type subs

  abbrev all : List Tlv
  all = subs ++ t ∷ []

  abbrev at : ℕ → Option Part
  at j = part_at j all

  part_by : (here is : Bool) → ltb i (length subs) ≡ here → eqb t.type type ≡ is
      → part_of type all ≡ pick is (or_part (part_of type subs) (part_behind subs t)) (part_of type subs)
  part_by true is e f =
      let h : i < length subs = ltb-true i (length subs) e in
      let n = length-append subs (t ∷ []) in
      let first : index_of_first type all ≡ i = first_joined type subs (t ∷ []) ∙ rw e in
      ap at first
      ∙ rw (lt-ltb i (length all) (omega arith), start_first i subs (t ∷ []) h, length_first i subs (t ∷ []) h, e) (sym (either is _))
  part_by false true e f =
      let n = length-append subs (t ∷ []) in
      let first : index_of_first type all ≡ length subs + 0 = first_joined type subs (t ∷ []) ∙ rw (e, f) in
      ap at first
      ∙ rw (lt-ltb (length subs + 0) (length all) (omega arith), start_second 0 subs (t ∷ []), length_second 0 subs (t ∷ []), e)
  part_by false false e f =
      let n = length-append subs (t ∷ []) in
      let first : index_of_first type all ≡ length subs + 1 = first_joined type subs (t ∷ []) ∙ rw (e, f) in
      ap at first ∙ rw (le-ltb (length subs + 1) (length all) (omega arith), e)

  part_noted : part_of type all ≡ pick (eqb t.type type) (or_part (part_of type subs) (part_behind subs t)) (part_of type subs)
  part_noted = part_by (ltb i (length subs)) (eqb t.type type) refl refl

pub parts_noted : (n type : ℕ) (subs : List Tlv) (t : Tlv)
    → parts_from n type (subs ++ t ∷ []) ≡ noted t.type (part_behind subs t) type (parts_from n type subs)
parts_noted zero type subs t = refl
parts_noted (suc n) type subs t =
    ap₂ {B = List (Option Part)} (λ (p : Option Part) (l : List (Option Part)). p ∷ l) (part_noted subs t type) (parts_noted n (suc type) subs t)

-- sub-TLVs at their places behind the first five bytes, noted one after the other
abbrev pub noted_all : List Placed → List (Option Part) → List (Option Part)
noted_all [] parts = parts
noted_all (t ∷ rest) parts = noted_all rest (noted t.tlv_type (record { start = 5 + t.value.start; size = t.value.size }) 0x21 parts)

all_noted : (front rest : List Tlv) → noted_all (placed (length (written front)) rest) (parts_of front) ≡ parts_of (front ++ rest)
all_noted front [] = ap parts_of (sym (append-nil front))
all_noted front (t ∷ rest) =
    let n = length-append (written front) (written (t ∷ [])) in
    let v = length-append t.value [] in
    let next : length (written front) + 3 + length t.value ≡ length (written (front ++ t ∷ [])) =
    omega (arith, ap length (written-append front (t ∷ []))) in
    ap₂ (λ (at : ℕ) (parts : List (Option Part)). noted_all (placed at rest) parts) next (sym (parts_noted 5 0x21 front t))
    ∙ all_noted (front ++ t ∷ []) rest
    ∙ ap parts_of (append_assoc front (t ∷ []) rest)

-- so the pieces of all of them are those of the list
pub pieces_noted : (s : List ℕ) → noted_all (left_from s 0) (replicate 5 None) ≡ parts_of (tlvs_of s)
pieces_noted s = all_noted [] (tlvs_of s)

-- the same of sub-TLVs at their places in the value
abbrev pub noted_within : List Placed → List (Option Part) → List (Option Part)
noted_within [] parts = parts
noted_within (t ∷ rest) parts = noted_within rest (noted t.tlv_type t.value 0x21 parts)

within_same : (n : ℕ) (rest : List Tlv) (parts : List (Option Part)) → noted_within (placed (5 + n) rest) parts ≡ noted_all (placed n rest) parts
within_same n [] parts = refl
within_same n (t ∷ rest) parts =
    let start : 5 + n + 3 ≡ 5 + (n + 3) = omega arith in
    let next : 5 + n + 3 + length t.value ≡ 5 + (n + 3 + length t.value) = omega arith in
    ap₂ (λ (k at : ℕ). noted_within (placed at rest) (noted t.type (record { start = k; size = length t.value }) 0x21 parts)) start next
    ∙ within_same (n + 3 + length t.value) rest (noted t.type (record { start = 5 + (n + 3); size = length t.value }) 0x21 parts)

pub pieces_within : (value : List ℕ) → noted_within (left_from value 5) (replicate 5 None) ≡ parts_of (tlvs_of (drop 5 value))
pieces_within value = within_same 0 (tlvs_of (drop 5 value)) (replicate 5 None) ∙ pieces_noted (drop 5 value)
