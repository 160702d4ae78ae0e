-- Lemmas on what specs/ReadBack.antt defines.
use Rattle.std.specs.Prelude.{◌≡◌, refl, false, List, [], ◌∷◌, ◌++◌, ℕ, suc, ◌+◌, ◌^◌, ◌≤◌, ◌<◌, ltb, leb, length, get_or, take, drop, Option, Some, None}
use Rattle.std.proofs.Common.{sym, ap, ap₂, ◌∙◌, subst, append_assoc, arith, leb-true, ltb-true, lt-ltb, le-ltb, eq-eqb, ne_eqb, length-append, drop-drop}
use Rattle.exact.specs.Pick.{pick_by}
use Rattle.network32.specs.Network32.{network32}
use Rattle.network32.proofs.Network32.{number_network}
use Rattle.tlv.specs.Tlv.{Tlv, written, Proper, Area}
use Rattle.lookup.specs.Lookup.{index_of_first}
use Rattle.lookup.proofs.JoinedLists.{first_joined, start_second, length_second}
use Rattle.lookup.proofs.Laws.{found_there}
use Rattle.answer.specs.Answers.{WriteAnswer, wrote, refuses, output_after}
use Rattle.answer.proofs.OutputLaws.{not_wrote, written_front}
use Rattle.ssl_reader.specs.Ssl.{Part, part_at, part_of, parts_from, parts_of, is_absent, lacks_version, piece_in, pieces_in, accepted, Said, verify_of, said_in}
use Rattle.ssl_reader.proofs.Laws.{said_listed}
use Rattle.ssl_writer.specs.Written.{Piece, subs_for, ssl_value, ssl_answer}
use Rattle.ssl_writer.specs.Writes.{ReadsAs, ReadsBack}
use Rattle.ssl_writer.specs.ReadBack.{OfBytes}

-- ── which sub-TLV is the first of a type ──
-- all types are lower
abbrev Before : ℕ → List Tlv → Type 0
Before type [] = Unit {0}
Before type (t ∷ rest) = (t.type < type) × Before type rest

before_next : (type : ℕ) (front : List Tlv) → Before type front → Before (suc type) front
before_next type [] b = tt
before_next type (t ∷ front) b = let h = b.0 in (omega arith, before_next type front b.1)

before_one : (type : ℕ) (front : List Tlv) (t : Tlv) → Before type front → t.type < type → Before type (front ++ t ∷ [])
before_one type [] t b h = (h, tt)
before_one type (u ∷ front) t b h = (b.0, before_one type front t b.1 h)

none_before : (type : ℕ) (front : List Tlv) → Before type front → index_of_first type front ≡ length front
none_before type [] b = refl
none_before type (t ∷ front) b =
    let h = b.0 in rw (ne_eqb t.type type (λ e. omega arith)) (ap suc (none_before type front b.1))

none_behind : (type from : ℕ) → type < from → (pieces : List Piece) → index_of_first type (subs_for from pieces) ≡ length (subs_for from pieces)
none_behind type from h [] = refl
none_behind type from h (None ∷ rest) = none_behind type (suc from) (omega arith) rest
none_behind type from h (Some bytes ∷ rest) =
    rw (ne_eqb from type (λ e. omega arith)) (ap suc (none_behind type (suc from) (omega arith) rest))

module _ (type : ℕ) (front : List Tlv) (none-in-front : index_of_first type front ≡ length front) where
  at_index : (rest : List Tlv) (j : ℕ) → index_of_first type rest ≡ j → part_of type (front ++ rest) ≡ part_at (length front + j) (front ++ rest)
  at_index rest j e =
      ap (λ (k : ℕ). part_at k (front ++ rest))
      (first_joined type front rest ∙ rw (none-in-front, le-ltb (length front) (length front) (omega arith), e))

  part_none : (rest : List Tlv) → index_of_first type rest ≡ length rest → part_of type (front ++ rest) ≡ None
  part_none rest e =
      let n = length-append front rest in
      at_index rest (length rest) e ∙ rw (le-ltb (length front + length rest) (length (front ++ rest)) (omega arith))

  part_some : (t : Tlv) (rest : List Tlv) → t.type ≡ type
      → part_of type (front ++ t ∷ rest) ≡ Some (record { start = 5 + (length (written front) + 3); size = length t.value })
  part_some t rest e =
      let n = length-append front (t ∷ rest) in
      at_index (t ∷ rest) 0 (rw (eq-eqb t.type type e))
      ∙ rw (lt-ltb (length front + 0) (length (front ++ t ∷ rest)) (omega arith), start_second 0 front (t ∷ rest), length_second 0 front (t ∷ rest))

-- ── the pieces read back ──
module _ (value : List ℕ) where
  pieces_back : (front : List Tlv) (type : ℕ) (pieces : List Piece) → Before type front → Area (drop 5 value) (front ++ subs_for type pieces)
      → pieces_in value (parts_from (length pieces) type (front ++ subs_for type pieces)) ≡ pieces
  pieces_back front type [] b a = refl
  pieces_back front type (None ∷ rest) b a =
      ap₂ {B = List Piece} (λ (p : Piece) (l : List Piece). p ∷ l)
      (ap (piece_in value) (part_none type front (none_before type front b) (subs_for (suc type) rest) (none_behind type (suc type) (omega arith) rest)))
      (pieces_back front (suc type) rest (before_next type front b) a)
  pieces_back front type (Some bytes ∷ rest) b a =
      let t : Tlv = record { type = type; value = bytes } in
      let behind = subs_for (suc type) rest in
      let parts : (front ++ t ∷ []) ++ behind ≡ front ++ t ∷ behind = append_assoc front (t ∷ []) behind in
      let there = ap (take (length bytes)) (sym (drop-drop (length (written front) + 3) 5 value)) ∙ found_there front t behind (drop 5 value) a in
      let others =
      pieces_back (front ++ t ∷ []) (suc type) rest (before_one (suc type) front t (before_next type front b) (omega arith))
      (subst (Area (drop 5 value)) (sym parts) a)
      in
      ap₂ {B = List Piece} (λ (p : Piece) (l : List Piece). p ∷ l)
      (ap (piece_in value) (part_some type front (none_before type front b) t behind refl) ∙ ap Some there)
      (subst (λ (l : List Tlv). pieces_in value (parts_from (length rest) (suc type) l) ≡ rest) parts others)

-- ── a written value is one of sub-TLVs ──
proper : (type : ℕ) (pieces : List Piece) → type + length pieces ≤ 256 → OfBytes pieces → length (written (subs_for type pieces)) < 65536
    → Proper (subs_for type pieces)
proper type [] h b n = tt
proper type (None ∷ rest) h b n = proper (suc type) rest (omega arith) b n
proper type (Some bytes ∷ rest) h b n =
    let m = length-append bytes (written (subs_for (suc type) rest)) in
    (omega arith, b.0, omega arith, proper (suc type) rest (omega arith) b.1 (omega arith))

pub absent_same : (value : List ℕ) (p : Option Part) → is_absent p ≡ is_absent (piece_in value p)
absent_same value None = refl
absent_same value (Some p) = refl

-- a value is longer than each of its pieces
pub piece_within : (client verify type : ℕ) (front : List Piece) (bytes : List ℕ) (rest : List Piece)
    → length bytes < length (client ∷ network32 verify ++ written (subs_for type (front ++ Some bytes ∷ rest)))
piece_within client verify type [] bytes rest = let n = length-append bytes (written (subs_for (suc type) rest)) in omega arith
piece_within client verify type (None ∷ front) bytes rest = piece_within client verify (suc type) front bytes rest
piece_within client verify type (Some other ∷ front) bytes rest =
    let n = length-append other (written (subs_for (suc type) (front ++ Some bytes ∷ rest))) in
    let h = piece_within client verify (suc type) front bytes rest in omega arith

-- ── the theorem ──
module _ (client verify : ℕ) (pieces : List Piece) where
  abbrev value : List ℕ
  value = ssl_value client verify pieces

  -- what is said where it is accepted
  pub record Taken (room n : ℕ) : Type 0 where
    pub version : lacks_version client (is_absent (get_or pieces 0 None)) ≡ false
    pub short : length value < 65536
    pub size : length value ≡ n
    pub fits : n ≤ room

  pub taken : (room n : ℕ) → ssl_answer client verify pieces room ≡ wrote n → Taken room n
  taken room n =
      let P : WriteAnswer → Type 0 = λ (x : WriteAnswer). x ≡ wrote n → Taken room n in
      pick_by P (lacks_version client (is_absent (get_or pieces 0 None))) (λ t. not_wrote 20 n)
      (λ version.
      pick_by P (ltb (length value) 65536)
      (λ short.
      pick_by P (leb (length value) room)
      (λ fits e.
      let size : length value ≡ n = cc in
      let enough : length value ≤ room = leb-true (length value) room fits in record { version = version; short = ltb-true (length value) 65536 short; size = size; fits = omega arith })
      (λ t. not_wrote 14 n))
      (λ t. not_wrote 13 n))

  module _ (five : length pieces ≡ 5) (small : verify < 2 ^ 32) where
    pub reads_back : OfBytes pieces → lacks_version client (is_absent (get_or pieces 0 None)) ≡ false → length value < 65536
        → ReadsAs value client verify pieces
    reads_back bytes version short =
        let subs = subs_for 0x21 pieces in
        let area : Area (drop 5 value) subs = (refl, proper 0x21 pieces (omega (arith, five)) bytes (omega arith)) in
        let back : pieces_in value (parts_of subs) ≡ pieces =
        subst (λ (n : ℕ). pieces_in value (parts_from n 0x21 subs) ≡ pieces) five (pieces_back value [] 0x21 pieces tt area)
        in
        let first : is_absent (part_of 0x21 subs) ≡ is_absent (get_or pieces 0 None) = absent_same value (part_of 0x21 subs) ∙ ap (λ (l : List Piece). is_absent (get_or l 0 None)) back in
        let said : said_in value ≡ record { outcome = accepted; client = client; verify = verify_of value; parts = parts_of subs } =
        said_listed value (omega arith) subs area ∙ rw (first, version)
        in
        record {
          outcome = ap (λ (s : Said). s.outcome) said;
          client_same = ap (λ (s : Said). s.client) said;
          verify_same = ap (λ (s : Said). s.verify) said ∙ number_network verify small;
          pieces_same = ap (λ (s : Said). pieces_in value s.parts) said ∙ back;
        }

    -- "it reads back as them", in every output
    pub written_back : OfBytes pieces → (output after : List ℕ)
        → after ≡ output_after (ssl_answer client verify pieces (length output)) value output
        → ReadsBack client verify pieces (ssl_answer client verify pieces (length output)) after
    written_back bytes output after left = by (ssl_answer client verify pieces (length output)) refl
      where
        by : (x : WriteAnswer) → ssl_answer client verify pieces (length output) ≡ x → ReadsBack client verify pieces x after
        by (wrote n) e =
            let t = taken (length output) n e in
            subst (λ (l : List ℕ). ReadsAs l client verify pieces) (sym (written_front value output after _ n e t.size left))
            (reads_back bytes t.version t.short)
        by (refuses k) e = tt
