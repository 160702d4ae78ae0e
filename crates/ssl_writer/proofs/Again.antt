-- Lemmas on what specs/Again.antt defines.
use Rattle.std.specs.Prelude.{◌≡◌, refl, Bool, true, false, not, List, [], ◌∷◌, ℕ, zero, suc, ◌+◌, ◌^◌, ◌≤◌, ◌<◌, eqb, ltb, leb, length, take, drop, Option, Some, None, Ok, option_copied}
use Rattle.std.proofs.Common.{sym, ap, ◌∙◌, subst, arith, eqb-true, ltb-true, ltb-false, leb-true, leb-false, lt-ltb, le-ltb, le-leb, ne_eqb, length-append, length-drop, length-take-le}
use Rattle.std.proofs.lemmas.Bool.{eqb-false}
use Rattle.std.specs.Borrow.{Bor}
use Rattle.std.proofs.Math.Arith.{lt_of_le-ne}
use Rattle.std.proofs.Math.Dec.{leb-suc-suc}
use Rattle.exact.specs.Claim.{AllBytes}
use Rattle.exact.proofs.Parser.{bytes_take, bytes_drop, byte_at}
use Rattle.exact.specs.Pick.{pick}
use Rattle.tlv.specs.Tlv.{Tlv, written, Area}
use Rattle.tlv.proofs.Listed.{tlvs_of_lem}
use Rattle.lookup.specs.Lookup.{index_of_first, start_of, length_of}
use Rattle.ssl_reader.specs.Ssl.{Part, part_of, parts_from, parts_of, subs_of, is_absent, lacks_version, accepted, Said, said_in, client_of, verify_of, piece_in, pieces_in}
use Rattle.ssl_reader.specs.declared.Ssl.{Ssl}
use Rattle.ssl_reader.specs.Told.{told_ssl, PartOf}
use Rattle.ssl_reader.proofs.Laws.{Lies, part_lies, accepted_reads}
use Rattle.ssl_reader.specs.Laws.{Reads}
use Rattle.ssl_writer.specs.Written.{Piece, piece_if, lent_pieces, pieces_of, subs_for, ssl_value}
use Rattle.ssl_writer.specs.Writes.{ReadsAs}
use Rattle.ssl_writer.specs.ReadBack.{OfBytes}
use Rattle.ssl_writer.proofs.ReadBack.{absent_same, reads_back}
use Rattle.ssl_writer.specs.Again.{Again, Plain, present_in, text_of}

-- ── the bytes of the first sub-TLVs ──
-- of the first of a type, if there is one
abbrev size_of : (type : ℕ) → List Tlv → ℕ
size_of type subs = pick (ltb (index_of_first type subs) (length subs)) (3 + length_of (index_of_first type subs) subs) 0

-- of those of n types from this one on
abbrev sum : (n type : ℕ) → List Tlv → ℕ
sum zero type subs = 0
sum (suc n) type subs = size_of type subs + sum n (suc type) subs

sum_none : (n type : ℕ) → sum n type [] ≡ 0
sum_none zero type = refl
sum_none (suc n) type = let e = sum_none n (suc type) in omega arith

module _ (t : Tlv) (rest : List Tlv) where
  size_by : (type : ℕ) (is : Bool) → eqb t.type type ≡ is → size_of type (t ∷ rest) ≡ pick is (3 + length t.value) (size_of type rest)
  size_by type true e = rw (e, lt-ltb 0 (suc (length rest)) (omega arith))
  size_by type false e = rw (e, leb-suc-suc (suc (index_of_first type rest)) (length rest))

  sum_other : (n type : ℕ) → ((i : ℕ) → i < n → t.type ≡ type + i → ⊥) → sum n type (t ∷ rest) ≡ sum n type rest
  sum_other zero type ne = refl
  sum_other (suc n) type ne =
      let here = size_by type false (ne_eqb t.type type (λ e. ne 0 (omega arith) (omega arith))) in
      let behind = sum_other n (suc type) (λ i h e. ne (suc i) (omega arith) (omega arith)) in
      omega arith

  sum_more : (n type : ℕ) → type ≤ t.type → t.type < type + n
      → sum n type (t ∷ rest) + size_of t.type rest ≡ sum n type rest + (3 + length t.value)
  sum_more zero type h g = absurd (omega arith)
  sum_more (suc n) type h g = by (eqb t.type type) refl (sum_more n (suc type))
    where
      by : (is : Bool) → eqb t.type type ≡ is
          → (suc type ≤ t.type → t.type < suc type + n
          → sum n (suc type) (t ∷ rest) + size_of t.type rest ≡ sum n (suc type) rest + (3 + length t.value))
          → sum (suc n) type (t ∷ rest) + size_of t.type rest ≡ sum (suc n) type rest + (3 + length t.value)
      by true e behind =
          let same : t.type ≡ type = eqb-true _ _ e in
          let here = size_by type true e in
          let others = sum_other n (suc type) (λ i k f. omega arith) in
          let first = ap (λ (k : ℕ). size_of k rest) same in
          omega arith
      by false e behind =
          let here = size_by type false e in
          let above = lt_of_le-ne h (λ f. eqb-false t.type type e (sym f)) in
          let others = behind above (omega arith) in
          omega arith

-- they are no more than all of them
sum_within : (n type : ℕ) (subs : List Tlv) → sum n type subs ≤ length (written subs)
sum_within n type [] = let e = sum_none n type in omega arith
sum_within n type (t ∷ rest) = by (leb type t.type) (ltb t.type (type + n)) refl refl (sum_within n type rest)
  where
    by : (above below : Bool) → leb type t.type ≡ above → ltb t.type (type + n) ≡ below → sum n type rest ≤ length (written rest)
        → sum n type (t ∷ rest) ≤ length (written (t ∷ rest))
    by true true e f again =
        let h = leb-true type t.type e in
        let g = ltb-true t.type (type + n) f in
        let more = sum_more t rest n type h g in
        let m = length-append t.value (written rest) in
        omega arith
    by true false e f again =
        let g = ltb-false t.type (type + n) f in
        let same = sum_other t rest n type (λ i k d. omega arith) in
        let m = length-append t.value (written rest) in
        omega arith
    by false below e f again =
        let g = leb-false type t.type e in
        let same = sum_other t rest n type (λ i k d. omega arith) in
        let m = length-append t.value (written rest) in
        omega arith

-- and all of them, without repeats or other types
sum_all : (subs : List Tlv) → Plain subs → sum 5 0x21 subs ≡ length (written subs)
sum_all [] plain = sum_none 5 0x21
sum_all (t ∷ rest) plain =
    let low = plain.0 in
    let high = plain.1 in
    let more = sum_more t rest 5 0x21 low (omega arith) in
    let alone : size_of t.type rest ≡ 0 = rw (plain.2, le-ltb (length rest) (length rest) (omega arith)) in
    let again = sum_all rest plain.3 in
    let m = length-append t.value (written rest) in
    omega arith

-- ── the pieces of a value ──
module _ (value : List ℕ) (subs : List Tlv) (area : Area (drop 5 value) subs) (long : 5 ≤ length value) where
  -- the pieces of n types from this one on, written again, have those bytes
  again_size : (n type : ℕ) → length (written (subs_for type (pieces_in value (parts_from n type subs)))) ≡ sum n type subs
  again_size zero type = refl
  again_size (suc n) type = by (ltb (index_of_first type subs) (length subs)) refl (again_size n (suc type))
    where
      by : (b : Bool) → ltb (index_of_first type subs) (length subs) ≡ b
          → length (written (subs_for (suc type) (pieces_in value (parts_from n (suc type) subs)))) ≡ sum n (suc type) subs
          → length (written (subs_for type (piece_in value (part_of type subs) ∷ pieces_in value (parts_from n (suc type) subs)))) ≡ size_of type subs + sum n (suc type) subs
      by true e behind =
          let p : Part = record { start = 5 + start_of (index_of_first type subs) subs; size = length_of (index_of_first type subs) subs } in
          let l : Lies type subs value p = part_lies type subs value area long p (rw e) in
          let left = length-drop p.start value in
          let size = length-take-le p.size (drop p.start value) (omega (arith, l.inside)) in
          let n = length-append (take p.size (drop p.start value)) (written (subs_for (suc type) (pieces_in value (parts_from n (suc type) subs)))) in
          rw e (omega arith)
      by false e behind = rw e (omega arith)

pieces_of_bytes : (value : List ℕ) → AllBytes value → (parts : List (Option Part)) → OfBytes (pieces_in value parts)
pieces_of_bytes value b [] = tt
pieces_of_bytes value b (None ∷ rest) = pieces_of_bytes value b rest
pieces_of_bytes value b (Some p ∷ rest) = (bytes_take p.size (drop p.start value) (bytes_drop p.start value b), pieces_of_bytes value b rest)

-- ── the theorem ──
module _ (value : List ℕ) (bytes : AllBytes value) (short : length value < 65536) (r : Reads value) where
  abbrev says : Said
  says = record { outcome = accepted; client = client_of value; verify = verify_of value; parts = parts_of r.subs }

  abbrev part : (type : ℕ) → Piece
  part type = piece_in value (part_of type r.subs)

  size : length (text_of value says) ≡ 5 + sum 5 0x21 r.subs
  size = let e = again_size value r.subs r.area r.long 5 0x21 in omega arith

  all : length value ≡ 5 + length (written r.subs)
  all = let e = ap length r.area.0 in let n = length-drop 5 value in omega (arith, r.long)

  no_longer : length (text_of value says) ≤ length value
  no_longer = let e = size in let f = all in let h = sum_within 5 0x21 r.subs in omega arith

  versioned : lacks_version (client_of value) (is_absent (part 0x21)) ≡ false
  versioned = ap (lacks_version (client_of value)) (sym (absent_same value (part_of 0x21 r.subs))) ∙ r.version

  small : verify_of value < 2 ^ 32
  small =
      let a = byte_at value 1 bytes in
      let b = byte_at value 2 bytes in
      let c = byte_at value 3 bytes in
      let d = byte_at value 4 bytes in
      omega arith

  again : Again value says
  again =
      record {
        answers = λ room fits. let h = no_longer in rw (versioned, lt-ltb (length (text_of value says)) 65536 (omega arith), le-leb (length (text_of value says)) room fits);
        reads =
            reads_back (client_of value) (verify_of value) (pieces_in value (parts_of r.subs)) refl small
            (pieces_of_bytes value bytes (parts_of r.subs)) versioned (let h = no_longer in omega arith);
        within = no_longer;
        as_long =
            λ plain.
            let listed : subs_of value ≡ r.subs = tlvs_of_lem (drop 5 value) r.subs r.area in
            let e = size in let f = all in let g = sum_all r.subs (subst Plain listed plain) in omega arith;
      }

pub written_again : (value : List ℕ) → AllBytes value → length value < 65536 → (said_in value).outcome ≡ accepted → Again value (said_in value)
written_again value bytes short ok = let r = accepted_reads value ok in subst (Again value) (sym r.said) (again value bytes short r)

-- a value as it was written, written again, has the same bytes
pub same_bytes : (client verify : ℕ) (pieces : List Piece) → ReadsAs (ssl_value client verify pieces) client verify pieces
    → text_of (ssl_value client verify pieces) (said_in (ssl_value client verify pieces)) ≡ ssl_value client verify pieces
same_bytes client verify pieces r = λ k. ssl_value (r.client_same k) (r.verify_same k) (r.pieces_same k)

-- ── of calls ──
-- a piece that `read_ssl` tells, with the part that `piece_of` lends and whether `is_absent` says so, is the piece of the value
given_again : (value part : Bor (List ℕ)) (p : Option Part) → PartOf value p part → piece_if (not (is_absent p)) part.now ≡ piece_in value.now p
given_again value part None is = refl
given_again value part (Some p) is = ap Some is.2

-- so what these hand to `write_ssl` is written as the value again
pub calls_again : (value a b c d e : Bor (List ℕ)) (r : Ssl) → told_ssl (Ok r) ≡ said_in value.now → PartOf value r.version a
    → PartOf value r.common_name b → PartOf value r.cipher c → PartOf value r.signature d
    → PartOf value r.key e
    → ssl_value r.client r.verify (pieces_of (present_in r) a.now b.now c.now d.now e.now) ≡ text_of value.now (said_in value.now)
calls_again value a b c d e r told v n x s k =
    (λ i.
    ssl_value r.client r.verify
    (given_again value a r.version v i
    ∷ given_again value b r.common_name n i
    ∷ given_again value c r.cipher x i
    ∷ given_again value d r.signature s i
    ∷ given_again value e r.key k i
    ∷ []))
    ∙ ap (text_of value.now) told

-- a piece as `write_ssl` takes it: none where there is none, and else the part that `piece_of` lends
pub record Lent (value : Bor (List ℕ)) (p : Part) (o : Option (Bor (List ℕ))) : Type 0 where
  pub part : Bor (List ℕ)
  pub is : o ≡ Some part
  pub lies : PartOf value (Some p) part

abbrev pub Handed : Bor (List ℕ) → Option Part → Option (Bor (List ℕ)) → Type 0
Handed value None o = o ≡ None
Handed value (Some p) o = Lent value p o

handed : (value : Bor (List ℕ)) (p : Option Part) (o : Option (Bor (List ℕ))) → Handed value p o → option_copied o ≡ piece_in value.now p
handed value None o h = ap option_copied h
handed value (Some p) o h = ap option_copied h.is ∙ ap Some h.lies.2

-- so the array of these, handed to `write_ssl`, is written as the value again
pub handed_again : (value : Bor (List ℕ)) (a b c d e : Option (Bor (List ℕ))) (r : Ssl) → told_ssl (Ok r) ≡ said_in value.now → Handed value r.version a
    → Handed value r.common_name b → Handed value r.cipher c → Handed value r.signature d
    → Handed value r.key e
    → ssl_value r.client r.verify (lent_pieces (a ∷ b ∷ c ∷ d ∷ e ∷ [])) ≡ text_of value.now (said_in value.now)
handed_again value a b c d e r told v n x s k =
    (λ i.
    ssl_value r.client r.verify
    (handed value r.version a v i
    ∷ handed value r.common_name b n i
    ∷ handed value r.cipher c x i
    ∷ handed value r.signature d s i
    ∷ handed value r.key e k i
    ∷ []))
    ∙ ap (text_of value.now) told
