-- Lemmas on what specs/Facts.antt defines.
use Rattle.std.specs.Prelude.{◌≡◌, refl, List, [], ◌∷◌, ◌++◌, ◌⊎◌, ℕ, suc, ◌+◌, ◌-◌, ◌≤◌, ◌<◌, length, get_or, take, drop, replicate, Some, None}
use Rattle.std.proofs.Common.{sym, ap, ◌∙◌, subst, append_assoc, inl, inr, ⊎_elim, lt_of_not-le, add-one, arith, length-append, drop_of_length-le, length-take-le, take-suc, drop_at}
use Rattle.std.proofs.Math.Seq.{split_at, take-length}
use Rattle.exact.specs.Ascii.{ascii}
use Rattle.exact.specs.Network.{network, number}
use Rattle.exact.specs.Claim.{accepted, more, refused, AllBytes}
use Rattle.exact.proofs.Parser.{bytes_back}
use Rattle.exact.specs.Byte.{zeros}
use Rattle.line_end.specs.Line.{CR, NoEnd}
use Rattle.ip4.specs.Ip4.{Address as Ip4Address}
use Rattle.ip4.specs.Ip4Verdict.{ip4_verdict}
use Rattle.decimal.proofs.DecimalLaws.{decimal_length}
use Rattle.ip4.proofs.Ip4Laws.{address_length_lem}
use Rattle.hex_digits.specs.Hex.{hex_of}
use Rattle.ip6.specs.Bounds.{address_bounds}
use Rattle.tlv.specs.Tlv.{WellFormed}
use Rattle.tlv.proofs.Room.{filled_fillable}
use Rattle.record.specs.declared.Transport.TheVariants.{Stream}
use Rattle.record.specs.declared.Kind.{Kind}
use Rattle.record.specs.declared.Kind.TheVariants.{Local, Unspecified, Ip4, Ip6}
use Rattle.record.specs.declared.Record.{Record}
use Rattle.record.specs.Kinds.{family, block_length}
use Rattle.record.specs.Records.{bare, Plain}
use Rattle.header.specs.Line.{TcpLine, Ip6Address, UnknownLine, Line}
use Rattle.header.specs.Block.{signature, LOCAL, PROXY, Framed, HasAddresses, AddressBlock, Block}
use Rattle.header.specs.Header.{Header, Whole}
use Rattle.header.specs.Demand.{Judges}
use Rattle.fields.proofs.BlockMembers.{addresses_length}
use Rattle.fields.proofs.HeaderVerdict.{verdict}
use Rattle.fields.proofs.Exactness.{judges_only, judges_stays}
use Rattle.fields.proofs.FactsForProofs.{by_verdict, framed_length, block_bounds, header_least, kept, tcp_kept, group_bytes_lem, unknown_verdict, rest_more, rest_refused, place_number_lem, number_seven, number_eight, high_lives, first_thirteen, family-verdict, no_family, local_taken, length_verdict}
use Rattle.fields.specs.Facts.{highest, highest4, highest6, length_field, local_header, local_zeros, unknown_header, unspecified_header}

-- ── the text line ──
-- "The whole line has at most 107 bytes"
pub longest_unknown : (f : List ℕ) (r : Record) → UnknownLine f r → length f ≤ 107
longest_unknown f r l =
    ⊎_elim (λ e. rw e (omega arith)) (λ w. let h = w.end.size in rw w.split (omega arith)) l.0

-- it is reached
pub unknown_reached : Judges (accepted unknown_header 107) (ascii "PROXY UNKNOWN " ++ replicate 91 0 ++ ascii "\r\n")
unknown_reached = by_verdict _ (ascii "PROXY UNKNOWN " ++ replicate 91 0 ++ ascii "\r\n") refl

-- 106 bytes of an UNKNOWN line without an end: "PROXY UNKNOWN " and 92 bytes, with no CR followed by LF among them
module _ (s body : List ℕ) (split : s ≡ ascii "PROXY UNKNOWN " ++ body) (bytes : AllBytes body) (no_end : NoEnd body) (size : length s ≡ 106) where
  body_size : length body ≡ 92
  body_size = let h = ap length split in omega arith

  same_last : get_or s 105 0 ≡ get_or body 91 0
  same_last = rw split

  -- "So 106 bytes without an end are still "more" if the last is CR"
  pub unknown_more : get_or s 105 0 ≡ CR → Judges (more 1) s
  unknown_more e =
      by_verdict (more 1) s (ap verdict split ∙ unknown_verdict body (more 1) (rest_more body bytes no_end body_size (sym same_last ∙ e)))

  -- "and otherwise refused with 5 at place 105", whatever follows
  pub unknown_refused : (get_or s 105 0 ≡ CR → ⊥) → (t : List ℕ) → Judges (refused 5 105) (s ++ t)
  unknown_refused other t =
      judges_stays (refused 5 105) s t (λ n e. let z : ◌≡◌ {A = ℕ} 0 1 = cc in omega arith)
      (by_verdict (refused 5 105) s
      (ap verdict split ∙ unknown_verdict body (refused 5 91) (rest_refused body bytes no_end body_size (λ e. other (same_last ∙ e)))))

-- "PROXY ", a word, and a space each before an address of at most n bytes, another, a port of at most 5, and another, then CR LF
tcp_longest : (word : List ℕ) (kind : Kind) (Address : List ℕ → List ℕ → Type 0) (n : ℕ) → ((t a : List ℕ) → Address t a → length t ≤ n)
    → (f : List ℕ) (r : Record) → TcpLine word kind Address f r → length f ≤ 6 + length word + 1 + n + 1 + n + 1 + 5 + 1 + 5 + 2
tcp_longest word kind Address n short f r l =
    let a = short l.source l.from l.whole_source in
    let b = short l.destination l.to l.whole_destination in
    let p = decimal_length 65535 l.source_port l.p 5 l.whole_source_port (omega arith) (omega arith) in
    let q = decimal_length 65535 l.destination_port l.q 5 l.whole_destination_port (omega arith) (omega arith) in
    rw l.split (simp length-append (omega arith))

-- "Longest TCP4 line 56 bytes": 6 + 4 + 1 + 15 + 1 + 15 + 1 + 5 + 1 + 5 + 2 = 56
pub longest_tcp4 : (f : List ℕ) (r : Record) → TcpLine (ascii "TCP4") (Ip4 Stream) Ip4Address f r → length f ≤ 56
longest_tcp4 = tcp_longest (ascii "TCP4") (Ip4 Stream) Ip4Address 15 address_length_lem

-- "TCP6 104": 6 + 4 + 1 + 39 + 1 + 39 + 1 + 5 + 1 + 5 + 2 = 104
pub longest_tcp6 : (f : List ℕ) (r : Record) → TcpLine (ascii "TCP6") (Ip6 Stream) Ip6Address f r → length f ≤ 104
longest_tcp6 = tcp_longest (ascii "TCP6") (Ip6 Stream) Ip6Address 39 (λ t a l. (address_bounds t l.groups l.text).short)

pub tcp4_reached : Judges (accepted (highest (Ip4 Stream) 4) 56) highest4
unfolding ip4_verdict
tcp4_reached = by_verdict _ highest4 refl

pub tcp6_reached : Judges (accepted (highest (Ip6 Stream) 16) 104) highest6
unfolding hex_of
tcp6_reached = by_verdict _ highest6 refl

-- ── the binary block ──
-- "the header has 16 + L bytes"
pub block_length_lem : (f : List ℕ) (r : Record) (area : List ℕ) → Block f r area → length f ≡ 16 + length_field f
block_length_lem f r area w = (block_bounds f r area w).0

-- "01, 02, 10, 20 and 30 read as unspecified with the block not looked at and A = 0" (document 02, K1), as 00 does: any L, any block, whatever follows
pub unspecified_read : (b : ℕ) (block t : List ℕ) → b < 256 → family b ≡ Some Unspecified → length block < 65536 → AllBytes block
    → Judges (accepted unspecified_header (16 + length block)) ((signature ++ PROXY ∷ b ∷ network (length block) ++ block) ++ t)
unspecified_read b block t byte table small bytes =
    let f = signature ++ PROXY ∷ b ∷ network (length block) ++ block in
    let framed : Framed PROXY b block f = record { split = refl; small = small } in
    let size = (framed_length PROXY b block f framed).1 in
    let whole : Whole f unspecified_header =
    inr (
      inr
          (inl (record { byte13 = b; block = block; framed = framed; byte = byte; table = table; bytes = bytes }, refl, refl)),
      refl,
    )
    in
    judges_stays (accepted unspecified_header (16 + length block)) f t (λ n e. let z : ◌≡◌ {A = ℕ} 0 1 = cc in omega arith)
    (omega arith, rw (sym size, take-length f) whole)

-- "Refusal 7 is for the rest only": it is given for them
pub family-refused : (b : ℕ) (t : List ℕ) → b < 256 → family b ≡ None → Judges (refused 7 13) (signature ++ PROXY ∷ b ∷ t)
family-refused b t small e = by_verdict (refused 7 13) (signature ++ PROXY ∷ b ∷ t) (family-verdict b t small None e)

-- and for nothing else: only under PROXY, at byte 13, where that is none of the twelve
pub seven_at_thirteen : (s : List ℕ) (p : ℕ) → AllBytes s → Judges (refused 7 p) s
    → (p ≡ 13) × (get_or s 12 0 ≡ PROXY) × (family (get_or s 13 0) ≡ None)
seven_at_thirteen s p bytes x =
    let inside = x.0 in
    let n = number_seven (take p s) x.3 in
    let size = length-take-le p s (omega arith) in
    let here : p ≡ 13 = omega arith in
    let split = split_at s p 0 inside in
    let byte = (bytes_back (take p s) (get_or s p 0 ∷ drop (suc p) s) (subst AllBytes split bytes)).0 in
    let told : refused 7 13 ≡ verdict s = ap (refused 7) (sym here) ∙ judges_only (refused 7 p) s x in
    let rest = by (get_or s p 0) (drop (suc p) s) byte told split (first_thirteen (take p s) n.1 n.0 x.1) in
    (here, rest.0, rest.1)
  where
    by : (b : ℕ) (t : List ℕ) → b < 256 → refused 7 13 ≡ verdict s → s ≡ take p s ++ b ∷ t
        → (take p s ≡ signature ++ LOCAL ∷ []) ⊎ (take p s ≡ signature ++ PROXY ∷ []) → (get_or s 12 0 ≡ PROXY) × (family (get_or s 13 0) ≡ None)
    by b t small told split (inl e) =
        let all : s ≡ signature ++ LOCAL ∷ b ∷ t = split ∙ ap (λ (u : List ℕ). u ++ b ∷ t) e in
        absurd (local_taken b t small (told ∙ ap verdict all))
    by b t small told split (inr e) =
        let all : s ≡ signature ++ PROXY ∷ b ∷ t = split ∙ ap (λ (u : List ℕ). u ++ b ∷ t) e in
        (rw all, rw all (no_family b t small (family b) (told ∙ ap verdict all ∙ family-verdict b t small (family b) refl)))

-- "For the six address kinds L must be A, or at least A + 3"
pub length_rule : (f : List ℕ) (r : Record) (area : List ℕ) → AddressBlock f r area
    → (length_field f ≡ block_length r.kind) ⊎ (block_length r.kind + 3 ≤ length_field f)
length_rule f r area w =
    let kind : r.kind ≡ w.kind = ap (λ (x : Record). x.kind) w.addresses.says in
    let a = addresses_length w.kind w.block r w.addresses in
    let l = (framed_length _ _ _ f w.framed).0 in
    let sum = length-append w.block area in
    rw kind (⊎_elim (λ e. inl (omega arith)) (λ e. inr (omega arith)) (filled_fillable (length area) area (refl, w.tlvs)))

-- "else 8 at place 15", whatever follows
pub length_refused : (k : Kind) (b h l : ℕ) (t : List ℕ) → b < 256 → h < 256 → l < 256 → family b ≡ Some k → HasAddresses k
    → (number h l ≡ block_length k → ⊥) → number h l < block_length k + 3 → Judges (refused 8 15) (signature ++ PROXY ∷ b ∷ h ∷ l ∷ t)
length_refused k b h l t small high low table has other few =
    by_verdict (refused 8 15) (signature ++ PROXY ∷ b ∷ h ∷ l ∷ t) (length_verdict k b h l t small high low other few table has)

-- and 8 is given at no other place
pub eight_at_fifteen : (s : List ℕ) (p : ℕ) → AllBytes s → Judges (refused 8 p) s → p ≡ 15
eight_at_fifteen s p bytes x =
    let inside = x.0 in
    let n = number_eight (take p s) x.3 in
    let size = length-take-le p s (omega arith) in
    let byte = (bytes_back (take p s) (get_or s p 0 ∷ drop (suc p) s) (subst AllBytes (split_at s p 0 inside) bytes)).0 in
    let next : take (p + 1) s ≡ take p s ++ get_or s p 0 ∷ [] = rw (add-one, take-suc s p 0 inside) in
    let over : 14 < p =
    lt_of_not-le (λ (h : p ≤ 14). x.2 (rw next (high_lives (take p s) (get_or s p 0) (omega arith) n.0 byte x.1)))
    in
    omega arith

-- ── both versions ──
-- "Numbered answers", 1 to 9: no refusal has another number
pub refusal_number : (s : List ℕ) (k p : ℕ) → Judges (refused k p) s → (1 ≤ k) × (k ≤ 9)
refusal_number s k p x = rw x.3 (place_number_lem (take p s))

pub longest_line : (f : List ℕ) (r : Record) → Line f r → length f ≤ 107
longest_line f r (inl l) = longest_unknown f r l
longest_line f r (inr (inl l)) = let b = longest_tcp4 f r l in omega arith
longest_line f r (inr (inr l)) = let b = longest_tcp6 f r l in omega arith

-- "The header length is at least 15 and at most 65,551"
pub header_length : (f : List ℕ) (h : Header) → Whole f h → (15 ≤ length f) × (length f ≤ 65551)
header_length f h w = (header_least f h w, most w)
  where
    most : Whole f h → length f ≤ 65551
    most (inl w) = let b = longest_line f h.«record» w.0 in omega arith
    most (inr w) = (block_bounds f h.«record» h.area w.0).1

-- both are reached: by the shortest UNKNOWN line, and by LOCAL with 65,535 zero bytes
pub least_reached : Whole (ascii "PROXY UNKNOWN\r\n") unknown_header × (length (ascii "PROXY UNKNOWN\r\n") ≡ 15)
least_reached = (inl (inl (inl refl, refl), refl, refl), refl)

pub local_whole : (n : ℕ) → n < 65536 → Whole (local_zeros n) local_header × (length (local_zeros n) ≡ 16 + n)
local_whole n small =
    let z = zeros n in
    let size = z.size in (
      inr (
        inl (
          record {
            byte13 = 0;
            block = replicate n 0;
            framed = record { split = rw size; small = omega arith };
            byte = omega arith;
            bytes = z.bytes;
          },
          refl,
          refl,
        ),
        refl,
      ),
      omega arith,
    )

pub most_reached : Whole (local_zeros 65535) local_header × (length (local_zeros 65535) ≡ 65551)
most_reached = local_whole 65535 (omega arith)

kind_of : (r x : Record) → r ≡ x → HasAddresses r.kind → HasAddresses x.kind
kind_of r x e = subst (λ (y : Record). HasAddresses y.kind) e

-- "the TLV area is given too, as the very part of the received bytes from 16 + A to the header's end"
pub area_part : (f : List ℕ) (h : Header) → Whole f h → h.version ≡ 2 → HasAddresses h.«record».kind
    → h.area ≡ drop (16 + block_length h.«record».kind) f
area_part f h (inl w) v has = let e = w.1 in absurd (omega arith)
area_part f h (inr (inl w, x)) v has = absurd (kind_of h.«record» (bare Local) w.1 has)
area_part f h (inr (inr (inl w), x)) v has = absurd (kind_of h.«record» (bare Unspecified) w.1 has)
area_part f h (inr (inr (inr w), x)) v has =
    let kind : h.«record».kind ≡ w.kind = ap (λ (x : Record). x.kind) w.addresses.says in
    let a = addresses_length w.kind w.block h.«record» w.addresses in
    let front = signature ++ PROXY ∷ w.byte13 ∷ network (length (w.block ++ h.area)) ++ w.block in
    rw (kind, w.framed.split) (sym (drop_at front h.area (16 + block_length w.kind) (omega arith)))

-- "it is empty for version 1, local, unspecified"
pub area_empty : (f : List ℕ) (h : Header) → Whole f h → (h.version ≡ 1) ⊎ (HasAddresses h.«record».kind → ⊥) → h.area ≡ []
area_empty f h (inl w) empty = w.2
area_empty f h (inr (inl w, x)) empty = w.2
area_empty f h (inr (inr (inl w), x)) empty = w.2
area_empty f h (inr (inr (inr w), x)) empty =
    absurd (⊎_elim (λ v. omega arith) (λ no. no (kind_of _ h.«record» (sym w.addresses.says) w.has)) empty)

-- so it is the header's last bytes
pub area_last : (f : List ℕ) (h : Header) → Whole f h → drop (length f - length h.area) f ≡ h.area
area_last f h w = by w
  where
    None : h.area ≡ [] → drop (length f - length h.area) f ≡ h.area
    None e = rw e (let h : length f ≤ length f - 0 = omega arith in drop_of_length-le f h)

    by : Whole f h → drop (length f - length h.area) f ≡ h.area
    by (inl w) = None w.2
    by (inr (inl w, x)) = None w.2
    by (inr (inr (inl w), x)) = None w.2
    by (inr (inr (inr w), x)) =
        let front = signature ++ PROXY ∷ w.byte13 ∷ network (length (w.block ++ h.area)) ++ w.block in
        let split : f ≡ front ++ h.area = w.framed.split ∙ simp append_assoc in
        let size : length front ≡ length f - length h.area = let e = ap length split in let l = length-append front h.area in omega arith in
        ap (drop (length f - length h.area)) split ∙ drop_at front h.area (length f - length h.area) size

-- "The rest of the block is TLVs; they fill it exactly": TLVs fill the area of every header
pub area_filled : (f : List ℕ) (h : Header) → Whole f h → WellFormed h.area
area_filled f h (inl w) = subst WellFormed (sym w.2) ([], (refl, tt))
area_filled f h (inr (inl w, v)) = subst WellFormed (sym w.2) ([], (refl, tt))
area_filled f h (inr (inr (inl w), v)) = subst WellFormed (sym w.2) ([], (refl, tt))
area_filled f h (inr (inr (inr w), v)) = w.tlvs

-- "Addresses of 4, 16 or 108 bytes are held by value. Address bytes and ports that a kind does not use are zero; UNIX has no ports"; and the state
-- of "the plain reader" is "always absent" (document 02, K6)
pub record_plain : (f : List ℕ) (h : Header) → Whole f h
    → Plain h.«record» × (length h.«record».source ≡ 108) × (length h.«record».destination ≡ 108)
record_plain f h (inl (inl l, v, a)) = rw l.1 (kept Unspecified [] [] 0 0 refl refl refl refl)
record_plain f h (inl (inr (inl l), v, a)) =
    tcp_kept (ascii "TCP4") (Ip4 Stream) Ip4Address (λ t a l. rw l.value) (λ p e. e) f h.«record» l
record_plain f h (inl (inr (inr l), v, a)) =
    tcp_kept (ascii "TCP6") (Ip6 Stream) Ip6Address
    (λ t a l. let e = (address_bounds t l.groups l.text).eight in rw (l.value, group_bytes_lem l.groups) (omega arith))
    (λ p e. e) f h.«record» l
record_plain f h (inr (inl w, v)) = rw w.1 (kept Local [] [] 0 0 refl refl refl refl)
record_plain f h (inr (inr (inl w), v)) = rw w.1 (kept Unspecified [] [] 0 0 refl refl refl refl)
record_plain f h (inr (inr (inr w), v)) =
    let a = w.addresses in
    rw a.says (kept w.kind a.from a.to a.p a.q a.from_length a.to_length a.p_fits a.q_fits)
