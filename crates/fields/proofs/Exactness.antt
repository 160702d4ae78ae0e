-- Lemmas on what specs/Exactness.antt defines.
use Rattle.std.specs.Prelude.{◌≡◌, refl, List, [], ◌++◌, ◌↔◌, ℕ, ◌+◌, ◌≤◌, length}
use Rattle.std.proofs.Common.{inl, inr, ⊎_elim}
use Rattle.exact.specs.Claim.{Verdict, more, AllBytes, Heads, Live}
use Rattle.exact.proofs.Numbered.{Numbered, numbered_either}
use Rattle.exact.proofs.Theorem.{claim_holds, claim_only, claim_stays, claim_within, whole_only, bytes_suffice}
use Rattle.ip4.specs.Ip4.{Address as Ip4Address}
use Rattle.header.specs.Line.{Ip6Address, Line}
use Rattle.header.specs.Header.{Header, Whole, place_number}
use Rattle.header.specs.Demand.{Judges}
use Rattle.fields.proofs.LineMembers.{line_same}
use Rattle.fields.specs.LineMembers.{Lined}
use Rattle.fields.proofs.BlockMembers.{block_same}
use Rattle.fields.proofs.BlockFields.{block}
use Rattle.fields.specs.Places.{AddressField}
use Rattle.fields.proofs.Places.{ip4_clear, ip6_clear, numbered_ended, numbered_line, numbered_block}
use Rattle.fields.specs.Exactness.{address4, address6, is_p, line_field, line_starts}
use Rattle.fields.proofs.HeaderVerdict.{block_starts, header, verdict}

-- ── the address fields ──
field4 : AddressField Ip4Address address4
field4 =
    record {
      same = λ m f a. (λ l. l, λ l. l);
      numbered = λ m before n w e. numbered_ended Ip4Address 32 ip4_clear refl 3 before n w e;
      clear = ip4_clear;
    }

field6 : AddressField Ip6Address address6
field6 =
    record {
      same = λ m f a. (λ l. l, λ l. l);
      numbered = λ m before n w e. numbered_ended Ip6Address 32 ip6_clear refl 3 before n w e;
      clear = ip6_clear;
    }

-- ── the header ──
-- its members are the whole headers
same_line : (f : List ℕ) (h : Header) → line_field.field.lang f h ↔ Lined Line f h
same_line f h = line_same Ip4Address Ip6Address address4 address6 field4.same field6.same f h

members : (f : List ℕ) (h : Header) → header.field.lang f h ↔ Whole f h
members f h = (
  ⊎_elim (λ l. inl ((same_line f h).0 l)) (λ l. inr ((block_same f h).0 l)),
  ⊎_elim (λ l. inl ((same_line f h).1 l)) (λ l. inr ((block_same f h).1 l)),
)

pub whole_bytes : (f : List ℕ) (h : Header) → Whole f h → AllBytes f
whole_bytes f h w = header.bytes f h ((members f h).1 w)

-- and it numbers its places as document 01's table does
numbered : Numbered place_number header.field []
numbered =
    numbered_either place_number is_p line_field block line_starts block_starts []
    (numbered_line Ip4Address Ip6Address address4 address6 field4 field6) numbered_block

-- its every answer is one that demand 3 allows
pub judges : (s : List ℕ) → Judges (verdict s) s
judges = claim_holds Whole place_number whole_bytes header members numbered

-- demand 3 allows no other
pub judges_only : (v : Verdict Header) (s : List ℕ) → Judges v s → v ≡ verdict s
judges_only = claim_only Whole place_number whole_bytes header members numbered

-- "Bytes added behind accepted or refused ones change nothing"
pub judges_stays : (v : Verdict Header) (s t : List ℕ) → ((n : ℕ) → v ≡ more n → ⊥) → Judges v s → Judges v (s ++ t)
judges_stays = claim_stays Whole place_number whole_bytes header members numbered

-- told more n, no header that may follow ends before n further bytes
pub judges_within : (s t : List ℕ) (n h : ℕ) (a : Header) → Judges (more n) s → Heads Whole h a (s ++ t) → length s + n ≤ h
judges_within = claim_within Whole place_number whole_bytes

-- a whole header says one thing, and begins no other
pub one_header : (f g x y : List ℕ) (a b : Header) → f ++ x ≡ g ++ y → Whole f a → Whole g b → (g ≡ f) × (b ≡ a)
one_header = whole_only Whole place_number whole_bytes header members numbered

-- no continuation needs a number of 256 or more
pub bytes_enough : (s t : List ℕ) (n : ℕ) (h : Header) → Heads Whole n h (s ++ t) → Live Whole s
bytes_enough = bytes_suffice Whole place_number whole_bytes
