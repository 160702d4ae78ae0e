-- What the length of a kind's address block tells of its TLV area and its fields.
use Rattle.std.specs.Prelude.{◌≡◌, refl, true, List, [], ℕ, ◌+◌, ◌≤◌, ◌<◌, length, drop}
use Rattle.std.proofs.Common.{ap, ◌∙◌, arith}
use Rattle.exact.specs.Claim.{Verdict, more, AllBytes}
use Rattle.exact.specs.Field.{shift}
use Rattle.exact.specs.Network.{number_at}
use Rattle.record.specs.declared.Kind.{Kind}
use Rattle.record.specs.declared.Kind.TheVariants.{Local, Unspecified, Ip4, Ip6, Unix}
use Rattle.record.specs.Kinds.{block_length}
use Rattle.record.specs.Records.{bare}
use Rattle.header.specs.Header.{Header}
use Rattle.address_block.specs.AddressBlock.{block_record}
use Rattle.fields.specs.BlockFields.{addresses, always, block_length_byte, block_small, skipped_bytes}
use Rattle.fields.specs.Lengths.{fits}
use Rattle.fields.proofs.LengthField.{fits_least, lowest-fits}
use Rattle.fields.proofs.BlockFields.{skipped, addressed, family_rest}
use Rattle.answer.specs.Answers.{block_area}
use Rattle.block_body.specs.Shortest.{shortest}
use Rattle.block_body.proofs.LengthLaws.{length_short, length_fits}

-- a kind without an address block
pub bare_kind : (k : Kind) → block_length k ≡ 0 → ((f : List ℕ) → block_area k f ≡ []) × ((skipped (bare k)).verdict ≡ (family_rest k).verdict)
    × ((f : List ℕ) → block_record k f ≡ bare k)
bare_kind Local e = (λ f. refl, refl, λ f. refl)
bare_kind Unspecified e = (λ f. refl, refl, λ f. refl)
bare_kind (Ip4 t) e = absurd (omega arith)
bare_kind (Ip6 t) e = absurd (omega arith)
bare_kind (Unix t) e = absurd (omega arith)

-- a kind with one
pub block_kind : (k : Kind) → (block_length k ≡ 0 → ⊥)
    → ((f : List ℕ) → block_area k f ≡ drop (16 + block_length k) f) × ((addressed k).verdict ≡ (family_rest k).verdict)
block_kind Local e = absurd (e refl)
block_kind Unspecified e = absurd (e refl)
block_kind (Ip4 t) e = (λ f. refl, refl)
block_kind (Ip6 t) e = (λ f. refl, refl)
block_kind (Unix t) e = (λ f. refl, refl)

-- ── from 14 on ──
module _ (s : List ℕ) (b : AllBytes s) where
  abbrev from_14 : (List ℕ → Verdict Header) → Verdict Header
  from_14 v = shift 14 (v (drop 14 s))

  pub few : (k : Kind) → length s < 16 → more (shortest (block_length k) s) ≡ from_14 (family_rest k).verdict
  few k h = by k
    where
      bare_few : (i : Kind) → more (shortest 0 s) ≡ from_14 (skipped (bare i)).verdict
      bare_few i = length_short always 0 (omega arith) (λ d. refl) (λ n g. omega arith) (skipped_bytes (bare i)) s b h

      block_few : (i : Kind) → more (shortest (block_length i) s) ≡ from_14 (addressed i).verdict
      block_few i =
          length_short (fits (block_length i)) (block_length i) (block_length_byte i) (λ d. lowest-fits (block_length i) d (block_small i))
          (fits_least (block_length i)) (addresses i) s b h

      by : (i : Kind) → more (shortest (block_length i) s) ≡ from_14 (family_rest i).verdict
      by Local = bare_few Local
      by Unspecified = bare_few Unspecified
      by (Ip4 t) = block_few (Ip4 t)
      by (Ip6 t) = block_few (Ip6 t)
      by (Unix t) = block_few (Unix t)

  pub without : (k : Kind) → block_length k ≡ 0 → 16 ≤ length s
      → shift 16 ((skipped_bytes (bare k) (number_at s 14)).verdict (drop 16 s)) ≡ from_14 (family_rest k).verdict
  without k e head =
      length_fits always 0 (omega arith) (λ d. refl) (λ n g. omega arith) (skipped_bytes (bare k)) s b head refl ∙ ap from_14 (bare_kind k e).1

  module _ (k : Kind) (e : block_length k ≡ 0 → ⊥) (head : 16 ≤ length s) where
    pub fitting : fits (block_length k) (number_at s 14) ≡ true
        → shift 16 ((addresses k (number_at s 14)).verdict (drop 16 s)) ≡ from_14 (family_rest k).verdict
    fitting g =
        length_fits (fits (block_length k)) (block_length k) (block_length_byte k) (λ d. lowest-fits (block_length k) d (block_small k))
        (fits_least (block_length k)) (addresses k) s b head g
        ∙ ap from_14 (block_kind k e).1
