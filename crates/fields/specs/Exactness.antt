-- The field of a version 1 line, and the addresses in it. The header's field, of either version, and the verdict on its bytes stand in
-- proofs/HeaderVerdict.antt: each carries its proof, so that an edit of what it rests on is read there and not here.
use Rattle.std.specs.Prelude.{◌≡◌, refl, Bool, true, List, [], ◌++◌, ℕ, eqb}
use Rattle.std.proofs.Common.{sym, ap, ◌∙◌, append-nil, inl, inr, arith}
use Rattle.exact.specs.Ended.{Ended}
use Rattle.exact.specs.Field.{Opens, flat}
use Rattle.exact.specs.Machine.{leaf}
use Rattle.exact.specs.Parser.{Starts, ◌then◌, recast}
use Rattle.exact.proofs.ParserLemmas.{just}
use Rattle.exact.proofs.Parser.{starts_seq}
use Rattle.exact.proofs.LiteralLaws.{starts_text}
use Rattle.ip4.proofs.Ip4Parser.{ip4}
use Rattle.ip6.specs.Parser.{ip6}
use Rattle.ip6.proofs.Parser.{space_ends}
use Rattle.header.specs.Line.{Ip6Address, group_bytes}
use Rattle.fields.specs.LineFields.{Headers, AddressParser, line}

-- ── the address fields ──
abbrev pub address4 : AddressParser
address4 m = ip4 3 m 32 (λ d. let h = d.0 in omega arith) (omega arith)

abbrev pub groups : AddressParser
groups m = ip6 3 m 32 space_ends

abbrev pub groups_as_bytes : AddressParser
groups_as_bytes m = (groups m then λ gs. just (flat m) (group_bytes gs)) (λ gs f l. refl)

pub to_address : (m : ℕ) (f a : List ℕ) → (groups_as_bytes m).field.lang f a → Ended Ip6Address 32 f a
to_address m f a l =
    let w = l.first in
    record {
      text = w.text;
      split = l.split ∙ ap (λ (t : List ℕ). l.front ++ t) l.second.0 ∙ append-nil l.front ∙ w.split;
      whole = record { groups = l.mid; text = w.whole; value = l.second.1 };
    }

pub from_address : (m : ℕ) (f a : List ℕ) → Ended Ip6Address 32 f a → (groups_as_bytes m).field.lang f a
from_address m f a w =
    record {
      front = f;
      back = [];
      mid = w.whole.groups;
      split = sym (append-nil f);
      first = record { text = w.text; split = w.split; whole = w.whole.text };
      second = (refl, w.whole.value);
    }

pub address_part : (m : ℕ) (u : List ℕ) (k : ℕ) → Opens (groups_as_bytes m).field u → (groups_as_bytes m).field.at u k → k ≡ 3
address_part m u k o (inl x) = x.1
address_part m u k o (inr x) = absurd x.part

abbrev pub address6 : AddressParser
address6 m =
    recast (groups_as_bytes m) (leaf 3 (Ended Ip6Address 32)) (λ f a. (to_address m f a, from_address m f a)) (address_part m)

-- ── the header ──
abbrev pub is_p : ℕ → Bool
is_p c = eqb c 80

abbrev pub line_field : Headers
line_field = line address4 address6

pub line_starts : Starts is_p true line_field.field
line_starts = starts_seq is_p true _ _ (starts_text {A = ℕ} is_p 1 0 80 _)
