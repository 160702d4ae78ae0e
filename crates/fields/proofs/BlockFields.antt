-- Lemmas on what specs/BlockFields.antt defines.
use Rattle.std.specs.Prelude.{◌≡◌, refl, Bool, true, false, [], ℕ, ◌+◌, ◌-◌, eqb}
use Rattle.std.proofs.Common.{arith, eqb-true, ⊎_elim}
use Rattle.std.proofs.lemmas.Bool.{eqb-false}
use Rattle.exact.specs.Field.{flat}
use Rattle.exact.specs.Pick.{pick}
use Rattle.exact.specs.Parser.{Parser, Fit, ◌then◌}
use Rattle.exact.proofs.ParserLemmas.{just}
use Rattle.record.specs.declared.Kind.{Kind}
use Rattle.record.specs.declared.Kind.TheVariants.{Local, Unspecified, Ip4, Ip6, Unix}
use Rattle.record.specs.declared.Record.{Record}
use Rattle.record.specs.Kinds.{block_length}
use Rattle.record.specs.Records.{bare}
use Rattle.fields.specs.LineFields.{Headers}
use Rattle.fields.specs.Lengths.{bytes_of, fits}
use Rattle.fields.proofs.LengthField.{length_field, fits_either, fits_least, lowest-fits}
use Rattle.fields.specs.BlockFields.{Command, addresses, always, any_byte, area, asks_area, asks_port, block_length_byte, block_small, command, family_field, local, port-least, proxy, signature_field, skipped_bytes, tlvs}

-- ── the fields ──
abbrev pub any_length : Parser ℕ bytes_of
any_length = length_field always 0 (omega arith) (λ h. refl) (λ n g. omega arith)

pub fit_skipped : (r : Record) → Fit any_length (skipped_bytes r)
fit_skipped r n f l = omega arith

-- a block that is not looked at
abbrev pub skipped : Record → Headers
skipped r = (any_length then skipped_bytes r) (fit_skipped r)

pub area-least : (a n : ℕ) → fits a n ≡ true → (area a n).least ≡ n - a
area-least a n f = by (eqb n a) refl
  where
    by : (b : Bool) → eqb n a ≡ b → (pick b (just (flat 0) []) (tlvs (n - (a + 3)))).least ≡ n - a
    by true t = let e = eqb-true n a t in omega arith
    by false t = ⊎_elim (λ e. absurd (eqb-false n a t e)) (λ h. omega arith) (fits_either a n f)

abbrev pub block_length_field : Kind → Parser ℕ bytes_of
block_length_field k =
    length_field (fits (block_length k)) (block_length k) (block_length_byte k) (λ h. lowest-fits (block_length k) h (block_small k))
    (fits_least (block_length k))

addresses-least : (k : Kind) (n : ℕ) → (addresses k n).least ≡ block_length k + asks_area k n
addresses-least k n = let p = port-least (asks_port k n) k in let q = port-least (asks_area k n) k in omega arith

-- a length that is allowed asks as many bytes
pub fit_addresses : (k : Kind) → Fit (block_length_field k) (addresses k)
fit_addresses k n f l =
    let all = addresses-least k n in
    let rest = area-least (block_length k) n l.fits in
    let low = fits_least (block_length k) n l.fits in
    omega arith

abbrev pub addressed : Kind → Headers
addressed k = (block_length_field k then addresses k) (fit_addresses k)

-- behind byte 13, for the kind that it says; for local under LOCAL, where it is not looked at
abbrev pub family_rest : Kind → Headers
family_rest Local = skipped (bare Local)
family_rest Unspecified = skipped (bare Unspecified)
family_rest (Ip4 t) = addressed (Ip4 t)
family_rest (Ip6 t) = addressed (Ip6 t)
family_rest (Unix t) = addressed (Unix t)

pub fit_family : Fit family_field family_rest
fit_family Local f l = refl
fit_family Unspecified f l = refl
fit_family (Ip4 t) f l = refl
fit_family (Ip6 t) f l = refl
fit_family (Unix t) f l = refl

-- from byte 13 on, under PROXY
abbrev pub from_family : Headers
from_family = (family_field then family_rest) fit_family

abbrev pub command_rest : Command → Headers
command_rest local = (any_byte then λ c. skipped (bare Local)) (λ c f l. refl)
command_rest proxy = from_family

pub fit_command : Fit command command_rest
fit_command local f l = refl
fit_command proxy f l = refl

-- from byte 12 on
abbrev pub from_command : Headers
from_command = (command then command_rest) fit_command

abbrev pub block : Headers
block = (signature_field then λ u. from_command) (λ u f l. refl)
