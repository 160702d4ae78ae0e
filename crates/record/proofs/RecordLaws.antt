-- Records with equal parts are equal; the state absent may stand beside every kind; what holds of a record with another state.
use Rattle.std.specs.Prelude.{◌≡◌, refl, List, ℕ}
use Rattle.record.specs.declared.Kind.{Kind}
use Rattle.record.specs.declared.Kind.TheVariants.{Local, Unspecified, Ip4, Ip6, Unix}
use Rattle.record.specs.declared.Checksum.{Checksum}
use Rattle.record.specs.declared.Checksum.TheVariants.{Absent}
use Rattle.record.specs.declared.Record.{Record}
use Rattle.record.specs.Records.{record_with, with_checksum, StateFits, Clean, Plain, Sized}

pub same_record : (k : Kind) {s t d e : List ℕ} {p q m n : ℕ} {b c : Checksum} → s ≡ t → d ≡ e → p ≡ m → q ≡ n → b ≡ c
    → record_with k s d p q b ≡ record_with k t e m n c
same_record k a b x y z = cc

pub absent_fits : (k : Kind) → StateFits k Absent
absent_fits Local = refl
absent_fits Unspecified = refl
absent_fits (Ip4 t) = tt
absent_fits (Ip6 t) = tt
absent_fits (Unix t) = tt

-- ── a record with another state ──
pub sized_with : (c : Checksum) (r : Record) → Sized r → Sized (with_checksum c r)
sized_with c r sized =
    record {
      source = sized.source;
      destination = sized.destination;
      source_bytes = sized.source_bytes;
      destination_bytes = sized.destination_bytes;
      source_port = sized.source_port;
      destination_port = sized.destination_port;
    }

pub clean_with : (c : Checksum) (r : Record) → Clean r → StateFits r.kind c → Clean (with_checksum c r)
clean_with c r clean fits =
    record {
      source = clean.source;
      destination = clean.destination;
      source_port = clean.source_port;
      destination_port = clean.destination_port;
      checksum = fits;
    }

pub plain_without : (r : Record) → Clean r → Plain (with_checksum Absent r)
plain_without r clean = record { clean = clean_with Absent r clean (absent_fits r.kind); absent = refl }
