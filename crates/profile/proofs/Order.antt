-- The profile "in order": which of its steps answers, whatever those behind it would say; and mapped addresses.
use Rattle.std.specs.Prelude.{◌≡◌, refl, false, List, ℕ, ◌≤◌, ◌<◌}
use Rattle.std.proofs.Common.{ne_eqb, le-leb}
use Rattle.std.proofs.lemmas.Bool.{lt-leb}
use Rattle.record.specs.declared.Transport.TheVariants.{Stream}
use Rattle.record.specs.declared.Kind.TheVariants.{Ip6}
use Rattle.prefix.specs.Prefix.{Prefix}
use Rattle.prefix_table.specs.TableTests.{level_in}
use Rattle.unique_id.specs.UniqueId.{identified}
use Rattle.profile.specs.Profile.{denied, Origin, local, stream, other, origin_of, by_version, source_level}

module _ (area : List ℕ) (n level : ℕ) where
  pub first_version : (version : ℕ) (origin : Origin) → (version ≡ 2 → ⊥) → by_version version origin area n level ≡ denied 30
  first_version version origin not = rw (ne_eqb version 2 not)

  pub then_kind : by_version 2 other area n level ≡ denied 31
  then_kind = refl

  pub then_length : 536 < n → by_version 2 local area n level ≡ denied 32
  then_length long = rw (lt-leb n 536 long)

  -- also where the unique ID is missing
  pub then_length_of_stream : (family : ℕ) → 536 < n → by_version 2 (stream family) area n level ≡ denied 32
  then_length_of_stream family long = rw (lt-leb n 536 long)

  pub then_unique_id : (family : ℕ) → n ≤ 536 → identified area ≡ false → by_version 2 (stream family) area n level ≡ denied 33
  then_unique_id family short missing = rw (le-leb n 536 short, missing)

-- "Mapped IPv4 counts as IPv6": the rows of IPv6 decide, whatever the source is
pub by_ip6_rows : (rows : List Prefix) (source : List ℕ) → source_level rows (origin_of (Ip6 Stream)) source ≡ level_in rows 6 source
by_ip6_rows rows source = refl
