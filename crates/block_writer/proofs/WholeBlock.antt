-- What the version 2 writer writes keeps the rules of a block.
use Rattle.std.specs.Prelude.{◌≡◌, refl, List, [], ◌∷◌, ◌++◌, ℕ, ◌<◌, length, take, Some}
use Rattle.std.proofs.Common.{sym, ap₂, ◌∙◌, inl, inr, arith}
use Rattle.std.proofs.Math.Path.{ap}
use Rattle.exact.specs.Network.{network}
use Rattle.tlv.proofs.AreaBytes.{area_bytes}
use Rattle.record.specs.declared.Transport.TheVariants.{Stream, Datagram}
use Rattle.record.specs.declared.Kind.{Kind}
use Rattle.record.specs.declared.Kind.TheVariants.{Local, Unspecified, Ip4, Ip6, Unix}
use Rattle.record.specs.declared.Checksum.{Checksum}
use Rattle.record.specs.declared.Record.{Record}
use Rattle.record.specs.Kinds.{family, byte_of, address_length, port_length}
use Rattle.record.specs.Records.{record_with, record_of, bare}
use Rattle.address_block.specs.AddressBlock.{address_block}
use Rattle.address_block.proofs.AddressBlockLaws.{address_size, made_again}
use Rattle.exact.proofs.Parser.{bytes_take}
use Rattle.header.specs.Block.{signature, PROXY, HasAddresses, port_bytes, Addresses, AddressBlock, Block}
use Rattle.head_writer.specs.Head.{command_of}
use Rattle.block_writer.specs.Written.{block_of, written_block, CarriedByBlock}

proxy_command : (k : Kind) → HasAddresses k → command_of k ≡ PROXY
proxy_command Local has = absurd has
proxy_command Unspecified has = absurd has
proxy_command (Ip4 t) has = refl
proxy_command (Ip6 t) has = refl
proxy_command (Unix t) has = refl

byte_kind : (k : Kind) → HasAddresses k → family (byte_of k) ≡ Some k
byte_kind Local has = absurd has
byte_kind Unspecified has = absurd has
byte_kind (Ip4 Stream) has = refl
byte_kind (Ip4 Datagram) has = refl
byte_kind (Ip6 Stream) has = refl
byte_kind (Ip6 Datagram) has = refl
byte_kind (Unix Stream) has = refl
byte_kind (Unix Datagram) has = refl

byte_small : (k : Kind) → byte_of k < 256
byte_small Local = omega arith
byte_small Unspecified = omega arith
byte_small (Ip4 Stream) = omega arith
byte_small (Ip4 Datagram) = omega arith
byte_small (Ip6 Stream) = omega arith
byte_small (Ip6 Datagram) = omega arith
byte_small (Unix Stream) = omega arith
byte_small (Unix Datagram) = omega arith

port_bytes_lem : (k : Kind) (p : ℕ) → take (port_length k) (network p) ≡ port_bytes k p
port_bytes_lem Local p = refl
port_bytes_lem Unspecified p = refl
port_bytes_lem (Ip4 t) p = refl
port_bytes_lem (Ip6 t) p = refl
port_bytes_lem (Unix t) p = refl

module _ (r : Record) (area : List ℕ) (w : CarriedByBlock r area) where
  abbrev k : Kind
  k = r.kind

  addresses : Addresses k (address_block r) r
  addresses =
      record {
        from = take (address_length k) r.source;
        to = take (address_length k) r.destination;
        p = r.source_port;
        q = r.destination_port;
        split =
            ap₂ (λ (x y : List ℕ). take (address_length k) r.source ++ take (address_length k) r.destination ++ x ++ y)
            (port_bytes_lem k r.source_port) (port_bytes_lem k r.destination_port);
        from_length = address_size k r.source w.sized.source;
        to_length = address_size k r.destination w.sized.destination;
        from_bytes = bytes_take (address_length k) r.source w.sized.source_bytes;
        to_bytes = bytes_take (address_length k) r.destination w.sized.destination_bytes;
        p_fits = w.plain.clean.source_port;
        q_fits = w.plain.clean.destination_port;
        says = sym (made_again r w.sized w.plain);
      }

  address_block_lem : HasAddresses k → AddressBlock (written_block r area) r area
  unfolding written_block
  address_block_lem has =
      record {
        kind = k;
        byte13 = byte_of k;
        block = address_block r;
        framed = record {
          split = ap (λ (c : ℕ). signature ++ c ∷ byte_of k ∷ network (length (block_of r area)) ++ block_of r area) (proxy_command k has);
          small = w.small;
        };
        byte = byte_small k;
        table = byte_kind k has;
        has = has;
        addresses = addresses;
        tlvs = w.tlvs;
      }

-- a kind without addresses or ports leaves nothing else to say
bare_made : (k : Kind) (p q : ℕ) (r : Record) → record_of k [] [] p q ≡ r → p ≡ 0 → q ≡ 0 → r ≡ bare k
bare_made k p q r e x y = sym e ∙ ap₂ (λ (m n : ℕ). record_of k [] [] m n) x y

pub block_of_lem : (k : Kind) (s d : List ℕ) (p q : ℕ) (c : Checksum) (area : List ℕ) → CarriedByBlock (record_with k s d p q c) area
    → Block (written_block (record_with k s d p q c) area) (record_with k s d p q c) area
unfolding written_block
block_of_lem Local s d p q c area w =
    inl (
      record { byte13 = 0; block = area; framed = record { split = refl; small = w.small }; byte = omega arith; bytes = area_bytes area w.tlvs },
      bare_made Local p q _ (made_again (record_with Local s d p q c) w.sized w.plain) w.plain.clean.source_port w.plain.clean.destination_port,
      w.beside (λ x. x),
    )
block_of_lem Unspecified s d p q c area w =
    inr
    (inl (
      record {
        byte13 = 0;
        block = area;
        framed = record { split = refl; small = w.small };
        byte = omega arith;
        table = refl;
        bytes = area_bytes area w.tlvs;
      },
      bare_made Unspecified p q _ (made_again (record_with Unspecified s d p q c) w.sized w.plain) w.plain.clean.source_port w.plain.clean.destination_port,
      w.beside (λ x. x),
    ))
block_of_lem (Ip4 t) s d p q c area w = inr (inr (address_block_lem (record_with (Ip4 t) s d p q c) area w tt))
block_of_lem (Ip6 t) s d p q c area w = inr (inr (address_block_lem (record_with (Ip6 t) s d p q c) area w tt))
block_of_lem (Unix t) s d p q c area w = inr (inr (address_block_lem (record_with (Unix t) s d p q c) area w tt))
