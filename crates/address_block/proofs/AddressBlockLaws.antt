-- How long the parts of an address block are, and that a record and its address block give each other.
use Rattle.std.specs.Prelude.{◌≡◌, refl, List, [], ◌∷◌, ◌++◌, ℕ, suc, ◌+◌, ◌-◌, ◌/◌, ◌%◌, ◌≤◌, ◌<◌, length, take, drop, get_or, replicate}
use Rattle.std.proofs.Common.{sym, ap, ap₂, ◌∙◌, length-take, take_all, append_assoc, append-nil, add-one, arith, length-append, length-drop, take-append-drop, length-take-le, take_at, drop_at, take-add, drop-cons, get_or-append-add}
use Rattle.std.proofs.Math.Seq.{take-length}
use Rattle.std.proofs.lemmas.List.{drop-replicate, length-replicate}
use Rattle.lent.specs.Placed.{placed}
use Rattle.lent.proofs.PlacedLaws.{placed_front}
use Rattle.exact.specs.Claim.{AllBytes}
use Rattle.exact.specs.Network.{network, number_at}
use Rattle.exact.specs.Byte.{zeros}
use Rattle.exact.specs.Parser.{bytes_append}
use Rattle.exact.proofs.Parser.{bytes_take, bytes_drop, byte_at}
use Rattle.record.specs.declared.Kind.{Kind}
use Rattle.record.specs.declared.Kind.TheVariants.{Local, Unspecified, Ip4, Ip6, Unix}
use Rattle.record.specs.declared.Record.{Record}
use Rattle.record.specs.Kinds.{address_length, port_length, block_length}
use Rattle.record.proofs.RecordLaws.{same_record, absent_fits}
use Rattle.record.proofs.HeldLaws.{held-length}
use Rattle.record.specs.Records.{held, record_of, PortFits, Plain, Sized}
use Rattle.address_block.specs.AddressBlock.{address_block, port_at, block_record}

-- ── lengths ──
pub address_fits : (k : Kind) → address_length k ≤ 108
address_fits Local = omega arith
address_fits Unspecified = omega arith
address_fits (Ip4 t) = omega arith
address_fits (Ip6 t) = omega arith
address_fits (Unix t) = omega arith

pub port_fits : (k : Kind) → port_length k ≤ 2
port_fits Local = omega arith
port_fits Unspecified = omega arith
port_fits (Ip4 t) = omega arith
port_fits (Ip6 t) = omega arith
port_fits (Unix t) = omega arith

pub address_size : (k : Kind) (a : List ℕ) → length a ≡ 108 → length (take (address_length k) a) ≡ address_length k
address_size k a size = let h = address_fits k in length-take-le (address_length k) a (omega arith)

pub port_size : (k : Kind) (p : ℕ) → length (take (port_length k) (network p)) ≡ port_length k
port_size k p = length-take-le (port_length k) (network p) (port_fits k)

-- "Address block A": 0, 12, 36, 216
pub block_size : (r : Record) → length r.source ≡ 108 → length r.destination ≡ 108 → length (address_block r) ≡ block_length r.kind
block_size r s d =
    let a = address_size r.kind r.source s in
    let b = address_size r.kind r.destination d in
    let p = port_size r.kind r.source_port in
    let q = port_size r.kind r.destination_port in
    simp length-append (omega arith)

-- ── bytes ──
number_small : (s : List ℕ) (i : ℕ) → AllBytes s → number_at s i < 65536
number_small s i b = let h = byte_at s i b in let l = byte_at s (i + 1) b in omega arith

-- ── an address as a record holds it ──
pub put_held : (a : List ℕ) → length a ≤ 108 → placed a 0 (replicate 108 0) ≡ held a
put_held a h = placed_front a (replicate 108 0) (omega (arith, length-replicate {A = ℕ} 108 0)) ∙ ap (λ (t : List ℕ). a ++ t) (drop-replicate (length a) 108 0)

-- a kind's address is no longer than what is held
pub address_part : (k : Kind) (s : List ℕ) {n : ℕ} {a h : List ℕ} → n ≡ address_length k → a ≡ take n s → h ≡ held (take 108 a) → h ≡ held (take (address_length k) s)
address_part k s en ea eh =
    let part = take (address_length k) s in
    let few = address_fits k in
    let short = length-take (address_length k) s in
    eh ∙ ap (λ (a : List ℕ). held (take 108 a)) (ea ∙ ap (λ (m : ℕ). take m s) en) ∙ ap held (take_all 108 part (omega arith))

module _ (k : Kind) (a : List ℕ) (size : length a ≡ address_length k) where
  held_front : take (address_length k) (held a) ≡ a
  held_front = take_at a (replicate (108 - length a) 0) (address_length k) size

  held_zeros : drop (address_length k) (held a) ≡ replicate (108 - address_length k) 0
  held_zeros = drop_at a (replicate (108 - length a) 0) (address_length k) size ∙ ap (λ (n : ℕ). replicate (108 - n) 0) size

  held_size : length (held a) ≡ 108
  held_size = held-length a (let h = address_fits k in omega arith)

held_bytes : (a : List ℕ) → AllBytes a → AllBytes (held a)
held_bytes a b = bytes_append a (replicate (108 - length a) 0) b (zeros (108 - length a)).bytes

-- an array with zeros behind the address holds it
held_again : (k : Kind) (a : List ℕ) → length a ≡ 108 → drop (address_length k) a ≡ replicate (108 - address_length k) 0
    → held (take (address_length k) a) ≡ a
held_again k a size clean =
    ap (λ (n : ℕ). take (address_length k) a ++ replicate (108 - n) 0) (address_size k a size)
    ∙ ap (λ (t : List ℕ). take (address_length k) a ++ t) (sym clean)
    ∙ take-append-drop (address_length k) a

-- a plain record is made of the addresses and ports that its kind uses
pub made_again : (r : Record) → Sized r → Plain r
    → record_of r.kind (take (address_length r.kind) r.source) (take (address_length r.kind) r.destination) r.source_port
    r.destination_port ≡ r
made_again r sized plain =
    same_record r.kind (held_again r.kind r.source sized.source plain.clean.source)
    (held_again r.kind r.destination sized.destination plain.clean.destination) refl refl (sym plain.absent)

-- ── ports ──
pub number_again : (f g : List ℕ) (n i : ℕ) → length f ≡ i → number_at (f ++ network n ++ g) i ≡ n
number_again f g n i size =
    let rest = n / 256 ∷ n % 256 ∷ g in
    let here : length f + 0 ≡ i = omega arith in
    let next : length f + 1 ≡ i + 1 = omega arith in
    let high = ap (λ (x : ℕ). get_or (f ++ rest) x 0) (sym here) ∙ get_or-append-add f rest 0 0 in
    let low = ap (λ (x : ℕ). get_or (f ++ rest) x 0) (sym next) ∙ get_or-append-add f rest 1 0 in
    let both : number_at (f ++ rest) i ≡ n = omega arith in
    ap (λ (s : List ℕ). number_at s i) (append_assoc f (network n) g) ∙ both

port_again : (k : Kind) (f g : List ℕ) (n i : ℕ) → length f ≡ i → PortFits k n → port_at k (f ++ take (port_length k) (network n) ++ g) i ≡ n
port_again Local f g n i size fits = sym fits
port_again Unspecified f g n i size fits = sym fits
port_again (Ip4 t) f g n i size fits = number_again f g n i size
port_again (Ip6 t) f g n i size fits = number_again f g n i size
port_again (Unix t) f g n i size fits = sym fits

bytes_again : (s : List ℕ) (i : ℕ) → AllBytes s → i + 2 ≤ length s → network (number_at s i) ≡ take 2 (drop i s)
bytes_again s i b h =
    let low = byte_at s (i + 1) b in
    let first : drop i s ≡ get_or s i 0 ∷ drop (suc i) s = drop-cons s i 0 (omega arith) in
    let second : drop (suc i) s ≡ get_or s (suc i) 0 ∷ drop (suc (suc i)) s = drop-cons s (suc i) 0 (omega arith) in
    let next : get_or s (i + 1) 0 ≡ get_or s (suc i) 0 = rw add-one in
    let two : number_at s i / 256 ∷ number_at s i % 256 ∷ [] ≡ get_or s i 0 ∷ get_or s (suc i) 0 ∷ [] =
    ap₂ (λ (x y : ℕ). x ∷ y ∷ []) (omega arith) (omega arith)
    in
    two ∙ sym (ap (take 2) (first ∙ ap (λ (l : List ℕ). get_or s i 0 ∷ l) second))

part_again : (k : Kind) (s : List ℕ) (i : ℕ) → AllBytes s → i + port_length k ≤ length s
    → take (port_length k) (network (port_at k s i)) ≡ take (port_length k) (drop i s)
part_again Local s i b h = refl
part_again Unspecified s i b h = refl
part_again (Ip4 t) s i b h = bytes_again s i b h
part_again (Ip6 t) s i b h = bytes_again s i b h
part_again (Unix t) s i b h = refl

port_kept : (k : Kind) (s : List ℕ) (i : ℕ) → AllBytes s → PortFits k (port_at k s i) × (port_at k s i < 65536)
port_kept Local s i b = (refl, omega arith)
port_kept Unspecified s i b = (refl, omega arith)
port_kept (Ip4 t) s i b = let h = number_small s i b in (h, h)
port_kept (Ip6 t) s i b = let h = number_small s i b in (h, h)
port_kept (Unix t) s i b = (refl, omega arith)

-- ── a record and its address block ──
-- the address block of a plain record gives the record back
pub record_again : (r : Record) → Sized r → Plain r → block_record r.kind (address_block r) ≡ r
record_again r sized plain =
    let k = r.kind in
    let n = address_length k in
    let m = port_length k in
    let a = take n r.source in
    let b = take n r.destination in
    let p = take m (network r.source_port) in
    let q = take m (network r.destination_port) in
    let a-size : length a ≡ n = address_size k r.source sized.source in
    let b-size : length b ≡ n = address_size k r.destination sized.destination in
    let p-size : length p ≡ m = port_size k r.source_port in
    let ab-size : length (a ++ b) ≡ n + n = length-append a b ∙ ap₂ ◌+◌ a-size b-size in
    let abp-size : length (a ++ b ++ p) ≡ n + n + m = length-append (a ++ b) p ∙ ap₂ ◌+◌ ab-size p-size in
    let split : address_block r ≡ a ++ (b ++ (p ++ q)) = simp append_assoc in
    let from : take n (address_block r) ≡ a = ap (take n) split ∙ take_at a (b ++ (p ++ q)) n a-size in
    let rest : drop n (address_block r) ≡ b ++ (p ++ q) = ap (drop n) split ∙ drop_at a (b ++ (p ++ q)) n a-size in
    let to : take n (drop n (address_block r)) ≡ b = ap (take n) rest ∙ take_at b (p ++ q) n b-size in
    let source : port_at k (address_block r) (n + n) ≡ r.source_port = port_again k (a ++ b) q r.source_port (n + n) ab-size plain.clean.source_port in
    let destination : port_at k (address_block r) (n + n + m) ≡ r.destination_port =
    ap (λ (s : List ℕ). port_at k s (n + n + m)) (sym (append-nil (address_block r)))
    ∙ port_again k (a ++ b ++ p) [] r.destination_port (n + n + m) abp-size plain.clean.destination_port
    in
    ap₂ (λ (x y : List ℕ). record_of k x y (port_at k (address_block r) (n + n)) (port_at k (address_block r) (n + n + m))) from to
    ∙ ap₂ (λ (x y : ℕ). record_of k a b x y) source destination
    ∙ made_again r sized plain

module _ (k : Kind) (b : List ℕ) (size : length b ≡ block_length k) (bytes : AllBytes b) where
  abbrev n : ℕ
  n = address_length k

  abbrev m : ℕ
  m = port_length k

  from_size : length (take n b) ≡ n
  from_size = length-take-le n b (omega arith)

  to_size : length (take n (drop n b)) ≡ n
  to_size = let e = length-drop n b in length-take-le n (drop n b) (omega arith)

  parts : b ≡ take n b ++ take n (drop n b) ++ take m (drop (n + n) b) ++ take m (drop (n + n + m) b)
  parts =
      sym (ap (λ (x : ℕ). take x b) (sym size) ∙ take-length b)
      ∙ take-add (n + n + m) m b
      ∙ ap (λ (x : List ℕ). x ++ take m (drop (n + n + m) b)) (take-add (n + n) m b)
      ∙ ap (λ (x : List ℕ). x ++ take m (drop (n + n) b) ++ take m (drop (n + n + m) b)) (take-add n n b)

  -- the record of an address block has that block
  pub block_again : address_block (block_record k b) ≡ b
  block_again =
      ap₂ (λ (x y : List ℕ). x ++ y ++ take m (network (port_at k b (n + n))) ++ take m (network (port_at k b (n + n + m))))
      (held_front k (take n b) from_size) (held_front k (take n (drop n b)) to_size)
      ∙ ap₂ (λ (x y : List ℕ). take n b ++ take n (drop n b) ++ x ++ y) (part_again k b (n + n) bytes (omega arith))
      (part_again k b (n + n + m) bytes (omega arith))
      ∙ sym parts

  -- and is plain
  pub block_plain : Plain (block_record k b)
  block_plain =
      record {
        clean = record {
          source = held_zeros k (take n b) from_size;
          destination = held_zeros k (take n (drop n b)) to_size;
          source_port = (port_kept k b (n + n) bytes).0;
          destination_port = (port_kept k b (n + n + m) bytes).0;
          checksum = absent_fits k;
        };
        absent = refl;
      }

  pub block_sized : Sized (block_record k b)
  block_sized =
      record {
        source = held_size k (take n b) from_size;
        destination = held_size k (take n (drop n b)) to_size;
        source_bytes = held_bytes (take n b) (bytes_take n b bytes);
        destination_bytes = held_bytes (take n (drop n b)) (bytes_take n (drop n b) (bytes_drop n b bytes));
        source_port = (port_kept k b (n + n) bytes).1;
        destination_port = (port_kept k b (n + n + m) bytes).1;
      }
