-- Lemmas on what specs/BlockMembers.antt defines.
use Rattle.std.specs.Prelude.{◌≡◌, refl, Bool, true, false, List, [], ◌∷◌, ◌++◌, ◌⊎◌, ◌↔◌, ℕ, ◌+◌, ◌-◌, ◌≤◌, ◌<◌, eqb, leb, length, Option, Some, None}
use Rattle.std.proofs.Common.{sym, ap, ap₂, ◌∙◌, subst, append_assoc, append-nil, inl, inr, ⊎_elim, arith, length-append, eqb-true, leb-true}
use Rattle.std.proofs.lemmas.Bool.{eqb-false}
use Rattle.exact.specs.Network.{network}
use Rattle.exact.specs.Pick.{pick}
use Rattle.exact.proofs.Below.{each_below}
use Rattle.exact.specs.Field.{flat}
use Rattle.exact.proofs.ParserLemmas.{just}
use Rattle.tlv.specs.Tlv.{WellFormed}
use Rattle.tlv.proofs.Room.{filled_fillable}
use Rattle.record.specs.declared.Kind.{Kind}
use Rattle.record.specs.declared.Kind.TheVariants.{Local, Unspecified, Ip4, Ip6, Unix}
use Rattle.record.specs.declared.Record.{Record}
use Rattle.record.specs.Kinds.{family, port_length, block_length}
use Rattle.record.specs.Records.{record_of, bare, PortFits}
use Rattle.header.specs.Block.{signature, LOCAL, PROXY, LocalBlock, HasAddresses, port_bytes, Addresses, Block}
use Rattle.header.specs.Header.{Header}
use Rattle.fields.specs.Lengths.{fits}
use Rattle.fields.proofs.Lengths.{either_fits}
use Rattle.fields.specs.BlockFields.{blocked, Command, local, proxy, command_of, port, tlvs, area}
use Rattle.fields.proofs.BlockFields.{skipped, addressed, family_rest, command_rest, block}
use Rattle.fields.specs.BlockMembers.{Addressed, Blocked, Skipped}

-- ── the members ──
blocked_of : (h : Header) (r : Record) (a : List ℕ) → h.«record» ≡ r → h.area ≡ a → h.version ≡ 2 → h ≡ blocked r a
blocked_of h r a x y z = λ i. record { «record» = x i; version = z i; area = y i }

says_blocked : (h : Header) (r : Record) (a : List ℕ) → h ≡ blocked r a → (h.«record» ≡ r) × (h.area ≡ a) × (h.version ≡ 2)
says_blocked h r a e =
    (ap (λ (x : Header). x.«record») e, ap (λ (x : Header). x.area) e, ap (λ (x : Header). x.version) e)

to_skipped : (r : Record) (f : List ℕ) (h : Header) → (skipped r).field.lang f h → Skipped r f h
to_skipped r f h l =
    let m = l.second in
    let c = m.first in
    let whole : l.back ≡ m.front = m.split ∙ ap (λ (t : List ℕ). m.front ++ t) m.second.0 ∙ append-nil m.front in
    record {
      block = m.front;
      split = l.split ∙ ap₂ ◌++◌ (l.first.split ∙ ap network (sym c.size)) whole;
      small = let s = l.first.small in let z = c.size in omega arith;
      bytes = c.bytes;
      says = m.second.1;
    }

from_skipped : (r : Record) (f : List ℕ) (h : Header) → Skipped r f h → (skipped r).field.lang f h
from_skipped r f h w =
    record {
      front = network (length w.block);
      back = w.block;
      mid = length w.block;
      split = w.split;
      first = record { split = refl; small = w.small; fits = refl };
      second = record {
        front = w.block;
        back = [];
        mid = 0;
        split = sym (append-nil w.block);
        first = record { size = refl; bytes = w.bytes; none = refl };
        second = (refl, w.says);
      };
    }

to_port : (m : ℕ) (k : Kind) (f : List ℕ) (p : ℕ) → (port m k).field.lang f p → (f ≡ port_bytes k p) × PortFits k p
to_port m Local f p l = l
to_port m Unspecified f p l = l
to_port m (Ip4 t) f p l = (l.split, l.small)
to_port m (Ip6 t) f p l = (l.split, l.small)
to_port m (Unix t) f p l = l

from_port : (m : ℕ) (k : Kind) (p : ℕ) → PortFits k p → (port m k).field.lang (port_bytes k p) p
from_port m Local p h = (refl, h)
from_port m Unspecified p h = (refl, h)
from_port m (Ip4 t) p h = record { split = refl; small = h; fits = refl }
from_port m (Ip6 t) p h = record { split = refl; small = h; fits = refl }
from_port m (Unix t) p h = (refl, h)

-- the TLVs behind the address block
abbrev AreaAt : ℕ → ℕ → List ℕ → List ℕ → Type 0
AreaAt a n f t = (a + length f ≡ n) × WellFormed f × (t ≡ f)

no_tlvs : WellFormed []
no_tlvs = ([], (refl, tt))

to_area : (a n : ℕ) (f t : List ℕ) → fits a n ≡ true → (area a n).field.lang f t → AreaAt a n f t
to_area a n f t good l = by (eqb n a) refl good l
  where
    by : (b : Bool) → eqb n a ≡ b → pick b true (leb (a + 3) n) ≡ true
        → (pick b (just (flat 0) []) (tlvs (n - (a + 3)))).field.lang f t → AreaAt a n f t
    by true e g m =
        let same : n ≡ a = eqb-true n a e in
        (rw m.0 (omega arith), subst WellFormed (sym m.0) no_tlvs, m.1 ∙ sym m.0)
    by false e g m =
        let high : a + 3 ≤ n = leb-true (a + 3) n g in
        let size = m.whole.0.0 in
        (omega arith, m.whole.0.1, m.text)

from_area : (a n : ℕ) (f : List ℕ) → a + length f ≡ n → WellFormed f → (area a n).field.lang f f
from_area a n f size filled = by (eqb n a) refl
  where
    empty : (g : List ℕ) → length g ≡ 0 → g ≡ []
    empty [] e = refl
    empty (c ∷ g) e = absurd (omega arith)

    by : (b : Bool) → eqb n a ≡ b → (pick b (just (flat 0) []) (tlvs (n - (a + 3)))).field.lang f f
    by true e = let same : n ≡ a = eqb-true n a e in let z = empty f (omega arith) in (z, z)
    by false e =
        let other : n ≡ a → ⊥ = eqb-false n a e in
        record {
          value = 0;
          whole = (
            (
              ⊎_elim (λ z. absurd (other (omega arith))) (λ h. omega arith) (filled_fillable (length f) f (refl, filled)),
              filled,
            ),
            refl,
          );
          text = refl;
        }

port_length_lem : (k : Kind) (p : ℕ) → length (port_bytes k p) ≡ port_length k
port_length_lem Local p = refl
port_length_lem Unspecified p = refl
port_length_lem (Ip4 t) p = refl
port_length_lem (Ip6 t) p = refl
port_length_lem (Unix t) p = refl

pub addresses_length : (k : Kind) (b : List ℕ) (r : Record) → Addresses k b r → length b ≡ block_length k
addresses_length k b r w =
    let x = w.from_length in
    let y = w.to_length in
    let p = port_length_lem k w.p in
    let q = port_length_lem k w.q in
    rw w.split (simp length-append (omega arith))

to_addressed : (k : Kind) (f : List ℕ) (h : Header) → (addressed k).field.lang f h → Addressed k f h
to_addressed k f h l =
    let l₁ = l.second in
    let l₂ = l₁.second in
    let l₃ = l₂.second in
    let l₄ = l₃.second in
    let l₅ = l₄.second in
    let c₁ = l₁.first.whole in
    let c₂ = l₂.first.whole in
    let p = to_port _ k l₃.front l₃.mid l₃.first in
    let q = to_port _ k l₄.front l₄.mid l₄.first in
    let a = to_area (block_length k) l.mid l₅.front l₅.mid l.first.fits l₅.first in
    let block = l₁.front ++ l₂.front ++ l₃.front ++ l₄.front in
    let here : Addresses k block (record_of k l₁.mid l₂.mid l₃.mid l₄.mid) =
    record {
      from = l₁.front;
      to = l₂.front;
      p = l₃.mid;
      q = l₄.mid;
      split = rw (p.0, q.0);
      from_length = c₁.size;
      to_length = c₂.size;
      from_bytes = c₁.bytes;
      to_bytes = c₂.bytes;
      p_fits = p.1;
      q_fits = q.1;
      says = ap₂ (λ (x y : List ℕ). record_of k x y l₃.mid l₄.mid) l₁.first.text l₂.first.text;
    }
    in
    let size : length (block ++ l₅.front) ≡ l.mid =
    length-append block l₅.front ∙ ap (λ (m : ℕ). m + length l₅.front) (addresses_length k block _ here) ∙ a.0
    in
    record {
      block = block;
      area = l₅.front;
      «record» = record_of k l₁.mid l₂.mid l₃.mid l₄.mid;
      split =
          l.split
          ∙ ap₂ ◌++◌ (l.first.split ∙ ap network (sym size))
          (six l.back l₁.front l₁.back l₂.front l₂.back l₃.front l₃.back l₄.front l₄.back l₅.front l₅.back l₁.split l₂.split l₃.split l₄.split l₅.split l₅.second.0);
      small = let s = l.first.small in omega arith;
      addresses = here;
      tlvs = a.1;
      says = l₅.second.1 ∙ ap (λ (t : List ℕ). blocked (record_of k l₁.mid l₂.mid l₃.mid l₄.mid) t) a.2;
    }
  where
    six : (f a f₁ b f₂ c f₃ d f₄ e f₅ : List ℕ) → f ≡ a ++ f₁ → f₁ ≡ b ++ f₂ → f₂ ≡ c ++ f₃ → f₃ ≡ d ++ f₄ → f₄ ≡ e ++ f₅ → f₅ ≡ []
        → f ≡ a ++ b ++ c ++ d ++ e
    six f a f₁ b f₂ c f₃ d f₄ e f₅ x x₁ x₂ x₃ x₄ x₅ = rw (x, x₁, x₂, x₃, x₄, x₅) (simp (append_assoc, append-nil))

from_addressed : (k : Kind) (f : List ℕ) (h : Header) → Addressed k f h → (addressed k).field.lang f h
from_addressed k f h w =
    let b = w.addresses in
    let n = length (w.block ++ w.area) in
    let size : block_length k + length w.area ≡ n =
    sym (length-append w.block w.area ∙ ap (λ (m : ℕ). m + length w.area) (addresses_length k w.block _ b))
    in
    let room = filled_fillable (length w.area) w.area (refl, w.tlvs) in
    let pieces : w.block ++ w.area ≡ b.from ++ (b.to ++ (port_bytes k b.p ++ (port_bytes k b.q ++ w.area))) =
    rw b.split (simp append_assoc)
    in
    record {
      front = network n;
      back = b.from ++ (b.to ++ (port_bytes k b.p ++ (port_bytes k b.q ++ w.area)));
      mid = n;
      split = w.split ∙ ap (λ (t : List ℕ). network n ++ t) pieces;
      first = record {
        split = refl;
        small = w.small;
        fits = either_fits (block_length k) n (⊎_elim (λ e. inl (omega arith)) (λ e. inr (omega arith)) room);
      };
      second = record {
        front = b.from;
        back = b.to ++ (port_bytes k b.p ++ (port_bytes k b.q ++ w.area));
        mid = b.from;
        split = refl;
        first = record { value = 0; whole = record { size = b.from_length; bytes = b.from_bytes; none = refl }; text = refl };
        second = record {
          front = b.to;
          back = port_bytes k b.p ++ (port_bytes k b.q ++ w.area);
          mid = b.to;
          split = refl;
          first = record { value = 0; whole = record { size = b.to_length; bytes = b.to_bytes; none = refl }; text = refl };
          second = record {
            front = port_bytes k b.p;
            back = port_bytes k b.q ++ w.area;
            mid = b.p;
            split = refl;
            first = from_port _ k b.p b.p_fits;
            second = record {
              front = port_bytes k b.q;
              back = w.area;
              mid = b.q;
              split = refl;
              first = from_port _ k b.q b.q_fits;
              second = record {
                front = w.area;
                back = [];
                mid = w.area;
                split = sym (append-nil w.area);
                first = from_area (block_length k) n w.area size w.tlvs;
                second = (refl, w.says ∙ ap (λ (r : Record). blocked r w.area) b.says);
              };
            };
          };
        };
      };
    }

-- behind the signature: the command and byte 13, and what follows
abbrev frame : ℕ → ℕ → List ℕ → List ℕ
frame c b rest = signature ++ c ∷ b ∷ rest

local_block : (b : ℕ) (f : List ℕ) (h : Header) → b < 256 → Skipped (bare Local) f h → Blocked (frame LOCAL b f) h
local_block b f h byte w =
    let s = says_blocked h _ _ w.says in (
      inl (
        record {
          byte13 = b;
          block = w.block;
          framed = record { split = ap (frame LOCAL b) w.split; small = w.small };
          byte = byte;
          bytes = w.bytes;
        },
        s.0,
        s.1,
      ),
      s.2,
    )

unspecified_block : (b : ℕ) (f : List ℕ) (h : Header) → b < 256 → family b ≡ Some Unspecified → Skipped (bare Unspecified) f h → Blocked (frame PROXY b f) h
unspecified_block b f h byte table w =
    let s = says_blocked h _ _ w.says in (
      inr
          (inl (
            record {
              byte13 = b;
              block = w.block;
              framed = record { split = ap (frame PROXY b) w.split; small = w.small };
              byte = byte;
              table = table;
              bytes = w.bytes;
            },
            s.0,
            s.1,
          )),
      s.2,
    )

address_block_lem : (k : Kind) (b : ℕ) (f : List ℕ) (h : Header) → b < 256 → family b ≡ Some k → HasAddresses k → Addressed k f h → Blocked (frame PROXY b f) h
address_block_lem k b f h byte table has w =
    let s = says_blocked h _ _ w.says in (
      inr
          (inr
          (record {
            kind = k;
            byte13 = b;
            block = w.block;
            framed = record {
              split = ap (frame PROXY b) w.split ∙ ap (λ (a : List ℕ). frame PROXY b (network (length (w.block ++ a)) ++ (w.block ++ a))) (sym s.1);
              small = subst (λ (a : List ℕ). length (w.block ++ a) < 65536) (sym s.1) w.small;
            };
            byte = byte;
            table = table;
            has = has;
            addresses = subst (Addresses k w.block) (sym s.0) w.addresses;
            tlvs = subst WellFormed (sym s.1) w.tlvs;
          })),
      s.2,
    )

-- a table's first row, or the rest of it
row : {A : Type 0} (b : Bool) (a x : A) (rest : Option A) → pick b (Some a) rest ≡ Some x → ((b ≡ true) × (a ≡ x)) ⊎ (rest ≡ Some x)
row true a x rest e = inl (refl, cc)
row false a x rest e = inr e

no_row : {A C : Type 0} (x : A) → None ≡ Some x → C
no_row x e = absurd (let z : ◌≡◌ {A = ℕ} 0 1 = cc in omega arith)

command_byte : (c : ℕ) (x : Command) → command_of c ≡ Some x → ((c ≡ LOCAL) × (local ≡ x)) ⊎ ((c ≡ PROXY) × (proxy ≡ x))
command_byte c x e =
    ⊎_elim (λ r. inl (eqb-true c LOCAL r.0, r.1))
    (λ r. ⊎_elim (λ q. inr (eqb-true c PROXY q.0, q.1)) (no_row x) (row (eqb c PROXY) proxy x None r))
    (row (eqb c LOCAL) local x _ e)

-- local is the kind of no byte 13
abbrev not_local : Option Kind → Bool
not_local None = true
not_local (Some Local) = false
not_local (Some Unspecified) = true
not_local (Some (Ip4 t)) = true
not_local (Some (Ip6 t)) = true
not_local (Some (Unix t)) = true

never_local : (c : ℕ) → c < 256 → family c ≡ Some Local → ⊥
never_local c small e =
    let other = each_below (λ (n : ℕ). not_local (family n)) 256 c refl small in
    let z : ◌≡◌ {A = ℕ} 0 1 = cc in
    omega arith

proxy_block : (k : Kind) (b : ℕ) (f : List ℕ) (h : Header) → b < 256 → family b ≡ Some k → (family_rest k).field.lang f h → Blocked (frame PROXY b f) h
proxy_block Local b f h byte table l = absurd (never_local b byte table)
proxy_block Unspecified b f h byte table l = unspecified_block b f h byte table (to_skipped (bare Unspecified) f h l)
proxy_block (Ip4 t) b f h byte table l = address_block_lem (Ip4 t) b f h byte table tt (to_addressed (Ip4 t) f h l)
proxy_block (Ip6 t) b f h byte table l = address_block_lem (Ip6 t) b f h byte table tt (to_addressed (Ip6 t) f h l)
proxy_block (Unix t) b f h byte table l = address_block_lem (Unix t) b f h byte table tt (to_addressed (Unix t) f h l)

-- behind byte 12
rest_block : (x : Command) (c : ℕ) (f : List ℕ) (h : Header) → command_of c ≡ Some x → (command_rest x).field.lang f h → Blocked (signature ++ c ∷ f) h
rest_block local c f h e l =
    let i : c ≡ LOCAL = ⊎_elim (λ r. r.0) (λ r. absurd (let r₁ = r.1 in let z : ◌≡◌ {A = ℕ} 0 1 = cc in omega arith)) (command_byte c local e) in
    let text : signature ++ c ∷ f ≡ frame LOCAL l.first.byte l.back = rw (i, l.split, l.first.split) in
    subst (λ (t : List ℕ). Blocked t h) (sym text) (local_block l.first.byte l.back h l.first.small (to_skipped (bare Local) l.back h l.second))
rest_block proxy c f h e l =
    let i : c ≡ PROXY = ⊎_elim (λ r. absurd (let r₁ = r.1 in let z : ◌≡◌ {A = ℕ} 0 1 = cc in omega arith)) (λ r. r.0) (command_byte c proxy e) in
    let text : signature ++ c ∷ f ≡ frame PROXY l.first.byte l.back = rw (i, l.split, l.first.split) in
    subst (λ (t : List ℕ). Blocked t h) (sym text) (proxy_block l.mid l.first.byte l.back h l.first.small l.first.value l.second)

block_members : (f : List ℕ) (h : Header) → block.field.lang f h → Blocked f h
block_members f h l =
    let m = l.second in
    let text : f ≡ signature ++ m.first.byte ∷ m.back = l.split ∙ ap₂ ◌++◌ l.first.0 (m.split ∙ ap (λ (t : List ℕ). t ++ m.back) m.first.split) in
    subst (λ (t : List ℕ). Blocked t h) (sym text) (rest_block m.mid m.first.byte m.back h m.first.value m.second)

-- ── and back ──
framed_member : (c : ℕ) (x : Command) (f rest : List ℕ) (h : Header) → c < 256 → command_of c ≡ Some x → f ≡ signature ++ c ∷ rest
    → (command_rest x).field.lang rest h → block.field.lang f h
framed_member c x f rest h small e split l =
    record {
      front = signature;
      back = c ∷ rest;
      mid = 0;
      split = split;
      first = (refl, refl);
      second = record {
        front = c ∷ [];
        back = rest;
        mid = x;
        split = refl;
        first = record { byte = c; split = refl; small = small; value = e };
        second = l;
      };
    }

local_member : (f : List ℕ) (h : Header) → LocalBlock f → h ≡ blocked (bare Local) [] → block.field.lang f h
local_member f h w says =
    framed_member LOCAL local f (w.byte13 ∷ network (length w.block) ++ w.block) h (omega arith) refl w.framed.split
    (record {
      front = w.byte13 ∷ [];
      back = network (length w.block) ++ w.block;
      mid = w.byte13;
      split = refl;
      first = record { byte = w.byte13; split = refl; small = w.byte; value = refl };
      second = from_skipped (bare Local) _ h (record { block = w.block; split = refl; small = w.framed.small; bytes = w.bytes; says = says });
    })

proxy_member : (k : Kind) (b : ℕ) (f rest : List ℕ) (h : Header) → b < 256 → family b ≡ Some k → f ≡ signature ++ PROXY ∷ b ∷ rest
    → (family_rest k).field.lang rest h → block.field.lang f h
proxy_member k b f rest h byte table split l =
    framed_member PROXY proxy f (b ∷ rest) h (omega arith) refl split
    (record {
      front = b ∷ [];
      back = rest;
      mid = k;
      split = refl;
      first = record { byte = b; split = refl; small = byte; value = table };
      second = l;
    })

family_rest_lem : (k : Kind) (f : List ℕ) (h : Header) → HasAddresses k → (addressed k).field.lang f h → (family_rest k).field.lang f h
family_rest_lem Local f h has l = absurd has
family_rest_lem Unspecified f h has l = absurd has
family_rest_lem (Ip4 t) f h has l = l
family_rest_lem (Ip6 t) f h has l = l
family_rest_lem (Unix t) f h has l = l

members_block : (f : List ℕ) (h : Header) → Blocked f h → block.field.lang f h
members_block f h (b, version) = by b
  where
    by : Block f h.«record» h.area → block.field.lang f h
    by (inl w) = local_member f h w.0 (blocked_of h _ _ w.1 w.2 version)
    by (inr (inl w)) =
        let u = w.0 in
        proxy_member Unspecified u.byte13 f (network (length u.block) ++ u.block) h u.byte u.table u.framed.split
        (from_skipped (bare Unspecified) _ h
        (record { block = u.block; split = refl; small = u.framed.small; bytes = u.bytes; says = blocked_of h _ _ w.1 w.2 version }))
    by (inr (inr w)) =
        proxy_member w.kind w.byte13 f (network (length (w.block ++ h.area)) ++ (w.block ++ h.area)) h w.byte w.table
        w.framed.split
        (family_rest_lem w.kind _ h w.has
        (from_addressed w.kind _ h
        (record {
          block = w.block;
          area = h.area;
          «record» = h.«record»;
          split = refl;
          small = w.framed.small;
          addresses = w.addresses;
          tlvs = w.tlvs;
          says = blocked_of h _ _ refl refl version;
        })))

pub block_same : (f : List ℕ) (h : Header) → block.field.lang f h ↔ Blocked f h
block_same f h = (block_members f h, members_block f h)
