-- What the facts about whole headers rest on: how long the parts of a line and of a block are, which record they give, and how a
-- block's first bytes go on.
use Rattle.std.specs.Prelude.{◌≡◌, refl, Bool, false, List, [], ◌∷◌, ◌++◌, ◌⊎◌, ℕ, zero, suc, ◌+◌, ◌-◌, ◌*◌, ◌≤◌, ◌<◌, eqb, ltb, length, get_or, take, drop, replicate, Option, Some, None}
use Rattle.std.proofs.Common.{sym, ap, ap₂, ◌∙◌, subst, inl, inr, ⊎_elim, arith, length-append, drop_of_length-le, length-take-le, take_at, drop_at, eqb-true, ne_eqb, lt-ltb, ltb-true, ltb-false}
use Rattle.std.proofs.Math.ListN.{get_or-append}
use Rattle.std.proofs.Math.Seq.{split_at, take-append-add, take-length, append_snoc}
use Rattle.std.proofs.lemmas.Bool.{lt-leb}
use Rattle.exact.specs.Ascii.{ascii}
use Rattle.exact.specs.Network.{network, number, number_at}
use Rattle.exact.specs.Claim.{Verdict, accepted, more, refused, AllBytes, Live}
use Rattle.exact.specs.Field.{after, shift}
use Rattle.exact.specs.Machine.{Move, done, dead, moved, run}
use Rattle.exact.specs.Pick.{pick, pick_by}
use Rattle.exact.proofs.Parser.{bytes_front}
use Rattle.exact.specs.Byte.{zeros, found, step_byte}
use Rattle.exact.specs.Number.{any}
use Rattle.line_end.specs.Line.{NoEnd}
use Rattle.line_end.proofs.LongLine.{long_more, long_refused}
use Rattle.tlv.specs.Room.{Fillable}
use Rattle.tlv.proofs.Room.{fill}
use Rattle.record.specs.declared.Kind.{Kind}
use Rattle.record.specs.declared.Kind.TheVariants.{Local, Unspecified, Ip4, Ip6, Unix}
use Rattle.record.specs.declared.Record.{Record}
use Rattle.record.specs.Kinds.{family, address_length, block_length}
use Rattle.record.specs.Records.{held, record_of, bare, PortFits, Plain}
use Rattle.record.proofs.RecordLaws.{absent_fits}
use Rattle.header.specs.Line.{group_bytes, TcpLine, Line}
use Rattle.header.specs.Block.{signature, LOCAL, PROXY, Framed, HasAddresses, port_bytes, Addresses, Block}
use Rattle.header.specs.Header.{Header, Whole, place_number, block_number, line_number, parts_ended}
use Rattle.header.specs.Demand.{Judges}
use Rattle.fields.specs.LineFields.{lined, rest_field}
use Rattle.fields.proofs.BlockMembers.{addresses_length}
use Rattle.fields.specs.Lengths.{fits}
use Rattle.fields.specs.BlockFields.{blocked, block_small}
use Rattle.fields.proofs.BlockFields.{skipped, addressed, family_rest}
use Rattle.fields.proofs.HeaderVerdict.{verdict}
use Rattle.fields.proofs.Exactness.{judges, bytes_enough}

pub by_verdict : (v : Verdict Header) (s : List ℕ) → verdict s ≡ v → Judges v s
by_verdict v s e = subst (λ (w : Verdict Header). Judges w s) e (judges s)

-- ── lengths ──
-- the length in bytes 14 and 15 is the block's, and the header has 16 bytes more
pub framed_length : (c b : ℕ) (block f : List ℕ) → Framed c b block f
    → (number_at f 14 ≡ length block) × (length f ≡ 16 + length block) × (length block < 65536)
framed_length c b block f w = (rw w.split (omega arith), rw w.split (omega arith), w.small)

tcp_least : (word : List ℕ) (kind : Kind) (Address : List ℕ → List ℕ → Type 0) (f : List ℕ) (r : Record) → TcpLine word kind Address f r
    → length word + 12 ≤ length f
tcp_least word kind Address f r l = rw l.split (simp length-append (omega arith))

-- the shortest header is "PROXY UNKNOWN" CR LF
pub line_least : (f : List ℕ) (r : Record) → Line f r → 15 ≤ length f
line_least f r (inl l) =
    ⊎_elim (λ e. rw e (omega arith)) (λ w. rw (w.split, w.end.split) (simp length-append (omega arith))) l.0
line_least f r (inr (inl l)) = let h = tcp_least _ _ _ f r l in omega arith
line_least f r (inr (inr l)) = let h = tcp_least _ _ _ f r l in omega arith

-- a block has 16 bytes and as many as the length in bytes 14 and 15 says
pub block_bounds : (f : List ℕ) (r : Record) (area : List ℕ) → Block f r area
    → (length f ≡ 16 + number_at f 14) × (length f ≤ 65551)
block_bounds f r area (inl w) = let h = framed_length _ _ _ f w.0.framed in omega arith
block_bounds f r area (inr (inl w)) = let h = framed_length _ _ _ f w.0.framed in omega arith
block_bounds f r area (inr (inr w)) = let h = framed_length _ _ _ f w.framed in omega arith

pub header_least : (f : List ℕ) (h : Header) → Whole f h → 15 ≤ length f
header_least f h (inl w) = line_least f h.«record» w.0
header_least f h (inr w) = let b = block_bounds f h.«record» h.area w.0 in omega arith

-- ── the record ──
abbrev Kept : Record → Type 0
Kept r = Plain r × (length r.source ≡ 108) × (length r.destination ≡ 108)

address_fits : (k : Kind) → address_length k ≤ 108
address_fits Local = omega arith
address_fits Unspecified = omega arith
address_fits (Ip4 t) = omega arith
address_fits (Ip6 t) = omega arith
address_fits (Unix t) = omega arith

module _ (k : Kind) (a : List ℕ) (size : length a ≡ address_length k) where
  held_zeros : drop (address_length k) (held a) ≡ replicate (108 - address_length k) 0
  held_zeros = drop_at a (replicate (108 - length a) 0) (address_length k) size ∙ ap (λ (n : ℕ). replicate (108 - n) 0) size

  held_size : length (held a) ≡ 108
  held_size =
      let h = address_fits k in
      let z = (zeros (108 - length a)).size in
      simp length-append (omega arith)

pub kept : (k : Kind) (from to : List ℕ) (p q : ℕ) → length from ≡ address_length k → length to ≡ address_length k → PortFits k p → PortFits k q
    → Kept (record_of k from to p q)
kept k from to p q a b c d = (
  record {
    clean = record {
      source = held_zeros k from a;
      destination = held_zeros k to b;
      source_port = c;
      destination_port = d;
      checksum = absent_fits k;
    };
    absent = refl;
  },
  held_size k from a,
  held_size k to b,
)

pub tcp_kept : (word : List ℕ) (k : Kind) (Address : List ℕ → List ℕ → Type 0) → ((t a : List ℕ) → Address t a → length a ≡ address_length k)
    → ((p : ℕ) → p < 65536 → PortFits k p) → (f : List ℕ) (r : Record) → TcpLine word k Address f r → Kept r
tcp_kept word k Address size port f r l =
    let p = l.whole_source_port.fits in
    let q = l.whole_destination_port.fits in
    rw l.says
    (kept k l.from l.to l.p l.q (size _ _ l.whole_source) (size _ _ l.whole_destination) (port _ (omega arith)) (port _ (omega arith)))

pub group_bytes_lem : (gs : List ℕ) → length (group_bytes gs) ≡ 2 * length gs
group_bytes_lem [] = refl
group_bytes_lem (g ∷ gs) = let e = group_bytes_lem gs in omega arith

-- ── behind "PROXY UNKNOWN ", 92 bytes without an end ──
pub unknown_verdict : (body : List ℕ) (v : Verdict ℕ) → rest_field.verdict body ≡ v
    → verdict (ascii "PROXY UNKNOWN " ++ body) ≡ shift 6 (shift 7 (shift 1 (after v (λ y r. accepted (lined (bare Unspecified)) 0) body)))
unknown_verdict body v e = ap (λ (w : Verdict ℕ). shift 6 (shift 7 (shift 1 (after w (λ y r. accepted (lined (bare Unspecified)) 0) body)))) e

module _ (body : List ℕ) (bytes : AllBytes body) (None : NoEnd body) (size : length body ≡ 92) where
  abbrev front : List ℕ
  front = take 91 body

  abbrev last : ℕ
  last = get_or body 91 0

  front_size : length front ≡ 91
  front_size = length-take-le 91 body (omega arith)

  body_split : body ≡ front ++ last ∷ []
  body_split =
      split_at body 91 0 (omega arith) ∙ ap (λ (r : List ℕ). front ++ last ∷ r) (drop_of_length-le body {i = 92} (omega arith))

  front_bytes : AllBytes front
  front_bytes = bytes_front front (last ∷ []) (subst AllBytes body_split bytes)

  pub rest_more : last ≡ 13 → rest_field.verdict body ≡ more 1
  rest_more e =
      let here : body ≡ front ++ 13 ∷ [] = body_split ∙ ap (λ (c : ℕ). front ++ c ∷ []) e in
      let h = front_size in
      ap rest_field.verdict here ∙ long_more 5 0 93 front front_bytes (subst NoEnd here None) (omega arith)

  pub rest_refused : (last ≡ 13 → ⊥) → rest_field.verdict body ≡ refused 5 91
  rest_refused other =
      let h = front_size in
      ap rest_field.verdict body_split
      ∙ long_refused 5 0 93 front front_bytes last [] (subst NoEnd body_split None) (omega arith) other
      ∙ ap (refused 5) front_size

-- ── the places that are numbered 7 and 8: byte 13, and bytes 14 and 15 of a block ──
abbrev Located : ℕ → ℕ → Type 0
Located n k = (7 ≡ k → n ≡ 13) × (8 ≡ k → (14 ≤ n) × (n ≤ 15))

block_located : (n : ℕ) → Located n (block_number n)
block_located n =
    pick_by (Located n) (ltb n 12) (λ t. (λ e. omega arith, λ e. omega arith))
    (λ t.
    pick_by (Located n) (ltb n 13) (λ t. (λ e. omega arith, λ e. omega arith))
    (λ low.
    let a = ltb-false n 13 low in
    pick_by (Located n) (ltb n 14) (λ high. (λ e. let b = ltb-true n 14 high in omega arith, λ e. omega arith))
    (λ low.
    let a = ltb-false n 14 low in
    pick_by (Located n) (ltb n 16) (λ high. (λ e. omega arith, λ e. let b = ltb-true n 16 high in omega arith))
    (λ t. (λ e. omega arith, λ e. omega arith)))))

-- a number of a line is from 1 to 5
either_way : (P : ℕ → Type 0) (b : Bool) {m n : ℕ} → P m → P n → P (pick b m n)
either_way P b h k = pick_by P b (λ t. h) (λ t. k)

line_bounds : (u : List ℕ) → (1 ≤ line_number u) × (line_number u ≤ 5)
line_bounds u =
    let P : ℕ → Type 0 = λ (k : ℕ). (1 ≤ k) × (k ≤ 5) in
    let n = parts_ended u in
    either_way P (eqb (get_or u 6 0) 85)
    (either_way P (ltb n 1) (omega arith, omega arith) (either_way P (ltb n 2) (omega arith, omega arith) (omega arith, omega arith)))
    (either_way P (ltb n 1) (omega arith, omega arith)
    (either_way P (ltb n 2) (omega arith, omega arith)
    (either_way P (ltb n 4) (omega arith, omega arith) (either_way P (ltb n 6) (omega arith, omega arith) (omega arith, omega arith)))))

-- a number above 5 is that of a place in a block
above_five : (k : ℕ) (u : List ℕ) → 5 < k → k ≡ place_number u → (get_or u 0 0 ≡ 13) × (k ≡ block_number (length u))
above_five k u over =
    pick_by (λ (m : ℕ). k ≡ m → (get_or u 0 0 ≡ 13) × (k ≡ block_number (length u))) (eqb (get_or u 0 0) 13)
    (λ t e. (eqb-true (get_or u 0 0) 13 t, e)) (λ t e. let h = line_bounds u in absurd (omega arith))

-- every place's number is from 1 to 9
pub place_number_lem : (u : List ℕ) → (1 ≤ place_number u) × (place_number u ≤ 9)
place_number_lem u =
    let P : ℕ → Type 0 = λ (k : ℕ). (1 ≤ k) × (k ≤ 9) in
    let n = length u in
    let line = line_bounds u in
    either_way P (eqb (get_or u 0 0) 13)
    (either_way P (ltb n 12) (omega arith, omega arith)
    (either_way P (ltb n 13) (omega arith, omega arith)
    (either_way P (ltb n 14) (omega arith, omega arith) (either_way P (ltb n 16) (omega arith, omega arith) (omega arith, omega arith)))))
    (line.0, omega arith)

pub number_seven : (u : List ℕ) → 7 ≡ place_number u → (get_or u 0 0 ≡ 13) × (length u ≡ 13)
number_seven u e = let v = above_five 7 u (omega arith) e in (v.0, (block_located (length u)).0 v.1)

pub number_eight : (u : List ℕ) → 8 ≡ place_number u → (get_or u 0 0 ≡ 13) × (14 ≤ length u) × (length u ≤ 15)
number_eight u e = let v = above_five 8 u (omega arith) e in let h = (block_located (length u)).1 v.1 in (v.0, h.0, h.1)

-- ── no high length byte is dead ──
no_port : (k : Kind) → PortFits k 0
no_port Local = refl
no_port Unspecified = refl
no_port (Ip4 t) = omega arith
no_port (Ip6 t) = omega arith
no_port (Unix t) = refl

module _ (k : Kind) where
  abbrev zero_address : List ℕ
  zero_address = replicate (address_length k) 0

  abbrev zero_block : List ℕ
  zero_block = zero_address ++ zero_address ++ port_bytes k 0 ++ port_bytes k 0

  zero_addresses : Addresses k zero_block (record_of k zero_address zero_address 0 0)
  zero_addresses =
      let z = zeros (address_length k) in
      record {
        from = zero_address;
        to = zero_address;
        p = 0;
        q = 0;
        split = refl;
        from_length = z.size;
        to_length = z.size;
        from_bytes = z.bytes;
        to_bytes = z.bytes;
        p_fits = no_port k;
        q_fits = no_port k;
        says = refl;
      }

  -- with the high byte h, a length of this block and of TLVs behind it
  some_length : (h : ℕ) → (l : ℕ) × (l < 256) × (n : ℕ) × Fillable n × (block_length k + n ≡ number h l)
  some_length zero = let a = block_small k in (block_length k, omega arith, 0, inl refl, omega arith)
  some_length (suc m) = let a = block_small k in (0, omega arith, suc m * 256 - block_length k, inr (omega arith), omega arith)

-- the first fourteen bytes of the block f, and h behind them, begin a block
record Onward (f : List ℕ) (h : ℕ) : Type 0 where
  command : ℕ
  byte13 : ℕ
  rest : List ℕ
  split : f ≡ signature ++ command ∷ byte13 ∷ rest
  tail : List ℕ
  says : Header
  whole : Whole (signature ++ command ∷ byte13 ∷ h ∷ tail) says

module _ (f : List ℕ) (h : ℕ) (high : h < 256) where
  -- by a block of the length that has the bytes h and l
  onward_by : (c b l : ℕ) (old new : List ℕ) (says : Header) → Framed c b old f → l < 256 → length new ≡ number h l
      → ((g : List ℕ) → Framed c b new g → Whole g says) → Onward f h
  onward_by c b l old new says framed low size whole =
      let bytes : h ∷ l ∷ [] ≡ network (length new) = ap₂ (λ (x y : ℕ). x ∷ y ∷ []) (omega arith) (omega arith) in
      record {
        command = c;
        byte13 = b;
        rest = network (length old) ++ old;
        split = framed.split;
        tail = l ∷ new;
        says = says;
        whole = whole _ (record { split = ap (λ (t : List ℕ). signature ++ c ∷ b ∷ t ++ new) bytes; small = omega arith });
      }

  onward : (r : Record) (area : List ℕ) → Block f r area → Onward f h
  onward r area (inl w) =
      let b = w.0 in
      let z = zeros (h * 256) in
      onward_by LOCAL b.byte13 0 b.block (replicate (h * 256) 0) (blocked (bare Local) []) b.framed (omega arith)
      (let e = z.size in omega arith)
      (λ g x. inr (inl (record { byte13 = b.byte13; block = _; framed = x; byte = b.byte; bytes = z.bytes }, refl, refl), refl))
  onward r area (inr (inl w)) =
      let b = w.0 in
      let z = zeros (h * 256) in
      onward_by PROXY b.byte13 0 b.block (replicate (h * 256) 0) (blocked (bare Unspecified) []) b.framed (omega arith)
      (let e = z.size in omega arith)
      (λ g x.
      inr (inr (inl (record { byte13 = b.byte13; block = _; framed = x; byte = b.byte; table = b.table; bytes = z.bytes }, refl, refl)), refl))
  onward r area (inr (inr b)) =
      let k = b.kind in
      let x = some_length k h in
      let t = fill x.2 x.3 in
      onward_by PROXY b.byte13 x.0 (b.block ++ area) (zero_block k ++ t.0) (blocked (record_of k (zero_address k) (zero_address k) 0 0) t.0)
      b.framed x.1
      (length-append (zero_block k) t.0 ∙ ap₂ ◌+◌ (addresses_length k (zero_block k) _ (zero_addresses k)) t.1.0 ∙ x.4)
      (λ g y.
      inr (
        inr
            (inr
            (record {
              kind = k;
              byte13 = b.byte13;
              block = zero_block k;
              framed = y;
              byte = b.byte;
              table = b.table;
              has = b.has;
              addresses = zero_addresses k;
              tlvs = t.1.1;
            })),
        refl,
      ))

pub line_first : (f : List ℕ) (r : Record) → Line f r → get_or f 0 0 ≡ 80
line_first f r (inl l) = ⊎_elim (λ e. rw e) (λ w. rw w.split) l.0
line_first f r (inr (inl l)) = rw l.split
line_first f r (inr (inr l)) = rw l.split

pub block_first : (f : List ℕ) (r : Record) (area : List ℕ) → Block f r area → get_or f 0 0 ≡ 13
block_first f r area (inl w) = rw w.0.framed.split
block_first f r area (inr (inl w)) = rw w.0.framed.split
block_first f r area (inr (inr w)) = rw w.framed.split

-- live bytes whose byte 0 tells version 2 begin some block
block_behind : (x : List ℕ) → 0 < length x → length x ≤ 15 → get_or x 0 0 ≡ 13 → Live Whole x
    → (y : List ℕ) × (a : Header) × Block (x ++ y) a.«record» a.area
block_behind x begun few first l =
    let n = l.2 in
    let t = l.0 in
    let long = header_least (take n (x ++ t)) l.3 l.4.1 in
    let whole-size = length-take-le n (x ++ t) l.4.0 in
    let sum : length x + (n - length x) ≡ n = omega arith in
    let here : take n (x ++ t) ≡ x ++ take (n - length x) t = ap (λ (m : ℕ). take m (x ++ t)) (sym sum) ∙ take-append-add x t (n - length x) in
    (take (n - length x) t, l.3, by (take (n - length x) t) l.3 (subst (λ (f : List ℕ). Whole f l.3) here l.4.1))
  where
    by : (y : List ℕ) (a : Header) → Whole (x ++ y) a → Block (x ++ y) a.«record» a.area
    by y a (inl w) =
        let p = line_first (x ++ y) a.«record» w.0 in
        let q = get_or-append x y 0 0 begun in
        absurd (omega arith)
    by y a (inr w) = w.0

pub high_lives : (x : List ℕ) (h : ℕ) → length x ≡ 14 → get_or x 0 0 ≡ 13 → h < 256 → Live Whole x → Live Whole (x ++ h ∷ [])
high_lives x h size first high l =
    let w = block_behind x (omega arith) (omega arith) first l in
    let y = w.0 in
    let o = onward (x ++ y) h high w.1.«record» w.1.area w.2 in
    let same : x ≡ signature ++ o.command ∷ o.byte13 ∷ [] = sym (take_at x y 14 size) ∙ ap (take 14) o.split in
    let all : (x ++ h ∷ []) ++ o.tail ≡ signature ++ o.command ∷ o.byte13 ∷ h ∷ o.tail =
    append_snoc x h o.tail ∙ ap (λ (z : List ℕ). z ++ h ∷ o.tail) same
    in
    bytes_enough (x ++ h ∷ []) o.tail (length ((x ++ h ∷ []) ++ o.tail)) o.says
    (omega arith, rw (take-length ((x ++ h ∷ []) ++ o.tail), all) o.whole)

-- thirteen bytes that begin a block are the signature and a command
pub first_thirteen : (x : List ℕ) → length x ≡ 13 → get_or x 0 0 ≡ 13 → Live Whole x → (x ≡ signature ++ LOCAL ∷ []) ⊎ (x ≡ signature ++ PROXY ∷ [])
first_thirteen x size first l =
    let w = block_behind x (omega arith) (omega arith) first l in by w.0 w.1 w.2
  where
    cut : (c b : ℕ) (block y : List ℕ) → Framed c b block (x ++ y) → x ≡ signature ++ c ∷ []
    cut c b block y framed = sym (take_at x y 13 size) ∙ ap (take 13) framed.split

    by : (y : List ℕ) (a : Header) → Block (x ++ y) a.«record» a.area → (x ≡ signature ++ LOCAL ∷ []) ⊎ (x ≡ signature ++ PROXY ∷ [])
    by y a (inl w) = inl (cut _ _ _ y w.0.framed)
    by y a (inr (inl w)) = inr (cut _ _ _ y w.0.framed)
    by y a (inr (inr w)) = inr (cut _ _ _ y w.framed)

-- ── byte 13 ──
module _ (b : ℕ) (t : List ℕ) (small : b < 256) where
  -- from byte 13 on, under PROXY, by what the table says of it
  abbrev behind_command : Option Kind → Verdict Header
  behind_command None = refused 7 0
  behind_command (Some k) = shift 1 ((family_rest k).verdict t)

  abbrev by_move : Move (Unit {0}) Kind → Verdict Header
  by_move m = after (moved 7 m (run 7 (step_byte family) (λ q. 3) t)) (λ k r. (family_rest k).verdict r) (b ∷ t)

  pub family-verdict : (o : Option Kind) → family b ≡ o → verdict (signature ++ PROXY ∷ b ∷ t) ≡ shift 12 (shift 1 (behind_command o))
  family-verdict o e =
      ap (λ (m : Move (Unit {0}) Kind). shift 12 (shift 1 (by_move m)))
      (ap₂ (λ (x : Bool) (o : Option Kind). pick x (found family o) dead) (lt-ltb b 256 small) e)
      ∙ ap (λ (v : Verdict Header). shift 12 (shift 1 v)) (told o)
    where
      told : (o : Option Kind) → by_move (found family o) ≡ behind_command o
      told None = refl
      told (Some k) = refl

  later : (v : Verdict Header) → refused 7 13 ≡ shift 12 (shift 1 (shift 1 v)) → ⊥
  later (accepted h n) e = let z : ◌≡◌ {A = ℕ} 0 1 = cc in omega arith
  later (more n) e = let z : ◌≡◌ {A = ℕ} 0 1 = cc in omega arith
  later (refused k p) e = let z : 13 ≡ 12 + (1 + (1 + p)) = cc in omega arith

  -- under PROXY refused with 7 only where the table has no row
  pub no_family : (o : Option Kind) → refused 7 13 ≡ shift 12 (shift 1 (behind_command o)) → o ≡ None
  no_family None e = refl
  no_family (Some k) e = absurd (later ((family_rest k).verdict t) e)

  abbrev by_local : Bool → Verdict Header
  by_local x = after (moved 7 (pick x (done b) dead) (run 7 (step_byte any) (λ q. 3) t)) (λ c r. (skipped (bare Local)).verdict r) (b ∷ t)

  -- and under LOCAL never
  pub local_taken : refused 7 13 ≡ verdict (signature ++ LOCAL ∷ b ∷ t) → ⊥
  local_taken e =
      later ((skipped (bare Local)).verdict t) (e ∙ ap (λ (x : Bool). shift 12 (shift 1 (by_local x))) (lt-ltb b 256 small))

-- ── a length that does not fit is refused at its low byte ──
family_addressed : (k : Kind) (s : List ℕ) → HasAddresses k → (family_rest k).verdict s ≡ (addressed k).verdict s
family_addressed Local s has = absurd has
family_addressed Unspecified s has = absurd has
family_addressed (Ip4 t) s has = refl
family_addressed (Ip6 t) s has = refl
family_addressed (Unix t) s has = refl

module _ (k : Kind) (b h l : ℕ) (t : List ℕ) (small : b < 256) (high : h < 256) (low : l < 256)
    (other : number h l ≡ block_length k → ⊥) (few : number h l < block_length k + 3)
  where
    low_refused : (addressed k).verdict (h ∷ l ∷ t) ≡ refused 8 1
    low_refused =
        let unfit : fits (block_length k) (number h l) ≡ false =
        simp (ne_eqb (number h l) (block_length k) other, lt-leb (block_length k + 3) (number h l) few)
        in
        simp (lt-ltb h 256 high, lt-ltb l 256 low, unfit)

    pub length_verdict : family b ≡ Some k → HasAddresses k → verdict (signature ++ PROXY ∷ b ∷ h ∷ l ∷ t) ≡ refused 8 15
    length_verdict table has =
        family-verdict b (h ∷ l ∷ t) small (Some k) table
        ∙ ap (λ (v : Verdict Header). shift 12 (shift 1 (shift 1 v))) (family_addressed k (h ∷ l ∷ t) has ∙ low_refused)
