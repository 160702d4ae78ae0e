-- The verdicts of the leaves of a block on bytes, by the tests that the code makes.
use Rattle.std.specs.Prelude.{Option, Some, None}
use mathlib.Core.Path.{◌≡◌, refl, ap, ◌∙◌}
use mathlib.Core.Bool.{Bool, true, false}
use mathlib.Core.List.{List, [], ◌∷◌}
use Prim.Native.Nat.{ℕ, zero, suc, ◌+◌, ◌-◌, ◌≤◌, ◌<◌}
use native.Mathlib.Omega.{arith}
use lib.Dec.{eqb, leb}
use lib.ListN.{length, take, drop, get_or}
use borrow.Author.Tests.{eqb-true, leb-true, lt-ltb}
use Rattle.exact.specs.Claim.{Verdict, accepted, more, refused, AllBytes}
use Rattle.exact.specs.Field.{shift, flat}
use Rattle.exact.specs.Machine.{Move, dead, run, moved}
use Rattle.exact.proofs.ParserLemmas.{just}
use Rattle.exact.specs.Parser.{spell}
use Rattle.exact.specs.Pick.{pick}
use Rattle.exact.specs.Byte.{step_byte, found, step_count, counted, least_count, count_verdict}
use Rattle.exact.specs.Network.{number_at}
use Rattle.exact.specs.Number.{any, low}
use Rattle.tlv.specs.RegionVerdict.{judge, step, least_region, type_byte}
use Rattle.record.specs.declared.Kind.{Kind}
use Rattle.record.specs.declared.Kind.TheVariants.{Local, Unspecified, Ip4, Ip6, Unix}
use Rattle.record.specs.Kinds.{port_length}
use Rattle.fields.specs.Lengths.{fits}
use Rattle.fields.specs.BlockFields.{always, port, area, tlvs}
use Rattle.block_body.proofs.Parts.{port_at}
use Rattle.block_body.proofs.Takes.{Short, Full, Takes, next, next_full}

-- ── no bytes ──
pub takes_none : {A : Type 0} (a : A) (m : ℕ) → Takes (λ t. accepted a 0) 0 m (λ t. a)
takes_none a m = record { short = λ t b h. absurd (omega arith); full = λ t b h. refl }

-- ── one byte, whose value the table gives ──
module _ {A : Type 0} (table : ℕ → Option A) (k least : ℕ) where
  abbrev byte : List ℕ → Verdict A
  byte t = run k (step_byte table) (λ q. least) t tt

  -- where the table says o of the first byte
  pub byte_full : (o : Option A) (t : List ℕ) → AllBytes t → 1 ≤ length t → table (get_or t 0 0) ≡ o
      → byte t ≡ moved k (found table o) (run k (step_byte table) (λ q. least) (drop 1 t))
  byte_full o [] b h e = absurd (omega arith)
  byte_full o (c ∷ t) b h e =
      let step : step_byte table tt c ≡ found table o = simp (lt-ltb c 256 b.0, e) in
      ap (λ (m : Move (Unit {0}) A). moved k m (run k (step_byte table) (λ q. least) t)) step

pub any_full : (k least : ℕ) → Full (byte any k least) 1 (λ t. get_or t 0 0)
any_full k least t b h = byte_full any k least (Some (get_or t 0 0)) t b h refl

-- ── a number that keeps a rule, with what is asked before its first byte and behind each high byte ──
module _ (good : ℕ → Bool) (k first : ℕ) (second : ℕ → ℕ) where
  abbrev low_byte : ℕ → List ℕ → Verdict ℕ
  low_byte h = byte (low good h) k (second h)

  abbrev number : List ℕ → Verdict ℕ
  number = next (byte any k first) low_byte

  pub number_one : (h : ℕ) → h < 256 → number (h ∷ []) ≡ more (second h)
  number_one h small = next_full _ low_byte 1 _ (any_full k first) (h ∷ []) (small, tt) (omega arith)

  last : (x : Bool) (h n : ℕ) (rest : Unit {0} → Verdict ℕ)
      → shift 1 (moved k (found (low good h) (pick x (Some n) None)) rest) ≡ pick x (accepted n 2) (refused k 1)
  last true h n rest = refl
  last false h n rest = refl

  -- where the rule says x of the number
  pub number_full : (x : Bool) (t : List ℕ) → AllBytes t → 2 ≤ length t → good (number_at t 0) ≡ x
      → number t ≡ pick x (accepted (number_at t 0) 2) (refused k 1)
  number_full x [] b h g = absurd (omega arith)
  number_full x (c ∷ []) b h g = absurd (omega arith)
  number_full x (c ∷ d ∷ t) b h g =
      next_full _ low_byte 1 _ (any_full k first) (c ∷ d ∷ t) b (omega arith)
      ∙ ap (shift 1) (byte_full (low good c) k (second c) (pick x (Some (number_at (c ∷ d ∷ t) 0)) None) (d ∷ t) b.1 (omega arith) (simp g))
      ∙ last x c (number_at (c ∷ d ∷ t) 0) _

pub any_number : (k first : ℕ) (second : ℕ → ℕ) → Full (number always k first second) 2 (λ t. number_at t 0)
any_number k first second t b h = number_full always k first second true t b h refl

-- two bytes, and m behind them
number_short : (k m : ℕ) → Short (number always k (suc (suc m)) (λ h. suc m)) 2 m
number_short k m [] b h = ap more (omega arith)
number_short k m (c ∷ []) b h = number_one always k (suc (suc m)) (λ h. suc m) c b.0 ∙ ap more (omega arith)
number_short k m (c ∷ d ∷ t) b h = absurd (omega arith)

pub takes_port : (m : ℕ) (kind : Kind) → Takes (port m kind).verdict (port_length kind) m (port_at (port_length kind))
takes_port m Local = takes_none 0 m
takes_port m Unspecified = takes_none 0 m
takes_port m (Ip4 t) = record { short = number_short 9 m; full = any_number 9 (suc (suc m)) (λ h. suc m) }
takes_port m (Ip6 t) = record { short = number_short 9 m; full = any_number 9 (suc (suc m)) (λ h. suc m) }
takes_port m (Unix t) = takes_none 0 m

-- ── n bytes of any values ──
module _ (k r : ℕ) where
  abbrev counts : List ℕ → ℕ → Verdict ℕ
  counts = run k step_count (least_count r)

  count_go : (m c : ℕ) (t : List ℕ) → c < 256 → counts (c ∷ t) m ≡ moved k (counted m) (counts t)
  count_go m c t small = ap (λ (x : Bool). moved k (pick x (counted m) dead) (counts t)) (lt-ltb c 256 small)

  count_short : (m : ℕ) (t : List ℕ) → AllBytes t → length t < suc m → counts t m ≡ more (suc m - length t + r)
  count_short m [] b h = ap more (omega arith)
  count_short zero (c ∷ t) b h = absurd (omega arith)
  count_short (suc m) (c ∷ t) b h =
      count_go (suc m) c t b.0 ∙ ap (shift 1) (count_short m t b.1 (omega arith)) ∙ ap more (omega arith)

  count_full : (m : ℕ) (t : List ℕ) → AllBytes t → suc m ≤ length t → counts t m ≡ accepted 0 (suc m)
  count_full m [] b h = absurd (omega arith)
  count_full zero (c ∷ t) b h = count_go zero c t b.0
  count_full (suc m) (c ∷ t) b h =
      let sum : 1 + suc m ≡ suc (suc m) = omega arith in
      count_go (suc m) c t b.0 ∙ ap (shift 1) (count_full m t b.1 (omega arith)) ∙ ap (λ (n : ℕ). accepted 0 n) sum

  pub takes_count : (n : ℕ) → Takes (count_verdict k r n) n r (λ t. 0)
  takes_count zero = takes_none 0 r
  takes_count (suc m) = record { short = count_short m; full = count_full m }

-- ── the text of a field ──
pub takes_spelled : {A : Type 0} (v : List ℕ → Verdict A) (n m : ℕ) (value : List ℕ → A) → Takes v n m value → Takes (λ t. spell (v t) t) n m (take n)
takes_spelled {A} v n m value takes =
    record {
      short = λ t b h. ap (λ (x : Verdict A). spell x t) (takes.short t b h);
      full = λ t b h. ap (λ (x : Verdict A). spell x t) (takes.full t b h);
    }

-- ── the TLVs behind an address block of a bytes, where the length n fits ──
module _ (a n : ℕ) (t : List ℕ) where
  pub area_judged : fits a n ≡ true → (area a n).verdict t ≡ spell (judge 9 0 (n - a) t) t
  area_judged f = by (eqb n a) refl f
    where
      by : (x : Bool) → eqb n a ≡ x → pick x true (leb (a + 3) n) ≡ true
          → (pick x (just (flat 0) []) (tlvs (n - (a + 3)))).verdict t ≡ spell (judge 9 0 (n - a) t) t
      by true e g =
          let same : n ≡ a = eqb-true n a e in
          let none_left : 0 ≡ n - a = omega arith in
          ap (λ (j : ℕ). spell (judge 9 0 j t) t) none_left
      by false e g =
          let high : a + 3 ≤ n = leb-true (a + 3) n g in
          let sum : 3 + (n - (a + 3)) ≡ suc (2 + (n - (a + 3))) = omega arith in
          let left : suc (2 + (n - (a + 3))) ≡ n - a = omega arith in
          ap (λ (j : ℕ). spell (run 9 step (least_region 0) t (type_byte j)) t) sum ∙ ap (λ (j : ℕ). spell (judge 9 0 j t) t) left
