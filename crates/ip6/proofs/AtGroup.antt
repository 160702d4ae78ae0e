-- What `group` may answer, by its tests on the byte at place i, where the machine stands in a group.
use mathlib.Core.Path.{◌≡◌, sym, ap, ◌∙◌, subst}
use mathlib.Core.Bool.{Bool}
use mathlib.Core.List.{List}
use Prim.Native.Nat.{ℕ, zero, suc, ◌+◌, ◌*◌, ◌^◌, ◌≤◌, ◌<◌}
use native.Mathlib.Numerals.{add-one}
use native.Mathlib.Omega.{arith}
use lib.Dec.{eqb}
use lib.ListN.{length, get_or}
use borrow.Author.Tests.{lt-ltb, le-ltb, eq-eqb, ne_eqb}
use Rattle.exact.specs.Machine.{dead}
use Rattle.exact.specs.declared.Scan.{Scan}
use Rattle.exact.specs.declared.Scan.TheVariants.{More, Refused}
use Rattle.exact.specs.Pick.{pick, pick_by}
use Rattle.colon_part.specs.Part.{least_counted}
use Rattle.hex_digits.specs.Hex.{hex_of}
use Rattle.ip6.specs.Machine.{Gathered, push, digits, behind, least_behind, least_digit, inside, follow}
use Rattle.ip6.specs.Steps.{inside_digit, inside-follow}
use Rattle.ip6.specs.Partial.{Partial, Sized, gathered_of}
use Rattle.ip6.specs.Answer.{From}
use Rattle.ip6.proofs.Gathered.{pushed, push_seen, push_sized, seen_least}
use Rattle.ip6.proofs.Turn.{wants, refuses, passes, likewise}

-- ── four digits make a number of 16 bits ──
pub digits_fit : (n v : ℕ) → v < 16 ^ n → n < 4 → v < 4096
digits_fit zero v h few = omega arith
digits_fit (suc zero) v h few = omega arith
digits_fit (suc (suc zero)) v h few = omega arith
digits_fit (suc (suc (suc zero))) v h few = omega arith
digits_fit (suc (suc (suc (suc n)))) v h few = absurd (omega arith)

pub digits_more : (n v d : ℕ) → v < 16 ^ n → d < 16 → v * 16 + d < 16 ^ (n + 1)
digits_more n v d h k = rw add-one (omega arith)

pub counted_most : (count gap : ℕ) → least_counted count gap ≤ 3
counted_most count gap =
    pick_by (λ (n : ℕ). n ≤ 3) (eqb gap 0) (λ t. pick_by (λ (n : ℕ). n ≤ 3) (eqb count 8) (λ e. omega arith) (λ e. omega arith)) (λ t. omega arith)

-- ── the answers ──
inside_none : (end c : ℕ) (p : Gathered) (n v : ℕ) → hex_of c ≡ 16 → n ≡ 0 → inside end p n v c ≡ dead
inside_none end c p n v a z = simp (le-ltb (hex_of c) 16 (omega arith), eq-eqb n 0 z)

inside_long : (end c : ℕ) (p : Gathered) (n v : ℕ) → hex_of c < 16 → n ≡ 4 → inside end p n v c ≡ dead
inside_long end c p n v a z = simp (lt-ltb (hex_of c) 16 a, le-ltb n 4 (omega arith))

module _ {end : ℕ} {s : List ℕ} {i : ℕ} {g : List ℕ} where
  -- no digit
  pub group_none : {p : Gathered} {n v : ℕ} → i < length s → hex_of (get_or s i 0) ≡ 16 → n ≡ 0 → From end s i (digits p n v) (Refused i) g
  group_none {p} {n} {v} h a z = refuses h (inside_none end (get_or s i 0) p n v a z)

  -- a fifth digit
  pub group_long : {p : Gathered} {n v : ℕ} → i < length s → hex_of (get_or s i 0) < 16 → n ≡ 4 → From end s i (digits p n v) (Refused i) g
  group_long {p} {n} {v} h a z = refuses h (inside_long end (get_or s i 0) p n v a z)

  -- one digit more
  pub group_digit : {p : Gathered} {n v : ℕ} {t : Scan (Unit {0})} → i < length s → hex_of (get_or s i 0) < 16 → n < 4
      → From end s (i + 1) (digits p (n + 1) (v * 16 + hex_of (get_or s i 0))) t g → From end s i (digits p n v) t g
  group_digit {p} {n} {v} h a few f = passes h (inside_digit end p n v (get_or s i 0) a few) f

  -- the group has ended
  pub group_ends : {x : Partial} {n v : ℕ} {t : Scan (Unit {0})} → Sized x → x.count < 8 → i < length s → hex_of (get_or s i 0) ≡ 16 → (n ≡ 0 → ⊥)
      → From end s i (behind (gathered_of (pushed x v))) t g → From end s i (digits (gathered_of x) n v) t g
  group_ends {x} {n} {v} sized few h a some f =
      likewise h
      (inside-follow end (gathered_of x) n v (get_or s i 0) (λ d. omega arith) some
      ∙ ap (λ (q : Gathered). follow end q (get_or s i 0)) (sym (push_seen x sized few v)))
      f

  -- no byte more: a digit where none has come, and what may follow the group
  module _ {x : Partial} (sized : Sized x) (few : x.count < 8) (ends-here : length s ≤ i) {n v m : ℕ} (counted : m ≡ least_counted (x.count + 1) x.gap) where
    group_wants : {d : ℕ} → least_digit n ≡ d → From end s i (digits (gathered_of x) n v) (More (d + m)) g
    group_wants {d} e =
        let behind_it : m ≡ least_behind (push (gathered_of x) 0) =
        counted ∙ sym (seen_least (pushed x 0) (push_sized x sized few 0)) ∙ ap least_behind (push_seen x sized few 0)
        in
        wants (omega arith) ends-here

    pub group_begins : n ≡ 0 → From end s i (digits (gathered_of x) n v) (More (m + 1)) g
    group_begins z =
        subst (λ (j : ℕ). From end s i (digits (gathered_of x) n v) (More j) g) (omega arith)
        (group_wants (ap (λ (b : Bool). pick b 1 0) (eq-eqb n 0 z)))

    pub group_goes_on : (n ≡ 0 → ⊥) → From end s i (digits (gathered_of x) n v) (More m) g
    group_goes_on some =
        subst (λ (j : ℕ). From end s i (digits (gathered_of x) n v) (More j) g) (omega arith)
        (group_wants (ap (λ (b : Bool). pick b 1 0) (ne_eqb n 0 some)))
