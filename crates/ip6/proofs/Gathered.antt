-- What the machine has seen where the code holds a partial address: one group more, "::", and the tests that the code makes.
use mathlib.Core.Path.{◌≡◌, refl, sym, ap, ap₂, ◌∙◌}
use mathlib.Core.Bool.{true, false}
use mathlib.Core.List.{List, [], ◌∷◌, ◌++◌}
use Prim.Native.Nat.{ℕ, zero, suc, ◌+◌, ◌-◌, ◌≤◌, ◌<◌}
use native.Mathlib.Numerals.{add-one}
use native.Mathlib.Omega.{arith}
use lib.ListN.{length, take, drop, get_or, get_or-replicate, replicate, set, length-take, length-drop, length-append, length-set, drop_of_length-le}
use lib.Seq.{drop-set-lt, drop-drop, take-suc-set, take-append-le, drop-append-le, get_or-set_other, take_at, take-suc, get_or-drop}
use lib.Dec.{eqb}
use borrow.Author.Tests.{lt-ltb, le-ltb, ne_eqb}
use Rattle.ip6.specs.Machine.{plain, gapped, push, room, least_behind}
use Rattle.colon_part.specs.Part.{least_counted}
use Rattle.exact.specs.Pick.{pick}
use Rattle.ip6.specs.Partial.{Partial, sofar, Sized, seen_at, gathered_of}
use Rattle.ip6.proofs.Spread.{count-length}

-- ── the tests ──
module _ (x : Partial) (h : Sized x) where
  abbrev held : List ℕ
  held = take x.count x.groups

  room_at : (g n : ℕ) (l : List ℕ) → length l ≡ n → g ≤ n → n < 8 → room (seen_at g l) ≡ true
  room_at zero n l e m f = lt-ltb (length l) 8 (omega arith)
  room_at (suc g) n l e m f =
      let a = length-take g l in
      let b = length-drop (suc g) l in
      lt-ltb (length (take g l) + length (drop (suc g) l)) 7 (omega arith)

  full_at : (g n : ℕ) (l : List ℕ) → length l ≡ n → g ≤ n → 8 ≤ n → room (seen_at g l) ≡ false
  full_at zero n l e m f = le-ltb (length l) 8 (omega arith)
  full_at (suc g) n l e m f =
      let a = length-take g l in
      let b = length-drop (suc g) l in
      le-ltb (length (take g l) + length (drop (suc g) l)) 7 (omega arith)

  pub has_room : x.count < 8 → room (gathered_of x) ≡ true
  has_room n = room_at x.gap x.count held (count-length x h) h.within n

  pub is_full : 8 ≤ x.count → room (gathered_of x) ≡ false
  is_full n = full_at x.gap x.count held (count-length x h) h.within n

  -- how few bytes could follow a group is told by the counts
  least_at : (g n : ℕ) (l : List ℕ) → length l ≡ n → least_behind (seen_at g l) ≡ least_counted n g
  least_at zero n l e = ap (λ (k : ℕ). pick (eqb k 8) 1 3) e
  least_at (suc g) n l e = simp (ne_eqb (suc g) 0 (λ z. omega arith))

  pub seen_least : least_behind (gathered_of x) ≡ least_counted x.count x.gap
  seen_least = least_at x.gap x.count held (count-length x h)

  pub none_seen : x.count ≡ 0 → gathered_of x ≡ plain []
  none_seen n = let a = h.within in let e : x.gap ≡ 0 = omega arith in rw (e, n)

-- ── one group more ──
push_at : (g v : ℕ) (l : List ℕ) → g ≤ length l → seen_at g (l ++ v ∷ []) ≡ push (seen_at g l) v
push_at zero v l m = refl
push_at (suc g) v l m = ap₂ gapped (take-append-le g l (v ∷ []) (omega arith)) (drop-append-le (suc g) l (v ∷ []) m)

abbrev pub pushed : Partial → ℕ → Partial
pushed x v = sofar (set x.groups x.count v) (x.count + 1) x.gap

-- "::" counts as the zero that stands there
abbrev pub opened : Partial → Partial
opened x = sofar x.groups (x.count + 1) (x.count + 1)

zeros_less : (m : ℕ) → ◌≡◌ {A = List ℕ} (drop 1 (replicate m 0)) (replicate (m - 1) 0)
zeros_less zero = refl
zeros_less (suc m) = let e : m ≡ suc m - 1 = omega arith in ap (λ (n : ℕ). replicate n 0) e

module _ (x : Partial) (h : Sized x) (room_here : x.count < 8) where
  rest_less : drop (x.count + 1) x.groups ≡ replicate (8 - (x.count + 1)) 0
  rest_less =
      let e : 8 - x.count - 1 ≡ 8 - (x.count + 1) = omega arith in
      sym (drop-drop 1 x.count x.groups)
      ∙ ap (λ (l : List ℕ). drop 1 l) h.rest
      ∙ zeros_less (8 - x.count)
      ∙ ap (λ (n : ℕ). replicate n 0) e

  held_more : (v : ℕ) → take (x.count + 1) (set x.groups x.count v) ≡ take x.count x.groups ++ v ∷ []
  held_more v = let a = h.eight in rw add-one (take-suc-set x.groups x.count v (omega arith))

  module _ (v : ℕ) where
    pub push_seen : gathered_of (pushed x v) ≡ push (gathered_of x) v
    push_seen =
        let a = count-length x h in
        let b = h.within in
        ap (seen_at x.gap) (held_more v) ∙ push_at x.gap v (take x.count x.groups) (omega arith)

    pub push_sized : Sized (pushed x v)
    push_sized =
        record {
          eight = length-set x.groups x.count v ∙ h.eight;
          most = omega arith;
          within = let a = h.within in omega arith;
          rest = drop-set-lt (x.count + 1) x.groups x.count v (omega arith) ∙ rest_less;
          zero_there = λ g e.
              let a = h.within in
              get_or-set_other x.groups x.count g v 0 (λ z. omega arith) ∙ h.zero_there g e;
        }

  zero_next : get_or x.groups x.count 0 ≡ 0
  zero_next =
      let a = h.eight in
      let some : 0 < 8 - x.count = omega arith in
      let at : x.count ≡ x.count + 0 = omega arith in
      ap (λ (n : ℕ). get_or x.groups n 0) at
      ∙ sym (get_or-drop x.count x.groups 0 0)
      ∙ ap (λ (l : List ℕ). get_or l 0 0) h.rest
      ∙ get_or-replicate (8 - x.count) 0 0 0 some

  pub gap_seen : gathered_of (opened x) ≡ gapped (take x.count x.groups) []
  gap_seen =
      let a = count-length x h in
      let b = h.eight in
      let held : List ℕ = take x.count x.groups in
      let more : take (x.count + 1) x.groups ≡ held ++ 0 ∷ [] =
      rw add-one (take-suc x.groups x.count 0 (omega arith) ∙ ap (λ (v : ℕ). held ++ v ∷ []) zero_next)
      in
      ap₂ seen_at (add-one x.count) more
      ∙ ap₂ gapped (take_at held (0 ∷ []) x.count a)
      (drop_of_length-le (held ++ 0 ∷ []) {i = suc x.count} (simp length-append (omega arith)))

  pub gap_sized : Sized (opened x)
  gap_sized =
      record {
        eight = h.eight;
        most = omega arith;
        within = omega arith;
        rest = rest_less;
        zero_there = λ g e. let last : g ≡ x.count = omega arith in rw last zero_next;
      }
