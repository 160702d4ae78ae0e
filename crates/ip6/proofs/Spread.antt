-- What a partial address with "::" stands for, and where an address ends.
use mathlib.Core.Path.{◌≡◌, refl, sym, ap, ap₂, ◌∙◌}
use mathlib.Core.List.{List, [], ◌∷◌, ◌++◌, append_assoc, append-nil}
use Prim.Native.Nat.{ℕ, zero, suc, ◌+◌, ◌-◌, ◌≤◌, ◌<◌}
use native.Mathlib.Omega.{arith}
use lib.ListN.{length, take, drop, get_or, set, replicate, take-append-drop, drop_of_length-le, length-append, length-take, length-drop, length-replicate}
use lib.Seq.{drop-cons, get_or_at, set_at, length-take-le, take_all, take-suc, take-take, get_or-take}
use borrow.Author.Tests.{eq-eqb, ne_eqb}
use Rattle.exact.specs.Machine.{done, dead}
use Rattle.ip6.specs.Partial.{Partial, seen_at, gathered_of, Sized, spread_at, spread}
use Rattle.ip6.specs.Address.{filled}
use Rattle.ip6.specs.Machine.{finish}

zeros_snoc : (m : ℕ) → ◌≡◌ {A = List ℕ} (0 ∷ replicate m 0) (replicate m 0 ++ 0 ∷ [])
zeros_snoc zero = refl
zeros_snoc (suc m) = ap (λ (l : List ℕ). 0 ∷ l) (zeros_snoc m)

-- ── the groups behind "::" move to the end ──
-- one that stands behind A moves behind the zeros
move : (A D : List ℕ) (v j m : ℕ) → length A ≡ j
    → set (set (A ++ v ∷ [] ++ replicate m 0 ++ D) j 0) (j + m) v ≡ A ++ replicate m 0 ++ v ∷ D
move A D v j m n =
    let here : A ++ v ∷ [] ++ replicate m 0 ++ D ≡ A ++ v ∷ (replicate m 0 ++ D) = simp append_assoc in
    let zeros : 0 ∷ (replicate m 0 ++ D) ≡ replicate m 0 ++ 0 ∷ D =
    ap (λ (l : List ℕ). l ++ D) (zeros_snoc m) ∙ append_assoc (replicate m 0) (0 ∷ []) D
    in
    let cleared : set (A ++ v ∷ [] ++ replicate m 0 ++ D) j 0 ≡ A ++ replicate m 0 ++ 0 ∷ D =
    ap (λ (l : List ℕ). set l j 0) here ∙ set_at A v (replicate m 0 ++ D) 0 j n ∙ ap (λ (l : List ℕ). A ++ l) zeros
    ∙ sym (append_assoc A (replicate m 0) (0 ∷ D))
    in
    ap (λ (l : List ℕ). set l (j + m) v) cleared
    ∙ set_at (A ++ replicate m 0) 0 D v (j + m) (simp (length-append, length-replicate) (omega arith))

module _ (groups : List ℕ) (n : ℕ) (size : length groups ≡ 8) (most : n ≤ 8) where
  held_length : length (take n groups) ≡ n
  held_length = length-take-le n groups (omega arith)

  -- with the groups as they are, the zeros stand last
  pub spread_none : drop n groups ≡ replicate (8 - n) 0 → groups ≡ spread_at groups n n
  spread_none rest =
      let none : drop n (take n groups) ≡ [] = drop_of_length-le (take n groups) {i = n} (let all = held_length in omega arith) in
      sym (take-append-drop n groups) ∙ ap (λ (l : List ℕ). take n groups ++ l) rest ∙ sym (append-nil (take n groups ++ replicate (8 - n) 0))
      ∙ ap (λ (l : List ℕ). take n groups ++ replicate (8 - n) 0 ++ l) (sym none)

  -- the group at j moves behind the zeros
  module _ (j : ℕ) (m : j < n) where
    abbrev rest : List ℕ
    rest = drop (suc j) (take n groups)

    front : length (take j groups) ≡ j
    front = length-take-le j groups (omega arith)

    opened : spread_at groups n (suc j) ≡ take j groups ++ get_or groups j 0 ∷ [] ++ replicate (8 - n) 0 ++ rest
    opened = ap (λ (l : List ℕ). l ++ replicate (8 - n) 0 ++ rest) (take-suc groups j 0 (omega arith))

    last : get_or (spread_at groups n (suc j)) j 0 ≡ get_or groups j 0
    last =
        let here : spread_at groups n (suc j) ≡ take j groups ++ get_or groups j 0 ∷ (replicate (8 - n) 0 ++ rest) = opened ∙ simp append_assoc in
        ap (λ (l : List ℕ). get_or l j 0) here
        ∙ get_or_at (take j groups) (get_or groups j 0) (replicate (8 - n) 0 ++ rest) 0 j front

    behind : get_or groups j 0 ∷ rest ≡ drop j (take n groups)
    behind =
        let all = held_length in
        sym (drop-cons (take n groups) j 0 (omega arith) ∙ ap (λ (v : ℕ). v ∷ rest) (get_or-take n groups j 0 m))

    move_suc : set (set (spread_at groups n (suc j)) j 0) (j + (8 - n)) (get_or (spread_at groups n (suc j)) j 0) ≡ spread_at groups n j
    move_suc =
        ap₂ (λ (l : List ℕ) (v : ℕ). set (set l j 0) (j + (8 - n)) v) opened last
        ∙ move (take j groups) rest (get_or groups j 0) j (8 - n) front
        ∙ ap (λ (l : List ℕ). take j groups ++ replicate (8 - n) 0 ++ l) behind

  pub spread_move : (l : List ℕ) (i : ℕ) → 0 < i → i ≤ n → l ≡ spread_at groups n i
      → set (set l (i - 1) 0) (i - 1 + (8 - n)) (get_or l (i - 1) 0) ≡ spread_at groups n (i - 1)
  spread_move l i some m e =
      let next : i ≡ suc (i - 1) = omega arith in
      let at : l ≡ spread_at groups n (suc (i - 1)) = e ∙ ap (λ (k : ℕ). spread_at groups n k) next in
      ap (λ (k : List ℕ). set (set k (i - 1) 0) (i - 1 + (8 - n)) (get_or k (i - 1) 0)) at ∙ move_suc (i - 1) (omega arith)

-- ── where an address ends ──
module _ (x : Partial) (h : Sized x) where
  pub count-length : length (take x.count x.groups) ≡ x.count
  count-length = held_length x.groups x.count h.eight h.most

  pub finish_full : x.gap ≡ 0 → x.count ≡ 8 → finish (gathered_of x) ≡ done x.groups
  finish_full g n =
      let e : take x.count x.groups ≡ x.groups = take_all x.count x.groups (let a = h.eight in omega arith) in
      rw (g, e) (simp (eq-eqb (length x.groups) 8 h.eight))

  pub finish_few : x.gap ≡ 0 → (x.count ≡ 8 → ⊥) → finish (gathered_of x) ≡ dead
  finish_few g n =
      let e = count-length in
      rw g (simp (ne_eqb (length (take x.count x.groups)) 8 (λ z. n (omega arith))))

  spread-filled : (g : ℕ) → x.gap ≡ suc g
      → filled (take g (take x.count x.groups)) (drop (suc g) (take x.count x.groups)) ≡ spread x
  spread-filled g e =
      let a = h.eight in
      let b = h.most in
      let c = h.within in
      let n = count-length in
      let left : take g (take x.count x.groups) ≡ take g x.groups = take-take g x.count x.groups (omega arith) in
      let last : take (suc g) x.groups ≡ take g x.groups ++ 0 ∷ [] =
      take-suc x.groups g 0 (omega arith) ∙ ap (λ (v : ℕ). take g x.groups ++ v ∷ []) (h.zero_there g e)
      in
      let zeros : 8 - (length (take g (take x.count x.groups)) + length (drop (suc g) (take x.count x.groups))) ≡ suc (8 - x.count) =
      let p = length-take g (take x.count x.groups) in
      let q = length-drop (suc g) (take x.count x.groups) in
      omega arith
      in
      rw (zeros, left, e, last) (simp append_assoc)

  pub finish_gapped : (x.gap ≡ 0 → ⊥) → finish (gathered_of x) ≡ done (spread x)
  finish_gapped some = by x.gap refl
    where
      by : (g : ℕ) → x.gap ≡ g → finish (gathered_of x) ≡ done (spread x)
      by zero e = absurd (some e)
      by (suc g) e = ap (λ (n : ℕ). finish (seen_at n (take x.count x.groups))) e ∙ ap done (spread-filled g e)
