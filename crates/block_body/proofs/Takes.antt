-- Fields of a number of bytes that is known, with what is asked behind them: on fewer bytes the verdict is more, by how many are missing.
use mathlib.Core.Path.{◌≡◌, refl, sym, ap, ◌∙◌}
use mathlib.Core.Bool.{Bool, true, false}
use mathlib.Core.List.{List}
use Prim.Native.Nat.{ℕ, ◌+◌, ◌-◌, ◌≤◌, ◌<◌}
use native.Mathlib.Omega.{arith}
use lib.Dec.{ltb}
use lib.ListN.{length, drop, length-drop}
use lib.Seq.{drop-drop}
use borrow.Author.Tests.{ltb-true, ltb-false}
use Rattle.exact.specs.Claim.{Verdict, accepted, more, AllBytes}
use Rattle.exact.specs.Field.{after, shift}
use Rattle.exact.proofs.MachineLaws.{shift-shift}
pub use Rattle.exact.proofs.Parser.{bytes_of, bytes_drop}

-- ── fields of n bytes ──
module _ {A : Type 0} (v : List ℕ → Verdict A) where
  -- n bytes are wanted, and m behind them
  abbrev pub Short : (n m : ℕ) → Type 0
  Short n m = (t : List ℕ) → AllBytes t → length t < n → v t ≡ more (n - length t + m)

  -- n bytes are taken, and say the value
  abbrev pub Full : ℕ → (List ℕ → A) → Type 0
  Full n value = (t : List ℕ) → AllBytes t → n ≤ length t → v t ≡ accepted (value t) n

  pub record Takes (n m : ℕ) (value : List ℕ → A) : Type 0 where
    pub short : Short n m
    pub full : Full n value

-- a field, and then the one that its value chooses
abbrev pub next : {A B : Type 0} → (List ℕ → Verdict A) → (A → List ℕ → Verdict B) → List ℕ → Verdict B
next v w s = after (v s) w s

module _ {A B : Type 0} (v : List ℕ → Verdict A) (w : A → List ℕ → Verdict B) where
  pub next_short : (n m : ℕ) → Short v n m → Short (next v w) n m
  next_short n m short t b h = ap (λ (x : Verdict A). after x w t) (short t b h)

  module _ (n : ℕ) (value : List ℕ → A) (full : Full v n value) where
    pub next_full : (t : List ℕ) → AllBytes t → n ≤ length t → next v w t ≡ shift n (w (value t) (drop n t))
    next_full t b h = ap (λ (x : Verdict A). after x w t) (full t b h)

    -- at a place of the bytes s
    pub then_at : (s : List ℕ) → AllBytes s → (at : ℕ) → at + n ≤ length s
        → shift at (next v w (drop at s)) ≡ shift (at + n) (w (value (drop at s)) (drop (at + n) s))
    then_at s b at h =
        let left = length-drop at s in
        ap (shift at) (next_full (drop at s) (bytes_drop at s b) (omega arith))
        ∙ shift-shift at n (w (value (drop at s)) (drop n (drop at s)))
        ∙ ap (λ (t : List ℕ). shift (at + n) (w (value (drop at s)) t)) (drop-drop n at s)

  -- v is judged under what the second field asks: k bytes of its own, and m behind them
  pub then_short : (n k m j total : ℕ) (value : List ℕ → A) → Takes v n j value → j ≡ k + m → total ≡ n + k → ((a : A) → Short (w a) k m)
      → Short (next v w) total m
  then_short n k m j total value takes asks sum short t b h = by (ltb (length t) n) refl
    where
      by : (x : Bool) → ltb (length t) n ≡ x → next v w t ≡ more (total - length t + m)
      by true e = let few = ltb-true _ _ e in next_short n j takes.short t b few ∙ ap more (omega arith)
      by false e =
          let long : n ≤ length t = ltb-false _ _ e in
          let left = length-drop n t in
          next_full n value takes.full t b long ∙ ap (shift n) (short (value t) (drop n t) (bytes_drop n t b) (omega arith)) ∙ ap more (omega arith)

-- where the field is not whole at a place; the place lies in the bytes: behind their end `drop` would forget how many are missing
pub short_at : {A : Type 0} (v : List ℕ → Verdict A) (n m : ℕ) → Short v n m → (s : List ℕ) → AllBytes s → (at : ℕ) → at ≤ length s → length s < at + n
    → more (at + n - length s + m) ≡ shift at (v (drop at s))
short_at v n m short s b at inside h =
    let left = length-drop at s in
    ap more (omega arith) ∙ sym (ap (shift at) (short (drop at s) (bytes_drop at s b) (omega arith)))
