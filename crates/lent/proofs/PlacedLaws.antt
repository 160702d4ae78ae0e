-- Bytes put one behind the other are put as one.
use Rattle.std.specs.Prelude.{◌≡◌, List, ◌++◌, ℕ, ◌+◌, ◌≤◌, ◌<◌, length, take, drop}
use Rattle.std.proofs.Common.{sym, ap, ap₂, ◌∙◌, append_assoc, arith, le-leb, length-append, length-drop, length-take-le, take_at, drop_at, drop-drop}
use Rattle.std.proofs.lemmas.Bool.{lt-leb}
use Rattle.std.proofs.lemmas.List.{drop-append-le}
use Rattle.std.proofs.Math.Seq.{paste, take-length}
use Rattle.std.proofs.lemmas.List.Edits.{length-paste}
use Rattle.lent.specs.Placed.{placed}

pub placed_else : (a : List ℕ) (at : ℕ) (d : List ℕ) → length d < at + length a → placed a at d ≡ d
placed_else a at d h = rw (lt-leb (at + length a) (length d) h)

module _ (a : List ℕ) (at : ℕ) (d : List ℕ) (h : at + length a ≤ length d) where
  pub placed_fits : placed a at d ≡ take at d ++ a ++ drop (at + length a) d
  placed_fits = rw (le-leb (at + length a) (length d) h)

  -- a copy of all bytes
  pub placed-paste : placed a at d ≡ paste d at a (length a)
  placed-paste = placed_fits ∙ ap (λ (b : List ℕ). take at d ++ b ++ drop (at + length a) d) (sym (take-length a))

  pub placed-length : length (placed a at d) ≡ length d
  placed-length = ap length placed-paste ∙ length-paste d at a (length a) h (omega arith)

  front_length : length (take at d ++ a) ≡ at + length a
  front_length = length-append (take at d) a ∙ ap (λ (n : ℕ). n + length a) (length-take-le at d (omega arith))

  before : take (at + length a) (placed a at d) ≡ take at d ++ a
  before = ap (take (at + length a)) placed_fits ∙ take_at (take at d ++ a) (drop (at + length a) d) (at + length a) front_length

  behind : (n : ℕ) → drop (at + length a + n) (placed a at d) ≡ drop (at + length a + n) d
  behind n =
      sym (drop-drop n (at + length a) (placed a at d))
      ∙ ap (λ (r : List ℕ). drop n (drop (at + length a) r)) placed_fits
      ∙ ap (drop n) (drop_at (take at d ++ a) (drop (at + length a) d) (at + length a) front_length)
      ∙ drop-drop n (at + length a) d

pub placed_next : (a b : List ℕ) (at : ℕ) (d : List ℕ) → at + length a + length b ≤ length d
    → placed b (at + length a) (placed a at d) ≡ placed (a ++ b) at d
placed_next a b at d h =
    let fits : at + length a ≤ length d = omega arith in
    let l = placed-length a at d fits in
    let size : at + length (a ++ b) ≡ at + length a + length b = let e = length-append a b in omega arith in
    placed_fits b (at + length a) (placed a at d) (omega arith)
    ∙ ap₂ (λ (x y : List ℕ). x ++ b ++ y) (before a at d fits) (behind a at d fits (length b))
    ∙ ap₂ (λ (x : List ℕ) (n : ℕ). x ++ drop n d) (append_assoc (take at d) a b) (sym size)
    ∙ sym (placed_fits (a ++ b) at d (omega arith))

-- the same, of a buffer's states one after the other
pub placed_then : (a b d d₁ d₂ : List ℕ) (at next : ℕ) → d₁ ≡ placed a at d → d₂ ≡ placed b next d₁ → next ≡ at + length a
    → at + length a + length b ≤ length d → d₂ ≡ placed (a ++ b) at d
placed_then a b d d₁ d₂ at next e₁ e₂ here h =
    e₂ ∙ ap₂ (λ (n : ℕ) (l : List ℕ). placed b n l) here e₁ ∙ placed_next a b at d h

pub placed_front : (a d : List ℕ) → length a ≤ length d → placed a 0 d ≡ a ++ drop (length a) d
placed_front a d h =
    let e : 0 + length a ≡ length a = omega arith in
    placed_fits a 0 d (omega arith) ∙ ap (λ (n : ℕ). a ++ drop n d) e

-- the same, of a buffer's state behind n bytes
pub placed_start : (a d d₁ : List ℕ) (n : ℕ) → d₁ ≡ placed a 0 d → length a ≡ n → n ≤ length d → d₁ ≡ a ++ drop n d
placed_start a d d₁ n e size h = e ∙ placed_front a d (omega arith) ∙ ap (λ (m : ℕ). a ++ drop m d) size

-- bytes put over the first of those that stand there
pub placed_over : (a z : List ℕ) (at : ℕ) (d : List ℕ) → at + length z ≤ length d → length a ≤ length z
    → placed a at (placed z at d) ≡ placed (a ++ drop (length a) z) at d
placed_over a z at d h k =
    let whole = placed-length z at d h in
    let rest = drop (at + length z) d in
    let size = length-take-le at d (omega arith) in
    let here : placed z at d ≡ take at d ++ (z ++ rest) = placed_fits z at d h ∙ append_assoc (take at d) z rest in
    let front : take at (placed z at d) ≡ take at d = ap (take at) here ∙ take_at (take at d) (z ++ rest) at size in
    let back : drop (at + length a) (placed z at d) ≡ drop (length a) z ++ rest =
    sym (drop-drop (length a) at (placed z at d))
    ∙ ap (drop (length a)) (ap (drop at) here ∙ drop_at (take at d) (z ++ rest) at size)
    ∙ drop-append-le (length a) z rest k
    in
    let same : at + length (a ++ drop (length a) z) ≡ at + length z =
    let e = length-append a (drop (length a) z) in let f = length-drop (length a) z in omega arith
    in
    let parts : take at d ++ a ++ (drop (length a) z ++ rest) ≡ take at d ++ (a ++ drop (length a) z) ++ rest = simp append_assoc in
    placed_fits a at (placed z at d) (omega arith)
    ∙ ap₂ (λ (x y : List ℕ). x ++ a ++ y) front back
    ∙ parts
    ∙ ap (λ (n : ℕ). take at d ++ (a ++ drop (length a) z) ++ drop n d) (sym same)
    ∙ sym (placed_fits (a ++ drop (length a) z) at d (omega arith))
