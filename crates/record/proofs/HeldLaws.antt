-- Lemmas on what specs/HeldLaws.antt defines.
use Rattle.std.specs.Prelude.{◌≡◌, List, ◌++◌, ℕ, zero, suc, ◌+◌, ◌-◌, ◌≤◌, ◌<◌, length, take, drop, get_or, set, replicate}
use Rattle.std.proofs.Common.{sym, ap, ◌∙◌, add-one, arith, length-append, length-take-le}
use Rattle.std.proofs.lemmas.List.{length-replicate}
use Rattle.std.proofs.Math.Seq.{paste, paste-suc}
use Rattle.record.specs.Records.{held}
use Rattle.lent.specs.Placed.{placed}
use Rattle.lent.proofs.PlacedLaws.{placed_over}
use Rattle.record.specs.HeldLaws.{blank}

drop_zeros : (n m : ℕ) → drop n (replicate m 0) ≡ replicate {A = ℕ} (m - n) 0
drop_zeros zero m = let e : m ≡ m - 0 = omega arith in ap (λ (k : ℕ). replicate k 0) e
drop_zeros (suc n) zero = let e : 0 ≡ 0 - suc n = omega arith in ap (λ (k : ℕ). replicate k 0) e
drop_zeros (suc n) (suc m) = let e : m - n ≡ suc m - suc n = omega arith in drop_zeros n m ∙ ap (λ (k : ℕ). replicate k 0) e

module _ (s : List ℕ) (i : ℕ) where
  pub held_pasted : i ≤ length s → paste blank 0 s i ≡ held (take i s)
  held_pasted h =
      let size = length-take-le i s h in
      let e : 108 - (0 + i) ≡ 108 - length (take i s) = omega arith in
      ap (λ (t : List ℕ). take i s ++ t) (drop_zeros (0 + i) 108 ∙ ap (λ (k : ℕ). replicate k 0) e)

  -- one byte more
  pub pasted_next : (a : List ℕ) → a ≡ paste blank 0 s i → i < length s → i < 108 → set a i (get_or s i 0) ≡ paste blank 0 s (i + 1)
  pasted_next a same h k =
      let here : i ≡ 0 + i = omega arith in
      ap (λ (l : List ℕ). set l i (get_or s i 0)) same
      ∙ ap (λ (j : ℕ). set (paste blank 0 s i) j (get_or s i 0)) here
      ∙ paste-suc blank 0 s i 0 (let e = length-replicate {A = ℕ} 108 0 in omega arith) h
      ∙ ap (λ (j : ℕ). paste blank 0 s j) (sym (add-one i))

pub held-length : (a : List ℕ) → length a ≤ 108 → length (held a) ≡ 108
held-length a h = let z = length-replicate {A = ℕ} (108 - length a) 0 in simp length-append (omega arith)

-- an address put over zeros
pub held-placed : (a : List ℕ) (at : ℕ) (d : List ℕ) → at + 108 ≤ length d → length a ≤ 108 → placed a at (placed blank at d) ≡ placed (held a) at d
held-placed a at d h k =
    let size = length-replicate {A = ℕ} 108 0 in
    placed_over a blank at d (omega arith) (omega arith) ∙ ap (λ (z : List ℕ). placed (a ++ z) at d) (drop_zeros (length a) 108)
