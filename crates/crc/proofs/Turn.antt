-- The turns of the loops over bytes.
use Rattle.std.specs.Prelude.{◌≡◌, refl, List, [], ◌∷◌, ◌++◌, ℕ, zero, suc, ◌+◌, ◌*◌, ◌≤◌, ◌<◌, length, take, drop, get_or}
use Rattle.std.proofs.Common.{sym, ap, ap₂, ◌∙◌, add-one, arith, drop_of_length-le, drop-cons, bit_xor}
use Rattle.std.specs.List.{concat}
use Rattle.std.specs.Simd.{first_chunks}
use Rattle.std.proofs.Math.Seq.{take-add}
use lib.Bits.{xor_zero_r}
use Rattle.crc.specs.Crc.{bits, byte, register}
use Rattle.crc.proofs.PartLaws.{in_parts}
use Rattle.crc.proofs.Linear.{onto}

-- the element at i, of those that are left
next : {A : Type 0} (s : List A) (i : ℕ) (d : A) → i < length s → drop i s ≡ get_or s i d ∷ drop (i + 1) s
next s i d h = drop-cons s i d h ∙ ap (λ (n : ℕ). get_or s i d ∷ drop n s) (sym (add-one i))

-- a byte: what is left to feed is what was left before
pub turn : (r : ℕ) (bs : List ℕ) (i : ℕ) → i < length bs → register (byte r (get_or bs i 0)) (drop (i + 1) bs) ≡ register r (drop i bs)
unfolding register
turn r bs i h = ap (register r) (sym (next bs i 0 h))

-- and a chunk of bytes
pub chunk_turn : (r : ℕ) (cs : List (List ℕ)) (i : ℕ) (d : List ℕ) → i < length cs
    → register (register r (get_or cs i d)) (concat (drop (i + 1) cs)) ≡ register r (concat (drop i cs))
chunk_turn r cs i d h =
    sym (in_parts r (get_or cs i d) (concat (drop (i + 1) cs))) ∙ ap (λ (l : List (List ℕ)). register r (concat l)) (sym (next cs i d h))

-- the four at i, and what is left behind them
run : (s : List ℕ) (i : ℕ) → i + 1 + 1 + 1 < length s
    → drop i s ≡ get_or s i 0 ∷ get_or s (i + 1) 0 ∷ get_or s (i + 1 + 1) 0 ∷ get_or s (i + 1 + 1 + 1) 0 ∷ drop (i + 1 + 1 + 1 + 1) s
run s i h =
    let a = get_or s i 0 in
    let b = get_or s (i + 1) 0 in
    let c = get_or s (i + 1 + 1) 0 in
    next s i 0 (omega arith)
    ∙ ap (λ (l : List ℕ). a ∷ l) (next s (i + 1) 0 (omega arith))
    ∙ ap (λ (l : List ℕ). a ∷ b ∷ l) (next s (i + 1 + 1) 0 (omega arith))
    ∙ ap (λ (l : List ℕ). a ∷ b ∷ c ∷ l) (next s (i + 1 + 1 + 1) 0 (omega arith))

-- eight bytes, looked up as two fours
pub by_fours : (r : ℕ) (s : List ℕ) {x y : ℕ} → length s ≡ 8
    → x ≡ bits 32 (register r (get_or s 0 0 ∷ get_or s 1 0 ∷ get_or s 2 0 ∷ get_or s 3 0 ∷ []))
    → y ≡ bits 0 (register 0 (get_or s 4 0 ∷ get_or s 5 0 ∷ get_or s 6 0 ∷ get_or s 7 0 ∷ []))
    → bit_xor x y ≡ register r s
unfolding bits register
by_fours r s h p q =
    let front : List ℕ → List ℕ = λ l. get_or s 0 0 ∷ get_or s 1 0 ∷ get_or s 2 0 ∷ get_or s 3 0 ∷ l in
    let first = register r (front []) in
    let second = get_or s 4 0 ∷ get_or s 5 0 ∷ get_or s 6 0 ∷ get_or s 7 0 ∷ [] in
    let rest : drop 4 s ≡ second =
    run s 4 (omega arith) ∙ ap (λ (l : List ℕ). get_or s 4 0 ∷ get_or s 5 0 ∷ get_or s 6 0 ∷ get_or s 7 0 ∷ l) (drop_of_length-le s {i = 8} (omega arith))
    in
    let all : s ≡ front second = run s 0 (omega arith) ∙ ap front rest in
    ap₂ bit_xor p q
    ∙ sym (onto first 0 second)
    ∙ ap (λ (z : ℕ). register z second) (xor_zero_r first)
    ∙ ap (register r) (sym all)

-- nothing is left to feed
pub done : (r : ℕ) (bs : List ℕ) (i : ℕ) → length bs ≤ i → r ≡ register r (drop i bs)
unfolding register
done r bs i h = ap (register r) (sym (drop_of_length-le bs h))

pub chunks_done : (r : ℕ) (cs : List (List ℕ)) (i : ℕ) → length cs ≤ i → r ≡ register r (concat (drop i cs))
unfolding register
chunks_done r cs i h = ap (λ (l : List (List ℕ)). register r (concat l)) (sym (drop_of_length-le cs h))

-- the first chunks, joined
pub joined : (n k : ℕ) (s : List ℕ) → concat (first_chunks n k s) ≡ take (k * n) s
joined n zero s = let e : 0 * n ≡ 0 = omega arith in rw e refl
joined n (suc k) s =
    let e : suc k * n ≡ n + k * n = omega arith in
    ap (λ (l : List ℕ). take n s ++ l) (joined n k (drop n s)) ∙ sym (take-add n (k * n) s) ∙ ap (λ (m : ℕ). take m s) (sym e)
