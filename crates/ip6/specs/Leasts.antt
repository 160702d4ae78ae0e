-- For proofs. The machine's leasts are the fewest bytes that could follow: some byte attains each, and no step undercuts one.
use Rattle.std.specs.Prelude.{◌≡◌, Bool, List, [], ◌∷◌, ℕ, suc, ◌+◌, ◌≤◌, ◌<◌, ltb, length}
use Rattle.std.proofs.Math.Path.{refl}
use Rattle.std.proofs.Common.{sym, ap, ◌∙◌, subst, length-append}
use Rattle.std.proofs.Math.Bool.{true, false}
use native.Mathlib.Omega.{arith}
use Rattle.std.proofs.Math.Dec.{eqb}
use borrow.Author.Tests.{eqb-true, eqb-false, eq-eqb, ne_eqb, lt-ltb, le-ltb}
use Rattle.exact.specs.Field.{flat}
use Rattle.exact.specs.Machine.{Move, done, dead}
use Rattle.exact.specs.MachineLaws.{Attains, NoLess, Leasts}
use Rattle.exact.specs.Pick.{pick, pick_by}
use Rattle.hex_digits.specs.Hex.{hex_of}
use Rattle.hex_digits.proofs.HexLaws.{hex_zero}
use Rattle.ip6.specs.Address.{Ending}
use Rattle.ip6.specs.Machine.{Gathered, plain, gapped, push, room, State, start, digits, behind, colon, gap, finish, least_behind, least_digit, least, least_address, follow, inside, step}
use Rattle.ip6.specs.Read.{Fits, fits_push, Good}
use Rattle.ip6.specs.Steps.{colon_no_digit, follow_end}

-- what a group says does not matter
same_push : (s : Gathered) (v w : ℕ) → least_behind (push s v) ≡ least_behind (push s w)
same_push (plain l) v w = ap (λ (n : ℕ). pick (eqb n 8) 1 3) (length-append l (v ∷ []) ∙ sym (length-append l (w ∷ [])))
same_push (gapped l r) v w = refl

pub behind_most : (s : Gathered) → least_behind s ≤ 3
behind_most (plain l) = pick_by (λ (n : ℕ). n ≤ 3) (eqb (length l) 8) (λ t. omega arith) (λ t. omega arith)
behind_most (gapped l r) = omega arith

behind_some : (s : Gathered) → 1 ≤ least_behind s
behind_some (plain l) = pick_by (λ (n : ℕ). 1 ≤ n) (eqb (length l) 8) (λ t. omega arith) (λ t. omega arith)
behind_some (gapped l r) = omega arith

pub digit_most : (n : ℕ) → least_digit n ≤ 1
digit_most n = pick_by (λ (d : ℕ). d ≤ 1) (eqb n 0) (λ t. omega arith) (λ t. omega arith)

digit_none : (n : ℕ) → (n ≡ 0 → ⊥) → least_digit n ≡ 0
digit_none n some = simp (ne_eqb n 0 some)

module _ (m end : ℕ) where
  -- ── no step undercuts it ──
  abbrev On : ℕ → Move State (List ℕ) → Type 0
  On j = NoLess (least_address m) (flat m) (j + m)

  finish_no_less : (s : Gathered) (j : ℕ) → j ≤ least_behind s → On j (finish s)
  finish_no_less (plain l) j h = by (eqb (length l) 8) h
    where
      by : (b : Bool) → j ≤ pick b 1 3 → On j (pick b (done l) dead)
      by true h = omega arith
      by false h = tt
  finish_no_less (gapped l r) j h = omega arith

  follow_no_less : (s : Gathered) (c j : ℕ) → j ≤ least_behind s → On j (follow end s c)
  follow_no_less s c j h =
      let most = behind_most s in
      pick_by (On j) (eqb c 58) (λ t. pick_by (On j) (room s) (λ r. omega arith) (λ r. tt))
      (λ t. pick_by (On j) (eqb c end) (λ e. finish_no_less s j h) (λ e. tt))

  -- in a group, where none or some digits have come
  inside_no_less : (s : Gathered) (n v c j : ℕ) → j ≤ suc (least_behind (push s 0)) → ((n ≡ 0 → ⊥) → j ≤ least_behind (push s 0)) → On j (inside end s n v c)
  inside_no_less s n v c j before later =
      pick_by (On j) (ltb (hex_of c) 16)
      (λ t. pick_by (On j) (ltb n 4) (λ few. let none = digit_none (n + 1) (λ z. omega arith) in omega arith) (λ few. tt))
      (λ t.
      pick_by (On j) (eqb n 0) (λ z. tt)
      (λ z. follow_no_less (push s v) c j (let h = later (eqb-false n 0 z) in let e = same_push s v 0 in omega arith)))

  begin_no_less : (s : Gathered) (c j : ℕ) → j ≤ suc (least_behind (push s 0)) → On j (inside end s 0 0 c)
  begin_no_less s c j h = inside_no_less s 0 0 c j h (λ some. absurd (some refl))

  no_less : (q : State) (c : ℕ) → On (least q) (step end q c)
  no_less start c = pick_by (On 3) (eqb c 58) (λ t. omega arith) (λ t. begin_no_less (plain []) c 3 (omega arith))
  no_less (digits s n v) c =
      let d = digit_most n in
      inside_no_less s n v c (least_digit n + least_behind (push s 0)) (omega arith) (λ some. let none = digit_none n some in omega arith)
  no_less (behind s) c = follow_no_less s c (least_behind s) (omega arith)
  no_less (colon (plain [])) c = pick_by (On 2) (eqb c 58) (λ t. omega arith) (λ t. tt)
  no_less (colon (plain (v ∷ l))) c =
      let some = behind_some (push (plain (v ∷ l)) 0) in
      pick_by (On 2) (eqb c 58) (λ t. omega arith) (λ t. begin_no_less (plain (v ∷ l)) c 2 (omega arith))
  no_less (colon (gapped l r)) c = begin_no_less (gapped l r) c 2 (omega arith)
  no_less (gap l) c =
      pick_by (On 1) (eqb c end) (λ t. omega arith)
      (λ t. pick_by (On 1) (room (gapped l [])) (λ r. begin_no_less (gapped l []) c 1 (omega arith)) (λ r. tt))

  -- ── the byte that attains it ──
  abbrev To : ℕ → Move State (List ℕ) → Type 0
  To j = Attains (least_address m) (flat m) (j + m)

  -- behind a group: the end where there are eight groups or "::", else a colon
  closing : Gathered → ℕ
  closing (plain l) = pick (eqb (length l) 8) end 58
  closing (gapped l r) = end

  module _ (e : Ending end) where
    follow-closing : (s : Gathered) → Fits s → To (least_behind s) (follow end s (closing s))
    unfolding closing
    follow-closing (plain l) fits = by (eqb (length l) 8) refl
      where
        by : (b : Bool) → eqb (length l) 8 ≡ b → To (pick b 1 3) (follow end (plain l) (pick b end 58))
        by true t = rw (follow_end end e (plain l), t) (omega arith)
        by false t =
            let other = eqb-false (length l) 8 t in
            rw (lt-ltb (length l) 8 (omega arith)) (omega arith)
    follow-closing (gapped l r) fits = rw (follow_end end e (gapped l r)) (omega arith)

    closing_no_digit : (s : Gathered) → hex_of (closing s) < 16 → ⊥
    unfolding closing
    closing_no_digit (plain l) = pick_by (λ (c : ℕ). hex_of c < 16 → ⊥) (eqb (length l) 8) (λ t. e.no_digit) (λ t. colon_no_digit)
    closing_no_digit (gapped l r) = e.no_digit

    inside_zero : (s : Gathered) (v j : ℕ) → j ≡ suc (least_behind (push s 0)) → To j (inside end s 0 v 48)
    inside_zero s v j h = rw (lt-ltb (hex_of 48) 16 (let z = hex_zero in omega arith)) (omega arith)

    attaining : (q : State) → Good q → ℕ
    attaining start ok = 58
    attaining (digits s n v) ok = pick (eqb n 0) 48 (closing (push s v))
    attaining (behind s) ok = closing s
    attaining (colon (plain l)) ok = 58
    attaining (colon (gapped l r)) ok = 48
    attaining (gap l) ok = end

    attains_digits : (s : Gathered) (n v : ℕ) (b : Bool) → eqb n 0 ≡ b → room s ≡ true
        → To (pick b 1 0 + least_behind (push s 0)) (inside end s n v (pick b 48 (closing (push s v))))
    attains_digits s n v true t fits =
        subst (λ (x : ℕ). To (1 + least_behind (push s 0)) (inside end s x v 48)) (sym (eqb-true n 0 t)) (inside_zero s v _ (omega arith))
    attains_digits s n v false t fits =
        let over = closing_no_digit (push s v) in
        let sum : 0 + least_behind (push s 0) ≡ least_behind (push s v) = let d = same_push s v 0 in omega arith in
        rw (le-ltb (hex_of (closing (push s v))) 16 (omega arith), t, sum) (follow-closing (push s v) (fits_push s v fits))

    attains : (q : State) (ok : Good q) → To (least q) (step end q (attaining q ok))
    unfolding attaining
    attains start ok = omega arith
    attains (digits s n v) ok = attains_digits s n v (eqb n 0) refl ok.1.room_here
    attains (behind s) ok = follow-closing s ok.1.1
    attains (colon (plain [])) ok = omega arith
    attains (colon (plain (v ∷ l))) ok = omega arith
    attains (colon (gapped l r)) ok = inside_zero (gapped l r) 0 2 (omega arith)
    attains (gap l) ok = rw (eq-eqb end end refl) (omega arith)

    pub leasts : Leasts Good (step end) (least_address m) (flat m)
    leasts = record { byte = attaining; attains = attains; no_less = λ q c ok. no_less q c }
