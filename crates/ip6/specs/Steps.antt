-- For proofs. The machine's steps, by what is known of the byte.
use Rattle.std.specs.Prelude.{◌≡◌, refl, true, List, [], ◌∷◌, ℕ, ◌+◌, ◌*◌, ◌<◌}
use Rattle.std.proofs.Common.{arith, lt-ltb, le-ltb, eq-eqb, ne_eqb}
use Rattle.exact.specs.MachineLaws.{runs_at}
use Rattle.exact.specs.Machine.{go, done, Runs}
use Rattle.hex_digits.specs.Hex.{hex_of}
use Rattle.ip6.specs.Address.{filled, Ending}
use Rattle.hex_digits.proofs.HexLaws.{hex_colon}
use Rattle.ip6.specs.Machine.{Gathered, push, room, State, digits, colon, gap, finish, follow, inside, step}

pub colon_no_digit : hex_of 58 < 16 → ⊥
colon_no_digit h = let e = hex_colon in omega arith

pub digit_no_colon : (c : ℕ) → hex_of c < 16 → c ≡ 58 → ⊥
digit_no_colon c h z = colon_no_digit (rw z at h)

module _ (end : ℕ) where
  -- the bytes f take the machine from q to its end, with the groups vs
  abbrev pub Takes : State → List ℕ → List ℕ → Type 0
  Takes q f vs = Runs (step end) q f vs

  pub goes : (q p : State) (c : ℕ) (f vs : List ℕ) → step end q c ≡ go p → Takes p f vs → Takes q (c ∷ f) vs
  goes q p c f vs h r = (runs_at (step end) q c (go p) h f vs).1 r

  pub ends : (q : State) (c : ℕ) (vs : List ℕ) → step end q c ≡ done vs → Takes q (c ∷ []) vs
  ends q c vs h = (runs_at (step end) q c (done vs) h [] vs).1 (refl, refl)

  -- a byte that two states treat alike
  pub alike : (q p : State) (c : ℕ) (f vs : List ℕ) → step end q c ≡ step end p c → Takes p (c ∷ f) vs → Takes q (c ∷ f) vs
  alike q p c f vs h r = (runs_at (step end) q c (step end p c) h f vs).1 r

  pub gap_end : (l : List ℕ) → step end (gap l) end ≡ done (filled l [])
  gap_end l = simp (eq-eqb end end refl)

  pub follow-colon : (s : Gathered) → room s ≡ true → follow end s 58 ≡ go (colon s)
  follow-colon s r = rw r

  pub follow_end : Ending end → (s : Gathered) → follow end s end ≡ finish s
  follow_end e s = simp (ne_eqb end 58 e.no_colon, eq-eqb end end refl)

  pub inside_digit : (s : Gathered) (n v c : ℕ) → hex_of c < 16 → n < 4 → inside end s n v c ≡ go (digits s (n + 1) (v * 16 + hex_of c))
  inside_digit s n v c h few = simp (lt-ltb (hex_of c) 16 h, lt-ltb n 4 few)

  pub inside-follow : (s : Gathered) (n v c : ℕ) → (hex_of c < 16 → ⊥) → (n ≡ 0 → ⊥) → inside end s n v c ≡ follow end (push s v) c
  inside-follow s n v c h some = simp (le-ltb (hex_of c) 16 (omega arith), ne_eqb n 0 some)
