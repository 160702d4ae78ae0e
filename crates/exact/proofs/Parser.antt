-- Lemmas on what specs/Parser.antt defines.
use Rattle.std.specs.Prelude.{◌≡◌, Bool, List, [], ◌∷◌, ◌++◌, ℕ, zero, suc, ◌-◌, ◌≤◌, ◌<◌, length, take, drop, get_or}
use Rattle.std.proofs.Common.{sym, subst, arith, Fits, length-append, length-drop, take-append-drop, take_all}
use Rattle.std.specs.Int.{w8}
use Rattle.exact.specs.Claim.{Verdict, accepted, more, refused, AllBytes}
use Rattle.exact.specs.Ended.{Ended}
use Rattle.exact.specs.Field.{Field, Exact, seq}
use Rattle.exact.specs.Parser.{Parser, Starts, bytes_append, reach}

pub bytes_front : (s t : List ℕ) → AllBytes (s ++ t) → AllBytes s
bytes_front [] t x = tt
bytes_front (c ∷ s) t x = (x.0, bytes_front s t x.1)

pub bytes_back : (s t : List ℕ) → AllBytes (s ++ t) → AllBytes t
bytes_back [] t x = x
bytes_back (c ∷ s) t x = bytes_back s t x.1

-- a text of bytes, with the byte that ends it
pub ended_bytes : {A : Type 0} (L : List ℕ → A → Type 0) (end : ℕ) → end < 256 → ((f : List ℕ) (a : A) → L f a → AllBytes f)
    → (f : List ℕ) (a : A) → Ended L end f a → AllBytes f
ended_bytes L end small bytes f a l =
    subst AllBytes (sym l.split) (bytes_append l.text (end ∷ []) (bytes _ _ l.whole) (small, tt))

-- what a slice of bytes holds
pub bytes_of : (s : List ℕ) → ((i : ℕ) → Fits w8 (get_or s i 0)) → AllBytes s
bytes_of [] h = tt
bytes_of (c ∷ s) h = ((h 0).fits, bytes_of s (λ i. h (suc i)))

pub bytes_take : (n : ℕ) (s : List ℕ) → AllBytes s → AllBytes (take n s)
bytes_take n s b = bytes_front (take n s) (drop n s) (subst AllBytes (sym (take-append-drop n s)) b)

pub bytes_drop : (n : ℕ) (s : List ℕ) → AllBytes s → AllBytes (drop n s)
bytes_drop n s b = bytes_back (take n s) (drop n s) (subst AllBytes (sym (take-append-drop n s)) b)

pub byte_at : (s : List ℕ) (i : ℕ) → AllBytes s → get_or s i 0 < 256
byte_at [] i b = omega arith
byte_at (c ∷ s) zero b = b.0
byte_at (c ∷ s) (suc i) b = byte_at s i b.1

-- ── what code needs of a verdict ──
reach_exact : {A : Type 0} (F : Field A) (w : A → ℕ) (v : Verdict A) (s : List ℕ) → Exact F w v s → reach v ≤ length s
reach_exact F w (accepted a n) s x = let e = x.size in rw x.split (simp length-append (omega arith))
reach_exact F w (more n) s x = omega arith
reach_exact F w (refused k p) s x = let e = x.size in rw x.split (simp length-append (omega arith))

module _ {A : Type 0} {w : A → ℕ} (P : Parser A w) (s : List ℕ) where
  pub reach-le : (v : Verdict A) → v ≡ P.verdict s → reach v ≤ length s
  reach-le v e = rw e (reach_exact P.field w (P.verdict s) s (P.exact s))

-- what a slice `&s[n..]` holds
pub tail_all : (n : ℕ) (s : List ℕ) → take (length s - n) (drop n s) ≡ drop n s
tail_all n s = take_all (length s - n) (drop n s) (simp length-drop (omega arith))

-- ── the first byte, for the choice law ──
module _ {A B : Type 0} (first : ℕ → Bool) (b : Bool) (F : Field A) (G : A → Field B) (st : Starts first b F) where
  no_empty : (h r : List ℕ) (a : A) → [] ≡ h ++ r → F.lang h a → ⊥
  no_empty [] r a e l = st.solid a l
  no_empty (d ∷ h) r a e l = let z : ◌≡◌ {A = ℕ} 0 1 = cc in omega arith

  head_of : (c : ℕ) (s h r : List ℕ) (a : A) → c ∷ s ≡ h ++ r → F.lang h a → first c ≡ b
  head_of c s [] r a e l = absurd (st.solid a l)
  head_of c s (d ∷ h) r a e l = let q : c ≡ d = cc in rw q (st.head d h a l)

  pub starts_seq : Starts first b (seq F G)
  starts_seq =
      record {
        solid = λ a l. no_empty l.front l.back l.mid l.split l.first;
        head = λ c f a l. head_of c f l.front l.back l.mid l.split l.first;
      }
