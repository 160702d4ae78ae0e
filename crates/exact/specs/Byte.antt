-- For proofs. The leaf of one byte whose value a table gives, and the leaf of a number of bytes of any values.
use Rattle.std.specs.Prelude.{◌≡◌, refl, List, [], ◌∷◌, ℕ, zero, suc, ◌+◌, ◌≤◌, ◌<◌, ltb, length, replicate, Option, Some, None}
use Rattle.std.proofs.Common.{sym, ap, ◌∙◌, subst, arith, ltb-true, ltb-false, lt-ltb}
use Rattle.std.proofs.lemmas.List.{length-replicate}
use Rattle.exact.specs.Claim.{Verdict, accepted, AllBytes}
use Rattle.exact.specs.Field.{Least, Exact}
use Rattle.exact.specs.MachineLaws.{machine_exact, least_at, Sound, Attains, NoLess, Leasts}
use Rattle.exact.specs.Machine.{leaf, Move, go, done, dead, run}
use Rattle.exact.specs.Pick.{pick, pick_by}
use Rattle.exact.specs.Parser.{Parser}

-- ── one byte, whose value the table gives ──
module _ {A : Type 0} (table : ℕ → Option A) where
  pub record OneByte (f : List ℕ) (a : A) : Type 0 where
    pub byte : ℕ
    pub split : f ≡ byte ∷ []
    pub small : byte < 256
    pub value : table byte ≡ Some a

  abbrev pub found : Option A → Move (Unit {0}) A
  found (Some a) = done a
  found None = dead

  abbrev pub step_byte : Unit {0} → ℕ → Move (Unit {0}) A
  step_byte q c = pick (ltb c 256) (found (table c)) dead

  abbrev Any : Unit {0} → Type 0
  Any q = Unit {0}

  found_sound : (c : ℕ) (o : Option A) → table c ≡ o → c < 256 → Sound (λ q. OneByte) Any tt c (found o)
  found_sound c (Some a) e small = (
    record { byte = c; split = refl; small = small; value = e },
    λ f b l.
        let s = l.split in
        let same : c ≡ l.byte = cc in
        let value : Some a ≡ Some b = sym e ∙ ap table same ∙ l.value in
        (cc, cc),
  )
  found_sound c None e small =
      λ f b l.
      let s = l.split in
      let same : c ≡ l.byte = cc in
      let value : None ≡ Some b = sym e ∙ ap table same ∙ l.value in
      let z : ◌≡◌ {A = ℕ} 0 1 = cc in
      omega arith

  byte_sound : (q : Unit {0}) (c : ℕ) → Any q → Sound (λ q. OneByte) Any q c (step_byte q c)
  byte_sound q c ok =
      pick_by (Sound (λ q. OneByte) Any tt c) (ltb c 256) (λ small. found_sound c (table c) refl (ltb-true c 256 small))
      (λ big f a l.
      let s = l.split in
      let same : c ≡ l.byte = cc in
      let over = ltb-false c 256 big in
      let small = l.small in
      omega arith)

  solid_byte : (q : Unit {0}) → Any q → (a : A) → OneByte [] a → ⊥
  solid_byte q ok a l = let s = l.split in let z : ◌≡◌ {A = ℕ} 0 1 = cc in omega arith

  -- under a weight u: a byte c whose value a weighs least
  module _ (u : A → ℕ) (k c : ℕ) (a : A) (small : c < 256) (e : table c ≡ Some a)
      (best : (d : ℕ) (b : A) → d < 256 → table d ≡ Some b → u a ≤ u b)
    where
      abbrev pub least_byte : Unit {0} → ℕ
      least_byte q = suc (u a)

      found_no_less : (d : ℕ) (o : Option A) → d < 256 → table d ≡ o → NoLess least_byte u (suc (u a)) (found o)
      found_no_less d (Some b) h t = let low = best d b h t in omega arith
      found_no_less d None h t = tt

      leasts_byte : Leasts Any step_byte least_byte u
      leasts_byte =
          record {
            byte = λ q ok. c;
            attains = λ q ok. rw (lt-ltb c 256 small, e) refl;
            no_less = λ q d ok.
                pick_by (NoLess least_byte u (suc (u a))) (ltb d 256) (λ h. found_no_less d (table d) (ltb-true d 256 h) refl) (λ h. tt);
          }

      pub byte_exact : (s : List ℕ) → Exact (leaf k OneByte) u (run k step_byte least_byte s tt) s
      byte_exact s = machine_exact k (λ q. OneByte) Any step_byte least_byte u leasts_byte solid_byte byte_sound s tt tt

      pub byte_least : Least (leaf k OneByte) u (suc (u a)) []
      byte_least = least_at k (λ q. OneByte) Any step_byte least_byte u leasts_byte solid_byte byte_sound tt tt

      abbrev pub one_byte : Parser A u
      one_byte =
          record {
            field = leaf k OneByte;
            verdict = λ s. run k step_byte least_byte s tt;
            exact = byte_exact;
            least = suc (u a);
            opens = byte_least;
            bytes = λ f b l. subst AllBytes (sym l.split) (l.small, tt);
          }

-- ── n bytes of any values ──
pub record Count (n : ℕ) (f : List ℕ) (a : ℕ) : Type 0 where
  pub size : length f ≡ n
  pub bytes : AllBytes f
  pub none : a ≡ 0

-- the state m: one byte more than m is to come
abbrev pub counted : ℕ → Move ℕ ℕ
counted zero = done 0
counted (suc m) = go m

abbrev pub step_count : ℕ → ℕ → Move ℕ ℕ
step_count m c = pick (ltb c 256) (counted m) dead

abbrev Good : ℕ → Type 0
Good m = Unit {0}

pub empty_of : (f : List ℕ) → length f ≡ 0 → f ≡ []
empty_of [] e = refl
empty_of (c ∷ f) e = absurd (omega arith)

counted_sound : (m c : ℕ) → c < 256 → Sound (λ (q : ℕ). Count (suc q)) Good m c (counted m)
counted_sound zero c small = (
  record { size = refl; bytes = (small, tt); none = refl },
  λ f b l. (empty_of f (let s = l.size in omega arith), l.none),
)
counted_sound (suc m) c small = (
  tt,
  λ f b. (
    λ l. record { size = let s = l.size in omega arith; bytes = l.bytes.1; none = l.none },
    λ l. record { size = let s = l.size in omega arith; bytes = (small, l.bytes); none = l.none },
  ),
)

count_sound : (m c : ℕ) → Good m → Sound (λ (q : ℕ). Count (suc q)) Good m c (step_count m c)
count_sound m c ok =
    pick_by (Sound (λ (q : ℕ). Count (suc q)) Good m c) (ltb c 256) (λ small. counted_sound m c (ltb-true c 256 small))
    (λ big f a l. let over = ltb-false c 256 big in let small = l.bytes.0 in omega arith)

zeros_bytes : (n : ℕ) → AllBytes (replicate n 0)
zeros_bytes zero = tt
zeros_bytes (suc n) = (omega arith, zeros_bytes n)

pub zeros : (n : ℕ) → Count n (replicate n 0) 0
zeros n = record { size = length-replicate n 0; bytes = zeros_bytes n; none = refl }

-- the state's bytes, and then r
abbrev pub least_count : ℕ → ℕ → ℕ
least_count r m = suc m + r

module _ (u : ℕ → ℕ) where
  counted_attains : (m : ℕ) → Attains (least_count (u 0)) u (least_count (u 0) m) (counted m)
  counted_attains zero = omega arith
  counted_attains (suc m) = omega arith

  counted_no_less : (m : ℕ) → NoLess (least_count (u 0)) u (least_count (u 0) m) (counted m)
  counted_no_less zero = omega arith
  counted_no_less (suc m) = omega arith

  leasts_count : Leasts Good step_count (least_count (u 0)) u
  leasts_count =
      record {
        byte = λ m ok. 0;
        attains = λ m ok. counted_attains m;
        no_less = λ m c ok. pick_by (NoLess (least_count (u 0)) u (least_count (u 0) m)) (ltb c 256) (λ h. counted_no_less m) (λ h. tt);
      }

  count_run : (k m : ℕ) (s : List ℕ) → Exact (leaf k (Count (suc m))) u (run k step_count (least_count (u 0)) s m) s
  count_run k m s =
      machine_exact k (λ (q : ℕ). Count (suc q)) Good step_count (least_count (u 0)) u leasts_count (λ q ok a l. let e = l.size in omega arith)
      count_sound s m tt

-- r is what is asked behind the bytes
abbrev pub count_verdict : ℕ → ℕ → ℕ → List ℕ → Verdict ℕ
count_verdict k r zero s = accepted 0 0
count_verdict k r (suc m) s = run k step_count (least_count r) s m

pub count_exact : (u : ℕ → ℕ) (k n : ℕ) (s : List ℕ) → Exact (leaf k (Count n)) u (count_verdict k (u 0) n s) s
count_exact u k zero s =
    record {
      front = [];
      rest = s;
      split = refl;
      size = refl;
      whole = record { size = refl; bytes = tt; none = refl };
      only = λ x y g b e l. (empty_of g l.size, l.none);
    }
count_exact u k (suc m) s = count_run u k m s

pub count_least : (u : ℕ → ℕ) (k n : ℕ) → Least (leaf k (Count n)) u (n + u 0) []
count_least u k n =
    record {
      tail = replicate n 0;
      value = 0;
      whole = zeros n;
      size = let e = length-replicate {A = ℕ} n 0 in omega arith;
      below = λ t a l. let e = l.size in let same : u a ≡ u 0 = ap u l.none in omega arith;
    }

abbrev pub count : (u : ℕ → ℕ) → ℕ → ℕ → Parser ℕ u
count u k n =
    record {
      field = leaf k (Count n);
      verdict = count_verdict k (u 0) n;
      exact = count_exact u k n;
      least = n + u 0;
      opens = count_least u k n;
      bytes = λ f a l. l.bytes;
    }
