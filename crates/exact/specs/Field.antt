-- A field is a language with a value, and for each prefix the number of the part that the next byte is in; `Exact` is the claim of a
-- verdict with the splits of the bytes as witnesses, so that it composes. A verdict is judged under a weight of the field's values: the fewest bytes that
-- the fields behind it ask where it has that value.
use Rattle.std.specs.Prelude.{◌≡◌, List, [], ◌∷◌, ◌++◌, ◌⊎◌, ℕ, ◌+◌, ◌≤◌, length, drop}
use Rattle.exact.specs.Claim.{Verdict, accepted, more, refused}

-- lang f a: the bytes f are a whole field, and its value is a. at u k: a byte that follows u is in the part k.
pub record Field (A : Type 0) : Type 1 where
  pub lang : List ℕ → A → Type 0
  pub at : List ℕ → ℕ → Type 0

-- s begins with a whole field
pub record Begins {A : Type 0} (F : Field A) (s : List ℕ) : Type 0 where
  pub front : List ℕ
  pub rest : List ℕ
  pub value : A
  pub split : s ≡ front ++ rest
  pub whole : F.lang front value

-- some continuation of s begins with a whole field
pub record Alive {A : Type 0} (F : Field A) (s : List ℕ) : Type 0 where
  pub more_bytes : List ℕ
  pub begins : Begins F (s ++ more_bytes)

-- some continuation of s is a whole field
pub record Opens {A : Type 0} (F : Field A) (s : List ℕ) : Type 0 where
  pub tail : List ℕ
  pub value : A
  pub whole : F.lang (s ++ tail) value

-- some continuation of s is a whole field whose further bytes and weight make n, and none makes less
pub record Least {A : Type 0} (F : Field A) (w : A → ℕ) (n : ℕ) (s : List ℕ) : Type 0 where
  pub tail : List ℕ
  pub value : A
  pub whole : F.lang (s ++ tail) value
  pub size : length tail + w value ≡ n
  pub below : (t : List ℕ) (a : A) → F.lang (s ++ t) a → n ≤ length t + w a

abbrev pub least_opens : {A : Type 0} {F : Field A} {w : A → ℕ} {n : ℕ} {s : List ℕ} → Least F w n s → Opens F s
least_opens o = record { tail = o.tail; value = o.value; whole = o.whole }

-- whatever begins with f begins with no other whole field, and f has no other value
abbrev pub Only : {A : Type 0} (F : Field A) (f : List ℕ) (a : A) → Type 0
Only {A} F f a = (x y g : List ℕ) (b : A) → f ++ x ≡ g ++ y → F.lang g b → (g ≡ f) × (b ≡ a)

-- accepted: the first n bytes are a whole field of the value a, and the only one
pub record Accepts {A : Type 0} (F : Field A) (a : A) (n : ℕ) (s : List ℕ) : Type 0 where
  pub front : List ℕ
  pub rest : List ℕ
  pub split : s ≡ front ++ rest
  pub size : length front ≡ n
  pub whole : F.lang front a
  pub only : Only F front a

-- more: no whole field yet, and the least that completes one
pub record Wants {A : Type 0} (F : Field A) (w : A → ℕ) (n : ℕ) (s : List ℕ) : Type 0 where
  pub none : Begins F s → ⊥
  pub least : Least F w n s

-- refused: the first p bytes can be completed, with one byte more nothing helps, and that byte is in the part k
pub record Refuses {A : Type 0} (F : Field A) (k : ℕ) (p : ℕ) (s : List ℕ) : Type 0 where
  pub front : List ℕ
  pub byte : ℕ
  pub rest : List ℕ
  pub split : s ≡ front ++ byte ∷ rest
  pub size : length front ≡ p
  pub opens : Opens F front
  pub dead : Alive F (front ++ byte ∷ []) → ⊥
  pub part : F.at front k

abbrev pub Exact : {A : Type 0} → Field A → (A → ℕ) → Verdict A → List ℕ → Type 0
Exact F w (accepted a n) s = Accepts F a n s
Exact F w (more n) s = Wants F w n s
Exact F w (refused k p) s = Refuses F k p s

-- the same weight for each value: what follows does not depend on it
abbrev pub flat : {A : Type 0} → ℕ → A → ℕ
flat m a = m

abbrev pub shift : {A : Type 0} → ℕ → Verdict A → Verdict A
shift n (accepted a m) = accepted a (n + m)
shift n (more m) = more m
shift n (refused k p) = refused k (n + p)

-- F, then the field that its value chooses
pub record SeqLang {A B : Type 0} (F : Field A) (G : A → Field B) (s : List ℕ) (b : B) : Type 0 where
  pub front : List ℕ
  pub back : List ℕ
  pub mid : A
  pub split : s ≡ front ++ back
  pub first : F.lang front mid
  pub second : (G mid).lang back b

pub record InSecond {A B : Type 0} (F : Field A) (G : A → Field B) (s : List ℕ) (k : ℕ) : Type 0 where
  pub front : List ℕ
  pub back : List ℕ
  pub mid : A
  pub split : s ≡ front ++ back
  pub first : F.lang front mid
  pub part : (G mid).at back k

abbrev pub seq : {A B : Type 0} → Field A → (A → Field B) → Field B
seq F G =
    record { lang = SeqLang F G; at = λ u k. ((Begins F u → ⊥) × F.at u k) ⊎ InSecond F G u k }

abbrev pub after : {A B : Type 0} → Verdict A → (A → List ℕ → Verdict B) → List ℕ → Verdict B
after (accepted a n) next s = shift n (next a (drop n s))
after (more n) next s = more n
after (refused k p) next s = refused k p
