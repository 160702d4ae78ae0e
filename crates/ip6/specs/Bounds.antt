-- For proofs. What holds of every address: at most 39 bytes, all of them hex digits and colons; eight groups, each of 16 bits.
use Rattle.std.specs.Prelude.{◌≡◌, refl, List, [], ◌∷◌, ◌++◌, ◌⊎◌, ℕ, zero, suc, ◌+◌, ◌*◌, ◌-◌, ◌≤◌, ◌<◌, length, replicate}
use Rattle.std.proofs.Common.{inl, inr, ⊎_elim, arith, length-append}
use Rattle.std.proofs.lemmas.List.{length-replicate}
use Rattle.exact.specs.Ascii.{ascii}
use Rattle.exact.specs.Claim.{AllBytes}
use Rattle.hex_digits.specs.Hex.{hex_of}
use Rattle.ip6.specs.Address.{HexDigits, Group, Groups, Side, Address}
use Rattle.hex_digits.proofs.HexLaws.{hex_byte}

abbrev pub AllWords : List ℕ → Type 0
AllWords [] = Unit {0}
AllWords (v ∷ vs) = (v < 65536) × AllWords vs

-- hex digits and colons
abbrev pub Spelt : List ℕ → Type 0
Spelt [] = Unit {0}
Spelt (c ∷ f) = ((hex_of c < 16) ⊎ (c ≡ 58)) × Spelt f

pub record Bounds (f vs : List ℕ) : Type 0 where
  pub short : length f ≤ 39
  pub spelt : Spelt f
  pub eight : length vs ≡ 8
  pub words : AllWords vs

-- ── lengths: 8 × 4 digits + 7 colons = 39, and a text with "::" is shorter ──
groups_length : (vs f : List ℕ) → Groups f vs → length f + 1 ≤ 5 * length vs
groups_length [] f g = absurd g
groups_length (v ∷ []) f g = let h = g.few in omega arith
groups_length (v ∷ w ∷ vs) f g =
    let h = g.3.few in
    let k = groups_length (w ∷ vs) g.1 g.4 in
    rw g.2 (simp length-append (omega arith))

side_length : (vs f : List ℕ) → Side f vs → length f ≤ 5 * length vs
side_length [] f a = rw a (omega arith)
side_length (v ∷ vs) f a = let h = groups_length (v ∷ vs) f a in omega arith

address_short : (f vs : List ℕ) → Address f vs → length f ≤ 39
address_short f vs =
    ⊎_elim (λ a. let h = groups_length vs f a.groups in let n = a.eight in omega arith)
    (λ a.
    let h = side_length a.before a.left a.left_side in
    let k = side_length a.behind a.right a.right_side in
    let n = a.seven in
    rw a.split (simp length-append (omega arith)))

address_eight : (f vs : List ℕ) → Address f vs → length vs ≡ 8
address_eight f vs =
    ⊎_elim (λ a. a.eight) (λ a. let n = a.seven in rw a.value (simp (length-append, length-replicate) (omega arith)))

-- ── bytes ──
spelt_append : (f g : List ℕ) → Spelt f → Spelt g → Spelt (f ++ g)
spelt_append [] g a b = b
spelt_append (c ∷ f) g a b = (a.0, spelt_append f g a.1 b)

spelt_digits : (f : List ℕ) → HexDigits f → Spelt f
spelt_digits [] a = tt
spelt_digits (c ∷ f) a = (inl a.0, spelt_digits f a.1)

spelt_groups : (vs f : List ℕ) → Groups f vs → Spelt f
spelt_groups [] f g = absurd g
spelt_groups (v ∷ []) f g = spelt_digits f g.digits
spelt_groups (v ∷ w ∷ vs) f g =
    rw g.2
    (spelt_append (g.0 ++ ascii ":") g.1
    (spelt_append g.0 (ascii ":") (spelt_digits g.0 g.3.digits) (inr refl, tt))
    (spelt_groups (w ∷ vs) g.1 g.4))

spelt_side : (vs f : List ℕ) → Side f vs → Spelt f
spelt_side [] f a = rw a tt
spelt_side (v ∷ vs) f a = spelt_groups (v ∷ vs) f a

address_spelt : (f vs : List ℕ) → Address f vs → Spelt f
address_spelt f vs =
    ⊎_elim (λ a. spelt_groups vs f a.groups)
    (λ a.
    rw a.split
    (spelt_append (a.left ++ ascii "::") a.right
    (spelt_append a.left (ascii "::") (spelt_side a.before a.left a.left_side) (inr refl, (inr refl, tt)))
    (spelt_side a.behind a.right a.right_side)))

pub spelt_bytes : (f : List ℕ) → Spelt f → AllBytes f
spelt_bytes [] a = tt
spelt_bytes (c ∷ f) a = (⊎_elim (λ h. hex_byte c h) (λ e. omega arith) a.0, spelt_bytes f a.1)

-- ── groups ──
group_word : (f : List ℕ) (v : ℕ) → Group f v → v < 65536
group_word [] v g = let h = g.value in omega arith
group_word (a ∷ []) v g = let h = g.value in let x = g.digits.0 in omega arith
group_word (a ∷ b ∷ []) v g = let h = g.value in let x = g.digits.0 in let y = g.digits.1.0 in omega arith
group_word (a ∷ b ∷ c ∷ []) v g =
    let h = g.value in
    let x = g.digits.0 in
    let y = g.digits.1.0 in
    let z = g.digits.1.1.0 in
    omega arith
group_word (a ∷ b ∷ c ∷ d ∷ []) v g =
    let h = g.value in
    let x = g.digits.0 in
    let y = g.digits.1.0 in
    let z = g.digits.1.1.0 in
    let w = g.digits.1.1.1.0 in
    omega arith
group_word (a ∷ b ∷ c ∷ d ∷ e ∷ f) v g = absurd (let h = g.few in omega arith)

words_append : (vs ws : List ℕ) → AllWords vs → AllWords ws → AllWords (vs ++ ws)
words_append [] ws a b = b
words_append (v ∷ vs) ws a b = (a.0, words_append vs ws a.1 b)

words_zeros : (n : ℕ) → AllWords (replicate n 0)
words_zeros zero = tt
words_zeros (suc n) = (omega arith, words_zeros n)

words_groups : (vs f : List ℕ) → Groups f vs → AllWords vs
words_groups [] f g = absurd g
words_groups (v ∷ []) f g = (group_word f v g, tt)
words_groups (v ∷ w ∷ vs) f g = (group_word g.0 v g.3, words_groups (w ∷ vs) g.1 g.4)

words_side : (vs f : List ℕ) → Side f vs → AllWords vs
words_side [] f a = tt
words_side (v ∷ vs) f a = words_groups (v ∷ vs) f a

address_words : (f vs : List ℕ) → Address f vs → AllWords vs
address_words f vs =
    ⊎_elim (λ a. words_groups vs f a.groups)
    (λ a.
    let zeros : List ℕ = replicate (8 - (length a.before + length a.behind)) 0 in
    rw a.value
    (words_append (a.before ++ zeros) a.behind
    (words_append a.before zeros (words_side a.before a.left a.left_side) (words_zeros (8 - (length a.before + length a.behind))))
    (words_side a.behind a.right a.right_side)))

pub address_bounds : (f vs : List ℕ) → Address f vs → Bounds f vs
address_bounds f vs a =
    record { short = address_short f vs a; spelt = address_spelt f vs a; eight = address_eight f vs a; words = address_words f vs a }
