-- Lemmas on what specs/Gaps.antt defines.
use Rattle.std.specs.Prelude.{◌≡◌, refl, List, [], ◌∷◌, ◌++◌, ℕ, ◌<◌, ltb}
use Rattle.std.proofs.Common.{ap₂, subst, append-nil, arith, ltb-true}
use Rattle.std.proofs.Math.Seq.{append_snoc}
use Rattle.exact.specs.Pick.{pick_by}
use Rattle.decimal.specs.Decimal.{Plain}
use Rattle.draft.specs.Numeral.{digit, hex_text}
use Rattle.draft.proofs.NumeralLaws.{numeral_all, numeral_plain}
use Rattle.address_text.specs.Addresses.{colon_text}
use Rattle.address_text.specs.Gaps.{NoColon}

-- a byte follows, and it is no colon
abbrev Other : List ℕ → Type 0
Other [] = ⊥
Other (c ∷ f) = c ≡ 58 → ⊥

-- behind each colon a byte follows that is none
abbrev Apart : List ℕ → Type 0
Apart [] = Unit {0}
Apart (c ∷ f) = (c ≡ 58 → Other f) × Apart f

-- ── groups with colons ──
no_colon_digit : (d : ℕ) → d < 16 → digit d ≡ 58 → ⊥
no_colon_digit d small =
    pick_by (λ (c : ℕ). c ≡ 58 → ⊥) (ltb d 10) (λ t e. let h = ltb-true d 10 t in omega arith) (λ t e. omega arith)

pub no_colon : (n : ℕ) → NoColon (hex_text n)
no_colon = numeral_all 16 (omega arith) (λ c. c ≡ 58 → ⊥) NoColon tt (λ c f x y. (x, y)) no_colon_digit

apart_behind : (f g : List ℕ) → NoColon f → Apart g → Apart (f ++ g)
apart_behind [] g none rest = rest
apart_behind (c ∷ f) g none rest = (λ e. absurd (none.0 e), apart_behind f g none.1 rest)

other_first : (f g : List ℕ) → NoColon f → Plain f → Other (f ++ g)
other_first [] g none plain = absurd plain
other_first (c ∷ f) g none plain = none.0

-- a group before what follows, with its colon
group_before : (g : ℕ) (groups : List ℕ) (h : ℕ) → colon_text (g ∷ h ∷ groups) ≡ hex_text g ++ 58 ∷ colon_text (h ∷ groups)
group_before g groups h = append_snoc (hex_text g) 58 (colon_text (h ∷ groups))

pub groups_first : (g : ℕ) (groups : List ℕ) → Other (colon_text (g ∷ groups))
groups_first g [] = rw append-nil at (other_first (hex_text g) [] (no_colon g) (numeral_plain 16 (omega arith) g))
groups_first g (h ∷ groups) =
    rw (group_before g groups h) (other_first (hex_text g) (58 ∷ colon_text (h ∷ groups)) (no_colon g) (numeral_plain 16 (omega arith) g))

pub groups_apart : (groups : List ℕ) → Apart (colon_text groups)
groups_apart [] = tt
groups_apart (g ∷ []) = rw append-nil at (apart_behind (hex_text g) [] (no_colon g) tt)
groups_apart (g ∷ h ∷ groups) =
    rw (group_before g groups h)
    (apart_behind (hex_text g) (58 ∷ colon_text (h ∷ groups)) (no_colon g) (λ e. groups_first h groups, groups_apart (h ∷ groups)))

-- ── "::" ──
no_gap : (f left right : List ℕ) → Apart f → f ≡ left ++ 58 ∷ 58 ∷ right → ⊥
no_gap [] [] right apart e = let z : ◌≡◌ {A = ℕ} 0 1 = cc in omega arith
no_gap [] (c ∷ left) right apart e = let z : ◌≡◌ {A = ℕ} 0 1 = cc in omega arith
no_gap (c ∷ []) [] right apart e = let here : c ≡ 58 = cc in apart.0 here
no_gap (c ∷ d ∷ f) [] right apart e = let here : c ≡ 58 = cc in let next : d ≡ 58 = cc in apart.0 here next
no_gap (c ∷ f) (d ∷ left) right apart e = no_gap f left right apart.1 cc

-- none among groups
pub groups_no_gap : (groups left right : List ℕ) → colon_text groups ≡ left ++ 58 ∷ 58 ∷ right → ⊥
groups_no_gap groups left right e = no_gap (colon_text groups) left right (groups_apart groups) e

-- and between two lots of groups only there
pub gap_there : (f groups left right : List ℕ) → Apart f → f ++ 58 ∷ 58 ∷ colon_text groups ≡ left ++ 58 ∷ 58 ∷ right → left ≡ f
gap_there [] groups [] right apart e = refl
gap_there [] [] (c ∷ []) right apart e = absurd (let z : ◌≡◌ {A = ℕ} 0 1 = cc in omega arith)
gap_there [] (g ∷ groups) (c ∷ []) right apart e =
    let third : colon_text (g ∷ groups) ≡ 58 ∷ right = cc in
    absurd (subst Other third (groups_first g groups) refl)
gap_there [] groups (c ∷ d ∷ left) right apart e = absurd (groups_no_gap groups left right cc)
gap_there (c ∷ []) groups [] right apart e = let here : c ≡ 58 = cc in absurd (apart.0 here)
gap_there (c ∷ d ∷ f) groups [] right apart e = let here : c ≡ 58 = cc in let next : d ≡ 58 = cc in absurd (apart.0 here next)
gap_there (c ∷ f) groups (d ∷ left) right apart e =
    let same : d ≡ c = cc in
    ap₂ (λ (b : ℕ) (t : List ℕ). b ∷ t) same (gap_there f groups left right apart.1 cc)
