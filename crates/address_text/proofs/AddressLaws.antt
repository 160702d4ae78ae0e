-- How the octets and groups of an address lie in its bytes, and the two ways in which groups are written.
use Rattle.std.specs.Prelude.{◌≡◌, refl, true, false, List, [], ◌∷◌, ◌++◌, ℕ, zero, suc, ◌+◌, ◌*◌, ◌≤◌, ◌<◌, length, take}
use Rattle.std.proofs.Common.{ap, arith, leb-true, leb-false}
use Rattle.exact.specs.Pick.{pick_by}
use Rattle.exact.specs.Network.{number, number_at}
use Rattle.decimal.specs.Decimal.{Plain}
use Rattle.zero_run.specs.declared.Run.{Run}
use Rattle.zero_run.specs.ZeroRun.{longest_run}
use Rattle.address_text.specs.Addresses.{colon_text, shortened_text, is_replaced, groups_text, groups_of}

pub groups_count : (n : ℕ) (bytes : List ℕ) → length bytes ≡ n + n → length (groups_of bytes) ≡ n
groups_count zero [] size = refl
groups_count (suc n) [] size = absurd (omega arith)
groups_count n (h ∷ []) size = absurd (omega arith)
groups_count zero (h ∷ l ∷ bytes) size = absurd (omega arith)
groups_count (suc n) (h ∷ l ∷ bytes) size = ap suc (groups_count n bytes (omega arith))

-- a group more: that of the next two bytes
pub groups_more : (s : List ℕ) (i : ℕ) → 2 * i + 1 < length s → groups_of (take (2 * (i + 1)) s) ≡ groups_of (take (2 * i) s) ++ number_at s (2 * i) ∷ []
groups_more [] i inside = absurd (omega arith)
groups_more (h ∷ []) i inside = absurd (omega arith)
groups_more (h ∷ l ∷ s) zero inside = refl
groups_more (h ∷ l ∷ s) (suc i) inside =
    let more : 2 * (suc i + 1) ≡ suc (suc (2 * (i + 1))) = omega arith in
    let here : 2 * suc i ≡ suc (suc (2 * i)) = omega arith in
    let low : suc (suc (2 * i)) + 1 ≡ suc (suc (2 * i + 1)) = omega arith in
    rw (more, here, low) (ap (λ (gs : List ℕ). number h l ∷ gs) (groups_more s i (omega arith)))

pub plain_some : (f : List ℕ) → Plain f → 1 ≤ length f
plain_some [] plain = absurd plain
plain_some (c ∷ f) plain = omega arith

-- "of two or more"
pub replaced_two : (run : Run) → is_replaced run ≡ true → 2 ≤ run.count
replaced_two run t = leb-true 2 run.count t

pub replaced_few : (run : Run) → is_replaced run ≡ false → run.count < 2
replaced_few run t = leb-false 2 run.count t

-- with "::" for a run of two or more, and else in full
pub text_shortened : (groups : List ℕ) → 2 ≤ (longest_run groups).count → groups_text groups ≡ shortened_text (longest_run groups) groups
unfolding groups_text
text_shortened groups two =
    pick_by (λ (f : List ℕ). f ≡ shortened_text (longest_run groups) groups) (is_replaced (longest_run groups)) (λ t. refl)
    (λ t. let few = replaced_few (longest_run groups) t in absurd (omega arith))

pub text_full : (groups : List ℕ) → (longest_run groups).count < 2 → groups_text groups ≡ colon_text groups
unfolding groups_text
text_full groups few =
    pick_by (λ (f : List ℕ). f ≡ colon_text groups) (is_replaced (longest_run groups))
    (λ t. let two = replaced_two (longest_run groups) t in absurd (omega arith)) (λ t. refl)
