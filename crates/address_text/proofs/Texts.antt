-- What the written addresses are, proved of their definitions: IPv4 and IPv6 text that says what was written (document 01, "The text line").
use Rattle.std.specs.Prelude.{◌≡◌, refl, List, [], ◌∷◌, ◌++◌, ℕ, suc, zero, ◌+◌, ◌-◌, ◌/◌, ◌%◌, ◌≤◌, ◌<◌, ltb, length, take, drop, replicate}
use Rattle.std.proofs.Common.{ap, ap₂, ◌∙◌, append_assoc, inl, inr, arith, length-drop, length-take-le, ltb-true, ltb-false}
use Rattle.exact.specs.Claim.{AllBytes}
use Rattle.exact.specs.Network.{number}
use Rattle.exact.specs.Pick.{pick_by}
use Rattle.ip4.specs.Ip4.{Address as Ip4Address}
use Rattle.hex_digits.specs.Hex.{hex_of}
use Rattle.ip6.specs.Address.{HexDigits, hex_number, Group, Side, Address as Ip6Text}
use Rattle.hex_digits.proofs.HexLaws.{hex_decimal, hex_lower}
use Rattle.ip6.specs.Bounds.{AllWords}
use Rattle.header.specs.Line.{group_bytes, Ip6Address}
use Rattle.draft.specs.Numeral.{digit, decimal_text, hex_text}
use Rattle.draft.proofs.Decimals.{decimal_text_lem}
use Rattle.draft.proofs.NumeralLaws.{numeral-length, numeral_all, numeral_value, numeral_plain}
use Rattle.zero_run.specs.declared.Run.{Run}
use Rattle.zero_run.specs.ZeroRun.{longest_run}
use Rattle.zero_run.specs.Longest.{Zeros}
use Rattle.zero_run.proofs.Longest.{longest}
use Rattle.zero_run.proofs.RunLaws.{run_inside, run_between}
use Rattle.address_text.specs.Addresses.{octets_text, colon_text, shortened_text, is_replaced, groups_text, groups_of}
use Rattle.address_text.proofs.AddressLaws.{groups_count, plain_some, replaced_two}

-- ── groups ──
words_take : (n : ℕ) (groups : List ℕ) → AllWords groups → AllWords (take n groups)
words_take zero groups small = tt
words_take (suc n) [] small = tt
words_take (suc n) (g ∷ groups) small = (small.0, words_take n groups small.1)

words_drop : (n : ℕ) (groups : List ℕ) → AllWords groups → AllWords (drop n groups)
words_drop zero groups small = small
words_drop (suc n) [] small = tt
words_drop (suc n) (g ∷ groups) small = words_drop n groups small.1

hex_digit : (d : ℕ) → d < 16 → hex_of (digit d) ≡ d
hex_digit d small =
    pick_by (λ (c : ℕ). hex_of c ≡ d) (ltb d 10)
    (λ t. let h = ltb-true d 10 t in hex_decimal (48 + d) (omega arith) (omega arith) ∙ omega arith)
    (λ t. let h = ltb-false d 10 t in hex_lower (97 + (d - 10)) (omega arith) (omega arith) ∙ omega arith)

-- "groups of 1 to 4 hex digits"
pub group_text : (n : ℕ) → n < 65536 → Group (hex_text n) n
group_text n small =
    record {
      digits =
          numeral_all 16 (omega arith) (λ c. hex_of c < 16) HexDigits tt (λ c f x y. (x, y))
          (λ d few. let e = hex_digit d few in omega arith) n;
      some = plain_some (hex_text n) (numeral_plain 16 (omega arith) n);
      few = numeral-length 16 (omega arith) 3 n (omega arith);
      value = numeral_value 16 (omega arith) hex_of hex_number (λ m. refl) (λ m c f. refl) hex_digit n;
    }

-- ── IPv4 ──
-- four octets
pub octets_text_lem : (octets : List ℕ) → length octets ≡ 4 → AllBytes octets → Ip4Address (octets_text octets) octets
octets_text_lem (a ∷ b ∷ c ∷ d ∷ []) size small =
    record {
      a = decimal_text a;
      b = decimal_text b;
      c = decimal_text c;
      d = decimal_text d;
      split = simp append_assoc;
      first = a;
      second = b;
      third = c;
      fourth = d;
      whole_a = let h = small.0 in decimal_text_lem 255 a (omega arith);
      whole_b = let h = small.1.0 in decimal_text_lem 255 b (omega arith);
      whole_c = let h = small.1.1.0 in decimal_text_lem 255 c (omega arith);
      whole_d = let h = small.1.1.1.0 in decimal_text_lem 255 d (omega arith);
      value = refl;
    }
octets_text_lem [] size small = absurd (omega arith)
octets_text_lem (a ∷ []) size small = absurd (omega arith)
octets_text_lem (a ∷ b ∷ []) size small = absurd (omega arith)
octets_text_lem (a ∷ b ∷ c ∷ []) size small = absurd (omega arith)
octets_text_lem (a ∷ b ∷ c ∷ d ∷ e ∷ more) size small = absurd (omega arith)

-- ── IPv6 ──
-- what stands on a side of "::", and what stands alone
side_text : (groups : List ℕ) → AllWords groups → Side (colon_text groups) groups
side_text [] small = refl
side_text (g ∷ []) small = group_text g small.0
side_text (g ∷ h ∷ groups) small =
    (hex_text g, colon_text (h ∷ groups), refl, group_text g small.0, side_text (h ∷ groups) small.1)

-- eight groups of 16 bits: "Either eight groups"
full_text : (groups : List ℕ) → length groups ≡ 8 → AllWords groups → Ip6Text (colon_text groups) groups
full_text [] size small = absurd (omega arith)
full_text (g ∷ groups) size small = inl (record { groups = side_text (g ∷ groups) small; eight = size })

-- "or one "::" (…), standing for at least one zero group": here for a run of two or more
module _ (groups : List ℕ) (size : length groups ≡ 8) (small : AllWords groups) (run : Run) (zeros : Zeros groups run) (two : 2 ≤ run.count) where
  abbrev before : List ℕ
  before = take run.before groups

  abbrev behind : List ℕ
  behind = drop (run.before + run.count) groups

  sides : (length before ≡ run.before) × (length behind ≡ 8 - (run.before + run.count)) × (run.before + run.count ≤ 8)
  sides =
      let inside = run_inside groups run zeros (omega arith) in
      (length-take-le run.before groups (omega arith), length-drop (run.before + run.count) groups ∙ omega arith, omega arith)

  count : run.count ≡ 8 - (length before + length behind)
  count = let l = sides.0 in let r = sides.1 in let i = sides.2 in omega arith

  shortened_text_lem : Ip6Text (shortened_text run groups) groups
  shortened_text_lem =
      inr
      (record {
        left = colon_text before;
        right = colon_text behind;
        before = before;
        behind = behind;
        split = refl;
        left_side = side_text before (words_take run.before groups small);
        right_side = side_text behind (words_drop (run.before + run.count) groups small);
        seven = let l = sides.0 in let r = sides.1 in let i = sides.2 in omega arith;
        value = run_between groups run zeros ∙ ap (λ (n : ℕ). before ++ replicate n 0 ++ behind) count;
      })

pub groups_text_lem : (groups : List ℕ) → length groups ≡ 8 → AllWords groups → Ip6Text (groups_text groups) groups
unfolding groups_text
groups_text_lem groups size small =
    pick_by (λ (f : List ℕ). Ip6Text f groups) (is_replaced (longest_run groups))
    (λ t. let two = replaced_two (longest_run groups) t in shortened_text_lem groups size small (longest_run groups) (longest groups).zeros (omega arith))
    (λ few. full_text groups size small)

groups_bytes : (n : ℕ) (bytes : List ℕ) → length bytes ≡ n + n → AllBytes bytes
    → AllWords (groups_of bytes) × (bytes ≡ group_bytes (groups_of bytes))
groups_bytes zero [] size small = (tt, refl)
groups_bytes (suc n) [] size small = absurd (omega arith)
groups_bytes n (h ∷ []) size small = absurd (omega arith)
groups_bytes zero (h ∷ l ∷ bytes) size small = absurd (omega arith)
groups_bytes (suc n) (h ∷ l ∷ bytes) size small =
    let high = small.0 in
    let low = small.1.0 in
    let rest = groups_bytes n bytes (omega arith) small.1.1 in
    let a : h ≡ number h l / 256 = omega arith in
    let b : l ≡ number h l % 256 = omega arith in
    ((omega arith, rest.0), ap₂ (λ (x : ℕ) (t : List ℕ). x ∷ t) a (ap₂ (λ (x : ℕ) (t : List ℕ). x ∷ t) b rest.1))

-- the sixteen bytes of an address
pub ip6_text : (bytes : List ℕ) → length bytes ≡ 16 → AllBytes bytes → Ip6Address (groups_text (groups_of bytes)) bytes
ip6_text bytes size small =
    let g = groups_bytes 8 bytes size small in
    record { groups = groups_of bytes; text = groups_text_lem (groups_of bytes) (groups_count 8 bytes size) g.0; value = g.1 }
