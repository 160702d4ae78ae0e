-- Lemmas on what specs/Form.antt defines.
use Rattle.std.specs.Prelude.{◌≡◌, refl, true, false, List, [], ◌∷◌, ◌++◌, ◌⊎◌, ℕ, ◌+◌, ◌≤◌, ◌<◌, ltb, length, take, drop}
use Rattle.std.proofs.Common.{sym, ap, ◌∙◌, subst, append-nil, append_assoc, inl, inr, arith, length-append, ltb-true, ltb-false, ne_eqb}
use Rattle.std.proofs.lemmas.List.{append_cancel_left}
use Prim.Native.Char.{code}
use Rattle.exact.specs.Ascii.{ascii}
use Rattle.exact.specs.Claim.{AllBytes}
use Rattle.exact.specs.Pick.{pick_by, never}
use Rattle.decimal.specs.Decimal.{Plain}
use Rattle.ip6.specs.Address.{Address as Ip6Text}
use Rattle.ip6.proofs.Parser.{address_one}
use Rattle.header.specs.Line.{group_bytes}
use Rattle.draft.specs.Numeral.{digit, numeral, hex_text}
use Rattle.zero_run.specs.declared.Run.{Run}
use Rattle.zero_run.specs.ZeroRun.{longest_run}
use Rattle.zero_run.specs.Longest.{Zeros, FirstLongest}
use Rattle.zero_run.proofs.Longest.{longest, longest_only}
use Rattle.address_text.specs.Addresses.{colon_text, shortened_text, is_replaced, groups_text, groups_of}
use Rattle.draft.proofs.NumeralLaws.{numeral_all, numeral_plain}
use Rattle.address_text.proofs.Texts.{ip6_text}
use Rattle.address_text.specs.Gaps.{NoColon}
use Rattle.address_text.proofs.Gaps.{no_colon, groups_apart, groups_no_gap, gap_there}
use Rattle.address_text.proofs.AddressLaws.{plain_some, replaced_two, text_shortened, text_full}
use Rattle.address_text.specs.Form.{Ends, Gap, Lower, LowerDigit, NoLeadingZeros}

-- "the longest run of two or more zero groups, the first of equals, as "::"", whatever finds it
pub replaced : (groups : List ℕ) (run : Run) → FirstLongest groups run → 2 ≤ run.count → groups_text groups ≡ shortened_text run groups
replaced groups run is two =
    let e = longest_only groups run is in
    let n = ap (λ (r : Run). r.count) e in
    text_shortened groups (omega arith) ∙ ap (λ (r : Run). shortened_text r groups) (sym e)

-- and nothing where no run has two
pub not_replaced : (groups : List ℕ) → ((run : Run) → Zeros groups run → run.count < 2) → groups_text groups ≡ colon_text groups
not_replaced groups few = text_full groups (few (longest_run groups) (longest groups).zeros)

-- "2001:db8:0:1:1:1:1:1 stays"
pub stays : groups_text (8193 ∷ 3512 ∷ 0 ∷ 1 ∷ 1 ∷ 1 ∷ 1 ∷ 1 ∷ []) ≡ ascii "2001:db8:0:1:1:1:1:1"
unfolding groups_text numeral
stays = refl

-- ── "lower case", and "No dotted tail" ──
lower_digit : (d : ℕ) → d < 16 → LowerDigit (digit d)
lower_digit d small =
    pick_by LowerDigit (ltb d 10) (λ t. let h = ltb-true d 10 t in inl (omega arith, omega arith))
    (λ t. let h = ltb-false d 10 t in inr (omega arith, omega arith))

lower_group : (n : ℕ) → Lower (hex_text n)
lower_group =
    numeral_all 16 (omega arith) (λ c. LowerDigit c ⊎ (c ≡ code ":")) Lower tt (λ c f x y. (x, y)) (λ d small. inl (lower_digit d small))

lower_behind : (f g : List ℕ) → Lower f → Lower g → Lower (f ++ g)
lower_behind [] g a b = b
lower_behind (c ∷ f) g a b = (a.0, lower_behind f g a.1 b)

lower_groups : (groups : List ℕ) → Lower (colon_text groups)
lower_groups [] = tt
lower_groups (g ∷ []) = lower_group g
lower_groups (g ∷ h ∷ groups) =
    lower_behind (hex_text g ++ ascii ":") (colon_text (h ∷ groups)) (lower_behind (hex_text g) (ascii ":") (lower_group g) (inr refl, tt)) (lower_groups (h ∷ groups))

lower_shortened : (before behind : List ℕ) → Lower (colon_text before ++ ascii "::" ++ colon_text behind)
lower_shortened before behind =
    lower_behind (colon_text before ++ ascii "::") (colon_text behind)
    (lower_behind (colon_text before) (ascii "::") (lower_groups before) (inr refl, (inr refl, tt))) (lower_groups behind)

pub lower_case : (groups : List ℕ) → Lower (groups_text groups)
unfolding groups_text
lower_case groups =
    let run = longest_run groups in
    pick_by Lower (is_replaced run) (λ t. lower_shortened (take run.before groups) (drop (run.before + run.count) groups)) (λ t. lower_groups groups)

-- ── "no leading zeros" ──
-- within a group
led_inside : (f g : List ℕ) → NoColon f → NoLeadingZeros false g → NoLeadingZeros false (f ++ g)
led_inside [] g none rest = rest
led_inside (c ∷ f) g none rest = (λ e. never e, rw (ne_eqb c 58 none.0) (led_inside f g none.1 rest))

led_group : (f g : List ℕ) → NoColon f → Plain f → Ends g → NoLeadingZeros false g → NoLeadingZeros true (f ++ g)
led_group [] g none plain ends rest = absurd plain
led_group (c ∷ []) g none plain ends rest = (λ t zero. ends, rw (ne_eqb c 58 none.0) rest)
led_group (c ∷ d ∷ f) g none plain ends rest =
    (λ t zero. absurd (plain zero), rw (ne_eqb c 58 none.0) (led_inside (d ∷ f) g none.1 rest))

led_less : (f : List ℕ) → NoLeadingZeros true f → NoLeadingZeros false f
led_less [] a = tt
led_less (c ∷ f) a = (λ e. never e, a.1)

led_groups : (groups f : List ℕ) → Ends f → NoLeadingZeros true f → NoLeadingZeros true (colon_text groups ++ f)
led_groups [] f ends rest = rest
led_groups (g ∷ []) f ends rest = led_group (hex_text g) f (no_colon g) (numeral_plain 16 (omega arith) g) ends (led_less f rest)
led_groups (g ∷ h ∷ groups) f ends rest =
    rw (append_assoc (hex_text g ++ ascii ":") (colon_text (h ∷ groups)) f, append_assoc (hex_text g) (ascii ":") (colon_text (h ∷ groups) ++ f))
    (led_group (hex_text g) (58 ∷ (colon_text (h ∷ groups) ++ f)) (no_colon g) (numeral_plain 16 (omega arith) g) refl
    (λ e. never e, led_groups (h ∷ groups) f ends rest))

led_alone : (groups : List ℕ) → NoLeadingZeros true (colon_text groups)
led_alone groups = rw append-nil at (led_groups groups [] tt tt)

led_shortened : (before behind : List ℕ) → NoLeadingZeros true (colon_text before ++ ascii "::" ++ colon_text behind)
led_shortened before behind =
    rw (append_assoc (colon_text before) (ascii "::") (colon_text behind))
    (led_groups before (58 ∷ 58 ∷ colon_text behind) refl (λ t zero. refl, (λ t zero. absurd (omega arith), led_alone behind)))

pub no_leading_zeros : (groups : List ℕ) → NoLeadingZeros true (groups_text groups)
unfolding groups_text
no_leading_zeros groups =
    let run = longest_run groups in
    pick_by (NoLeadingZeros true) (is_replaced run) (λ t. led_shortened (take run.before groups) (drop (run.before + run.count) groups)) (λ t. led_alone groups)

-- ── "::" ──
pub stands_for : (groups left right : List ℕ) → groups_text groups ≡ left ++ ascii "::" ++ right → Gap groups left right
unfolding groups_text
stands_for groups left right =
    let run = longest_run groups in
    let before = colon_text (take run.before groups) in
    let behind = colon_text (drop (run.before + run.count) groups) in
    pick_by (λ (f : List ℕ). f ≡ left ++ ascii "::" ++ right → Gap groups left right) (is_replaced run)
    (λ t e.
    let same =
    gap_there before (drop (run.before + run.count) groups) left right (groups_apart (take run.before groups))
    (sym (append_assoc before (ascii "::") behind) ∙ e ∙ append_assoc left (ascii "::") right)
    in
    record {
      two = replaced_two run t;
      before = same;
      behind = sym (append_cancel_left (before ++ ascii "::") behind right (rw same at e));
    })
    (λ t e. absurd (groups_no_gap groups left right (e ∙ append_assoc left (ascii "::") right)))

-- so there is at most one
pub at_most_one : (groups left right left' right' : List ℕ) → groups_text groups ≡ left ++ ascii "::" ++ right
    → groups_text groups ≡ left' ++ ascii "::" ++ right' → left ≡ left'
at_most_one groups left right left' right' e e' = (stands_for groups left right e).before ∙ sym (stands_for groups left' right' e').before

-- ── lengths ──
-- at least two bytes: "::" alone has two
pub text_least : (groups : List ℕ) → length groups ≡ 8 → 2 ≤ length (groups_text groups)
unfolding groups_text
text_least [] size = absurd (omega arith)
text_least (g ∷ []) size = absurd (omega arith)
text_least (g ∷ h ∷ groups) size =
    let first = plain_some (hex_text g) (numeral_plain 16 (omega arith) g) in
    pick_by (λ (f : List ℕ). 2 ≤ length f) (is_replaced (longest_run (g ∷ h ∷ groups))) (λ t. simp length-append (omega arith))
    (λ t. simp length-append (omega arith))

-- ── two addresses with the same text are equal ──
pub same_text : (address other : List ℕ) → length address ≡ 16 → AllBytes address → length other ≡ 16 → AllBytes other
    → groups_text (groups_of address) ≡ groups_text (groups_of other) → address ≡ other
same_text address other size bytes size' bytes' e =
    let one = ip6_text address size bytes in
    let two = ip6_text other size' bytes' in
    one.value
    ∙ ap group_bytes (address_one _ one.groups two.groups one.text (subst (λ (f : List ℕ). Ip6Text f two.groups) (sym e) two.text))
    ∙ sym two.value
