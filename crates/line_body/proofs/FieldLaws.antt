-- The fields of a line, each at its place: how far a verdict reaches, how few bytes it asks, and what value it has.
use Rattle.std.specs.Prelude.{◌≡◌, refl, true, false, List, ℕ, ◌+◌, ◌-◌, ◌≤◌, ◌<◌, ◌^◌, length, take, drop, Result, IfOk}
use Rattle.std.proofs.Common.{sym, ap, ◌∙◌, subst, arith}
use Rattle.exact.specs.Claim.{Verdict, accepted, more, refused}
use Rattle.exact.specs.Field.{shift}
use Rattle.exact.specs.Parser.{reach}
use Rattle.exact.proofs.Parser.{reach-le}
use Rattle.exact.specs.Scans.{told, present}
use Rattle.exact.specs.declared.Scan.{Scan}
use Rattle.exact.specs.declared.Scan.TheVariants.{Accepted, More, Refused}
use Rattle.exact.specs.Verdicts.{Few, Within}
use Rattle.exact.proofs.Verdicts.{few_more, run_few}
use Rattle.decimal.specs.DecimalVerdict.{decimal_verdict}
use Rattle.decimal.proofs.DecimalLeaf.{decimal_within, decimal_few}
use Rattle.line_end.specs.LineVerdict.{Line, line, step_line, least_line, line_verdict}
use Rattle.fields.specs.LineFields.{rest_field}
use Rattle.answer.specs.declared.Refusal.TheVariants.{Address, Port, End}
use Rattle.answer.specs.declared.Found.{Found}
use Rattle.answer.specs.declared.Stop.{Stop}
use Rattle.answer.specs.Places.{placed, told_found, told_scan}
use Rattle.answer.proofs.PlaceLaws.{told_own, told_present, field_at}
use Rattle.line_address.specs.declared.Inet.{Inet}
use Rattle.line_address.specs.Families.{told_bytes, padded, Padded, width, field}
use Rattle.line_address.proofs.FamilyLaws.{address_few}

-- what is seen in the bytes from `at` on, by what is told of the field, and where it ends
abbrev pub Stands : {A B : Type 0} → (A → B) → List ℕ → ℕ → (List ℕ → Verdict B) → Result (Found A) Stop → Type 0
Stands g s at judge x = (told_found g x ≡ shift at (judge (drop at s))) × IfOk x (λ f. f.end ≤ length s)

-- ── an address ──
told_address : (n m : ℕ) (r : Scan (List ℕ)) → told_scan (take n) 3 m r ≡ told_bytes n m r
told_address n m (Accepted bytes size) = refl
told_address n m (More least) = refl
told_address n m (Refused p) = refl

pub placed_address : (inet : Inet) (r : Scan (List ℕ)) (s : List ℕ) (at m : ℕ) {x : Result (Found (List ℕ)) Stop} → x ≡ placed r at Address m
    → told_bytes (width inet) m r ≡ (field inet m).verdict (take (length s - at) (drop at s)) → at ≤ length s → length s < 2 ^ 64 → m < 100
    → Stands (take (width inet)) s at (field inet m).verdict x
placed_address inet r s at m is found inside small few =
    let t = drop at s in
    field_at (take (width inet)) r s at Address m (field inet m).verdict is (told_address (width inet) m r ∙ found) inside small
    (reach-le (field inet m) t ((field inet m).verdict t) refl)
    (few_more (8 + m) 1000 ((field inet m).verdict t) (omega arith) (address_few inet m t))

-- it has zeros behind it
pub placed_padded : (n : ℕ) (r : Scan (List ℕ)) (at m : ℕ) {x : Result (Found (List ℕ)) Stop} → x ≡ placed r at Address m → Padded n r
    → IfOk x (λ f. f.value ≡ padded (take n f.value))
placed_padded n r at m is h = subst (λ (y : Result (Found (List ℕ)) Stop). IfOk y (λ f. f.value ≡ padded (take n f.value))) (sym is) (by r h)
  where
    by : (y : Scan (List ℕ)) → Padded n y → IfOk (placed y at Address m) (λ f. f.value ≡ padded (take n f.value))
    by (Accepted bytes size) h = h
    by (More least) h = tt
    by (Refused p) h = tt

-- ── a port ──
within_reach : {A : Type 0} (P : A → Type 0) (n : ℕ) (v : Verdict A) → Within P n v → reach v ≤ n
within_reach P n (accepted a m) w = w.1
within_reach P n (more m) w = omega arith
within_reach P n (refused k p) w = omega arith

pub placed_port : (r : Scan ℕ) (s : List ℕ) (at m end : ℕ) {x : Result (Found ℕ) Stop} → x ≡ placed r at Port m
    → told 4 m r ≡ decimal_verdict 4 m 65535 end (take (length s - at) (drop at s)) → at ≤ length s → length s < 2 ^ 64 → m < 100
    → Stands (λ (p : ℕ). p) s at (decimal_verdict 4 m 65535 end) x
placed_port r s at m end is found inside small few =
    let t = drop at s in
    let judge = decimal_verdict 4 m 65535 end in
    field_at (λ (p : ℕ). p) r s at Port m judge is (told_own 4 m r ∙ found) inside small
    (within_reach (λ (n : ℕ). n ≤ 65535) (length t) (judge t) (decimal_within 65535 end 4 m t))
    (few_more (2 + m) 1000 (judge t) (omega arith) (decimal_few 65535 end 4 m t))

value_within : {A : Type 0} (P : A → Type 0) (n at : ℕ) (v : Verdict A) {a : A} {end : ℕ} → accepted a end ≡ shift at v → Within P n v → P a
value_within P n at (accepted b m) {a} e w = let q : a ≡ b = cc in subst P (sym q) w.0
value_within P n at (more m) e w = absurd (cc)
value_within P n at (refused k p) e w = absurd (cc)

pub port_fits : (s : List ℕ) (at m end : ℕ) {p n : ℕ} → accepted p n ≡ shift at (decimal_verdict 4 m 65535 end (drop at s)) → p < 65536
port_fits s at m end e =
    let h = value_within (λ (n : ℕ). n ≤ 65535) _ at _ e (decimal_within 65535 end 4 m (drop at s)) in omega arith

-- ── the end of an UNKNOWN line ──
end_few : (m : ℕ) (s : List ℕ) → Few (2 + m) (line_verdict 5 m 93 s)
end_few m s = run_few (2 + m) 5 step_line (least_line m) most s (line false 93)
  where
    most : (q : Line) → least_line m q ≤ 2 + m
    most (line true left) = omega arith
    most (line false left) = omega arith

pub placed_end : {A : Type 0} (r : Scan A) (s : List ℕ) (at : ℕ) {x : Result (Found A) Stop} → x ≡ placed r at End 0
    → present 5 0 r ≡ rest_field.verdict (take (length s - at) (drop at s)) → at ≤ length s → length s < 2 ^ 64
    → Stands (λ (a : A). 0) s at rest_field.verdict x
placed_end {A} r s at is found inside small =
    let t = drop at s in
    field_at (λ (a : A). 0) r s at End 0 rest_field.verdict is (told_present 5 0 r ∙ found) inside small
    (reach-le rest_field t (rest_field.verdict t) refl)
    (few_more 2 1000 (rest_field.verdict t) (omega arith) (end_few 0 t))
