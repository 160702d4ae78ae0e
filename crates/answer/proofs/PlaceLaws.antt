-- What a field at a place answers, and how the fields behind it take it up.
use Rattle.std.specs.Prelude.{◌≡◌, refl, List, [], ℕ, ◌+◌, ◌-◌, ◌≤◌, ◌<◌, ◌^◌, length, take, drop, Result, Ok, Err, IfOk}
use Rattle.std.proofs.Common.{sym, ap, ap₂, ◌∙◌, subst, arith, length-drop, drop_of_length-le}
use Rattle.exact.specs.Claim.{Verdict, accepted, more, refused}
use Rattle.exact.specs.Field.{shift, after}
use Rattle.exact.specs.Parser.{Parser, reach}
use Rattle.exact.proofs.Parser.{tail_all}
use Rattle.exact.specs.Verdicts.{Few}
use Rattle.exact.proofs.Stage.{on, stage_accepted}
use Rattle.exact.specs.declared.Scan.{Scan}
use Rattle.exact.specs.declared.Scan.TheVariants as scan
use Rattle.exact.specs.Scans.{told, present, Inside}
use Rattle.answer.specs.declared.Refusal.{Refusal}
use Rattle.answer.specs.declared.Found.{Found}
use Rattle.answer.specs.declared.Stop.{Stop}
use Rattle.answer.specs.declared.Stop.TheVariants as stop
use Rattle.answer.specs.Answers.{number_of}
use Rattle.answer.specs.Headers.{told_stop}
use Rattle.answer.specs.Places.{placed, told_found, told_scan}

-- a scan by its own value, and one of a field that says nothing but that it is there
pub told_own : {A : Type 0} (k m : ℕ) (r : Scan A) → told_scan (λ a. a) k m r ≡ told k m r
told_own k m (scan.Accepted a n) = refl
told_own k m (scan.More n) = refl
told_own k m (scan.Refused p) = refl

pub told_present : {A : Type 0} (k m : ℕ) (r : Scan A) → told_scan (λ a. 0) k m r ≡ present k m r
told_present k m (scan.Accepted a n) = refl
told_present k m (scan.More n) = refl
told_present k m (scan.Refused p) = refl

-- where the sums are numbers of the machine, the answer is the scan's verdict, from the place on
pub placed_told : {A B : Type 0} (g : A → B) (r : Scan A) (at : ℕ) (k : Refusal) (m : ℕ) {v : Verdict B} → told_scan g (number_of k) m r ≡ v
    → at + reach v < 2 ^ 64 → Few 1000 v → told_found g (placed r at k m) ≡ shift at v
placed_told {A = A} {B = B} g r at k m {v} e inside few =
    subst (λ (w : Verdict B). told_found g (placed r at k m) ≡ shift at w) e
    (by r (subst (λ (w : Verdict B). at + reach w < 2 ^ 64) (sym e) inside) (subst (Few 1000) (sym e) few))
  where
    by : (x : Scan A) → at + reach (told_scan g (number_of k) m x) < 2 ^ 64 → Few 1000 (told_scan g (number_of k) m x)
        → told_found g (placed x at k m) ≡ shift at (told_scan g (number_of k) m x)
    by (scan.Accepted a n) h f = ap (accepted (g a)) (omega arith)
    by (scan.More n) h f = ap more (omega arith)
    by (scan.Refused p) h f = ap (refused (number_of k)) (omega arith)

-- what is found ends in the bytes of which the verdict speaks
pub found_end : {A B : Type 0} (g : A → B) (x : Result (Found A) Stop) (at n : ℕ) (v : Verdict B) → told_found g x ≡ shift at v → at + reach v ≤ n
    → IfOk x (λ f. f.end ≤ n)
found_end g (Ok f) at n (accepted b m) e h = let q : f.end ≡ at + m = cc in omega arith
found_end g (Ok f) at n (more m) e h = absurd (cc)
found_end g (Ok f) at n (refused k p) e h = absurd (cc)
found_end g (Err e) at n v h i = tt

-- a field that a scan of the bytes from `at` on finds: its verdict from there on, and it ends in the bytes
pub field_at : {A B : Type 0} (g : A → B) (r : Scan A) (s : List ℕ) (at : ℕ) (k : Refusal) (m : ℕ) (judge : List ℕ → Verdict B) {x : Result (Found A) Stop}
    → x ≡ placed r at k m → told_scan g (number_of k) m r ≡ judge (take (length s - at) (drop at s)) → at ≤ length s → length s < 2 ^ 64
    → reach (judge (drop at s)) ≤ length (drop at s) → Few 1000 (judge (drop at s))
    → (told_found g x ≡ shift at (judge (drop at s))) × IfOk x (λ f. f.end ≤ length s)
field_at {A} {B} g r s at k m judge {x} is found inside small within few = (answer, found_end g x at (length s) (judge (drop at s)) answer room)
  where
    room : at + reach (judge (drop at s)) ≤ length s
    room = omega (arith, length-drop at s)

    answer : told_found g x ≡ shift at (judge (drop at s))
    answer = ap (told_found g) is ∙ placed_told g r at k m (found ∙ ap judge (tail_all at s)) (omega (arith, room)) few

-- the same of a scan that says how far it reaches and how much it asks
pub field_in : {A B : Type 0} (g : A → B) (r : Scan A) (s : List ℕ) (at most : ℕ) (k : Refusal) (m : ℕ) (judge : List ℕ → Verdict B) {x : Result (Found A) Stop}
    → x ≡ placed r at k m → told_scan g (number_of k) m r ≡ judge (take (length s - at) (drop at s)) → at ≤ length s → length s < 2 ^ 64
    → Inside (length (take (length s - at) (drop at s))) most r → most + m < 1000
    → (told_found g x ≡ shift at (judge (drop at s))) × IfOk x (λ f. f.end ≤ length s)
field_in {A} {B} g r s at most k m judge is found inside small within few =
    field_at g r s at k m judge is found inside small
    (subst (λ (t : List ℕ). reach (judge t) ≤ length t) (tail_all at s)
    (subst (λ (v : Verdict B). reach v ≤ length tail) found (reaches r within)))
    (subst (λ (t : List ℕ). Few 1000 (judge t)) (tail_all at s) (subst (Few 1000) found (asks r within)))
  where
    tail : List ℕ
    tail = take (length s - at) (drop at s)

    reaches : (y : Scan A) → Inside (length tail) most y → reach (told_scan g (number_of k) m y) ≤ length tail
    reaches (scan.Accepted a n) h = h
    reaches (scan.More n) h = omega arith
    reaches (scan.Refused p) h = omega arith

    asks : (y : Scan A) → Inside (length tail) most y → Few 1000 (told_scan g (number_of k) m y)
    asks (scan.Accepted a n) h = tt
    asks (scan.More n) h = omega arith
    asks (scan.Refused p) h = tt

-- where no byte is left, the answer is that to no bytes
pub at_end : {A : Type 0} (judge : List ℕ → Verdict A) (s : List ℕ) (at : ℕ) → length s ≤ at → shift at (judge []) ≡ shift at (judge (drop at s))
at_end judge s at h = ap (λ (t : List ℕ). shift at (judge t)) (sym (drop_of_length-le s h))

-- a field that is not whole answers for the fields behind it
pub stops : {A B : Type 0} (e : Stop) (at : ℕ) (v : Verdict A) (next : A → List ℕ → Verdict B) (t : List ℕ) → told_stop e ≡ shift at v
    → told_stop e ≡ shift at (after v next t)
stops (stop.More n) at (accepted a m) next t h = absurd (cc)
stops (stop.More n) at (more m) next t h = cc
stops (stop.More n) at (refused k p) next t h = absurd (cc)
stops (stop.Refused j q) at (accepted a m) next t h = absurd (cc)
stops (stop.Refused j q) at (more m) next t h = absurd (cc)
stops (stop.Refused j q) at (refused k p) next t h = cc

-- behind one that is whole, the answer is that of the fields from its end on
pub goes_on : {A B : Type 0} {u : A → ℕ} {w : B → ℕ} (P : Parser A u) (Q : A → Parser B w) (s : List ℕ) (at : ℕ) {a : A} {end : ℕ}
    → accepted a end ≡ shift at (P.verdict (drop at s)) → shift end ((Q a).verdict (drop end s)) ≡ on P Q s at (P.verdict (drop at s))
goes_on {A} P Q s at {a} {end} e = by (P.verdict (drop at s)) refl e
  where
    by : (v : Verdict A) → v ≡ P.verdict (drop at s) → accepted a end ≡ shift at v
        → shift end ((Q a).verdict (drop end s)) ≡ on P Q s at (P.verdict (drop at s))
    by (accepted b n) is h =
        let value : a ≡ b = cc in
        let place : end ≡ at + n = cc in
        stage_accepted P Q s at b n _ is (ap₂ (λ (x : A) (m : ℕ). shift m ((Q x).verdict (drop m s))) value place)
    by (more m) is h = absurd (cc)
    by (refused k p) is h = absurd (cc)
