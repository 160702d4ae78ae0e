-- What the stages of a reader rest on: a stage stands at the place `at` of the bytes s and reads the field that P judges, and then what
-- its value chooses.
use Rattle.std.specs.Prelude.{◌≡◌, List, ℕ, ◌+◌, ◌≤◌, length, drop}
use Rattle.std.proofs.Common.{sym, ap, ◌∙◌, subst, arith, length-drop, drop-drop}
use Rattle.exact.specs.Claim.{Verdict, accepted, refused}
use Rattle.exact.specs.Field.{Exact, after, shift}
use Rattle.exact.proofs.MachineLaws.{shift-shift}
use Rattle.exact.specs.Parser.{Parser}
use Rattle.exact.proofs.Parser.{reach-le}

module _ {A : Type 0} {w : A → ℕ} (P : Parser A w) (s : List ℕ) (at : ℕ) (inside : at ≤ length s) where
  -- an accepted field lies in the bytes
  pub stage_inside : (a : A) (n : ℕ) → accepted a n ≡ P.verdict (drop at s) → at + n ≤ length s
  stage_inside a n e =
      let h = reach-le P (drop at s) (accepted a n) e in
      let d = length-drop at s in
      omega arith

  -- and is a member of its language
  pub stage_member : (a : A) (n : ℕ) → accepted a n ≡ P.verdict (drop at s) → (f : List ℕ) × P.field.lang f a
  stage_member a n e =
      let x : Exact P.field w (accepted a n) (drop at s) =
      subst (λ (v : Verdict A). Exact P.field w v (drop at s)) (sym e) (P.exact (drop at s))
      in
      (x.front, x.whole)

  -- and so does the place of a refusal
  pub stage_place : (k p : ℕ) → refused k p ≡ P.verdict (drop at s) → at + p ≤ length s
  stage_place k p e =
      let h = reach-le P (drop at s) (refused k p) e in
      let d = length-drop at s in
      omega arith

module _ {A B : Type 0} {u : A → ℕ} {w : B → ℕ} (P : Parser A u) (Q : A → Parser B w) (s : List ℕ) (at : ℕ) where
  -- where the field's verdict is v; of the verdict on the field it is that of `(P then Q) fit`, whatever the fit
  abbrev pub on : Verdict A → Verdict B
  on v = shift at (after v (λ a r. (Q a).verdict r) (drop at s))

  pub stage_accepted : (a : A) (n : ℕ) (v : Verdict B) → accepted a n ≡ P.verdict (drop at s)
      → v ≡ shift (at + n) ((Q a).verdict (drop (at + n) s)) → v ≡ on (P.verdict (drop at s))
  stage_accepted a n v e h =
      h
      ∙ ap (λ (t : List ℕ). shift (at + n) ((Q a).verdict t)) (sym (drop-drop n at s))
      ∙ sym (shift-shift at n ((Q a).verdict (drop n (drop at s))))
      ∙ ap on e
