-- Lemmas on what specs/Whole.antt defines.
use Rattle.std.specs.Prelude.{◌≡◌, refl, Bool, true, false, List, [], ◌∷◌, ◌++◌, ◌↔◌, ℕ, zero, suc, ◌<◌, ltb, leb, length}
use Rattle.std.proofs.Common.{sym, ap, ◌∙◌, subst, append-nil, append_assoc, inl, inr, ⊎_elim, arith, leb-true, leb-false, length-append}
use Rattle.std.proofs.lemmas.Bool.{lt-leb}
use Rattle.exact.specs.Claim.{Verdict, accepted, more, refused}
use Rattle.exact.specs.Field.{flat, Exact}
use Rattle.exact.specs.Machine.{leaf, Move, moved, run}
use Rattle.exact.specs.Pick.{pick_by}
use Rattle.tlv.specs.Tlv.{WellFormed}
use Rattle.tlv.proofs.Room.{filled_fillable}
use Rattle.tlv.specs.RegionVerdict.{Due, type_byte, step, least_region, judge}
use Rattle.tlv.proofs.RegionLeaf.{no_bytes}
use Rattle.tlv.specs.Region.{Region}
use Rattle.tlv.proofs.RegionLemmas.{judge_exact}
use Rattle.tlv.specs.Whole.{Accepted}

module _ (k m n : ℕ) (s : List ℕ) (all : n ≡ length s) where
  exact_says : (v : Verdict ℕ) → Exact (leaf k (Region n)) (flat m) v s → Accepted v ↔ WellFormed s
  exact_says (accepted a size) x =
      let sizes = simp length-append at (ap length x.split) in
      let size = x.whole.0.0 in
      let whole : x.front ≡ s = sym (x.split ∙ ap (λ (t : List ℕ). x.front ++ t) (no_bytes x.rest (omega arith)) ∙ append-nil x.front) in
      (λ y. subst WellFormed whole x.whole.0.1, λ w. tt)
  exact_says (more j) x = (
    λ y. absurd y,
    λ w. x.none (record { front = s; rest = []; value = 0; split = sym (append-nil s); whole = ((sym all, w), refl) }),
  )
  exact_says (refused j p) x = (
    λ y. absurd y,
    λ w.
        x.dead
        (record {
          more_bytes = x.rest;
          begins = record {
            front = s;
            rest = [];
            value = 0;
            split = append_assoc x.front (x.byte ∷ []) x.rest ∙ sym x.split ∙ sym (append-nil s);
            whole = ((sym all, w), refl);
          };
        }),
  )

few : (k m n c : ℕ) (s : List ℕ) → n < 3 → Accepted (moved k (step (type_byte n) c) (run k step (least_region m) s)) → ⊥
few k m n c s h =
    pick_by (λ (x : Move Due ℕ). Accepted (moved k x (run k step (least_region m) s)) → ⊥) (ltb c 256) (λ t. rw (lt-leb 3 n h) (λ y. y)) (λ t y. y)

pub judged : (k m n : ℕ) (s : List ℕ) → n ≡ length s → Accepted (judge k m n s) ↔ WellFormed s
judged k m zero s all = exact_says k m 0 s all (judge k m 0 s) (judge_exact k m 0 (inl refl) s)
judged k m (suc n) [] all = absurd (omega arith)
judged k m (suc n) (c ∷ s) all = by (leb 3 (suc n)) refl
  where
    by : (b : Bool) → leb 3 (suc n) ≡ b → Accepted (judge k m (suc n) (c ∷ s)) ↔ WellFormed (c ∷ s)
    by true e = exact_says k m (suc n) (c ∷ s) all (judge k m (suc n) (c ∷ s)) (judge_exact k m (suc n) (inr (leb-true _ _ e)) (c ∷ s))
    by false e =
        let h : suc n < 3 = leb-false _ _ e in (
          λ y. absurd (few k m (suc n) c s h y),
          λ w. absurd (⊎_elim (λ z. omega arith) (λ z. omega arith) (filled_fillable (suc n) (c ∷ s) (sym all, w))),
        )
