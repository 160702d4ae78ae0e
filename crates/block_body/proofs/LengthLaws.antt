-- The verdict from the length on. Where it is not whole: what is missing of it, and the shortest block that it may frame.
use mathlib.Core.Path.{◌≡◌, refl, sym, ap, ◌∙◌}
use mathlib.Core.Bool.{Bool, true}
use mathlib.Core.List.{List, [], ◌∷◌}
use Prim.Native.Nat.{ℕ, suc, ◌+◌, ◌≤◌, ◌<◌}
use native.Mathlib.Omega.{arith}
use lib.Dec.{ltb}
use lib.ListN.{length, drop, get_or, length-drop, drop_of_length-le}
use lib.Seq.{drop-cons}
use borrow.Author.Tests.{ltb-true, ltb-false}
use Rattle.exact.specs.Claim.{Verdict, accepted, more, AllBytes}
use Rattle.exact.specs.Field.{after, shift}
use Rattle.exact.specs.Network.{number, number_at}
use Rattle.exact.specs.Pick.{pick_by}
use Rattle.exact.proofs.Stage.{stage_accepted}
use Rattle.header.specs.Header.{Header}
use Rattle.fields.specs.LineFields.{Headers}
use Rattle.fields.specs.Lengths.{lowest}
use Rattle.fields.proofs.LengthField.{length_field}
use Rattle.block_body.specs.Shortest.{shortest}
use Rattle.block_body.proofs.Takes.{bytes_drop}
use Rattle.block_body.proofs.Leaves.{number_one, number_full}
use Rattle.block_body.proofs.Parts.{number_at_lem}

module _ (good : ℕ → Bool) (a : ℕ) (small : a < 256) (lowest-good : (h : ℕ) → good (number h (lowest a h)) ≡ true)
    (least : (n : ℕ) → good n ≡ true → a ≤ n) (rest : ℕ → Headers) (s : List ℕ) (bytes : AllBytes s)
  where
    abbrev length_of : List ℕ → Verdict ℕ
    length_of = (length_field good a small lowest-good least).verdict

    abbrev on : List ℕ → Verdict Header
    on t = shift 14 (after (length_of t) (λ n r. (rest n).verdict r) t)

    none : length s ≤ 14 → more (2 + a) ≡ on (drop 14 s)
    none h = ap more (omega arith) ∙ ap on (sym (drop_of_length-le s h))

    high : 14 < length s → length s < 16 → more (1 + number (get_or s 14 0) (lowest a (get_or s 14 0))) ≡ on (drop 14 s)
    high h few =
        let one : drop 14 s ≡ get_or s 14 0 ∷ [] =
        drop-cons s 14 0 h ∙ ap (λ (t : List ℕ). get_or s 14 0 ∷ t) (drop_of_length-le s {i = 15} (omega arith))
        in
        let byte = (rw one at (bytes_drop 14 s bytes)).0 in
        ap more (omega arith)
        ∙ sym
        (ap on one
        ∙ ap (λ (v : Verdict ℕ). shift 14 (after v (λ n r. (rest n).verdict r) (get_or s 14 0 ∷ [])))
        (number_one good 8 _ (λ c. suc (number c (lowest a c))) (get_or s 14 0) byte))

    pub length_short : length s < 16 → more (shortest a s) ≡ on (drop 14 s)
    length_short few =
        pick_by (λ (n : ℕ). more n ≡ on (drop 14 s)) (ltb 14 (length s)) (λ t. high (ltb-true _ _ t) few) (λ t. none (ltb-false _ _ t))

    pub length_fits : 16 ≤ length s → good (number_at s 14) ≡ true → shift 16 ((rest (number_at s 14)).verdict (drop 16 s)) ≡ on (drop 14 s)
    length_fits head g =
        let left = length-drop 14 s in
        let here = number_at_lem s 14 in
        let taken : accepted (number_at s 14) 2 ≡ length_of (drop 14 s) =
        ap (λ (n : ℕ). accepted n 2) here
        ∙ sym (number_full good 8 _ (λ c. suc (number c (lowest a c))) true (drop 14 s) (bytes_drop 14 s bytes) (omega arith) (ap good (sym here) ∙ g))
        in
        stage_accepted (length_field good a small lowest-good least) rest s 14 (number_at s 14) 2 _ taken refl
