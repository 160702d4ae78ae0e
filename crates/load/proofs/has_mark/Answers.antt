-- What std says of the mark at the front, byte by byte.
use Rattle.std.proofs.Common.{ℕ, ◌≡◌, refl, sym, ap, ◌∙◌, Bool, true, false, List, [], ◌∷◌, eqb}
use Rattle.std.specs.Prelude.{◌&&◌}
use Rattle.std.specs.List.{starts_with}
use Rattle.std.proofs.lemmas.Bool.Decides.{Decides-eqb}
use Rattle.stored_form.specs.Loading.{has_mark}
use Rattle.load.proofs.has_mark.Goals as goal

both : (x y : Bool) → (x ≡ true → y ≡ true) → (y ≡ true → x ≡ true) → x ≡ y
both true true p q = refl
both true false p q = sym (p refl)
both false true p q = q refl
both false false p q = refl

swapped : (a b : ℕ) → eqb a b ≡ eqb b a
swapped a b = both _ _ (λ t. (Decides-eqb b a).1 (sym ((Decides-eqb a b).0 t))) (λ t. (Decides-eqb a b).1 (sym ((Decides-eqb b a).0 t)))

three : (x y z : Bool) → (x && (y && (z && true))) ≡ ((x && y) && z)
three false y z = refl
three true false z = refl
three true true false = refl
three true true true = refl

starts_by : (s : List ℕ) → starts_with eqb s (0x43 ∷ 0x53 ∷ 0x52 ∷ []) ≡ has_mark s
starts_by [] = refl
starts_by (a ∷ []) = ap (λ x. x && false) (swapped 0x43 a) ∙ three (eqb a 0x43) false false
starts_by (a ∷ b ∷ []) =
    ap (λ x. x && (eqb 0x53 b && false)) (swapped 0x43 a) ∙ ap (λ y. eqb a 0x43 && (y && false)) (swapped 0x53 b) ∙ three (eqb a 0x43) (eqb b 0x53) false
starts_by (a ∷ b ∷ c ∷ rest) =
    ap (λ x. x && (eqb 0x53 b && (eqb 0x52 c && true))) (swapped 0x43 a) ∙ ap (λ y. eqb a 0x43 && (y && (eqb 0x52 c && true))) (swapped 0x53 b)
    ∙ ap (λ z. eqb a 0x43 && (eqb b 0x53 && (z && true))) (swapped 0x52 c) ∙ three (eqb a 0x43) (eqb b 0x53) (eqb c 0x52)

pub returns : goal.returns
returns c = c.starts_with.ensures.value ∙ starts_by c.args.s.now
