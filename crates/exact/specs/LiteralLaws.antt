-- For proofs. The leaf of one literal text.
use Rattle.std.specs.Prelude.{◌≡◌, refl, ℕ, eqb}
use Rattle.std.proofs.Common.{sym, ap, subst, arith, eqb-true, eq-eqb}
use mathlib.Core.List.{List, [], ◌∷◌}
use Rattle.std.proofs.lemmas.Bool.{eqb-false}
use Rattle.exact.specs.Claim.{AllBytes}
use Rattle.exact.specs.Field.{Least, Exact}
use Rattle.exact.specs.MachineLaws.{machine_exact, least_at, Sound, Attains, NoLess, Leasts}
use Rattle.exact.specs.Machine.{leaf}
use Rattle.exact.specs.Pick.{pick_by}
use Rattle.exact.specs.Parser.{Parser}
use Rattle.exact.specs.Literal.{Literal, next_literal, step_literal, least_literal, literal}

abbrev NonEmpty : List ℕ → Type 0
NonEmpty [] = ⊥
NonEmpty (x ∷ w) = Unit {0}

module _ {A : Type 0} (k : ℕ) (v : A) where
  solid_literal : (w : List ℕ) → NonEmpty w → (a : A) → Literal v w [] a → ⊥
  solid_literal [] ok a l = ok
  solid_literal (x ∷ w) ok a l = let e = l.0 in let z : ◌≡◌ {A = ℕ} 0 1 = cc in omega arith

  next_literal_lem : (c x : ℕ) (w : List ℕ) → c ≡ x → Sound (Literal v) NonEmpty (x ∷ w) c (next_literal v w)
  next_literal_lem c x [] e = ((ap (λ (y : ℕ). y ∷ []) e, refl), λ f b l. (let h = l.0 in cc, l.1))
  next_literal_lem c x (y ∷ w) e =
      (tt, λ f b. (λ l. (let h = l.0 in cc, l.1), λ l. (let h = l.0 in cc, l.1)))

  sound_literal : (w : List ℕ) (c : ℕ) → NonEmpty w → Sound (Literal v) NonEmpty w c (step_literal v w c)
  sound_literal [] c ok = absurd ok
  sound_literal (x ∷ w) c ok =
      pick_by (Sound (Literal v) NonEmpty (x ∷ w) c) (eqb c x) (λ t. next_literal_lem c x w (eqb-true c x t))
      (λ t f a l. eqb-false c x t (let h = l.0 in cc))

module _ {A : Type 0} (v : A) (u : A → ℕ) where
  byte_literal : (w : List ℕ) → NonEmpty w → ℕ
  byte_literal [] ok = absurd ok
  byte_literal (x ∷ w) ok = x

  next_attains : (x : ℕ) (w : List ℕ) → Attains (least_literal (u v)) u (least_literal (u v) (x ∷ w)) (next_literal v w)
  next_attains x [] = omega arith
  next_attains x (y ∷ w) = omega arith

  attains_literal : (w : List ℕ) (ok : NonEmpty w) → Attains (least_literal (u v)) u (least_literal (u v) w) (step_literal v w (byte_literal w ok))
  unfolding byte_literal
  attains_literal [] ok = absurd ok
  attains_literal (x ∷ w) ok = rw (eq-eqb x x refl) (next_attains x w)

  next_no_less : (x : ℕ) (w : List ℕ) → NoLess (least_literal (u v)) u (least_literal (u v) (x ∷ w)) (next_literal v w)
  next_no_less x [] = omega arith
  next_no_less x (y ∷ w) = omega arith

  no_less_literal : (w : List ℕ) (c : ℕ) → NonEmpty w → NoLess (least_literal (u v)) u (least_literal (u v) w) (step_literal v w c)
  no_less_literal [] c ok = absurd ok
  no_less_literal (x ∷ w) c ok =
      pick_by (NoLess (least_literal (u v)) u (least_literal (u v) (x ∷ w))) (eqb c x) (λ t. next_no_less x w) (λ t. tt)

  leasts_literal : Leasts NonEmpty (step_literal v) (least_literal (u v)) u
  leasts_literal = record { byte = byte_literal; attains = attains_literal; no_less = no_less_literal }

module _ {A : Type 0} (k : ℕ) (v : A) (u : A → ℕ) where
  pub literal_exact : (w s : List ℕ) → Exact (leaf k (Literal v w)) u (literal k (u v) v w s) s
  literal_exact [] s =
      record {
        front = [];
        rest = s;
        split = refl;
        size = refl;
        whole = (refl, refl);
        only = λ x y g b e l. l;
      }
  literal_exact (x ∷ w) s =
      machine_exact k (Literal v) NonEmpty (step_literal v) (least_literal (u v)) u (leasts_literal v u) (solid_literal k v) (sound_literal k v) s
      (x ∷ w) tt

  pub literal_least : (x : ℕ) (w : List ℕ) → Least (leaf k (Literal v (x ∷ w))) u (least_literal (u v) (x ∷ w)) []
  literal_least x w =
      least_at k (Literal v) NonEmpty (step_literal v) (least_literal (u v)) u (leasts_literal v u) (solid_literal k v) (sound_literal k v) (x ∷ w) tt

-- any weight will do: there is but one value
abbrev pub text : {A : Type 0} (k : ℕ) (u : A → ℕ) → A → (x : ℕ) (w : List ℕ) → AllBytes (x ∷ w) → Parser A u
text k u a x w in_bytes =
    record {
      field = leaf k (Literal a (x ∷ w));
      verdict = literal k (u a) a (x ∷ w);
      exact = literal_exact k a u (x ∷ w);
      least = least_literal (u a) (x ∷ w);
      opens = literal_least k a u x w;
      bytes = λ f b l. subst AllBytes (sym l.0) in_bytes;
    }
