-- The number of a place, carried through the laws: behind the bytes `before`, a field numbers its places as `number` does.
use Rattle.std.specs.Prelude.{◌≡◌, refl, Bool, true, false, ◌&&◌, List, [], ◌∷◌, ◌++◌, ◌⊎◌, ℕ, eqb}
use Rattle.std.proofs.Common.{sym, ap, ◌∙◌, subst, subst₂, append_assoc, append-nil, inl, inr, ⊎_elim, arith, eqb-true}
use Rattle.std.proofs.lemmas.List.{append_cancel_left}
use Rattle.std.proofs.Math.Seq.{append_snoc}
use Rattle.exact.specs.Claim.{AllBytes}
use Rattle.exact.specs.Field.{Field, Begins, Opens, least_opens, seq}
use Rattle.exact.specs.Machine.{leaf}
use Rattle.exact.specs.Pick.{pick, never}
use Rattle.exact.proofs.Pick.{both}
use Rattle.exact.specs.Parser.{Parser, Starts}
use Rattle.exact.proofs.ParserLemmas.{just, either}
use Rattle.exact.proofs.Unique.{unique}
use Rattle.exact.specs.Sequence.{fronts}
use Rattle.exact.specs.LiteralLaws.{text}
use Rattle.exact.specs.Literal.{Literal}

module _ (number : List ℕ → ℕ) where
  abbrev pub Numbered : {A : Type 0} → Field A → List ℕ → Type 0
  Numbered F before = (u : List ℕ) (k : ℕ) → Opens F u → (Begins F u → ⊥) → F.at u k → k ≡ number (before ++ u)

  pub numbered_just : {A : Type 0} (w : A → ℕ) (a : A) (before : List ℕ) → Numbered (just w a).field before
  numbered_just w a before u k o none x = absurd x

  -- a leaf, from what holds of the proper prefixes of its members
  pub numbered_leaf : {A : Type 0} (j : ℕ) (L : List ℕ → A → Type 0) (before : List ℕ)
      → ((u : List ℕ) (c : ℕ) (t : List ℕ) (a : A) → L (u ++ c ∷ t) a → j ≡ number (before ++ u)) → Numbered (leaf j L) before
  numbered_leaf {A} j L before proper u k o none x = x ∙ by o.tail o.whole
    where
      by : (t : List ℕ) → L (u ++ t) o.value → j ≡ number (before ++ u)
      by [] l = absurd (none (record { front = u ++ []; rest = []; value = o.value; split = simp append-nil; whole = l }))
      by (c ∷ t) l = proper u c t o.value l

  -- a literal, by a test of its proper prefixes that is computed
  abbrev pub all_places : ℕ → List ℕ → List ℕ → Bool
  all_places k before [] = true
  all_places k before (x ∷ w) = eqb (number before) k && all_places k (before ++ x ∷ []) w

  all_places_lem : (k : ℕ) (before w : List ℕ) → all_places k before w ≡ true → (u : List ℕ) (c : ℕ) (t : List ℕ) → u ++ c ∷ t ≡ w → k ≡ number (before ++ u)
  all_places_lem k before [] e [] c t s = let z : ◌≡◌ {A = ℕ} 0 1 = cc in absurd (omega arith)
  all_places_lem k before [] e (y ∷ u) c t s = let z : ◌≡◌ {A = ℕ} 0 1 = cc in absurd (omega arith)
  all_places_lem k before (x ∷ w) e [] c t s =
      sym (eqb-true (number before) k (both (eqb (number before) k) _ e).0) ∙ ap number (sym (append-nil before))
  all_places_lem k before (x ∷ w) e (y ∷ u) c t s =
      let h : y ≡ x = cc in
      all_places_lem k (before ++ x ∷ []) w (both (eqb (number before) k) _ e).1 u c t (cc)
      ∙ ap number (append_snoc before x u ∙ ap (λ (z : ℕ). before ++ z ∷ u) (sym h))

  pub numbered_text : {A : Type 0} (k : ℕ) (u : A → ℕ) (a : A) (x : ℕ) (w : List ℕ) (bytes : AllBytes (x ∷ w)) (before : List ℕ)
      → all_places k before (x ∷ w) ≡ true → Numbered (text k u a x w bytes).field before
  numbered_text k u a x w bytes before e =
      numbered_leaf k (Literal a (x ∷ w)) before (λ u c t b l. all_places_lem k before (x ∷ w) e u c t l.0)

  module _ {A B : Type 0} {u : A → ℕ} {w : B → ℕ} (P : Parser A u) (Q : A → Parser B w) (before : List ℕ) where
    abbrev F : Field A
    F = P.field

    abbrev G : A → Field B
    G a = (Q a).field

    opens_part : (u : List ℕ) → (Begins F u → ⊥) → Opens (seq F G) u → Opens F u
    opens_part u none o =
        let w = o.whole in
        ⊎_elim (λ q. record { tail = q.0; value = w.mid; whole = subst (λ (f : List ℕ). F.lang f w.mid) q.1 w.first })
        (λ q. absurd (none (record { front = w.front; rest = q.0; value = w.mid; split = q.1; whole = w.first })))
        (fronts u o.tail w.front w.back w.split)

    opens_rest : (front back : List ℕ) (a : A) → F.lang front a → Opens (seq F G) (front ++ back) → Opens (G a) back
    opens_rest front back a l o =
        let w = o.whole in
        let whole-eq : front ++ (back ++ o.tail) ≡ w.front ++ w.back = sym (append_assoc front back o.tail) ∙ w.split in
        let q = unique P front a l (back ++ o.tail) w.back w.front w.mid whole-eq w.first in
        let rest : back ++ o.tail ≡ w.back =
        append_cancel_left front _ _ (whole-eq ∙ ap (λ (f : List ℕ). f ++ w.back) q.0)
        in
        record {
          tail = o.tail;
          value = o.value;
          whole = subst₂ (λ (b : A) (f : List ℕ). (G b).lang f o.value) q.1 (sym rest) w.second;
        }

    begins_rest : (front back : List ℕ) (a : A) → F.lang front a → Begins (G a) back → Begins (seq F G) (front ++ back)
    begins_rest front back a l b =
        record {
          front = front ++ b.front;
          rest = b.rest;
          value = b.value;
          split = rw b.split (simp append_assoc);
          whole = record { front = front; back = b.front; mid = a; split = refl; first = l; second = b.whole };
        }

    pub numbered_then : Numbered F before → ((a : A) (f : List ℕ) → F.lang f a → Numbered (G a) (before ++ f)) → Numbered (seq F G) before
    numbered_then first second u k o none (inl x) = first u k (opens_part u x.0 o) x.0 x.1
    numbered_then first second u k o none (inr x) =
        let o' : Opens (seq F G) (x.front ++ x.back) = subst (Opens (seq F G)) x.split o in
        let none' : Begins (seq F G) (x.front ++ x.back) → ⊥ = subst (λ (f : List ℕ). Begins (seq F G) f → ⊥) x.split none in
        second x.mid x.front x.first x.back k (opens_rest x.front x.back x.mid x.first o')
        (λ b. none' (begins_rest x.front x.back x.mid x.first b)) x.part
        ∙ ap number (append_assoc before x.front x.back ∙ ap (λ (f : List ℕ). before ++ f) (sym x.split))

  module _ {A : Type 0} {w : A → ℕ} (first : ℕ → Bool) (P Q : Parser A w) (st-P : Starts first true P.field) (st-Q : Starts first false Q.field)
      (before : List ℕ) (num-P : Numbered P.field before) (num-Q : Numbered Q.field before)
    where
      none_at : (F : Field A) → ((a : A) → F.lang [] a → ⊥) → Begins F [] → ⊥
      none_at F solid b = by b.front b.split b.whole
        where
          by : (f : List ℕ) → [] ≡ f ++ b.rest → F.lang f b.value → ⊥
          by [] e l = solid _ l
          by (c ∷ f) e l = let z : ◌≡◌ {A = ℕ} 0 1 = cc in omega arith

      here : (k : ℕ) → P.field.at [] k ⊎ Q.field.at [] k → k ≡ number (before ++ [])
      here k (inl x) = num-P [] k (least_opens P.opens) (none_at P.field st-P.solid) x
      here k (inr x) = num-Q [] k (least_opens Q.opens) (none_at Q.field st-Q.solid) x

      abbrev H : Field A
      H = (either first P Q st-P st-Q).field

      opens_P : (c : ℕ) (u : List ℕ) → first c ≡ true → Opens H (c ∷ u) → Opens P.field (c ∷ u)
      opens_P c u e o =
          record {
            tail = o.tail;
            value = o.value;
            whole = ⊎_elim (λ l. l) (λ l. never (sym (st-Q.head c (u ++ o.tail) _ l) ∙ e)) o.whole;
          }

      opens_Q : (c : ℕ) (u : List ℕ) → first c ≡ false → Opens H (c ∷ u) → Opens Q.field (c ∷ u)
      opens_Q c u e o =
          record {
            tail = o.tail;
            value = o.value;
            whole = ⊎_elim (λ l. never (sym e ∙ st-P.head c (u ++ o.tail) _ l)) (λ l. l) o.whole;
          }

      later : (b : Bool) (c : ℕ) (u : List ℕ) (k : ℕ) → first c ≡ b → Opens H (c ∷ u) → (Begins H (c ∷ u) → ⊥)
          → pick b (P.field.at (c ∷ u) k) (Q.field.at (c ∷ u) k) → k ≡ number (before ++ c ∷ u)
      later true c u k e o none x =
          num-P (c ∷ u) k (opens_P c u e o)
          (λ b. none (record { front = b.front; rest = b.rest; value = b.value; split = b.split; whole = inl b.whole })) x
      later false c u k e o none x =
          num-Q (c ∷ u) k (opens_Q c u e o)
          (λ b. none (record { front = b.front; rest = b.rest; value = b.value; split = b.split; whole = inr b.whole })) x

      pub numbered_either : Numbered (either first P Q st-P st-Q).field before
      numbered_either [] k o none x = here k x
      numbered_either (c ∷ u) k o none x = later (first c) c u k refl o none x
