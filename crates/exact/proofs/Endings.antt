-- A text with the byte that ends it, by its first byte.
use Rattle.std.specs.Prelude.{◌≡◌, refl, List, [], ◌∷◌, ◌++◌, ◌⊎◌, ℕ}
use Rattle.std.proofs.Common.{ap, subst, inl, inr, arith}
use Rattle.exact.specs.Ended.{Ended}

module _ {A : Type 0} (L : List ℕ → A → Type 0) (end : ℕ) where
  pub ended_solid : (a : A) → Ended L end [] a → ⊥
  ended_solid a l = by l.text l.split
    where
      by : (t : List ℕ) → [] ≡ t ++ end ∷ [] → ⊥
      by [] e = let z : ◌≡◌ {A = ℕ} 0 1 = cc in omega arith
      by (c ∷ t) e = let z : ◌≡◌ {A = ℕ} 0 1 = cc in omega arith

  -- the text is empty and the byte ends it, or the byte is the text's first
  pub ended_first : (c : ℕ) (f : List ℕ) (a : A) → Ended L end (c ∷ f) a
      → ((c ≡ end) × (f ≡ []) × L [] a) ⊎ Ended (λ t b. L (c ∷ t) b) end f a
  ended_first c f a l = by l.text l.split l.whole
    where
      by : (t : List ℕ) → c ∷ f ≡ t ++ end ∷ [] → L t a → ((c ≡ end) × (f ≡ []) × L [] a) ⊎ Ended (λ t b. L (c ∷ t) b) end f a
      by [] e w = inl (cc, cc, w)
      by (d ∷ t) e w =
          let q : d ≡ c = cc in
          inr (record { text = t; split = cc; whole = subst (λ (x : ℕ). L (x ∷ t) a) q w })

  pub ended_more : (c : ℕ) (f : List ℕ) (a : A) → Ended (λ t b. L (c ∷ t) b) end f a → Ended L end (c ∷ f) a
  ended_more c f a l =
      record { text = c ∷ l.text; split = ap (λ (x : List ℕ). c ∷ x) l.split; whole = l.whole }

  pub ended_last : (a : A) → L [] a → Ended L end (end ∷ []) a
  ended_last a w = record { text = []; split = refl; whole = w }

pub ended_map : {A : Type 0} (L M : List ℕ → A → Type 0) (end : ℕ) → ((f : List ℕ) (a : A) → L f a → M f a)
    → (f : List ℕ) (a : A) → Ended L end f a → Ended M end f a
ended_map L M end on f a l = record { text = l.text; split = l.split; whole = on _ _ l.whole }
