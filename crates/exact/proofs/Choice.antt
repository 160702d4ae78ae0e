-- Lemmas on what specs/Choice.antt defines.
use Rattle.std.specs.Prelude.{◌≡◌, refl, Bool, true, false, List, [], ◌∷◌, ◌++◌, ◌⊎◌, ℕ, ◌+◌, ◌≤◌, leb, length}
use Rattle.std.proofs.Common.{sym, ◌∙◌, subst, inl, inr, ⊎_elim, arith}
use Rattle.exact.specs.Pick.{pick, pick_by, never, smaller, smaller_first, smaller_second}
use Rattle.exact.specs.Claim.{Verdict, accepted, more, refused}
use Rattle.exact.specs.Field.{Field, Begins, Opens, Least, Exact}
use Rattle.exact.specs.Choice.{AltAt, alt, choose, pure}

pub pure_exact : {A : Type 0} (w : A → ℕ) (a : A) (s : List ℕ) → Exact (pure a) w (accepted a 0) s
pure_exact w a s =
    record {
      front = [];
      rest = s;
      split = refl;
      size = refl;
      whole = (refl, refl);
      only = λ x y g b e l. l;
    }

-- H at texts that begin with c is F
module _ {A : Type 0} (F H : Field A) (c : ℕ)
    (sub : (f : List ℕ) (a : A) → F.lang f a → H.lang f a)
    (back : (f : List ℕ) (a : A) → H.lang (c ∷ f) a → F.lang (c ∷ f) a)
    (solid : (a : A) → H.lang [] a → ⊥)
    (part-here : (k : ℕ) → F.at [] k → H.at [] k)
    (part : (u : List ℕ) (k : ℕ) → F.at (c ∷ u) k → H.at (c ∷ u) k)
  where
    narrow : (s h r : List ℕ) (a : A) → c ∷ s ≡ h ++ r → H.lang h a → F.lang h a
    narrow s [] r a e l = absurd (solid a l)
    narrow s (d ∷ h) r a e l =
        let q : c ≡ d = cc in
        subst (λ (x : ℕ). F.lang (x ∷ h) a) q (back h a (subst (λ (x : ℕ). H.lang (x ∷ h) a) (sym q) l))

    narrow_begins : (s t : List ℕ) → s ≡ c ∷ t → Begins H s → Begins F s
    narrow_begins s t e b =
        record { front = b.front; rest = b.rest; value = b.value; split = b.split; whole = narrow t b.front b.rest b.value (sym e ∙ b.split) b.whole }

    widen : (s : List ℕ) → Opens F s → Opens H s
    widen s o = record { tail = o.tail; value = o.value; whole = sub _ _ o.whole }

    -- a member of F that begins a text that begins with c begins with c
    heads : (s f r x : List ℕ) (a : A) → c ∷ s ≡ f ++ r → F.lang f a → (z : List ℕ) × (f ++ x ≡ c ∷ z)
    heads s [] r x a e l = absurd (solid a (sub [] a l))
    heads s (d ∷ f) r x a e l = (f ++ x, cc)

    heads_place : (s u r t : List ℕ) (b : ℕ) → c ∷ s ≡ u ++ b ∷ r → (z : List ℕ) × ((u ++ b ∷ []) ++ t ≡ c ∷ z)
    heads_place s [] r t b e = (t, cc)
    heads_place s (d ∷ u) r t b e = (u ++ b ∷ [] ++ t, cc)

    part_at : (s u r : List ℕ) (b : ℕ) (k : ℕ) → c ∷ s ≡ u ++ b ∷ r → F.at u k → H.at u k
    part_at s [] r b k e p = part-here k p
    part_at s (d ∷ u) r b k e p =
        let q : c ≡ d = cc in
        subst (λ (x : ℕ). H.at (x ∷ u) k) q (part u k (subst (λ (x : ℕ). F.at (x ∷ u) k) (sym q) p))

    widen_least : (w : A → ℕ) (n : ℕ) (s : List ℕ) → Least F w n (c ∷ s) → Least H w n (c ∷ s)
    widen_least w n s o =
        record {
          tail = o.tail;
          value = o.value;
          whole = sub _ _ o.whole;
          size = o.size;
          below = λ t a l. o.below t a (back _ a l);
        }

    pub first_exact : (w : A → ℕ) (v : Verdict A) (s : List ℕ) → Exact F w v (c ∷ s) → Exact H w v (c ∷ s)
    first_exact w (accepted a n) s v =
        record {
          front = v.front;
          rest = v.rest;
          split = v.split;
          size = v.size;
          whole = sub _ _ v.whole;
          only = λ x y g b e l.
              let z = heads s v.front v.rest x a v.split v.whole in
              v.only x y g b e (narrow z.0 g y b (sym z.1 ∙ e) l);
        }
    first_exact w (more n) s v =
        record { none = λ b. v.none (narrow_begins _ s refl b); least = widen_least w n s v.least }
    first_exact w (refused k p) s v =
        record {
          front = v.front;
          byte = v.byte;
          rest = v.rest;
          split = v.split;
          size = v.size;
          opens = widen _ v.opens;
          dead = λ x.
              let z = heads_place s v.front v.rest x.more_bytes v.byte v.split in
              v.dead (record { more_bytes = x.more_bytes; begins = narrow_begins _ z.0 z.1 x.begins });
          part = part_at s v.front v.rest v.byte k v.split v.part;
        }

module _ {A : Type 0} (first : ℕ → Bool) (F G : Field A) (w : A → ℕ) (m n : ℕ) (least-F : Least F w m []) (least-G : Least G w n []) where
  pub alt_least : Least (alt first F G) w (smaller m n) []
  alt_least = pick_by (λ (j : ℕ). j ≤ m → j ≤ n → Least (alt first F G) w j []) (leb m n)
      (λ e low high. record {
        tail = least-F.tail;
        value = least-F.value;
        whole = inl least-F.whole;
        size = least-F.size;
        below = below low high;
      })
      (λ e low high. record {
        tail = least-G.tail;
        value = least-G.value;
        whole = inr least-G.whole;
        size = least-G.size;
        below = below low high;
      })
      (smaller_first m n) (smaller_second m n)
    where
      below : {j : ℕ} → j ≤ m → j ≤ n → (t : List ℕ) (a : A) → F.lang t a ⊎ G.lang t a → j ≤ length t + w a
      below low high t a (inl l) = let h = least-F.below t a l in omega arith
      below low high t a (inr l) = let h = least-G.below t a l in omega arith

module _ {A : Type 0} (first : ℕ → Bool) (F G : Field A) (w : A → ℕ) (m n : ℕ) (v x : List ℕ → Verdict A)
    (exact-F : (s : List ℕ) → Exact F w (v s) s) (exact-G : (s : List ℕ) → Exact G w (x s) s)
    (solid-F : (a : A) → F.lang [] a → ⊥) (solid-G : (a : A) → G.lang [] a → ⊥)
    (first-F : (c : ℕ) (f : List ℕ) (a : A) → F.lang (c ∷ f) a → first c ≡ true)
    (first-G : (c : ℕ) (f : List ℕ) (a : A) → G.lang (c ∷ f) a → first c ≡ false)
    (least-F : Least F w m []) (least-G : Least G w n [])
  where
    solid : (a : A) → F.lang [] a ⊎ G.lang [] a → ⊥
    solid a = ⊎_elim (solid-F a) (solid-G a)

    none : (h r : List ℕ) (a : A) → [] ≡ h ++ r → F.lang h a ⊎ G.lang h a → ⊥
    none [] r a e l = solid a l
    none (d ∷ h) r a e l = let z : ◌≡◌ {A = ℕ} 0 1 = cc in omega arith

    by : (c : ℕ) (s : List ℕ) (b : Bool) → first c ≡ b → Exact (alt first F G) w (pick b (v (c ∷ s)) (x (c ∷ s))) (c ∷ s)
    by c s true e =
        first_exact F (alt first F G) c (λ f a l. inl l)
        (λ f a. ⊎_elim (λ l. l) (λ l. never (sym (first-G c f a l) ∙ e)))
        solid (λ k p. inl p) (λ u k p. rw (e, AltAt) p) w (v (c ∷ s)) s (exact-F (c ∷ s))
    by c s false e =
        first_exact G (alt first F G) c (λ f a l. inr l)
        (λ f a. ⊎_elim (λ l. never (sym e ∙ first-F c f a l)) (λ l. l))
        solid (λ k p. inr p) (λ u k p. rw (e, AltAt) p) w (x (c ∷ s)) s (exact-G (c ∷ s))

    pub alt_exact : (s : List ℕ) → Exact (alt first F G) w (choose first m n v x s) s
    alt_exact [] =
        record {
          none = λ b. none b.front b.rest b.value b.split b.whole;
          least = alt_least first F G w m n least-F least-G;
        }
    alt_exact (c ∷ s) = by c s (first c) refl
