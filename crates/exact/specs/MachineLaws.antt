-- For proofs. A machine whose every step is sound for the language of what may follow, and whose leasts pass two tests of single steps, gives
-- exact verdicts.
use Rattle.std.specs.Prelude.{◌≡◌, refl, List, [], ◌∷◌, ◌++◌, ◌↔◌, ℕ, zero, suc, ◌+◌, ◌≤◌, length}
use Rattle.std.proofs.Common.{sym, ap, ◌∙◌, subst, arith}
use Rattle.exact.specs.Claim.{Verdict, accepted, more, refused}
use Rattle.exact.specs.Field.{Field, Begins, Alive, Opens, Least, least_opens, Exact, shift}
use Rattle.exact.specs.Machine.{leaf, Move, go, done, dead, moved, run, Ends, Runs}

-- what a step from q at the byte c has to say of the languages
abbrev pub Sound : {Q A : Type 0} (L : Q → List ℕ → A → Type 0) (Ok : Q → Type 0) (q : Q) (c : ℕ) → Move Q A → Type 0
Sound {A} L Ok q c (go p) = Ok p × ((f : List ℕ) (a : A) → L q (c ∷ f) a ↔ L p f a)
Sound {A} L Ok q c (done a) = L q (c ∷ []) a × ((f : List ℕ) (b : A) → L q (c ∷ f) b → (f ≡ []) × (b ≡ a))
Sound {A} L Ok q c dead = (f : List ℕ) (a : A) → L q (c ∷ f) a → ⊥

-- a step to an end by which the number n is attained
abbrev pub Attains : {Q A : Type 0} (least : Q → ℕ) (w : A → ℕ) (n : ℕ) → Move Q A → Type 0
Attains least w n (go p) = n ≡ suc (least p)
Attains least w n (done a) = n ≡ suc (w a)
Attains least w n dead = ⊥

-- a step that leads to no end in less
abbrev pub NoLess : {Q A : Type 0} (least : Q → ℕ) (w : A → ℕ) (n : ℕ) → Move Q A → Type 0
NoLess least w n (go p) = n ≤ suc (least p)
NoLess least w n (done a) = n ≤ suc (w a)
NoLess least w n dead = Unit {0}

-- the tests of a machine's leasts
pub record Leasts {Q A : Type 0} (Ok : Q → Type 0) (step : Q → ℕ → Move Q A) (least : Q → ℕ) (w : A → ℕ) : Type 0 where
  pub byte : (q : Q) → Ok q → ℕ
  pub attains : (q : Q) (ok : Ok q) → Attains least w (least q) (step q (byte q ok))
  pub no_less : (q : Q) (c : ℕ) → Ok q → NoLess least w (least q) (step q c)

-- one byte, and then the rest of the field
module _ {A : Type 0} (F G : Field A) (c : ℕ)
    (same : (f : List ℕ) (a : A) → F.lang (c ∷ f) a ↔ G.lang f a)
    (solid : (a : A) → F.lang [] a → ⊥)
    (part : (u : List ℕ) (k : ℕ) → G.at u k → F.at (c ∷ u) k)
  where
    down : (s r h : List ℕ) (a : A) → c ∷ s ≡ h ++ r → F.lang h a → (f : List ℕ) × (h ≡ c ∷ f) × (s ≡ f ++ r) × G.lang f a
    down s r [] a e l = absurd (solid a l)
    down s r (d ∷ f) a e l =
        let q : d ≡ c = cc in
        (f, ap (λ (x : ℕ). x ∷ f) q, cc, (same f a).0 (subst (λ (x : ℕ). F.lang (x ∷ f) a) q l))

    begins_down : (s : List ℕ) → Begins F (c ∷ s) → Begins G s
    begins_down s b =
        let p = down s b.rest b.front b.value b.split b.whole in
        record { front = p.0; rest = b.rest; value = b.value; split = p.2; whole = p.3 }

    alive_down : (s : List ℕ) → Alive F (c ∷ s) → Alive G s
    alive_down s v = record { more_bytes = v.more_bytes; begins = begins_down _ v.begins }

    opens_up : (s : List ℕ) → Opens G s → Opens F (c ∷ s)
    opens_up s o = record { tail = o.tail; value = o.value; whole = (same _ _).1 o.whole }

    least_up : (w : A → ℕ) (n : ℕ) (s : List ℕ) → Least G w n s → Least F w n (c ∷ s)
    least_up w n s o =
        record {
          tail = o.tail;
          value = o.value;
          whole = (same _ _).1 o.whole;
          size = o.size;
          below = λ t a l. o.below t a ((same _ _).0 l);
        }

    pub cons_exact : (w : A → ℕ) (v : Verdict A) (s : List ℕ) → Exact G w v s → Exact F w (shift 1 v) (c ∷ s)
    cons_exact w (accepted a n) s g =
        record {
          front = c ∷ g.front;
          rest = g.rest;
          split = ap (λ (t : List ℕ). c ∷ t) g.split;
          size = let e = g.size in omega arith;
          whole = (same _ _).1 g.whole;
          only = λ x y h b e l.
              let p = down (g.front ++ x) y h b e l in
              let q = g.only x y p.0 b p.2 p.3 in
              (p.1 ∙ ap (λ (t : List ℕ). c ∷ t) q.0, q.1);
        }
    cons_exact w (more n) s g = record { none = λ b. g.none (begins_down s b); least = least_up w n s g.least }
    cons_exact w (refused k p) s g =
        record {
          front = c ∷ g.front;
          byte = g.byte;
          rest = g.rest;
          split = ap (λ (t : List ℕ). c ∷ t) g.split;
          size = let e = g.size in omega arith;
          opens = opens_up _ g.opens;
          dead = λ v. g.dead (alive_down _ v);
          part = part _ _ g.part;
        }

-- A machine that has no empty field, steps soundly, and whose leasts pass their tests gives exact verdicts. That each good state can be completed
-- follows from the tests.
module _ {Q A : Type 0} (k : ℕ) (L : Q → List ℕ → A → Type 0) (Ok : Q → Type 0) (step : Q → ℕ → Move Q A) (least : Q → ℕ) (w : A → ℕ)
    (leasts : Leasts Ok step least w)
    (solid : (q : Q) → Ok q → (a : A) → L q [] a → ⊥)
    (sound : (q : Q) (c : ℕ) → Ok q → Sound L Ok q c (step q c))
  where
    abbrev Ending : ℕ → Q → Type 0
    Ending n q = (f : List ℕ) × (a : A) × L q f a × (length f + w a ≡ n)

    -- the bytes that attain the least
    ending_by : (n : ℕ) (q : Q) (c : ℕ) (m : Move Q A) → Sound L Ok q c m → Attains least w (suc n) m
        → ((p : Q) → Ok p → least p ≡ n → Ending n p) → Ending (suc n) q
    ending_by n q c (go p) t e rest =
        let r = rest p t.0 (omega arith) in
        (c ∷ r.0, r.1, (t.1 _ _).1 r.2, let d = r.3 in omega arith)
    ending_by n q c (done a) t e rest = (c ∷ [], a, t.0, omega arith)
    ending_by n q c dead t e rest = absurd e

    never_zero : (m : Move Q A) → Attains least w 0 m → ⊥
    never_zero (go p) e = omega arith
    never_zero (done a) e = omega arith
    never_zero dead e = e

    ending : (n : ℕ) (q : Q) → Ok q → least q ≡ n → Ending n q
    ending zero q ok e = absurd (never_zero (step q (leasts.byte q ok)) (subst (λ (j : ℕ). Attains least w j (step q (leasts.byte q ok))) e (leasts.attains q ok)))
    ending (suc n) q ok e =
        ending_by n q (leasts.byte q ok) (step q (leasts.byte q ok)) (sound q (leasts.byte q ok) ok)
        (subst (λ (j : ℕ). Attains least w j (step q (leasts.byte q ok))) e (leasts.attains q ok)) (ending n)

    -- no member counts less
    below_by : (q : Q) (c : ℕ) (f : List ℕ) (a : A) (m : Move Q A) → Sound L Ok q c m → NoLess least w (least q) m
        → ((p : Q) → Ok p → L p f a → least p ≤ length f + w a) → L q (c ∷ f) a → least q ≤ suc (length f) + w a
    below_by q c f a (go p) t h rest l = let r = rest p t.0 ((t.1 f a).0 l) in omega arith
    below_by q c f a (done b) t h rest l =
        let same : w a ≡ w b = ap w (t.1 f a l).1 in
        omega arith
    below_by q c f a dead t h rest l = absurd (t f a l)

    below : (f : List ℕ) (q : Q) (a : A) → Ok q → L q f a → least q ≤ length f + w a
    below [] q a ok l = absurd (solid q ok a l)
    below (c ∷ f) q a ok l = below_by q c f a (step q c) (sound q c ok) (leasts.no_less q c ok) (λ p ok' l'. below f p a ok' l') l

    pub least_at : (q : Q) → Ok q → Least (leaf k (L q)) w (least q) []
    least_at q ok =
        let o = ending (least q) q ok refl in
        record { tail = o.0; value = o.1; whole = o.2; size = o.3; below = λ t a l. below t q a ok l }

    none_empty : (q : Q) → Ok q → Begins (leaf k (L q)) [] → ⊥
    none_empty q ok b = empty b.front b.split b.whole
      where
        empty : (h : List ℕ) → [] ≡ h ++ b.rest → L q h b.value → ⊥
        empty [] e l = solid q ok _ l
        empty (d ∷ h) e l = let z : ◌≡◌ {A = ℕ} 0 1 = cc in omega arith

    -- the bytes after a byte, in a member that begins with it
    dead_at : (q : Q) (c : ℕ) → Ok q → ((f : List ℕ) (a : A) → L q (c ∷ f) a → ⊥) → (s h r : List ℕ) (a : A) → c ∷ s ≡ h ++ r → L q h a → ⊥
    dead_at q c ok d s [] r a e l = solid q ok a l
    dead_at q c ok d s (x ∷ h) r a e l =
        let p : x ≡ c = cc in
        d h a (subst (λ (y : ℕ). L q (y ∷ h) a) p l)

    only_at : (q : Q) (c : ℕ) (a : A) → Ok q → ((f : List ℕ) (b : A) → L q (c ∷ f) b → (f ≡ []) × (b ≡ a))
        → (s h r : List ℕ) (b : A) → c ∷ s ≡ h ++ r → L q h b → (h ≡ c ∷ []) × (b ≡ a)
    only_at q c a ok d s [] r b e l = absurd (solid q ok b l)
    only_at q c a ok d s (x ∷ h) r b e l =
        let p : x ≡ c = cc in
        let t = d h b (subst (λ (y : ℕ). L q (y ∷ h) b) p l) in
        (let t0 = t.0 in cc, t.1)

    moved_exact : (q : Q) (c : ℕ) (s : List ℕ) (m : Move Q A) → Ok q → Sound L Ok q c m
        → ((p : Q) → Ok p → Exact (leaf k (L p)) w (run k step least s p) s)
        → Exact (leaf k (L q)) w (moved k m (run k step least s)) (c ∷ s)
    moved_exact q c s (go p) ok t ih =
        cons_exact (leaf k (L q)) (leaf k (L p)) c t.1 (solid q ok) (λ u j e. e) w (run k step least s p) s (ih p t.0)
    moved_exact q c s (done a) ok t ih =
        record {
          front = c ∷ [];
          rest = s;
          split = refl;
          size = refl;
          whole = t.0;
          only = λ x y g b e l. only_at q c a ok t.1 x g y b e l;
        }
    moved_exact q c s dead ok t ih =
        record {
          front = [];
          byte = c;
          rest = s;
          split = refl;
          size = refl;
          opens = least_opens (least_at q ok);
          dead = λ v. dead_at q c ok t v.more_bytes v.begins.front v.begins.rest v.begins.value v.begins.split v.begins.whole;
          part = refl;
        }

    pub machine_exact : (s : List ℕ) (q : Q) → Ok q → Exact (leaf k (L q)) w (run k step least s q) s
    machine_exact [] q ok = record { none = none_empty q ok; least = least_at q ok }
    machine_exact (c ∷ s) q ok = moved_exact q c s (step q c) ok (sound q c ok) (machine_exact s)

-- what a member of the machine's language says where the step is known
module _ {Q A : Type 0} (step : Q → ℕ → Move Q A) (q : Q) (c : ℕ) where
  pub runs_at : (m : Move Q A) → step q c ≡ m → (f : List ℕ) (a : A) → Runs step q (c ∷ f) a ↔ Ends m (λ p. Runs step p f a) f a
  runs_at m e f a = (
    λ l. subst (λ (n : Move Q A). Ends n (λ p. Runs step p f a) f a) e l,
    λ l. subst (λ (n : Move Q A). Ends n (λ p. Runs step p f a) f a) (sym e) l,
  )

module _ {Q A : Type 0} (k : ℕ) (Ok : Q → Type 0) (step : Q → ℕ → Move Q A) (least : Q → ℕ) (w : A → ℕ)
    (leasts : Leasts Ok step least w)
    (keeps : (q : Q) (c : ℕ) (p : Q) → Ok q → step q c ≡ go p → Ok p)
  where
    runs_sound : (q : Q) (c : ℕ) (m : Move Q A) → step q c ≡ m → Ok q → Sound (Runs step) Ok q c m
    runs_sound q c (go p) e ok = (keeps q c p ok e, λ f a. runs_at step q c (go p) e f a)
    runs_sound q c (done b) e ok =
        ((runs_at step q c (done b) e [] b).1 (refl, refl), λ f a l. (runs_at step q c (done b) e f a).0 l)
    runs_sound q c dead e ok = λ f a l. (runs_at step q c dead e f a).0 l

    -- a machine is exact for its own language, where each good state can be completed and leads to good ones
    pub runs_exact : (s : List ℕ) (q : Q) → Ok q → Exact (leaf k (Runs step q)) w (run k step least s q) s
    runs_exact =
        machine_exact k (Runs step) Ok step least w leasts (λ q ok a l. l) (λ q c ok. runs_sound q c (step q c) refl ok)

    pub runs_least : (q : Q) → Ok q → Least (leaf k (Runs step q)) w (least q) []
    runs_least =
        least_at k (Runs step) Ok step least w leasts (λ q ok a l. l) (λ q c ok. runs_sound q c (step q c) refl ok)
