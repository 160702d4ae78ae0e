-- The theorem behind demand 3: where a parser's members are the whole headers and its numbers are those of the places, its verdict is what the
-- claim allows, and nothing else is.
use Rattle.std.specs.Prelude.{◌≡◌, refl, List, [], ◌∷◌, ◌++◌, ◌⊎◌, ◌↔◌, ℕ, suc, ◌+◌, ◌≤◌, ◌<◌, length, take, drop, get_or}
use Rattle.std.proofs.Common.{sym, ap, ap₂, ◌∙◌, subst, append_assoc, append-nil, inl, inr, ⊎_elim, add-one, arith, length-append, take-append-drop, take_at, length-take-le, take-suc}
use Rattle.std.proofs.Math.Seq.{append_snoc, split_at}
use Rattle.exact.specs.Claim.{Verdict, accepted, more, refused, AllBytes, Heads, Live, Fewest, Claim}
use Rattle.exact.specs.Field.{Field, Begins, Alive, Opens, Least, least_opens, flat, Only, Accepts, Refuses, Exact}
use Rattle.exact.specs.Sequence.{begins_more, fronts}
use Rattle.exact.specs.Machine.{leaf}
use Rattle.exact.specs.Parser.{Parser, InBytes, same_exact}
use Rattle.exact.proofs.Parser.{bytes_back}
use Rattle.exact.proofs.Unique.{begins_whole, begins_alive, alive_opens, refused_dead, unique_of}

-- two places in one text: the same, or one before the other
places : (u w r t : List ℕ) (c d : ℕ) → u ++ c ∷ r ≡ w ++ d ∷ t
    → (u ≡ w) ⊎ (((m : List ℕ) × (w ≡ (u ++ c ∷ []) ++ m)) ⊎ ((m : List ℕ) × (u ≡ (w ++ d ∷ []) ++ m)))
places [] [] r t c d e = inl refl
places [] (y ∷ w) r t c d e = inr (inl (w, cc))
places (x ∷ u) [] r t c d e = inr (inr (u, cc))
places (x ∷ u) (y ∷ w) r t c d e =
    let h : x ≡ y = cc in
    ⊎_elim (λ q. inl (ap₂ ◌∷◌ h q))
    (⊎_elim (λ q. inr (inl (q.0, ap₂ ◌∷◌ (sym h) q.1))) (λ q. inr (inr (q.0, ap₂ ◌∷◌ h q.1))))
    (places u w r t c d cc)

module _ {A : Type 0} (Whole : List ℕ → A → Type 0) (number : List ℕ → ℕ)
    (in_bytes : (f : List ℕ) (a : A) → Whole f a → AllBytes f)
  where
    abbrev header : Field A
    header = record { lang = Whole; at = λ u k. k ≡ number u }

    begins_heads : (s : List ℕ) (n : ℕ) (a : A) → Heads Whole n a s → Begins header s
    begins_heads s n a w =
        record { front = take n s; rest = drop n s; value = a; split = sym (take-append-drop n s); whole = w.1 }

    heads_begins : (s : List ℕ) (b : Begins header s) → Heads Whole (length b.front) b.value s
    heads_begins s b = (
      rw b.split (simp length-append (omega arith)),
      rw (b.split, take_at b.front b.rest (length b.front) refl) b.whole,
    )

    opens_live : (s : List ℕ) → Opens header s → Live Whole s
    opens_live s o =
        let b = begins_whole header (s ++ o.tail) o.value o.whole in
        (o.tail, bytes_back s o.tail (in_bytes _ _ o.whole), length (s ++ o.tail), o.value, heads_begins (s ++ o.tail) b)

    live_alive : (s : List ℕ) → Live Whole s → Alive header s
    live_alive s l = record { more_bytes = l.0; begins = begins_heads _ l.2 l.3 l.4 }

    front_is : (k p : ℕ) (s : List ℕ) (x : Refuses header k p s) → take p s ≡ x.front
    front_is k p s x = rw x.split (take_at x.front (x.byte ∷ x.rest) p x.size)

    -- the least of a header, behind which nothing is asked, is the fewest bytes that finish it
    least_fewest : (n : ℕ) (s : List ℕ) → Least header (flat 0) n s → Fewest Whole n s
    least_fewest n s o = (
      (o.tail, bytes_back s o.tail (in_bytes _ _ o.whole), (let e = o.size in omega arith), o.value, o.whole),
      λ m few x. let h = o.below x.0 x.3 x.4 in let e = x.2 in omega arith,
    )

    fewest_least : (n : ℕ) (s : List ℕ) → Fewest Whole n s → Least header (flat 0) n s
    fewest_least n s x =
        record {
          tail = x.0.0;
          value = x.0.3;
          whole = x.0.4;
          size = let e = x.0.2 in omega arith;
          below = λ t a l.
              let no-fewer : length t < n → ⊥ = λ few. x.1 (length t) few (t, bytes_back s t (in_bytes _ _ l), refl, a, l) in
              omega arith;
        }

    -- an exact verdict claims what it should
    claims : (v : Verdict A) (s : List ℕ) → Exact header (flat 0) v s → Claim Whole number v s
    claims (accepted a n) s x =
        rw (← x.size) (heads_begins s (record { front = x.front; rest = x.rest; value = a; split = x.split; whole = x.whole }))
    claims (more n) s x = (λ m a w. x.none (begins_heads s m a w), least_fewest n s x.least)
    claims (refused k p) s x =
        let front-eq : take p s ≡ x.front = front_is k p s x in
        let next-eq : take (p + 1) s ≡ x.front ++ x.byte ∷ [] =
        rw (x.split, ← (append_snoc x.front x.byte x.rest))
        (take_at (x.front ++ x.byte ∷ []) x.rest (p + 1) (let e = x.size in simp length-append (omega arith)))
        in (
          let e = x.size in rw x.split (simp length-append (omega arith)),
          rw front-eq (opens_live x.front x.opens),
          rw next-eq (λ l. x.dead (live_alive _ l)),
          rw front-eq x.part,
        )

    -- a continuation that begins with a whole header is by bytes, or needs none
    alive_live : (s : List ℕ) → Alive header s → Live Whole s
    alive_live s v =
        let b = v.begins in
        ⊎_elim (λ q. opens_live s (record { tail = q.0; value = b.value; whole = subst (λ (f : List ℕ). Whole f b.value) q.1 b.whole }))
        (λ q. ([], tt, length b.front, b.value, rw append-nil (heads_begins s (record { front = b.front; rest = q.0; value = b.value; split = q.1; whole = b.whole }))))
        (fronts s v.more_bytes b.front b.rest b.split)

    -- where no whole header has come, a continuation that begins with one gives one that is one
    live_opens : (s : List ℕ) → (Begins header s → ⊥) → Live Whole s → Opens header s
    live_opens s none l =
        let b = begins_heads (s ++ l.0) l.2 l.3 l.4 in
        ⊎_elim (λ q. record { tail = q.0; value = b.value; whole = subst (λ (f : List ℕ). Whole f b.value) q.1 b.whole })
        (λ q. absurd (none (record { front = b.front; rest = q.0; value = b.value; split = q.1; whole = b.whole })))
        (fronts s l.0 b.front b.rest b.split)

    -- back again, where a whole header begins no other
    exactly : ((f : List ℕ) (a : A) → Whole f a → Only header f a) → (v : Verdict A) (s : List ℕ) → Claim Whole number v s → Exact header (flat 0) v s
    exactly unique (accepted a n) s x =
        record {
          front = take n s;
          rest = drop n s;
          split = sym (take-append-drop n s);
          size = length-take-le n s x.0;
          whole = x.1;
          only = unique _ a x.1;
        }
    exactly unique (more n) s x =
        record { none = λ b. x.0 _ _ (heads_begins s b); least = fewest_least n s x.1 }
    exactly unique (refused k p) s x =
        let next-eq : take (p + 1) s ≡ take p s ++ get_or s p 0 ∷ [] = rw (add-one, take-suc s p 0 x.0) in
        let dead : Alive header (take p s ++ get_or s p 0 ∷ []) → ⊥ = rw (← next-eq) λ a. x.2 (alive_live _ a) in
        record {
          front = take p s;
          byte = get_or s p 0;
          rest = drop (suc p) s;
          split = split_at s p 0 x.0;
          size = length-take-le p s (let h = x.0 in omega arith);
          opens = live_opens _ (λ b. dead (begins_more header _ _ b)) x.1;
          dead = dead;
          part = x.3;
        }

    accepts_begins : {a : A} {n : ℕ} {s : List ℕ} → Accepts header a n s → Begins header s
    accepts_begins {a} x = record { front = x.front; rest = x.rest; value = a; split = x.split; whole = x.whole }

    -- the bytes determine the verdict
    determined : (v w : Verdict A) (s : List ℕ) → Exact header (flat 0) v s → Exact header (flat 0) w s → v ≡ w
    determined (accepted a n) (accepted b m) s v w =
        let q = v.only v.rest w.rest w.front b (sym v.split ∙ w.split) w.whole in
        let e : m ≡ n = sym w.size ∙ ap length q.0 ∙ v.size in
        ap₂ accepted (sym q.1) (sym e)
    determined (accepted a n) (more j) s v w = absurd (w.none (accepts_begins v))
    determined (accepted a n) (refused k p) s v w = absurd (refused_dead header w (begins_alive header s (accepts_begins v)))
    determined (more j) (accepted b m) s v w = absurd (v.none (accepts_begins w))
    determined (more i) (more j) s v w =
        let x = v.least in
        let y = w.least in
        let d = x.below y.tail y.value y.whole in
        let e = y.below x.tail x.value x.whole in
        let p = x.size in
        let q = y.size in
        ap more (omega arith)
    determined (more j) (refused k p) s v w = absurd (refused_dead header w (alive_opens header s [] (rw append-nil (least_opens v.least))))
    determined (refused k p) (accepted b m) s v w = absurd (refused_dead header v (begins_alive header s (accepts_begins w)))
    determined (refused k p) (more j) s v w = absurd (refused_dead header v (alive_opens header s [] (rw append-nil (least_opens w.least))))
    determined (refused j p) (refused k q) s v w =
        ⊎_elim (λ e. ap₂ refused (v.part ∙ ap number e ∙ sym w.part) (sym v.size ∙ ap length e ∙ w.size))
        (⊎_elim (λ m. absurd (v.dead (alive_opens header _ m.0 (subst (Opens header) m.1 w.opens))))
        (λ m. absurd (w.dead (alive_opens header _ m.0 (subst (Opens header) m.1 v.opens)))))
        (places v.front w.front v.rest w.rest v.byte w.byte (sym v.split ∙ w.split))

    added : (v : Verdict A) (s t : List ℕ) → ((n : ℕ) → v ≡ more n → ⊥) → Exact header (flat 0) v s → Exact header (flat 0) v (s ++ t)
    added (accepted a n) s t fixed x =
        record {
          front = x.front;
          rest = x.rest ++ t;
          split = rw x.split (simp append_assoc);
          size = x.size;
          whole = x.whole;
          only = x.only;
        }
    added (more n) s t fixed x = absurd (fixed n refl)
    added (refused k p) s t fixed x =
        record {
          front = x.front;
          byte = x.byte;
          rest = x.rest ++ t;
          split = rw x.split (simp append_assoc);
          size = x.size;
          opens = x.opens;
          dead = x.dead;
          part = x.part;
        }

    module _ (P : Parser A (flat 0)) (same : (f : List ℕ) (a : A) → P.field.lang f a ↔ Whole f a)
        (parts : (u : List ℕ) (k : ℕ) → Opens P.field u → (Begins P.field u → ⊥) → P.field.at u k → k ≡ number u)
      where
        exact_at : (s : List ℕ) → Exact header (flat 0) (P.verdict s) s
        exact_at s = same_exact P.field header same parts (flat 0) (P.verdict s) s (P.exact s)

        unique_at : (f : List ℕ) (a : A) → Whole f a → Only header f a
        unique_at f a = unique_of header (flat 0) (P.verdict f) f a (exact_at f)

        -- the parser's verdict is one that the claim allows
        pub claim_holds : (s : List ℕ) → Claim Whole number (P.verdict s) s
        claim_holds s = claims (P.verdict s) s (exact_at s)

        -- and the claim allows no other
        pub claim_only : (v : Verdict A) (s : List ℕ) → Claim Whole number v s → v ≡ P.verdict s
        claim_only v s x = determined v (P.verdict s) s (exactly unique_at v s x) (exact_at s)

        -- bytes added behind accepted or refused ones change nothing
        pub claim_stays : (v : Verdict A) (s t : List ℕ) → ((n : ℕ) → v ≡ more n → ⊥) → Claim Whole number v s → Claim Whole number v (s ++ t)
        claim_stays v s t fixed x = claims v (s ++ t) (added v s t fixed (exactly unique_at v s x))

        -- a whole header has one value, and begins no other
        pub whole_only : (f g x y : List ℕ) (a b : A) → f ++ x ≡ g ++ y → Whole f a → Whole g b → (g ≡ f) × (b ≡ a)
        whole_only f g x y a b e w v = unique_at f a w x y g b e v

    -- no continuation needs a number of 256 or more
    pub bytes_suffice : (s t : List ℕ) (n : ℕ) (a : A) → Heads Whole n a (s ++ t) → Live Whole s
    bytes_suffice s t n a w = alive_live s (record { more_bytes = t; begins = begins_heads (s ++ t) n a w })

    -- told more n, no header that may follow ends before n further bytes
    pub claim_within : (s t : List ℕ) (n h : ℕ) (a : A) → Claim Whole number (more n) s → Heads Whole h a (s ++ t) → length s + n ≤ h
    claim_within s t n h a x y =
        let size : length (take h (s ++ t)) ≡ h = length-take-le h (s ++ t) y.0 in
        ⊎_elim
        (λ q.
        let ends : h ≡ length s + length q.0 = sym size ∙ ap length q.1 ∙ length-append s q.0 in
        let least = (fewest_least n s x.1).below q.0 a (subst (λ (f : List ℕ). Whole f a) q.1 y.1) in
        omega arith)
        (λ q. absurd (x.0 _ _ (heads_begins s (record { front = take h (s ++ t); rest = q.0; value = a; split = q.1; whole = y.1 }))))
        (fronts s t (take h (s ++ t)) (drop h (s ++ t)) (sym (take-append-drop h (s ++ t))))

-- an exact verdict on a leaf claims what it should: each of its places has the leaf's number
pub leaf_claims : {A : Type 0} (k : ℕ) (L : List ℕ → A → Type 0) → InBytes (leaf k L) → (s : List ℕ) {v w : Verdict A} → v ≡ w
    → Exact (leaf k L) (flat 0) w s → Claim L (λ u. k) v s
leaf_claims k L in_bytes s {v} e x = claims L (λ u. k) in_bytes v s (rw e x)
