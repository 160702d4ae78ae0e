-- For proofs. What has been read where the machine stands: every step keeps it, so what the machine reads to its end is an address.
use Rattle.std.specs.Prelude.{◌≡◌, refl, true, List, [], ◌∷◌, ◌++◌, ℕ, ◌+◌, ◌*◌, ◌≤◌, ◌<◌, eqb, ltb, length}
use Rattle.std.proofs.Common.{sym, ap, ◌∙◌, subst, append_assoc, append-nil, inl, inr, arith, length-append, eqb-true, ltb-true}
use Rattle.std.proofs.lemmas.Bool.{eqb-false}
use Rattle.exact.specs.Ended.{Ended}
use Rattle.exact.specs.Machine.{Move, go, done, dead, Ends, Runs}
use Rattle.exact.specs.Pick.{pick_by}
use Rattle.hex_digits.specs.Hex.{hex_of}
use Rattle.ip6.specs.Address.{HexDigits, hex_number, Group, Groups, Side, Address}
use Rattle.ip6.specs.Machine.{Gathered, plain, gapped, push, room, State, start, digits, behind, colon, gap, finish, follow, inside, step}

-- ── what a move leads to ──
abbrev pub Leads : {Q A : Type 0} → (Q → Type 0) → (A → Type 0) → Move Q A → Type 0
Leads P R (go q) = P q
Leads P R (done a) = R a
Leads P R dead = Unit {0}

-- what holds of the bytes read at each state, and of those read to an end
module _ {Q A : Type 0} (step : Q → ℕ → Move Q A) (P : Q → List ℕ → Type 0) (R : List ℕ → A → Type 0)
    (leads : (q : Q) (p : List ℕ) (c : ℕ) → P q p → Leads (λ n. P n (p ++ c ∷ [])) (R (p ++ c ∷ [])) (step q c))
  where
    onward : (p f : List ℕ) (c : ℕ) (a : A) (m : Move Q A) → Leads (λ n. P n (p ++ c ∷ [])) (R (p ++ c ∷ [])) m
        → ((q : Q) → P q (p ++ c ∷ []) → Runs step q f a → R (p ++ c ∷ [] ++ f) a) → Ends m (λ q. Runs step q f a) f a → R (p ++ c ∷ f) a
    onward p f c a (go q) h ih r = rw (append_assoc p (c ∷ []) f) at (ih q h r)
    onward p f c a (done b) h ih r = rw (r.0, r.1) h
    onward p f c a dead h ih r = absurd r

    pub runs_read : (f p : List ℕ) (q : Q) (a : A) → P q p → Runs step q f a → R (p ++ f) a
    runs_read [] p q a h r = absurd r
    runs_read (c ∷ f) p q a h r =
        onward p f c a (step q c) (leads q p c h) (λ n k. runs_read f (p ++ c ∷ []) n a k) r

-- ── the text of the groups so far ──
-- groups, each with a colon behind it
abbrev pub Before : List ℕ → List ℕ → Type 0
Before p [] = p ≡ []
Before p (v ∷ l) = (f : List ℕ) × (p ≡ f ++ 58 ∷ []) × Groups f (v ∷ l)

-- a group begins behind p
abbrev pub Opening : Gathered → List ℕ → Type 0
Opening (plain l) p = Before p l
Opening (gapped l r) p = (left : List ℕ) × (tail : List ℕ) × (p ≡ left ++ 58 ∷ 58 ∷ tail) × Side left l × Before tail r

-- a group ends p, or nothing has been read
abbrev pub Closed : Gathered → List ℕ → Type 0
Closed (plain l) p = Side p l
Closed (gapped l r) p = (left : List ℕ) × (right : List ℕ) × (p ≡ left ++ 58 ∷ 58 ∷ right) × Side left l × Groups right r

-- a colon ends p
abbrev pub Led : Gathered → List ℕ → Type 0
Led (plain []) p = p ≡ 58 ∷ []
Led (plain (v ∷ l)) p = Opening (plain (v ∷ l)) p
Led (gapped l r) p = Opening (gapped l r) p

-- as many groups as an address may have
abbrev pub Fits : Gathered → Type 0
Fits (plain l) = length l ≤ 8
Fits (gapped l r) = length l + length r ≤ 7

-- in a group, or where one begins
pub record Inside (s : Gathered) (n v : ℕ) (p : List ℕ) : Type 0 where
  pub front : List ℕ
  pub text : List ℕ
  pub split : p ≡ front ++ text
  pub open_at : Opening s front
  pub hex : HexDigits text
  pub size : length text ≡ n
  pub few : n ≤ 4
  pub value : v ≡ hex_number 0 text
  pub room_here : room s ≡ true

abbrev pub Reads : State → List ℕ → Type 0
Reads start p = p ≡ []
Reads (digits s n v) p = Inside s n v p
Reads (behind s) p = Closed s p × Fits s
Reads (colon s) p = Led s p × (room s ≡ true)
Reads (gap l) p = (left : List ℕ) × (p ≡ left ++ 58 ∷ 58 ∷ []) × Side left l × (length l ≤ 7)

-- some bytes lead to the state
abbrev pub Good : State → Type 0
Good q = (p : List ℕ) × Reads q p

-- ── one group more ──
snoc : (l f g : List ℕ) (v : ℕ) → Groups f l → Group g v → Groups (f ++ 58 ∷ g) (l ++ v ∷ [])
snoc [] f g v a b = absurd a
snoc (w ∷ []) f g v a b = (f, g, simp append_assoc, a, b)
snoc (w ∷ x ∷ l) f g v a b =
    (a.0, a.1 ++ 58 ∷ g, rw a.2 (simp append_assoc), a.3, snoc (x ∷ l) a.1 g v a.4 b)

grouped : (l p g : List ℕ) (v : ℕ) → Before p l → Group g v → Groups (p ++ g) (l ++ v ∷ [])
grouped [] p g v a b = rw a b
grouped (w ∷ l) p g v a b = rw (a.1, append_assoc) (snoc (w ∷ l) a.0 g v a.2 b)

side : (l f : List ℕ) → Groups f l → Side f l
side [] f a = absurd a
side (v ∷ l) f a = a

closes : (s : Gathered) (p g : List ℕ) (v : ℕ) → Opening s p → Group g v → Closed (push s v) (p ++ g)
closes (plain l) p g v a b = side (l ++ v ∷ []) (p ++ g) (grouped l p g v a b)
closes (gapped l r) p g v a b =
    (a.0, a.1 ++ g, rw a.2 (simp append_assoc), a.3, grouped r a.1 g v a.4 b)

-- a colon behind them
led : (s : Gathered) (p : List ℕ) → Closed s p → Led s (p ++ 58 ∷ [])
led (plain []) p a = rw a
led (plain (v ∷ l)) p a = (p, refl, a)
led (gapped l []) p a = absurd a.4
led (gapped l (v ∷ r)) p a = (a.0, a.1 ++ 58 ∷ [], rw a.2 (simp append_assoc), a.3, (a.1, refl, a.4))

pub fits_push : (s : Gathered) (v : ℕ) → room s ≡ true → Fits (push s v)
fits_push (plain l) v h = let w = ltb-true (length l) 8 h in simp length-append (omega arith)
fits_push (gapped l r) v h = let w = ltb-true (length l + length r) 7 h in simp length-append (omega arith)

-- ── a step keeps it ──
digits_snoc : (ds : List ℕ) (c : ℕ) → HexDigits ds → hex_of c < 16 → HexDigits (ds ++ c ∷ [])
digits_snoc [] c a h = (h, tt)
digits_snoc (d ∷ ds) c a h = (a.0, digits_snoc ds c a.1 h)

number_snoc : (ds : List ℕ) (c v : ℕ) → hex_number v (ds ++ c ∷ []) ≡ hex_number v ds * 16 + hex_of c
number_snoc [] c v = refl
number_snoc (d ∷ ds) c v = number_snoc ds c (v * 16 + hex_of d)

whole_group : (s : Gathered) (n v : ℕ) (p : List ℕ) (a : Inside s n v p) → (n ≡ 0 → ⊥) → Group a.text v
whole_group s n v p a more =
    let z = a.size in
    let f = a.few in
    record { digits = a.hex; some = omega arith; few = omega arith; value = a.value }

groups_of : (l f : List ℕ) → Side f l → 0 < length l → Groups f l
groups_of [] f a h = absurd (omega arith)
groups_of (v ∷ l) f a h = a

module _ (end : ℕ) where
  -- what is read with one byte more
  abbrev Now : List ℕ → Move State (List ℕ) → Type 0
  Now p = Leads (λ q. Reads q p) (Ended Address end p)

  now_finish : (s : Gathered) (p : List ℕ) → Closed s p → Fits s → Now (p ++ end ∷ []) (finish s)
  now_finish (plain l) p a h =
      pick_by (Now (p ++ end ∷ [])) (eqb (length l) 8)
      (λ t.
      let e = eqb-true (length l) 8 t in
      record { text = p; split = refl; whole = inl (record { groups = groups_of l p a (omega arith); eight = e }) })
      (λ t. tt)
  now_finish (gapped l r) p a h =
      record {
        text = p;
        split = refl;
        whole = inr (record {
          left = a.0;
          right = a.1;
          before = l;
          behind = r;
          split = rw a.2 (simp append_assoc);
          left_side = a.3;
          right_side = side r a.1 a.4;
          seven = h;
          value = refl;
        });
      }

  now_follow : (s : Gathered) (p : List ℕ) (c : ℕ) → Closed s p → Fits s → Now (p ++ c ∷ []) (follow end s c)
  now_follow s p c a h =
      pick_by (Now (p ++ c ∷ [])) (eqb c 58)
      (λ t. pick_by (Now (p ++ c ∷ [])) (room s) (λ r. (rw (eqb-true c 58 t) (led s p a), r)) (λ r. tt))
      (λ t. pick_by (Now (p ++ c ∷ [])) (eqb c end) (λ e. rw (eqb-true c end e) (now_finish s p a h)) (λ e. tt))

  now_inside : (s : Gathered) (n v : ℕ) (p : List ℕ) (c : ℕ) → Inside s n v p → Now (p ++ c ∷ []) (inside end s n v c)
  now_inside s n v p c a =
      pick_by (Now (p ++ c ∷ [])) (ltb (hex_of c) 16)
      (λ t.
      pick_by (Now (p ++ c ∷ [])) (ltb n 4)
      (λ few.
      record {
        front = a.front;
        text = a.text ++ c ∷ [];
        split = rw a.split (simp append_assoc);
        open_at = a.open_at;
        hex = digits_snoc a.text c a.hex (ltb-true (hex_of c) 16 t);
        size = let z = a.size in simp length-append (omega arith);
        few = let w = ltb-true n 4 few in omega arith;
        value = ap (λ (x : ℕ). x * 16 + hex_of c) a.value ∙ sym (number_snoc a.text c 0);
        room_here = a.room_here;
      })
      (λ few. tt))
      (λ t.
      pick_by (Now (p ++ c ∷ [])) (eqb n 0) (λ z. tt)
      (λ z.
      now_follow (push s v) p c
      (rw a.split (closes s a.front a.text v a.open_at (whole_group s n v p a (eqb-false n 0 z))))
      (fits_push s v a.room_here)))

  -- where a group begins
  now_begin : (s : Gathered) (p : List ℕ) (c : ℕ) → Opening s p → room s ≡ true → Now (p ++ c ∷ []) (inside end s 0 0 c)
  now_begin s p c o r =
      now_inside s 0 0 p c
      (record {
        front = p;
        text = [];
        split = sym (append-nil p);
        open_at = o;
        hex = tt;
        size = refl;
        few = omega arith;
        value = refl;
        room_here = r;
      })

  now_gap : (l p : List ℕ) (c : ℕ) → Reads (gap l) p → Now (p ++ c ∷ []) (step end (gap l) c)
  now_gap l p c a =
      pick_by (Now (p ++ c ∷ [])) (eqb c end)
      (λ e.
      record {
        text = p;
        split = rw (eqb-true c end e);
        whole = inr (record {
          left = a.0;
          right = [];
          before = l;
          behind = [];
          split = rw a.1 (simp append-nil);
          left_side = a.2;
          right_side = refl;
          seven = let h = a.3 in omega arith;
          value = refl;
        });
      })
      (λ e.
      pick_by (Now (p ++ c ∷ [])) (room (gapped l [])) (λ r. now_begin (gapped l []) p c (a.0, [], a.1, a.2, refl) r) (λ r. tt))

  now_step : (q : State) (p : List ℕ) (c : ℕ) → Reads q p → Now (p ++ c ∷ []) (step end q c)
  now_step start p c a =
      pick_by (Now (p ++ c ∷ [])) (eqb c 58) (λ t. (rw (a, eqb-true c 58 t), refl)) (λ t. now_begin (plain []) p c a refl)
  now_step (digits s n v) p c a = now_inside s n v p c a
  now_step (behind s) p c a = now_follow s p c a.0 a.1
  now_step (colon (plain [])) p c a =
      pick_by (Now (p ++ c ∷ [])) (eqb c 58) (λ t. ([], rw (a.0, eqb-true c 58 t), refl, omega arith)) (λ t. tt)
  now_step (colon (plain (v ∷ l))) p c a =
      pick_by (Now (p ++ c ∷ [])) (eqb c 58)
      (λ t.
      (a.0.0, rw (a.0.1, eqb-true c 58 t) (simp append_assoc), a.0.2, let h = ltb-true (length (v ∷ l)) 8 a.1 in omega arith))
      (λ t. now_begin (plain (v ∷ l)) p c a.0 a.1)
  now_step (colon (gapped l r)) p c a = now_begin (gapped l r) p c a.0 a.1
  now_step (gap l) p c a = now_gap l p c a

  pub keeps : (q : State) (c : ℕ) (n : State) → Good q → step end q c ≡ go n → Good n
  keeps q c n g e = (g.0 ++ c ∷ [], subst (Now (g.0 ++ c ∷ [])) e (now_step q g.0 c g.1))

  -- what the machine reads to its end is an address, with the byte that ends it
  pub runs_address : (f vs : List ℕ) → Runs (step end) start f vs → Ended Address end f vs
  runs_address f vs r = runs_read (step end) Reads (Ended Address end) now_step f [] start vs refl r
