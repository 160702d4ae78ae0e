-- For proofs. A parser: a field with a function whose every verdict on it is exact under a weight of its values. Each leaf is one, and the laws make
-- one of others.
use Rattle.std.specs.Prelude.{◌≡◌, refl, Bool, List, [], ◌∷◌, ◌++◌, ◌↔◌, ℕ, take}
use Rattle.std.proofs.Common.{sym, ◌∙◌, subst, take_at}
use Rattle.exact.specs.Claim.{Verdict, accepted, more, refused, AllBytes}
use Rattle.exact.specs.Field.{Field, Begins, Opens, Least, flat, Exact, seq, after}
use Rattle.exact.specs.Sequence.{begins_more, seq_exact, least_start}
use Rattle.exact.specs.MachineLaws.{Leasts, runs_exact, runs_least}
use Rattle.exact.specs.Machine.{leaf, Move, go, Runs, run}

-- every whole field is of bytes
abbrev pub InBytes : {A : Type 0} → Field A → Type 0
InBytes {A} F = (f : List ℕ) (a : A) → F.lang f a → AllBytes f

pub record Parser (A : Type 0) (w : A → ℕ) : Type 1 where
  pub field : Field A
  pub verdict : List ℕ → Verdict A
  pub exact : (s : List ℕ) → Exact field w (verdict s) s
  pub least : ℕ
  pub opens : Least field w least []
  pub bytes : InBytes field

pub bytes_append : (s t : List ℕ) → AllBytes s → AllBytes t → AllBytes (s ++ t)
bytes_append [] t x y = y
bytes_append (c ∷ s) t x y = (x.0, bytes_append s t x.1 y)

-- ── the parsers that the laws make ──
pub bytes_seq : {A B : Type 0} (F : Field A) (G : A → Field B) → InBytes F → ((a : A) → InBytes (G a)) → InBytes (seq F G)
bytes_seq F G x y f b l = subst AllBytes (sym l.split) (bytes_append l.front l.back (x _ _ l.first) (y _ _ _ l.second))

-- the weight of P's values is the least of what they choose: `(P then Q) fit`
abbrev pub Fit : {A B : Type 0} {u : A → ℕ} {w : B → ℕ} → Parser A u → (A → Parser B w) → Type 0
Fit {A} {u = u} P Q = (a : A) (f : List ℕ) → P.field.lang f a → (Q a).least ≡ u a

pub fit_least : {A B : Type 0} {u : A → ℕ} {w : B → ℕ} (P : Parser A u) (Q : A → Parser B w) → Fit P Q
    → (a : A) (f : List ℕ) → P.field.lang f a → Least (Q a).field w (u a) []
fit_least {w = w} P Q fit a f l = subst (λ (n : ℕ). Least (Q a).field w n []) (fit a f l) (Q a).opens

infixl 40 ◌then◌
abbrev pub ◌then◌ : {A B : Type 0} {u : A → ℕ} {w : B → ℕ} (P : Parser A u) (Q : A → Parser B w) → Fit P Q → Parser B w
◌then◌ {u = u} {w = w} P Q fit =
    record {
      field = seq P.field (λ a. (Q a).field);
      verdict = λ s. after (P.verdict s) (λ a r. (Q a).verdict r) s;
      exact = λ s.
          seq_exact P.field (λ a. (Q a).field) u w (λ a r. (Q a).verdict r) (fit_least P Q fit) (λ a f r l. (Q a).exact r)
          (P.verdict s) s (P.exact s);
      least = P.least;
      opens = least_start P.field (λ a. (Q a).field) u w (fit_least P Q fit) P.least P.opens;
      bytes = bytes_seq P.field (λ a. (Q a).field) P.bytes (λ a. (Q a).bytes);
    }

-- the choice by the first byte: fields of F begin with a byte for which `first` is true, those of G with another
pub record Starts {A : Type 0} (first : ℕ → Bool) (b : Bool) (F : Field A) : Type 0 where
  pub solid : (a : A) → F.lang [] a → ⊥
  pub head : (c : ℕ) (f : List ℕ) (a : A) → F.lang (c ∷ f) a → first c ≡ b

-- a machine, from a good state q
abbrev pub machine : {Q A : Type 0} (k : ℕ) (Ok : Q → Type 0) (step : Q → ℕ → Move Q A) (least : Q → ℕ) (w : A → ℕ) → Leasts Ok step least w
    → ((q : Q) (c : ℕ) (p : Q) → Ok q → step q c ≡ go p → Ok p)
    → (q : Q) → Ok q → InBytes (leaf k (Runs step q)) → Parser A w
machine k Ok step least w leasts keeps q ok in_bytes =
    record {
      field = leaf k (Runs step q);
      verdict = λ s. run k step least s q;
      exact = λ s. runs_exact k Ok step least w leasts keeps s q ok;
      least = least q;
      opens = runs_least k Ok step least w leasts keeps q ok;
      bytes = in_bytes;
    }

-- ── the same verdicts, for a field with the same members, whose numbers follow from the first one's where bytes can be completed ──
module _ {A : Type 0} (F G : Field A) (same : (f : List ℕ) (a : A) → F.lang f a ↔ G.lang f a)
    (parts : (u : List ℕ) (k : ℕ) → Opens F u → (Begins F u → ⊥) → F.at u k → G.at u k)
  where
    pub opens_same : (s : List ℕ) → Opens F s → Opens G s
    opens_same s o = record { tail = o.tail; value = o.value; whole = (same _ _).0 o.whole }

    pub least_same : (w : A → ℕ) (n : ℕ) (s : List ℕ) → Least F w n s → Least G w n s
    least_same w n s o =
        record {
          tail = o.tail;
          value = o.value;
          whole = (same _ _).0 o.whole;
          size = o.size;
          below = λ t a l. o.below t a ((same _ _).1 l);
        }

    begins_back : (s : List ℕ) → Begins G s → Begins F s
    begins_back s b =
        record { front = b.front; rest = b.rest; value = b.value; split = b.split; whole = (same _ _).1 b.whole }

    pub same_exact : (w : A → ℕ) (v : Verdict A) (s : List ℕ) → Exact F w v s → Exact G w v s
    same_exact w (accepted a n) s x =
        record {
          front = x.front;
          rest = x.rest;
          split = x.split;
          size = x.size;
          whole = (same _ _).0 x.whole;
          only = λ u y g b e l. x.only u y g b e ((same _ _).1 l);
        }
    same_exact w (more n) s x = record { none = λ b. x.none (begins_back s b); least = least_same w n s x.least }
    same_exact w (refused k p) s x =
        record {
          front = x.front;
          byte = x.byte;
          rest = x.rest;
          split = x.split;
          size = x.size;
          opens = opens_same _ x.opens;
          dead = λ v. x.dead (record { more_bytes = v.more_bytes; begins = begins_back _ v.begins });
          part = parts _ _ x.opens (λ b. x.dead (begins_more F _ _ b)) x.part;
        }

abbrev pub recast : {A : Type 0} {w : A → ℕ} (P : Parser A w) (G : Field A) → ((f : List ℕ) (a : A) → P.field.lang f a ↔ G.lang f a)
    → ((u : List ℕ) (k : ℕ) → Opens P.field u → P.field.at u k → G.at u k) → Parser A w
recast {w = w} P G same parts =
    record {
      field = G;
      verdict = P.verdict;
      exact = λ s. same_exact P.field G same (λ u k o n x. parts u k o x) w (P.verdict s) s (P.exact s);
      least = P.least;
      opens = least_same P.field G same (λ u k o n x. parts u k o x) w P.least [] P.opens;
      bytes = λ f a l. P.bytes f a ((same f a).1 l);
    }

-- ── the field whose value is its text ──
pub record Spelled {A : Type 0} (L : List ℕ → A → Type 0) (f t : List ℕ) : Type 0 where
  pub value : A
  pub whole : L f value
  pub text : t ≡ f

abbrev pub spelled_field : {A : Type 0} → Field A → Field (List ℕ)
spelled_field F = record { lang = Spelled F.lang; at = F.at }

abbrev pub spell : {A : Type 0} → Verdict A → List ℕ → Verdict (List ℕ)
spell (accepted a n) s = accepted (take n s) n
spell (more n) s = more n
spell (refused k p) s = refused k p

module _ {A : Type 0} (F : Field A) where
  begins_spelled : (s : List ℕ) → Begins (spelled_field F) s → Begins F s
  begins_spelled s b =
      record { front = b.front; rest = b.rest; value = b.whole.value; split = b.split; whole = b.whole.whole }

  pub opens_spelled : (s : List ℕ) → Opens F s → Opens (spelled_field F) s
  opens_spelled s o =
      record { tail = o.tail; value = s ++ o.tail; whole = record { value = o.value; whole = o.whole; text = refl } }

  pub least_spelled : (m n : ℕ) (s : List ℕ) → Least F (flat m) n s → Least (spelled_field F) (flat m) n s
  least_spelled m n s o =
      record {
        tail = o.tail;
        value = s ++ o.tail;
        whole = record { value = o.value; whole = o.whole; text = refl };
        size = o.size;
        below = λ t a l. o.below t l.value l.whole;
      }

  pub spelled_exact : (m : ℕ) (v : Verdict A) (s : List ℕ) → Exact F (flat m) v s → Exact (spelled_field F) (flat m) (spell v s) s
  spelled_exact m (accepted a n) s x =
      let here : take n s ≡ x.front = rw x.split (take_at x.front x.rest n x.size) in
      record {
        front = x.front;
        rest = x.rest;
        split = x.split;
        size = x.size;
        whole = record { value = a; whole = x.whole; text = here };
        only = λ u y g b e l.
            let q = x.only u y g l.value e l.whole in
            (q.0, l.text ∙ q.0 ∙ sym here);
      }
  spelled_exact m (more n) s x = record { none = λ b. x.none (begins_spelled s b); least = least_spelled m n s x.least }
  spelled_exact m (refused k p) s x =
      record {
        front = x.front;
        byte = x.byte;
        rest = x.rest;
        split = x.split;
        size = x.size;
        opens = opens_spelled _ x.opens;
        dead = λ v. x.dead (record { more_bytes = v.more_bytes; begins = begins_spelled _ v.begins });
        part = x.part;
      }

abbrev pub spelled : {A : Type 0} {m : ℕ} → Parser A (flat m) → Parser (List ℕ) (flat m)
spelled {m = m} P =
    record {
      field = spelled_field P.field;
      verdict = λ s. spell (P.verdict s) s;
      exact = λ s. spelled_exact P.field m (P.verdict s) s (P.exact s);
      least = P.least;
      opens = least_spelled P.field m P.least [] P.opens;
      bytes = λ f t l. P.bytes f l.value l.whole;
    }

-- ── what code needs of a verdict ──
-- how many bytes a verdict speaks of
abbrev pub reach : {A : Type 0} → Verdict A → ℕ
reach (accepted a n) = n
reach (more n) = 0
reach (refused k p) = p
