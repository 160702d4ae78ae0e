-- `literal` goes by the bytes that s and w have in common; its claim is that of an exact verdict on a leaf.
use Rattle.std.proofs.Common.{ℕ, zero, suc, ◌+◌, ◌-◌, ◌≤◌, ◌<◌, ◌≡◌, refl, true≢false, sym, ap, ◌∙◌, subst, Bool, true, false, List, [], ◌∷◌, ◌++◌, add-one, arith, length, take, drop, get_or, length-drop, length-append, length-take-le, take-append-drop, drop_of_length-le, drop-cons, eqb, eq-eqb, ne_eqb}
use Rattle.std.specs.List.{starts_with}
use Rattle.std.proofs.lemmas.Bool.Decides.{Decides-eqb}
use Rattle.std.proofs.lemmas.Slice.Eq.{starts_is}
use Rattle.std.proofs.lemmas.List.{ext_get_or, get_or_append_left}
use lib.Seq.{get_or-take}
use Rattle.exact.specs.Claim.{Verdict, accepted, more, refused, AllBytes, Claim}
use Rattle.exact.specs.Field.{flat}
use Rattle.exact.proofs.MachineLaws.{from_start, from_end, from-go, from-done, from-dead}
use Rattle.exact.specs.Machine.{Move, go, done, dead, from}
use Rattle.exact.proofs.Parser.{bytes_of}
use Rattle.exact.specs.LiteralLaws.{literal_exact}
use Rattle.exact.specs.Literal.{Common, Literal, literal, least_literal, step_literal}
use Rattle.exact.proofs.Theorem.{leaf_claims}
use Rattle.exact.proofs.literal.Goals as goal

abbrev step : List ℕ → ℕ → Move (List ℕ) ℕ
step = step_literal 0

abbrev verdict : ℕ → ℕ → List ℕ → List ℕ → Verdict ℕ
verdict k m = literal k m 0

-- ── the machine in the word w, at its byte i ──
module _ (w : List ℕ) (i c : ℕ) (h : i < length w) where
  word_dead : (c ≡ get_or w i 0 → ⊥) → step (drop i w) c ≡ dead
  word_dead n = rw (drop-cons w i 0 h, step_literal) (simp (ne_eqb c (get_or w i 0) n))

  word_done : c ≡ get_or w i 0 → i + 1 ≡ length w → step (drop i w) c ≡ done 0
  word_done e l =
      let last : drop (suc i) w ≡ [] = drop_of_length-le w {i = suc i} (omega arith) in
      rw (drop-cons w i 0 h) (simp (eq-eqb c (get_or w i 0) e, last))

  word_go : c ≡ get_or w i 0 → (i + 1 ≡ length w → ⊥) → step (drop i w) c ≡ go (drop (i + 1) w)
  word_go e l =
      let next : drop (suc i) w ≡ get_or w (suc i) 0 ∷ drop (suc (suc i)) w = drop-cons w (suc i) 0 (omega arith) in
      rw (add-one, drop-cons w i 0 h, next) (simp (eq-eqb c (get_or w i 0) e))

-- ── the verdict, by the bytes in common ──
module _ (k m : ℕ) (s : List ℕ) (n : ℕ) where
  abbrev least : List ℕ → ℕ
  least = least_literal m

  -- the machine goes on in them
  reach : (w : List ℕ) → Common s w n → (i : ℕ) → i ≤ n → i < length w → verdict k m w s ≡ from k step least s i (drop i w)
  reach [] c i h l = absurd (omega arith)
  reach (x ∷ w) c zero h l = from_start k step least s (x ∷ w)
  reach (x ∷ w) c (suc i) h l =
      let inside_s = c.inside_s in
      reach (x ∷ w) c i (omega arith) (omega arith)
      ∙ from-go k step least s i (drop i (x ∷ w)) (drop (i + 1) (x ∷ w)) (omega arith)
      (word_go (x ∷ w) i (get_or s i 0) (omega arith) (c.same i (omega arith)) (λ e. omega arith))
      ∙ rw (add-one i)

  word_all : (w : List ℕ) → Common s w n → n ≡ length w → accepted 0 n ≡ verdict k m w s
  word_all [] c e = ap (accepted 0) e
  word_all (x ∷ w) c e =
      let inside_s = c.inside_s in
      let last : n - 1 + 1 ≡ n = omega arith in
      sym
      (reach (x ∷ w) c (n - 1) (omega arith) (omega arith)
      ∙ from-done k step least s (n - 1) (drop (n - 1) (x ∷ w)) 0 (omega arith)
      (word_done (x ∷ w) (n - 1) (get_or s (n - 1) 0) (omega arith) (c.same (n - 1) (omega arith)) (omega arith))
      ∙ ap (accepted 0) last)

  module _ (w : List ℕ) (c : Common s w n) (part : n ≡ length w → ⊥) where
    word_more : n ≡ length s → more (length w - n + m) ≡ verdict k m w s
    word_more e =
        let inside_w = c.inside_w in
        sym (reach w c n (omega arith) (omega arith) ∙ from_end k step least s n (drop n w) (omega arith) ∙ ap more (ap (λ (l : ℕ). l + m) (length-drop n w)))

    word_refused : (n ≡ length s → ⊥) → refused k n ≡ verdict k m w s
    word_refused e =
        let inside_w = c.inside_w in
        let inside_s = c.inside_s in
        sym
        (reach w c n (omega arith) (omega arith)
        ∙ from-dead k step least s n (drop n w) (omega arith)
        (word_dead w n (get_or s n 0) (omega arith) (c.apart (omega arith) (omega arith))))

-- ── the whole word, in common or at the front ──
front_of : (s w : List ℕ) → Common s w (length w) → s ≡ w ++ drop (length w) s
front_of s w c =
    let size : length (take (length w) s) ≡ length w = length-take-le (length w) s c.inside_s in
    let same : take (length w) s ≡ w =
    ext_get_or 0 (take (length w) s) w size (λ i h. get_or-take (length w) s i 0 (omega arith) ∙ c.same i (omega arith)) in
    sym (take-append-drop (length w) s) ∙ ap (λ (l : List ℕ). l ++ drop (length w) s) same

common_of : (s w r : List ℕ) → s ≡ w ++ r → Common s w (length w)
common_of s w r e =
    record {
      inside_s = let h = ap length e in let l = length-append w r in omega arith;
      inside_w = omega arith;
      same = λ i h. ap (λ (l : List ℕ). get_or l i 0) e ∙ get_or_append_left w r 0 i h;
      apart = λ h l. absurd (omega arith);
    }

module _ (s w : List ℕ) (r : Bool) (e : r ≡ starts_with eqb s w) where
  starts : r ≡ true → Common s w (length w)
  starts t = common_of s w _ ((starts_is Decides-eqb s w r e).0 t)

  -- a word that is not at the front is not all in common
  part_of : r ≡ false → (n : ℕ) → Common s w n → n ≡ length w → ⊥
  part_of f n c all =
      let t = (starts_is Decides-eqb s w r e).1 _ (front_of s w (subst (Common s w) all c)) in
      true≢false (sym t ∙ f)

-- ── the function ──
-- a verdict has its claim
claimed : (s w : List ℕ) → AllBytes w → {v : ℕ → ℕ → Verdict ℕ} → ((k m : ℕ) → v k m ≡ verdict k m w s)
    → (k : ℕ) → Claim (Literal 0 w) (λ u. k) (v k 0) s
claimed s w bytes e k = leaf_claims k (Literal 0 w) (λ f a l. rw l.0 bytes) s (e k 0) (literal_exact k 0 (flat 0) w s)

pub returns-then-whole-clause-verdict : goal.returns-then-whole-clause-verdict
returns-then-whole-clause-verdict c k m =
    let s = c.args.s.now in
    let w = c.args.w.now in
    word_all k m s (length w) w (starts s w _ c.starts_with-whole.ensures.value c.if-whole.true) refl

pub returns-then-n-s-clause-verdict : goal.returns-then-n-s-clause-verdict
returns-then-n-s-clause-verdict c k m =
    let s = c.args.s.now in
    let w = c.args.w.now in
    let met = c.common-n.ensures in
    word_more k m s _ w met (part_of s w _ c.starts_with-whole.ensures.value c.if-whole.false _ met) c.if-n-s.true

pub returns-then-n-s-clause-claim : goal.returns-then-n-s-clause-claim
returns-then-n-s-clause-claim c = claimed _ _ (bytes_of _ c.type_inv.w) (returns-then-n-s-clause-verdict c)

pub returns-clause-verdict : goal.returns-clause-verdict
returns-clause-verdict c k m =
    let s = c.args.s.now in
    let w = c.args.w.now in
    let met = c.common-n.ensures in
    word_refused k m s _ w met (part_of s w _ c.starts_with-whole.ensures.value c.if-whole.false _ met) c.if-n-s.false

pub returns-clause-claim : goal.returns-clause-claim
returns-clause-claim c = claimed _ _ (bytes_of _ c.type_inv.w) (returns-clause-verdict c)
