-- A whole field begins no other, where each text has an exact verdict.
use Rattle.std.specs.Prelude.{◌≡◌, List, [], ◌∷◌, ◌++◌, ℕ}
use Rattle.std.proofs.Common.{sym, ap, ◌∙◌, subst, append_assoc, append-nil}
use Rattle.std.proofs.Math.Seq.{append_snoc}
use Rattle.exact.specs.Claim.{Verdict, accepted, more, refused}
use Rattle.exact.specs.Field.{Field, Begins, Alive, Opens, Only, Refuses, Exact}
use Rattle.exact.specs.Sequence.{begins_more}
use Rattle.exact.specs.Parser.{Parser}

module _ {A : Type 0} (F : Field A) where
  abbrev pub begins_whole : (s : List ℕ) (a : A) → F.lang s a → Begins F s
  begins_whole s a w = record { front = s; rest = []; value = a; split = sym (append-nil s); whole = w }

  pub begins_alive : (s : List ℕ) → Begins F s → Alive F s
  begins_alive s b = rw append-nil at (begins_more F s [] b)

  pub alive_opens : (s t : List ℕ) → Opens F (s ++ t) → Alive F s
  alive_opens s t o =
      record {
        more_bytes = t ++ o.tail;
        begins = record {
          front = s ++ t ++ o.tail;
          rest = [];
          value = o.value;
          split = simp (append_assoc, append-nil);
          whole = o.whole;
        };
      }

  -- what is refused has no continuation
  pub refused_dead : {k p : ℕ} {s : List ℕ} → Refuses F k p s → Alive F s → ⊥
  refused_dead x a =
      x.dead
      (record {
        more_bytes = x.rest ++ a.more_bytes;
        begins = record {
          front = a.begins.front;
          rest = a.begins.rest;
          value = a.begins.value;
          split =
              sym (append_assoc (x.front ++ x.byte ∷ []) x.rest a.more_bytes)
              ∙ ap (λ (t : List ℕ). t ++ a.more_bytes) (append_snoc x.front x.byte x.rest ∙ sym x.split)
              ∙ a.begins.split;
          whole = a.begins.whole;
        };
      })

  only_same : (g h : List ℕ) (c d : A) → g ≡ h → c ≡ d → Only F g c → Only F h d
  only_same g h c d e e' o = subst (λ (z : A). Only F h z) e' (subst (λ (y : List ℕ). Only F y c) e o)

  pub unique_of : (w : A → ℕ) (v : Verdict A) (f : List ℕ) (a : A) → Exact F w v f → F.lang f a → Only F f a
  unique_of w (accepted b n) f a x l =
      let q = x.only x.rest [] f a (sym x.split ∙ sym (append-nil f)) l in
      only_same x.front f b a (sym q.0) (sym q.1) x.only
  unique_of w (more n) f a x l = absurd (x.none (begins_whole f a l))
  unique_of w (refused k p) f a x l = absurd (refused_dead x (begins_alive f (begins_whole f a l)))

pub unique : {A : Type 0} {w : A → ℕ} (P : Parser A w) (f : List ℕ) (a : A) → P.field.lang f a → Only P.field f a
unique {w = w} P f a = unique_of P.field w (P.verdict f) f a (P.exact f)
