-- The byte behind "TCP" chooses the family.
use Rattle.std.specs.Prelude.{◌≡◌, refl, Bool, false, List, [], ◌∷◌, ℕ, ◌+◌, ◌<◌, length, drop, get_or}
use Rattle.std.proofs.Common.{sym, ap, ◌∙◌, arith, add-one, one-add, drop-cons, eq-eqb}
use Rattle.exact.specs.Claim.{Verdict, accepted, more, refused, AllBytes}
use Rattle.exact.specs.Field.{shift, after}
use Rattle.exact.proofs.MachineLaws.{shift-shift}
use Rattle.exact.specs.Pick.{pick}
use Rattle.exact.specs.Choice.{choose}
use Rattle.exact.specs.Literal.{literal}
use Rattle.header.specs.Header.{Header}
use Rattle.fields.specs.LineFields.{Headers, word, from_source, is4, tcp4, tcp6, families}
use Rattle.fields.specs.Exactness.{address4, address6}
use Rattle.line_address.specs.declared.Inet.TheVariants.{V6}
use Rattle.line_address.specs.Families.{tcp_kind, field}
use Rattle.line_body.specs.Stages.{from_space}

-- a field whose first byte has come, and the rest
after-cons : {A B : Type 0} (v : Verdict A) (next : A → List ℕ → Verdict B) (c : ℕ) (t : List ℕ) → after (shift 1 v) next (c ∷ t) ≡ shift 1 (after v next t)
after-cons (accepted a n) next c t =
    sym
    (shift-shift 1 n (next a (drop n t))
    ∙ ap (λ (m : ℕ). shift (1 + n) (next a (drop m (c ∷ t)))) (sym (one-add n)))
after-cons (more n) next c t = refl
after-cons (refused k p) next c t = refl

-- a literal of several bytes on its first one
lit_first : (k m x y : ℕ) (w t : List ℕ) → literal {A = ℕ} k m 0 (x ∷ y ∷ w) (x ∷ t) ≡ shift 1 (literal k m 0 (y ∷ w) t)
lit_first k m x y w t = simp (eq-eqb x x refl)

-- a word, and what follows it
abbrev six_then : List ℕ → Verdict Header
six_then s = (tcp6 address4 address6).verdict s

six_first : (t : List ℕ) → six_then (54 ∷ t) ≡ shift 1 ((from_space V6).verdict t)
six_first t =
    let next = λ (u : ℕ). (from_source (tcp_kind V6) (field V6)).verdict in
    let m = (from_source (tcp_kind V6) (field V6)).least in
    ap (λ (v : Verdict ℕ). after v next (54 ∷ t)) (lit_first 2 m 54 32 [] t) ∙ after-cons (literal 2 m 0 (32 ∷ []) t) next 54 t

pub family_six : (s : List ℕ) (at : ℕ) → at < length s → get_or s at 0 ≡ 54
    → shift (at + 1) ((from_space V6).verdict (drop (at + 1) s)) ≡ shift at ((families address4 address6).verdict (drop at s))
family_six s at inside e =
    sym
    (ap (λ (t : List ℕ). shift at ((families address4 address6).verdict t)) here
    ∙ ap (shift at) (six_first (drop (at + 1) s))
    ∙ shift-shift at 1 ((from_space V6).verdict (drop (at + 1) s)))
  where
    here : drop at s ≡ 54 ∷ drop (at + 1) s
    here = rw (add-one at) (drop-cons s at 0 inside) ∙ ap (λ (c : ℕ). c ∷ drop (at + 1) s) e
