-- The leaf of an UNKNOWN line's end: its verdicts are exact.
use Rattle.std.specs.Prelude.{◌≡◌, refl, Bool, List, [], ◌∷◌, ◌++◌, ◌⊎◌, ◌↔◌, ℕ, suc, ◌+◌, ◌-◌, ◌≤◌, ◌<◌, eqb, leb, ltb, length}
use Rattle.std.proofs.Common.{sym, ap, ◌∙◌, subst, inl, inr, ⊎_elim, length-append, eqb-true, leb-true, leb-false, le-leb, ltb-true, ltb-false}
use Rattle.std.proofs.Math.Bool.{true, false}
use native.Mathlib.Omega.{arith}
use Rattle.std.proofs.lemmas.Bool.{eqb-false}
use Rattle.exact.specs.Claim.{AllBytes}
use Rattle.exact.specs.Field.{Least, flat, Exact}
use Rattle.exact.specs.MachineLaws.{machine_exact, least_at, Sound, Attains, NoLess, Leasts}
use Rattle.exact.specs.Machine.{leaf, go}
use Rattle.exact.specs.Pick.{pick, pick_by}
use Rattle.exact.specs.Parser.{Parser, bytes_append}
use Rattle.line_end.specs.Line.{NoEnd, FirstEnd}
use Rattle.line_end.specs.LineVerdict.{Line, line, least, pass, step_line, least_line, line_verdict}
use Rattle.line_end.specs.LineLeaf.{LineEnd}

-- ── the first byte of a line ──
pub no_end_more : (c : ℕ) (s : List ℕ) → NoEnd s → ((y : List ℕ) → c ≡ 13 → s ≡ 10 ∷ y → ⊥) → NoEnd (c ∷ s)
no_end_more c s none apart x y e = by x e
  where
    by : (x : List ℕ) → c ∷ s ≡ x ++ 13 ∷ 10 ∷ y → ⊥
    by [] e = apart y (cc) (cc)
    by (d ∷ x) e = none x y cc

pub no_end_tail : (c : ℕ) (s : List ℕ) → NoEnd (c ∷ s) → NoEnd s
no_end_tail c s none x y e = none (c ∷ x) y (ap (λ (t : List ℕ). c ∷ t) e)

long : (limit : ℕ) (f : List ℕ) → FirstEnd limit f → 2 ≤ length f
long limit f l = rw l.split (simp length-append (omega arith))

wider : (limit wide : ℕ) (f : List ℕ) → limit ≤ wide → FirstEnd limit f → FirstEnd wide f
wider limit wide f h l =
    record { body = l.body; split = l.split; none_before = l.none_before; bytes = l.bytes; size = let s = l.size in omega arith }

-- the line is its end, or a byte and a line
peel : (limit : ℕ) (c : ℕ) (f : List ℕ) → FirstEnd limit (c ∷ f) → ((c ≡ 13) × (f ≡ 10 ∷ [])) ⊎ ((c < 256) × FirstEnd (limit - 1) f)
peel limit c f l = by l.body l.split l.none_before l.bytes
  where
    by : (b : List ℕ) → c ∷ f ≡ b ++ 13 ∷ 10 ∷ [] → NoEnd b → AllBytes b → ((c ≡ 13) × (f ≡ 10 ∷ [])) ⊎ ((c < 256) × FirstEnd (limit - 1) f)
    by [] e none bytes = inl (cc, cc)
    by (d ∷ b) e none bytes =
        let q : d ≡ c = cc in
        let h = bytes.0 in
        let s = l.size in
        inr (omega arith, record { body = b; split = cc; none_before = no_end_tail d b none; bytes = bytes.1; size = omega arith })

push : (limit : ℕ) (c : ℕ) (f : List ℕ) → 1 ≤ limit → c < 256 → ((y : List ℕ) → c ≡ 13 → f ≡ 10 ∷ y → ⊥) → FirstEnd (limit - 1) f → FirstEnd limit (c ∷ f)
push limit c f some small apart l =
    record {
      body = c ∷ l.body;
      split = ap (λ (t : List ℕ). c ∷ t) l.split;
      none_before =
          no_end_more c l.body l.none_before
          (λ y e h. apart (y ++ 13 ∷ 10 ∷ []) e (l.split ∙ ap (λ (t : List ℕ). t ++ 13 ∷ 10 ∷ []) h));
      bytes = (small, l.bytes);
      size = let s = l.size in omega arith;
    }

ended : (limit : ℕ) → 2 ≤ limit → FirstEnd limit (13 ∷ 10 ∷ [])
ended limit h = record { body = []; split = refl; none_before = λ x y e. by x y e; bytes = tt; size = h }
  where
    by : (x y : List ℕ) → [] ≡ x ++ 13 ∷ 10 ∷ y → ⊥
    by [] y e = let z : ◌≡◌ {A = ℕ} 0 1 = cc in omega arith
    by (d ∷ x) y e = let z : ◌≡◌ {A = ℕ} 0 1 = cc in omega arith

-- nothing follows CR LF
ended_only : (limit : ℕ) (f : List ℕ) → FirstEnd limit (13 ∷ 10 ∷ f) → f ≡ []
ended_only limit f l = by l.body l.split l.none_before
  where
    by : (b : List ℕ) → 13 ∷ 10 ∷ f ≡ b ++ 13 ∷ 10 ∷ [] → NoEnd b → f ≡ []
    by [] e none = cc
    by (d ∷ []) e none = let z : ◌≡◌ {A = ℕ} 10 13 = cc in absurd (omega arith)
    by (d ∷ g ∷ b) e none = absurd (none [] b (let z : d ≡ 13 = cc in let w : g ≡ 10 = cc in cc))

-- ── the step is sound ──
abbrev Rest : Line → List ℕ → ℕ → Type 0
Rest (line false left) f a = LineEnd left f a
Rest (line true left) f a = LineEnd (left + 1) (13 ∷ f) a

abbrev Ok : Line → Type 0
Ok (line false left) = 2 ≤ left
Ok (line true left) = 1 ≤ left

-- a byte that does not end the line
module _ (q : Line) (left c : ℕ) (same : (f : List ℕ) (a : ℕ) → Rest q (c ∷ f) a ↔ LineEnd left (c ∷ f) a) where
  at_cr : c ≡ 13 → 2 ≤ left → Sound Rest Ok q c (go (line true (left - 1)))
  at_cr e h = (
    omega arith,
    λ f a. (
      λ l. let w = (same f a).0 l in (rw e at (wider left (left - 1 + 1) (c ∷ f) (omega arith) w.0), w.1),
      λ l. (same f a).1 (wider (left - 1 + 1) left (c ∷ f) (omega arith) (rw e l.0), l.1),
    ),
  )

  inside : (c ≡ 13 → ⊥) → (f : List ℕ) (a : ℕ) → Rest q (c ∷ f) a → (c < 256) × FirstEnd (left - 1) f
  inside other f a l = ⊎_elim (λ w. absurd (other w.0)) (λ w. w) (peel left c f ((same f a).0 l).0)

  at_other : (c ≡ 13 → ⊥) → c < 256 → 3 ≤ left → Sound Rest Ok q c (go (line false (left - 1)))
  at_other other small h = (
    omega arith,
    λ f a. (
      λ l. ((inside other f a l).1, ((same f a).0 l).1),
      λ l. (same f a).1 (push left c f (omega arith) small (λ y e. absurd (other e)) l.0, l.1),
    ),
  )

  sound_pass : (b : Bool) → eqb c 13 ≡ b → Sound Rest Ok q c (pass b left c)
  sound_pass true t =
      let P = Sound Rest Ok q c in
      let e = eqb-true c 13 t in
      pick_by P (leb 2 left)
      (λ fits.
      pick_by P (ltb c 256) (λ small. at_cr e (leb-true 2 left fits)) (λ big f a l. let g = ltb-false c 256 big in omega arith))
      (λ over f a l.
      let g = leb-false 2 left over in
      let h = long left (c ∷ f) ((same f a).0 l).0 in
      let s = ((same f a).0 l).0.size in
      omega arith)
  sound_pass false t =
      let P = Sound Rest Ok q c in
      let other = eqb-false c 13 t in
      pick_by P (leb 3 left)
      (λ fits.
      pick_by P (ltb c 256) (λ small. at_other other (ltb-true c 256 small) (leb-true 3 left fits))
      (λ big f a l. let g = ltb-false c 256 big in let h = (inside other f a l).0 in omega arith))
      (λ over f a l.
      let g = leb-false 3 left over in
      let h = long (left - 1) f (inside other f a l).1 in
      let s = (inside other f a l).1.size in
      omega arith)

-- CR and a byte that is not LF
behind_cr : (left c : ℕ) → (c ≡ 10 → ⊥) → (f : List ℕ) (a : ℕ) → Rest (line true left) (c ∷ f) a ↔ LineEnd left (c ∷ f) a
behind_cr left c other f a = (
  λ l. (
    ⊎_elim (λ w. let e = w.1 in absurd (other cc)) (λ w. wider (left + 1 - 1) left (c ∷ f) (omega arith) w.1)
        (peel (left + 1) 13 (c ∷ f) l.0),
    l.1,
  ),
  λ l. (
    push (left + 1) 13 (c ∷ f) (omega arith) (omega arith) (λ y e h. other cc) (wider left (left + 1 - 1) (c ∷ f) (omega arith) l.0),
    l.1,
  ),
)

sound_line : (q : Line) (c : ℕ) → Ok q → Sound Rest Ok q c (step_line q c)
sound_line (line false left) c ok = sound_pass (line false left) left c (λ f a. (λ l. l, λ l. l)) (eqb c 13) refl
sound_line (line true left) c ok =
    pick_by (Sound Rest Ok (line true left) c) (eqb c 10)
    (λ t.
    let e = eqb-true c 10 t in (
      rw e (ended (left + 1) (omega arith), refl),
      λ f a l. (ended_only (left + 1) f (rw e at l.0), l.1),
    ))
    (λ t. sound_pass (line true left) left c (behind_cr left c (eqb-false c 10 t)) (eqb c 13) refl)

solid_line : (q : Line) → Ok q → (a : ℕ) → Rest q [] a → ⊥
solid_line (line false left) ok a l = let h = long left [] l.0 in omega arith
solid_line (line true left) ok a l = let h = long (left + 1) (13 ∷ []) l.0 in omega arith

-- ── the fewest bytes that end it ──
module _ (m : ℕ) where
  pass_no_less : (b : Bool) (left c j : ℕ) → j ≤ suc (pick b 1 2 + m) → NoLess (least_line m) (flat m) j (pass b left c)
  pass_no_less b left c j h =
      let P = NoLess (least_line m) (flat m) j in
      pick_by P (leb (least b) left) (λ t. pick_by P (ltb c 256) (λ s. h) (λ s. tt)) (λ t. tt)

  by_cr : (b : Bool) (j : ℕ) → j ≤ 2 + m → j ≤ suc (pick b 1 2 + m)
  by_cr true j h = omega arith
  by_cr false j h = omega arith

  no_less_line : (q : Line) (c : ℕ) → Ok q → NoLess (least_line m) (flat m) (least_line m q) (step_line q c)
  no_less_line (line true left) c ok =
      pick_by (NoLess (least_line m) (flat m) (1 + m)) (eqb c 10) (λ t. omega arith)
      (λ t. pass_no_less (eqb c 13) left c (1 + m) (by_cr (eqb c 13) (1 + m) (omega arith)))
  no_less_line (line false left) c ok = pass_no_less (eqb c 13) left c (2 + m) (by_cr (eqb c 13) (2 + m) (omega arith))

  byte_line : (q : Line) → Ok q → ℕ
  byte_line (line true left) ok = 10
  byte_line (line false left) ok = 13

  attains_line : (q : Line) (ok : Ok q) → Attains (least_line m) (flat m) (least_line m q) (step_line q (byte_line q ok))
  unfolding byte_line
  attains_line (line true left) ok = omega arith
  attains_line (line false left) ok = rw (le-leb 2 left ok) (omega arith)

  leasts_line : Leasts Ok step_line (least_line m) (flat m)
  leasts_line = record { byte = byte_line; attains = attains_line; no_less = no_less_line }

-- ── the parser ──
module _ (k m limit : ℕ) (room : 2 ≤ limit) where
  pub line_exact : (s : List ℕ) → Exact (leaf k (LineEnd limit)) (flat m) (line_verdict k m limit s) s
  line_exact s = machine_exact k Rest Ok step_line (least_line m) (flat m) (leasts_line m) solid_line sound_line s (line false limit) room

  pub line_least : Least (leaf k (LineEnd limit)) (flat m) (2 + m) []
  line_least = least_at k Rest Ok step_line (least_line m) (flat m) (leasts_line m) solid_line sound_line (line false limit) room

pub line_bytes : (limit : ℕ) (f : List ℕ) (a : ℕ) → LineEnd limit f a → AllBytes f
line_bytes limit f a l =
    subst AllBytes (sym l.0.split) (bytes_append l.0.body (13 ∷ 10 ∷ []) l.0.bytes (omega arith, (omega arith, tt)))

abbrev pub line_end : (k m limit : ℕ) → 2 ≤ limit → Parser ℕ (flat m)
line_end k m limit room =
    record {
      field = leaf k (LineEnd limit);
      verdict = line_verdict k m limit;
      exact = line_exact k m limit room;
      least = 2 + m;
      opens = line_least k m limit room;
      bytes = line_bytes limit;
    }
