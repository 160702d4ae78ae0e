-- "So 106 bytes without an end are still "more" if the last is CR, and otherwise refused with 5 at place 105": the verdict on
-- bytes without an end, for any limit. Behind the 14 bytes "PROXY UNKNOWN " the limit is 93, and place 105 is 91.
use Rattle.std.specs.Prelude.{◌≡◌, refl, Bool, true, false, List, [], ◌∷◌, ◌++◌, ℕ, ◌+◌, ◌-◌, ◌≤◌, ◌<◌, eqb, length}
use Rattle.std.proofs.Common.{sym, ap, ◌∙◌, append_assoc, arith, eqb-true, ne_eqb}
use Rattle.std.proofs.Math.Seq.{append_snoc}
use Rattle.exact.specs.Claim.{more, refused, AllBytes}
use Rattle.exact.specs.Field.{shift}
use Rattle.exact.proofs.MachineLaws.{shift-shift, from_start}
use Rattle.exact.specs.Machine.{Move, go, dead, moved, run}
use Rattle.line_end.specs.Line.{NoEnd}
use Rattle.line_end.specs.LineVerdict.{Line, line, least, pass, step_line, least_line, line_verdict}
use Rattle.line_end.proofs.LineLeaf.{passes_by, pass-go}

-- ── the machine behind bytes without an end ──
-- the CR that a state has behind it, and the bytes that may still come
abbrev held : Line → List ℕ
held (line true left) = 13 ∷ []
held (line false left) = []

abbrev room : Line → ℕ
room (line is-cr left) = left

no_end_front : (x y : List ℕ) → NoEnd (x ++ y) → NoEnd x
no_end_front x y none a b e =
    none a (b ++ y) (ap (λ (t : List ℕ). t ++ y) e ∙ append_assoc a (13 ∷ 10 ∷ b) y)

no_end_back : (x y : List ℕ) → NoEnd (x ++ y) → NoEnd y
no_end_back x y none a b e = none (x ++ a) b (ap (λ (t : List ℕ). x ++ t) e ∙ sym (append_assoc x a (13 ∷ 10 ∷ b)))

step_byte : (q : Line) (c : ℕ) → NoEnd (held q ++ c ∷ []) → step_line q c ≡ pass (eqb c 13) (room q) c
step_byte (line true left) c none = passes_by true left c (λ t e. none [] [] (ap (λ (x : ℕ). 13 ∷ x ∷ []) e))
step_byte (line false left) c none = refl

-- from p the bytes u lead to a state, and behind them the line goes on from there
record Passed (k m : ℕ) (p : Line) (u : List ℕ) : Type 0 where
  at : Line
  left : room at + length u ≡ room p
  goes : (r : List ℕ) → run k step_line (least_line m) (u ++ r) p ≡ shift (length u) (run k step_line (least_line m) r at)
  holds : (c : ℕ) → NoEnd (held p ++ (u ++ c ∷ [])) → NoEnd (held at ++ c ∷ [])

module _ (k m : ℕ) where
  onward : (p q : Line) (c : ℕ) (u : List ℕ) → step_line p c ≡ go q → room q + 1 ≡ room p
      → ((t : List ℕ) → NoEnd (held p ++ c ∷ t) → NoEnd (held q ++ t)) → Passed k m q u → Passed k m p (c ∷ u)
  onward p q c u e room_of none w =
      record {
        at = w.at;
        left = let h = w.left in omega arith;
        goes = λ r.
            rw e
            (ap (shift 1) (w.goes r)
            ∙ shift-shift 1 (length u) (run k step_line (least_line m) r w.at)
            ∙ ap (λ (n : ℕ). shift n (run k step_line (least_line m) r w.at)) (omega arith));
        holds = λ d h. w.holds d (none (u ++ d ∷ []) h);
      }

  -- one byte, and then the others
  module _ (c : ℕ) (u : List ℕ) (p : Line) (small : c < 256) (none : NoEnd (held p ++ c ∷ u)) (fits : length u + 3 ≤ room p)
      (others : (q : Line) → NoEnd (held q ++ u) → length u + 2 ≤ room q → Passed k m q u)
    where
      here : (b : Bool) → eqb c 13 ≡ b → step_line p c ≡ go (line b (room p - 1))
      here b t =
          step_byte p c (no_end_front (held p ++ c ∷ []) u (rw append_snoc none))
          ∙ ap (λ (x : Bool). pass x (room p) c) t
          ∙ pass-go b (room p) c small (few b)
        where
          few : (b : Bool) → least b ≤ room p
          few true = omega arith
          few false = omega arith

      pass_one : (b : Bool) → eqb c 13 ≡ b → Passed k m p (c ∷ u)
      pass_one true t =
          let e = eqb-true c 13 t in
          let on : (t : List ℕ) → NoEnd (held p ++ c ∷ t) → NoEnd (13 ∷ t) = λ t h. no_end_back (held p) (13 ∷ t) (rw e at h) in
          onward p (line true (room p - 1)) c u (here true t) (omega arith) on (others (line true (room p - 1)) (on u none) (omega arith))
      pass_one false t =
          let on : (t : List ℕ) → NoEnd (held p ++ c ∷ t) → NoEnd t = λ t h. no_end_back (held p ++ c ∷ []) t (rw append_snoc h) in
          onward p (line false (room p - 1)) c u (here false t) (omega arith) on (others (line false (room p - 1)) (on u none) (omega arith))

  passes : (u : List ℕ) (p : Line) → AllBytes u → NoEnd (held p ++ u) → length u + 2 ≤ room p → Passed k m p u
  passes [] p bytes none fits =
      record { at = p; left = omega arith; goes = λ r. from_start k step_line (least_line m) r p; holds = λ c h. h }
  passes (c ∷ u) p bytes none fits =
      pass_one c u p bytes.0 none (omega arith) (λ q. passes u q bytes.1) (eqb c 13) refl

-- ── the verdicts ──
module _ (k m limit : ℕ) (u : List ℕ) (bytes : AllBytes u) where
  -- the byte behind bytes without an end
  next : (c : ℕ) (r : List ℕ) (x : Move Line ℕ) → NoEnd (u ++ c ∷ []) → length u + 2 ≡ limit → pass (eqb c 13) 2 c ≡ x
      → line_verdict k m limit (u ++ c ∷ r) ≡ shift (length u) (moved k x (run k step_line (least_line m) r))
  next c r x none fits e =
      let w = passes k m u (line false limit) bytes (no_end_front u (c ∷ []) none) (omega arith) in
      let two : room w.at ≡ 2 = let h = w.left in omega arith in
      let step : step_line w.at c ≡ x = step_byte w.at c (w.holds c none) ∙ ap (λ (n : ℕ). pass (eqb c 13) n c) two ∙ e in
      w.goes (c ∷ r) ∙ ap (λ (n : Move Line ℕ). shift (length u) (moved k n (run k step_line (least_line m) r))) step

  -- so many that behind one more only LF still fits: more, if that one is CR
  pub long_more : NoEnd (u ++ 13 ∷ []) → length u + 2 ≡ limit → line_verdict k m limit (u ++ 13 ∷ []) ≡ more (1 + m)
  long_more none fits = next 13 [] (go (line true 1)) none fits refl

  -- and refused there, if it is not
  pub long_refused : (c : ℕ) (r : List ℕ) → NoEnd (u ++ c ∷ []) → length u + 2 ≡ limit → (c ≡ 13 → ⊥)
      → line_verdict k m limit (u ++ c ∷ r) ≡ refused k (length u)
  long_refused c r none fits other =
      next c r dead none fits (ap (λ (b : Bool). pass b 2 c) (ne_eqb c 13 other)) ∙ ap (λ (n : ℕ). refused k n) (omega arith)
