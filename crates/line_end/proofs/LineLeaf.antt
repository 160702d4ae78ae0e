-- Lemmas on what specs/LineLeaf.antt defines.
use Rattle.std.specs.Prelude.{◌≡◌, refl, Bool, ℕ, ◌-◌, ◌≤◌, ◌<◌, eqb}
use Rattle.std.proofs.Common.{eq-eqb, ne_eqb, le-leb, lt-ltb}
use Rattle.std.proofs.Math.Bool.{true, false}
use Rattle.std.proofs.lemmas.Bool.{lt-leb}
use Rattle.exact.specs.Machine.{go, done, dead}
use Rattle.line_end.specs.LineVerdict.{line, least, pass, step_line}

-- ── the steps, by the tests that the code makes ──
pub lf_ends : (is-cr : Bool) (left c : ℕ) → is-cr ≡ true → c ≡ 10 → step_line (line is-cr left) c ≡ done 0
lf_ends is-cr left c t e = rw t (simp (eq-eqb c 10 e))

pub passes_by : (is-cr : Bool) (left c : ℕ) → (is-cr ≡ true → c ≡ 10 → ⊥) → step_line (line is-cr left) c ≡ pass (eqb c 13) left c
passes_by true left c other = simp (ne_eqb c 10 (other refl))
passes_by false left c other = refl

pub pass-go : (is-cr : Bool) (left c : ℕ) → c < 256 → least is-cr ≤ left → pass is-cr left c ≡ go (line is-cr (left - 1))
pass-go is-cr left c small h = simp (le-leb (least is-cr) left h, lt-ltb c 256 small)

pub pass-dead : (is-cr : Bool) (left c : ℕ) → left < least is-cr → pass is-cr left c ≡ dead
pass-dead is-cr left c h = simp (lt-leb (least is-cr) left h)
