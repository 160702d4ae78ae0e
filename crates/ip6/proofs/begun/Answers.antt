-- `begun` answers as the machine from its start: at a colon as `colon` behind no group, elsewhere as `group`.
use Rattle.std.proofs.Common.{◌≡◌, refl, List, [], ℕ, arith, eq-eqb, ne_eqb, length, get_or}
use Rattle.exact.specs.declared.Scan.{Scan}
use Rattle.ip6.specs.Machine.{plain, start, digits, behind}
use Rattle.ip6.specs.Answer.{From}
use Rattle.ip6.proofs.Turn.{wants, likewise}
use Rattle.ip6.proofs.begun.Goals as goal

module _ {end : ℕ} {s : List ℕ} {t : Scan (Unit {0})} {g : List ℕ} where
  at_colon : (length s ≡ 0 → ⊥) → get_or s 0 0 ≡ 58 → From end s 0 (behind (plain [])) t g → From end s 0 start t g
  at_colon n e f = likewise (omega arith) (simp (eq-eqb (get_or s 0 0) 58 e)) f

  at_group : (length s ≡ 0 → ⊥) → (get_or s 0 0 ≡ 58 → ⊥) → From end s 0 (digits (plain []) 0 0) t g → From end s 0 start t g
  at_group n e f = likewise (omega arith) (simp (ne_eqb (get_or s 0 0) 58 e)) f

pub returns-then-s-eq0 : goal.returns-then-s-eq0
returns-then-s-eq0 c = let none = c.if-s-eq0.true in wants refl (omega arith)

pub returns-then-s-eq58 : goal.returns-then-s-eq58
returns-then-s-eq58 c = at_colon c.if-s-eq0.false c.if-s-eq58.true c.colon.ensures

pub returns-else-s-eq58 : goal.returns-else-s-eq58
returns-else-s-eq58 c = at_group c.if-s-eq0.false c.if-s-eq58.false c.group.ensures
