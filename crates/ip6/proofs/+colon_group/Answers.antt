-- `group` and `colon` answer as the machine: each return of `group` is a law of AtGroup, and `colon` goes where the part leads (AtColon).
use Rattle.std.proofs.Common.{◌≡◌, sym, ◌∙◌, subst, ℕ, ◌+◌, ◌<◌, arith, length, get_or}
use Rattle.colon_part.specs.declared.Part.{Part}
use Rattle.hex_digits.specs.Hex.{hex_of}
use Rattle.hex_digits.proofs.HexLaws.{hex_most}
use Rattle.ip6.specs.Machine.{behind}
use Rattle.ip6.specs.Partial.{Partial, sofar, gathered_of}
use Rattle.ip6.proofs.Gathered.{push_sized}
use Rattle.ip6.proofs.AtGroup.{digits_fit, digits_more, group_long, group_digit, group_ends, group_goes_on}
use Rattle.ip6.proofs.AtColon.{Leads, part_leads}
use Rattle.ip6.proofs.+colon_group.Goals.{colon-After-colon_part, group-After-hex_value-d}
use Rattle.ip6.proofs.+colon_group.Goals as goal

-- ── colon ──
module _ (t : ℕ) (c : colon-After-colon_part t) where
  abbrev partial : Partial
  partial = sofar c.args.groups.now c.args.count c.args.gap

  abbrev Led : Part → Type 0
  Led = Leads c.args.end c.args.s.now partial (c.args.i + 1) (behind (gathered_of partial)) c.args.i

  leads : (p : Part) → c.colon_part.result ≡ p → Led p
  leads p e = subst Led (sym c.colon_part.ensures ∙ e) (part_leads c.args.end c.args.s.now partial (c.args.i + 1) c.requires.0 c.args.i (omega arith))

pub colon-finished-requires : goal.colon-finished-requires
colon-finished-requires t c =
    let l = leads t (goal.at.colon-finished-requires t c).After-colon_part _ c.in-End.is in
    (l.0, let h = l.1 in let k = c.requires.1 in omega arith)

pub colon-group-requires : goal.colon-group-requires
colon-group-requires t c =
    let l = leads t (goal.at.colon-group-requires t c).After-colon_part _ c.in-Group.is in
    (let z = c.decreases in let low = l.2 in let h = l.3 in omega arith, (l.0, l.1, c.requires.1))

pub colon-returns-in-More : goal.colon-returns-in-More
colon-returns-in-More t c = leads t (goal.at.colon-returns-in-More t c).After-colon_part _ c.in-More.is _

pub colon-returns-in-Refused : goal.colon-returns-in-Refused
colon-returns-in-Refused t c = leads t (goal.at.colon-returns-in-Refused t c).After-colon_part _ c.in-Refused.is _

pub colon-returns-in-End : goal.colon-returns-in-End
colon-returns-in-End t c = (leads t (goal.at.colon-returns-in-End t c).After-colon_part _ c.in-End.is).2 _ _ c.finished.ensures

pub colon-returns-in-Group : goal.colon-returns-in-Group
colon-returns-in-Group t c = (leads t (goal.at.colon-returns-in-Group t c).After-colon_part _ c.in-Group.is).4 _ _ c.group.ensures

-- ── group, at a byte of it ──
module _ (t : ℕ) (c : group-After-hex_value-d t) where
  abbrev inside : c.loop-at.at < length c.args.s.now
  inside = c.loop-at-test.true

  valued : c.hex_value-d.result ≡ hex_of (get_or c.args.s.now c.loop-at.at 0)
  valued = c.hex_value-d.ensures

  is_none : c.hex_value-d.result ≡ 16 → hex_of (get_or c.args.s.now c.loop-at.at 0) ≡ 16
  is_none e = sym valued ∙ e

  is_digit : (c.hex_value-d.result ≡ 16 → ⊥) → hex_of (get_or c.args.s.now c.loop-at.at 0) < 16
  is_digit n =
      let a = hex_most (get_or c.args.s.now c.loop-at.at 0) in
      let e = valued in
      omega arith

  below : (c.loop-at.n ≡ 4 → ⊥) → c.loop-at.n < 4
  below n = let a = c.loop-at.invariant.1 in omega arith

pub group-colon-requires : goal.group-colon-requires
group-colon-requires t c =
    let at = (goal.at.group-colon-requires t c).After-hex_value-d in (
      let z = c.decreases in let a = c.loop-at.invariant.0 in let b = c.if-empty.false in let d = inside t at in omega arith,
      (push_sized _ c.loop-at.invariant.3 c.requires.1 _, c.requires.2),
    )

pub group-returns-then-d-eq16 : goal.group-returns-then-d-eq16
group-returns-then-d-eq16 t c =
    let at = (goal.at.group-returns-then-d-eq16 t c).After-hex_value-d in
    c.loop-at.invariant.4 _ _
    (group_ends c.loop-at.invariant.3 c.requires.1 (inside t at) (is_none t at c.if-d-eq16.true) c.if-empty.false c.colon.ensures)

pub group-returns-then-full : goal.group-returns-then-full
group-returns-then-full t c =
    let at = (goal.at.group-returns-then-full t c).After-hex_value-d in
    c.loop-at.invariant.4 _ _ (group_long (inside t at) (is_digit t at c.if-d-eq16.false) c.if-full.true)

pub group-overflow_mul-v : goal.group-overflow_mul-v
group-overflow_mul-v t c =
    let at = (goal.at.group-overflow_mul-v t c).After-hex_value-d in
    let a = digits_fit _ _ c.loop-at.invariant.2 (below t at c.if-full.false) in
    omega arith

pub group-overflow_add-v : goal.group-overflow_add-v
group-overflow_add-v t c =
    let at = (goal.at.group-overflow_add-v t c).After-hex_value-d in
    let a = digits_fit _ _ c.loop-at.invariant.2 (below t at c.if-full.false) in
    let b = is_digit t at c.if-d-eq16.false in
    let e = valued t at in
    omega arith

pub group-loop-at-preserved : goal.group-loop-at-preserved
group-loop-at-preserved t c =
    let at = (goal.at.group-loop-at-preserved t c).After-hex_value-d in
    let few = below t at c.if-full.false in
    let digit = is_digit t at c.if-d-eq16.false in
    let value = valued t at in (
      omega arith,
      omega arith,
      digits_more _ _ _ c.loop-at.invariant.2 (omega arith),
      c.loop-at.invariant.3,
      λ r g f. c.loop-at.invariant.4 r g (group_digit (inside t at) digit few (rw value at f)),
    )

-- the bytes end in the group
pub group-returns-else-n-eq0 : goal.group-returns-else-n-eq0
group-returns-else-n-eq0 t c =
    c.loop-at.invariant.4 _ _
    (group_goes_on c.loop-at.invariant.3 c.requires.1 c.loop-at-test.false c.least_behind-behind.ensures c.if-n-eq0.false)
