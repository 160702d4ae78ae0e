-- What the machine does at a colon part: behind a group, behind a colon, and behind "::"; and so what the part leads to.
use mathlib.Core.Path.{◌≡◌, refl, sym, ap, ◌∙◌}
use mathlib.Core.Bool.{true, false}
use mathlib.Core.List.{List, [], ◌∷◌}
use Prim.Native.Nat.{ℕ, zero, suc, ◌+◌, ◌≤◌, ◌<◌}
use native.Mathlib.Omega.{arith}
use lib.ListN.{length, get_or, take}
use lib.Dec.{eqb, ltb}
use borrow.Author.Tests.{lt-ltb, le-ltb, ltb-true, ltb-false, eq-eqb, ne_eqb, eqb-true, eqb-false}
use Rattle.exact.specs.Machine.{go, dead}
use Rattle.exact.specs.declared.Scan.{Scan}
use Rattle.exact.specs.declared.Scan.TheVariants as scan
use Rattle.exact.specs.Pick.{pick_by}
use Rattle.colon_part.specs.Part.{behind_double, behind_colon, part_at}
use Rattle.colon_part.specs.declared.Part.{Part}
use Rattle.colon_part.specs.declared.Part.TheVariants.{More, Refused, End, Group}
use Rattle.ip6.specs.Machine.{Gathered, plain, gapped, room, State, digits, behind, colon, gap, finish, follow, step}
use Rattle.ip6.specs.Steps.{colon_no_digit}
use Rattle.ip6.proofs.Steps.{colon-colon, begin_other}
use Rattle.ip6.specs.Partial.{Partial, sofar, Sized, seen_at, gathered_of}
use Rattle.ip6.specs.Answer.{From, Closed}
use Rattle.ip6.proofs.Spread.{count-length}
use Rattle.ip6.proofs.Gathered.{has_room, is_full, seen_least, none_seen, opened, gap_seen, gap_sized}
use Rattle.ip6.proofs.Turn.{wants, refuses, passes, likewise, closes}

-- ── the moves ──
module _ (end c : ℕ) where
  follow_other : (n : Gathered) → (c ≡ 58 → ⊥) → (c ≡ end → ⊥) → follow end n c ≡ dead
  follow_other n a b = simp (ne_eqb c 58 a, ne_eqb c end b)

  follow_ends : (n : Gathered) → (c ≡ 58 → ⊥) → c ≡ end → follow end n c ≡ finish n
  follow_ends n a b = simp (ne_eqb c 58 a, eq-eqb c end b)

  follow_full : (n : Gathered) → c ≡ 58 → room n ≡ false → follow end n c ≡ dead
  follow_full n a b = simp (eq-eqb c 58 a, b)

  follow_more : (n : Gathered) → c ≡ 58 → room n ≡ true → follow end n c ≡ go (colon n)
  follow_more n a b = simp (eq-eqb c 58 a, b)

  lone_step : (n : Gathered) → n ≡ plain [] → (c ≡ 58 → ⊥) → step end (colon n) c ≡ dead
  lone_step n e a = rw e (simp (ne_eqb c 58 a))

  group_step : (g : ℕ) (l : List ℕ) → 0 < length l → (c ≡ 58 → ⊥) → step end (colon (seen_at g l)) c ≡ step end (digits (seen_at g l) 0 0) c
  group_step zero [] h a = absurd (omega arith)
  group_step zero (v ∷ l) h a = simp (ne_eqb c 58 a)
  group_step (suc g) l h a = refl

  twice_step : (g : ℕ) (l : List ℕ) → 0 < g → c ≡ 58 → step end (colon (seen_at g l)) c ≡ dead
  twice_step zero l h a = absurd (omega arith)
  twice_step (suc g) l h a = begin_other end (seen_at (suc g) l) c (λ d. colon_no_digit (rw a at d))

  gap_step : (g : ℕ) (l : List ℕ) → g ≡ 0 → c ≡ 58 → step end (colon (seen_at g l)) c ≡ go (gap l)
  gap_step g l e a = rw (e, a) (colon-colon end l)

  end_step : (l : List ℕ) → c ≡ end → step end (gap l) c ≡ finish (gapped l [])
  end_step l a = simp (eq-eqb c end a)

  full_step : (l : List ℕ) → (c ≡ end → ⊥) → 7 ≤ length l → step end (gap l) c ≡ dead
  full_step l a h = simp (ne_eqb c end a, le-ltb (length l + 0) 7 (omega arith))

  right_step : (l : List ℕ) → (c ≡ end → ⊥) → length l < 7 → step end (gap l) c ≡ step end (digits (gapped l []) 0 0) c
  right_step l a h = simp (ne_eqb c end a, lt-ltb (length l + 0) 7 (omega arith))

abbrev held : Partial → List ℕ
held x = take x.count x.groups

module _ {end : ℕ} {s : List ℕ} {i : ℕ} {g : List ℕ} where
  -- ── behind a group ──
  behind_other : {n : Gathered} → i < length s → (get_or s i 0 ≡ 58 → ⊥) → (get_or s i 0 ≡ end → ⊥) → From end s i (behind n) (scan.Refused i) g
  behind_other {n} h a b = refuses h (follow_other end (get_or s i 0) n a b)

  behind_ends : {n : Gathered} {t : Scan (Unit {0})} → i < length s → (get_or s i 0 ≡ 58 → ⊥) → get_or s i 0 ≡ end → Closed i n t g
      → From end s i (behind n) t g
  behind_ends {n} h a b f = closes h (follow_ends end (get_or s i 0) n a b) f

  module _ {x : Partial} (sized : Sized x) where
    behind_full : i < length s → get_or s i 0 ≡ 58 → 8 ≤ x.count → From end s i (behind (gathered_of x)) (scan.Refused i) g
    behind_full h a n = refuses h (follow_full end (get_or s i 0) (gathered_of x) a (is_full x sized n))

    behind-colon : {t : Scan (Unit {0})} → i < length s → get_or s i 0 ≡ 58 → x.count < 8 → From end s (i + 1) (colon (gathered_of x)) t g
        → From end s i (behind (gathered_of x)) t g
    behind-colon h a n f = passes h (follow_more end (get_or s i 0) (gathered_of x) a (has_room x sized n)) f

    -- ── behind a colon ──
    colon_lone : i < length s → (get_or s i 0 ≡ 58 → ⊥) → x.count ≡ 0 → From end s i (colon (gathered_of x)) (scan.Refused i) g
    colon_lone h a n = refuses h (lone_step end (get_or s i 0) (gathered_of x) (none_seen x sized n) a)

    colon_group : {t : Scan (Unit {0})} → i < length s → (get_or s i 0 ≡ 58 → ⊥) → (x.count ≡ 0 → ⊥) → From end s i (digits (gathered_of x) 0 0) t g
        → From end s i (colon (gathered_of x)) t g
    colon_group h a n f =
        let b = count-length x sized in
        likewise h (group_step end (get_or s i 0) x.gap (held x) (omega arith) a) f

    colon_twice : i < length s → get_or s i 0 ≡ 58 → 0 < x.gap → From end s i (colon (gathered_of x)) (scan.Refused i) g
    colon_twice h a z = refuses h (twice_step end (get_or s i 0) x.gap (held x) z a)

    colon-gap : {t : Scan (Unit {0})} → i < length s → get_or s i 0 ≡ 58 → x.gap ≤ 0 → From end s (i + 1) (gap (held x)) t g
        → From end s i (colon (gathered_of x)) t g
    colon-gap h a z f = passes h (gap_step end (get_or s i 0) x.gap (held x) (omega arith) a) f

    -- ── behind "::" ──
    gap_full : i < length s → (get_or s i 0 ≡ end → ⊥) → 7 ≤ x.count → From end s i (gap (held x)) (scan.Refused i) g
    gap_full h a n = let b = count-length x sized in refuses h (full_step end (get_or s i 0) (held x) a (omega arith))

    module _ (few : x.count < 8) where
      gap_ends : {t : Scan (Unit {0})} → i < length s → get_or s i 0 ≡ end → Closed i (gathered_of (opened x)) t g → From end s i (gap (held x)) t g
      gap_ends h a f = closes h (end_step end (get_or s i 0) (held x) a ∙ ap finish (sym (gap_seen x sized few))) f

      gap_group : {t : Scan (Unit {0})} → i < length s → (get_or s i 0 ≡ end → ⊥) → x.count < 7 → From end s i (digits (gathered_of (opened x)) 0 0) t g
          → From end s i (gap (held x)) t g
      gap_group h a n f =
          let b = count-length x sized in
          likewise h
          (right_step end (get_or s i 0) (held x) a (omega arith)
          ∙ ap (λ (n : Gathered). step end (digits n 0 0) (get_or s i 0)) (sym (gap_seen x sized few)))
          f

-- ── what the part leads to ──
module _ (end : ℕ) (s : List ℕ) (x : Partial) (low : ℕ) where
  -- the groups where the part has counted
  abbrev counted : ℕ → ℕ → Partial
  counted count gaps = sofar x.groups count gaps

  -- what the machine, in the state q at the place i, answers where a part is there; a group begins at the place `low` or behind it
  abbrev pub Leads : State → ℕ → Part → Type 0
  Leads q i (More n) = (g : List ℕ) → From end s i q (scan.More n) g
  Leads q i (Refused at) = (g : List ℕ) → From end s i q (scan.Refused at) g
  Leads q i (End at count gaps) =
      Sized (counted count gaps) × (at < length s) × ((t : Scan (Unit {0})) (g : List ℕ) → Closed at (gathered_of (counted count gaps)) t g → From end s i q t g)
  Leads q i (Group at count gaps) =
      Sized (counted count gaps) × (count < 8) × (low ≤ at) × (at < length s)
      × ((t : Scan (Unit {0})) (g : List ℕ) → From end s at (digits (gathered_of (counted count gaps)) 0 0) t g → From end s i q t g)

  -- one byte later
  behind_byte : {q p : State} {i j : ℕ} → ((t : Scan (Unit {0})) (g : List ℕ) → From end s j p t g → From end s i q t g) → (r : Part) → Leads p j r → Leads q i r
  behind_byte pass (More n) l = λ g. pass _ g (l g)
  behind_byte pass (Refused at) l = λ g. pass _ g (l g)
  behind_byte pass (End at count gaps) l = (l.0, l.1, λ t g f. pass t g (l.2 t g f))
  behind_byte pass (Group at count gaps) l = (l.0, l.1, l.2, l.3, λ t g f. pass t g (l.4 t g f))

  module _ (sized : Sized x) where
    module _ (few : x.count < 8) (i : ℕ) (late : low ≤ i) where
      gap_leads : Leads (gap (held x)) i (behind_double end s i x.count)
      gap_leads =
          pick_by (Leads (gap (held x)) i) (ltb i (length s))
          (λ h.
          pick_by (Leads (gap (held x)) i) (eqb (get_or s i 0) end)
          (λ e. (gap_sized x sized few, ltb-true _ _ h, λ t g f. gap_ends sized few (ltb-true _ _ h) (eqb-true _ _ e) f))
          (λ n.
          pick_by (Leads (gap (held x)) i) (ltb x.count 7)
          (λ m. (
            gap_sized x sized few,
            (let k = ltb-true x.count 7 m in omega arith),
            late,
            ltb-true _ _ h,
            λ t g f. gap_group sized few (ltb-true _ _ h) (eqb-false _ _ n) (ltb-true _ _ m) f,
          ))
          (λ m g. gap_full sized (ltb-true _ _ h) (eqb-false _ _ n) (ltb-false _ _ m))))
          (λ h g. wants refl (ltb-false _ _ h))

    module _ (few : x.count < 8) (i : ℕ) (late : low ≤ i) where
      colon_leads : Leads (colon (gathered_of x)) i (behind_colon end s i x.count x.gap)
      colon_leads =
          pick_by (Leads (colon (gathered_of x)) i) (ltb i (length s))
          (λ h.
          pick_by (Leads (colon (gathered_of x)) i) (eqb (get_or s i 0) 58)
          (λ e.
          pick_by (Leads (colon (gathered_of x)) i) (ltb 0 x.gap)
          (λ z g. colon_twice sized (ltb-true _ _ h) (eqb-true _ _ e) (ltb-true _ _ z))
          (λ z.
          behind_byte (λ t g f. colon-gap sized (ltb-true _ _ h) (eqb-true _ _ e) (ltb-false _ _ z) f) (behind_double end s (i + 1) x.count)
          (gap_leads few (i + 1) (omega arith))))
          (λ n.
          pick_by (Leads (colon (gathered_of x)) i) (eqb x.count 0)
          (λ z g. colon_lone sized (ltb-true _ _ h) (eqb-false _ _ n) (eqb-true _ _ z))
          (λ z. (sized, few, late, ltb-true _ _ h, λ t g f. colon_group sized (ltb-true _ _ h) (eqb-false _ _ n) (eqb-false _ _ z) f))))
          (λ h g. wants refl (ltb-false _ _ h))

    pub part_leads : (i : ℕ) → low ≤ i + 1 → Leads (behind (gathered_of x)) i (part_at end s i x.count x.gap)
    part_leads i late =
        pick_by (Leads (behind (gathered_of x)) i) (ltb i (length s))
        (λ h.
        pick_by (Leads (behind (gathered_of x)) i) (eqb (get_or s i 0) 58)
        (λ e.
        pick_by (Leads (behind (gathered_of x)) i) (ltb x.count 8)
        (λ m.
        behind_byte (λ t g f. behind-colon sized (ltb-true _ _ h) (eqb-true _ _ e) (ltb-true _ _ m) f) (behind_colon end s (i + 1) x.count x.gap)
        (colon_leads (ltb-true _ _ m) (i + 1) late))
        (λ m g. behind_full sized (ltb-true _ _ h) (eqb-true _ _ e) (ltb-false _ _ m)))
        (λ n.
        pick_by (Leads (behind (gathered_of x)) i) (eqb (get_or s i 0) end)
        (λ e. (sized, ltb-true _ _ h, λ t g f. behind_ends (ltb-true _ _ h) (eqb-false _ _ n) (eqb-true _ _ e) f))
        (λ m g. behind_other (ltb-true _ _ h) (eqb-false _ _ n) (eqb-false _ _ m))))
        (λ h g. wants (sym (seen_least x sized)) (ltb-false _ _ h))
