-- Lemmas on what specs/Demand.antt defines.
use Rattle.std.specs.Prelude.{◌≡◌, refl, Bool, true, false, ◌⊎◌, ℕ, ◌≤◌, eqb, leb, length}
use Rattle.std.proofs.Common.{sym, ap, ◌∙◌, subst, inl, inr, ⊎_elim, arith}
use mathlib.Core.List.Permᴰ
use mathlib.Core.List.{List, ◌∷◌, ◌++◌, Memᴰ, Permᴰ}
use Rattle.exact.specs.Claim as Claim
use Rattle.exact.specs.Pick.{pick, pick_by, never}
use Rattle.header.specs.Header.{Header}
use Rattle.header.specs.Demand.{Judges}
use Rattle.fields.proofs.HeaderVerdict.{verdict}
use Rattle.fields.proofs.Exactness.{judges, judges_only, judges_stays}
use Rattle.prefix.specs.Prefix.{Prefix}
use Rattle.prefix_table.specs.Table.{rows_of, GoodRows, Good}
use Rattle.prefix_table.specs.TableTests.{good_table}
use Rattle.prefix_table.proofs.TableLaws.{table_tested}
use Rattle.prefix_table.proofs.Levels.{level_decides, decides_one, perm_good, perm_level, one_more_row, level_from}
use Rattle.unique_id.specs.UniqueId.{identified}
use Rattle.profile.specs.Profile.{Admission, admitted, more, denied, Origin, local, stream, other, origin_of, if_short, by_origin, profile, SourceLevel, source_level}
use Rattle.admission.specs.Admits.{Admits, bad_table, unfinished, no_header, header, admission_by, admission}
use Rattle.admission.specs.Demand.{FromRow, InPrefix, level_of}

-- ── one answer is claimed ──
module _ (rows : List Prefix) (source : List ℕ) where
  source_decides : (o : Origin) → SourceLevel rows o source (source_level rows o source)
  source_decides local = refl
  source_decides (stream family) = level_decides family source rows
  source_decides other = refl

  source_one : GoodRows rows → (o : Origin) (l : ℕ) → SourceLevel rows o source l → l ≡ source_level rows o source
  source_one good local l d = d
  source_one good (stream family) l d = decides_one family source rows good l d
  source_one good other l d = d

-- of a table that is not good, and of a good one
pub by_bad : (table s : List ℕ) → (Good table → ⊥) → admission table s ≡ denied 34
by_bad table s bad =
    pick_by (λ (a : Admission). a ≡ denied 34) (good_table table) (λ e. absurd (bad ((table_tested table).0 e))) (λ e. refl)

pub by_good : (table s : List ℕ) → Good table → admission table s ≡ admission_by (rows_of table) (verdict s)
by_good table s good = rw ((table_tested table).1 good)

pub admits : (table s : List ℕ) → Admits table s (admission table s)
admits table s =
    pick_by (Admits table s) (good_table table) (λ e. by ((table_tested table).0 e) (verdict s) (judges s))
    (λ e. bad_table (λ good. never (sym e ∙ (table_tested table).1 good)))
  where
    by : Good table → (v : Claim.Verdict Header) → Judges v s → Admits table s (admission_by (rows_of table) v)
    by good (Claim.accepted h n) j = header h n _ good j (source_decides (rows_of table) h.«record».source (origin_of h.«record».kind))
    by good (Claim.more n) j = unfinished n good j
    by good (Claim.refused k p) j = no_header k p good j

pub admits_only : (table s : List ℕ) (a : Admission) → Admits table s a → a ≡ admission table s
admits_only table s _ (bad_table bad) = sym (by_bad table s bad)
admits_only table s _ (unfinished n good j) =
    ap (admission_by (rows_of table)) (judges_only (Claim.more n) s j) ∙ sym (by_good table s good)
admits_only table s _ (no_header k p good j) =
    ap (admission_by (rows_of table)) (judges_only (Claim.refused k p) s j) ∙ sym (by_good table s good)
admits_only table s _ (header h n level good j d) =
    ap (profile h n) (source_one (rows_of table) h.«record».source good.rows (origin_of h.«record».kind) level d)
    ∙ ap (admission_by (rows_of table)) (judges_only (Claim.accepted h n) s j)
    ∙ sym (by_good table s good)

-- ── "bytes behind the header change no answer but "more"" ──
pub admission_stays : (table s t : List ℕ) → ((n : ℕ) → admission table s ≡ more n → ⊥) → admission table (s ++ t) ≡ admission table s
admission_stays table s t decided = by (good_table table) refl
  where
    same : (v : Claim.Verdict Header) → verdict s ≡ v → ((n : ℕ) → admission_by (rows_of table) v ≡ more n → ⊥) → verdict (s ++ t) ≡ v
    same v e d =
        sym
        (judges_only v (s ++ t)
        (judges_stays v s t (λ n is. d n (ap (admission_by (rows_of table)) is)) (subst (λ (w : Claim.Verdict Header). Judges w s) e (judges s))))

    by : (b : Bool) → good_table table ≡ b → admission table (s ++ t) ≡ admission table s
    by true e =
        let d : (n : ℕ) → admission_by (rows_of table) (verdict s) ≡ more n → ⊥ = λ n is. decided n (rw e is) in
        ap (λ (v : Claim.Verdict Header). pick (good_table table) (admission_by (rows_of table) v) (denied 34)) (same (verdict s) refl d)
    by false e = rw e

-- ── "the order of the rows does not matter" ──
module _ (one another : List ℕ) (size : length one ≡ length another) (perm : Permᴰ (rows_of one) (rows_of another)) where
  good_again : Good one → Good another
  good_again good = record { whole = rw size at good.whole; rows = perm_good perm good.rows }

  source_again : Good one → (o : Origin) (source : List ℕ) → source_level (rows_of one) o source ≡ source_level (rows_of another) o source
  source_again good local source = refl
  source_again good (stream family) source = perm_level perm good.rows family source
  source_again good other source = refl

  by_again : Good one → (v : Claim.Verdict Header) → admission_by (rows_of one) v ≡ admission_by (rows_of another) v
  by_again good (Claim.accepted h n) = ap (profile h n) (source_again good (origin_of h.«record».kind) h.«record».source)
  by_again good (Claim.more n) = refl
  by_again good (Claim.refused k p) = refl

pub order_free : (one another s : List ℕ) → length one ≡ length another → Permᴰ (rows_of one) (rows_of another) → admission one s ≡ admission another s
order_free one another s size perm = by (good_table one) refl
  where
    by : (b : Bool) → good_table one ≡ b → admission one s ≡ admission another s
    by true e =
        let good = (table_tested one).0 e in
        by_good one s good ∙ by_again one another size perm good (verdict s) ∙ sym (by_good another s (good_again one another size perm good))
    by false e =
        let bad : Good one → ⊥ = λ good. never (sym e ∙ (table_tested one).1 good) in
        by_bad one s bad ∙ sym (by_bad another s (λ good. bad (good_again another one (sym size) (Permᴰ.symm perm) good)))

-- ── "a table with one more row of level l changes levels only for sources in that prefix" ──
module _ (p : Prefix) (table larger : List ℕ) (good : Good table) (still : Good larger) (perm : Permᴰ (rows_of larger) (p ∷ rows_of table)) where
  source_changes : (o : Origin) (source : List ℕ)
      → (source_level (rows_of larger) o source ≡ source_level (rows_of table) o source) ⊎ (InPrefix p o source × (source_level (rows_of larger) o source ≡ p.level))
  source_changes local source = inl refl
  source_changes (stream family) source = one_more_row p (rows_of table) (rows_of larger) perm still.rows family source
  source_changes other source = inl refl

  -- the answer is the same, or the source lies in the prefix and has its level
  pub one_more_changes : (s : List ℕ)
      → (admission larger s ≡ admission table s)
      ⊎ ((h : Header) × (n : ℕ) × Judges (Claim.accepted h n) s × InPrefix p (origin_of h.«record».kind) h.«record».source × (admission larger s ≡ profile h n p.level))
  one_more_changes s = by (verdict s) refl (judges s)
    where
      same : (v : Claim.Verdict Header) → verdict s ≡ v → admission_by (rows_of larger) v ≡ admission_by (rows_of table) v → admission larger s ≡ admission table s
      same v e f =
          by_good larger s still ∙ ap (admission_by (rows_of larger)) e ∙ f ∙ ap (admission_by (rows_of table)) (sym e) ∙ sym (by_good table s good)

      by : (v : Claim.Verdict Header) → verdict s ≡ v → Judges v s
          → (admission larger s ≡ admission table s)
          ⊎ ((h : Header) × (n : ℕ) × Judges (Claim.accepted h n) s × InPrefix p (origin_of h.«record».kind) h.«record».source × (admission larger s ≡ profile h n p.level))
      by (Claim.accepted h n) e j =
          ⊎_elim (λ kept. inl (same (Claim.accepted h n) e (ap (profile h n) kept)))
          (λ changed. inr (h, n, j, changed.0, by_good larger s still ∙ ap (admission_by (rows_of larger)) e ∙ ap (profile h n) changed.1))
          (source_changes (origin_of h.«record».kind) h.«record».source)
      by (Claim.more n) e j = inl (same (Claim.more n) e refl)
      by (Claim.refused k q) e j = inl (same (Claim.refused k q) e refl)

-- ── "no source gets a level that no matching row has, but 0" ──
-- a profile gives the level of the source, or none
abbrev Given : (level : ℕ) → Admission → Type 0
Given level a = (level_of a ≡ 0) ⊎ (level_of a ≡ level)

profile_level : (h : Header) (n level : ℕ) → Given level (profile h n level)
profile_level h n level =
    pick_by (Given level) (eqb h.version 2) (λ e. by_origin_lem (origin_of h.«record».kind)) (λ e. inl refl)
  where
    short : (a : Admission) → Given level a → Given level (if_short n a)
    short a g = pick_by (Given level) (leb n 536) (λ e. g) (λ e. inl refl)

    by_origin_lem : (o : Origin) → Given level (by_origin o h.area n level)
    by_origin_lem local = short (admitted 0 n 0 0) (inl refl)
    by_origin_lem (stream family) = short _ (pick_by (Given level) (identified h.area) (λ e. inr refl) (λ e. inl refl))
    by_origin_lem other = inl refl

pub level_from_row : (table s : List ℕ) → FromRow table s (level_of (admission table s))
level_from_row table s =
    pick_by (λ (a : Admission). FromRow table s (level_of a)) (good_table table) (λ e. by (verdict s) (judges s)) (λ e. inl refl)
  where
    source_from : (o : Origin) (source : List ℕ)
        → (source_level (rows_of table) o source ≡ 0)
        ⊎ ((p : Prefix) × Memᴰ p (rows_of table) × InPrefix p o source × (p.level ≡ source_level (rows_of table) o source))
    source_from local source = inl refl
    source_from (stream family) source = level_from (rows_of table) family source
    source_from other source = inl refl

    by : (v : Claim.Verdict Header) → Judges v s → FromRow table s (level_of (admission_by (rows_of table) v))
    by (Claim.accepted h n) j =
        let source = h.«record».source in
        let origin = origin_of h.«record».kind in
        ⊎_elim inl
        (λ same.
        ⊎_elim (λ zero. inl (same ∙ zero)) (λ w. inr (h, n, w.0, j, w.1, w.2, w.3 ∙ sym same)) (source_from origin source))
        (profile_level h n (source_level (rows_of table) origin source))
    by (Claim.more n) j = inl refl
    by (Claim.refused k p) j = inl refl

-- "level 0 to 3"
pub level_small : (table s : List ℕ) → level_of (admission table s) ≤ 3
level_small table s = by (good_table table) refl
  where
    small : (l : ℕ) → Good table → FromRow table s l → l ≤ 3
    small l good (inl e) = omega arith
    small l good (inr w) = let r = (good.rows.ranged w.2 w.4).1 in let e = w.6 in omega arith

    by : (b : Bool) → good_table table ≡ b → level_of (admission table s) ≤ 3
    by true e = small _ ((table_tested table).0 e) (level_from_row table s)
    by false e = let z = ap level_of (by_bad table s (λ good. never (sym e ∙ (table_tested table).1 good))) in omega arith
