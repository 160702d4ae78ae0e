-- Lemmas on what specs/TableLaws.antt defines.
use Rattle.std.specs.Prelude.{◌≡◌, refl, Bool, true, false, not, ◌&&◌, ◌||◌, ◌↔◌, ℕ, ◌%◌, eqb, leb, length}
use Rattle.std.proofs.Common.{sym, ◌∙◌, ⊎_elim, eqb-true, eq-eqb, leb-true, le-leb}
use mathlib.Core.List.Memᴰ
use mathlib.Core.List.{List, [], ◌∷◌, Memᴰ}
use Rattle.exact.proofs.Pick.{both}
use Rattle.exact.specs.Pick.{never}
use Rattle.prefix.specs.Prefix.{Prefix, InRange, Clear}
use Rattle.prefix.specs.PrefixTests.{good_prefix, same_prefix}
use Rattle.prefix.proofs.PrefixTests.{good_tested, same_prefix_tested}
use Rattle.prefix_table.specs.Table.{row_size, most_rows, rows_of, Distinct, Good}
use Rattle.prefix_table.specs.TableTests.{known, good_rows, good_table}
use Rattle.prefix_table.specs.TableLaws.{New}

module _ (p : Prefix) where
  new : (rows : List Prefix) → not (known p rows) ≡ true → New p rows
  new [] e q m s = Memᴰ.not-nil m
  new (r ∷ rest) e q m s = by (same_prefix p r) refl e (new rest)
    where
      by : (c : Bool) → same_prefix p r ≡ c → not (c || known p rest) ≡ true → (not (known p rest) ≡ true → New p rest) → ⊥
      by true c e behind = never e
      by false c e behind =
          ⊎_elim (λ here. never (sym c ∙ (same_prefix_tested p r).1 (rw here at s))) (λ there. behind e q there s) (Memᴰ.cases_cons m)

  not_known : (rows : List Prefix) → New p rows → not (known p rows) ≡ true
  not_known [] n = refl
  not_known (r ∷ rest) n = by (same_prefix p r) refl (not_known rest (λ q m. n q (Memᴰ.tail m)))
    where
      by : (c : Bool) → same_prefix p r ≡ c → not (known p rest) ≡ true → not (c || known p rest) ≡ true
      by true c behind = absurd (n r (Memᴰ.head refl) ((same_prefix_tested p r).0 c))
      by false c behind = behind

  new_tested : (rows : List Prefix) → (not (known p rows) ≡ true) ↔ New p rows
  new_tested rows = (new rows, not_known rows)

-- each of the rows is good
abbrev Each : List Prefix → Type 0
Each rows = (p : Prefix) → Memᴰ p rows → InRange p × Clear p

rows_tested : (rows : List Prefix) → (good_rows rows ≡ true) ↔ (Each rows × Distinct rows)
rows_tested rows = (good rows, tested rows)
  where
    good : (rows : List Prefix) → good_rows rows ≡ true → Each rows × Distinct rows
    good [] e = (λ p m. absurd (Memᴰ.not-nil m), tt)
    good (p ∷ rest) e =
        let t = both (good_prefix p) (not (known p rest) && good_rows rest) e in
        let u = both (not (known p rest)) (good_rows rest) t.1 in
        let behind = good rest u.1 in (
          λ q m. ⊎_elim (λ here. rw here ((good_tested p).0 t.0)) (behind.0 q) (Memᴰ.cases_cons m),
          ((new_tested p rest).0 u.0, behind.1),
        )

    tested : (rows : List Prefix) → Each rows × Distinct rows → good_rows rows ≡ true
    tested [] h = refl
    tested (p ∷ rest) h =
        rw (
          (good_tested p).1 (h.0 p (Memᴰ.head refl)),
          (new_tested p rest).1 h.1.0,
          tested rest (λ q m. h.0 q (Memᴰ.tail m), h.1.1),
        )

pub table_tested : (table : List ℕ) → (good_table table ≡ true) ↔ Good table
table_tested table = (good, tested)
  where
    good : good_table table ≡ true → Good table
    good e =
        let t = both (eqb (length table % row_size) 0) (leb (length (rows_of table)) most_rows && good_rows (rows_of table)) e in
        let u = both (leb (length (rows_of table)) most_rows) (good_rows (rows_of table)) t.1 in
        let each = (rows_tested (rows_of table)).0 u.1 in
        record {
          whole = eqb-true (length table % row_size) 0 t.0;
          rows = record {
            few = leb-true (length (rows_of table)) most_rows u.0;
            ranged = λ p m. (each.0 p m).0;
            clear = λ p m. (each.0 p m).1;
            distinct = each.1;
          };
        }

    tested : Good table → good_table table ≡ true
    tested g =
        let rows = g.rows in
        rw (
          eq-eqb (length table % row_size) 0 g.whole,
          le-leb (length (rows_of table)) most_rows rows.few,
          (rows_tested (rows_of table)).1 (λ p m. (rows.ranged p m, rows.clear p m), rows.distinct),
        )
