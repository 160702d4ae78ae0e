-- A table row by row: its rows are those of its chunks.
use Rattle.std.specs.Prelude.{◌≡◌, refl, Bool, true, false, not, ◌&&◌, ◌||◌, List, [], ◌∷◌, ℕ, zero, suc, ◌+◌, ◌/◌, ◌%◌, ◌≤◌, ◌<◌, length, take, drop, get_or, map, eqb}
use Rattle.std.proofs.Common.{sym, ap, ap₂, ◌∙◌, arith, add-one, drop-cons, drop_of_length-le, length-take, take_all, eq-eqb, le-leb}
use Rattle.std.proofs.lemmas.Bool.{lt-leb}
use Rattle.std.proofs.lemmas.List.{get_or-take, drop-take}
use Rattle.std.specs.Simd.{first_chunks}
use Rattle.prefix.specs.Prefix.{Prefix, row_of}
use Rattle.prefix.specs.PrefixTests.{good_prefix, same_prefix}
use Rattle.prefix_table.specs.Table.{row_size, rows_from, rows_of}
use Rattle.prefix_table.specs.TableTests.{known, good_rows, good_table}

neither : (b : Bool) → b && false ≡ false
neither true = refl
neither false = refl

-- a row is cut from what follows it
row_cut : (t : List ℕ) → row_of (take 19 t) ≡ row_of t
row_cut t =
    let rest = take 16 (drop 3 t) in
    let size = length-take 16 (drop 3 t) in
    let whole : take 16 (drop 3 (take 19 t)) ≡ rest = ap (take 16) (drop-take 3 16 t) ∙ take_all 16 rest (omega arith) in
    rw (get_or-take 19 t 0 0 (omega arith), get_or-take 19 t 1 0 (omega arith), get_or-take 19 t 2 0 (omega arith), whole)

pub chunked : (n : ℕ) (table : List ℕ) → map row_of (first_chunks 19 n table) ≡ rows_from n table
chunked zero table = refl
chunked (suc n) table = ap₂ (λ (p : Prefix) (l : List Prefix). p ∷ l) (row_cut table) (chunked n (drop 19 table))

pub rows_count : (n : ℕ) (table : List ℕ) → length (rows_from n table) ≡ n
rows_count zero table = refl
rows_count (suc n) table = ap suc (rows_count n (drop row_size table))

module _ (rows : List (List ℕ)) (at : ℕ) where
  -- the row at a place, and those behind it
  pub rows_at : (d : List ℕ) → at < length rows → map row_of (drop at rows) ≡ row_of (get_or rows at d) ∷ map row_of (drop (at + 1) rows)
  rows_at d h = ap (map row_of) (drop-cons rows at d h ∙ ap (λ (n : ℕ). get_or rows at d ∷ drop n rows) (sym (add-one at)))

  pub rows_done : length rows ≤ at → map row_of (drop at rows) ≡ []
  rows_done h = ap (map row_of) (drop_of_length-le rows {i = at} h)

-- one of the rows from a place on has the prefix
module _ (q : Prefix) (rows : List (List ℕ)) (i : ℕ) (d : List ℕ) (inside : i < length rows) {all : Bool} (left : known q (map row_of (drop i rows)) ≡ all) where
  either : same_prefix q (row_of (get_or rows i d)) || known q (map row_of (drop (i + 1) rows)) ≡ all
  either = sym (ap (known q) (rows_at rows i d inside)) ∙ left

  pub found : same_prefix q (row_of (get_or rows i d)) ≡ true → true ≡ all
  found e = sym (ap (λ (b : Bool). b || known q (map row_of (drop (i + 1) rows))) e) ∙ either

  pub passed : same_prefix q (row_of (get_or rows i d)) ≡ false → known q (map row_of (drop (i + 1) rows)) ≡ all
  passed e = sym (ap (λ (b : Bool). b || known q (map row_of (drop (i + 1) rows))) e) ∙ either

module _ (table : List ℕ) (rows : List (List ℕ)) (front : rows ≡ first_chunks 19 (length table / 19) table) where
  pub is_rows : map row_of rows ≡ rows_of table
  is_rows = ap (map row_of) front ∙ chunked (length table / 19) table

  -- as many rows as the bytes have
  count : length (rows_of table) ≡ length table / 19
  count = rows_count (length table / 19) table

  pub too_many : 64 < length table / 19 → false ≡ good_table table
  too_many h =
      let n = count in
      let whole = eqb (length table % 19) 0 in
      sym (ap (λ (t : Bool). whole && (t && good_rows (rows_of table))) (lt-leb (length (rows_of table)) 64 (omega arith)) ∙ neither whole)

  pub by_rows : length table % 19 ≡ 0 → length table / 19 ≤ 64 → good_rows (map row_of rows) ≡ good_table table
  by_rows h k =
      let n = count in
      ap good_rows is_rows
      ∙ sym (ap₂ (λ (s t : Bool). s && (t && good_rows (rows_of table))) (eq-eqb (length table % 19) 0 h) (le-leb (length (rows_of table)) 64 (omega arith)))

-- the row at a place decides, or those behind it
module _ (rows : List (List ℕ)) (i : ℕ) (d : List ℕ) (inside : i < length rows) {all : Bool} (left : good_rows (map row_of (drop i rows)) ≡ all) where
  abbrev p : Prefix
  p = row_of (get_or rows i d)

  abbrev rest : List Prefix
  rest = map row_of (drop (i + 1) rows)

  here : good_prefix p && (not (known p rest) && good_rows rest) ≡ all
  here = sym (ap good_rows (rows_at rows i d inside)) ∙ left

  pub bad : good_prefix p ≡ false → false ≡ all
  bad g = sym (ap (λ (t : Bool). t && (not (known p rest) && good_rows rest)) g) ∙ here

  pub twice : good_prefix p ≡ true → known p rest ≡ true → false ≡ all
  twice g k = sym (ap₂ (λ (s t : Bool). s && (not t && good_rows rest)) g k) ∙ here
