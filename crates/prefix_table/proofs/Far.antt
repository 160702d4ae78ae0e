-- The longest prefix of the rows before a place, and what a row more makes of it.
use Rattle.std.specs.Prelude.{Option, Some, None, map}
use Rattle.std.proofs.Common.{◌≡◌, refl, sym, ap, ◌∙◌, Bool, true, false, ◌&&◌, List, ℕ, suc, ◌+◌, ◌≤◌, ◌<◌, arith, lt-ltb, le-ltb, ltb, length, drop, get_or}
use Rattle.exact.specs.Pick.{pick}
use Rattle.prefix.specs.Prefix.{Prefix, row_of}
use Rattle.prefix.specs.PrefixTests.{matches}
use Rattle.prefix_table.specs.TableTests.{reach, longest_from, level_of}
use Rattle.prefix_table.proofs.RowLaws.{rows_at}

-- the longest of the prefix so far and the rows from the place on is the longest of all
pub record Far (rows : List (List ℕ)) (family : ℕ) (source : List ℕ) (at far level : ℕ) : Type 0 where
  pub best : Option Prefix
  pub reaches : far ≡ reach best
  pub gives : level ≡ level_of best
  pub decides : longest_from best (map row_of (drop at rows)) family source ≡ longest_from None (map row_of rows) family source

neither : (b : Bool) → b && false ≡ false
neither true = refl
neither false = refl

module _ (rows : List (List ℕ)) (source : List ℕ) (family at far level : ℕ) (so_far : Far rows family source at far level) (d : List ℕ) (inside : at < length rows) where
  abbrev p : Prefix
  p = row_of (get_or rows at d)

  next : (reached gained : ℕ) (b : Bool) → matches p family source && ltb (reach so_far.best) (suc p.bits) ≡ b
      → reached ≡ reach (pick b (Some p) so_far.best) → gained ≡ level_of (pick b (Some p) so_far.best)
      → Far rows family source (at + 1) reached gained
  next reached gained b is r l =
      record {
        best = pick b (Some p) so_far.best;
        reaches = r;
        gives = l;
        decides =
            ap (λ (t : Bool). longest_from (pick t (Some p) so_far.best) (map row_of (drop (at + 1) rows)) family source) (sym is)
            ∙ sym (ap (λ (left : List Prefix). longest_from so_far.best left family source) (rows_at rows at d inside))
            ∙ so_far.decides;
      }

  module _ {row : List ℕ} (is : row ≡ get_or rows at d) where
    here : (b : Bool) → matches (row_of row) family source ≡ b → matches p family source ≡ b
    here b m = ap (λ (l : List ℕ). matches (row_of l) family source) (sym is) ∙ m

    -- a row that matches and reaches further
    pub further : (reached gained : ℕ) → reached ≡ get_or row 1 0 + 1 → gained ≡ get_or row 2 0 → far < reached
        → matches (row_of row) family source ≡ true → Far rows family source (at + 1) reached gained
    further reached gained r g more m =
        let bits : reached ≡ p.bits + 1 = r ∙ ap (λ (l : List ℕ). get_or l 1 0 + 1) is in
        let so = so_far.reaches in
        next reached gained true (rw (here true m, lt-ltb (reach so_far.best) (suc p.bits) (omega arith))) (omega arith)
        (g ∙ ap (λ (l : List ℕ). get_or l 2 0) is)

    -- one that does not match, or reaches no further
    pub no_match : matches (row_of row) family source ≡ false → Far rows family source (at + 1) far level
    no_match m = next far level false (rw (here false m)) so_far.reaches so_far.gives

    pub no_further : get_or row 1 0 + 1 ≤ far → Far rows family source (at + 1) far level
    no_further less =
        let bits : get_or row 1 0 ≡ p.bits = ap (λ (l : List ℕ). get_or l 1 0) is in
        let so = so_far.reaches in
        next far level false
        (ap (λ (t : Bool). matches p family source && t) (le-ltb (reach so_far.best) (suc p.bits) (omega arith))
        ∙ neither (matches p family source)) so_far.reaches so_far.gives
