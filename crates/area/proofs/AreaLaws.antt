-- The part of the bytes between the area's start and its end is the area.
use Rattle.std.specs.Prelude.{◌≡◌, Bool, true, false, List, [], ℕ, ◌+◌, ◌-◌, ◌≤◌, min, eqb, length, take, drop, get_or}
use Rattle.std.proofs.Common.{sym, ap, ◌∙◌, arith, length-take, length-drop, ext_get_or, get_or-take, get_or-drop}
use Rattle.exact.specs.Pick.{pick}
use Rattle.record.specs.declared.Kind.{Kind}
use Rattle.record.specs.declared.Kind.TheVariants.{Local, Unspecified, Ip4, Ip6, Unix}
use Rattle.record.specs.Kinds.{block_length}
use Rattle.answer.specs.Answers.{block_area, area_of}
use Rattle.area.specs.Area.{span_end, span_start}

-- of a header of n bytes
module _ (n v : ℕ) (kind : Kind) where
  end_within : (size : ℕ) → span_end n v kind size ≤ size
  end_within size = by (eqb v 2) (eqb (block_length kind) 0)
    where
      by : (b c : Bool) → pick b (pick c 0 (min n size)) 0 ≤ size
      by true true = omega arith
      by true false = omega arith
      by false c = omega arith

  pub span_inside : (size : ℕ) → (span_start n v kind size ≤ span_end n v kind size) × (span_end n v kind size ≤ size)
  span_inside size = (omega arith, end_within size)

-- a part from m to n, with both cut at the end of the bytes
part : (s : List ℕ) (m n : ℕ) → take (min n (length s) - min m (min n (length s))) (drop (min m (min n (length s))) s) ≡ drop m (take n s)
part s m n =
    ext_get_or 0 _ _ (simp (length-take, length-drop) (omega arith))
    (λ i h.
    let size = simp (length-take, length-drop) at h in
    let start : min m (min n (length s)) + i ≡ m + i = omega arith in
    get_or-take (min n (length s) - min m (min n (length s))) (drop (min m (min n (length s))) s) i 0 (omega arith)
    ∙ get_or-drop (min m (min n (length s))) s i 0
    ∙ ap (λ (j : ℕ). get_or s j 0) start
    ∙ sym (get_or-drop m (take n s) i 0 ∙ get_or-take n s (m + i) 0 (omega arith)))

-- nothing between 0 and 0
nothing : (s : List ℕ) (m : ℕ) → take (0 - min m 0) (drop (min m 0) s) ≡ []
nothing s m = let e : 0 - min m 0 ≡ 0 = omega arith in ap (λ (k : ℕ). take k (drop (min m 0) s)) e

-- the area of an accepted header, by its version and kind
accepted_part : (n : ℕ) (b : Bool) (kind : Kind) (s : List ℕ)
    → take (pick b (pick (eqb (block_length kind) 0) 0 (min n (length s))) 0 - min (16 + block_length kind) (pick b (pick (eqb (block_length kind) 0) 0 (min n (length s))) 0))
    (drop (min (16 + block_length kind) (pick b (pick (eqb (block_length kind) 0) 0 (min n (length s))) 0)) s) ≡ pick b (block_area kind (take n s)) []
accepted_part n false kind s = nothing s (16 + block_length kind)
accepted_part n true Local s = nothing s 16
accepted_part n true Unspecified s = nothing s 16
accepted_part n true (Ip4 t) s = part s 28 n
accepted_part n true (Ip6 t) s = part s 52 n
accepted_part n true (Unix t) s = part s 232 n

pub span_part : (n v : ℕ) (kind : Kind) (s : List ℕ)
    → take (span_end n v kind (length s) - span_start n v kind (length s)) (drop (span_start n v kind (length s)) s) ≡ area_of v kind (take n s)
span_part n v kind s = accepted_part n (eqb v 2) kind s
