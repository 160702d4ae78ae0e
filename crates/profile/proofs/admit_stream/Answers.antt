-- The unique ID lies in the area, and so in the header.
use Rattle.std.proofs.Common.{◌≡◌, refl, sym, subst, Bool, true, false, List, ℕ, ◌+◌, ◌≤◌, arith, length}
use Rattle.std.specs.Prelude.{Some, None}
use Rattle.exact.specs.Pick.{pick}
use Rattle.unique_id.specs.UniqueId.{Value, identified, id_of, id_in}
use Rattle.unique_id.proofs.IdLaws.{id_inside}
use Rattle.profile.proofs.admit_stream.Goals as goal

inside : (area : List ℕ) (v : Value) → Some v ≡ id_in area → v.start + v.size ≤ length area
inside area v e = by (identified area) (λ is. id_inside area is) e
  where
    by : (b : Bool) → (b ≡ true → (id_of area).start + (id_of area).size ≤ length area) → Some v ≡ pick b (Some (id_of area)) None
        → v.start + v.size ≤ length area
    by true there e = let same : v ≡ id_of area = cc in subst (λ (w : Value). w.start + w.size ≤ length area) (sym same) (there refl)
    by false there e = cc

pub overflow_add-result : goal.overflow_add-result
overflow_add-result c =
    let h = inside c.behind-area.result.now _ c.in-Some.ensures in
    omega arith
