-- What follows of joined areas: three of them, and ill-formed ones. A file of its own: an edit of what it rests on is then read, and refused by the proof of that.
use Rattle.std.specs.Prelude.{◌≡◌, List, ◌++◌, ℕ}
use Rattle.std.proofs.Common.{sym, ap, ◌∙◌, append_assoc}
use Rattle.tlv.specs.Tlv.{Tlv, WellFormed}
use Rattle.tlv.specs.Listed.{tlvs_of}
use Rattle.lookup.specs.Lookup.{ill_formed, lookup_of}
use Rattle.lookup.proofs.LookupLemmas.{lookup_refused}
use Rattle.lookup.proofs.Joining.{join_well_formed, join_list, second_well_formed}

-- so the list of three joined areas is their lists joined, however either is grouped
pub three_lists : (f g h : List ℕ) → WellFormed f → WellFormed g → WellFormed h → tlvs_of (f ++ (g ++ h)) ≡ (tlvs_of f ++ tlvs_of g) ++ tlvs_of h
three_lists f g h x y z =
    ap tlvs_of (sym (append_assoc f g h))
    ∙ join_list (f ++ g) h (join_well_formed f g x y) z
    ∙ ap (λ (l : List Tlv). l ++ tlvs_of h) (join_list f g x y)

-- so behind a well-formed part an ill-formed one makes the join ill-formed, and lookup answers 12, count 0
pub join_ill_formed : (f g : List ℕ) → WellFormed f → (WellFormed g → ⊥) → WellFormed (f ++ g) → ⊥
join_ill_formed f g x not w = not (second_well_formed f g x w)

pub lookup_ill_formed : (f g : List ℕ) → WellFormed f → (WellFormed g → ⊥) → (wanted limit : ℕ) → lookup_of (f ++ g) wanted limit ≡ ill_formed
lookup_ill_formed f g x not wanted limit = lookup_refused (f ++ g) wanted limit (join_ill_formed f g x not)
