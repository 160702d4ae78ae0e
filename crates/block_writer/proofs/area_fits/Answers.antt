-- Each arm answers as `area_test` does at its kinds; what `well_formed` ensures is the test of a well-formed area.
use Rattle.std.proofs.Common.{ℕ, ◌≡◌, sym, Bool, true, List, inl, inr}
use Rattle.tlv.specs.Tlv.{WellFormed}
use Rattle.tlv.specs.Test.{well_formed}
use Rattle.tlv.proofs.Test.{tested_is}
use Rattle.block_writer.proofs.area_fits.Goals as goal

tested : (b : Bool) (area : List ℕ) → (b ≡ true → WellFormed area) × (WellFormed area → b ≡ true) → b ≡ well_formed area
tested b area e = sym (tested_is area b e.0 e.1)

pub returns-in-Local : goal.returns-in-Local
returns-in-Local c = elim c.in-Local.is [ inl e ↦ rw e | inr e ↦ rw e ]

pub returns-in-Ip4 : goal.returns-in-Ip4
returns-in-Ip4 c =
    let t = tested c.well_formed-in-Ip4.result _ c.well_formed-in-Ip4.ensures in
    elim c.in-Ip4.is [ inl e ↦ rw e.1 t | inr r ↦ elim r [ inl e ↦ rw e.1 t | inr e ↦ rw e.1 t ] ]
