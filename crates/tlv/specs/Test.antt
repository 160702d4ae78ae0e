-- The test of well-formedness, known by its law alone.
use Rattle.std.specs.Prelude.{Bool, true, false, List, ℕ, length}
use Rattle.exact.specs.Claim.{Verdict, accepted, more, refused}
use Rattle.tlv.specs.RegionVerdict.{judge}

unfoldable pub accepts : Verdict ℕ → Bool
accepts (accepted a n) = true
accepts (more n) = false
accepts (refused k p) = false

-- whether TLVs fill these bytes: by `well_formed_tested`, no less and no more
unfoldable pub well_formed : List ℕ → Bool
well_formed s = accepts (judge 0 0 (length s) s)
