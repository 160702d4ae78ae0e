-- Lemmas on what specs/Region.antt defines.
use Rattle.std.specs.Prelude.{refl, List, [], ℕ, zero, suc}
use Rattle.exact.specs.Field.{flat, Exact}
use Rattle.exact.specs.Machine.{leaf}
use Rattle.tlv.specs.Room.{Fillable}
use Rattle.tlv.specs.RegionVerdict.{judge}
use Rattle.tlv.specs.Region.{Region}
use Rattle.tlv.proofs.RegionLeaf.{no_bytes, region_exact, some_bytes}

-- ── the parser ──
pub judge_exact : (k m n : ℕ) → Fillable n → (s : List ℕ) → Exact (leaf k (Region n)) (flat m) (judge k m n s) s
judge_exact k m zero ok s =
    record {
      front = [];
      rest = s;
      split = refl;
      size = refl;
      whole = ((refl, ([], (refl, tt))), refl);
      only = λ x y g b e l. (no_bytes g l.0.0, l.1);
    }
judge_exact k m (suc n) ok s = region_exact k m (suc n) (some_bytes n ok) s
