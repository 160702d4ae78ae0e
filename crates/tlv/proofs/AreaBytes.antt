-- Lemmas on what specs/Laws.antt defines.
use Rattle.std.specs.Prelude.{List, [], ◌∷◌, ℕ}
use Rattle.std.proofs.Common.{sym, subst, arith}
use Rattle.exact.specs.Claim.{AllBytes}
use Rattle.exact.specs.Parser.{bytes_append}
use Rattle.tlv.specs.Tlv.{Tlv, written, Proper, WellFormed}

written_bytes : (a : List Tlv) → Proper a → AllBytes (written a)
written_bytes [] p = tt
written_bytes (t ∷ a) p = (p.0, (omega arith, (omega arith, bytes_append t.value (written a) p.1 (written_bytes a p.3))))

pub area_bytes : (f : List ℕ) → WellFormed f → AllBytes f
area_bytes f w = subst AllBytes (sym w.1.0) (written_bytes w.0 w.1.1)
