-- The bytes before a place, four zeros, and the bytes behind: the checksum of the whole with the four at the place cleared.
use mathlib.Core.Path.{◌≡◌, sym, ap, ap₂, ◌∙◌}
use mathlib.Core.List.{List, ◌++◌}
use Prim.Native.Nat.{ℕ, ◌+◌}
use lib.ListN.{take, drop, replicate}
use lib.Seq.{drop-drop}
use lib.Bits.{bit_xor}
use Rattle.crc.specs.Crc.{register, ones, checksum, cleared}
use Rattle.crc.proofs.PartLaws.{in_parts}

pub around : (at : ℕ) (bs : List ℕ)
    → bit_xor (register (register (register ones (take at bs)) (replicate 4 0)) (drop 4 (drop at bs))) ones ≡ checksum (cleared at bs)
unfolding checksum cleared
around at bs =
    ap (λ (x : ℕ). bit_xor x ones)
    (ap₂ register (sym (in_parts ones (take at bs) (replicate 4 0))) (drop-drop 4 at bs) ∙ sym (in_parts ones (take at bs ++ replicate 4 0) (drop (at + 4) bs)))
