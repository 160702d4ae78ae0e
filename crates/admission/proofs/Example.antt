-- Callers worked out by hand, as computed tests of the definitions; examples/doorman.c has the same table.
use Rattle.std.specs.Prelude.{◌≡◌, refl, List, [], ◌∷◌, ◌++◌, ℕ, true, replicate}
use Rattle.std.proofs.Common.{lit<}
use Rattle.exact.specs.Ascii.{ascii}
use Rattle.tlv.specs.Tlv.{Tlv, Proper}
use Rattle.tlv.specs.Test.{well_formed}
use Rattle.tlv.proofs.Test.{well_formed_tested}
use Rattle.header.specs.Block.{signature}
use Rattle.profile.specs.Profile.{admitted, more, denied}
use Rattle.admission.specs.Admits.{admission}

-- 10.0.0.0/8 has level 1, 10.1.2.0/24 inside it level 3, 2001:db8::/32 level 2
abbrev wide : List ℕ
wide = 4 ∷ 8 ∷ 1 ∷ 10 ∷ replicate 15 0

abbrev table : List ℕ
table = wide ++ 4 ∷ 24 ∷ 3 ∷ 10 ∷ 1 ∷ 2 ∷ replicate 13 0 ++ 6 ∷ 32 ∷ 2 ∷ 0x20 ∷ 0x01 ∷ 0x0D ∷ 0xB8 ∷ replicate 12 0

-- an IPv4 stream header of L bytes behind the first sixteen, from this source
abbrev ip4 : (L : ℕ) → List ℕ → List ℕ → List ℕ
ip4 L source tlvs = signature ++ 0x21 ∷ 0x11 ∷ 0 ∷ L ∷ source ++ 192 ∷ 168 ∷ 0 ∷ 11 ∷ 0xDC ∷ 0x04 ∷ 0x01 ∷ 0xBB ∷ tlvs

-- TLV 0x05, "t7"
abbrev t7 : List ℕ
t7 = 0x05 ∷ 0 ∷ 2 ∷ ascii "t7"

tlv : Tlv
tlv = record { type = 0x05; value = ascii "t7" }

proper : (rest : List Tlv) → Proper rest → Proper (tlv ∷ rest)
unfolding tlv
proper rest p = (lit< tt, (lit< tt, (lit< tt, tt)), lit< tt, p)

once : well_formed t7 ≡ true
unfolding tlv
once = (well_formed_tested t7).1 (tlv ∷ [], (refl, proper [] tt))

again : well_formed (t7 ++ t7) ≡ true
unfolding tlv
again =
    (well_formed_tested (t7 ++ t7)).1
    (tlv ∷ tlv ∷ [], (refl, proper (tlv ∷ []) (proper [] tt)))

-- 16 + 12 + 3 + 2 = 33 bytes; the value starts at 31
pub inner : admission table (ip4 17 (10 ∷ 1 ∷ 2 ∷ 7 ∷ []) t7) ≡ admitted 3 33 31 2
inner = rw once

pub outer : admission table (ip4 17 (10 ∷ 200 ∷ 0 ∷ 1 ∷ []) t7 ++ ascii "payload") ≡ admitted 1 33 31 2
outer = rw once

pub unknown : admission table (ip4 17 (192 ∷ 168 ∷ 0 ∷ 1 ∷ []) t7) ≡ admitted 0 33 31 2
unknown = rw once

-- nineteen bytes of such a header
pub begun : admission table (signature ++ 0x21 ∷ 0x11 ∷ 0 ∷ 17 ∷ 10 ∷ 1 ∷ 2 ∷ []) ≡ more 14
begun = refl

pub twice : admission table (ip4 22 (10 ∷ 1 ∷ 2 ∷ 7 ∷ []) (t7 ++ t7)) ≡ denied 33
twice = rw again

pub line : admission table (ascii "PROXY UNKNOWN\r\n") ≡ denied 30
line = refl

-- the wide prefix once more, with whatever bytes
pub duplicate : (s : List ℕ) → admission (table ++ wide) s ≡ denied 34
duplicate s = refl
