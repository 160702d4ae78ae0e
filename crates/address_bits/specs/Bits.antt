-- The bits of addresses, as prefixes speak of them.
use Rattle.std.specs.Prelude.{◌≡◌, Bool, true, ◌&&◌, List, ℕ, zero, suc, ◌+◌, ◌-◌, ◌/◌, ◌%◌, ◌^◌, ◌≤◌, ◌<◌, eqb, get_or}

-- bit i of an address: eight to a byte, the highest first; behind its bytes they are 0
abbrev pub bit_at : List ℕ → ℕ → ℕ
bit_at address i = get_or address (i / 8) 0 / 2 ^ (7 - i % 8) % 2

-- "the first b bits are equal"
abbrev pub SameBits : (b : ℕ) → List ℕ → List ℕ → Type 0
SameBits b one other = (i : ℕ) → i < b → bit_at one i ≡ bit_at other i

-- no "bit beyond the prefix set": the prefix has b bits, the address 128
abbrev pub ClearBits : (b : ℕ) → List ℕ → Type 0
ClearBits b address = (i : ℕ) → b ≤ i → i < 128 → bit_at address i ≡ 0

-- the same two as tests (`same_tested`, `clear_tested`)
abbrev pub same_bits : (b : ℕ) → List ℕ → List ℕ → Bool
same_bits zero one other = true
same_bits (suc b) one other = eqb (bit_at one b) (bit_at other b) && same_bits b one other

-- n bits from b on are 0
abbrev pub zero_bits : (b n : ℕ) → List ℕ → Bool
zero_bits b zero address = true
zero_bits b (suc n) address = eqb (bit_at address (b + n)) 0 && zero_bits b n address

abbrev pub clear_bits : (b : ℕ) → List ℕ → Bool
clear_bits b address = zero_bits b (128 - b) address
