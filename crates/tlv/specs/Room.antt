-- For proofs. How many bytes TLVs can fill, and what the head of a TLV leaves of them.
use Rattle.std.specs.Prelude.{◌≡◌, List, [], ◌∷◌, ◌⊎◌, ℕ, zero, suc, ◌+◌, ◌≤◌, ◌<◌}
use Rattle.tlv.specs.Tlv.{Filled}

-- ── n bytes that TLVs can fill ──
abbrev pub Fillable : ℕ → Type 0
Fillable n = (n ≡ 0) ⊎ (3 ≤ n)

-- ── v value bytes, and then TLVs that fill n bytes ──
abbrev pub Behind : ℕ → ℕ → List ℕ → Type 0
Behind zero n f = Filled n f
Behind (suc v) n [] = ⊥
Behind (suc v) n (c ∷ f) = (c < 256) × Behind v n f

-- ── a length that leaves what TLVs can fill ──
abbrev pub Good : ℕ → ℕ → Type 0
Good size room = (size ≡ room) ⊎ (size + 3 ≤ room)
