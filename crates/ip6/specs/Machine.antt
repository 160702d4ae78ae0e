-- The machine that reads an address a byte at a time: where it may stand, and what a byte does there.
use Rattle.std.specs.Prelude.{Bool, List, [], ◌∷◌, ◌++◌, ℕ, ◌+◌, ◌*◌, eqb, ltb, length}
use Rattle.exact.specs.Machine.{Move, go, done, dead}
use Rattle.exact.specs.Pick.{pick}
use Rattle.hex_digits.specs.Hex.{hex_of}
use Rattle.ip6.specs.Address.{filled}

-- the groups so far: all of them while no "::" has come; those before it and those behind it
pub data Gathered : Type 0 where
  plain : List ℕ → Gathered
  gapped : List ℕ → List ℕ → Gathered

abbrev pub push : Gathered → ℕ → Gathered
push (plain l) v = plain (l ++ v ∷ [])
push (gapped l r) v = gapped l (r ++ v ∷ [])

-- a group may follow
abbrev pub room : Gathered → Bool
room (plain l) = ltb (length l) 8
room (gapped l r) = ltb (length l + length r) 7

pub data State : Type 0 where
  start : State
  -- in a group, or where one must begin: the groups before it, how many digits it has, and what they make
  digits : Gathered → ℕ → ℕ → State
  -- a group has ended
  behind : Gathered → State
  -- behind a colon; it is the first byte where no group has come
  colon : Gathered → State
  -- behind "::"
  gap : List ℕ → State

abbrev pub finish : Gathered → Move State (List ℕ)
finish (plain l) = pick (eqb (length l) 8) (done l) dead
finish (gapped l r) = done (filled l r)

-- ── how few bytes could follow, with the end ──
-- behind a group: the end, or "::" and the end
abbrev pub least_behind : Gathered → ℕ
least_behind (plain l) = pick (eqb (length l) 8) 1 3
least_behind (gapped l r) = 1

-- in a group: a digit where none has come
abbrev pub least_digit : ℕ → ℕ
least_digit n = pick (eqb n 0) 1 0

abbrev pub least : State → ℕ
least start = 3
least (digits s n v) = least_digit n + least_behind (push s 0)
least (behind s) = least_behind s
least (colon s) = 2
least (gap l) = 1

-- m is what is asked behind the address
abbrev pub least_address : ℕ → State → ℕ
least_address m q = least q + m

module _ (end : ℕ) where
  -- behind a group
  abbrev pub follow : Gathered → ℕ → Move State (List ℕ)
  follow s c = pick (eqb c 58) (pick (room s) (go (colon s)) dead) (pick (eqb c end) (finish s) dead)

  -- in a group
  abbrev pub inside : Gathered → ℕ → ℕ → ℕ → Move State (List ℕ)
  inside s n v c =
      pick (ltb (hex_of c) 16) (pick (ltb n 4) (go (digits s (n + 1) (v * 16 + hex_of c))) dead)
      (pick (eqb n 0) dead (follow (push s v) c))

  abbrev pub step : State → ℕ → Move State (List ℕ)
  step start c = pick (eqb c 58) (go (colon (plain []))) (inside (plain []) 0 0 c)
  step (digits s n v) c = inside s n v c
  step (behind s) c = follow s c
  step (colon (plain [])) c = pick (eqb c 58) (go (gap [])) dead
  step (colon (plain (v ∷ l))) c = pick (eqb c 58) (go (gap (v ∷ l))) (inside (plain (v ∷ l)) 0 0 c)
  step (colon (gapped l r)) c = inside (gapped l r) 0 0 c
  step (gap l) c = pick (eqb c end) (done (filled l [])) (pick (room (gapped l [])) (inside (gapped l []) 0 0 c) dead)
