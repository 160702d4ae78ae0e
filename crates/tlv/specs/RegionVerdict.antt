-- The verdict on n bytes that TLVs fill, byte by byte: which byte is due, and what is left of the n bytes.
use Rattle.std.specs.Prelude.{Bool, true, List, ℕ, zero, suc, ◌+◌, ◌*◌, ◌-◌, ltb, leb, eqb}
use Rattle.exact.specs.Claim.{Verdict, accepted}
use Rattle.exact.specs.Machine.{Move, go, done, dead, run}
use Rattle.exact.specs.Pick.{pick}
use Rattle.exact.specs.Network.{number}

-- The byte that is due. type_byte n: n bytes are left with it. high_byte room, low_byte h room: room bytes are left behind the two length bytes.
-- value_byte v n: v value bytes follow it, and then n bytes.
pub data Due : Type 0 where
  type_byte : ℕ → Due
  high_byte : ℕ → Due
  low_byte : ℕ → ℕ → Due
  value_byte : ℕ → ℕ → Due

-- before v value bytes and then n bytes
abbrev pub enter : ℕ → ℕ → Move Due ℕ
enter zero zero = done 0
enter zero (suc n) = go (type_byte (suc n))
enter (suc v) n = go (value_byte v n)

-- "a length is good exactly if it is R or at most R - 3"
abbrev pub good : ℕ → ℕ → Bool
good size room = pick (eqb size room) true (leb (size + 3) room)

-- what the byte c does where one is due
abbrev pub step_byte : Due → ℕ → Move Due ℕ
step_byte (type_byte n) c = pick (leb 3 n) (go (high_byte (n - 3))) dead
step_byte (high_byte room) c = pick (leb (256 * c) room) (go (low_byte c room)) dead
step_byte (low_byte h room) c = pick (good (number h c) room) (enter (number h c) (room - number h c)) dead
step_byte (value_byte v n) c = enter v n

-- no other number is a byte
abbrev pub step : Due → ℕ → Move Due ℕ
step q c = pick (ltb c 256) (step_byte q c) dead

-- what is left of the n bytes
abbrev pub left : Due → ℕ
left (type_byte n) = n
left (high_byte room) = 2 + room
left (low_byte h room) = 1 + room
left (value_byte v n) = 1 + v + n

-- all of it, and then m
abbrev pub least_region : ℕ → Due → ℕ
least_region m q = left q + m

-- the verdict on n bytes; none are there at once. m is what is asked behind them
abbrev pub judge : (k m n : ℕ) → List ℕ → Verdict ℕ
judge k m zero s = accepted 0 0
judge k m (suc n) s = run k step (least_region m) s (type_byte (suc n))
