-- For proofs. The fields number their places as document 01's table does.
use Rattle.std.specs.Prelude.{◌≡◌, List, ◌↔◌, ℕ, ◌≤◌, length, get_or}
use Rattle.exact.specs.Ended.{Ended}
use Rattle.exact.proofs.Numbered.{Numbered}
use Rattle.header.specs.Header.{place_number, parts_ended, tcp_number}
use Rattle.fields.specs.LineFields.{AddressParser}

-- ── version 1: how many parts have ended ──
-- a text that has neither a space nor a CR, and the byte that ends it
abbrev pub Clear : {A : Type 0} → (List ℕ → A → Type 0) → Type 0
Clear {A} L = (f : List ℕ) (a : A) → L f a → parts_ended f ≡ 0

-- a TCP line in which n parts have ended
pub record Tcp (before : List ℕ) (n : ℕ) : Type 0 where
  pub long : 7 ≤ length before
  pub first : get_or before 0 0 ≡ 80
  pub seventh : get_or before 6 0 ≡ 84
  pub ended : parts_ended before ≡ n

-- ── the lines ──
-- what an address field has to be, for a TCP line
pub record AddressField (Address : List ℕ → List ℕ → Type 0) (address : AddressParser) : Type 0 where
  pub same : (m : ℕ) (f a : List ℕ) → (address m).field.lang f a ↔ Ended Address 32 f a
  pub numbered : (m : ℕ) (before : List ℕ) (n : ℕ) → Tcp before n → 3 ≡ tcp_number n → Numbered place_number (address m).field before
  pub clear : Clear Address
