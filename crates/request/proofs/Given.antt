-- The addresses of a connection, as a record holds them.
use Rattle.std.specs.Prelude.{◌≡◌, List, ◌++◌, ℕ, ◌+◌, ◌-◌, ◌≤◌, length, take, drop, replicate}
use Rattle.std.proofs.Common.{ap, ◌∙◌, arith, length-take, length-drop, take_all, append-nil}
use Rattle.record.specs.Records.{held}

-- an address of a connection fills what a record holds
pub held_part : (b : List ℕ) (at : ℕ) {h : List ℕ} → at + 108 ≤ length b → h ≡ held (take 108 (take 108 (drop at b))) → h ≡ take 108 (drop at b)
held_part b at {h} l e =
    let part : List ℕ = take 108 (drop at b) in
    let size : length part ≡ 108 = simp (length-take, length-drop) (omega arith) in
    e ∙ ap held (take_all 108 part (omega arith)) ∙ ap (λ (n : ℕ). part ++ replicate (108 - n) 0) size ∙ append-nil part
