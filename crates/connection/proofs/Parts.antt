-- A connection's parts, put one behind the other.
use Rattle.std.specs.Prelude.{◌≡◌, List, ◌++◌, ℕ, ◌≤◌, length}
use Rattle.std.proofs.Common.{◌∙◌, arith, length-append}
use Rattle.lent.specs.Placed.{placed}
use Rattle.lent.specs.Buffers.{over, told_in}
use Rattle.lent.proofs.PlacedLaws.{placed_then, placed_front}
use Rattle.lent.proofs.BufferLaws.{roomy}
use Rattle.connection.specs.Connection.{connection_size}

pub put_parts : (a b c p q s d d₁ d₂ d₃ d₄ d₅ d₆ : List ℕ)
    → length a ≡ 1 → length b ≡ 108 → length c ≡ 108 → length p ≡ 2 → length q ≡ 2 → length s ≡ 1 → connection_size ≤ length d
    → d₁ ≡ placed a 0 d → d₂ ≡ placed b 1 d₁ → d₃ ≡ placed c 109 d₂ → d₄ ≡ placed p 217 d₃ → d₅ ≡ placed q 219 d₄ → d₆ ≡ placed s 221 d₅
    → d₆ ≡ told_in connection_size (a ++ b ++ c ++ p ++ q ++ s) d
put_parts a b c p q s d d₁ d₂ d₃ d₄ d₅ d₆ la lb lc lp lq ls room e₁ e₂ e₃ e₄ e₅ e₆ =
    let two = a ++ b in
    let three = two ++ c in
    let four = three ++ p in
    let five = four ++ q in
    let all = five ++ s in
    let l₂ = length-append a b in
    let l₃ = length-append two c in
    let l₄ = length-append three p in
    let l₅ = length-append four q in
    let l₆ = length-append five s in
    let p₂ = placed_then a b d d₁ d₂ 0 1 e₁ e₂ (omega arith) (omega arith) in
    let p₃ = placed_then two c d d₂ d₃ 0 109 p₂ e₃ (omega arith) (omega arith) in
    let p₄ = placed_then three p d d₃ d₄ 0 217 p₃ e₄ (omega arith) (omega arith) in
    let p₅ = placed_then four q d d₄ d₅ 0 219 p₄ e₅ (omega arith) (omega arith) in
    let p₆ = placed_then five s d d₅ d₆ 0 221 p₅ e₆ (omega arith) (omega arith) in
    p₆ ∙ placed_front all d (omega arith) ∙ roomy connection_size d (over all d) d room
