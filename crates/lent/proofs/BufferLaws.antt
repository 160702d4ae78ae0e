-- What is left in a buffer, by the room in it.
use Rattle.std.specs.Prelude.{◌≡◌, Bool, List, ◌++◌, ℕ, ◌≤◌, ◌<◌, leb, length, drop}
use Rattle.std.proofs.Common.{sym, ap, ◌∙◌, append-nil, arith, length-append, length-drop, drop_of_length-le, le-leb, drop_at}
use Rattle.std.proofs.lemmas.Bool.{lt-leb}
use Rattle.exact.specs.Pick.{pick}
use Rattle.lent.specs.Buffers.{over}

-- a choice by the room for n elements
module _ {T : Type 0} (n : ℕ) (buffer : List ℕ) (a b : T) where
  pub roomy : n ≤ length buffer → a ≡ pick (leb n (length buffer)) a b
  roomy h = ap (λ (x : Bool). pick x a b) (sym (le-leb n (length buffer) h))

  pub cramped : length buffer < n → b ≡ pick (leb n (length buffer)) a b
  cramped h = ap (λ (x : Bool). pick x a b) (sym (lt-leb n (length buffer) h))

-- a front written over another of its length
pub over-over : (a b d : List ℕ) → length a ≡ length b → over a (over b d) ≡ over a d
over-over a b d e =
    ap (λ (l : List ℕ). a ++ l) (drop_at b (drop (length b) d) (length a) (sym e) ∙ ap (λ (n : ℕ). drop n d) (sym e))

-- over all of a buffer nothing else is left
pub over_all : (a d : List ℕ) → length d ≤ length a → over a d ≡ a
over_all a d h = ap (λ (l : List ℕ). a ++ l) (drop_of_length-le d h) ∙ append-nil a

pub over-length : (a d : List ℕ) → length a ≤ length d → length (over a d) ≡ length d
over-length a d h = let e = length-append a (drop (length a) d) in let f = length-drop (length a) d in omega arith
