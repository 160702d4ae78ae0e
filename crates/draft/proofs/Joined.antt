-- How the texts of numbers with a separator between two go on.
use Rattle.std.proofs.Common.{◌≡◌, refl, sym, ap, ◌∙◌, List, [], ◌∷◌, ◌++◌, ℕ, ◌+◌, ◌-◌, ◌≤◌, ◌<◌, length, take, drop, get_or, take-suc, take_all, append_assoc, add-one, arith}
use Rattle.draft.specs.Numeral.{joined}

pub none_below : (s : List ℕ) → length s < 1 → s ≡ []
none_below [] none = refl
none_below (n ∷ s) none = absurd (omega arith)

module _ (separator : List ℕ) (text : ℕ → List ℕ) where
  abbrev join : List ℕ → List ℕ
  join = joined separator text

  joined_behind : (n : ℕ) (ns : List ℕ) (m : ℕ) → join (n ∷ ns ++ m ∷ []) ≡ join (n ∷ ns) ++ separator ++ text m
  joined_behind n [] m = refl
  joined_behind n (k ∷ ns) m =
      ap (λ (t : List ℕ). text n ++ separator ++ t) (joined_behind k ns m) ∙ simp append_assoc

  -- the first number
  pub joined_first : (s : List ℕ) → 1 ≤ length s → text (get_or s 0 0) ≡ join (take 1 s)
  joined_first [] some = absurd (omega arith)
  joined_first (n ∷ s) some = refl

  -- one number more, of those behind the first
  pub joined_rest : (s : List ℕ) (i : ℕ) → i < length (take (length s - 1) (drop 1 s))
      → join (take (i + 1) s) ++ separator ++ text (get_or (take (length s - 1) (drop 1 s)) i 0) ≡ join (take (i + 1 + 1) s)
  joined_rest [] i inside = absurd (omega arith)
  joined_rest (n ∷ s) i inside =
      let all : take (length (n ∷ s) - 1) s ≡ s = take_all _ s (omega arith) in
      let more : i < length s = rw all at inside in
      rw (all, add-one, add-one, take-suc s i 0 more) (sym (joined_behind n (take i s) (get_or s i 0)))
