-- The first number and those before the index are put.
use Rattle.std.proofs.Common.{[], ◌∷◌, ◌+◌, take}
use Rattle.draft.specs.Numeral.{base_of, numeral, joined}
use Rattle.draft.specs.Drafts.{Adds}
use Rattle.draft.proofs.Draft.push_numbers.Given as goal

abbrev pub invariant-loop-n : goal.invariant-loop-n
invariant-loop-n l = Adds l.fn.self l.self (joined (l.separator ∷ []) (numeral (base_of l.base)) (take (l.n-index + 1) l.numbers))
