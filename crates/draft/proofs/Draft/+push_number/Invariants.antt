-- What is left of the number falls.
use Rattle.draft.proofs.Draft.+push_number.Given as goal

abbrev pub decreases-push_number : goal.decreases-push_number
decreases-push_number l = l.n
