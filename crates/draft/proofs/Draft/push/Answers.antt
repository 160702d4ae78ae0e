-- `push` goes by the test of `pushed`.
use Rattle.std.proofs.Common.{refl, lt-ltb, le-ltb}
use Rattle.draft.specs.Drafts.{pushed, appended}
use Rattle.draft.proofs.Draft.push.Goals as goal

pub returns-then-self : goal.returns-then-self
unfolding pushed appended
returns-then-self c = record { same_bytes = refl; appends = simp (lt-ltb _ _ c.if-self.true) }

pub returns-else-self : goal.returns-else-self
unfolding pushed appended
returns-else-self c = record { same_bytes = refl; appends = simp (le-ltb _ _ c.if-self.false) }
