-- Each arm answers as `request_test` does at its kinds.
use Rattle.std.proofs.Common.{inl, inr}
use Rattle.checked_writer.proofs.request_fits.Goals as goal

pub returns-in-Local : goal.returns-in-Local
returns-in-Local c = elim c.in-Local.is [ inl e ↦ rw e | inr e ↦ rw e ]

pub returns-in-Ip4 : goal.returns-in-Ip4
returns-in-Ip4 c =
    let t = c.has_none.ensures in
    elim c.in-Ip4.is [ inl e ↦ rw e.1 t | inr r ↦ elim r [ inl e ↦ rw e.1 t | inr e ↦ rw e.1 t ] ]
