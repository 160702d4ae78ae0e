-- The bytes lent are numbers below 256, so that what is answered means what it should.
use Rattle.std.proofs.Common.{sym, subst}
use Rattle.std.proofs.lemmas.Result.{err_from_is_err_and}
use Rattle.exact.proofs.Parser.{bytes_of}
use Rattle.stored_form.specs.Meaning.{LoadMeans}
use Rattle.stored_form.proofs.RoundTrip.{load_means}
use Rattle.load.proofs.load.Goals as goal

pub returns-in_err-load_into : goal.returns-in_err-load_into
returns-in_err-load_into c =
    let x = c.args in
    let told = c.in_err-load_into.ensures in
    let p = err_from_is_err_and c.from_residual.result c.from_residual.ensures.1 in
    rw (p.1, p.2) (told, subst (LoadMeans x.version x.s.now) (sym told) (load_means x.version x.s.now (bytes_of x.s.now c.type_inv.s)))

pub returns : goal.returns
returns c =
    let x = c.args in
    let told = c.in_ok-load_into.ensures in
    (told, subst (LoadMeans x.version x.s.now) (sym told) (load_means x.version x.s.now (bytes_of x.s.now c.type_inv.s)))
