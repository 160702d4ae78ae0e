-- The tables of W01 to W14 and of K10 are right: each row's verdict is computed.
use Rattle.std.specs.Prelude.{◌≡◌, refl, List, [], ◌∷◌}
use Rattle.std.proofs.Common.{subst}
use Rattle.exact.specs.Claim.{Verdict}
use Rattle.ip4.specs.Ip4Verdict.{ip4_verdict}
use Rattle.header.specs.Header.{Header}
use Rattle.header.specs.Demand.{Judges}
use Rattle.header.specs.Table.{Row, table, least_table, Right}
use Rattle.fields.proofs.HeaderVerdict.{verdict}
use Rattle.fields.proofs.Exactness.{judges}

abbrev Computed : List Row → Type 0
Computed [] = Unit {0}
Computed (r ∷ rows) = (verdict r.bytes ≡ r.answer) × Computed rows

right : (rows : List Row) → Computed rows → Right rows
right [] c = tt
right (r ∷ rows) c = (subst (λ (v : Verdict Header). Judges v r.bytes) c.0 (judges r.bytes), right rows c.1)

pub table_right : Right table
unfolding ip4_verdict
table_right =
    right table
    (refl, (refl, (refl, (refl, (refl, (refl, (refl, (refl, (refl, (refl, (refl, (refl, (refl, (refl, tt))))))))))))))

pub least_table_right : Right least_table
unfolding ip4_verdict
least_table_right = right least_table (refl, (refl, (refl, (refl, tt))))
