-- The verdict on a block whose signature is whole: that from byte 12 on.
use Rattle.std.specs.Prelude.{◌≡◌, List, ℕ, length, drop}
use Rattle.std.proofs.Common.{sym, ap, ◌∙◌, subst}
use Rattle.exact.specs.Claim.{Verdict, accepted}
use Rattle.exact.specs.Field.{Exact, shift, after, flat}
use Rattle.header.specs.Header.{Header}
use Rattle.fields.specs.BlockFields.{signature_field}
use Rattle.fields.proofs.BlockFields.{block, from_command}

module _ (s : List ℕ) where
  -- a whole signature has twelve bytes
  twelve : (v n : ℕ) → accepted v n ≡ signature_field.verdict s → n ≡ 12
  twelve v n e =
      let x : Exact signature_field.field (flat 4) (accepted v n) s =
      subst (λ (w : Verdict ℕ). Exact signature_field.field (flat 4) w s) (sym e) (signature_field.exact s)
      in
      sym x.size ∙ ap length x.whole.0

  abbrev pub on : Verdict ℕ → Verdict Header
  on v = after v (λ u r. from_command.verdict r) s

  pub behind_signature : (v n : ℕ) → accepted v n ≡ signature_field.verdict s → shift 12 (from_command.verdict (drop 12 s)) ≡ block.verdict s
  behind_signature v n e = ap (λ (m : ℕ). shift m (from_command.verdict (drop m s))) (sym (twelve v n e)) ∙ ap on e
