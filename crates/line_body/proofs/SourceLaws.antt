-- A TCP line from its source address on: what the header is, by the fields that are whole.
use Rattle.std.specs.Prelude.{◌≡◌, refl, List, [], ◌∷◌, ℕ, ◌+◌, ◌*◌, drop}
use Rattle.std.proofs.Common.{sym, ap, ◌∙◌, arith}
use Rattle.exact.specs.Claim.{Verdict, accepted}
use Rattle.exact.specs.Field.{flat, shift}
use Rattle.exact.specs.Literal.{literal}
use Rattle.exact.proofs.ParserLemmas.{just}
use Rattle.decimal.specs.DecimalVerdict.{decimal_verdict}
use Rattle.record.specs.declared.Kind.{Kind}
use Rattle.record.specs.Records.{record_of}
use Rattle.header.specs.Header.{Header}
use Rattle.fields.specs.LineFields.{lined, lf_field, line_feed, destination_port, source_port, from_destination_port, from_source_port, from_destination, from_source, space_field}
use Rattle.answer.specs.declared.Stop.{Stop}
use Rattle.answer.specs.Headers.{told_stop}
use Rattle.answer.proofs.PlaceLaws.{stops, goes_on}
use Rattle.line_address.specs.declared.Inet.{Inet}
use Rattle.line_address.specs.declared.Inet.TheVariants.{V4, V6}
use Rattle.line_address.specs.Families.{tcp_kind, field, shortest_address}
use Rattle.line_address.proofs.FamilyLaws.{shortest_least}
use Rattle.line_body.specs.Stages.{from_space}

-- from the source on
abbrev from_there : Inet → List ℕ → ℕ → Verdict Header
from_there inet s at = shift at ((from_source (tcp_kind inet) (field inet)).verdict (drop at s))

module _ (inet : Inet) (s : List ℕ) (at m : ℕ) (asks : m ≡ shortest_address inet + 5) {from to : List ℕ} {p e1 e2 e3 : ℕ}
    (source : accepted from e1 ≡ shift at ((field inet m).verdict (drop at s)))
    (destination : accepted to e2 ≡ shift e1 ((field inet 5).verdict (drop e1 s)))
    (first : accepted p e3 ≡ shift e2 (decimal_verdict 4 3 65535 32 (drop e2 s)))
  where
    abbrev kind : Kind
    kind = tcp_kind inet

    behind_port : shift e3 ((from_destination_port kind from to p).verdict (drop e3 s)) ≡ from_there inet s at
    behind_port =
        goes_on source_port (from_destination_port kind from to) s e2 first
        ∙ goes_on (field inet 5) (from_source_port kind from) s e1 destination
        ∙ goes_on (field inet (field inet 5).least) (from_destination kind (field inet)) s at
        (source ∙ ap (λ (n : ℕ). shift at ((field inet n).verdict (drop at s))) (asks ∙ sym (shortest_least inet 5)))

    pub no_port : (e : Stop) → told_stop e ≡ shift e3 (decimal_verdict 4 1 65535 13 (drop e3 s)) → told_stop e ≡ from_there inet s at
    no_port e h =
        stops e e3 (destination_port.verdict (drop e3 s)) (λ q. (line_feed (lined (record_of kind from to p q))).verdict) (drop e3 s) h ∙ behind_port

    module _ {q e4 : ℕ} (second : accepted q e4 ≡ shift e3 (decimal_verdict 4 1 65535 13 (drop e3 s))) where
      abbrev header : Header
      header = lined (record_of kind from to p q)

      behind_ports : shift e4 ((line_feed header).verdict (drop e4 s)) ≡ from_there inet s at
      behind_ports = goes_on destination_port (λ q. line_feed (lined (record_of kind from to p q))) s e3 second ∙ behind_port

      pub no_end : (e : Stop) → told_stop e ≡ shift e4 (literal {A = ℕ} 5 0 0 (10 ∷ []) (drop e4 s)) → told_stop e ≡ from_there inet s at
      no_end e h = stops e e4 (lf_field.verdict (drop e4 s)) (λ x. (just (flat 0) header).verdict) (drop e4 s) h ∙ behind_ports

      pub ends : {end : ℕ} → accepted 0 end ≡ shift e4 (literal {A = ℕ} 5 0 0 (10 ∷ []) (drop e4 s)) → accepted header end ≡ from_there inet s at
      ends {end} h =
          let zero_more : end ≡ end + 0 = omega arith in
          ap (λ (n : ℕ). accepted header n) zero_more ∙ goes_on lf_field (λ x. just (flat 0) header) s e4 h ∙ behind_ports

-- the space before the source
space_asks : (inet : Inet) → 2 * shortest_address inet + 5 ≡ (from_source (tcp_kind inet) (field inet)).least
space_asks V4 = refl
space_asks V6 = refl

pub behind_space : (inet : Inet) (s : List ℕ) (at m : ℕ) {end : ℕ} → m ≡ 2 * shortest_address inet + 5
    → accepted 0 end ≡ shift at (literal {A = ℕ} 2 m 0 (32 ∷ []) (drop at s)) → from_there inet s end ≡ shift at ((from_space inet).verdict (drop at s))
behind_space inet s at m is h =
    goes_on (space_field (from_source (tcp_kind inet) (field inet)).least) (λ u. from_source (tcp_kind inet) (field inet)) s at
    (h ∙ ap (λ (n : ℕ). shift at (literal {A = ℕ} 2 n 0 (32 ∷ []) (drop at s))) (is ∙ space_asks inet))
