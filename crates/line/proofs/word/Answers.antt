-- The word is a field.
use Rattle.std.proofs.Common.{ℕ, ◌∙◌, arith}
use Rattle.exact.specs.Literal.{literal}
use Rattle.answer.specs.Answers.{number_of}
use Rattle.answer.proofs.PlaceLaws.{told_present, field_in}
use Rattle.line.proofs.word.Goals as goal

pub returns : goal.returns
returns c =
    let a = c.args in
    let k = number_of a.refusal in
    let h = field_in {B = ℕ} (λ u. 0) c.literal.result a.s.now a.at _ a.refusal a.behind (literal {A = ℕ} k a.behind 0 a.w.now) c.place.ensures
    (told_present k a.behind c.literal.result ∙ c.literal.ensures.verdict k a.behind) c.requires.inside (omega arith) c.literal.ensures.inside c.requires.few
    in
    record { verdict = h.0; inside = h.1 }
