-- The first byte tells the version.
use Rattle.std.specs.Prelude.{◌≡◌, refl, Bool, true, false, List, [], ◌∷◌, ℕ, Some, None, slice_get, Result, Ok, IfOk}
use Rattle.std.proofs.Common.{sym, ap, ◌∙◌, subst, eq-eqb, ne_eqb}
use Rattle.exact.specs.Claim.{Verdict, more}
use Rattle.exact.specs.Pick.{pick}
use Rattle.header.specs.Header.{Header}
use Rattle.header.specs.Demand.{Judges}
use Rattle.fields.proofs.BlockFields.{block}
use Rattle.fields.specs.Exactness.{is_p, line_field}
use Rattle.fields.proofs.HeaderVerdict.{verdict}
use Rattle.fields.proofs.Exactness.{judges}
use Rattle.answer.specs.declared.Stop.{Stop}
use Rattle.answer.specs.declared.Sight.{Sight}
use Rattle.answer.specs.Headers.{header_of, told_sight, PaddedIn}
use Rattle.reader.specs.Read.{Reads, Sees}

-- what is seen, by its verdict
pub sees_as : {s : List ℕ} (x : Result Sight Stop) → told_sight s x ≡ verdict s → IfOk x PaddedIn → Sees s x
sees_as {s} x e p = record { judged = subst (λ (v : Verdict Header). Judges v s) (sym e) (judges s); answers = e; padded = p }

-- a header with its record
pub with_record : {s : List ℕ} (x : Sight) → Sees s (Ok x) → Reads s (Ok (header_of s x))
with_record x h = record { judged = h.judged; answers = h.answers }

pub none_yet : (s : List ℕ) → None ≡ slice_get s 0 → more 15 ≡ verdict s
none_yet [] e = refl
none_yet (d ∷ s) e = absurd (cc)

by_version : (d : ℕ) (s : List ℕ) (b : Bool) → is_p d ≡ b → pick b (line_field.verdict (d ∷ s)) (block.verdict (d ∷ s)) ≡ verdict (d ∷ s)
by_version d s b e = ap (λ (x : Bool). pick x (line_field.verdict (d ∷ s)) (block.verdict (d ∷ s))) (sym e)

pub of_line : (s : List ℕ) (c : ℕ) → Some c ≡ slice_get s 0 → c ≡ 80 → line_field.verdict s ≡ verdict s
of_line [] c e h = absurd (cc)
of_line (d ∷ s) c e h = let same : d ≡ 80 = cc in by_version d s true (eq-eqb d 80 same)

pub of_block : (s : List ℕ) (c : ℕ) → Some c ≡ slice_get s 0 → (c ≡ 80 → ⊥) → block.verdict s ≡ verdict s
of_block [] c e n = absurd (cc)
of_block (d ∷ s) c e n = let same : c ≡ d = cc in by_version d s false (ne_eqb d 80 (λ z. n (same ∙ z)))
