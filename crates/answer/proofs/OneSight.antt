-- Lemmas on what specs/OneSight.antt defines.
use Rattle.std.specs.Prelude.{◌≡◌, refl, List, ℕ}
use Rattle.std.proofs.Common.{sym, ap, ◌∙◌}
use Rattle.exact.specs.Claim as Claim
use Rattle.header.specs.Header.{Header}
use Rattle.answer.specs.declared.Refusal.{Refusal}
use Rattle.answer.specs.declared.Refusal.TheVariants.{Start, Word, Address, Port, End, Command, Family, Length, Tlv}
use Rattle.answer.specs.declared.Caller.{Caller}
use Rattle.answer.specs.Answers.{number_of}
use Rattle.std.specs.Prelude.{Result, Ok, Err, IfOk}
use Rattle.answer.specs.declared.Found.{Found}
use Rattle.answer.specs.declared.Stop.{Stop}
use Rattle.answer.specs.declared.Stop.TheVariants as stop
use Rattle.answer.specs.declared.Sight.{Sight}
use Rattle.answer.specs.declared.Sight.TheVariants.{Line, Block}
use Rattle.answer.specs.Headers.{told_sight, PaddedIn}
use Rattle.answer.specs.OneSight.{refusal_of, sight_by}

refusal_again : (k : Refusal) → refusal_of (number_of k) ≡ k
refusal_again Start = refl
refusal_again Word = refl
refusal_again Address = refl
refusal_again Port = refl
refusal_again End = refl
refusal_again Command = refl
refusal_again Family = refl
refusal_again Length = refl
refusal_again Tlv = refl

sight_again : (s : List ℕ) (x : Result Sight Stop) → IfOk x PaddedIn → x ≡ sight_by (told_sight s x)
sight_again s (Ok (Line f)) padded = ap (λ (c : Caller). Ok (Line (record { value = c; end = f.end }))) padded
sight_again s (Ok (Block f)) padded = refl
sight_again s (Err (stop.More n)) padded = refl
sight_again s (Err (stop.Refused k p)) padded = ap (λ (j : Refusal). Err (stop.Refused j p)) (sym (refusal_again k))

-- what is seen is this, and nothing else
pub sees_one : (s : List ℕ) (v : Claim.Verdict Header) (x : Result Sight Stop) → told_sight s x ≡ v → IfOk x PaddedIn → x ≡ sight_by v
sees_one s v x told padded = sight_again s x padded ∙ ap sight_by told
