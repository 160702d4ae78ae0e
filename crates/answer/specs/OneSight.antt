-- Nothing of what is seen is left open: the verdict on the bytes tells all of it.
use Rattle.std.specs.Prelude.{[], ◌∷◌, ℕ, ◌-◌, eqb, get_or, Result, Ok, Err}
use Rattle.exact.specs.Claim as Claim
use Rattle.exact.specs.Claim.{accepted, more, refused}
use Rattle.exact.specs.Pick.{pick}
use Rattle.header.specs.Header.{Header}
use Rattle.answer.specs.declared.Refusal.{Refusal}
use Rattle.answer.specs.declared.Refusal.TheVariants.{Start, Word, Address, Port, End, Command, Family, Length, Tlv}
use Rattle.answer.specs.declared.Stop.{Stop}
use Rattle.answer.specs.declared.Stop.TheVariants as stop
use Rattle.answer.specs.declared.Sight.{Sight}
use Rattle.answer.specs.declared.Sight.TheVariants.{Line, Block}
use Rattle.answer.specs.Sight.{caller_of}

-- the refusal of a number from 1 to 9
abbrev pub refusal_of : ℕ → Refusal
refusal_of n = get_or (Start ∷ Word ∷ Address ∷ Port ∷ End ∷ Command ∷ Family ∷ Length ∷ Tlv ∷ []) (n - 1) Start

-- what is seen, by the verdict
abbrev pub sight_by : Claim.Verdict Header → Result Sight Stop
sight_by (accepted h n) =
    Ok (pick (eqb h.version 2) (Block (record { value = h.«record».kind; end = n })) (Line (record { value = caller_of h.«record»; end = n })))
sight_by (more n) = Err (stop.More n)
sight_by (refused k p) = Err (stop.Refused (refusal_of k) p)
