-- A field at a place of the bytes, as a reader's answer: what a scan of the bytes from there on finds, by the field's refusal and by how few bytes
-- must follow it.
use Rattle.std.specs.Prelude.{ℕ, ◌+◌, ◌-◌, ◌^◌, min, Result, Ok, Err}
use Rattle.exact.specs.Claim.{Verdict, accepted, more, refused}
use Rattle.exact.specs.declared.Scan.{Scan}
use Rattle.exact.specs.declared.Scan.TheVariants as scan
use Rattle.answer.specs.declared.Refusal.{Refusal}
use Rattle.answer.specs.declared.Found.{Found}
use Rattle.answer.specs.declared.Stop.{Stop}
use Rattle.answer.specs.declared.Stop.TheVariants as stop
use Rattle.answer.specs.Headers.{told_stop}

-- the sum as a number of the machine
abbrev pub machine_sum : ℕ → ℕ → ℕ
machine_sum a b = min (a + b) (2 ^ 64 - 1)

abbrev pub placed : {A : Type 0} → Scan A → ℕ → Refusal → ℕ → Result (Found A) Stop
placed (scan.Accepted a n) at k m = Ok (record { value = a; end = machine_sum at n })
placed (scan.More n) at k m = Err (stop.More (machine_sum n m))
placed (scan.Refused p) at k m = Err (stop.Refused k (machine_sum at p))

-- what is found as a verdict, where g is what its value means
abbrev pub told_found : {A B : Type 0} → (A → B) → Result (Found A) Stop → Verdict B
told_found g (Ok f) = accepted (g f.value) f.end
told_found g (Err e) = told_stop e

-- a place that is found, of a field that says nothing but that it is there
abbrev pub told_end : Result ℕ Stop → Verdict ℕ
told_end (Ok n) = accepted 0 n
told_end (Err e) = told_stop e

-- a scan as a verdict on the field with the number k, behind which m bytes are asked at least, where g is what its value means
abbrev pub told_scan : {A B : Type 0} → (A → B) → ℕ → ℕ → Scan A → Verdict B
told_scan g k m (scan.Accepted a n) = accepted (g a) n
told_scan g k m (scan.More n) = more (n + m)
told_scan g k m (scan.Refused p) = refused k p
