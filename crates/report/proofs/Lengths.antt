-- The program's line has at most 9 + 20 + 1 + 13 + 1 = 44 bytes.
use Prim.Native.Nat.{ℕ, ◌^◌, ◌≤◌, ◌<◌}
use native.Mathlib.Omega.{arith}
use lib.ListN.{length, length-append}
use Rattle.record.specs.declared.Transport.TheVariants.{Stream, Datagram}
use Rattle.record.specs.declared.Kind.{Kind}
use Rattle.record.specs.declared.Kind.TheVariants.{Local, Unspecified, Ip4, Ip6, Unix}
use Rattle.record.specs.Kinds.{kind_word}
use Rattle.answer.specs.declared.Refusal.{Refusal}
use Rattle.answer.specs.declared.Refusal.TheVariants.{Start, Word, Address, Port, End, Command, Family, Length, Tlv}
use Rattle.answer.specs.declared.Stop.TheVariants.{Refused}
use Rattle.answer.specs.Answers.{number_of}
use Rattle.draft.specs.Numeral.{decimal_text}
use Rattle.draft.proofs.NumeralLaws.{numeral-length}
use Rattle.report.specs.Line.{line_of, stop_line}

kind_length : (k : Kind) → length (kind_word k) ≤ 13
kind_length Local = omega arith
kind_length Unspecified = omega arith
kind_length (Ip4 Stream) = omega arith
kind_length (Ip4 Datagram) = omega arith
kind_length (Ip6 Stream) = omega arith
kind_length (Ip6 Datagram) = omega arith
kind_length (Unix Stream) = omega arith
kind_length (Unix Datagram) = omega arith

number_small : (r : Refusal) → number_of r < 10
number_small Start = omega arith
number_small Word = omega arith
number_small Address = omega arith
number_small Port = omega arith
number_small End = omega arith
number_small Command = omega arith
number_small Family = omega arith
number_small Length = omega arith
number_small Tlv = omega arith

-- a number of 64 bits has at most 20 digits
digits : (n : ℕ) → n < 2 ^ 64 → length (decimal_text n) ≤ 20
digits n fits = numeral-length 10 (omega arith) 19 n (omega arith)

pub accepted_fits : (n : ℕ) (k : Kind) → n < 2 ^ 64 → length (line_of n k) ≤ 44
accepted_fits n k fits =
    let l = digits n fits in
    let w = kind_length k in
    simp length-append (omega arith)

pub refused_fits : (r : Refusal) (place : ℕ) → place < 2 ^ 64 → length (stop_line (Refused r place)) ≤ 44
refused_fits r place fits =
    let small = number_small r in
    let l = numeral-length 10 (omega arith) 0 (number_of r) (omega arith) in
    let p = digits place fits in
    simp length-append (omega arith)
