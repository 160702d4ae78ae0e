-- Each kind has its code, and each code its kind; so have states and their bytes.
use Rattle.std.specs.Prelude.{◌≡◌, refl, ℕ, eqb, Option, Some, None}
use Rattle.std.proofs.Common.{sym, ap, ◌∙◌, arith, eqb-true}
use Rattle.exact.specs.Pick.{pick, pick_by}
use Rattle.record.specs.declared.Transport.TheVariants.{Stream, Datagram}
use Rattle.record.specs.declared.Kind.{Kind}
use Rattle.record.specs.declared.Kind.TheVariants.{Local, Unspecified, Ip4, Ip6, Unix}
use Rattle.record.specs.declared.Checksum.{Checksum}
use Rattle.record.specs.declared.Checksum.TheVariants.{Absent, Matched}
use Rattle.kind_code.specs.Codes.{code_of, kind_of}
use Rattle.kind_code.specs.States.{state_byte, state_of}

pub code_kind : (k : Kind) → kind_of (code_of k) ≡ Some k
code_kind Local = refl
code_kind Unspecified = refl
code_kind (Ip4 Stream) = refl
code_kind (Ip4 Datagram) = refl
code_kind (Ip6 Stream) = refl
code_kind (Ip6 Datagram) = refl
code_kind (Unix Stream) = refl
code_kind (Unix Datagram) = refl

-- what a table has at a number is of that number, row by row
module _ {T : Type 0} (number_of : T → ℕ) (c : ℕ) where
  abbrev Coded : Option T → Type 0
  Coded o = (x : T) → o ≡ Some x → number_of x ≡ c

  row : (j : T) {rest : Option T} → Coded rest → Coded (pick (eqb c (number_of j)) (Some j) rest)
  row j rest =
      pick_by Coded (eqb c (number_of j)) (λ t x same. let here : x ≡ j = cc in ap number_of here ∙ sym (eqb-true c (number_of j) t)) (λ t. rest)

  no_row : Coded None
  no_row x e = let z : ◌≡◌ {A = ℕ} 0 1 = cc in absurd (omega arith)

pub kind_code : (c : ℕ) (k : Kind) → kind_of c ≡ Some k → code_of k ≡ c
kind_code c =
    row code_of c Local
    (row code_of c Unspecified
    (row code_of c (Ip4 Stream)
    (row code_of c (Ip4 Datagram)
    (row code_of c (Ip6 Stream)
    (row code_of c (Ip6 Datagram)
    (row code_of c (Unix Stream)
    (row code_of c (Unix Datagram) (no_row code_of c))))))))

-- ── states ──
pub byte_state : (c : Checksum) → state_of (state_byte c) ≡ Some c
byte_state Absent = refl
byte_state Matched = refl

pub state_byte_lem : (b : ℕ) (c : Checksum) → state_of b ≡ Some c → state_byte c ≡ b
state_byte_lem b = row state_byte b Absent (row state_byte b Matched (no_row state_byte b))
