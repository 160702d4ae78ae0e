-- The examples W01 to W14 of document 01, and those of document 02's K10, as tables under one statement: each answer is the one that demand 3 allows.
-- `fields` proves it.
use Rattle.std.specs.Prelude.{List, [], ◌∷◌, ◌++◌, ℕ}
use Rattle.exact.specs.Ascii.{ascii}
use Rattle.exact.specs.Claim.{Verdict, accepted, more, refused}
use Rattle.record.specs.declared.Transport.TheVariants.{Stream}
use Rattle.record.specs.declared.Kind.TheVariants.{Local, Unspecified, Ip4, Ip6}
use Rattle.record.specs.Records.{record_of, bare}
use Rattle.header.specs.Block.{signature}
use Rattle.header.specs.Header.{Header}
use Rattle.header.specs.Demand.{Judges}

pub record Row : Type 0 where
  pub bytes : List ℕ
  pub answer : Verdict Header

-- the line of W02, and what it says
abbrev pub W02 : List ℕ
W02 = ascii "PROXY TCP4 192.168.0.1 192.168.0.11 56324 443\r\n"

abbrev pub tester : Header
tester =
    record { «record» = record_of (Ip4 Stream) (192 ∷ 168 ∷ 0 ∷ 1 ∷ []) (192 ∷ 168 ∷ 0 ∷ 11 ∷ []) 56324 443; version = 1; area = [] }

-- "a is twelve address bytes": those of W02
abbrev pub a : List ℕ
a = 192 ∷ 168 ∷ 0 ∷ 1 ∷ 192 ∷ 168 ∷ 0 ∷ 11 ∷ 0xDC ∷ 0x04 ∷ 0x01 ∷ 0xBB ∷ []

abbrev pub zeros : List ℕ
zeros = 0 ∷ 0 ∷ 0 ∷ 0 ∷ 0 ∷ 0 ∷ 0 ∷ 0 ∷ 0 ∷ 0 ∷ 0 ∷ 0 ∷ 0 ∷ 0 ∷ 0 ∷ 0 ∷ []

abbrev pub table : List Row
table =
    record { bytes = []; answer = more 15 }
    ∷ record { bytes = W02; answer = accepted tester 47 }
    ∷ record { bytes = W02 ++ ascii "GET "; answer = accepted tester 47 }
    ∷ record {
      bytes = ascii "PROXY UNKNOWN\r\n";
      answer = accepted (record { «record» = bare Unspecified; version = 1; area = [] }) 15;
    }
    ∷ record { bytes = ascii "PROXY TCP4 256"; answer = refused 3 13 }
    ∷ record { bytes = ascii "PROXY TCP4 01"; answer = refused 3 12 }
    ∷ record { bytes = ascii "PROXY TCP4 1.1.1.1 1.1.1.1 65536"; answer = refused 4 31 }
    ∷ record { bytes = ascii "GET"; answer = refused 1 0 }
    ∷ record {
      bytes = ascii "PROXY TCP6 :: :: 0 0\r\n";
      answer = accepted (record { «record» = record_of (Ip6 Stream) zeros zeros 0 0; version = 1; area = [] }) 22;
    }
    ∷ record {
      bytes = signature ++ 0x20 ∷ 0xFF ∷ 0x00 ∷ 0x00 ∷ [];
      answer = accepted (record { «record» = bare Local; version = 2; area = [] }) 16;
    }
    ∷ record { bytes = signature ++ 0x30 ∷ []; answer = refused 6 12 }
    ∷ record { bytes = signature ++ 0x21 ∷ 0x11 ∷ 0x00 ∷ 0x0D ∷ []; answer = refused 8 15 }
    ∷ record {
      bytes = signature ++ 0x21 ∷ 0x11 ∷ 0x00 ∷ 0x0F ∷ a ++ 0x04 ∷ 0x00 ∷ 0x00 ∷ [];
      answer = accepted (record { «record» = tester.«record»; version = 2; area = 0x04 ∷ 0x00 ∷ 0x00 ∷ [] }) 31;
    }
    ∷ record { bytes = signature ++ 0x21 ∷ 0x11 ∷ 0x00 ∷ 0x0F ∷ a ++ 0x04 ∷ 0x00 ∷ 0x01 ∷ []; answer = refused 9 30 } ∷ []

-- K10: "Empty input and "PROXY T" give 15; "PROXY TCP4 " gives 21; signature, 21, 11 gives 14."
abbrev pub least_table : List Row
least_table =
    record { bytes = []; answer = more 15 }
    ∷ record { bytes = ascii "PROXY T"; answer = more 15 }
    ∷ record { bytes = ascii "PROXY TCP4 "; answer = more 21 }
    ∷ record { bytes = signature ++ 0x21 ∷ 0x11 ∷ []; answer = more 14 } ∷ []

-- each answer is the one that demand 3 allows
abbrev pub Right : List Row → Type 0
Right [] = Unit {0}
Right (r ∷ rows) = Judges r.answer r.bytes × Right rows
