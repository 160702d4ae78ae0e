-- Whether what a kind does not use is zero and the checksum state may stand there, as tests (answer 11).
use Rattle.std.specs.Prelude.{Bool, true, false, ◌&&◌, List, ℕ, eqb, drop}
use Rattle.std.specs.List.{list_all}
use Rattle.record.specs.declared.Kind.{Kind}
use Rattle.record.specs.declared.Kind.TheVariants.{Local, Unspecified, Ip4, Ip6, Unix}
use Rattle.record.specs.declared.Checksum.{Checksum}
use Rattle.record.specs.declared.Checksum.TheVariants.{Absent, Matched}
use Rattle.record.specs.declared.Record.{Record}
use Rattle.record.specs.Kinds.{address_length}

-- each byte is zero
abbrev pub zeros : List ℕ → Bool
zeros = list_all (λ c. eqb c 0)

-- "Address bytes that a kind does not use are zero"
abbrev pub clean_address : Kind → List ℕ → Bool
clean_address k a = zeros (drop (address_length k) a)

-- "ports that a kind does not use are zero; UNIX has no ports"
abbrev pub clean_port : Kind → ℕ → Bool
clean_port Local p = eqb p 0
clean_port Unspecified p = eqb p 0
clean_port (Ip4 t) p = true
clean_port (Ip6 t) p = true
clean_port (Unix t) p = eqb p 0

abbrev pub is_absent : Checksum → Bool
is_absent Absent = true
is_absent Matched = false

-- matched "beside local or unspecified" is 11 "always"
abbrev pub clean_state : Kind → Checksum → Bool
clean_state Local c = is_absent c
clean_state Unspecified c = is_absent c
clean_state (Ip4 t) c = true
clean_state (Ip6 t) c = true
clean_state (Unix t) c = true

abbrev pub clean_test : Record → Bool
clean_test r =
    clean_address r.kind r.source
    && clean_address r.kind r.destination
    && clean_port r.kind r.source_port
    && clean_port r.kind r.destination_port
    && clean_state r.kind r.checksum

-- without a request for a checksum, and in version 1, matched is 11; of stored forms stored_form says more
abbrev pub plain_test : Record → Bool
plain_test r = clean_test r && is_absent r.checksum
