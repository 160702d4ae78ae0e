-- What a C caller was told of a record asks for that record: `given_record` is `connection_bytes` the other way.
use Rattle.std.specs.Prelude.{◌≡◌, refl, Bool, List, [], ◌∷◌, ◌++◌, ℕ, ◌+◌, length, take, drop, get_or, Option, Ok, Err}
use Rattle.std.proofs.Common.{sym, ap, ◌∙◌, append_assoc, arith, eq-eqb, length-append, take_at, drop_at, get_or-append-add}
use Rattle.exact.specs.Network.{network, number_at}
use Rattle.exact.specs.Pick.{pick}
use Rattle.record.specs.declared.Kind.{Kind}
use Rattle.record.specs.declared.Checksum.{Checksum}
use Rattle.record.specs.declared.Record.{Record}
use Rattle.record.specs.Records.{Sized}
use Rattle.record.proofs.RecordLaws.{same_record}
use Rattle.address_block.proofs.AddressBlockLaws.{number_again}
use Rattle.kind_code.specs.Codes.{code_of, kind_of}
use Rattle.kind_code.specs.States.{state_byte, state_of}
use Rattle.kind_code.proofs.CodeLaws.{code_kind, byte_state}
use Rattle.connection.specs.Connection.{connection_size, connection_bytes}
use Rattle.request.specs.declared.RequestError.TheVariants.{Length}
use Rattle.request.specs.Request.{given_record, by_state, by_kind, request}

module _ (r : Record) (sized : Sized r) where
  abbrev kind_byte : List ℕ
  kind_byte = code_of r.kind ∷ []

  abbrev state : List ℕ
  state = state_byte r.checksum ∷ []

  abbrev front : List ℕ
  front = kind_byte ++ r.source ++ r.destination

  abbrev bytes : List ℕ
  bytes = connection_bytes r

  front_size : length front ≡ 217
  front_size = let s = sized.source in let d = sized.destination in simp length-append (omega arith)

  pub connection_size_lem : length bytes ≡ connection_size
  connection_size_lem = let s = sized.source in let d = sized.destination in simp length-append (omega arith)

  source_again : take 108 (drop 1 bytes) ≡ r.source
  source_again =
      let rest = r.destination ++ (network r.source_port ++ (network r.destination_port ++ state)) in
      let split : r.source ++ r.destination ++ network r.source_port ++ network r.destination_port ++ state ≡ r.source ++ rest = simp append_assoc in
      ap (take 108) split ∙ take_at r.source rest 108 sized.source

  destination_again : take 108 (drop 109 bytes) ≡ r.destination
  destination_again =
      let rest = network r.source_port ++ (network r.destination_port ++ state) in
      let split : bytes ≡ (kind_byte ++ r.source) ++ (r.destination ++ rest) = simp append_assoc in
      let at : length (kind_byte ++ r.source) ≡ 109 = let s = sized.source in simp length-append (omega arith) in
      ap (λ (l : List ℕ). take 108 (drop 109 l)) split
      ∙ ap (take 108) (drop_at (kind_byte ++ r.source) (r.destination ++ rest) 109 at)
      ∙ take_at r.destination rest 108 sized.destination

  source_port_again : number_at bytes 217 ≡ r.source_port
  source_port_again =
      ap (λ (l : List ℕ). number_at l 217) (append_assoc (front ++ network r.source_port) (network r.destination_port) state)
      ∙ number_again front (network r.destination_port ++ state) r.source_port 217 front_size

  destination_port_again : number_at bytes 219 ≡ r.destination_port
  destination_port_again =
      let at : length (front ++ network r.source_port) ≡ 219 = let n = front_size in length-append front (network r.source_port) ∙ omega arith in
      number_again (front ++ network r.source_port) state r.destination_port 219 at

  state_again : state_of (get_or bytes 221 0) ≡ state_of (state_byte r.checksum)
  state_again =
      let before = front ++ network r.source_port ++ network r.destination_port in
      let at : length before ≡ 221 = let n = front_size in simp length-append (omega arith) in
      let here : length before + 0 ≡ 221 = omega arith in
      ap state_of (ap (λ (i : ℕ). get_or bytes i 0) (sym here) ∙ get_or-append-add before state 0 0)

  record_again : given_record r.kind r.checksum bytes ≡ r
  record_again = same_record r.kind source_again destination_again source_port_again destination_port_again refl

  pub asked_again : request (connection_bytes r) ≡ Ok r
  asked_again =
      ap (λ (b : Bool). pick b (by_kind (kind_of (code_of r.kind)) bytes) (Err Length)) (eq-eqb (length bytes) connection_size connection_size_lem)
      ∙ ap (λ (k : Option Kind). by_kind k bytes) (code_kind r.kind)
      ∙ ap (λ (c : Option Checksum). by_state r.kind c bytes) (state_again ∙ byte_state r.checksum)
      ∙ ap (λ (q : Record). Ok q) record_again
