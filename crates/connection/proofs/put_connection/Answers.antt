-- Each part is put as its function ensures, one behind the other.
use Rattle.std.proofs.Common.{ℕ, List, [], ◌∷◌, refl, rules, ap, ◌∙◌, arith}
use Rattle.exact.specs.Network.{network}
use Rattle.record.specs.Records.{held}
use Rattle.record.proofs.HeldLaws.{held-length}
use Rattle.kind_code.specs.Codes.{code_of}
use Rattle.kind_code.specs.States.{state_byte}
use Rattle.lent.specs.Placed.{placed}
use Rattle.lent.proofs.NetworkLaws.{be_bytes}
use Rattle.connection.proofs.Parts.{put_parts}
use Rattle.connection.proofs.put_connection.Goals as goal

pub returns : goal.returns
returns c =
    let x = c.args.from in
    put_parts (code_of x.kind ∷ []) (held x.source.now) (held x.destination.now) (network x.source_port) (network x.destination_port) (state_byte x.checksum ∷ [])
    c.args.out.now c.put.new.out c.put_address.new.out c.put_address-2.new.out c.put-2.new.out c.put-3.new.out c.put-4.new.out
    refl (held-length x.source.now c.requires.0) (held-length x.destination.now c.requires.1) refl refl refl (omega arith)
    (c.put.ensures ∙ ap (λ (n : ℕ). placed (n ∷ []) 0 c.args.out.now) c.code_of.ensures)
    c.put_address.ensures c.put_address-2.ensures
    (c.put-2.ensures ∙ ap (λ (l : List ℕ). placed l 217 c.put_address-2.new.out) (c.to_be_bytes.ensures ∙ be_bytes x.source_port (search rules)))
    (c.put-3.ensures ∙ ap (λ (l : List ℕ). placed l 219 c.put-2.new.out) (c.to_be_bytes-2.ensures ∙ be_bytes x.destination_port (search rules)))
    (c.put-4.ensures ∙ ap (λ (n : ℕ). placed (n ∷ []) 221 c.put-3.new.out) c.state_byte.ensures)
