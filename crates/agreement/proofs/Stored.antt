-- Moving a stored form, as C callers see it, leaves what storing leaves of the connection that loading gives (include/dawnhawse.h).
use Rattle.std.specs.Prelude.{◌≡◌, List, ◌↔◌, ℕ, length, Result, Ok}
use Rattle.std.proofs.Common.{sym, ap, ◌∙◌, subst, arith}
use Rattle.exact.specs.Claim.{AllBytes}
use Rattle.lent.specs.Buffers.{over, told_in}
use Rattle.lent.proofs.BufferLaws.{roomy, over_all}
use Rattle.record.specs.declared.Record.{Record}
use Rattle.record.specs.Records.{Sized}
use Rattle.answer.specs.Answers.{WriteAnswer}
use Rattle.connection.specs.Connection.{connection_size, connection_bytes}
use Rattle.request.specs.declared.RequestError.{RequestError}
use Rattle.request.specs.Request.{request, asked_record}
use Rattle.request.proofs.RequestLaws.{connection_size_lem, asked_again}
use Rattle.stored_form.specs.declared.StoredVersion.{StoredVersion}
use Rattle.stored_form.specs.Stored.{stored, store_answer}
use Rattle.stored_form.specs.Loading.{LoadAnswer, loads, loaded_record, load_answer}
use Rattle.stored_form.specs.Converting.{converted, convert_answer}
use Rattle.stored_form.proofs.RoundTrip.{load_again}
use Rattle.stored_form.proofs.Moving.{converted-stored, answer_stored}
use Rattle.numbers.specs.Numbers.{room_beside}
use Rattle.read_interface.specs.LoadInterface.{LoadTold}
use Rattle.write_interface.specs.WriteInterface.{asked_answer, Writes, WritesAsked, WritesConverted}

-- a buffer of a connection's length holds nothing else
connection_told : (r : Record) (connection : List ℕ) → Sized r → length connection ≡ connection_size
    → told_in connection_size (connection_bytes r) connection ≡ connection_bytes r
connection_told r connection sized size =
    let all = connection_size_lem r sized in
    sym (roomy connection_size connection (over (connection_bytes r) connection) connection (omega arith))
    ∙ over_all (connection_bytes r) connection (omega arith)

-- s: a form of the version `from`; told: the connection that `dawnhawse_load` or `dawnhawse_load_v2` left in 222 bytes, as it promises
pub moved_as_stored : (from to : StoredVersion) (s : List ℕ) → AllBytes s → (r : Record) → load_answer from s ≡ loads r
    → (connection told : List ℕ) (number : ℕ) → length connection ≡ connection_size → LoadTold (load_answer from s) connection number told
    → (output numbers : List ℕ) (answer : ℕ) (output_left numbers_left : List ℕ)
    → WritesConverted from to s output numbers answer output_left numbers_left
    ↔ WritesAsked (store_answer to) (stored to) told output numbers answer output_left numbers_left
moved_as_stored from to s bytes r valid connection told number size loaded output numbers answer output_left numbers_left =
    let form = load_again from s bytes r valid in
    let room = room_beside (length numbers) (length output) in
    let P : WriteAnswer → List ℕ → Type 0 = λ w text. Writes w text output numbers answer output_left numbers_left in
    let asked : request told ≡ Ok r =
    ap request
    (loaded.1 ∙ ap (λ (l : LoadAnswer). told_in connection_size (connection_bytes (loaded_record l)) connection) valid ∙ connection_told r connection form.sized size)
    ∙ asked_again r form.sized
    in
    let same : convert_answer from to s room ≡ asked_answer (store_answer to) (request told) room =
    answer_stored from to s r form room ∙ ap (λ (a : Result Record RequestError). asked_answer (store_answer to) a room) (sym asked)
    in
    let text : converted from to s ≡ stored to (asked_record (request told)) =
    converted-stored from to s r form ∙ ap (λ (a : Result Record RequestError). stored to (asked_record a)) (sym asked)
    in (
      λ w. subst (P (asked_answer (store_answer to) (request told) room)) text (subst (λ (v : WriteAnswer). P v (converted from to s)) same w),
      λ w. subst (λ (v : WriteAnswer). P v (converted from to s)) (sym same) (subst (P (asked_answer (store_answer to) (request told) room)) (sym text) w),
    )
