-- A refusal leaves the output as it was; else the header is put with zeros for the checksum, and then with it.
use Rattle.std.proofs.Common.{ℕ, ◌+◌, ◌-◌, ◌≤◌, ◌<◌, ◌≡◌, refl, sym, ap, ◌∙◌, List, ◌++◌, arith, length, drop, take}
use Rattle.std.specs.Prelude.{Result, Ok, Err, replicate}
use Rattle.std.proofs.lemmas.Result.{err_from_is_err_and}
use Rattle.lent.specs.Placed.{placed}
use Rattle.tlv.specs.Tlv.{tlv_bytes}
use Rattle.record.specs.declared.Record.{Record}
use Rattle.record.specs.Kinds.{block_length}
use Rattle.record.specs.Records.{Sized}
use Rattle.record.proofs.InMemory.{in_memory}
use Rattle.crc.specs.Crc.{checksum, stored}
use Rattle.answer.specs.declared.Fault.{Fault}
use Rattle.answer.specs.Answers.{WriteAnswer, wrote, told_written}
use Rattle.answer.proofs.OutputLaws.{refused, written}
use Rattle.answer.specs.OutputLaws.{Promised}
use Rattle.block_writer.specs.Written.{written_block, block_placed}
use Rattle.checked_writer.specs.Written.{with_tlv, checksum_for, written_checked, CarriedChecked, checked_answer}
use Rattle.checked_writer.specs.Demand.{Means, ReadsBack}
use Rattle.checked_writer.proofs.Demand.{answer_means, checked_accepted, reads_back}
use Rattle.checked_writer.proofs.PutLaws.{tlv_length, header_length, zeros_front, with_sum}
use Rattle.checked_writer.proofs.write_checked.Goals as goal

module _ (r : Record) (area out : List ℕ) (sized : Sized r) where
  abbrev answer : WriteAnswer
  answer = checked_answer r area (length out)

  -- what is promised, since the record is one in memory
  abbrev Owed : (w : Result ℕ Fault) (after : List ℕ) → Type 0
  Owed = Promised answer (written_checked r area) out (Means r area (length out)) (ReadsBack r area)

  on_refusal : (fault : Fault) → told_written (Err fault) ≡ answer → Owed (Err fault) out
  on_refusal =
      refused answer (written_checked r area) out (Means r area (length out)) (ReadsBack r area) (answer_means r area (length out) sized)
      (λ after. reads_back r area out after sized)

  module _ (n : ℕ) (told : wrote n ≡ answer) where
    carried : CarriedChecked r area × (length (written_checked r area) ≡ n) × (n ≤ length out)
    carried = checked_accepted r area (length out) n sized (sym told)

    abbrev k : ℕ
    k = block_length r.kind + length area

    size : n ≡ 23 + k
    size = let l = header_length r area sized (checksum_for r area) refl in omega (arith, carried.1)

    small : n < 65552
    small = let l = tlv_length r area sized (checksum_for r area) refl in let h = carried.0.small in omega (arith, size)

    module _ (d₁ d₂ : List ℕ) (block : d₁ ≡ block_placed r (n - 16) area out) (zeros : d₂ ≡ placed (tlv_bytes 0x03 (replicate 4 0)) (n - 7) d₁) where
      room : 23 + k ≤ length out
      room = omega (arith, size, carried.2)

      block_at : d₁ ≡ block_placed r (k + 7) area out
      block_at = block ∙ ap (λ (m : ℕ). block_placed r m area out) (omega (arith, size))

      zeros_at : d₂ ≡ placed (tlv_bytes 0x03 (replicate 4 0)) (16 + k) d₁
      zeros_at = zeros ∙ ap (λ (m : ℕ). placed (tlv_bytes 0x03 (replicate 4 0)) m d₁) (omega (arith, size))

      -- the checksum is that of the header with zeros
      the_sum : stored (checksum (take n d₂)) ≡ checksum_for r area
      the_sum = ap (λ (l : List ℕ). stored (checksum l)) (ap (λ (m : ℕ). take m d₂) size ∙ zeros_front r area sized k refl out d₁ d₂ room block_at zeros_at)

      on_success : (sum after : List ℕ) → sum ≡ stored (checksum (take n d₂)) → after ≡ placed sum (n - 4) d₂ → Owed (Ok n) after
      on_success sum after is put =
          written answer (written_checked r area) out (Means r area (length out)) (ReadsBack r area) (answer_means r area (length out) sized)
          (λ after. reads_back r area out after sized) n told after
          (with_sum r area sized k refl out d₁ d₂ room block_at zeros_at sum after (ap length is) (put ∙ ap (λ (m : ℕ). placed sum m d₂) (omega (arith, size)))
          ∙ ap (λ (v : List ℕ). written_block r (with_tlv area v) ++ drop (23 + k) out) (is ∙ the_sum)
          ∙ ap (λ (m : ℕ). written_checked r area ++ drop m out) (sym size))

pub returns-in_err-n : goal.returns-in_err-n
returns-in_err-n c =
    let p = err_from_is_err_and c.from_residual.result c.from_residual.ensures.1 in
    rw (p.1, p.2) (on_refusal c.args.from c.args.area.now c.args.out.now (in_memory c.args.from _ c.well_formed.0) _ c.in_err-n.ensures)

pub overflow_sub-n : goal.overflow_sub-n
overflow_sub-n c = let e = size c.args.from c.args.area.now c.args.out.now (in_memory c.args.from _ c.well_formed.0) _ c.in_ok-n.ensures in omega arith

pub overflow_cast-n : goal.overflow_cast-n
overflow_cast-n c =
    let e = size c.args.from c.args.area.now c.args.out.now (in_memory c.args.from _ c.well_formed.0) _ c.in_ok-n.ensures in
    let h = small c.args.from c.args.area.now c.args.out.now (in_memory c.args.from _ c.well_formed.0) _ c.in_ok-n.ensures in
    omega arith

pub overflow_sub-n-2 : goal.overflow_sub-n-2
overflow_sub-n-2 c = let e = size c.args.from c.args.area.now c.args.out.now (in_memory c.args.from _ c.well_formed.0) _ c.in_ok-n.ensures in omega arith

pub overflow_sub-n-3 : goal.overflow_sub-n-3
overflow_sub-n-3 c = let e = size c.args.from c.args.area.now c.args.out.now (in_memory c.args.from _ c.well_formed.0) _ c.in_ok-n.ensures in omega arith

pub returns : goal.returns
returns c =
    on_success c.args.from c.args.area.now c.args.out.now (in_memory c.args.from _ c.well_formed.0) _ c.in_ok-n.ensures _ _ c.put_block.ensures c.put_tlv.ensures.1 _ _
    (c.network_bytes-sum.ensures ∙ ap stored (c.crc32c.ensures ∙ ap checksum c.front.ensures.2)) c.put.ensures
