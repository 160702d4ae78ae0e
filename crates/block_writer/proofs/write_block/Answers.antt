-- A refusal leaves the output as it was; else the head, the address block and the area stand one behind the other.
use Rattle.std.proofs.Common.{ℕ, ◌+◌, ◌-◌, ◌≤◌, ◌<◌, ◌≡◌, sym, ap, ◌∙◌, List, ◌++◌, arith, length}
use Rattle.std.specs.Prelude.{Result, Ok, Err}
use Rattle.std.proofs.lemmas.Result.{err_from_is_err_and}
use Rattle.record.specs.declared.Record.{Record}
use Rattle.record.specs.Records.{Sized}
use Rattle.lent.proofs.PlacedLaws.{placed_start}
use Rattle.record.proofs.InMemory.{in_memory}
use Rattle.answer.specs.declared.Fault.{Fault}
use Rattle.answer.specs.Answers.{WriteAnswer, wrote, told_written}
use Rattle.answer.proofs.OutputLaws.{refused, written}
use Rattle.answer.specs.OutputLaws.{Promised}
use Rattle.head_writer.specs.Head.{head_of}
use Rattle.block_writer.specs.Written.{block_of, written_block, CarriedByBlock, block_answer, block_placed}
use Rattle.block_writer.proofs.WrittenLaws.{block_length_lem, written_length, block_placed_lem}
use Rattle.block_writer.specs.Demand.{Means, ReadsBack}
use Rattle.block_writer.proofs.Demand.{answer_means, block_accepted, reads_back}
use Rattle.block_writer.proofs.write_block.Goals as goal

module _ (r : Record) (area out : List ℕ) (sized : Sized r) where
  abbrev answer : WriteAnswer
  answer = block_answer r area (length out)

  -- what is promised, since the record is one in memory
  abbrev Owed : (w : Result ℕ Fault) (after : List ℕ) → Type 0
  Owed = Promised answer (written_block r area) out (Means r area (length out)) (ReadsBack r area)

  on_refusal : (fault : Fault) → told_written (Err fault) ≡ answer → Owed (Err fault) out
  on_refusal =
      refused answer (written_block r area) out (Means r area (length out)) (ReadsBack r area) (answer_means r area (length out) sized)
      (λ after. reads_back r area out after sized)

  module _ (n : ℕ) (told : wrote n ≡ answer) where
    carried : CarriedByBlock r area × (length (written_block r area) ≡ n) × (n ≤ length out)
    carried = block_accepted r area (length out) n sized (sym told)

    size : n ≡ 16 + length (block_of r area)
    size = let w = written_length r area sized in let b = block_length_lem r area sized in omega (arith, carried.1)

    small : n - 16 < 65536
    small = let h = carried.0.small in omega (arith, size)

    on_success : (after : List ℕ) → after ≡ block_placed r (n - 16) area out → Owed (Ok n) after
    unfolding written_block
    on_success after put =
        let all : n - 16 ≡ length (block_of r area) = omega (arith, size) in
        let b = block_length_lem r area sized in
        written answer (written_block r area) out (Means r area (length out)) (ReadsBack r area) (answer_means r area (length out) sized)
        (λ after. reads_back r area out after sized) n told after
        (placed_start (head_of r.kind (length (block_of r area)) ++ block_of r area) out after n
        (put ∙ ap (λ (m : ℕ). block_placed r m area out) all ∙ block_placed_lem r area sized (length (block_of r area)) out (omega (arith, size, carried.2)))
        carried.1 carried.2)

pub returns-in_err-n : goal.returns-in_err-n
returns-in_err-n c =
    let p = err_from_is_err_and c.from_residual.result c.from_residual.ensures.1 in
    rw (p.1, p.2) (on_refusal c.args.from c.args.area.now c.args.out.now (in_memory c.args.from _ c.well_formed.0) _ c.in_err-n.ensures)

pub overflow_sub-n : goal.overflow_sub-n
overflow_sub-n c =
    let e = size c.args.from c.args.area.now c.args.out.now (in_memory c.args.from _ c.well_formed.0) _ c.in_ok-n.ensures in omega arith

pub overflow_cast-n : goal.overflow_cast-n
overflow_cast-n c =
    let h = small c.args.from c.args.area.now c.args.out.now (in_memory c.args.from _ c.well_formed.0) _ c.in_ok-n.ensures in omega arith

pub returns : goal.returns
returns c =
    on_success c.args.from c.args.area.now c.args.out.now (in_memory c.args.from _ c.well_formed.0) _ c.in_ok-n.ensures _ c.put_block.ensures
