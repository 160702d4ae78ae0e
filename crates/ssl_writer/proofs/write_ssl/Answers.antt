-- A refusal leaves the output as it was; else the head and the pieces stand one behind the other. The output is of bytes, so the pieces are.
use Rattle.std.specs.Prelude.{◌^◌, option_copied}
use Rattle.std.proofs.Common.{◌≡◌, refl, sym, ap, ◌∙◌, subst, List, [], ◌∷◌, ℕ, ◌<◌, arith, length}
use Rattle.std.proofs.lemmas.List.{length-map}
use Rattle.std.proofs.lemmas.Result.{err_from_is_err_and}
use Rattle.exact.specs.Claim.{AllBytes}
use Rattle.exact.proofs.Parser.{bytes_of, bytes_take}
use Rattle.network32.specs.Network32.{network32}
use Rattle.lent.specs.Placed.{placed}
use Rattle.lent.proofs.PlacedLaws.{placed_then, placed_start}
use Rattle.answer.specs.Answers.{WriteAnswer, wrote, refuses, output_after}
use Rattle.answer.proofs.OutputLaws.{written_front}
use Rattle.ssl_writer.specs.Written.{Piece, lent_pieces, ssl_value, ssl_answer}
use Rattle.ssl_writer.specs.Writes.{ReadsBack, Writes}
use Rattle.ssl_writer.specs.Steps.{answer_by, pieces_placed}
use Rattle.ssl_writer.proofs.ReadBack.{taken, written_back}
use Rattle.ssl_writer.proofs.PutLaws.{value_from_lem, of_bytes, answers_same, Wrote, put_all}
use Rattle.ssl_writer.proofs.write_ssl.Goals as goal

module _ (client verify : ℕ) (pieces : List Piece) (out : List ℕ) where
  abbrev value : List ℕ
  value = ssl_value client verify pieces

  abbrev answer : WriteAnswer
  answer = ssl_answer client verify pieces (length out)

  on_refusal : (k : ℕ) → refuses k ≡ answer_by client pieces (length out) → Writes client verify pieces out (refuses k) out
  on_refusal k e =
      let told : refuses k ≡ answer = e ∙ answers_same client verify pieces (length out) in
      record { answers = told; left = ap (λ (a : WriteAnswer). output_after a value out) told; back = tt }

  on_success : length pieces ≡ 5 → verify < 2 ^ 32 → (n : ℕ) → wrote n ≡ answer_by client pieces (length out) → (first head after : List ℕ)
      → first ≡ placed (client ∷ []) 0 out → head ≡ placed (network32 verify) 1 first → after ≡ pieces_placed 0x21 pieces 5 head → AllBytes after
      → Writes client verify pieces out (wrote n) after
  on_success five small n e first head after put₁ put₂ put₃ bytes =
      let told : wrote n ≡ answer = e ∙ answers_same client verify pieces (length out) in
      let t = taken client verify pieces (length out) n (sym told) in
      let same = value_from_lem (client ∷ network32 verify) 0x21 pieces in
      let long = ap length same in
      let begun : Wrote out (client ∷ network32 verify) head 5 =
      record { holds = placed_then (client ∷ []) (network32 verify) out _ _ 0 1 put₁ put₂ refl (omega (arith, t.size, t.fits)); place = refl }
      in
      let put : after ≡ placed value 0 out =
      put₃
      ∙ put_all out _ head 5 0x21 pieces begun (omega (arith, long, t.short)) (omega (arith, long, t.size, t.fits))
      ∙ ap (λ (l : List ℕ). placed l 0 out) same
      in
      let left : after ≡ output_after answer value out =
      placed_start value out after n put t.size (omega (arith, t.size, t.fits)) ∙ ap (λ (a : WriteAnswer). output_after a value out) told
      in
      let all = subst AllBytes (written_front value out after answer n (sym told) t.size left) (bytes_take n after bytes) in
      record {
        answers = told;
        left = left;
        back =
            subst (λ (a : WriteAnswer). ReadsBack client verify pieces a after) (sym told)
            (written_back client verify pieces five small (of_bytes 0x21 pieces all.1.1.1.1.1) out after left);
      }

pub returns-in_err-n : goal.returns-in_err-n
returns-in_err-n c =
    let x = c.args in
    let q = err_from_is_err_and c.from_residual.result c.from_residual.ensures.1 in
    rw (q.1, q.2) (on_refusal x.client x.verify (lent_pieces x.pieces.now) x.out.now _ c.in_err-n.ensures)

pub returns : goal.returns
returns c =
    let x = c.args in
    on_success x.client x.verify (lent_pieces x.pieces.now) x.out.now (length-map x.pieces.now option_copied ∙ c.told-pieces) (omega arith) c.in_ok-n.n
    c.in_ok-n.ensures _ _ _ c.put.ensures
    (c.put-2.ensures ∙ ap (λ (l : List ℕ). placed l 1 c.put.new.out) c.network_bytes.ensures)
    c.put_pieces.ensures (bytes_of c.put_pieces.new.out c.type_inv.out)
