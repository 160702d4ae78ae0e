-- A refusal leaves the output as it was; else the address block stands behind the version's head.
use Rattle.std.proofs.Common.{ℕ, ◌+◌, ◌≤◌, ◌≡◌, sym, ap, ap₂, ◌∙◌, List, [], ◌∷◌, ◌++◌, arith, length, take, drop, length-append, length-take-le}
use Rattle.std.specs.Prelude.{Result, Ok, Err}
use Rattle.std.proofs.lemmas.Result.{err_from_is_err_and}
use Rattle.record.specs.declared.Record.{Record}
use Rattle.record.specs.Kinds.{block_length}
use Rattle.record.specs.Records.{Sized}
use Rattle.address_block.specs.AddressBlock.{address_block}
use Rattle.address_block.proofs.AddressBlockLaws.{block_size}
use Rattle.lent.specs.Placed.{placed}
use Rattle.lent.proofs.PlacedLaws.{placed_then, placed_start}
use Rattle.record.proofs.InMemory.{in_memory}
use Rattle.answer.specs.declared.Fault.{Fault}
use Rattle.answer.specs.Answers.{WriteAnswer, wrote, told_written}
use Rattle.answer.proofs.OutputLaws.{refused, written}
use Rattle.answer.specs.OutputLaws.{Promised}
use Rattle.kind_code.specs.Codes.{code_of}
use Rattle.kind_code.specs.States.{state_byte}
use Rattle.stored_form.specs.declared.StoredVersion.{StoredVersion}
use Rattle.stored_form.specs.Heads.{mark, version_byte, head, head_length}
use Rattle.stored_form.proofs.HeadLaws.{seven_at_most, head_length_lem, head_cut}
use Rattle.stored_form.specs.Stored.{stored, store_answer}
use Rattle.stored_form.specs.Meaning.{Means, LoadsBack}
use Rattle.stored_form.proofs.RoundTrip.{stored-length, answer_means, store_written, loads_back}
use Rattle.store.proofs.store.Goals as goal

-- ── the output ──
-- two parts, put one behind the other from the start
joined : (h a d d₁ d₂ : List ℕ) (i n : ℕ) → i ≡ length h → n ≡ length h + length a → n ≤ length d → d₁ ≡ placed h 0 d → d₂ ≡ placed a i d₁
    → d₂ ≡ h ++ a ++ drop n d
joined h a d d₁ d₂ i n ei en room e₁ e₂ =
    let size = length-append h a in
    placed_start (h ++ a) d d₂ n (placed_then h a d d₁ d₂ 0 i e₁ e₂ (omega arith) (omega arith)) (omega arith) room

-- the seven bytes from which a head is cut
abbrev seven : (version code state : ℕ) → List ℕ
seven version code state = mark ++ 0x00 ∷ version ∷ code ∷ state ∷ []

module _ (v : StoredVersion) (r : Record) where
  cut : (i version code state : ℕ) → i ≡ head_length v → version ≡ version_byte v → code ≡ code_of r.kind → state ≡ state_byte r.checksum
      → take i (seven version code state) ≡ head v r.kind r.checksum
  cut i version code state ei ev ec es =
      ap₂ (λ (j b : ℕ). take j (seven b code state)) ei ev
      ∙ ap₂ (λ (b c : ℕ). take (head_length v) (seven (version_byte v) b c)) ec es
      ∙ head_cut r.kind r.checksum v

  whole : Sized r → (h : List ℕ) (i n : ℕ) (d d₁ d₂ : List ℕ) → h ≡ head v r.kind r.checksum → i ≡ head_length v
      → n ≡ head_length v + block_length r.kind → n ≤ length d → d₁ ≡ placed h 0 d → d₂ ≡ placed (address_block r) i d₁ → d₂ ≡ stored v r ++ drop n d
  unfolding stored
  whole sized h i n d d₁ d₂ eh ei size room e₁ e₂ =
      let a = block_size r sized.source sized.destination in
      let l = head_length_lem r.kind r.checksum v in
      joined (head v r.kind r.checksum) (address_block r) d d₁ d₂ i n (omega arith) (omega arith) room
      (e₁ ∙ ap (λ (l : List ℕ). placed l 0 d) eh) e₂

module _ (v : StoredVersion) (r : Record) (out : List ℕ) (sized : Sized r) where
  abbrev answer : WriteAnswer
  answer = store_answer v r (length out)

  -- what is promised, since the record is one in memory
  abbrev Owed : (w : Result ℕ Fault) (after : List ℕ) → Type 0
  Owed = Promised answer (stored v r) out (Means v r (length out)) (LoadsBack v r)

  on_refusal : (fault : Fault) → told_written (Err fault) ≡ answer → Owed (Err fault) out
  on_refusal =
      refused answer (stored v r) out (Means v r (length out)) (LoadsBack v r) (answer_means v r (length out) sized)
      (λ after. loads_back v r out after sized)

  on_success : (n : ℕ) → wrote n ≡ answer → (after : List ℕ) → after ≡ stored v r ++ drop n out → Owed (Ok n) after
  on_success =
      written answer (stored v r) out (Means v r (length out)) (LoadsBack v r) (answer_means v r (length out) sized)
      (λ after. loads_back v r out after sized)

pub returns-in_err-written : goal.returns-in_err-written
returns-in_err-written c =
    let p = err_from_is_err_and c.from_residual.result c.from_residual.ensures.1 in
    rw (p.1, p.2) (on_refusal c.args.version c.args.from c.args.out.now (in_memory c.args.from _ c.well_formed.0) _ c.in_err-written.ensures)

-- the head is at most the seven bytes
pub slice_bounds-head-end : goal.slice_bounds-head-end
slice_bounds-head-end c =
    let most = seven_at_most c.args.version in
    let h = c.head_length-n.ensures in
    omega arith

pub slice_bounds-put-end : goal.slice_bounds-put-end
slice_bounds-put-end c =
    let most = seven_at_most c.args.version in
    let h = c.head_length-n.ensures in
    sym (length-take-le _ _ (omega arith))

pub returns : goal.returns
returns c =
    let v = c.args.version in
    let r = c.args.from in
    let out = c.args.out.now in
    let s = in_memory r _ c.well_formed.0 in
    let w = store_written v r (length out) s _ (sym c.in_ok-written.ensures) in
    let l = stored-length v r s in
    on_success v r out s _ c.in_ok-written.ensures _
    (whole v r s _ c.head_length-n.result _ _ _ _
    (cut v r _ _ _ _ c.head_length-n.ensures c.version_byte.ensures c.code_of.ensures c.state_byte.ensures)
    c.head_length-n.ensures (omega (arith, w.1)) w.2 c.put.ensures c.put_addresses.ensures)
