-- What document 02, K7 says of moving stored bytes: theorems about all bytes, by one law over the two versions.
use Rattle.std.specs.Prelude.{◌≡◌, refl, Bool, List, ◌∷◌, ◌++◌, ℕ, suc, ◌+◌, ◌≤◌, eqb, ltb, length, get_or, Option, Some, None}
use Rattle.std.proofs.Common.{sym, ap, ap₂, ◌∙◌, subst, arith, le-leb, ltb-true, ltb-false}
use Rattle.exact.specs.Claim.{AllBytes}
use Rattle.exact.specs.Pick.{pick, pick_by}
use Rattle.record.specs.declared.Kind.{Kind}
use Rattle.record.specs.declared.Kind.TheVariants.{Local, Unspecified, Ip4, Ip6, Unix}
use Rattle.record.specs.declared.Checksum.{Checksum}
use Rattle.record.specs.declared.Checksum.TheVariants.{Absent, Matched}
use Rattle.record.specs.declared.Record.{Record}
use Rattle.record.specs.Kinds.{block_length}
use Rattle.clean.proofs.UnusedLaws.{clean_test_lem}
use Rattle.address_block.specs.AddressBlock.{address_block}
use Rattle.answer.specs.Answers.{WriteAnswer, wrote, refuses, output_after}
use Rattle.answer.proofs.OutputLaws.{not_wrote, written_front}
use Rattle.stored_form.specs.declared.StoredVersion.{StoredVersion}
use Rattle.stored_form.specs.declared.StoredVersion.TheVariants.{One, Two}
use Rattle.kind_code.specs.Codes.{kind_of}
use Rattle.stored_form.specs.Heads.{mark, version_bytes, state_bytes, head_length, Keeps}
use Rattle.stored_form.proofs.HeadLaws.{keeps_test_lem, head_state, behind_head}
use Rattle.stored_form.specs.Stored.{stored, kept_answer, store_answer}
use Rattle.stored_form.specs.Loading.{LoadAnswer, loads, no_record, has_mark, has_version, load_block, load_kind, load_answer}
use Rattle.stored_form.specs.Meaning.{Form}
use Rattle.stored_form.proofs.LoadLaws.{answer_short, answer_version}
use Rattle.stored_form.proofs.RoundTrip.{stored-length, load_stored, load_again, not_loaded, store_written}
use Rattle.stored_form.specs.Converting.{state_said, converted, convert_by, convert_answer, LoadThenStore, Returns, GoesBack}

-- ── a stored form, moved ──
form_converted : (from to : StoredVersion) (r : Record) → Keeps from r.checksum → converted from to (stored from r) ≡ stored to r
unfolding stored converted
form_converted from to r kept =
    ap₂ (λ (o : Option Checksum) (l : List ℕ). mark ++ version_bytes to ++ get_or (stored from r) 5 0 ∷ state_bytes to (state_said o) ++ l)
    (head_state r.kind r.checksum (address_block r) from kept) (behind_head r.kind r.checksum (address_block r) from)

module _ (from to : StoredVersion) (s : List ℕ) (r : Record) (form : Form from s r) where
  -- it is the stored form of the same record
  pub converted-stored : converted from to s ≡ stored to r
  converted-stored = ap (converted from to) (sym form.same) ∙ form_converted from to r form.storable.kept

  by_state : (room : ℕ) → convert_answer from to s room ≡ kept_answer to r.checksum (length (stored to r)) room
  by_state room =
      ap₂ (λ (l : LoadAnswer) (n : ℕ). convert_by l to n room)
      (ap (load_answer from) (sym form.same) ∙ load_stored from r form.sized form.storable) (ap length converted-stored)

  -- the answer is that of the other version's writer
  pub answer_stored : (room : ℕ) → convert_answer from to s room ≡ store_answer to r room
  answer_stored room =
      by_state room
      ∙ ap (λ (b : Bool). pick b (kept_answer to r.checksum (length (stored to r)) room) (refuses 11)) (sym ((clean_test_lem r form.sized).1 form.storable.clean))

  module _ (kept : Keeps to r.checksum) where
    other_form : Form to (stored to r) r
    other_form = record { same = refl; storable = record { clean = form.storable.clean; kept = kept }; sized = form.sized }

    -- given room it is accepted, where the other version can say the state
    accepted : (room : ℕ) → length (stored to r) ≤ room → convert_answer from to s room ≡ wrote (length (stored to r))
    accepted room long =
        by_state room
        ∙ ap₂ (λ (b c : Bool). pick b (pick c (wrote (length (stored to r))) (refuses 14)) (refuses 24)) ((keeps_test_lem to r.checksum).1 kept)
        (le-leb (length (stored to r)) room long)

-- ── there and back ──
returns : (from to : StoredVersion) (s : List ℕ) (r : Record) → Form from s r → Keeps to r.checksum → (room : ℕ) → length s ≤ room
    → Returns from to s (converted from to s) room
returns from to s r form kept room long =
    let other = other_form from to s r form kept in
    let size = ap length form.same in
    subst (λ (t : List ℕ). Returns from to s t room) (sym (converted-stored from to s r form)) (
      accepted to from (stored to r) r other form.storable.kept room (omega arith) ∙ ap wrote size,
      converted-stored to from (stored to r) r other ∙ form.same,
    )

module _ (from to : StoredVersion) (s : List ℕ) (bytes : AllBytes s) where
  -- what was accepted was a stored form, and the other version can say its state
  was_form : (n room : ℕ) → convert_answer from to s room ≡ wrote n → (r : Record) × (Form from s r × Keeps to r.checksum × (length (stored to r) ≡ n))
  was_form n room is = by (load_answer from s) refl
    where
      by : (l : LoadAnswer) → load_answer from s ≡ l → (r : Record) × (Form from s r × Keeps to r.checksum × (length (stored to r) ≡ n))
      by (no_record k) e = not_wrote _ n (ap (λ (m : LoadAnswer). convert_by m to (length (converted from to s)) room) (sym e) ∙ is)
      by (loads r) e =
          let form = load_again from s bytes r e in
          let w = store_written to r room form.sized n (sym (answer_stored from to s r form room) ∙ is) in
          (r, (form, w.0.kept, w.1))

  pub there_and_back : (n room room' : ℕ) → convert_answer from to s room ≡ wrote n → length s ≤ room' → Returns from to s (converted from to s) room'
  there_and_back n room room' is long = let f = was_form n room is in returns from to s f.0 f.1.0 f.1.1 room' long

  -- ── what the promise of a conversion says ──
  module _ (before after : List ℕ) (output : after ≡ output_after (convert_answer from to s (length before)) (converted from to s) before) where
    pub load_then_store : LoadThenStore from to s before (convert_answer from to s (length before)) after
    load_then_store = (
      λ k invalid.
          let same = ap (λ (l : LoadAnswer). convert_by l to (length (converted from to s)) (length before)) invalid in
          (same, output ∙ ap (λ (a : WriteAnswer). output_after a (converted from to s) before) same),
      λ r valid.
          let form = load_again from s bytes r valid in
          let same = answer_stored from to s r form (length before) in
          (same, output ∙ ap₂ (λ (a : WriteAnswer) (t : List ℕ). output_after a t before) same (converted-stored from to s r form)),
    )

    pub goes_back : GoesBack from to s (convert_answer from to s (length before)) after
    goes_back n room is long =
        let f = was_form n (length before) is in
        let size = ap length (converted-stored from to s f.0 f.1.0) ∙ f.1.2 in
        subst (λ (t : List ℕ). Returns from to s t room)
        (sym (written_front (converted from to s) before after (convert_answer from to s (length before)) n is size output))
        (there_and_back n (length before) room is long)

-- ── forward, and back ──
module _ (s : List ℕ) (bytes : AllBytes s) (r : Record) where
  -- "Moving forward sets absent"
  pub forward_absent : load_answer One s ≡ loads r → (r.checksum ≡ Absent) × (load_answer Two (converted One Two s) ≡ loads r)
  forward_absent valid =
      let form = load_again One s bytes r valid in
      let other = other_form One Two s r form tt in (
        form.storable.kept,
        ap (load_answer Two) (converted-stored One Two s r form) ∙ load_stored Two r other.sized other.storable,
      )

  -- "Given valid input and room, forward and back gives the same bytes"
  pub forward_and_back : load_answer One s ≡ loads r → (room room' : ℕ) → suc (length s) ≤ room → length s ≤ room'
      → (convert_answer One Two s room ≡ wrote (suc (length s))) × Returns One Two s (converted One Two s) room'
  forward_and_back valid room room' long long' =
      let form = load_again One s bytes r valid in
      let one = stored-length One r form.sized in
      let two = stored-length Two r form.sized in
      let here = ap length form.same in
      let grown : length (stored Two r) ≡ suc (length s) = omega arith in
      (accepted One Two s r form tt room (omega arith) ∙ ap wrote grown, returns One Two s r form tt room' long')

  -- "Moving back answers 24 and writes nothing when the state is matched", whatever the room
  pub back_matched : load_answer Two s ≡ loads r → r.checksum ≡ Matched → (room : ℕ) → convert_answer Two One s room ≡ refuses 24
  back_matched valid matched room =
      let form = load_again Two s bytes r valid in
      by_state Two One s r form room ∙ ap (λ (c : Checksum). kept_answer One c (length (stored One r)) room) matched

-- "back and forward does where back was accepted"
pub back_and_forward : (s : List ℕ) → AllBytes s → (n room room' : ℕ) → convert_answer Two One s room ≡ wrote n → length s ≤ room'
    → Returns Two One s (converted Two One s) room'
back_and_forward s bytes = there_and_back Two One s bytes

-- ── a form of the other version ──
-- version 1's reader knows each form of version 2 by its version
pub two_for_one : (s : List ℕ) (r : Record) → Form Two s r → load_answer One s ≡ no_record 16
unfolding stored
two_for_one s r form =
    let size = stored-length Two r form.sized in
    ap (load_answer One) (sym form.same) ∙ answer_version One (stored Two r) (omega arith) refl refl

-- version 2's knows each form of version 1 so, but for one of six bytes, which is too short
pub one_for_two : (s : List ℕ) (r : Record) → Form One s r → load_answer Two s ≡ no_record (pick (ltb (length s) 7) 18 16)
unfolding stored
one_for_two s r form =
    pick_by (λ (k : ℕ). load_answer Two s ≡ no_record k) (ltb (length s) 7) (λ t. answer_short Two s (ltb-true (length s) 7 t))
    (λ t.
    let size = ap length form.same in
    let long = ltb-false (length s) 7 t in
    ap (load_answer Two) (sym form.same) ∙ answer_version Two (stored One r) (omega arith) refl refl)

-- ── version 1 has no state to refuse ──
module _ (s : List ℕ) where
  abbrev Not24 : LoadAnswer → Type 0
  Not24 a = a ≡ no_record 24 → ⊥

  other_number : (k : ℕ) → (k ≡ 24 → ⊥) → Not24 (no_record k)
  other_number k other e = let same : k ≡ 24 = cc in other same

  by_length : (k : Kind) → Not24 (load_block One k Absent s)
  by_length k =
      pick_by Not24 (eqb (length s) (head_length One + block_length k)) (λ t e. not_loaded 24 _ (sym e)) (λ t. other_number 18 (λ e. omega arith))

  by_kind : (o : Option Kind) → Not24 (load_kind One o s)
  by_kind None = other_number 17 (λ e. omega arith)
  by_kind (Some Local) = by_length Local
  by_kind (Some Unspecified) = by_length Unspecified
  by_kind (Some (Ip4 t)) = by_length (Ip4 t)
  by_kind (Some (Ip6 t)) = by_length (Ip6 t)
  by_kind (Some (Unix t)) = by_length (Unix t)

  -- so its reader never answers 24, whatever the bytes
  pub never_24 : load_answer One s ≡ no_record 24 → ⊥
  never_24 =
      pick_by Not24 (ltb (length s) (head_length One)) (λ t. other_number 18 (λ e. omega arith))
      (λ t.
      pick_by Not24 (has_mark s)
      (λ t. pick_by Not24 (has_version One s) (λ t. by_kind (kind_of (get_or s 5 0))) (λ t. other_number 16 (λ e. omega arith)))
      (λ t. other_number 15 (λ e. omega arith)))
