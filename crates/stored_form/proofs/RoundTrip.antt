-- "One record, one byte string, and reading it returns the record" (document 01, "Stored form, version 1"), in each version: that the answers mean what
-- `Meaning` says.
use Rattle.std.specs.Prelude.{◌≡◌, ℕ, ◌+◌, ◌≤◌, eqb, ltb, leb, get_or, Option, Some, None}
use Rattle.std.proofs.Math.Path.{refl, sym, ap}
use Rattle.std.proofs.Common.{ap₂, ◌∙◌, subst, eqb-true, ltb-false, leb-true, leb-false, length-append}
use Rattle.std.proofs.Math.Bool.{true}
use mathlib.Core.List.{List, ◌++◌}
use native.Mathlib.Omega.{arith}
use Rattle.std.proofs.Math.ListN.{length, drop, length-drop}
use Rattle.exact.specs.Claim.{AllBytes}
use Rattle.exact.proofs.Parser.{bytes_drop}
use Rattle.exact.specs.Pick.{pick_by, never}
use Rattle.record.specs.declared.Transport.TheVariants.{Stream}
use Rattle.record.specs.declared.Kind.{Kind}
use Rattle.record.specs.declared.Kind.TheVariants.{Local, Unspecified, Ip4, Ip6, Unix}
use Rattle.record.specs.declared.Checksum.{Checksum}
use Rattle.record.specs.declared.Checksum.TheVariants.{Absent}
use Rattle.record.specs.declared.Record.{Record}
use Rattle.record.specs.Kinds.{block_length}
use Rattle.record.specs.Records.{with_checksum, Sized}
use Rattle.record.proofs.RecordLaws.{sized_with, clean_with, plain_without}
use Rattle.clean.specs.Unused.{clean_state, clean_test}
use Rattle.clean.proofs.UnusedLaws.{state_clean, clean_test_lem}
use Rattle.address_block.specs.AddressBlock.{address_block, block_record}
use Rattle.address_block.proofs.AddressBlockLaws.{block_size, record_again, block_again, block_plain, block_sized}
use Rattle.answer.specs.Answers.{WriteAnswer, wrote, refuses, output_after}
use Rattle.answer.proofs.OutputLaws.{not_wrote, written_front, Within, fits_at_last}
use Rattle.kind_code.specs.Codes.{kind_of}
use Rattle.kind_code.proofs.CodeLaws.{code_kind}
use Rattle.stored_form.specs.declared.StoredVersion.{StoredVersion}
use Rattle.stored_form.specs.declared.StoredVersion.TheVariants.{One, Two}
use Rattle.stored_form.specs.Heads.{head, head_length, state_in, keeps_test}
use Rattle.stored_form.proofs.HeadLaws.{keeps_test_lem, head_length_lem, head_version, head_state, behind_head, said_kept, head_again}
use Rattle.stored_form.specs.Stored.{stored, kept_answer, store_answer}
use Rattle.stored_form.specs.Loading.{LoadAnswer, loads, no_record, loaded_record, has_mark, has_version, load_state, load_kind, load_answer}
use Rattle.stored_form.specs.Meaning.{Storable, Means, unused, not_kept, too_short, written, LoadsBack, Form, LoadMeans, loaded, refused}
use Rattle.stored_form.proofs.LoadLaws.{answer_state, block_whole}

pub stored-length : (v : StoredVersion) (r : Record) → Sized r → length (stored v r) ≡ head_length v + block_length r.kind
unfolding stored
stored-length v r sized =
    length-append (head v r.kind r.checksum) (address_block r)
    ∙ ap₂ ◌+◌ (head_length_lem r.kind r.checksum v) (block_size r sized.source sized.destination)

abbrev length_in : StoredVersion → Kind → ℕ
length_in v k = head_length v + block_length k

-- "Lengths 6, 18, 42, 222"; K7: "lengths grow by one"
pub lengths : (length_in One Local ≡ 6) × (length_in One Unspecified ≡ 6) × (length_in One (Ip4 Stream) ≡ 18) × (length_in One (Ip6 Stream) ≡ 42)
    × (length_in One (Unix Stream) ≡ 222)
lengths = (refl, refl, refl, refl, refl)

pub lengths_grow : (length_in Two Local ≡ 7) × (length_in Two Unspecified ≡ 7) × (length_in Two (Ip4 Stream) ≡ 19) × (length_in Two (Ip6 Stream) ≡ 43)
    × (length_in Two (Unix Stream) ≡ 223)
lengths_grow = (refl, refl, refl, refl, refl)

module _ (v : StoredVersion) where
  -- "reading it returns the record"
  pub load_stored : (r : Record) → Sized r → Storable v r → load_answer v (stored v r) ≡ loads r
  unfolding stored
  load_stored r sized fits =
      let b = address_block r in
      let size = stored-length v r sized in
      let again = record_again (with_checksum Absent r) (sized_with Absent r sized) (plain_without r fits.clean) in
      answer_state v (stored v r) (omega arith) refl (head_version r.kind r.checksum b v) r.kind (code_kind r.kind) r.checksum
      (head_state r.kind r.checksum b v fits.kept) true ((state_clean r.kind r.checksum).1 fits.clean.checksum)
      ∙ block_whole v r.kind r.checksum (stored v r) size
      ∙ ap (λ (l : List ℕ). loads (with_checksum r.checksum (block_record r.kind l))) (behind_head r.kind r.checksum b v)
      ∙ ap (λ (q : Record). loads (with_checksum r.checksum q)) again

  -- "One record, one byte string"
  pub stored_one : (r q : Record) → Sized r → Storable v r → Sized q → Storable v q → stored v r ≡ stored v q → r ≡ q
  stored_one r q sized fits sized' fits' e =
      ap loaded_record (sym (load_stored r sized fits) ∙ ap (load_answer v) e ∙ load_stored q sized' fits')

-- ── what is read, written again ──
pub not_loaded : (k : ℕ) (r : Record) {A : Type 0} → no_record k ≡ loads r → A
not_loaded k r e = let z : ◌≡◌ {A = ℕ} 0 1 = cc in absurd (omega arith)

module _ (v : StoredVersion) (s : List ℕ) (bytes : AllBytes s) where
  abbrev Again : LoadAnswer → Type 0
  Again x = (r : Record) → x ≡ loads r → Form v s r

  module _ (long : head_length v ≤ length s) (marked : has_mark s ≡ true) (versioned : has_version v s ≡ true) where
    block_form : (k : Kind) (c : Checksum) → kind_of (get_or s 5 0) ≡ Some k → state_in v s ≡ Some c → clean_state k c ≡ true
        → length s ≡ head_length v + block_length k → Form v s (with_checksum c (block_record k (drop (head_length v) s)))
    unfolding stored
    block_form k c code said fits size =
        let b = drop (head_length v) s in
        let n : length b ≡ block_length k = let e = length-drop (head_length v) s in omega arith in
        let w = bytes_drop (head_length v) s bytes in
        let made = block_record k b in
        record {
          same = ap (λ (l : List ℕ). head v k c ++ l) (block_again k b n w) ∙ sym (head_again v s k c long marked versioned code said);
          storable = record {
            clean = clean_with c made (block_plain k b n w).clean ((state_clean k c).0 fits);
            kept = said_kept v s c said;
          };
          sized = sized_with c made (block_sized k b n w);
        }

    again_state : (k : Kind) → kind_of (get_or s 5 0) ≡ Some k → (o : Option Checksum) → state_in v s ≡ o → Again (load_state v k o s)
    again_state k code None said = λ r e. not_loaded _ r e
    again_state k code (Some c) said =
        pick_by Again (clean_state k c)
        (λ fits.
        pick_by Again (eqb (length s) (head_length v + block_length k))
        (λ t r e. subst (Form v s) (ap loaded_record e) (block_form k c code said fits (eqb-true _ _ t)))
        (λ t r e. not_loaded _ r e))
        (λ t r e. not_loaded _ r e)

    again_kind : (o : Option Kind) → kind_of (get_or s 5 0) ≡ o → Again (load_kind v o s)
    again_kind None code = λ r e. not_loaded _ r e
    again_kind (Some k) code = again_state k code (state_in v s) refl

  -- whatever is accepted is the stored form of the record that is given
  pub load_again : (r : Record) → load_answer v s ≡ loads r → Form v s r
  load_again =
      pick_by Again (ltb (length s) (head_length v)) (λ t r e. not_loaded _ r e)
      (λ long.
      pick_by Again (has_mark s)
      (λ marked.
      pick_by Again (has_version v s)
      (λ versioned. again_kind (ltb-false _ _ long) marked versioned (kind_of (get_or s 5 0)) refl)
      (λ t r e. not_loaded _ r e))
      (λ t r e. not_loaded _ r e))

  -- what the reader answers means what it should
  pub load_means : LoadMeans v s (load_answer v s)
  load_means = by (load_answer v s) refl
    where
      by : (a : LoadAnswer) → load_answer v s ≡ a → LoadMeans v s a
      by (loads r) e =
          let form = load_again r e in
          loaded r form (λ q other. stored_one v q r other.sized other.storable form.sized form.storable (other.same ∙ sym form.same))
      by (no_record k) e =
          refused k (λ r form. not_loaded k r (sym e ∙ ap (load_answer v) (sym form.same) ∙ load_stored v r form.sized form.storable))

-- ── the writer ──
-- what is written fits the room
pub kept_within : (v : StoredVersion) (c : Checksum) (n room : ℕ) → Within room (kept_answer v c n room)
kept_within v c n room = pick_by (Within room) (keeps_test v c) (λ t. fits_at_last n room 14) (λ t. tt)

pub store_within : (v : StoredVersion) (r : Record) (room : ℕ) → Within room (store_answer v r room)
store_within v r room = pick_by (Within room) (clean_test r) (λ t. kept_within v r.checksum _ room) (λ t. tt)

module _ (v : StoredVersion) (r : Record) (room : ℕ) (sized : Sized r) where
  pub answer_means : Means v r room (store_answer v r room)
  answer_means =
      let P : WriteAnswer → Type 0 = Means v r room in
      let c = r.checksum in
      pick_by P (clean_test r)
      (λ t₁.
      let clean = (clean_test_lem r sized).0 t₁ in
      pick_by P (keeps_test v c)
      (λ t₂.
      let fits : Storable v r = record { clean = clean; kept = (keeps_test_lem v c).0 t₂ } in
      pick_by P (leb (length (stored v r)) room) (λ t. written fits (leb-true _ _ t)) (λ t. too_short fits (leb-false _ _ t)))
      (λ t₂. not_kept clean (λ kept. never (sym t₂ ∙ (keeps_test_lem v c).1 kept))))
      (λ t₁. unused (λ clean. never (sym t₁ ∙ (clean_test_lem r sized).1 clean)))

  -- what it accepts can be stored and fits, and the answer is its length
  pub store_written : (n : ℕ) → store_answer v r room ≡ wrote n → Storable v r × (length (stored v r) ≡ n) × (n ≤ room)
  store_written n e = by (store_answer v r room) e answer_means
    where
      by : (a : WriteAnswer) → a ≡ wrote n → Means v r room a → Storable v r × (length (stored v r) ≡ n) × (n ≤ room)
      by (refuses k) q m = not_wrote k n q
      by (wrote m) q (written fits room') = let size : length (stored v r) ≡ n = cc in (fits, size, omega arith)

pub loads_back : (v : StoredVersion) (r : Record) (before after : List ℕ) → Sized r
    → after ≡ output_after (store_answer v r (length before)) (stored v r) before → LoadsBack v r (store_answer v r (length before)) after
loads_back v r before after sized output n is =
    let w = store_written v r (length before) sized n is in
    ap (load_answer v) (written_front (stored v r) before after (store_answer v r (length before)) n is w.1 output) ∙ load_stored v r sized w.0
