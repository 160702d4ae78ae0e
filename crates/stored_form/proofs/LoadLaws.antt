-- The reader's answers, by the tests that it makes.
use Rattle.std.specs.Prelude.{◌≡◌, Bool, true, false, List, ℕ, ◌+◌, ◌≤◌, ◌<◌, length, drop, get_or, Some, None}
use Rattle.std.proofs.Common.{ap, ◌∙◌, lt-ltb, le-ltb, eq-eqb, ne_eqb}
use Rattle.exact.specs.Pick.{pick}
use Rattle.record.specs.declared.Kind.{Kind}
use Rattle.record.specs.declared.Checksum.{Checksum}
use Rattle.record.specs.Kinds.{block_length}
use Rattle.record.specs.Records.{with_checksum}
use Rattle.clean.specs.Unused.{clean_state}
use Rattle.address_block.specs.AddressBlock.{block_record}
use Rattle.kind_code.specs.Codes.{kind_of}
use Rattle.stored_form.specs.declared.StoredVersion.{StoredVersion}
use Rattle.stored_form.specs.Heads.{head_length, state_in}
use Rattle.stored_form.specs.Loading.{loads, no_record, has_mark, has_version, load_block, load_state, load_kind, load_answer}

module _ (v : StoredVersion) (s : List ℕ) where
  pub answer_short : length s < head_length v → load_answer v s ≡ no_record 18
  answer_short h = rw (lt-ltb (length s) (head_length v) h)

  module _ (long : head_length v ≤ length s) where
    pub answer_mark : has_mark s ≡ false → load_answer v s ≡ no_record 15
    answer_mark m = rw (le-ltb (length s) (head_length v) long, m)

    module _ (marked : has_mark s ≡ true) where
      pub answer_version : has_version v s ≡ false → load_answer v s ≡ no_record 16
      answer_version w = rw (le-ltb (length s) (head_length v) long, marked, w)

      module _ (versioned : has_version v s ≡ true) where
        behind : load_answer v s ≡ load_kind v (kind_of (get_or s 5 0)) s
        behind = rw (le-ltb (length s) (head_length v) long, marked, versioned)

        pub answer_code : kind_of (get_or s 5 0) ≡ None → load_answer v s ≡ no_record 17
        answer_code e = behind ∙ ap (λ o. load_kind v o s) e

        module _ (k : Kind) (code : kind_of (get_or s 5 0) ≡ Some k) where
          by_state : load_answer v s ≡ load_state v k (state_in v s) s
          by_state = behind ∙ ap (λ o. load_kind v o s) code

          pub answer_no_state : state_in v s ≡ None → load_answer v s ≡ no_record 24
          answer_no_state e = by_state ∙ ap (λ o. load_state v k o s) e

          pub answer_state : (c : Checksum) → state_in v s ≡ Some c → (b : Bool) → clean_state k c ≡ b → load_answer v s ≡ pick b (load_block v k c s) (no_record 24)
          answer_state c said b fits =
              by_state ∙ ap (λ o. load_state v k o s) said ∙ ap (λ (x : Bool). pick x (load_block v k c s) (no_record 24)) fits

module _ (v : StoredVersion) (k : Kind) (c : Checksum) (s : List ℕ) where
  pub block_length_lem : (length s ≡ head_length v + block_length k → ⊥) → load_block v k c s ≡ no_record 18
  block_length_lem n = rw (ne_eqb (length s) (head_length v + block_length k) n)

  pub block_whole : length s ≡ head_length v + block_length k → load_block v k c s ≡ loads (with_checksum c (block_record k (drop (head_length v) s)))
  block_whole e = rw (eq-eqb (length s) (head_length v + block_length k) e)
