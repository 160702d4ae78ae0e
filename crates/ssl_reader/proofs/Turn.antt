-- A turn of the reader's loop: what is known of the value and of the pieces noted where some sub-TLVs are passed.
use Rattle.std.specs.Prelude.{◌≡◌, refl, Bool, true, false, List, [], ◌∷◌, ℕ, ◌+◌, ◌≤◌, ◌<◌, leb, length, get_or, drop, replicate, Option, Some, None, is_some, not}
use Rattle.std.proofs.Common.{◌-◌, sym, ap, ◌∙◌, subst, inl, inr, arith, leb-true, le-leb, drop_of_length-le}
use Rattle.std.proofs.lemmas.Bool.{cases_lt}
use Rattle.exact.specs.Claim.{AllBytes}
use Rattle.exact.specs.Pick.{pick}
use Rattle.exact.proofs.Pick.{second_fails}
use Rattle.tlv.specs.Tlv.{tlv_bytes, Area, WellFormed}
use Rattle.tlv.specs.Test.{well_formed}
use Rattle.tlv.specs.Heads.{size_at, tlv_at}
use Rattle.tlv.proofs.Laws.{area_append}
use Rattle.tlv.proofs.Heads.{size_room, tlv_area, tlv_split}
use Rattle.tlv.proofs.Test.{well_formed_tested, ill_formed_tested}
use Rattle.tlv_step.specs.Step.{shown, end, refused, head_at}
use Rattle.tlv_step.specs.Left.{left_from}
use Rattle.tlv_step.specs.declared.Tlv.{Tlv}
use Rattle.tlv_step.proofs.Facts.{head_due, head_end, head_shown}
use Rattle.tlv_step.proofs.Left.{left_end, left_first}
use Rattle.ssl_reader.specs.Ssl.{Part, Said, part_of, parts_of, subs_of, accepted, is_absent, lacks_version, nothing, client_of, verify_of, said_by, said_in}
use Rattle.ssl_reader.specs.Noted.{found_part, found_parts, noted}
use Rattle.ssl_reader.proofs.Noted.{noted_within, pieces_within}
use Rattle.ssl_reader.proofs.NoteLaws.{none_yet, found_at}

absent_by : (v : Option Part) (b : Bool) → is_some v ≡ not b → is_absent v ≡ b
absent_by None true h = refl
absent_by None false h = let z : ◌≡◌ {A = ℕ} 0 1 = cc in absurd (omega arith)
absent_by (Some p) true h = let z : ◌≡◌ {A = ℕ} 0 1 = cc in absurd (omega arith)
absent_by (Some p) false h = refl

-- where the walk stands: what remains is well-formed if all is, and then its pieces, noted behind those that are, are the value's
pub record Passing (value : List ℕ) (pieces : List Part) (at : ℕ) : Type 0 where
  pub long : 5 ≤ length value
  pub inside : at ≤ length value
  pub whole : well_formed (drop at value) ≡ well_formed (drop 5 value)
  pub noted : well_formed (drop at value) ≡ true → noted_within (left_from value at) (found_parts pieces) ≡ parts_of (subs_of value)

module _ (value : List ℕ) where
  pub passing_none : 5 ≤ length value → Passing value (replicate 5 (record { start = 0; size = 0 })) 5
  passing_none h = record { long = h; inside = h; whole = refl; noted = λ w. pieces_within value }

  module _ (at : ℕ) where
    -- where a TLV is shown it ends in the value
    pub record Here (type start size : ℕ) : Type 0 where
      pub room : at + 3 + size_at value at ≤ length value
      pub is_start : start ≡ at + 3
      pub is_size : size ≡ size_at value at

    here : at ≤ length value → (type start size : ℕ) → shown type start size ≡ head_at value at → Here type start size
    here inside type start size told =
        elim (cases_lt at (length value)) [
          | inl h ↦ by (leb (at + 3 + size_at value at) (length value)) refl (told ∙ head_due value at h)
          | inr h ↦ let e = head_end value at (omega arith) in let z : ◌≡◌ {A = ℕ} 0 1 = cc in absurd (omega arith)
        ]
      where
        by : (b : Bool) → leb (at + 3 + size_at value at) (length value) ≡ b
            → shown type start size ≡ pick b (shown (get_or value at 0) (at + 3) (size_at value at)) (refused 12) → Here type start size
        by true e f = record { room = leb-true _ _ e; is_start = cc; is_size = cc }
        by false e f = let z : ◌≡◌ {A = ℕ} 0 1 = cc in absurd (omega arith)

    -- with well-formed bytes behind it, what remains is well-formed
    joined : AllBytes value → at + 3 + size_at value at ≤ length value → WellFormed (drop (at + 3 + size_at value at) value) → WellFormed (drop at value)
    joined bytes room w = (
      tlv_at value at ∷ w.0,
      subst (λ (s : List ℕ). Area s (tlv_at value at ∷ w.0)) (sym (tlv_split value at bytes room))
          (area_append (tlv_bytes (tlv_at value at).type (tlv_at value at).value) (drop (at + 3 + size_at value at) value) (tlv_at value at ∷ []) w.0 (tlv_area value at bytes room) w.1),
    )

    -- where none is, what remains is not
    not_refused : at ≤ length value → head_at value at ≡ refused 12 → WellFormed (drop at value) → ⊥
    not_refused inside told w =
        elim (cases_lt at (length value)) [
          | inl h ↦ let e = head_shown value at (size_room value at w.0 h w.1) in let z : ◌≡◌ {A = ℕ} 0 1 = cc in omega arith
          | inr h ↦ let e = head_end value at (omega arith) in let z : ◌≡◌ {A = ℕ} 0 1 = cc in omega arith
        ]

    ended : at ≤ length value → end ≡ head_at value at → well_formed (drop at value) ≡ true
    ended inside told =
        elim (cases_lt at (length value)) [
          | inl h ↦ not_due h (leb (at + 3 + size_at value at) (length value)) (told ∙ head_due value at h)
          | inr h ↦ rw (drop_of_length-le value {i = at} (omega arith)) ((well_formed_tested []).1 ([], (refl, tt)))
        ]
      where
        not_due : at < length value → (b : Bool) → end ≡ pick b (shown (get_or value at 0) (at + 3) (size_at value at)) (refused 12)
            → well_formed (drop at value) ≡ true
        not_due h true e = let z : ◌≡◌ {A = ℕ} 0 1 = cc in absurd (omega arith)
        not_due h false e = let z : ◌≡◌ {A = ℕ} 0 1 = cc in absurd (omega arith)

    module _ (pieces : List Part) (p : Passing value pieces at) where
      -- a sub-TLV is passed
      pub passing_next : AllBytes value → (t : Tlv) → shown t.tlv_type t.value.start t.value.size ≡ head_at value at → (after : List Part)
          → found_parts after ≡ noted t.tlv_type t.value 0x21 (found_parts pieces) → Passing value after (t.value.start + t.value.size)
      passing_next bytes t told after e = by (well_formed (drop at value)) refl
        where
          h : Here t.tlv_type t.value.start t.value.size
          h = here p.inside t.tlv_type t.value.start t.value.size told

          next : at + 3 + size_at value at ≡ t.value.start + t.value.size
          next = omega (arith, h.is_start, h.is_size)

          by : (b : Bool) → well_formed (drop at value) ≡ b → Passing value after (t.value.start + t.value.size)
          by true w =
              let l = left_first value at w t told in
              record {
                long = p.long;
                inside = omega (arith, h.room, next);
                whole = l.0 ∙ sym w ∙ p.whole;
                noted = λ u. ap (noted_within (left_from value (t.value.start + t.value.size))) e ∙ sym (ap (λ (l : List Tlv). noted_within l (found_parts pieces)) l.1) ∙ p.noted w;
              }
          by false w =
              let ill : well_formed (drop (t.value.start + t.value.size) value) ≡ false =
              ill_formed_tested (drop (t.value.start + t.value.size) value)
              (λ u. ill_by (joined bytes h.room (subst (λ (n : ℕ). WellFormed (drop n value)) (sym next) u))) in
              record {
                long = p.long;
                inside = omega (arith, h.room, next);
                whole = ill ∙ sym w ∙ p.whole;
                noted = λ u. let z : ◌≡◌ {A = ℕ} 0 1 = cc in absurd (omega arith);
              }
            where
              ill_by : WellFormed (drop at value) → ⊥
              ill_by u = let f = (well_formed_tested (drop at value)).1 u in let z : ◌≡◌ {A = ℕ} 0 1 = cc in omega arith

      pub smaller : (t : Tlv) → shown t.tlv_type t.value.start t.value.size ≡ head_at value at → length value - (t.value.start + t.value.size) < length value - at
      smaller t told = let h = here p.inside t.tlv_type t.value.start t.value.size told in omega (arith, h.room, h.is_start, h.is_size)

      -- one that does not end in the value
      pub ill : refused 12 ≡ head_at value at → said_in value ≡ nothing 19
      ill told =
          let f : well_formed (drop 5 value) ≡ false = sym p.whole ∙ ill_formed_tested (drop at value) (not_refused p.inside (sym told)) in
          rw f (second_fails (leb 5 (length value)) _ _)

      -- all are passed
      module _ (told : end ≡ head_at value at) where
        said : said_in value ≡ said_by (client_of value) (verify_of value) (subs_of value)
        said = rw (le-leb 5 (length value) p.long, sym p.whole ∙ ended p.inside told)

        parts : found_parts pieces ≡ parts_of (subs_of value)
        parts =
            let w = ended p.inside told in
            sym (ap (λ (l : List Tlv). noted_within l (found_parts pieces)) (left_end value at w told)) ∙ p.noted w

        piece : (i : ℕ) → found_part (get_or pieces i none_yet) ≡ get_or (parts_of (subs_of value)) i None
        piece i = sym (found_at i pieces) ∙ ap (λ (l : List (Option Part)). get_or l i None) parts

        abbrev says : List (Option Part) → Said
        says parts = record { outcome = accepted; client = client_of value; verify = verify_of value; parts = parts }

        -- by the version's part
        module _ (v : Option Part) (is-v : v ≡ found_part (get_or pieces 0 none_yet)) where
          first : v ≡ part_of 0x21 (subs_of value)
          first = is-v ∙ piece 0

          by_version : (lacks : Bool) → lacks_version (client_of value) (is_absent v) ≡ lacks → said_in value ≡ pick lacks (nothing 20) (says (parts_of (subs_of value)))
          by_version lacks e =
              said
              ∙ ap (λ (b : Bool). pick b (nothing 20) (says (parts_of (subs_of value))))
              (ap (λ (o : Option Part). lacks_version (client_of value) (is_absent o)) (sym first) ∙ e)

          lacks_by : (b lacks : Bool) → is_some v ≡ not b → lacks_version (client_of value) b ≡ lacks → lacks_version (client_of value) (is_absent v) ≡ lacks
          lacks_by b lacks h e = ap (lacks_version (client_of value)) (absent_by v b h) ∙ e

          pub no_version : (b : Bool) → is_some v ≡ not b → lacks_version (client_of value) b ≡ true → said_in value ≡ nothing 20
          no_version b h e = by_version true (lacks_by b true h e)

          pub accepts : (b : Bool) → is_some v ≡ not b → lacks_version (client_of value) b ≡ false → (n c s k : Option Part)
              → n ≡ found_part (get_or pieces 1 none_yet) → c ≡ found_part (get_or pieces 2 none_yet)
              → s ≡ found_part (get_or pieces 3 none_yet) → k ≡ found_part (get_or pieces 4 none_yet)
              → said_in value ≡ says (v ∷ n ∷ c ∷ s ∷ k ∷ [])
          accepts b h e n c s k is-n is_c is-s is-k =
              by_version false (lacks_by b false h e)
              ∙ (λ i. says (sym first i ∷ sym (is-n ∙ piece 1) i ∷ sym (is_c ∙ piece 2) i ∷ sym (is-s ∙ piece 3) i ∷ sym (is-k ∙ piece 4) i ∷ []))
