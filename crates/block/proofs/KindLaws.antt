-- The verdict from byte 12 on, by what bytes 12 and 13 say.
use Rattle.std.specs.Prelude.{◌≡◌, refl, Bool, true, false, List, [], ℕ, ◌≤◌, ◌<◌, ltb, length, get_or, drop, Option, Some, None, Result, Ok, Err}
use Rattle.std.proofs.Common.{sym, ap, ◌∙◌, arith, ltb-true, ltb-false, length-drop, get_or-drop, drop-drop, drop_of_length-le}
use Rattle.exact.specs.Claim.{Verdict, AllBytes}
use Rattle.exact.specs.Field.{shift, after}
use Rattle.exact.proofs.MachineLaws.{shift-shift}
use Rattle.exact.proofs.Parser.{bytes_drop}
use Rattle.record.specs.declared.Kind.{Kind}
use Rattle.record.specs.declared.Kind.TheVariants.{Local}
use Rattle.record.specs.Kinds.{family}
use Rattle.record.specs.Records.{bare}
use Rattle.header.specs.Header.{Header}
use Rattle.fields.specs.BlockFields.{Command, local, proxy, any_byte, command_of}
use Rattle.fields.proofs.BlockFields.{command_rest, family_rest, from_command, skipped}
use Rattle.answer.specs.declared.Stop.{Stop}
use Rattle.answer.specs.declared.Stop.TheVariants.{More}
use Rattle.answer.specs.Headers.{told_stop}
use Rattle.block_body.proofs.Takes.{next_full}
use Rattle.block_body.proofs.Leaves.{any_full, byte_full}
use Rattle.block.specs.KindAt.{known, under, kind_by, kind_at}

-- where the kind is known, the length and what it frames follow
abbrev pub onward : List ℕ → Result Kind Stop → Verdict Header
onward s (Ok k) = shift 14 ((family_rest k).verdict (drop 14 s))
onward s (Err e) = told_stop e

module _ (s : List ℕ) (b : AllBytes s) where
  abbrev rest : ℕ → List ℕ
  rest n = drop n s

  one : (n : ℕ) → n < length s → 1 ≤ length (rest n)
  one n h = let left = length-drop n s in omega arith

  -- ── from byte 13 on, under each command ──
  module _ (here : 13 < length s) where
    ahead : (k : Kind) → shift 14 ((family_rest k).verdict (rest 14)) ≡ shift 13 (shift 1 ((family_rest k).verdict (drop 1 (rest 13))))
    ahead k =
        sym (shift-shift 13 1 ((family_rest k).verdict (rest 14)))
        ∙ ap (λ (t : List ℕ). shift 13 (shift 1 ((family_rest k).verdict t))) (sym (drop-drop 1 13 s))

    by_local : onward s (Ok Local) ≡ shift 13 ((command_rest local).verdict (rest 13))
    by_local =
        ahead Local
        ∙ ap (shift 13)
        (sym (next_full any_byte.verdict (λ c t. (skipped (bare Local)).verdict t) 1 _ (any_full 7 3) (rest 13) (bytes_drop 13 s b) (one 13 here)))

    abbrev on_kind : Verdict Kind → Verdict Header
    on_kind v = shift 13 (after v (λ k t. (family_rest k).verdict t) (rest 13))

    by_family : (f : Option Kind) → family (get_or s 13 0) ≡ f → onward s (known f) ≡ shift 13 ((command_rest proxy).verdict (rest 13))
    by_family (Some k) e =
        ahead k
        ∙ sym (ap on_kind (byte_full family 7 3 (Some k) (rest 13) (bytes_drop 13 s b) (one 13 here) (ap family (get_or-drop 13 s 0 0) ∙ e)))
    by_family None e =
        sym (ap on_kind (byte_full family 7 3 None (rest 13) (bytes_drop 13 s b) (one 13 here) (ap family (get_or-drop 13 s 0 0) ∙ e)))

  -- no byte 13 is there
  none_yet : (c : Command) → told_stop (More 3) ≡ shift 13 ((command_rest c).verdict [])
  none_yet local = refl
  none_yet proxy = refl

  behind : (c : Command) (x : Bool) → ltb 13 (length s) ≡ x → onward s (under (Some c) x (family (get_or s 13 0))) ≡ shift 13 ((command_rest c).verdict (rest 13))
  behind c false e =
      none_yet c ∙ ap (λ (t : List ℕ). shift 13 ((command_rest c).verdict t)) (sym (drop_of_length-le s (ltb-false 13 (length s) e)))
  behind local true e = by_local (ltb-true 13 (length s) e)
  behind proxy true e = by_family (ltb-true 13 (length s) e) (family (get_or s 13 0)) refl

  -- ── from byte 12 on ──
  abbrev on_command : Verdict Command → Verdict Header
  on_command v = shift 12 (after v (λ c t. (command_rest c).verdict t) (rest 12))

  by_command : 12 < length s → (o : Option Command) → command_of (get_or s 12 0) ≡ o
      → onward s (under o (ltb 13 (length s)) (family (get_or s 13 0))) ≡ shift 12 (from_command.verdict (rest 12))
  by_command here (Some c) e =
      behind c (ltb 13 (length s)) refl
      ∙ sym (shift-shift 12 1 ((command_rest c).verdict (rest 13)))
      ∙ ap (λ (t : List ℕ). shift 12 (shift 1 ((command_rest c).verdict t))) (sym (drop-drop 1 12 s))
      ∙ sym (ap on_command (byte_full command_of 6 4 (Some c) (rest 12) (bytes_drop 12 s b) (one 12 here) (ap command_of (get_or-drop 12 s 0 0) ∙ e)))
  by_command here None e =
      sym (ap on_command (byte_full command_of 6 4 None (rest 12) (bytes_drop 12 s b) (one 12 here) (ap command_of (get_or-drop 12 s 0 0) ∙ e)))

  pub kind_said : onward s (kind_at s) ≡ shift 12 (from_command.verdict (rest 12))
  kind_said = by (ltb 12 (length s)) refl
    where
      by : (x : Bool) → ltb 12 (length s) ≡ x
          → onward s (kind_by x (under (command_of (get_or s 12 0)) (ltb 13 (length s)) (family (get_or s 13 0)))) ≡ shift 12 (from_command.verdict (rest 12))
      by true e = by_command (ltb-true 12 (length s) e) (command_of (get_or s 12 0)) refl
      by false e = ap (λ (t : List ℕ). shift 12 (from_command.verdict t)) (sym (drop_of_length-le s (ltb-false 12 (length s) e)))
