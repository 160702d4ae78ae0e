-- Lemmas on what specs/OutputLaws.antt defines.
use Rattle.std.specs.Prelude.{◌≡◌, List, ◌++◌, ℕ, ◌≤◌, leb, length, take, drop, Result, Ok, Err}
use Rattle.std.proofs.Common.{sym, ap, ◌∙◌, subst, arith, leb-true, take_at}
use Rattle.exact.specs.Pick.{pick, pick_by}
use Rattle.answer.specs.declared.Fault.{Fault}
use Rattle.answer.specs.Answers.{WriteAnswer, wrote, refuses, told_written, output_after}
use Rattle.answer.specs.OutputLaws.{Promised}

pub not_wrote : (k n : ℕ) {A : Type 0} → refuses k ≡ wrote n → A
not_wrote k n e = let z : ◌≡◌ {A = ℕ} 0 1 = cc in absurd (omega arith)

-- what was written stands at the front of the output
pub written_front : (text before after : List ℕ) (answer : WriteAnswer) (n : ℕ) → answer ≡ wrote n → length text ≡ n
    → after ≡ output_after answer text before → take n after ≡ text
written_front text before after answer n is size output =
    ap (take n) (output ∙ ap (λ (a : WriteAnswer). output_after a text before) is) ∙ take_at text (drop n before) n size

-- ── what is written fits the room ──
abbrev pub Within : (room : ℕ) → WriteAnswer → Type 0
Within room (wrote n) = n ≤ room
Within room (refuses k) = Unit {0}

-- of a writer that answers by the room at last
pub fits_at_last : (n room k : ℕ) → Within room (pick (leb n room) (wrote n) (refuses k))
fits_at_last n room k = pick_by (Within room) (leb n room) (λ t. leb-true n room t) (λ t. tt)

-- ── a writer's promise ──
module _ (answer : WriteAnswer) (text before : List ℕ) (Means : WriteAnswer → Type 0) (Back : WriteAnswer → List ℕ → Type 0) (means : Means answer)
    (back : (after : List ℕ) → after ≡ output_after answer text before → Back answer after)
  where
    pub promised : (w : Result ℕ Fault) → told_written w ≡ answer → (after : List ℕ) → after ≡ output_after answer text before
        → Promised answer text before Means Back w after
    promised w e after o = (e, o, subst Means (sym e) means, subst (λ (a : WriteAnswer). Back a after) (sym e) (back after o))

    -- a refusal leaves the output as it was
    pub refused : (fault : Fault) → told_written (Err fault) ≡ answer → Promised answer text before Means Back (Err fault) before
    refused fault e = promised (Err fault) e before (ap (λ (a : WriteAnswer). output_after a text before) e)

    -- else the text stands at its front, and the answer is its length
    pub written : (n : ℕ) → told_written (Ok n) ≡ answer → (after : List ℕ) → after ≡ text ++ drop n before
        → Promised answer text before Means Back (Ok n) after
    written n e after put = promised (Ok n) e after (put ∙ ap (λ (a : WriteAnswer). output_after a text before) e)
