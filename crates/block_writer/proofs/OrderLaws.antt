-- A property of the answer in its order, from what each case knows.
use Rattle.std.specs.Prelude.{◌≡◌, Bool, true, false, List, ℕ, ◌≤◌, ◌<◌, leb, ltb, length}
use Rattle.std.proofs.Common.{leb-true, leb-false, ltb-true, ltb-false}
use Rattle.exact.specs.Pick.{pick_by}
use Rattle.answer.specs.Answers.{WriteAnswer, wrote, refuses}
use Rattle.answer.proofs.OutputLaws.{Within}
use Rattle.record.specs.declared.Record.{Record}
use Rattle.clean.specs.Unused.{plain_test}
use Rattle.block_writer.specs.Areas.{area_test}
use Rattle.block_writer.specs.Written.{block_of, written_block, in_order, block_answer}

pub in_order_lem : (P : WriteAnswer → Type 0) (good fits : Bool) (block header room : ℕ)
    → (good ≡ false → P (refuses 11))
    → (good ≡ true → fits ≡ false → P (refuses 12))
    → (good ≡ true → fits ≡ true → 65536 ≤ block → P (refuses 13))
    → (good ≡ true → fits ≡ true → block < 65536 → room < header → P (refuses 14))
    → (good ≡ true → fits ≡ true → block < 65536 → header ≤ room → P (wrote header))
    → P (in_order good fits block header room)
in_order_lem P good fits block header room eleven twelve thirteen fourteen written =
    pick_by P good
    (λ is.
    pick_by P fits
    (λ does.
    pick_by P (ltb block 65536)
    (λ small.
    pick_by P (leb header room) (λ t. written is does (ltb-true _ _ small) (leb-true _ _ t))
    (λ t. fourteen is does (ltb-true _ _ small) (leb-false _ _ t)))
    (λ large. thirteen is does (ltb-false _ _ large)))
    (twelve is))
    eleven

-- what is written fits the room
pub in_order_within : (good fits : Bool) (block header room : ℕ) → Within room (in_order good fits block header room)
in_order_within good fits block header room =
    in_order_lem (Within room) good fits block header room (λ t. tt) (λ t f. tt) (λ t f n. tt) (λ t f n h. tt) (λ t f n h. h)

pub block_within : (r : Record) (area : List ℕ) (room : ℕ) → Within room (block_answer r area room)
block_within r area = in_order_within (plain_test r) (area_test r.kind area) (length (block_of r area)) (length (written_block r area))
