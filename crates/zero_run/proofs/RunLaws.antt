-- Where a run of zeros lies: within the groups, between those before it and those behind it.
use Rattle.std.specs.Prelude.{◌≡◌, List, ◌++◌, ℕ, ◌+◌, ◌≤◌, ltb, length, take, drop, replicate, Some, None}
use Rattle.std.proofs.Common.{sym, ap, ◌∙◌, append_assoc, arith, ltb-true, ltb-false, take-append-drop, length-take, length-drop, drop-drop}
use Rattle.std.proofs.lemmas.List.{length-replicate}
use Rattle.zero_run.specs.declared.Run.{Run}
use Rattle.exact.specs.Pick.{pick_by}
use Rattle.zero_run.specs.ZeroRun.{some_run}
use Rattle.zero_run.specs.Longest.{Zeros}

module _ (groups : List ℕ) (run : Run) (zeros : Zeros groups run) where
  pub run_inside : 1 ≤ run.count → run.before + run.count ≤ length groups
  run_inside some =
      let size = ap length zeros ∙ length-replicate {A = ℕ} run.count 0 in
      let front = length-take run.count (drop run.before groups) in
      let back = length-drop run.before groups in
      omega arith

  pub run_between : groups ≡ take run.before groups ++ replicate run.count 0 ++ drop (run.before + run.count) groups
  run_between =
      let behind = drop run.before groups in
      sym (take-append-drop run.before groups)
      ∙ ap (λ (gs : List ℕ). take run.before groups ++ gs)
      (sym (take-append-drop run.count behind)
      ∙ ap (λ (gs : List ℕ). take run.count behind ++ gs) (drop-drop run.count run.before groups)
      ∙ ap (λ (gs : List ℕ). gs ++ drop (run.before + run.count) groups) zeros)
      ∙ sym (append_assoc (take run.before groups) (replicate run.count 0) (drop (run.before + run.count) groups))

-- ── a run that has a group ──
pub some_is : (longest run : Run) → some_run longest ≡ Some run → (longest ≡ run) × (1 ≤ longest.count)
some_is longest run =
    pick_by (λ r. r ≡ Some run → (longest ≡ run) × (1 ≤ longest.count)) (ltb 0 longest.count)
    (λ t e. let some = ltb-true 0 longest.count t in (cc, omega arith)) (λ t e. absurd cc)

pub none_is : (longest : Run) → some_run longest ≡ None → longest.count ≡ 0
none_is longest =
    pick_by (λ r. r ≡ None → longest.count ≡ 0) (ltb 0 longest.count)
    (λ t e. absurd cc) (λ t e. let none = ltb-false 0 longest.count t in omega arith)
