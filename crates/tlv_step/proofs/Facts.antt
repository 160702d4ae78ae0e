-- What a step shows, by its tests.
use Rattle.std.specs.Prelude.{◌≡◌, List, ℕ, ◌+◌, ◌≤◌, ◌<◌, ltb, leb, length, get_or, drop}
use Rattle.std.proofs.Common.{arith, leb-true, le-leb, lt-ltb, le-ltb}
use Rattle.std.proofs.lemmas.Bool.{lt-leb}
use Rattle.exact.specs.Pick.{pick, pick_by}
use Rattle.tlv.specs.Test.{well_formed}
use Rattle.tlv.specs.Heads.{size_at}
use Rattle.tlv_step.specs.Step.{Step, shown, end, refused, head_at, step_at, start_of, length_of}

module _ (s : List ℕ) (at : ℕ) where
  -- ── the TLV at the place ──
  pub head_beyond : length s < at → head_at s at ≡ refused 12
  head_beyond h = simp (le-ltb at (length s) (omega arith), lt-ltb (length s) at h)

  pub head_end : length s ≡ at → head_at s at ≡ end
  head_end h = simp (le-ltb at (length s) (omega arith), le-ltb (length s) at (omega arith))

  pub head_cut : at < length s → length s < at + 3 + size_at s at → head_at s at ≡ refused 12
  head_cut h g = simp (lt-ltb at (length s) h, lt-leb (at + 3 + size_at s at) (length s) g)

  pub head_shown : at + 3 + size_at s at ≤ length s → head_at s at ≡ shown (get_or s at 0) (at + 3) (size_at s at)
  head_shown g = let h : at < length s = omega arith in simp (lt-ltb at (length s) h, le-leb (at + 3 + size_at s at) (length s) g)

  -- where a TLV is due, it is shown or does not end in the area
  pub head_due : at < length s → head_at s at ≡ pick (leb (at + 3 + size_at s at) (length s)) (shown (get_or s at 0) (at + 3) (size_at s at)) (refused 12)
  head_due h = rw (lt-ltb at (length s) h)

  -- ── what is shown lies in the area ──
  abbrev Lies : Step → Type 0
  Lies r = start_of r + length_of r ≤ length s

  pub head_room : start_of (head_at s at) + length_of (head_at s at) ≤ length s
  head_room =
      pick_by Lies (ltb at (length s)) (λ g. pick_by Lies (leb (at + 3 + size_at s at) (length s)) (λ e. leb-true _ _ e) (λ e. omega arith))
      (λ g. pick_by Lies (ltb (length s) at) (λ e. omega arith) (λ e. omega arith))

  pub step_room : start_of (step_at s at) + length_of (step_at s at) ≤ length s
  step_room = pick_by Lies (well_formed (drop at s)) (λ f. head_room) (λ f. omega arith)
