-- The part between the span's ends is the area.
use Rattle.std.proofs.Common.{refl, ap₂, ◌∙◌, ℕ, ◌-◌, arith, length, take, drop}
use Rattle.area.proofs.AreaLaws.{span_inside, span_part}
use Rattle.area.proofs.header_area.Goals as goal

pub slice_bounds-result-end : goal.slice_bounds-result-end
slice_bounds-result-end c =
    let h = c.args.header.now in
    let inside = span_inside h.length h.version h.«record».kind (length c.args.s.now) in
    let ends = c.span_of-span.ensures in
    omega arith

pub returns : goal.returns
returns c =
    let h = c.args.header.now in (
      refl,
      omega arith,
      ap₂ (λ (x y : ℕ). take (y - x) (drop x c.args.s.now)) c.span_of-span.ensures.start c.span_of-span.ensures.end
          ∙ span_part h.length h.version h.«record».kind c.args.s.now,
    )
