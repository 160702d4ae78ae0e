-- What `read` has told is the answer, or gives the parts of the header that the profile is about.
use mathlib.Core.Path.{◌≡◌, refl, sym, ap, ap₂, ◌∙◌, subst}
use mathlib.Core.Bool.{true}
use mathlib.Core.List.{List, [], ◌∷◌, ◌++◌, append_assoc}
use mathlib.Core.Logic.{inl, inr}
use Prim.Native.Nat.{ℕ, ◌-◌, ◌≤◌, ◌<◌}
use native.Mathlib.Omega.{arith}
use borrow.Author.Tests.{le-leb}
use lib.Dec.{leb}
use lib.ListN.{length, take, drop, get_or, replicate}
use lib.Seq.{length-take-le, take_at}
use Rattle.exact.specs.Claim as Claim
use Rattle.exact.specs.Claim.{accepted, more, refused}
use Rattle.exact.specs.Network.{network}
use Rattle.record.specs.declared.Kind.{Kind}
use Rattle.kind_code.specs.States.{state_byte}
use Rattle.kind_code.proofs.CodeLaws.{code_kind}
use Rattle.header.specs.Header.{Header, Whole}
use Rattle.fields.proofs.HeaderVerdict.{verdict}
use Rattle.fields.proofs.Facts.{record_plain}
use Rattle.lent.specs.Buffers.{over, told_in}
use Rattle.lent.proofs.BufferLaws.{roomy, over-over, over_all}
use Rattle.numbers.specs.declared.Told.{Told}
use Rattle.numbers.specs.Numbers.{four_of}
use Rattle.connection.specs.Connection.{connection_bytes}
use Rattle.read_interface.specs.ReadInterface.{spoken, ReadTold}
use Rattle.read_interface.proofs.AcceptedTold.{AcceptedTold, whole, area_told, sized, long_numbers}
use Rattle.prefix_table.specs.Table.{rows_of, Good}
use Rattle.profile.specs.Profile.{Admission, origin_of, by_version, source_level}
use Rattle.admission.specs.Admits.{admission_by, admission}
use Rattle.admission.proofs.Demand.{by_good}
use Rattle.admission_interface.specs.AdmissionInterface.{told_admission, AdmissionTold}
use Rattle.admission_interface.specs.KindFrom.{known_kind, kind_from}

-- the connection before it is told
abbrev pub empty : List ℕ
empty = replicate 222 0

version_small : (f : List ℕ) (h : Header) → Whole f h → h.version < 256
version_small f h (inl w) = let e = w.1 in omega arith
version_small f h (inr w) = let e = w.1 in omega arith

module _ (table s numbers : List ℕ) (good : Good table) (room : 4 ≤ length numbers) where
  -- another answer than accepted is the answer
  pub passed_on : (answer : ℕ) (n c : List ℕ) → (answer ≡ 0 → ⊥) → ReadTold (spoken (verdict s)) numbers empty answer n c
      → AdmissionTold (admission table s) numbers answer n
  passed_on answer n c other told =
      subst (λ (a : Admission). AdmissionTold a numbers answer n) (sym (by_good table s good)) (by (verdict s) told)
    where
      roomed : leb 4 (length numbers) ≡ true
      roomed = le-leb 4 (length numbers) room

      by : (v : Claim.Verdict Header) → ReadTold (spoken v) numbers empty answer n c → AdmissionTold (admission_by (rows_of table) v) numbers answer n
      by (accepted h m) t = absurd (other (rw roomed at t.0))
      by (more m) t = record { answers = rw roomed at t.0 ∙ roomy 4 numbers _ _ room; left = rw roomed at t.1 ∙ roomy 4 numbers _ _ room }
      by (refused k p) t = record { answers = rw roomed at t.0 ∙ roomy 4 numbers _ _ room; left = rw roomed at t.1 ∙ roomy 4 numbers _ _ room }

  -- of an accepted header
  module _ (n c : List ℕ) (a : AcceptedTold s numbers empty n c) where
    abbrev h : Header
    h = a.header

    abbrev m : ℕ
    m = a.size

    here : Whole (take m s) h
    here = (whole s numbers empty n c a).1

    connected : c ≡ connection_bytes h.«record»
    connected =
        a.connection_told
        ∙ over_all (connection_bytes h.«record») empty (let e = sized s numbers empty n c a in omega arith)

    pub small_version : get_or n 1 0 < 256
    small_version = let e = ap (λ (l : List ℕ). get_or l 1 0) a.numbers_told in let g = version_small (take m s) h here in omega arith

    kind_is : kind_from (get_or c 0 0) ≡ h.«record».kind
    kind_is = ap (λ (l : List ℕ). kind_from (get_or l 0 0)) connected ∙ ap known_kind (code_kind h.«record».kind)

    source_is : take 108 (drop 1 c) ≡ h.«record».source
    source_is =
        let r = h.«record» in
        let rest = r.destination ++ network r.source_port ++ network r.destination_port ++ (state_byte r.checksum ∷ []) in
        let split : drop 1 (connection_bytes r) ≡ r.source ++ rest = simp append_assoc in
        ap (λ (l : List ℕ). take 108 (drop 1 l)) connected
        ∙ ap (take 108) split
        ∙ take_at r.source rest 108 (record_plain (take m s) h here).1

    -- by the parts that were told
    pub by_parts : (header : List ℕ) → header ≡ take (get_or n 0 0) s
        → by_version (get_or n 1 0) (origin_of (kind_from (get_or c 0 0))) (drop (get_or n 2 0) header) (length header) (source_level (rows_of table) (origin_of (kind_from (get_or c 0 0))) (take 108 (drop 1 c)))
        ≡ admission table s
    by_parts header is =
        let first : get_or n 0 0 ≡ m = ap (λ (l : List ℕ). get_or l 0 0) a.numbers_told in
        let second : get_or n 1 0 ≡ h.version = ap (λ (l : List ℕ). get_or l 1 0) a.numbers_told in
        let third : get_or n 2 0 ≡ m - length h.area = ap (λ (l : List ℕ). get_or l 2 0) a.numbers_told in
        let size : length (take m s) ≡ m = length-take-le m s (whole s numbers empty n c a).0 in
        let level : Kind → List ℕ → ℕ = λ (x : Kind). source_level (rows_of table) (origin_of x) in
        let k : Kind = h.«record».kind in
        let source : List ℕ = h.«record».source in
        ap₂ (λ (v : ℕ) (f : List ℕ). by_version v (origin_of (kind_from (get_or c 0 0))) (drop (get_or n 2 0) f) (length f) (level (kind_from (get_or c 0 0)) (take 108 (drop 1 c)))) second
        (is ∙ ap (λ (i : ℕ). take i s) first)
        ∙ ap₂ (λ (x : Kind) (y : List ℕ). by_version h.version (origin_of x) (drop (get_or n 2 0) (take m s)) (length (take m s)) (level x y)) kind_is source_is
        ∙ ap₂ (λ (x : List ℕ) (i : ℕ). by_version h.version (origin_of k) x i (level k source)) (ap (λ (i : ℕ). drop i (take m s)) third ∙ area_told s numbers empty n c a) size
        ∙ ap (admission_by (rows_of table)) (sym a.is)
        ∙ sym (by_good table s good)

    -- told over what was
    pub told_over : (t : Told) (n' : List ℕ) → t ≡ told_admission (admission table s) → n' ≡ told_in 4 (four_of t) n → AdmissionTold (admission table s) numbers t.answer n'
    told_over t n' e put =
        record {
          answers = ap (λ (x : Told). x.answer) e ∙ roomy 4 numbers _ _ room;
          left = put
              ∙ sym (roomy 4 n _ _ (long_numbers s numbers empty n c a))
              ∙ ap (over (four_of t)) a.numbers_told
              ∙ over-over (four_of t) (spoken (accepted h m)).numbers numbers refl
              ∙ ap (λ (x : Told). over (four_of x) numbers) e
              ∙ roomy 4 numbers _ _ room;
        }
