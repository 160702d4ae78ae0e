-- Lemmas on what specs/Reads.antt defines.
use Rattle.std.specs.Prelude.{◌≡◌, refl, Bool, true, false, List, [], ◌∷◌, ◌++◌, ℕ, zero, suc, ◌+◌, ◌≤◌, ◌<◌, ltb, length, take, drop, get_or}
use Rattle.std.proofs.Common.{sym, ap, ◌∙◌, subst, append_assoc, append-nil, inl, inr, arith, length-append, length-take, take-append-drop, length-take-le, take_all, take-take, ltb-true, ltb-false}
use Rattle.std.proofs.Math.ListN.{get_or-append}
use Rattle.std.proofs.Math.Seq.{take-length}
use Rattle.exact.specs.Ascii.{ascii}
use Rattle.exact.specs.Claim.{Verdict, accepted, more, refused, AllBytes, Heads}
use Rattle.exact.specs.Network.{number_at}
use Rattle.exact.proofs.Parser.{bytes_back}
use Rattle.exact.specs.Pick.{pick}
use Rattle.exact.proofs.Verdicts.{few_count}
use Rattle.tlv.proofs.RegionLeaf.{no_bytes}
use Rattle.record.specs.declared.Record.{Record}
use Rattle.header.specs.Block.{signature, LOCAL, Block}
use Rattle.header.specs.Header.{Header, Whole}
use Rattle.header.specs.Demand.{Judges}
use Rattle.fields.proofs.BlockFields.{block}
use Rattle.fields.proofs.Counts.{block_low}
use Rattle.fields.specs.Exactness.{line_field, is_p}
use Rattle.fields.proofs.HeaderVerdict.{verdict}
use Rattle.fields.proofs.Exactness.{judges, judges_only, judges_within, whole_bytes, one_header, bytes_enough}
use Rattle.fields.proofs.FactsForProofs.{block_bounds, line_first, block_first}
use Rattle.fields.proofs.Facts.{longest_line, header_length}
use Rattle.fields.specs.Reads.{Careful, read_bytes}

-- ── the count ──
-- at least 1: with none the bytes would be a whole header
pub more_some : (n : ℕ) (s : List ℕ) → Judges (more n) s → 1 ≤ n
more_some zero s x =
    let f = x.1.0 in
    let none : f.0 ≡ [] = no_bytes f.0 f.2 in
    absurd (x.0 (length s) f.3 (omega arith, rw (take-length s) (subst (λ (t : List ℕ). Whole t f.3) (ap (λ (t : List ℕ). s ++ t) none ∙ append-nil s) f.4)))
more_some (suc n) s x = omega arith

-- and at most 65,535
pub more_most : (n : ℕ) (s : List ℕ) → Judges (more n) s → n ≤ 65535
more_most n s x = by x.1.0.4
  where
    f : (t : List ℕ) × AllBytes t × (length t ≡ n) × (h : Header) × Whole (s ++ t) h
    f = x.1.0

    sum : length (s ++ f.0) ≡ length s + n
    sum = length-append s f.0 ∙ ap (λ (m : ℕ). length s + m) f.2

    -- the length of a block is not whole
    head : (u : List ℕ) → length u < 16 → more n ≡ verdict u → (r : Record) (area t : List ℕ) → Block (u ++ t) r area → n ≤ 65535
    head [] h e r area t b = few_count 65535 e (omega arith)
    head (c ∷ u) h e r area t b =
        few_count 65535 (e ∙ ap (λ (x : Bool). pick x (line_field.verdict (c ∷ u)) (block.verdict (c ∷ u))) (ap is_p (block_first _ r area b)))
        (block_low (c ∷ u) h)

    by : Whole (s ++ f.0) f.3 → n ≤ 65535
    by (inl l) = let h = longest_line (s ++ f.0) f.3.«record» l.0 in omega (arith, sum)
    by (inr b) = told (ltb (length s) 16) refl
      where
        told : (few : Bool) → ltb (length s) 16 ≡ few → n ≤ 65535
        told true e = head s (ltb-true _ _ e) (judges_only (more n) s x) f.3.«record» f.3.area f.0 b.0
        told false e =
            let long = ltb-false (length s) 16 e in
            omega (arith, sum, (header_length (s ++ f.0) f.3 (inr b)).1)

-- both are reached: by a line whose LF is missing, and by LOCAL with the greatest length
pub least_asked : Judges (more 1) (ascii "PROXY UNKNOWN\r")
least_asked = judges (ascii "PROXY UNKNOWN\r")

pub most_asked : Judges (more 65535) (signature ++ LOCAL ∷ 0 ∷ 255 ∷ 255 ∷ [])
most_asked = judges (signature ++ LOCAL ∷ 0 ∷ 255 ∷ 255 ∷ [])

-- ── further bytes ──
-- after n further bytes of the right kind the header is accepted, with the bytes so far and these as its length
pub more_finishes : (n : ℕ) (s : List ℕ) → Judges (more n) s
    → (t : List ℕ) × AllBytes t × (length t ≡ n) × (h : Header) × Judges (accepted h (length s + n)) (s ++ t)
more_finishes n s x =
    let f = x.1.0 in
    let sum : length (s ++ f.0) ≡ length s + n = length-append s f.0 ∙ ap (λ (m : ℕ). length s + m) f.2 in
    (f.0, f.1, f.2, f.3, (omega arith, rw (take_all (length s + n) (s ++ f.0) (omega arith)) f.4))

-- so the longest header is room enough for the bytes so far and those that are asked
pub more_room : (n : ℕ) (s : List ℕ) → Judges (more n) s → length s + n ≤ 65551
more_room n s x =
    let f = x.1.0 in
    let sum = length-append s f.0 in
    let size = f.2 in
    let most = (header_length (s ++ f.0) f.3 f.4).1 in
    omega arith

-- and once the sixteen first bytes of a version 2 header are there, all that is missing is asked
pub block_rest : (n : ℕ) (s : List ℕ) → Judges (more n) s → get_or s 0 0 ≡ 13 → 16 ≤ length s → length s + n ≡ 16 + number_at s 14
block_rest n s x first long = by x.1.0.4
  where
    t : List ℕ
    t = x.1.0.0

    h : Header
    h = x.1.0.3

    by : Whole (s ++ t) h → length s + n ≡ 16 + number_at s 14
    by (inl l) =
        let other = line_first (s ++ t) h.«record» l.0 in
        let same = get_or-append s t 0 0 (omega arith) in
        absurd (omega arith)
    by (inr b) =
        let framed = (block_bounds (s ++ t) h.«record» h.area b.0).0 in
        let high = get_or-append s t 0 14 (omega arith) in
        let low = get_or-append s t 0 15 (omega arith) in
        let sum = length-append s t in
        let size = x.1.0.2 in
        omega arith

-- one further byte leaves n - 1 or more
pub one_byte_less : (n m c : ℕ) (s : List ℕ) → Judges (more n) s → Judges (more m) (s ++ c ∷ []) → n ≤ 1 + m
one_byte_less n m c s x y =
    let f = y.1.0 in
    let whole : Whole (s ++ c ∷ f.0) f.3 = subst (λ (g : List ℕ). Whole g f.3) (append_assoc s (c ∷ []) f.0) f.4 in
    let no-fewer : 1 + m < n → ⊥ = λ few. x.1.1 (1 + m) few (c ∷ f.0, bytes_back s (c ∷ f.0) (whole_bytes _ _ whole), (let size = f.2 in omega arith), f.3, whole) in
    omega arith

-- and a byte that ends the header was the only one that was missing
pub last_byte : (n j c : ℕ) (a : Header) (s : List ℕ) → Judges (more n) s → Judges (accepted a j) (s ++ c ∷ []) → n ≡ 1
last_byte n j c a s x y =
    let some = more_some n s x in
    let end = judges_within s (c ∷ []) n j a x y in
    let inside = y.0 in
    let sum = length-append s (c ∷ []) in
    omega arith

-- ── a caller who reads from a stream ──
module _ (u : List ℕ) (h : ℕ) (a : Header) (begins : Heads Whole h a u) where
  -- what was said of the first k bytes leads to no byte behind the header
  one_read : (k n : ℕ) → Judges (more n) (take k u) → k ≤ length u → k + n ≤ h
  one_read k n x inside =
      let size = length-take-le k u inside in
      let end = judges_within (take k u) (drop k u) n h a x (subst (Heads Whole h a) (sym (take-append-drop k u)) begins) in
      omega arith

  -- Before the header's end the answer is "more", so who reads on comes to its end.
  pub reads_on : (k : ℕ) → k < h → (n : ℕ) × Judges (more n) (take k u) × (k + n ≤ h)
  reads_on k before = by (verdict (take k u)) (judges (take k u))
    where
      within : h ≤ length u
      within = begins.0

      size : length (take k u) ≡ k
      size = length-take-le k u (omega arith)

      by : (v : Verdict Header) → Judges v (take k u) → (n : ℕ) × Judges (more n) (take k u) × (k + n ≤ h)
      by (accepted b j) x =
          let inside = x.0 in
          let front : take j u ++ drop j u ≡ take h u ++ drop h u = take-append-drop j u ∙ sym (take-append-drop h u) in
          let one = one_header (take j u) (take h u) (drop j u) (drop h u) b a front (subst (λ (f : List ℕ). Whole f b) (take-take j k u (omega (arith, size))) x.1) begins.1 in
          let same : length (take h u) ≡ length (take j u) = ap length one.0 in
          let end = length-take-le h u within in
          let short = length-take-le j u (omega (arith, size)) in
          absurd (omega (arith, size))
      by (more n) x = (n, x, one_read k n x (omega arith))
      by (refused i p) x =
          let inside = x.0 in
          let here : take (p + 1) (take k u) ++ drop (p + 1) u ≡ u = ap (λ (f : List ℕ). f ++ drop (p + 1) u) (take-take (p + 1) k u (omega (arith, size))) ∙ take-append-drop (p + 1) u in
          absurd (x.2 (bytes_enough (take (p + 1) (take k u)) (drop (p + 1) u) h a (subst (Heads Whole h a) (sym here) begins)))

  -- Who always reads exactly n bytes never reads past the header; nor does one who is given fewer.
  pub never_past : (k : ℕ) (reads : List ℕ) → k ≤ h → Careful u k reads → read_bytes k reads ≤ h
  never_past k [] inside c = inside
  never_past k (m ∷ reads) inside c =
      let within = begins.0 in
      let few = c.2 in
      let end = one_read k c.0 c.1 (omega arith) in
      never_past (k + m) reads (omega arith) c.3

-- when a header is accepted, its bytes have been read and no other: the payload behind it is unread
pub payload_unread : (u reads : List ℕ) (a : Header) (n : ℕ) → Careful u 0 reads → Judges (accepted a n) (take (read_bytes 0 reads) u) → n ≡ read_bytes 0 reads
payload_unread u reads a n c x =
    let k = read_bytes 0 reads in
    let size = length-take k u in
    let inside = x.0 in
    let begins : Heads Whole n a u = (omega arith, subst (λ (f : List ℕ). Whole f a) (take-take n k u (omega arith)) x.1) in
    let most = never_past u n a begins 0 reads (omega arith) c in
    omega arith
