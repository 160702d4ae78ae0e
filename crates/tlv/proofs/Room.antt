-- Lemmas on what specs/Room.antt defines.
use Rattle.std.specs.Prelude.{◌≡◌, refl, Bool, true, false, List, [], ◌∷◌, ◌++◌, ℕ, zero, suc, ◌+◌, ◌*◌, ◌-◌, ◌/◌, ◌%◌, ◌≤◌, ◌<◌, leb, length, drop}
use Rattle.std.proofs.Common.{sym, ap, ◌∙◌, inl, inr, arith, leb-true, leb-false, length-append}
use Rattle.exact.specs.Claim.{AllBytes}
use Rattle.exact.specs.Network.{number}
use Rattle.tlv.specs.Tlv.{Tlv, written, Proper, Area, WellFormed, Filled}
use Rattle.tlv.specs.Laws.{byte}
use Rattle.tlv.specs.Room.{Behind, Fillable, Good}

-- ── n bytes that TLVs can fill ──
fillable_by : (tlvs : List Tlv) (n : ℕ) → length (written tlvs) ≡ n → Fillable n
fillable_by [] n e = inl (omega arith)
fillable_by (t ∷ tlvs) n e = inr (omega arith)

pub filled_fillable : (n : ℕ) (f : List ℕ) → Filled n f → Fillable n
filled_fillable n f w = fillable_by w.1.0 n (ap length (sym w.1.1.0) ∙ w.0)

-- TLVs that fill n + 3 bytes: as many of three bytes as it takes, and a last one
abbrev blank : List ℕ → Tlv
blank v = record { type = 0; value = v }

filler : ℕ → List Tlv
filler zero = blank [] ∷ []
filler (suc zero) = blank (0 ∷ []) ∷ []
filler (suc (suc zero)) = blank (0 ∷ 0 ∷ []) ∷ []
filler (suc (suc (suc n))) = blank [] ∷ filler n

filler_proper : (n : ℕ) → Proper (filler n)
unfolding filler
filler_proper zero = omega arith
filler_proper (suc zero) = omega arith
filler_proper (suc (suc zero)) = omega arith
filler_proper (suc (suc (suc n))) = (omega arith, tt, omega arith, filler_proper n)

filler-length : (n : ℕ) → length (written (filler n)) ≡ n + 3
unfolding filler
filler-length zero = refl
filler-length (suc zero) = refl
filler-length (suc (suc zero)) = refl
filler-length (suc (suc (suc n))) = let e = filler-length n in omega arith

pub fill : (n : ℕ) → Fillable n → (f : List ℕ) × Filled n f
fill n (inl e) = ([], (sym e, ([], (refl, tt))))
fill n (inr h) =
    let e = filler-length (n - 3) in
    (written (filler (n - 3)), (omega arith, (filler (n - 3), (refl, filler_proper (n - 3)))))

-- ── v value bytes, and then TLVs that fill n bytes ──
behind : (x y : List ℕ) (n : ℕ) → AllBytes x → Filled n y → Behind (length x) n (x ++ y)
behind [] y n b w = w
behind (c ∷ x) y n b w = (b.0, behind x y n b.1 w)

record Cut (v n : ℕ) (f : List ℕ) : Type 0 where
  value : List ℕ
  rest : List ℕ
  split : f ≡ value ++ rest
  size : length value ≡ v
  bytes : AllBytes value
  filled : Filled n rest

cut : (v n : ℕ) (f : List ℕ) → Behind v n f → Cut v n f
cut zero n f w = record { value = []; rest = f; split = refl; size = refl; bytes = tt; filled = w }
cut (suc v) n [] w = absurd w
cut (suc v) n (c ∷ f) w =
    let r = cut v n f w.1 in
    record {
      value = c ∷ r.value;
      rest = r.rest;
      split = ap (λ (t : List ℕ). c ∷ t) r.split;
      size = let e = r.size in omega arith;
      bytes = (w.0, r.bytes);
      filled = r.filled;
    }

pub behind_fillable : (v n : ℕ) (f : List ℕ) → Behind v n f → Fillable n
behind_fillable v n f w = let r = cut v n f w in filled_fillable n r.rest r.filled

pub behind_fill : (v n : ℕ) → Fillable n → (f : List ℕ) × Behind v n f
behind_fill zero n h = fill n h
behind_fill (suc v) n h = let r = behind_fill v n h in (0 ∷ r.0, (omega arith, r.1))

pub behind_length : (v n : ℕ) (f : List ℕ) → Behind v n f → length f ≡ v + n
behind_length v n f w =
    let r = cut v n f w in
    let a = r.size in
    let b = r.filled.0 in
    rw r.split (simp length-append (omega arith))

-- ── the head of a TLV, its type t and its length bytes h and l, with room for as many bytes r behind it ──
pub record Head (t h l room : ℕ) (r : List ℕ) : Type 0 where
  pub type : t < 256
  pub high : h < 256
  pub low : l < 256
  pub within : number h l ≤ room
  pub behind : Behind (number h l) (room - (number h l)) r

module _ (t h l room : ℕ) (r : List ℕ) where
  head_by : (tlvs : List Tlv) → length r ≡ room → Area (t ∷ h ∷ l ∷ r) tlvs → Head t h l room r
  head_by [] n a = let e = a.0 in let z : ◌≡◌ {A = ℕ} 0 1 = cc in absurd (omega arith)
  head_by (u ∷ tlvs) n a =
      let e = a.0 in
      let type = ap (byte 0) e in
      let high = ap (byte 1) e in
      let low = ap (byte 2) e in
      let rest : r ≡ u.value ++ written tlvs = ap (drop 3) e in
      let all : length u.value + length (written tlvs) ≡ room = sym (length-append u.value (written tlvs)) ∙ ap length (sym rest) ∙ n in
      let size : number h l ≡ length u.value = omega arith in
      let left : room - (number h l) ≡ length (written tlvs) = omega arith in
      record {
        type = omega arith;
        high = omega arith;
        low = omega arith;
        within = omega arith;
        behind = rw (left, size, rest) (behind u.value (written tlvs) _ a.1.1 (refl, (tlvs, (refl, a.1.3))));
      }

  pub head_open : Filled (3 + room) (t ∷ h ∷ l ∷ r) → Head t h l room r
  head_open w = let e = w.0 in head_by w.1.0 (omega arith) w.1.1

  pub head_shut : Head t h l room r → Filled (3 + room) (t ∷ h ∷ l ∷ r)
  head_shut a =
      let c = cut (number h l) (room - (number h l)) r a.behind in
      let tlvs = c.filled.1.0 in
      let all = behind_length (number h l) (room - (number h l)) r a.behind in
      let high : h ≡ length c.value / 256 = omega arith in
      let low : l ≡ length c.value % 256 = omega arith in
      let rest : r ≡ c.value ++ written tlvs = c.split ∙ ap (λ (x : List ℕ). c.value ++ x) c.filled.1.1.0 in (
        omega arith,
        (
          record { type = t; value = c.value } ∷ tlvs,
          (λ i. t ∷ high i ∷ low i ∷ rest i, (a.type, c.bytes, omega arith, c.filled.1.1.1)),
        ),
      )

-- any type will do
type_by : (c d : ℕ) (f : List ℕ) (tlvs : List Tlv) → d < 256 → Area (c ∷ f) tlvs → (c < 256) × WellFormed (d ∷ f)
type_by c d f [] b a = let e = a.0 in let z : ◌≡◌ {A = ℕ} 0 1 = cc in absurd (omega arith)
type_by c d f (u ∷ tlvs) b a =
    let e = a.0 in
    let type = ap (byte 0) e in
    let rest = ap (drop 1) e in (
      omega arith,
      (record { type = d; value = u.value } ∷ tlvs, (λ i. d ∷ rest i, (b, a.1.1, a.1.2, a.1.3))),
    )

pub retype : (n c d : ℕ) (f : List ℕ) → d < 256 → Filled n (c ∷ f) → (c < 256) × Filled n (d ∷ f)
retype n c d f b w = let a = type_by c d f w.1.0 b w.1.1 in (a.0, (w.0, a.1))

pub high_byte_lem : (t h room : ℕ) (f : List ℕ) → Filled (3 + room) (t ∷ h ∷ f) → (h < 256) × (256 * h ≤ room)
high_byte_lem t h room [] w = let e = w.0 in absurd (omega arith)
high_byte_lem t h room (l ∷ r) w = let a = head_open t h l room r w in (a.high, let b = a.within in omega arith)

-- ── a length that leaves what TLVs can fill ──
pub good_leaves : (size room : ℕ) → Good size room → (size ≤ room) × Fillable (room - size)
good_leaves size room (inl e) = (omega arith, inl (omega arith))
good_leaves size room (inr h) = (omega arith, inr (omega arith))

pub leaves_good : (size room : ℕ) → size ≤ room → Fillable (room - size) → Good size room
leaves_good size room h (inl e) = inl (omega arith)
leaves_good size room h (inr g) = inr (omega arith)

-- a low byte that makes the length good
pub some_low : (h room : ℕ) → 256 * h ≤ room → (l : ℕ) × (l < 256) × Good (number h l) room
some_low h room le = by (leb (256 * h + 256) room) refl
  where
    by : (b : Bool) → leb (256 * h + 256) room ≡ b → (l : ℕ) × (l < 256) × Good (number h l) room
    by true e = let g : 256 * h + 256 ≤ room = leb-true _ _ e in (0, omega arith, inr (omega arith))
    by false e = let g : room < 256 * h + 256 = leb-false _ _ e in (room - 256 * h, omega arith, inl (omega arith))
