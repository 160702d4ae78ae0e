-- Lemmas on what specs/Laws.antt defines.
use Rattle.std.specs.Prelude.{◌≡◌, refl, List, [], ◌∷◌, ◌++◌, ℕ, ◌<◌, length, take, drop}
use Rattle.std.proofs.Common.{sym, ap, ap₂, ◌∙◌, subst, append-nil, append_assoc, arith, take_at, drop_at}
use Rattle.exact.specs.Claim.{AllBytes}
use Rattle.tlv.specs.Tlv.{Tlv, tlv_bytes, written, Proper, Area}
use Rattle.tlv.specs.Laws.{byte}

-- lists that begin with parts of one length have the same parts
same_parts : (a b c d : List ℕ) → length a ≡ length c → a ++ b ≡ c ++ d → (a ≡ c) × (b ≡ d)
same_parts a b c d n e = (
  sym (take_at a b (length c) n) ∙ ap (take (length c)) e ∙ take_at c d (length c) refl,
  sym (drop_at a b (length c) n) ∙ ap (drop (length c)) e ∙ drop_at c d (length c) refl,
)

-- TLVs that begin with the bytes of some TLVs begin with those TLVs, and the bytes left are those of the others
written_behind : (a c : List Tlv) (g : List ℕ) → written a ++ g ≡ written c → (b : List Tlv) × (c ≡ a ++ b) × (g ≡ written b)
written_behind [] c g e = (c, refl, e)
written_behind (t ∷ a) [] g e = let z : ◌≡◌ {A = ℕ} 0 1 = cc in absurd (omega arith)
written_behind (t ∷ a) (u ∷ c) g e =
    let type : u.type ≡ t.type = sym (ap (byte 0) e) in
    let high = ap (byte 1) e in
    let low = ap (byte 2) e in
    let all : t.value ++ (written a ++ g) ≡ u.value ++ written c = sym (append_assoc t.value (written a) g) ∙ ap (drop 3) e in
    let parts = same_parts t.value (written a ++ g) u.value (written c) (omega arith) all in
    let rest = written_behind a c g parts.1 in
    (rest.0, (λ i. record { type = type i; value = sym parts.0 i } ∷ rest.1 i), rest.2)

written_one : (a b : List Tlv) → written a ≡ written b → a ≡ b
written_one a b e = let r = written_behind a b [] (append-nil (written a) ∙ e) in by r.0 r.1 r.2
  where
    by : (rest : List Tlv) → b ≡ a ++ rest → [] ≡ written rest → a ≡ b
    by [] s n = sym (s ∙ append-nil a)
    by (t ∷ rest) s n = let z : ◌≡◌ {A = ℕ} 0 1 = cc in absurd (omega arith)

-- the TLV list is a function of the area
pub area_one : (f : List ℕ) (a b : List Tlv) → Area f a → Area f b → a ≡ b
area_one f a b x y = written_one a b (sym x.0 ∙ y.0)

-- the bytes of one TLV are an area
pub one_area : (t : Tlv) → t.type < 256 → AllBytes t.value → length t.value < 65536 → Area (tlv_bytes t.type t.value) (t ∷ [])
one_area t type bytes size = (sym (append-nil (tlv_bytes t.type t.value)), (type, bytes, size, tt))

-- joining is concatenation
pub written-append : (a b : List Tlv) → written (a ++ b) ≡ written a ++ written b
written-append [] b = refl
written-append (t ∷ a) b = rw (written-append a b) (simp append_assoc)

proper_append : (a b : List Tlv) → Proper a → Proper b → Proper (a ++ b)
proper_append [] b p q = q
proper_append (t ∷ a) b p q = (p.0, p.1, p.2, proper_append a b p.3 q)

proper_behind : (a b : List Tlv) → Proper (a ++ b) → Proper b
proper_behind [] b p = p
proper_behind (t ∷ a) b p = proper_behind a b p.3

-- an area behind another
pub area_append : (f g : List ℕ) (a b : List Tlv) → Area f a → Area g b → Area (f ++ g) (a ++ b)
area_append f g a b x y = (ap₂ ◌++◌ x.0 y.0 ∙ sym (written-append a b), proper_append a b x.1 y.1)

-- behind the first TLVs of an area stand the others
pub area_rest : (f : List ℕ) (a b : List Tlv) → Area f (a ++ b) → Area (drop (length (written a)) f) b
area_rest f a b x = (
  ap (drop (length (written a))) (x.0 ∙ written-append a b) ∙ drop_at (written a) (written b) (length (written a)) refl,
  proper_behind a b x.1,
)

-- what stands behind an area in a longer one is an area, and its TLVs are the rest
pub area_behind : (f g : List ℕ) (a c : List Tlv) → Area f a → Area (f ++ g) c → (b : List Tlv) × (c ≡ a ++ b) × Area g b
area_behind f g a c x y =
    let r = written_behind a c g (ap (λ (l : List ℕ). l ++ g) (sym x.0) ∙ y.0) in
    (r.0, r.1, (r.2, proper_behind a r.0 (subst Proper r.1 y.1)))
