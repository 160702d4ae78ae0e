-- The leaf of n bytes that TLVs fill: its verdicts are exact.
use Rattle.std.specs.Prelude.{◌≡◌, refl, Bool, true, false, List, [], ◌∷◌, ◌↔◌, ℕ, zero, suc, ◌+◌, ◌*◌, ◌-◌, ◌≤◌, ◌<◌, ltb, leb, eqb, length}
use Rattle.std.proofs.Common.{inl, inr, ⊎_elim, arith, ltb-true, ltb-false, lt-ltb, leb-true, leb-false, eqb-true, le-leb}
use Rattle.std.proofs.lemmas.Bool.{eqb-false}
use Rattle.exact.specs.Field.{Least, flat, Exact}
use Rattle.exact.specs.MachineLaws.{machine_exact, Sound, Attains, NoLess, Leasts}
use Rattle.exact.specs.Machine.{leaf, Move, go, run}
use Rattle.exact.specs.Parser.{Parser}
use Rattle.exact.specs.Pick.{pick, pick_by}
use Rattle.exact.specs.Network.{number}
use Rattle.tlv.specs.Tlv.{Filled}
use Rattle.tlv.proofs.AreaBytes.{area_bytes}
use Rattle.tlv.specs.Room.{Fillable, Good, Behind}
use Rattle.tlv.proofs.Room.{head_open, head_shut, retype, high_byte_lem, good_leaves, some_low}
use Rattle.tlv.proofs.FillRules.{fill_rule, low_rule}
use Rattle.tlv.specs.RegionVerdict.{Due, type_byte, high_byte, low_byte, value_byte, enter, good, step_byte, step, least_region}
use Rattle.tlv.specs.Region.{Region}

-- what may follow in a state
abbrev Follows : Due → List ℕ → Type 0
Follows (type_byte n) f = Filled n f
Follows (high_byte room) f = Filled (3 + room) (0 ∷ f)
Follows (low_byte h room) f = Filled (3 + room) (0 ∷ h ∷ f)
Follows (value_byte v n) f = Behind (suc v) n f

abbrev Lang : Due → List ℕ → ℕ → Type 0
Lang q f a = Follows q f × (a ≡ 0)

abbrev Ok : Due → Type 0
Ok (type_byte n) = 3 ≤ n
Ok (high_byte room) = Unit {0}
Ok (low_byte h room) = (h < 256) × (256 * h ≤ room)
Ok (value_byte v n) = Fillable n

solid : (q : Due) → Ok q → (a : ℕ) → Lang q [] a → ⊥
solid (type_byte n) ok a l = let e = l.0.0 in omega arith
solid (high_byte room) ok a l = let e = l.0.0 in omega arith
solid (low_byte h room) ok a l = let e = l.0.0 in omega arith
solid (value_byte v n) ok a l = l.0

-- ── the tests ──
good_by : (size room : ℕ) (b : Bool) → eqb size room ≡ b → (pick b true (leb (size + 3) room) ≡ true) ↔ Good size room
good_by size room true e = (λ t. inl (eqb-true size room e), λ g. refl)
good_by size room false e = (
  λ t. inr (leb-true _ _ t),
  ⊎_elim (λ g. absurd (eqb-false size room e g)) (λ g. le-leb _ _ g),
)

pub good-true : (size room : ℕ) → (good size room ≡ true) ↔ Good size room
good-true size room = good_by size room (eqb size room) refl

good-false : (size room : ℕ) → good size room ≡ false → Good size room → ⊥
good-false size room e g =
    let t = (good-true size room).1 g in
    let z : ◌≡◌ {A = ℕ} 0 1 = cc in omega arith

-- ── the steps are sound ──
pub no_bytes : (f : List ℕ) → length f ≡ 0 → f ≡ []
no_bytes [] e = refl
no_bytes (x ∷ f) e = absurd (omega arith)

pub some_bytes : (n : ℕ) → Fillable (suc n) → 3 ≤ suc n
some_bytes n = ⊎_elim (λ e. absurd (omega arith)) (λ h. h)

module _ (q : Due) (c : ℕ) where
  enter_sound : (v n : ℕ) → Fillable n → ((f : List ℕ) → Follows q (c ∷ f) ↔ Behind v n f) → Sound Lang Ok q c (enter v n)
  enter_sound zero zero ok same =
      (((same []).1 (refl, ([], (refl, tt))), refl), λ f a l. (no_bytes f ((same f).0 l.0).0, l.1))
  enter_sound zero (suc n) ok same =
      (some_bytes n ok, λ f a. (λ l. ((same f).0 l.0, l.1), λ l. ((same f).1 l.0, l.1)))
  enter_sound (suc v) n ok same = (ok, λ f a. (λ l. ((same f).0 l.0, l.1), λ l. ((same f).1 l.0, l.1)))

no_byte : (q : Due) (c : ℕ) → 256 ≤ c → (f : List ℕ) (a : ℕ) → Lang q (c ∷ f) a → ⊥
no_byte (type_byte n) c b f a l = let h = (retype n c 0 f (omega arith) l.0).0 in omega arith
no_byte (high_byte room) c b f a l = let h = (high_byte_lem 0 c room f l.0).0 in omega arith
no_byte (low_byte h room) c b f a l = let h = (head_open 0 h c room f l.0).low in omega arith
no_byte (value_byte v n) c b f a l = let h = l.0.0 in omega arith

type_sound : (n c : ℕ) → c < 256 → 3 ≤ n → Sound Lang Ok (type_byte n) c (go (high_byte (n - 3)))
type_sound n c b ok =
    let e : 3 + (n - 3) ≡ n = omega arith in
    (tt, λ f a. (λ l. (rw e (retype n c 0 f (omega arith) l.0).1, l.1), λ l. ((retype n 0 c f b (rw e at l.0)).1, l.1)))

low_sound : (h room c : ℕ) → c < 256 → h < 256 → Good (number h c) room
    → Sound Lang Ok (low_byte h room) c (enter (number h c) (room - (number h c)))
low_sound h room c b bh g =
    let leaves = good_leaves (number h c) room g in
    enter_sound (low_byte h room) c (number h c) (room - (number h c)) leaves.1
    (λ f. (
      λ w. (head_open 0 h c room f w).behind,
      λ w. head_shut 0 h c room f (record { type = omega arith; high = bh; low = b; within = leaves.0; behind = w }),
    ))

byte_sound : (q : Due) (c : ℕ) → c < 256 → Ok q → Sound Lang Ok q c (step_byte q c)
byte_sound (type_byte n) c b ok =
    pick_by (Sound Lang Ok (type_byte n) c) (leb 3 n) (λ t. type_sound n c b ok)
    (λ t. absurd (let h : n < 3 = leb-false 3 n t in omega arith))
byte_sound (high_byte room) c b ok =
    pick_by (Sound Lang Ok (high_byte room) c) (leb (256 * c) room) (λ t. ((b, leb-true _ _ t), λ f a. (λ l. l, λ l. l)))
    (λ t f a l. let h : room < 256 * c = leb-false _ _ t in let g = (high_byte_lem 0 c room f l.0).1 in omega arith)
byte_sound (low_byte h room) c b ok =
    pick_by (Sound Lang Ok (low_byte h room) c) (good (number h c) room) (λ t. low_sound h room c b ok.0 ((good-true _ _).0 t))
    (λ t f a l. good-false (number h c) room t ((low_rule 0 h c room (omega arith) ok.0 b).0 (f, l.0)))
byte_sound (value_byte v n) c b ok = enter_sound (value_byte v n) c v n ok (λ f. (λ w. w.1, λ w. (b, w)))

step_sound : (q : Due) (c : ℕ) → Ok q → Sound Lang Ok q c (step q c)
step_sound q c ok =
    pick_by (Sound Lang Ok q c) (ltb c 256) (λ t. byte_sound q c (ltb-true c 256 t) ok) (λ t. no_byte q c (ltb-false c 256 t))

-- ── what is left is the least: a step takes its byte off it, or is dead ──
module _ (m : ℕ) where
  abbrev Takes : ℕ → Move Due ℕ → Type 0
  Takes = Attains (least_region m) (flat m)

  abbrev NoFewer : ℕ → Move Due ℕ → Type 0
  NoFewer = NoLess (least_region m) (flat m)

  enter_takes : (v n j : ℕ) → j ≡ suc (v + n + m) → Takes j (enter v n) × NoFewer j (enter v n)
  enter_takes zero zero j e = omega arith
  enter_takes zero (suc n) j e = omega arith
  enter_takes (suc v) n j e = omega arith

  low_takes : (h room c : ℕ) → Good (number h c) room
      → Takes (1 + room + m) (enter (number h c) (room - number h c)) × NoFewer (1 + room + m) (enter (number h c) (room - number h c))
  low_takes h room c g =
      let within = (good_leaves (number h c) room g).0 in
      enter_takes (number h c) (room - number h c) (1 + room + m) (omega arith)

  no_less_byte : (q : Due) (c : ℕ) → Ok q → NoFewer (least_region m q) (step_byte q c)
  no_less_byte (type_byte n) c ok = pick_by (NoFewer (n + m)) (leb 3 n) (λ t. omega arith) (λ t. tt)
  no_less_byte (high_byte room) c ok = pick_by (NoFewer (2 + room + m)) (leb (256 * c) room) (λ t. omega arith) (λ t. tt)
  no_less_byte (low_byte h room) c ok =
      pick_by (NoFewer (1 + room + m)) (good (number h c) room) (λ t. (low_takes h room c ((good-true _ _).0 t)).1) (λ t. tt)
  no_less_byte (value_byte v n) c ok = (enter_takes v n (1 + v + n + m) (omega arith)).1

  byte_due : (q : Due) → Ok q → ℕ
  byte_due (type_byte n) ok = 0
  byte_due (high_byte room) ok = 0
  byte_due (low_byte h room) ok = (some_low h room ok.1).0
  byte_due (value_byte v n) ok = 0

  attains_due : (q : Due) (ok : Ok q) → Takes (least_region m q) (step q (byte_due q ok))
  unfolding byte_due
  attains_due (type_byte n) ok = rw (le-leb 3 n ok) (omega arith)
  attains_due (high_byte room) ok = rw (le-leb (256 * 0) room (omega arith)) (omega arith)
  attains_due (low_byte h room) ok =
      let l = some_low h room ok.1 in
      rw (lt-ltb l.0 256 l.1, (good-true _ _).1 l.2) (low_takes h room l.0 l.2).0
  attains_due (value_byte v n) ok = (enter_takes v n (1 + v + n + m) (omega arith)).0

  leasts : Leasts Ok step (least_region m) (flat m)
  leasts =
      record {
        byte = byte_due;
        attains = attains_due;
        no_less = λ q c ok. pick_by (NoFewer (least_region m q)) (ltb c 256) (λ t. no_less_byte q c ok) (λ t. tt);
      }

-- ── the parser ──
-- TLVs that fill n bytes are n bytes, also where n is 0
pub region_least : (k m n : ℕ) → Fillable n → Least (leaf k (Region n)) (flat m) (n + m) []
region_least k m n ok =
    let c = (fill_rule n).1 ok in
    record {
      tail = c.0;
      value = 0;
      whole = (c.1, refl);
      size = let e = c.1.0 in omega arith;
      below = λ t a l. let e = l.0.0 in omega arith;
    }

pub region_exact : (k m n : ℕ) → 3 ≤ n → (s : List ℕ) → Exact (leaf k (Region n)) (flat m) (run k step (least_region m) s (type_byte n)) s
region_exact k m n ok s = machine_exact k Lang Ok step (least_region m) (flat m) (leasts m) solid step_sound s (type_byte n) ok

abbrev pub region : (k m n : ℕ) → 3 ≤ n → Parser ℕ (flat m)
region k m n ok =
    record {
      field = leaf k (Region n);
      verdict = λ s. run k step (least_region m) s (type_byte n);
      exact = region_exact k m n ok;
      least = n + m;
      opens = region_least k m n (inr ok);
      bytes = λ f a l. area_bytes f l.0.1;
    }
