-- The tests say what `Clean` and `Plain` say, of every record in memory.
use Rattle.std.specs.Prelude.{◌≡◌, refl, Bool, true, ◌&&◌, List, [], ◌∷◌, ◌↔◌, ℕ, suc, zero, ◌-◌, ◌<◌, ◌≤◌, eqb, length, take, drop, replicate}
use Rattle.std.proofs.Common.{ap, ◌∙◌, arith, eqb-true, eq-eqb, length-drop}
use Rattle.std.specs.Cmp.Lexicographic.{pointwise}
use Rattle.exact.proofs.Pick.{both}
use Rattle.record.specs.declared.Kind.{Kind}
use Rattle.record.specs.declared.Kind.TheVariants.{Local, Unspecified, Ip4, Ip6, Unix}
use Rattle.record.specs.declared.Checksum.{Checksum}
use Rattle.record.specs.declared.Checksum.TheVariants.{Absent, Matched}
use Rattle.record.specs.declared.Record.{Record}
use Rattle.record.specs.Kinds.{address_length}
use Rattle.record.specs.Records.{PortFits, StateFits, Clean, Plain, Sized}
use Rattle.clean.specs.Unused.{zeros, clean_address, clean_port, is_absent, clean_state, clean_test, plain_test}

pub all_zero : (s : List ℕ) → zeros s ≡ true → s ≡ replicate (length s) 0
all_zero [] e = refl
all_zero (c ∷ s) e =
    let t = both (eqb c 0) (zeros s) e in
    let head : c ≡ 0 = eqb-true c 0 t.0 in
    let tail = all_zero s t.1 in
    cc

pub zeros_all : (n : ℕ) → zeros (replicate n 0) ≡ true
zeros_all zero = refl
zeros_all (suc n) = zeros_all n

-- a comparison with zeros
pub compared : (m : ℕ) (s : List ℕ) → length s ≤ m → pointwise eqb s (take (length s - 0) (replicate m 0)) ≡ zeros s
compared m s h = let e : length s - 0 ≡ length s = omega arith in rw e (by m s h)
  where
    by : (m : ℕ) (s : List ℕ) → length s ≤ m → pointwise eqb s (take (length s) (replicate m 0)) ≡ zeros s
    by m [] h = refl
    by zero (c ∷ s) h = absurd (omega arith)
    by (suc m) (c ∷ s) h = ap (λ (b : Bool). eqb c 0 && b) (by m s (omega arith))

module _ (k : Kind) (a : List ℕ) (size : length a ≡ 108) where
  address_clean : clean_address k a ≡ true ↔ (drop (address_length k) a ≡ replicate (108 - address_length k) 0)
  address_clean = (
    λ t.
        let n : length (drop (address_length k) a) ≡ 108 - address_length k = length-drop (address_length k) a ∙ ap (λ (m : ℕ). m - address_length k) size in
        all_zero (drop (address_length k) a) t ∙ ap (λ (m : ℕ). replicate m 0) n,
    λ e. ap zeros e ∙ zeros_all (108 - address_length k),
  )

port_clean : (k : Kind) (p : ℕ) → p < 65536 → clean_port k p ≡ true ↔ PortFits k p
port_clean Local p h = (λ t. eqb-true p 0 t, λ e. eq-eqb p 0 e)
port_clean Unspecified p h = (λ t. eqb-true p 0 t, λ e. eq-eqb p 0 e)
port_clean (Ip4 t) p h = (λ t. h, λ e. refl)
port_clean (Ip6 t) p h = (λ t. h, λ e. refl)
port_clean (Unix t) p h = (λ t. eqb-true p 0 t, λ e. eq-eqb p 0 e)

pub state_absent : (c : Checksum) → is_absent c ≡ true ↔ (c ≡ Absent)
state_absent Absent = (λ t. refl, λ e. refl)
state_absent Matched = (λ t. let z : ◌≡◌ {A = ℕ} 0 1 = cc in absurd (omega arith), λ e. ap is_absent e)

pub state_clean : (k : Kind) (c : Checksum) → clean_state k c ≡ true ↔ StateFits k c
state_clean Local c = state_absent c
state_clean Unspecified c = state_absent c
state_clean (Ip4 t) c = (λ t. tt, λ e. refl)
state_clean (Ip6 t) c = (λ t. tt, λ e. refl)
state_clean (Unix t) c = (λ t. tt, λ e. refl)

-- the test is true exactly of the records whose unused address bytes and ports are zero, and whose state may stand beside the kind
pub clean_test_by : (r : Record) → (length r.source ≡ 108) × (length r.destination ≡ 108) → (r.source_port < 65536) × (r.destination_port < 65536)
    → clean_test r ≡ true ↔ Clean r
clean_test_by r sizes ports = (
  λ t.
      let t₀ = both _ _ t in
      let t₁ = both _ _ t₀.0 in
      let t₂ = both _ _ t₁.0 in
      let t₃ = both _ _ t₂.0 in
      record {
        source = (address_clean r.kind r.source sizes.0).0 t₃.0;
        destination = (address_clean r.kind r.destination sizes.1).0 t₃.1;
        source_port = (port_clean r.kind r.source_port ports.0).0 t₂.1;
        destination_port = (port_clean r.kind r.destination_port ports.1).0 t₁.1;
        checksum = (state_clean r.kind r.checksum).0 t₀.1;
      },
  λ c.
      rw (
        (address_clean r.kind r.source sizes.0).1 c.source,
        (address_clean r.kind r.destination sizes.1).1 c.destination,
        (port_clean r.kind r.source_port ports.0).1 c.source_port,
        (port_clean r.kind r.destination_port ports.1).1 c.destination_port,
        (state_clean r.kind r.checksum).1 c.checksum,
      ),
)

pub clean_test_lem : (r : Record) → Sized r → clean_test r ≡ true ↔ Clean r
clean_test_lem r sized = clean_test_by r (sized.source, sized.destination) (sized.source_port, sized.destination_port)

-- and that of a plain record of those whose state is absent too
pub plain_test_by : (r : Record) → clean_test r ≡ true ↔ Clean r → plain_test r ≡ true ↔ Plain r
plain_test_by r cleaned = (
  λ t.
      let t₀ = both _ _ t in
      record { clean = cleaned.0 t₀.0; absent = (state_absent r.checksum).0 t₀.1 },
  λ p. rw (cleaned.1 p.clean, (state_absent r.checksum).1 p.absent),
)

pub plain_test_lem : (r : Record) → Sized r → plain_test r ≡ true ↔ Plain r
plain_test_lem r sized = plain_test_by r (clean_test_lem r sized)
