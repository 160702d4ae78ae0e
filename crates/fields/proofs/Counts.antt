-- The counts of a block whose length is not whole yet: none is over 65,535.
use Rattle.std.specs.Prelude.{◌≡◌, refl, Bool, true, List, [], ◌∷◌, ℕ, suc, ◌+◌, ◌≤◌, ◌<◌, eqb, ltb, length, drop, Option}
use Rattle.std.proofs.Common.{ap, ◌∙◌, arith, length-append, length-drop, eqb-true, ltb-true}
use Rattle.exact.specs.Claim.{Verdict, accepted, more, refused, AllBytes}
use Rattle.exact.specs.Field.{Exact, after}
use Rattle.exact.specs.Machine.{Move, moved, run}
use Rattle.exact.specs.Pick.{pick_by}
use Rattle.exact.specs.Byte.{OneByte, step_byte}
use Rattle.exact.proofs.LiteralLaws.{literal_few}
use Rattle.exact.specs.Network.{number}
use Rattle.exact.specs.Number.{any, Number, low}
use Rattle.exact.specs.Parser.{Parser, Fit, ◌then◌}
use Rattle.exact.specs.Verdicts.{Few}
use Rattle.exact.proofs.Verdicts.{few_shift, few_more, run_few}
use Rattle.record.specs.declared.Kind.{Kind}
use Rattle.record.specs.declared.Kind.TheVariants.{Local, Unspecified, Ip4, Ip6, Unix}
use Rattle.record.specs.declared.Record.{Record}
use Rattle.record.specs.Kinds.{family, block_length}
use Rattle.record.specs.Records.{bare}
use Rattle.fields.specs.LineFields.{word}
use Rattle.fields.specs.Lengths.{lowest, fits}
use Rattle.fields.proofs.LengthField.{length_field, fits_least, lowest-fits}
use Rattle.fields.specs.BlockFields.{Command, local, proxy, command, command_of, always, skipped_bytes, block_small, block_length_byte, addresses, family_field, any_byte, signature_field}
use Rattle.fields.proofs.BlockFields.{any_length, fit_skipped, skipped, block_length_field, fit_addresses, addressed, family_rest, fit_family, command_rest, fit_command, from_command, block}

-- on fewer than l bytes no count is over the bound
abbrev Low : {A : Type 0} → ℕ → (List ℕ → Verdict A) → Type 0
Low l v = (t : List ℕ) → length t < l → Few 65535 (v t)

-- a field, and what its value chooses on the bytes behind it
low_then : {A B : Type 0} {u : A → ℕ} {w : B → ℕ} (P : Parser A u) (Q : A → Parser B w) (fit : Fit P Q) (l k : ℕ) → Low l P.verdict
    → ((a : A) (f : List ℕ) → P.field.lang f a → (l ≤ length f + k) × Low k (Q a).verdict) → Low l ((P then Q) fit).verdict
low_then {A} {u = u} P Q fit l k first rest t h = by (P.verdict t) (P.exact t) (first t h)
  where
    by : (v : Verdict A) → Exact P.field u v t → Few 65535 v → Few 65535 (after v (λ a r. (Q a).verdict r) t)
    by (accepted a n) x f =
        let r = rest a x.front x.whole in
        let size = x.size in
        let room = r.0 in
        let all : length t ≡ length x.front + length x.rest = ap length x.split ∙ length-append x.front x.rest in
        let left = length-drop n t in
        few_shift 65535 n ((Q a).verdict (drop n t)) (r.1 (drop n t) (omega arith))
    by (more n) x f = f
    by (refused i p) x f = tt

-- ── the leaves ──
low_word : (k m x : ℕ) (w : List ℕ) (bytes : AllBytes (x ∷ w)) (l : ℕ) → length (x ∷ w) + m ≤ 65535 → Low l (word k m x w bytes).verdict
low_word k m x w bytes l small t h =
    few_more (length (x ∷ w) + m) 65535 ((word k m x w bytes).verdict t) small (literal_few k m 0 (x ∷ w) t)

low_byte : {A : Type 0} (table : ℕ → Option A) (k least l : ℕ) → least ≤ 65535 → Low l (λ t. run k (step_byte table) (λ q. least) t tt)
low_byte table k least l small t h = run_few 65535 k (step_byte table) (λ q. least) (λ q. small) t tt

one_byte : {A : Type 0} {table : ℕ → Option A} {f : List ℕ} {a : A} → OneByte table f a → length f ≡ 1
one_byte l = ap length l.split

two_bytes : {good : ℕ → Bool} {f : List ℕ} {n : ℕ} → Number good f n → length f ≡ 2
two_bytes l = ap length l.split

-- behind a high length byte the shortest block has 65,280 bytes at most
module _ (good : ℕ → Bool) (a : ℕ) (small : a < 256) (lowest-good : (h : ℕ) → good (number h (lowest a h)) ≡ true)
    (least : (n : ℕ) → good n ≡ true → a ≤ n)
  where
    low_length : Low 2 (length_field good a small lowest-good least).verdict
    low_length [] h = omega arith
    low_length (c ∷ []) h =
        pick_by
        (λ (m : Move (Unit {0}) ℕ).
        Few 65535
        (after (moved 8 m (run 8 (step_byte any) (λ q. suc (suc (number 0 (lowest a 0)))) []))
        (λ i r. run 8 (step_byte (low good i)) (λ q. suc (number i (lowest a i))) r tt) (c ∷ [])))
        (ltb c 256)
        (λ t.
        let byte = ltb-true c 256 t in
        pick_by (λ (d : ℕ). suc (number c d) ≤ 65535) (eqb c 0) (λ z. let none = eqb-true c 0 z in omega arith) (λ z. omega arith))
        (λ t. tt)
    low_length (c ∷ d ∷ t) h = absurd (omega arith)

-- ── a block ──
low_skipped : (r : Record) → Low 2 (skipped r).verdict
low_skipped r =
    low_then any_length (skipped_bytes r) (fit_skipped r) 2 0 (low_length always 0 (omega arith) (λ h. refl) (λ n g. omega arith))
    (λ n f l. (let two = two_bytes l in omega arith, λ t h. absurd (omega arith)))

low_addressed : (k : Kind) → Low 2 (addressed k).verdict
low_addressed k =
    low_then (block_length_field k) (addresses k) (fit_addresses k) 2 0
    (low_length (fits (block_length k)) (block_length k) (block_length_byte k) (λ h. lowest-fits (block_length k) h (block_small k)) (fits_least (block_length k)))
    (λ n f l. (let two = two_bytes l in omega arith, λ t h. absurd (omega arith)))

low_family : (k : Kind) → Low 2 (family_rest k).verdict
low_family Local = low_skipped (bare Local)
low_family Unspecified = low_skipped (bare Unspecified)
low_family (Ip4 t) = low_addressed (Ip4 t)
low_family (Ip6 t) = low_addressed (Ip6 t)
low_family (Unix t) = low_addressed (Unix t)

low_command : (x : Command) → Low 3 (command_rest x).verdict
low_command local =
    low_then any_byte (λ c. skipped (bare Local)) (λ c f l. refl) 3 2 (low_byte any 7 3 3 (omega arith))
    (λ c f l. (let one = one_byte l in omega arith, low_skipped (bare Local)))
low_command proxy =
    low_then family_field family_rest fit_family 3 2 (low_byte family 7 3 3 (omega arith)) (λ k f l. (let one = one_byte l in omega arith, low_family k))

pub block_low : (t : List ℕ) → length t < 16 → Few 65535 (block.verdict t)
block_low =
    low_then signature_field (λ u. from_command) (λ u f l. refl) 16 4
    (low_word 1 4 0x0D (0x0A ∷ 0x0D ∷ 0x0A ∷ 0x00 ∷ 0x0D ∷ 0x0A ∷ 0x51 ∷ 0x55 ∷ 0x49 ∷ 0x54 ∷ 0x0A ∷ []) (omega arith) 16 (omega arith))
    (λ u f l. (
      let twelve : length f ≡ 12 = ap length l.0 in omega arith,
      low_then command command_rest fit_command 4 3 (low_byte command_of 6 4 4 (omega arith)) (λ x g m. (let one = one_byte m in omega arith, low_command x)),
    ))
