-- How an answer on the bytes from a place on follows from the machine's step there.
use mathlib.Core.Path.{◌≡◌, refl, sym, ap, ◌∙◌}
use mathlib.Core.List.{List}
use Prim.Native.Nat.{ℕ, ◌+◌, ◌≤◌, ◌<◌}
use lib.ListN.{length, get_or}
use lib.Dec.{eqb}
use Rattle.exact.specs.Claim.{Verdict, accepted, more, refused}
use Rattle.exact.specs.Pick.{pick_by}
use Rattle.exact.specs.declared.Scan.{Scan}
use Rattle.exact.proofs.MachineLaws.{from-go, from-done, from-dead, from_end}
use Rattle.exact.specs.Machine.{Move, go, done, dead, from}
use Rattle.exact.specs.declared.Scan.TheVariants.{More, Refused}
use Rattle.ip6.specs.Machine.{Gathered, plain, gapped, State, finish, least, least_address, step}
use Rattle.ip6.specs.Answer.{From, closed, Closed}

-- ── the verdict from a place on, by the move there ──
module _ (end : ℕ) (s : List ℕ) (i k m : ℕ) where
  abbrev moves : Move State (List ℕ) → Verdict (List ℕ)
  moves (go p) = from k (step end) (least_address m) s (i + 1) p
  moves (done vs) = accepted vs (i + 1)
  moves dead = refused k i

  by_move : (q : State) (x : Move State (List ℕ)) → i < length s → step end q (get_or s i 0) ≡ x → from k (step end) (least_address m) s i q ≡ moves x
  by_move q (go n) h e = from-go k (step end) (least_address m) s i q n h e
  by_move q (done vs) h e = from-done k (step end) (least_address m) s i q vs h e
  by_move q dead h e = from-dead k (step end) (least_address m) s i q h e

  closed-moves : (n : Gathered) → closed k m i (finish n) ≡ moves (finish n)
  closed-moves (plain l) =
      pick_by (λ (x : Move State (List ℕ)). closed k m i x ≡ moves x) (eqb (length l) 8) (λ t. refl) (λ t. refl)
  closed-moves (gapped l r) = refl

-- ── the answer from a place on ──
module _ {end : ℕ} {s : List ℕ} {i : ℕ} {q : State} {g : List ℕ} where
  pub wants : {n : ℕ} → n ≡ least q → length s ≤ i → From end s i q (More n) g
  wants e h =
      record { verdict = λ k m. ap (λ (n : ℕ). more (n + m)) e ∙ sym (from_end k (step end) (least_address m) s i q h) }

  pub refuses : i < length s → step end q (get_or s i 0) ≡ dead → From end s i q (Refused i) g
  refuses h e = record { verdict = λ k m. sym (from-dead k (step end) (least_address m) s i q h e) }

  module _ {t : Scan (Unit {0})} where
    pub passes : {p : State} → i < length s → step end q (get_or s i 0) ≡ go p → From end s (i + 1) p t g → From end s i q t g
    passes {p} h e f = record { verdict = λ k m. f.verdict k m ∙ sym (from-go k (step end) (least_address m) s i q p h e) }

    -- a byte that two states treat alike
    pub likewise : {p : State} → i < length s → step end q (get_or s i 0) ≡ step end p (get_or s i 0) → From end s i p t g → From end s i q t g
    likewise {p} h e f =
        record {
          verdict = λ k m.
              f.verdict k m
              ∙ by_move end s i k m p (step end p (get_or s i 0)) h refl
              ∙ sym (by_move end s i k m q (step end p (get_or s i 0)) h e);
        }

    -- the byte that ends the address
    pub closes : {n : Gathered} → i < length s → step end q (get_or s i 0) ≡ finish n → Closed i n t g → From end s i q t g
    closes {n} h e f =
        record {
          verdict = λ k m. f.verdict k m ∙ closed-moves end s i k m n ∙ sym (by_move end s i k m q (finish n) h e);
        }
