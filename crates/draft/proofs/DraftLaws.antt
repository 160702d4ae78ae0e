-- Texts put behind a draft, one after the other, and what it holds where there is room.
use Rattle.std.specs.Prelude.{◌≡◌, refl, ltb, take, get_or}
use Rattle.std.proofs.Common.{sym, ◌∙◌, arith, length-drop, length-set}
use Rattle.std.proofs.Math.Path.{ap}
use mathlib.Core.List.{List, [], ◌∷◌, ◌++◌, append-nil}
use Prim.Native.Nat.{ℕ, suc, ◌≤◌, ◌<◌}
use Rattle.std.proofs.Math.Numerals.{add-one}
use Rattle.std.proofs.Math.ListN.{length, drop, length-append}
use Rattle.std.proofs.Math.Seq.{append_snoc, drop-cons, set-append_seam, take-append_seam}
use borrow.Author.Tests.{lt-ltb}
use Rattle.exact.specs.Pick.{pick_by}
use Rattle.draft.specs.declared.Draft.{Draft as InMemory}
use Rattle.draft.specs.Drafts.{Draft, drafted, pushed, appended, text_of, Adds}

pub appended_none : (d : Draft) → appended d [] ≡ d
unfolding appended
appended_none d = refl

pub appended_more : (d : Draft) (x y : List ℕ) → appended (appended d x) y ≡ appended d (x ++ y)
unfolding appended
appended_more d [] y = refl
appended_more d (c ∷ x) y = appended_more (pushed d c) x y

-- ── drafts in memory ──
pub adds_none : (d : InMemory) → Adds d d []
unfolding appended
adds_none d = record { same_bytes = refl; appends = refl }

pub adds_more : {a b c : InMemory} {x y : List ℕ} → Adds a b x → Adds b c y → Adds a c (x ++ y)
adds_more {a} {b} {c} {x} {y} one two =
    record {
      same_bytes = two.same_bytes ∙ one.same_bytes;
      appends = two.appends ∙ ap (λ (d : Draft). appended d y) one.appends ∙ appended_more (text_of a) x y;
    }

-- on a draft that was empty
pub adds_first : {bytes : List ℕ} {a b : InMemory} {x : List ℕ} → text_of a ≡ drafted bytes 0 → Adds a b x → text_of b ≡ appended (drafted bytes 0) x
adds_first {bytes} {a} {b} {x} empty adds = adds.appends ∙ ap (λ (d : Draft). appended d x) empty

-- ── lengths ──
pushed-length : (d : Draft) (c : ℕ) → length (pushed d c).bytes ≡ length d.bytes
unfolding pushed
pushed-length d c =
    pick_by (λ (e : Draft). length e.bytes ≡ length d.bytes) (ltb d.length (length d.bytes)) (λ t. simp length-set) (λ t. refl)

lengths : (d : Draft) (x : List ℕ) → length (appended d x).bytes ≡ length d.bytes
unfolding appended
lengths d [] = refl
lengths d (c ∷ x) = lengths (pushed d c) x ∙ pushed-length d c

-- a draft with a text more has as many bytes
pub appended-length : {e : Draft} (d : Draft) (x : List ℕ) → e ≡ appended d x → length e.bytes ≡ length d.bytes
appended-length d x is = ap (λ (f : Draft). length f.bytes) is ∙ lengths d x

-- ── a text for which there is room ──
module _ (bytes : List ℕ) where
  -- it stands over the bytes at the front
  abbrev over : List ℕ → Draft
  over text = drafted (text ++ drop (length text) bytes) (length text)

  pushed-over : (x : List ℕ) (c : ℕ) → length x < length bytes → pushed (over x) c ≡ over (x ++ c ∷ [])
  unfolding pushed
  pushed-over x c fits =
      let inside : length x < length (x ++ drop (length x) bytes) = simp (length-append, length-drop) (omega arith) in
      let size : length (x ++ c ∷ []) ≡ suc (length x) = simp length-append (omega arith) in
      rw (
        lt-ltb (length x) (length (x ++ drop (length x) bytes)) inside,
        size,
        add-one,
        append_snoc x c,
        drop-cons bytes (length x) 0 fits,
        set-append_seam x (get_or bytes (length x) 0),
      )

  appended_on : (x y : List ℕ) → length (x ++ y) ≤ length bytes → appended (over x) y ≡ over (x ++ y)
  unfolding appended
  appended_on x [] fits = ap over (sym (append-nil x))
  appended_on x (c ∷ y) fits =
      let size = length-append x (c ∷ y) in
      ap (λ (d : Draft). appended d y) (pushed-over x c (omega arith))
      ∙ appended_on (x ++ c ∷ []) y (rw (append_snoc x c y) fits)
      ∙ ap over (append_snoc x c y)

module _ (bytes text : List ℕ) {d : Draft} (is : d ≡ appended (drafted bytes 0) text) (fits : length text ≤ length bytes) where
  whole : d ≡ over bytes text
  whole = is ∙ appended_on bytes [] text fits

  pub draft_size : d.length ≡ length text
  draft_size = ap (λ (e : Draft). e.length) whole

  pub draft_says : take d.length d.bytes ≡ text
  draft_says = ap (λ (e : Draft). take e.length e.bytes) whole ∙ take-append_seam text (drop (length text) bytes)

  -- it lies within the bytes
  pub draft_room : d.length ≤ length d.bytes
  draft_room = let size = draft_size in let room = appended-length (drafted bytes 0) text is in omega arith
