-- Lemmas on what specs/Places.antt defines.
use Rattle.std.specs.Prelude.{◌≡◌, refl, Bool, true, false, List, [], ◌∷◌, ◌++◌, ◌⊎◌, ℕ, ◌+◌, ◌-◌, ◌/◌, ◌%◌, ◌≤◌, ◌<◌, eqb, length, get_or, Option}
use Rattle.std.proofs.Common.{sym, ap, ap₂, ◌∙◌, subst, append-nil, inl, inr, ⊎_elim, arith, length-append, ne_eqb, eq-eqb, le-ltb}
use Rattle.std.proofs.Math.ListN.{get_or-append}
use Rattle.exact.specs.Ascii.{ascii}
use Rattle.exact.specs.Ended.{Ended}
use Rattle.exact.specs.Pick.{pick}
use Rattle.exact.specs.Field.{Field, seq, flat}
use Rattle.exact.specs.Machine.{leaf}
use Rattle.exact.proofs.ParserLemmas.{just}
use Rattle.exact.specs.Literal.{Literal}
use Rattle.exact.specs.Byte.{OneByte}
use Rattle.exact.specs.Number.{any, Number}
use Rattle.exact.proofs.Numbered.{Numbered, numbered_just, numbered_leaf, numbered_text, numbered_then, numbered_either}
use Rattle.decimal.specs.Decimal.{Digits, Decimal}
use Rattle.ip4.specs.Ip4.{Address as Ip4Address}
use Rattle.line_end.specs.LineLeaf.{LineEnd}
use Rattle.hex_digits.specs.Hex.{hex_of}
use Rattle.ip6.specs.Bounds.{Spelt, address_bounds}
use Rattle.ip6.proofs.Parser.{space_ends}
use Rattle.record.specs.declared.Kind.{Kind}
use Rattle.record.specs.declared.Kind.TheVariants.{Local, Unspecified, Ip4, Ip6, Unix}
use Rattle.record.specs.declared.Record.{Record}
use Rattle.record.specs.Kinds.{family, block_length}
use Rattle.record.specs.Records.{record_of, bare}
use Rattle.record.specs.declared.Transport.TheVariants.{Stream}
use Rattle.header.specs.Line.{Ip6Address}
use Rattle.header.specs.Block.{signature}
use Rattle.header.specs.Header.{Header, place_number, parts_ended, tcp_number, unknown_number, block_number}
use Rattle.fields.specs.LineFields.{lined, AddressParser, words, families, from_rest, proxy_word, unknown_word, tcp_word, family_word, cr_field, space_field, rest_field, lf_field, unknown_end, line_feed, source_port, destination_port, from_destination_port, from_source_port, from_destination, from_source, tcp, short_end, long_end, is_cr, is4, is_u, short_starts, long_starts, unknown, tcp4, tcp6, starts4, starts6, tcps, unknown_starts, tcps_starts, line}
use Rattle.fields.specs.BlockFields.{Command, local, proxy, command_of, command, always, skipped_bytes, port, tlvs, addresses, family_field, any_byte, signature_field}
use Rattle.fields.proofs.BlockFields.{any_length, skipped, block_length_field, addressed, family_rest, command_rest, from_command, block}
use Rattle.fields.specs.Lengths.{fits}
use Rattle.fields.specs.Places.{AddressField, Clear, Tcp}

-- ── version 2: the place alone ──
-- at least the sixteen bytes before the block have come
abbrev Behind : List ℕ → Type 0
Behind before = (get_or before 0 0 ≡ 13) × (16 ≤ length before)

behind_more : (before f : List ℕ) → Behind before → Behind (before ++ f)
behind_more before f h =
    let size = h.1 in
    (get_or-append before f 0 0 (omega arith) ∙ h.0, simp length-append (omega arith))

nine : (n : ℕ) → 16 ≤ n → 9 ≡ block_number n
nine n h =
    let a : 12 ≤ n = omega arith in
    let b : 13 ≤ n = omega arith in
    let c : 14 ≤ n = omega arith in
    simp (le-ltb n 12 a, le-ltb n 13 b, le-ltb n 14 c, le-ltb n 16 h)

behind_nine : (before : List ℕ) → Behind before → 9 ≡ place_number before
behind_nine before h = nine (length before) h.1 ∙ sym (simp (eq-eqb (get_or before 0 0) 13 h.0))

-- every place of the field is numbered 9
abbrev AllNine : {A : Type 0} → Field A → Type 0
AllNine F = (u : List ℕ) (k : ℕ) → F.at u k → k ≡ 9

nine_seq : {A B : Type 0} (F : Field A) (G : A → Field B) → AllNine F → ((a : A) → AllNine (G a)) → AllNine (seq F G)
nine_seq F G x y u k (inl p) = x u k p.1
nine_seq F G x y u k (inr p) = y p.mid p.back k p.part

numbered_nine : {A : Type 0} (F : Field A) (before : List ℕ) → AllNine F → Behind before → Numbered place_number F before
numbered_nine F before all h u k o none p = all u k p ∙ behind_nine (before ++ u) (behind_more before u h)

-- one byte, and the two bytes of a number: what is before them tells
one_prefix : (u : List ℕ) (c : ℕ) (t : List ℕ) (b : ℕ) → u ++ c ∷ t ≡ b ∷ [] → u ≡ []
one_prefix [] c t b e = refl
one_prefix (x ∷ []) c t b e = let z : ◌≡◌ {A = ℕ} 0 1 = cc in absurd (omega arith)
one_prefix (x ∷ y ∷ u) c t b e = let z : ◌≡◌ {A = ℕ} 0 1 = cc in absurd (omega arith)

numbered_byte : {A : Type 0} (table : ℕ → Option A) (k : ℕ) (before : List ℕ) → k ≡ place_number before → Numbered place_number (leaf k (OneByte table)) before
numbered_byte table k before e =
    numbered_leaf place_number k (OneByte table) before
    (λ u c t a l. e ∙ ap place_number (sym (append-nil before) ∙ ap (λ (x : List ℕ). before ++ x) (sym (one_prefix u c t l.byte l.split))))

two_prefix : (u : List ℕ) (c : ℕ) (t : List ℕ) (a b : ℕ) → u ++ c ∷ t ≡ a ∷ b ∷ [] → (u ≡ []) ⊎ (u ≡ a ∷ [])
two_prefix [] c t a b e = inl refl
two_prefix (x ∷ []) c t a b e = inr (cc)
two_prefix (x ∷ y ∷ []) c t a b e = let z : ◌≡◌ {A = ℕ} 0 1 = cc in absurd (omega arith)
two_prefix (x ∷ y ∷ w ∷ u) c t a b e = let z : ◌≡◌ {A = ℕ} 0 1 = cc in absurd (omega arith)

-- a length behind fourteen bytes of a block
module _ (c b : ℕ) where
  abbrev fourteen : List ℕ
  fourteen = signature ++ c ∷ b ∷ []

  numbered_length : (good : ℕ → Bool) → Numbered place_number (leaf 8 (Number good)) fourteen
  numbered_length good = numbered_leaf place_number 8 (Number good) fourteen (λ u d t n l. by u n (two_prefix u d t (n / 256) (n % 256) l.split))
    where
      by : (u : List ℕ) (n : ℕ) → (u ≡ []) ⊎ (u ≡ n / 256 ∷ []) → 8 ≡ place_number (fourteen ++ u)
      by u n (inl e) = rw e
      by u n (inr e) = rw e

  behind_length : (good : ℕ → Bool) (f : List ℕ) (n : ℕ) → Number good f n → Behind (fourteen ++ f)
  behind_length good f n l = (refl, rw l.split (omega arith))

  numbered_skipped : (r : Record) → Numbered place_number (skipped r).field fourteen
  numbered_skipped r =
      numbered_then place_number any_length (skipped_bytes r) fourteen (numbered_length always)
      (λ n f l. numbered_nine _ (fourteen ++ f) (nine_seq _ _ (λ u k p. p) (λ a u k p. absurd p)) (behind_length always f n l))

  nine_port : (m : ℕ) (k : Kind) → AllNine (port m k).field
  nine_port m Local u j p = absurd p
  nine_port m Unspecified u j p = absurd p
  nine_port m (Ip4 t) u j p = p
  nine_port m (Ip6 t) u j p = p
  nine_port m (Unix t) u j p = absurd p

  nine_area : (a n : ℕ) (b : Bool) → AllNine (pick b (just (flat 0) []) (tlvs (n - (a + 3)))).field
  nine_area a n true u j p = absurd p
  nine_area a n false u j p = p

  nine_addresses : (k : Kind) (n : ℕ) → AllNine (addresses k n).field
  nine_addresses k n =
      nine_seq _ _ (λ u j p. p)
      (λ from.
      nine_seq _ _ (λ u j p. p)
      (λ to.
      nine_seq _ _ (nine_port _ k)
      (λ p. nine_seq _ _ (nine_port _ k) (λ q. nine_seq _ _ (nine_area (block_length k) n (eqb n (block_length k))) (λ a u j x. absurd x)))))

  numbered_addressed : (k : Kind) → Numbered place_number (addressed k).field fourteen
  numbered_addressed k =
      numbered_then place_number (block_length_field k) (addresses k) fourteen (numbered_length (fits (block_length k)))
      (λ n f l. numbered_nine _ (fourteen ++ f) (nine_addresses k n) (behind_length (fits (block_length k)) f n l))

  numbered_family : (k : Kind) → Numbered place_number (family_rest k).field fourteen
  numbered_family Local = numbered_skipped (bare Local)
  numbered_family Unspecified = numbered_skipped (bare Unspecified)
  numbered_family (Ip4 t) = numbered_addressed (Ip4 t)
  numbered_family (Ip6 t) = numbered_addressed (Ip6 t)
  numbered_family (Unix t) = numbered_addressed (Unix t)

numbered_command : (x : Command) (c : ℕ) → Numbered place_number (command_rest x).field (signature ++ c ∷ [])
numbered_command local c =
    numbered_then place_number any_byte (λ b. skipped (bare Local)) (signature ++ c ∷ []) (numbered_byte any 7 (signature ++ c ∷ []) refl)
    (λ b f l. subst (λ (t : List ℕ). Numbered place_number (skipped (bare Local)).field (signature ++ c ∷ [] ++ t)) (sym l.split) (numbered_skipped c l.byte (bare Local)))
numbered_command proxy c =
    numbered_then place_number family_field family_rest (signature ++ c ∷ []) (numbered_byte family 7 (signature ++ c ∷ []) refl)
    (λ k f l. subst (λ (t : List ℕ). Numbered place_number (family_rest k).field (signature ++ c ∷ [] ++ t)) (sym l.split) (numbered_family c l.byte k))

pub numbered_block : Numbered place_number block.field []
numbered_block =
    numbered_then place_number signature_field (λ u. from_command) []
    (numbered_text place_number 1 (flat 0) 0 0x0D (0x0A ∷ 0x0D ∷ 0x0A ∷ 0x00 ∷ 0x0D ∷ 0x0A ∷ 0x51 ∷ 0x55 ∷ 0x49 ∷ 0x54 ∷ 0x0A ∷ []) (omega arith) [] refl)
    (λ u f l.
    subst (Numbered place_number from_command.field) (sym l.0)
    (numbered_then place_number command command_rest signature (numbered_byte command_of 6 signature refl)
    (λ x g m. subst (λ (t : List ℕ). Numbered place_number (command_rest x).field (signature ++ t)) (sym m.split) (numbered_command x m.byte))))

-- ── version 1: how many parts have ended ──
ended_append : (u v : List ℕ) → parts_ended (u ++ v) ≡ parts_ended u + parts_ended v
ended_append [] v = omega arith
ended_append (c ∷ u) v = let h = ended_append u v in rw h (omega arith)

clear_prefix : (u : List ℕ) (c : ℕ) (t text : List ℕ) (end : ℕ) → u ++ c ∷ t ≡ text ++ end ∷ [] → parts_ended text ≡ 0 → parts_ended u ≡ 0
clear_prefix [] c t text end e h = refl
clear_prefix (x ∷ []) c t [] end e h = let z : ◌≡◌ {A = ℕ} 0 1 = cc in absurd (omega arith)
clear_prefix (x ∷ y ∷ u) c t [] end e h = let z : ◌≡◌ {A = ℕ} 0 1 = cc in absurd (omega arith)
clear_prefix (x ∷ u) c t (y ∷ text) end e h =
    let same : x ≡ y = cc in
    let rest = clear_prefix u c t text end (cc) (let k = h in omega arith) in
    rw same (let k = h in omega arith)

tcp_more : (before f : List ℕ) (n m : ℕ) → Tcp before n → parts_ended f ≡ m → Tcp (before ++ f) (n + m)
tcp_more before f n m w e =
    let long = w.long in
    let ended = w.ended in
    record {
      long = simp length-append (omega arith);
      first = get_or-append before f 0 0 (omega arith) ∙ w.first;
      seventh = get_or-append before f 0 6 (omega arith) ∙ w.seventh;
      ended = ended_append before f ∙ ap₂ ◌+◌ w.ended e;
    }

tcp_number_lem : (before : List ℕ) (n : ℕ) → Tcp before n → place_number before ≡ tcp_number n
tcp_number_lem before n w =
    let a : get_or before 0 0 ≡ 13 → ⊥ = let h = w.first in omega arith in
    let b : get_or before 6 0 ≡ 85 → ⊥ = let h = w.seventh in omega arith in
    simp (ne_eqb (get_or before 0 0) 13 a, ne_eqb (get_or before 6 0) 85 b, w.ended)

module _ {A : Type 0} (L : List ℕ → A → Type 0) (end : ℕ) (clear : Clear L) (marks : parts_ended (end ∷ []) ≡ 1) where
  pub numbered_ended : (k : ℕ) (before : List ℕ) (n : ℕ) → Tcp before n → k ≡ tcp_number n → Numbered place_number (leaf k (Ended L end)) before
  numbered_ended k before n w e =
      numbered_leaf place_number k (Ended L end) before
      (λ u c t a l.
      let none = clear_prefix u c t l.text end l.split (clear l.text a l.whole) in
      let here = tcp_more before u n 0 w none in
      let zero_more : n ≡ n + 0 = omega arith in
      e ∙ ap tcp_number zero_more ∙ sym (tcp_number_lem (before ++ u) (n + 0) here))

  pub ended_one : (f : List ℕ) (a : A) → Ended L end f a → parts_ended f ≡ 1
  ended_one f a l = rw l.split (ended_append l.text (end ∷ []) ∙ ap₂ ◌+◌ (clear l.text a l.whole) marks)

-- ── what is clear ──
-- a byte that is neither a space nor a CR ends nothing
unmarked : (c : ℕ) (f : List ℕ) → (c ≡ 32 → ⊥) → (c ≡ 13 → ⊥) → parts_ended f ≡ 0 → parts_ended (c ∷ f) ≡ 0
unmarked c f a b e = simp (ne_eqb c 32 a, ne_eqb c 13 b, e)

digits_clear : (f : List ℕ) → Digits f → parts_ended f ≡ 0
digits_clear [] d = refl
digits_clear (c ∷ f) d =
    let low = d.0.0 in
    unmarked c f (λ e. omega arith) (λ e. omega arith) (digits_clear f d.1)

pub decimal_clear : (bound : ℕ) → Clear (Decimal bound)
decimal_clear bound f n l = digits_clear f l.digits

ended_none : (u v : List ℕ) → parts_ended u ≡ 0 → parts_ended v ≡ 0 → parts_ended (u ++ v) ≡ 0
ended_none u v a b = ended_append u v ∙ ap₂ ◌+◌ a b

pub ip4_clear : Clear Ip4Address
ip4_clear f octets l =
    rw l.split
    (ended_none (l.a ++ ascii "." ++ l.b ++ ascii "." ++ l.c ++ ascii ".") l.d
    (ended_none (l.a ++ ascii "." ++ l.b ++ ascii "." ++ l.c) (ascii ".")
    (ended_none (l.a ++ ascii "." ++ l.b ++ ascii ".") l.c
    (ended_none (l.a ++ ascii "." ++ l.b) (ascii ".")
    (ended_none (l.a ++ ascii ".") l.b
    (ended_none l.a (ascii ".") (decimal_clear 255 _ _ l.whole_a) refl)
    (decimal_clear 255 _ _ l.whole_b)) refl)
    (decimal_clear 255 _ _ l.whole_c)) refl)
    (decimal_clear 255 _ _ l.whole_d))

cr_no_digit : hex_of 13 < 16 → ⊥
unfolding hex_of
cr_no_digit h = omega arith

spelt_clear : (f : List ℕ) → Spelt f → parts_ended f ≡ 0
spelt_clear [] s = refl
spelt_clear (c ∷ f) s =
    unmarked c f
    (λ e. ⊎_elim (λ h. space_ends.no_digit (subst (λ (x : ℕ). hex_of x < 16) e h)) (λ h. omega arith) s.0)
    (λ e. ⊎_elim (λ h. cr_no_digit (subst (λ (x : ℕ). hex_of x < 16) e h)) (λ h. omega arith) s.0)
    (spelt_clear f s.1)

pub ip6_clear : Clear Ip6Address
ip6_clear f a l = spelt_clear f (address_bounds f l.groups l.text).spelt

-- ── the lines ──
numbered_feed : (h : Header) (before : List ℕ) → 5 ≡ place_number before → Numbered place_number (line_feed h).field before
numbered_feed h before e =
    numbered_then place_number lf_field (λ x. just (flat 0) h) before
    (numbered_leaf place_number 5 (Literal 0 (10 ∷ [])) before
    (λ u c t a l. e ∙ ap place_number (sym (append-nil before) ∙ ap (λ (x : List ℕ). before ++ x) (sym (one_prefix u c t 10 l.0)))))
    (λ a f l. numbered_just place_number (flat 0) h (before ++ f))

module _ (kind : Kind) (Address : List ℕ → List ℕ → Type 0) (address : AddressParser) (field : AddressField Address address) where
  address_one : (m : ℕ) (f a : List ℕ) → (address m).field.lang f a → parts_ended f ≡ 1
  address_one m f a l = ended_one Address 32 field.clear refl f a ((field.same m f a).0 l)

  -- behind "PROXY TCP4 " or "PROXY TCP6 "
  numbered_parts : (before : List ℕ) → Tcp before 2
      → Numbered place_number (from_source kind address).field before
  numbered_parts before w =
      numbered_then place_number (address (address 5).least) (from_destination kind address) before (field.numbered _ before 2 w refl)
      (λ from f₁ l₁.
      let w₁ = tcp_more before f₁ 2 1 w (address_one _ f₁ from l₁) in
      numbered_then place_number (address 5) (from_source_port kind from) (before ++ f₁) (field.numbered _ (before ++ f₁) 3 w₁ refl)
      (λ to f₂ l₂.
      let w₂ = tcp_more (before ++ f₁) f₂ 3 1 w₁ (address_one _ f₂ to l₂) in
      numbered_then place_number source_port (from_destination_port kind from to) (before ++ f₁ ++ f₂)
      (numbered_ended (Decimal 65535) 32 (decimal_clear 65535) refl 4 (before ++ f₁ ++ f₂) 4 w₂ refl)
      (λ p f₃ l₃.
      let w₃ = tcp_more (before ++ f₁ ++ f₂) f₃ 4 1 w₂ (ended_one (Decimal 65535) 32 (decimal_clear 65535) refl f₃ p l₃) in
      numbered_then place_number destination_port (λ q. line_feed (lined (record_of kind from to p q))) (before ++ f₁ ++ f₂ ++ f₃)
      (numbered_ended (Decimal 65535) 13 (decimal_clear 65535) refl 4 (before ++ f₁ ++ f₂ ++ f₃) 5 w₃ refl)
      (λ q f₄ l₄.
      let w₄ = tcp_more (before ++ f₁ ++ f₂ ++ f₃) f₄ 5 1 w₃ (ended_one (Decimal 65535) 13 (decimal_clear 65535) refl f₄ q l₄) in
      numbered_feed _ (before ++ f₁ ++ f₂ ++ f₃ ++ f₄) (sym (tcp_number_lem _ 6 w₄))))))

  numbered_tcp : (x : ℕ) (small : x < 256) → x ≡ 52 ⊎ x ≡ 54 → Numbered place_number (tcp x small kind address).field (ascii "PROXY TCP")
  numbered_tcp x small digit =
      numbered_then place_number (family_word (from_source kind address).least x small) (λ u. from_source kind address) (ascii "PROXY TCP")
      (numbered_text place_number 2 (flat 0) 0 x (32 ∷ []) (small, (omega arith, tt)) (ascii "PROXY TCP") (⊎_elim (λ e. rw e) (λ e. rw e) digit))
      (λ u f l.
      subst (λ (t : List ℕ). Numbered place_number (from_source kind address).field (ascii "PROXY TCP" ++ t)) (sym l.0)
      (numbered_parts (ascii "PROXY TCP" ++ x ∷ 32 ∷ [])
      (record { long = omega arith; first = refl; seventh = refl; ended = ⊎_elim (λ e. rw e) (λ e. rw e) digit })))

-- behind "PROXY UNKNOWN "
five : (n : ℕ) → 2 ≤ n → 5 ≡ unknown_number n
five n h = let a : 1 ≤ n = omega arith in simp (le-ltb n 1 a, le-ltb n 2 h)

numbered_unknown : Numbered place_number unknown.field (ascii "PROXY ")
numbered_unknown =
    numbered_then place_number unknown_word (λ x. unknown_end) (ascii "PROXY ")
    (numbered_text place_number 2 (flat 0) 0 85 (ascii "NKNOWN") (omega arith) (ascii "PROXY ") refl)
    (λ x f l.
    subst (λ (t : List ℕ). Numbered place_number unknown_end.field (ascii "PROXY " ++ t)) (sym l.0)
    (numbered_either place_number is_cr short_end long_end short_starts long_starts (ascii "PROXY UNKNOWN")
    (numbered_then place_number cr_field (λ y. line_feed (lined (bare Unspecified))) (ascii "PROXY UNKNOWN")
    (numbered_text place_number 2 (flat 0) 0 13 [] (omega arith) (ascii "PROXY UNKNOWN") refl)
    (λ y g m.
    subst (λ (t : List ℕ). Numbered place_number (line_feed (lined (bare Unspecified))).field (ascii "PROXY UNKNOWN" ++ t)) (sym m.0)
    (numbered_feed _ (ascii "PROXY UNKNOWN\r") refl)))
    (numbered_then place_number (space_field 2) (λ y. from_rest) (ascii "PROXY UNKNOWN")
    (numbered_text place_number 2 (flat 0) 0 32 [] (omega arith) (ascii "PROXY UNKNOWN") refl)
    (λ y g m.
    subst (λ (t : List ℕ). Numbered place_number from_rest.field (ascii "PROXY UNKNOWN" ++ t)) (sym m.0)
    (numbered_then place_number rest_field (λ z. just (flat 0) (lined (bare Unspecified))) (ascii "PROXY UNKNOWN ")
    (numbered_leaf place_number 5 (LineEnd 93) (ascii "PROXY UNKNOWN ")
    (λ u c t a k.
    five (parts_ended (ascii "PROXY UNKNOWN " ++ u)) (let h = ended_append (ascii "PROXY UNKNOWN ") u in omega arith)))
    (λ z k n. numbered_just place_number (flat 0) (lined (bare Unspecified)) (ascii "PROXY UNKNOWN " ++ k)))))))

module _ (Address4 Address6 : List ℕ → List ℕ → Type 0) (address4 address6 : AddressParser) (field4 : AddressField Address4 address4)
    (field6 : AddressField Address6 address6)
  where
    pub numbered_line : Numbered place_number (line address4 address6).field []
    numbered_line =
        numbered_then place_number (proxy_word (words address4 address6).least) (λ x. words address4 address6) []
        (numbered_text place_number 1 (flat 0) 0 80 (ascii "ROXY ") (omega arith) [] refl)
        (λ x f l.
        subst (Numbered place_number (words address4 address6).field) (sym l.0)
        (numbered_either place_number is_u unknown (tcps address4 address6) (unknown_starts address4 address6) (tcps_starts address4 address6) (ascii "PROXY ")
        numbered_unknown
        (numbered_then place_number (tcp_word (families address4 address6).least) (λ y. families address4 address6) (ascii "PROXY ")
        (numbered_text place_number 2 (flat 0) 0 84 (ascii "CP") (omega arith) (ascii "PROXY ") refl)
        (λ y g m.
        subst (λ (t : List ℕ). Numbered place_number (families address4 address6).field (ascii "PROXY " ++ t)) (sym m.0)
        (numbered_either place_number is4 (tcp4 address4 address6) (tcp6 address4 address6) (starts4 address4 address6) (starts6 address4 address6) (ascii "PROXY TCP")
        (numbered_tcp (Ip4 Stream) Address4 address4 field4 52 (omega arith) (inl refl))
        (numbered_tcp (Ip6 Stream) Address6 address6 field6 54 (omega arith) (inr refl)))))))
