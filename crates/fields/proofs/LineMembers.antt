-- Lemmas on what specs/LineMembers.antt defines.
use Rattle.std.specs.Prelude.{◌≡◌, refl, List, [], ◌∷◌, ◌++◌, ◌⊎◌, ◌↔◌, ℕ, ◌<◌}
use Rattle.std.proofs.Common.{sym, ap, ap₂, ◌∙◌, subst, append_assoc, append-nil, inl, inr, ⊎_elim, arith}
use Rattle.std.proofs.Math.Seq.{append_snoc}
use Rattle.exact.specs.Ascii.{ascii}
use Rattle.exact.specs.Ended.{Ended}
use Rattle.line_end.specs.Line.{FirstEnd}
use Rattle.record.specs.declared.Transport.TheVariants.{Stream}
use Rattle.record.specs.declared.Kind.{Kind}
use Rattle.record.specs.declared.Kind.TheVariants.{Unspecified, Ip4, Ip6}
use Rattle.record.specs.declared.Record.{Record}
use Rattle.record.specs.Records.{bare}
use Rattle.header.specs.Line.{TcpLine, LongLine, UnknownLine}
use Rattle.header.specs.Header.{Header}
use Rattle.fields.specs.LineFields.{lined, AddressParser, line_feed, tcp, short_end, long_end, unknown, tcp4, tcp6, tcps, line}
use Rattle.fields.specs.LineMembers.{Lined, TcpRest}

-- ── the members of a TCP line ──
-- a text with its end, and what follows
pub chain : (f front back t : List ℕ) (end : ℕ) (rest : List ℕ) → f ≡ front ++ back → front ≡ t ++ end ∷ [] → back ≡ rest
    → f ≡ t ++ (end ∷ rest)
chain f front back t end rest e e' e'' = rw (e, e', e'') (append_snoc t end rest)

module _ (x : ℕ) (small : x < 256) (kind : Kind) (Address : List ℕ → List ℕ → Type 0) (address : AddressParser)
    (same : (m : ℕ) (f a : List ℕ) → (address m).field.lang f a ↔ Ended Address 32 f a)
  where
    tcp_rest : (f : List ℕ) (h : Header) → (tcp x small kind address).field.lang f h → TcpRest x kind Address f h
    tcp_rest f h l =
        let l₁ = l.second in
        let l₂ = l₁.second in
        let l₃ = l₂.second in
        let l₄ = l₃.second in
        let l₅ = l₄.second in
        let source = (same _ _ _).0 l₁.first in
        let destination = (same _ _ _).0 l₂.first in
        record {
          source = source.text;
          destination = destination.text;
          source_port = l₃.first.text;
          destination_port = l₄.first.text;
          split =
              rw (l.split, l.first.0)
              (ap (λ (g : List ℕ). x ∷ 32 ∷ g)
              (chain _ l₁.front l₁.back source.text 32 _ l₁.split source.split
              (chain _ l₂.front l₂.back destination.text 32 _ l₂.split destination.split
              (chain _ l₃.front l₃.back l₃.first.text 32 _ l₃.split l₃.first.split
              (chain _ l₄.front l₄.back l₄.first.text 13 (10 ∷ []) l₄.split l₄.first.split
              (l₅.split ∙ ap₂ ◌++◌ l₅.first.0 l₅.second.0)))))
              ∙ simp append_assoc);
          from = l₁.mid;
          to = l₂.mid;
          p = l₃.mid;
          q = l₄.mid;
          whole_source = source.whole;
          whole_destination = destination.whole;
          whole_source_port = l₃.first.whole;
          whole_destination_port = l₄.first.whole;
          says = l₅.second.1;
        }

    rest_tcp : (f : List ℕ) (h : Header) → TcpRest x kind Address f h → (tcp x small kind address).field.lang f h
    rest_tcp f h w =
        record {
          front = x ∷ 32 ∷ [];
          back = w.source ++ 32 ∷ w.destination ++ 32 ∷ w.source_port ++ 32 ∷ w.destination_port ++ 13 ∷ 10 ∷ [];
          mid = 0;
          split = rw w.split (simp append_assoc);
          first = (refl, refl);
          second = record {
            front = w.source ++ 32 ∷ [];
            back = w.destination ++ 32 ∷ w.source_port ++ 32 ∷ w.destination_port ++ 13 ∷ 10 ∷ [];
            mid = w.from;
            split = simp append_assoc;
            first = (same _ _ _).1 (record { text = w.source; split = refl; whole = w.whole_source });
            second = record {
              front = w.destination ++ 32 ∷ [];
              back = w.source_port ++ 32 ∷ w.destination_port ++ 13 ∷ 10 ∷ [];
              mid = w.to;
              split = simp append_assoc;
              first = (same _ _ _).1 (record { text = w.destination; split = refl; whole = w.whole_destination });
              second = record {
                front = w.source_port ++ 32 ∷ [];
                back = w.destination_port ++ 13 ∷ 10 ∷ [];
                mid = w.p;
                split = simp append_assoc;
                first = record { text = w.source_port; split = refl; whole = w.whole_source_port };
                second = record {
                  front = w.destination_port ++ 13 ∷ [];
                  back = 10 ∷ [];
                  mid = w.q;
                  split = simp append_assoc;
                  first = record { text = w.destination_port; split = refl; whole = w.whole_destination_port };
                  second = record {
                    front = 10 ∷ [];
                    back = [];
                    mid = 0;
                    split = refl;
                    first = (refl, refl);
                    second = (refl, w.says);
                  };
                };
              };
            };
          };
        }

-- ── the members of the whole line ──
lined_of : (h : Header) (r : Record) → h.«record» ≡ r → h.version ≡ 1 → h.area ≡ [] → h ≡ lined r
lined_of h r a b c = λ i. record { «record» = a i; version = b i; area = c i }

says_lined : (h : Header) (r : Record) → h ≡ lined r → (h.«record» ≡ r) × (h.version ≡ 1) × (h.area ≡ [])
says_lined h r e =
    (ap (λ (x : Header). x.«record») e, ap (λ (x : Header). x.version) e, ap (λ (x : Header). x.area) e)

-- the last field of a line, which says h
fed : (h g : Header) (f : List ℕ) → (line_feed h).field.lang f g → (f ≡ 10 ∷ []) × (g ≡ h)
fed h g f l = (l.split ∙ ap₂ ◌++◌ l.first.0 l.second.0, l.second.1)

feeds : (h g : Header) → g ≡ h → (line_feed h).field.lang (10 ∷ []) g
feeds h g e = record { front = 10 ∷ []; back = []; mid = 0; split = refl; first = (refl, refl); second = (refl, e) }

module _ (f : List ℕ) (h : Header) where
  -- behind "PROXY UNKNOWN"
  abbrev UnknownRest : List ℕ → Type 0
  UnknownRest g =
      ((g ≡ 13 ∷ 10 ∷ []) ⊎ ((rest : List ℕ) × (g ≡ 32 ∷ rest) × FirstEnd 93 rest)) × (h ≡ lined (bare Unspecified))

  short_rest : (g : List ℕ) → short_end.field.lang g h → UnknownRest g
  short_rest g l =
      let e = fed _ h l.back l.second in
      (inl (l.split ∙ ap₂ ◌++◌ l.first.0 e.0), e.1)

  long_rest : (g : List ℕ) → long_end.field.lang g h → UnknownRest g
  long_rest g l =
      let m = l.second in
      let whole : l.back ≡ m.front = m.split ∙ ap (λ (r : List ℕ). m.front ++ r) m.second.0 ∙ append-nil m.front in
      (inr (m.front, l.split ∙ ap₂ ◌++◌ l.first.0 whole, m.first.0), m.second.1)

  unknown_rest : (g : List ℕ) → unknown.field.lang g h → UnknownLine (ascii "PROXY " ++ g) h.«record»
  unknown_rest g l =
      let r = ⊎_elim (short_rest l.back) (long_rest l.back) l.second in
      let front : ascii "PROXY " ++ g ≡ ascii "PROXY UNKNOWN" ++ l.back = rw (l.split, l.first.0) in (
        ⊎_elim (λ e. inl (front ∙ ap (λ (t : List ℕ). ascii "PROXY UNKNOWN" ++ t) e))
            (λ m. inr (record { rest = m.0; split = front ∙ ap (λ (t : List ℕ). ascii "PROXY UNKNOWN" ++ t) m.1; end = m.2 }))
            r.0,
        (says_lined h _ r.1).0,
      )

  rest_unknown : UnknownLine f h.«record» → h ≡ lined (bare Unspecified) → (g : List ℕ) × (f ≡ ascii "PROXY " ++ g) × unknown.field.lang g h
  rest_unknown l e = ⊎_elim short long l.0
    where
      short : f ≡ ascii "PROXY UNKNOWN\r\n" → (g : List ℕ) × (f ≡ ascii "PROXY " ++ g) × unknown.field.lang g h
      short s = (
        ascii "UNKNOWN\r\n",
        s,
        record {
          front = ascii "UNKNOWN";
          back = ascii "\r\n";
          mid = 0;
          split = refl;
          first = (refl, refl);
          second = inl (record { front = 13 ∷ []; back = 10 ∷ []; mid = 0; split = refl; first = (refl, refl); second = feeds _ h e });
        },
      )

      long : LongLine f → (g : List ℕ) × (f ≡ ascii "PROXY " ++ g) × unknown.field.lang g h
      long m = (
        ascii "UNKNOWN " ++ m.rest,
        m.split,
        record {
          front = ascii "UNKNOWN";
          back = 32 ∷ m.rest;
          mid = 0;
          split = refl;
          first = (refl, refl);
          second = inr (record {
            front = 32 ∷ [];
            back = m.rest;
            mid = 0;
            split = refl;
            first = (refl, refl);
            second = record {
              front = m.rest;
              back = [];
              mid = 0;
              split = sym (append-nil m.rest);
              first = (m.end, refl);
              second = (refl, e);
            };
          });
        },
      )

module _ (x : ℕ) (small : x < 256) (kind : Kind) (Address : List ℕ → List ℕ → Type 0) (address : AddressParser)
    (same : (m : ℕ) (f a : List ℕ) → (address m).field.lang f a ↔ Ended Address 32 f a)
  where
    tcp_line : (g : List ℕ) (h : Header) → (tcp x small kind address).field.lang g h
        → Lined (TcpLine (ascii "TCP" ++ x ∷ []) kind Address) (ascii "PROXY TCP" ++ g) h
    tcp_line g h l =
        let w = tcp_rest x small kind Address address same g h l in
        let s = says_lined h _ w.says in (
          record {
            source = w.source;
            destination = w.destination;
            source_port = w.source_port;
            destination_port = w.destination_port;
            split = ap (λ (t : List ℕ). ascii "PROXY TCP" ++ t) w.split ∙ simp append_assoc;
            from = w.from;
            to = w.to;
            p = w.p;
            q = w.q;
            whole_source = w.whole_source;
            whole_destination = w.whole_destination;
            whole_source_port = w.whole_source_port;
            whole_destination_port = w.whole_destination_port;
            says = s.0;
          },
          s.1,
          s.2,
        )

    line_tcp : (f : List ℕ) (h : Header) → Lined (TcpLine (ascii "TCP" ++ x ∷ []) kind Address) f h
        → (g : List ℕ) × (f ≡ ascii "PROXY TCP" ++ g) × (tcp x small kind address).field.lang g h
    line_tcp f h l =
        let w = l.0 in
        let g = x ∷ 32 ∷ w.source ++ 32 ∷ w.destination ++ 32 ∷ w.source_port ++ 32 ∷ w.destination_port ++ 13 ∷ 10 ∷ [] in (
          g,
          w.split ∙ simp append_assoc,
          rest_tcp x small kind Address address same g h
              (record {
                source = w.source;
                destination = w.destination;
                source_port = w.source_port;
                destination_port = w.destination_port;
                split = refl;
                from = w.from;
                to = w.to;
                p = w.p;
                q = w.q;
                whole_source = w.whole_source;
                whole_destination = w.whole_destination;
                whole_source_port = w.whole_source_port;
                whole_destination_port = w.whole_destination_port;
                says = lined_of h _ w.says l.1 l.2;
              }),
        )

module _ (Address4 Address6 : List ℕ → List ℕ → Type 0) (address4 address6 : AddressParser)
    (same4 : (m : ℕ) (f a : List ℕ) → (address4 m).field.lang f a ↔ Ended Address4 32 f a)
    (same6 : (m : ℕ) (f a : List ℕ) → (address6 m).field.lang f a ↔ Ended Address6 32 f a)
  where
    abbrev pub AnyLine : List ℕ → Record → Type 0
    AnyLine f r = UnknownLine f r ⊎ (TcpLine (ascii "TCP4") (Ip4 Stream) Address4 f r ⊎ TcpLine (ascii "TCP6") (Ip6 Stream) Address6 f r)

    tcps_line : (g : List ℕ) (h : Header) → (tcps address4 address6).field.lang g h → Lined AnyLine (ascii "PROXY " ++ g) h
    tcps_line g h l =
        let front : ascii "PROXY " ++ g ≡ ascii "PROXY TCP" ++ l.back = rw (l.split, l.first.0) in
        subst (λ (t : List ℕ). Lined AnyLine t h) (sym front)
        (⊎_elim
        (λ m. let w = tcp_line 52 (omega arith) (Ip4 Stream) Address4 address4 same4 l.back h m in (inr (inl w.0), w.1, w.2))
        (λ m. let w = tcp_line 54 (omega arith) (Ip6 Stream) Address6 address6 same6 l.back h m in (inr (inr w.0), w.1, w.2))
        l.second)

    unknown_line : (g : List ℕ) (h : Header) → unknown.field.lang g h → Lined AnyLine (ascii "PROXY " ++ g) h
    unknown_line g h l =
        let r = ⊎_elim (short_rest g h l.back) (long_rest g h l.back) l.second in
        let s = says_lined h _ r.1 in
        (inl (unknown_rest g h g l), s.1, s.2)

    line_members : (f : List ℕ) (h : Header) → (line address4 address6).field.lang f h → Lined AnyLine f h
    line_members f h l =
        let front : f ≡ ascii "PROXY " ++ l.back = l.split ∙ ap (λ (t : List ℕ). t ++ l.back) l.first.0 in
        subst (λ (t : List ℕ). Lined AnyLine t h) (sym front)
        (⊎_elim (unknown_line l.back h) (tcps_line l.back h) l.second)

    -- "PROXY ", and what follows
    proxied : (f g : List ℕ) (h : Header) → f ≡ ascii "PROXY " ++ g
        → unknown.field.lang g h ⊎ (tcps address4 address6).field.lang g h → (line address4 address6).field.lang f h
    proxied f g h e l =
        record { front = ascii "PROXY "; back = g; mid = 0; split = e; first = (refl, refl); second = l }

    tcp_proxied : (f g : List ℕ) (h : Header) → f ≡ ascii "PROXY TCP" ++ g
        → (tcp4 address4 address6).field.lang g h ⊎ (tcp6 address4 address6).field.lang g h → (line address4 address6).field.lang f h
    tcp_proxied f g h e l =
        proxied f (ascii "TCP" ++ g) h e
        (inr (record { front = ascii "TCP"; back = g; mid = 0; split = refl; first = (refl, refl); second = l }))

    members_line : (f : List ℕ) (h : Header) → Lined AnyLine f h → (line address4 address6).field.lang f h
    members_line f h l =
        ⊎_elim
        (λ u. let w = rest_unknown f h u (lined_of h _ u.1 l.1 l.2) in proxied f w.0 h w.1 (inl w.2))
        (⊎_elim
        (λ t. let w = line_tcp 52 (omega arith) (Ip4 Stream) Address4 address4 same4 f h (t, l.1, l.2) in tcp_proxied f w.0 h w.1 (inl w.2))
        (λ t. let w = line_tcp 54 (omega arith) (Ip6 Stream) Address6 address6 same6 f h (t, l.1, l.2) in tcp_proxied f w.0 h w.1 (inr w.2)))
        l.0

    pub line_same : (f : List ℕ) (h : Header) → (line address4 address6).field.lang f h ↔ Lined AnyLine f h
    line_same f h = (line_members f h, members_line f h)
