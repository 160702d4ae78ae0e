-- For proofs. An address takes the machine to its end.
use Rattle.std.specs.Prelude.{◌≡◌, refl, Bool, true, false, List, [], ◌∷◌, ◌++◌, ℕ, ◌+◌, ◌*◌, ◌≤◌, ◌<◌, ltb, length}
use Rattle.std.proofs.Common.{◌∙◌, subst, append_assoc, ⊎_elim, arith, length-append, ltb-true, lt-ltb, eq-eqb, ne_eqb}
use Rattle.exact.specs.Ended.{Ended}
use Rattle.exact.specs.MachineLaws.{runs_at}
use Rattle.exact.specs.Machine.{dead, Runs}
use Rattle.hex_digits.specs.Hex.{hex_of}
use Rattle.ip6.specs.Address.{HexDigits, hex_number, Group, Groups, Full, Side, filled, Shortened, Address, Ending}
use Rattle.ip6.specs.Machine.{Gathered, plain, gapped, push, room, State, start, digits, behind, colon, gap, inside, step}
use Rattle.ip6.specs.Read.{Fits}
use Rattle.ip6.specs.Steps.{colon_no_digit, digit_no_colon, Takes, goes, ends, alike, gap_end, follow-colon, follow_end, inside_digit, inside-follow}

-- groups behind those seen
abbrev all : Gathered → List ℕ → Gathered
all (plain l) vs = plain (l ++ vs)
all (gapped l r) vs = gapped l (r ++ vs)

push_one : (s : Gathered) (v : ℕ) → all s (v ∷ []) ≡ push s v
push_one (plain l) v = refl
push_one (gapped l r) v = refl

push-all : (s : Gathered) (v : ℕ) (vs : List ℕ) → all s (v ∷ vs) ≡ all (push s v) vs
push-all (plain l) v vs = simp append_assoc
push-all (gapped l r) v vs = simp append_assoc

room-all : (s : Gathered) (v w : ℕ) (vs : List ℕ) → Fits (all s (v ∷ w ∷ vs)) → room (push s v) ≡ true
room-all (plain l) v w vs h =
    lt-ltb (length (l ++ v ∷ [])) 8 (let k = simp length-append at h in simp length-append (omega arith))
room-all (gapped l r) v w vs h =
    lt-ltb (length l + length (r ++ v ∷ [])) 7 (let k = simp length-append at h in simp length-append (omega arith))

module _ (end : ℕ) (e : Ending end) where
  digits_walk : (ds : List ℕ) (s : Gathered) (n v c : ℕ) (t vs : List ℕ) → HexDigits ds → (n + length ds ≡ 0 → ⊥) → n + length ds ≤ 4
      → (hex_of c < 16 → ⊥) → Takes end (behind (push s (hex_number v ds))) (c ∷ t) vs → Takes end (digits s n v) (ds ++ c ∷ t) vs
  digits_walk [] s n v c t vs h some few other r =
      alike end (digits s n v) (behind (push s v)) c t vs (inside-follow end s n v c other (λ z. some (omega arith))) r
  digits_walk (d ∷ ds) s n v c t vs h some few other r =
      goes end (digits s n v) (digits s (n + 1) (v * 16 + hex_of d)) d (ds ++ c ∷ t) vs (inside_digit end s n v d h.0 (omega arith))
      (digits_walk ds s (n + 1) (v * 16 + hex_of d) c t vs h.1 (λ z. omega arith) (omega arith) other r)

  group_walk : (g : List ℕ) (v : ℕ) (s : Gathered) (c : ℕ) (t vs : List ℕ) → Group g v → (hex_of c < 16 → ⊥)
      → Takes end (behind (push s v)) (c ∷ t) vs → Takes end (digits s 0 0) (g ++ c ∷ t) vs
  group_walk g v s c t vs a other r =
      let some = a.some in
      let few = a.few in
      digits_walk g s 0 0 c t vs a.digits (λ z. omega arith) (omega arith) other
      (subst (λ (x : ℕ). Takes end (behind (push s x)) (c ∷ t) vs) a.value r)

  -- where a group begins, the first byte is a digit
  first_digit : (q : State) (s : Gathered) → ((c : ℕ) → hex_of c < 16 → step end q c ≡ inside end s 0 0 c) → (f vs : List ℕ)
      → Takes end (digits s 0 0) f vs → Takes end q f vs
  first_digit q s same [] vs r = absurd r
  first_digit q s same (c ∷ f) vs r = by (ltb (hex_of c) 16) refl
    where
      by : (b : Bool) → ltb (hex_of c) 16 ≡ b → Takes end q (c ∷ f) vs
      by true t = alike end q (digits s 0 0) c f vs (same c (ltb-true (hex_of c) 16 t)) r
      by false t = absurd ((runs_at (step end) (digits s 0 0) c dead (rw t) f vs).0 r)

  group_start : (f vs : List ℕ) → Takes end (digits (plain []) 0 0) f vs → Takes end start f vs
  group_start = first_digit start (plain []) (λ c h. simp (ne_eqb c 58 (digit_no_colon c h)))

  group_colon : (s : Gathered) (v : ℕ) (f vs : List ℕ) → Takes end (digits (push s v) 0 0) f vs → Takes end (colon (push s v)) f vs
  group_colon (plain []) v = first_digit (colon (plain (v ∷ []))) (plain (v ∷ [])) (λ c h. simp (ne_eqb c 58 (digit_no_colon c h)))
  group_colon (plain (x ∷ l)) v =
      first_digit (colon (plain (x ∷ (l ++ v ∷ [])))) (plain (x ∷ (l ++ v ∷ []))) (λ c h. simp (ne_eqb c 58 (digit_no_colon c h)))
  group_colon (gapped l r) v = first_digit (colon (gapped l (r ++ v ∷ []))) (gapped l (r ++ v ∷ [])) (λ c h. refl)

  group_gap : (l : List ℕ) → room (gapped l []) ≡ true → (f vs : List ℕ) → Takes end (digits (gapped l []) 0 0) f vs → Takes end (gap l) f vs
  group_gap l h =
      first_digit (gap l) (gapped l [])
      (λ c d. simp (ne_eqb c end (λ z. e.no_digit (rw z at d)), h))

  groups_walk : (ws f : List ℕ) (s : Gathered) (c : ℕ) (t vs : List ℕ) → Groups f ws → Fits (all s ws) → (hex_of c < 16 → ⊥)
      → Takes end (behind (all s ws)) (c ∷ t) vs → Takes end (digits s 0 0) (f ++ c ∷ t) vs
  groups_walk [] f s c t vs g h other r = absurd g
  groups_walk (v ∷ []) f s c t vs g h other r = group_walk f v s c t vs g other (rw (push_one s v) at r)
  groups_walk (v ∷ w ∷ ws) f s c t vs g h other r =
      let on : Takes end (digits (push s v) 0 0) (g.1 ++ c ∷ t) vs =
      groups_walk (w ∷ ws) g.1 (push s v) c t vs g.4 (rw (push-all s v (w ∷ ws)) at h) other (rw (push-all s v (w ∷ ws)) at r)
      in
      let here : Takes end (behind (push s v)) (58 ∷ (g.1 ++ c ∷ t)) vs =
      goes end (behind (push s v)) (colon (push s v)) 58 (g.1 ++ c ∷ t) vs (follow-colon end (push s v) (room-all s v w ws h))
      (group_colon s v (g.1 ++ c ∷ t) vs on)
      in
      let split : f ++ c ∷ t ≡ g.0 ++ 58 ∷ (g.1 ++ c ∷ t) = rw g.2 (simp append_assoc) in
      rw split (group_walk g.0 v s 58 (g.1 ++ c ∷ t) vs g.3 colon_no_digit here)

  -- "::", and what stands behind it
  right_walk : (l r f : List ℕ) → Side f r → length l + length r ≤ 7 → Takes end (gap l) (f ++ end ∷ []) (filled l r)
  right_walk l [] f a h = rw a (ends end (gap l) end (filled l []) (gap_end end l))
  right_walk l (v ∷ r) f a h =
      group_gap l (lt-ltb (length l + 0) 7 (omega arith)) (f ++ end ∷ []) (filled l (v ∷ r))
      (groups_walk (v ∷ r) f (gapped l []) end [] (filled l (v ∷ r)) a h e.no_digit
      (ends end (behind (gapped l (v ∷ r))) end (filled l (v ∷ r)) (follow_end end e (gapped l (v ∷ r)))))

  left_walk : (l f t vs : List ℕ) → Side f l → length l ≤ 7 → Takes end (gap l) t vs → Takes end start (f ++ 58 ∷ 58 ∷ t) vs
  left_walk [] f t vs a h r =
      rw a (goes end start (colon (plain [])) 58 (58 ∷ t) vs refl (goes end (colon (plain [])) (gap []) 58 t vs refl r))
  left_walk (v ∷ l) f t vs a h r =
      group_start (f ++ 58 ∷ 58 ∷ t) vs
      (groups_walk (v ∷ l) f (plain []) 58 (58 ∷ t) vs a (omega arith) colon_no_digit
      (goes end (behind (plain (v ∷ l))) (colon (plain (v ∷ l))) 58 (58 ∷ t) vs
      (follow-colon end (plain (v ∷ l)) (lt-ltb (length (v ∷ l)) 8 (omega arith)))
      (goes end (colon (plain (v ∷ l))) (gap (v ∷ l)) 58 t vs refl r)))

  full_walk : (f vs : List ℕ) → Full f vs → Takes end start (f ++ end ∷ []) vs
  full_walk f vs a =
      let n = a.eight in
      group_start (f ++ end ∷ []) vs
      (groups_walk vs f (plain []) end [] vs a.groups (omega arith) e.no_digit
      (ends end (behind (plain vs)) end vs (follow_end end e (plain vs) ∙ simp (eq-eqb (length vs) 8 n))))

  shortened_walk : (f vs : List ℕ) → Shortened f vs → Takes end start (f ++ end ∷ []) vs
  shortened_walk f vs a =
      let split : f ++ end ∷ [] ≡ a.left ++ 58 ∷ 58 ∷ (a.right ++ end ∷ []) = rw a.split (simp append_assoc) in
      rw (split, a.value)
      (left_walk a.before a.left (a.right ++ end ∷ []) (filled a.before a.behind) a.left_side
      (let h = a.seven in omega arith) (right_walk a.before a.behind a.right a.right_side a.seven))

  -- an address, with the byte that ends it, takes the machine to its end
  pub address_runs : (f vs : List ℕ) → Ended Address end f vs → Runs (step end) start f vs
  address_runs f vs a = rw a.split (⊎_elim (full_walk a.text vs) (shortened_walk a.text vs) a.whole)
