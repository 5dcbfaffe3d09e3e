-- Reading gives back what was written: values.
use mathlib.Core.Path.{◌≡◌, refl, sym, ap, ◌∙◌, subst}
use mathlib.Core.Option.{Option, none, some}
use mathlib.Core.List.{List, [], ◌∷◌, ◌++◌, map, append_assoc}
use mathlib.Core.Bool.{Bool, ◌&&◌, cond}
use Prim.Native.Nat.{ℕ, zero, suc, ◌+◌, ◌*◌, ◌^◌, ◌%◌, ◌/◌, ◌<◌, ◌≤◌}
use native.Mathlib.Omega.{arith}
use native.Mathlib.Nat.{not-suc-le-zero, pow-suc, suc-mul, zero-mul}
use lib.Dec.{T, leb, eqb, eqb→eq, eqb_refl, leb→le, le→leb, ltb→lt}
use lib.ListN.{length, take, drop, length-take, length-drop, take-append-drop}
use Rattle.meaning.specs.Kinds.{Kind, bool, aint, afloat, i32, u32, f32, f16, kind_no, pay_width, payloads, same_kind, is_float}
use Rattle.meaning.specs.Trees.{Ty, Val, Vs, Vv, Vm, Va, Vu, Vals, ⟨⟩, ◌▹◌, type_of, types_of, first, tys_list, vals_list, vals_of, depth}
use Rattle.meaning.specs.Trees.{depths, count_vals}
use Rattle.meaning.specs.Records.{le, lit_bytes, joined, vec_bytes, columns, val_bytes, vals_bytes, good_lit, every, shaped_val, shaped_vals}
use Rattle.meaning.specs.Records.{shaped_ty, shaped_tys, all_same, side, u16}
use Rattle.meaning.specs.Read.{p_kind, p_payload, p_lit, p_vs, p_vv, p_rows, p_vm, p_va, p_vu, p_val, one_kind, flat, p_number, many, Parser, ◌>>=◌}
use Rattle.meaning.specs.Read.{give, lift, marked}
use Rattle.laws.proofs.AgreeConv.{AllTy, all_first, true_of}
use Rattle.laws.proofs.Back.{and_l, and_r, after, kind_read, two_bytes}
use Rattle.laws.proofs.Same.{both, same_kind_refl}

-- ---- numbers and literals

div_step : (p X : ℕ) → p < X * 256 → p / 256 < X
div_step p X h = omega arith

pub number_back : (w p : ℕ) (rest : List ℕ) → p < 256 ^ w → p_number w (le w p ++ rest) ≡ some (p, rest)
unfolding le
number_back zero p rest h = ap (λ (x : ℕ). some (x, rest)) (omega arith)
number_back (suc w) p rest h =
    after (p_number w) (λ n. give (p % 256 + 256 * n)) (le w (p / 256) ++ rest) (p / 256) rest
    (number_back w (p / 256) rest (div_step p (256 ^ w) (rw pow-suc at h)))
    ∙ ap (λ (x : ℕ). some (x, rest)) (split p)
  where
    split : (p : ℕ) → p % 256 + 256 * (p / 256) ≡ p
    split p = omega arith

pub lit_fits_lem : (k : Kind) (p : ℕ) → T (good_lit k p) → p < 256 ^ pay_width k
unfolding good_lit payloads pay_width
lit_fits_lem bool p g = omega (arith, ltb→lt p 2 g)
lit_fits_lem aint p g = ltb→lt p (2 ^ 64) g
lit_fits_lem afloat p g = ltb→lt p (2 ^ 64) g
lit_fits_lem i32 p g = omega (arith, ltb→lt p (2 ^ 32) g)
lit_fits_lem u32 p g = omega (arith, ltb→lt p (2 ^ 32) g)
lit_fits_lem f32 p g = omega (arith, ltb→lt p (2 ^ 32) g)
lit_fits_lem f16 p g = omega (arith, ltb→lt p (2 ^ 16) g)

payload_back : (k : Kind) (p : ℕ) (rest : List ℕ) → T (good_lit k p) → p_payload (kind_no k ∷ (le (pay_width k) p ++ rest)) ≡ some
    ((k, p), rest)
unfolding p_payload
payload_back k p rest g =
    after p_kind (λ i. ◌>>=◌ (p_number (pay_width i)) (λ n. give (i, n))) (kind_no k ∷ (le (pay_width k) p ++ rest)) k
    (le (pay_width k) p ++ rest) (kind_read k (le (pay_width k) p ++ rest))
    ∙ after (p_number (pay_width k)) (λ n. give (k, n)) (le (pay_width k) p ++ rest) p rest (number_back (pay_width k) p rest (lit_fits_lem k p g))

lit_back : (k : Kind) (p : ℕ) (rest : List ℕ) → T (good_lit k p) → p_lit (lit_bytes k p ++ rest) ≡ some ((k, p), rest)
unfolding p_lit lit_bytes
lit_back k p rest g = payload_back k p rest g

unfoldable pub pairs : Kind → List ℕ → List (Kind × ℕ)
pairs k ps = map (λ p. (k, p)) ps

lits_back : (k : Kind) (ps : List ℕ) (rest : List ℕ) → T (every (good_lit k) ps)
    → many p_lit (length ps) (joined (lit_bytes k) ps ++ rest) ≡ some (pairs k ps, rest)
unfolding every joined pairs
lits_back k [] rest g = refl
lits_back k (p ∷ ps) rest g =
    rw append_assoc
    (after p_lit (λ x. ◌>>=◌ (many p_lit (length ps)) (λ xs. give (x ∷ xs))) _ (k, p) (joined (lit_bytes k) ps ++ rest)
    (lit_back k p (joined (lit_bytes k) ps ++ rest) (and_l (good_lit k p) (every (good_lit k) ps) g))
    ∙ after (many p_lit (length ps)) (λ xs. give ((k, p) ∷ xs)) _ (pairs k ps) rest
    (lits_back k ps rest (and_r (good_lit k p) (every (good_lit k) ps) g)))

all_same_kind : (k : Kind) (ps : List ℕ) → T (every (λ b. same_kind b.0 k) (pairs k ps))
unfolding every pairs
all_same_kind k [] = tt
all_same_kind k (p ∷ ps) = both (same_kind k k) (every (λ b. same_kind b.0 k) (pairs k ps)) (same_kind_refl k) (all_same_kind k ps)

seconds : (k : Kind) (ps : List ℕ) → map (λ b. b.1) (pairs k ps) ≡ ps
unfolding pairs
seconds k [] = refl
seconds k (p ∷ ps) = ap (p ∷◌) (seconds k ps)

one_kind_lem : (k : Kind) (ps : List ℕ) → T (leb 1 (length ps)) → one_kind (pairs k ps) ≡ some (k, ps)
unfolding one_kind pairs
one_kind_lem k [] h = absurd h
one_kind_lem k (p ∷ ps) h = rw (true_of (every (λ b. same_kind b.0 k) (map (λ p. (k, p)) ps)) (all_same_kind k ps))
    (ap (λ (x : List ℕ). some (k, p ∷ x)) (seconds k ps))

-- ---- columns

pairs_append : (k : Kind) (a b : List ℕ) → pairs k a ++ pairs k b ≡ pairs k (a ++ b)
unfolding pairs
pairs_append k [] b = refl
pairs_append k (x ∷ a) b = ap ((k, x) ∷◌) (pairs_append k a b)

pub drop_len : (c r : ℕ) (ps : List ℕ) → length ps ≡ suc c * r → length (drop r ps) ≡ c * r
drop_len c r ps h = length-drop r ps ∙ omega (arith, h ∙ suc-mul c r)

pub take_len : (c r : ℕ) (ps : List ℕ) → length ps ≡ suc c * r → length (take r ps) ≡ r
take_len c r ps h = length-take r ps ∙ omega (arith, h ∙ suc-mul c r)

flat_map : (k : Kind) (c r : ℕ) (ps : List ℕ) → length ps ≡ c * r → flat (map (pairs k) (columns c r ps)) ≡ pairs k ps
unfolding flat columns pairs
flat_map k zero r [] h = refl
flat_map k zero r (p ∷ ps) h = absurd (omega (arith, h ∙ zero-mul r))
flat_map k (suc c) r ps h =
    ap (λ (x : List (Kind × ℕ)). pairs k (take r ps) ++ x) (flat_map k c r (drop r ps) (drop_len c r ps h))
    ∙ (pairs_append k (take r ps) (drop r ps) ∙ ap (pairs k) (take-append-drop r ps))

pub every_take : (f : ℕ → Bool) (r : ℕ) (ps : List ℕ) → T (every f ps) → T (every f (take r ps))
unfolding every
every_take f zero ps h = tt
every_take f (suc r) [] h = tt
every_take f (suc r) (p ∷ ps) h = both (f p) (every f (take r ps)) (and_l (f p) (every f ps) h)
    (every_take f r ps (and_r (f p) (every f ps) h))

pub every_drop : (f : ℕ → Bool) (r : ℕ) (ps : List ℕ) → T (every f ps) → T (every f (drop r ps))
unfolding every
every_drop f zero ps h = h
every_drop f (suc r) [] h = tt
every_drop f (suc r) (p ∷ ps) h = every_drop f r ps (and_r (f p) (every f ps) h)

column : ℕ → Parser (List (Kind × ℕ))
column r = marked 86 ((118, p_rows r) ∷ [])

col_back : (k : Kind) (r : ℕ) (qs rest : List ℕ) → length qs ≡ r → T (every (good_lit k) qs)
    → column r (vec_bytes k qs ++ rest) ≡ some (pairs k qs, rest)
unfolding column p_rows vec_bytes
col_back k r qs rest e g =
    after (many p_lit (length qs)) (λ l. cond (eqb (length qs) r) (give l) (λ s. none)) _ (pairs k qs) rest (lits_back k qs rest g)
    ∙ rw (true_of (eqb (length qs) r) (subst (λ (i : ℕ). T (eqb (length qs) i)) e (eqb_refl (length qs))))

cols_back : (k : Kind) (c r : ℕ) (ps rest : List ℕ) → length ps ≡ c * r → T (every (good_lit k) ps)
    → many (column r) c (joined (vec_bytes k) (columns c r ps) ++ rest) ≡ some (map (pairs k) (columns c r ps), rest)
unfolding joined columns
cols_back k zero r ps rest h g = refl
cols_back k (suc c) r ps rest h g =
    rw append_assoc
    (after (column r) (λ x. ◌>>=◌ (many (column r) c) (λ xs. give (x ∷ xs))) _ (pairs k (take r ps))
    (joined (vec_bytes k) (columns c r (drop r ps)) ++ rest)
    (col_back k r (take r ps) (joined (vec_bytes k) (columns c r (drop r ps)) ++ rest) (take_len c r ps h) (every_take (good_lit k) r ps g))
    ∙ after (many (column r) c) (λ xs. give (pairs k (take r ps) ∷ xs)) _ (map (pairs k) (columns c r (drop r ps))) rest
    (cols_back k c r (drop r ps) rest (drop_len c r ps h) (every_drop (good_lit k) r ps g)))

prod_pos : (c r : ℕ) → 2 ≤ c → 2 ≤ r → 1 ≤ c * r
prod_pos zero r h k = absurd (not-suc-le-zero h)
prod_pos (suc c) r h k = rw (suc-mul c r) (omega arith)

-- ---- values

vals_of_lem : (m : Vals) → vals_of (vals_list m) ≡ m
unfolding vals_of vals_list
vals_of_lem ⟨⟩ = refl
vals_of_lem (v ▹ m) = ap (v ▹◌) (vals_of_lem m)

-- the elements of an array have its element's type
pub one_type : (t : Ty) (m : Vals) (d : ℕ) → AllTy t m → T (shaped_ty t) → depth t < d → T (shaped_tys (types_of m)) × (depths (types_of m) < d)
unfolding shaped_tys types_of depths
one_type t ⟨⟩ d a g h = (tt, omega arith)
one_type t (v ▹ m) d a g h =
    let r = one_type t m d a.1 g h in
    let x : depth (type_of v) < d = subst (λ (u : Ty). depth u < d) (sym a.0) h in
    let y : depths (types_of m) < d = r.1 in
    (both (shaped_ty (type_of v)) (shaped_tys (types_of m)) (subst (λ (u : Ty). T (shaped_ty u)) (sym a.0) g) r.0, omega arith)

pub count_types : (m : Vals) → length (tys_list (types_of m)) ≡ count_vals m
unfolding tys_list types_of count_vals
count_types ⟨⟩ = refl
count_types (v ▹ m) = ap suc (count_types m)

mutual
  unfolding column p_val val_bytes p_vs p_vv p_vm p_va p_vu lit_bytes vec_bytes le shaped_val shaped_ty depth u16 side type_of count_vals vals_list

  pub val_back : (v : Val) (d : ℕ) → T (shaped_val v) → T (shaped_ty (type_of v)) → depth (type_of v) < d → (rest : List ℕ)
      → p_val d (val_bytes v ++ rest) ≡ some (v, rest)
  val_back (Vs k p) zero g t h rest = absurd (not-suc-le-zero h)
  val_back (Vs k p) (suc d) g t h rest = after p_payload (λ l. give (Vs l.0 l.1)) _ (k, p) rest (payload_back k p rest g)
  val_back (Vv k ps) zero g t h rest = absurd (not-suc-le-zero h)
  val_back (Vv k ps) (suc d) g t h rest =
      after (many p_lit (length ps)) (λ l. ◌>>=◌ (lift (one_kind l)) (λ kp. give (Vv kp.0 kp.1))) _ (pairs k ps) rest
      (lits_back k ps rest g)
      ∙ after (lift (one_kind (pairs k ps))) (λ kp. give (Vv kp.0 kp.1)) rest (k, ps) rest
      (ap (λ (x : Option (Kind × List ℕ)). lift x rest) (one_kind_lem k ps
      (le→leb 1 (length ps) (omega (arith, leb→le 2 (length ps) (and_l (leb 2 (length ps)) (leb (length ps) 4) t))))))
  val_back (Vm c r k ps) zero g t h rest = absurd (not-suc-le-zero h)
  val_back (Vm c r k ps) (suc d) g t h rest =
      let e : length ps ≡ c * r = eqb→eq (length ps) (c * r) (and_r (every (good_lit k) ps) (eqb (length ps) (c * r)) g) in
      after (many (column r) c) (λ l. ◌>>=◌ (lift (one_kind (flat l))) (λ kp. give (Vm c r kp.0 kp.1))) _
      (map (pairs k) (columns c r ps)) rest
      (cols_back k c r ps rest e (and_l (every (good_lit k) ps) (eqb (length ps) (c * r)) g))
      ∙ after (lift (one_kind (flat (map (pairs k) (columns c r ps))))) (λ kp. give (Vm c r kp.0 kp.1)) rest (k, ps) rest
      (ap (λ (x : Option (Kind × List ℕ)). lift x rest) (ap one_kind (flat_map k c r ps e) ∙ one_kind_lem k ps
      (subst (λ (i : ℕ). T (leb 1 i)) (sym e)
      (le→leb 1 (c * r) (prod_pos c r (leb→le 2 c (and_l (leb 2 c) (leb c 4)
      (and_l (side c) (side r) (and_l (side c && side r) (is_float k) t))))
      (leb→le 2 r (and_l (leb 2 r) (leb r 4) (and_r (side c) (side r) (and_l (side c && side r) (is_float k) t)))))))))
  val_back (Va l) zero g t h rest = absurd (not-suc-le-zero h)
  val_back (Va l) (suc d) g t h rest =
      let n : ℕ = count_vals l in
      let u : Ty = first (types_of l) in
      let a : T (leb 1 n && leb n 65535) = and_l (leb 1 n && leb n 65535) (shaped_ty u) t in
      let o = one_type u l d (all_first l (and_l (all_same (types_of l)) (shaped_vals l) g)) (and_r (leb 1 n && leb n 65535) (shaped_ty u) t)
      (omega arith) in
      rw (two_bytes n (leb→le n 65535 (and_r (leb 1 n) (leb n 65535) a)))
      (after (many (p_val d) n) (λ x. give (Va (vals_of x))) _ (vals_list l) rest
      (vals_back l d (and_r (all_same (types_of l)) (shaped_vals l) g) o.0 o.1 rest)
      ∙ ap (λ (x : Vals). some (Va x, rest)) (vals_of_lem l))
  val_back (Vu i l) zero g t h rest = absurd (not-suc-le-zero h)
  val_back (Vu i l) (suc d) g t h rest =
      let n : ℕ = count_vals l in
      let len : ℕ = length (tys_list (types_of l)) in
      let a : T (u16 i && leb 1 len && leb len 1023) = and_l (u16 i && leb 1 len && leb len 1023) (shaped_tys (types_of l)) t in
      let il : i ≤ 65535 = leb→le i 65535 (and_l (u16 i) (leb 1 len) (and_l (u16 i && leb 1 len) (leb len 1023) a)) in
      let ll : len ≤ 1023 = leb→le len 1023 (and_r (u16 i && leb 1 len) (leb len 1023) a) in
      let e : len ≡ n = count_types l in
      rw (two_bytes i il, two_bytes n (omega arith))
      (after (many (p_val d) n) (λ x. give (Vu i (vals_of x))) _ (vals_list l) rest
      (vals_back l d g (and_r (u16 i && leb 1 len && leb len 1023) (shaped_tys (types_of l)) t) (omega arith) rest)
      ∙ ap (λ (x : Vals). some (Vu i x, rest)) (vals_of_lem l))

  pub vals_back : (m : Vals) (d : ℕ) → T (shaped_vals m) → T (shaped_tys (types_of m)) → depths (types_of m) < d → (rest : List ℕ)
      → many (p_val d) (count_vals m) (vals_bytes m ++ rest) ≡ some (vals_list m, rest)
  vals_back ⟨⟩ d g t h rest = refl
  vals_back (v ▹ m) d g t h rest =
      rw append_assoc
      (after (p_val d) (λ x. ◌>>=◌ (many (p_val d) (count_vals m)) (λ xs. give (x ∷ xs))) _ v (vals_bytes m ++ rest)
      (val_back v d (and_l (shaped_val v) (shaped_vals m) g) (and_l (shaped_ty (type_of v)) (shaped_tys (types_of m)) t) (omega arith)
      (vals_bytes m ++ rest))
      ∙ after (many (p_val d) (count_vals m)) (λ xs. give (v ∷ xs)) _ (vals_list m) rest
      (vals_back m d (and_r (shaped_val v) (shaped_vals m) g) (and_r (shaped_ty (type_of v)) (shaped_tys (types_of m)) t) (omega arith) rest))
