-- A value's record is as long as its type says; equal bytes are equal types.
use mathlib.Core.Path.{◌≡◌, refl, sym, ap, ap₂, ◌∙◌}
use mathlib.Core.List.{List, [], ◌∷◌, ◌++◌}
use Prim.Native.Nat.{ℕ, zero, suc, ◌+◌, ◌*◌}
use native.Mathlib.Omega.{arith}
use native.Mathlib.Nat.{suc-mul, zero-mul}
use lib.Dec.{T, eqb, eqb→eq}
use lib.ListN.{length, take, drop, length-append}
use Rattle.meaning.specs.Kinds.{Kind, pay_width}
use Rattle.meaning.specs.Trees.{Ty, Val, Vs, Vv, Vm, Va, Vu, Vals, ⟨⟩, ◌▹◌, type_of, types_of, first, depth}
use Rattle.meaning.specs.Trees.{val_len, val_lens, lit_len, count_vals}
use Rattle.meaning.specs.Records.{le, lit_bytes, joined, vec_bytes, columns, val_bytes, vals_bytes, ty_bytes, every, good_lit, shaped_val}
use Rattle.meaning.specs.Records.{shaped_vals, shaped_ty, all_same}
use Rattle.meaning.specs.Read.{p_ty}
use Rattle.laws.proofs.AgreeConv.{AllTy, all_first}
use Rattle.laws.proofs.Back.{and_l, and_r, ty_back}
use Rattle.laws.proofs.BackVal.{drop_len, take_len}
use Rattle.laws.proofs.Sound.{same_read}

pub le_len : (w n : ℕ) → length (le w n) ≡ w
unfolding le
le_len zero n = refl
le_len (suc w) n = ap suc (le_len w _)

pub lit_len_lem : (k : Kind) (p : ℕ) → length (lit_bytes k p) ≡ lit_len k
unfolding lit_bytes lit_len
lit_len_lem k p = omega (arith, le_len (pay_width k) p)

lits_len : (k : Kind) (ps : List ℕ) → length (joined (lit_bytes k) ps) ≡ length ps * lit_len k
unfolding joined
lits_len k [] = sym (zero-mul (lit_len k))
lits_len k (p ∷ ps) = length-append (lit_bytes k p) (joined (lit_bytes k) ps)
    ∙ omega (arith, lit_len_lem k p, lits_len k ps, suc-mul (length ps) (lit_len k))

cols_len : (k : Kind) (c r : ℕ) (ps : List ℕ) → length ps ≡ c * r → length (joined (vec_bytes k) (columns c r ps)) ≡ c * (3 + r * lit_len k)
unfolding joined columns vec_bytes
cols_len k zero r ps h = sym (zero-mul (3 + r * lit_len k))
cols_len k (suc c) r ps h =
    length-append (vec_bytes k (take r ps)) (joined (vec_bytes k) (columns c r (drop r ps)))
    ∙ omega (
      arith,
      lits_len k (take r ps) ∙ ap (λ (i : ℕ). i * lit_len k) (take_len c r ps h),
      cols_len k c r (drop r ps)
          (drop_len c r ps h),
      suc-mul c (3 + r * lit_len k),
    )

same_lens : (t : Ty) (m : Vals) → AllTy t m → val_lens (types_of m) ≡ count_vals m * val_len t
unfolding val_lens types_of count_vals
same_lens t ⟨⟩ a = sym (zero-mul (val_len t))
same_lens t (v ▹ m) a = ap₂ ◌+◌ (ap val_len a.0) (same_lens t m a.1) ∙ omega (arith, suc-mul (count_vals m) (val_len t))

mutual
  unfolding val_bytes val_len type_of shaped_val lit_bytes vec_bytes le

  pub val_len_lem : (v : Val) → T (shaped_val v) → length (val_bytes v) ≡ val_len (type_of v)
  val_len_lem (Vs k p) g = lit_len_lem k p
  val_len_lem (Vv k ps) g = omega (arith, lits_len k ps)
  val_len_lem (Vm c r k ps) g = omega (
    arith,
    cols_len k c r ps (eqb→eq (length ps) (c * r)
        (and_r (every (good_lit k) ps) (eqb (length ps) (c * r)) g)),
  )
  val_len_lem (Va l) g =
      omega (
        arith,
        vals_len l (and_r (all_same (types_of l)) (shaped_vals l) g),
        same_lens (first (types_of l)) l
            (all_first l (and_l (all_same (types_of l)) (shaped_vals l) g)),
      )
  val_len_lem (Vu i l) g = omega (arith, vals_len l g)

  pub vals_len : (m : Vals) → T (shaped_vals m) → length (vals_bytes m) ≡ val_lens (types_of m)
  vals_len ⟨⟩ g = refl
  vals_len (v ▹ m) g =
      length-append (val_bytes v) (vals_bytes m) ∙ ap₂ ◌+◌ (val_len_lem v (and_l (shaped_val v) (shaped_vals m) g))
      (vals_len m (and_r (shaped_val v) (shaped_vals m) g))

pub bytes_same : (a b : Ty) → T (shaped_ty a) → T (shaped_ty b) → ty_bytes a ≡ ty_bytes b → a ≡ b
bytes_same a b g h e =
    let d : ℕ = suc (depth a + depth b) in
    same_read (sym (ty_back a d g (omega arith) []) ∙ (ap (λ (s : List ℕ). p_ty d (s ++ [])) e ∙ ty_back b d h (omega arith) []))
