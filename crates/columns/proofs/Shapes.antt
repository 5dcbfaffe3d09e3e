-- What follows from the shape of the arguments.
use mathlib.Core.Path.{◌≡◌, refl, sym, ap, ◌∙◌, subst}
use mathlib.Core.Option.{some}
use mathlib.Core.List.{List, map}
use mathlib.Core.Bool.{Bool, true, false}
use Prim.Native.Nat.{ℕ, ◌*◌}
use native.Mathlib.Omega.{arith}
use lib.Dec.{T, eqb, eqb→eq}
use lib.ListN.{length, length-map}
use Rattle.meaning.specs.Kinds.{Kind}
use Rattle.meaning.specs.Trees.{Ty, Ts, Tv, Tm, Ta, Tu, Val, Vs, Vm, vals_of, count_vals, leaf, set_leaf}
use Rattle.meaning.specs.Records.{vec_bytes, columns, joined, shaped_val}
use Rattle.meaning.specs.Answers.{ok, ◌>>◌, need, need_count}
use Rattle.meaning.specs.Convert.{conv_lits}
use Rattle.meaning.specs.Build.{mat_shape, payloads_of_all}
use Rattle.laws.proofs.AgreeMat.{shape_pay}
use Rattle.laws.proofs.AgreeQm.{shape_set}
use Rattle.laws.proofs.AgreeConv.{AllTy}
use Rattle.laws.proofs.SoundVal.{joined_vals}
use Rattle.laws.proofs.Each.{some_length}
use Rattle.shape.specs.declared.Shape.{Shape}
use Rattle.shape.specs.declared.Shape.TheVariants as shape
use Rattle.shape.specs.Matrices.{way_of}
use Rattle.columns.specs.Columns.{Scalars, Vectors, PartsAre}
use Rattle.columns.specs.ColumnParts.{Parts}
use Rattle.columns.proofs.Columns.{vectors_are, scalars_are}

-- the arguments are c * r scalars
record ScalarWay (c r n : ℕ) (t : Ty) : Type 0 where
  kind : Kind
  is : t ≡ Ts kind
  count : n ≡ c * r

scalar_way : (c r n : ℕ) (t : Ty) → (mat_shape c r t n ≡ ok tt) × (shape.Scalars ≡ way_of t) → ScalarWay c r n t
unfolding way_of mat_shape
scalar_way c r n (Ts k) h = go (eqb n (c * r)) refl h.0
  where
    go : (b : Bool) → eqb n (c * r) ≡ b → need_count b (c * r) n ≡ ok tt → ScalarWay c r n (Ts k)
    go true q h = record { kind = k; is = refl; count = eqb→eq n (c * r) (subst T (sym q) tt) }
    go false q h = absurd (let z : ◌≡◌ {A = ℕ} 0 1 = cc in omega arith)
scalar_way c r n (Tv m k) h = absurd (let e = h.1 in let z : ◌≡◌ {A = ℕ} 0 1 = cc in omega arith)
scalar_way c r n (Tm a b k) h = absurd (let e = h.1 in let z : ◌≡◌ {A = ℕ} 0 1 = cc in omega arith)
scalar_way c r n (Ta m t) h = absurd (let e = h.1 in let z : ◌≡◌ {A = ℕ} 0 1 = cc in omega arith)
scalar_way c r n (Tu i m) h = absurd (let e = h.1 in let z : ◌≡◌ {A = ℕ} 0 1 = cc in omega arith)

-- the arguments are c columns of length r
record ColumnWay (c r n : ℕ) (t : Ty) : Type 0 where
  kind : Kind
  is : t ≡ Tv r kind
  count : n ≡ c

column_way : (c r n : ℕ) (t : Ty) → (mat_shape c r t n ≡ ok tt) × (shape.Columns ≡ way_of t) → ColumnWay c r n t
unfolding way_of mat_shape
column_way c r n (Ts k) h = absurd (let e = h.1 in let z : ◌≡◌ {A = ℕ} 0 1 = cc in omega arith)
column_way c r n (Tv m k) h = go (eqb m r) (eqb n c) refl refl h.0
  where
    go : (a b : Bool) → eqb m r ≡ a → eqb n c ≡ b → (need a 14 >> need_count b c n) ≡ ok tt → ColumnWay c r n (Tv m k)
    go true true p q h = record {
      kind = k;
      is = ap (λ (i : ℕ). Tv i k) (eqb→eq m r (subst T (sym p) tt));
      count = eqb→eq n c
          (subst T (sym q) tt);
    }
    go true false p q h = absurd (let z : ◌≡◌ {A = ℕ} 0 1 = cc in omega arith)
    go false b p q h = absurd (let z : ◌≡◌ {A = ℕ} 0 1 = cc in omega arith)
column_way c r n (Tm a b k) h = absurd (let z : ◌≡◌ {A = ℕ} 0 1 = cc (h.0) in omega arith)
column_way c r n (Ta m t) h = absurd (let z : ◌≡◌ {A = ℕ} 0 1 = cc (h.0) in omega arith)
column_way c r n (Tu i m) h = absurd (let z : ◌≡◌ {A = ℕ} 0 1 = cc (h.0) in omega arith)

-- ---- the arguments whose shape is right

module _ {k : ℕ} {ty s : List ℕ} {count : ℕ} {j : Kind} {t : Ty} {l ws : List Val} (x : Parts k ty s count j t l ws) (c r : ℕ) where
  many : length ws ≡ count
  many = some_length (conv_lits j) l ws x.goes ∙ sym x.size

  counted : count_vals (vals_of ws) ≡ count
  counted = (joined_vals ws).1 ∙ many

  full : leaf (set_leaf j t) ≡ some j → mat_shape c r t count ≡ ok tt → T (shaped_val (Vm c r j (payloads_of_all ws)))
  full e h = shape_pay c r (set_leaf j t) j count e (shape_set c r t j count ∙ h) ws x.shaped x.types counted

  parts_scalars : (mat_shape c r t count ≡ ok tt) × (shape.Scalars ≡ way_of t) → Scalars c r k s j (payloads_of_all ws)
  unfolding set_leaf
  parts_scalars h =
      let y = scalar_way c r count t h in
      let a : AllTy (Ts j) (vals_of ws) = subst (λ (u : Ty). AllTy (set_leaf j u) (vals_of ws)) y.is x.types in
      let q : ws ≡ map (Vs j) (payloads_of_all ws) = scalars_are j ws a in
      record {
        no = x.no;
        values = l;
        row = x.row;
        goes = x.goes ∙ ap some q;
        count = sym (length-map (payloads_of_all ws) (Vs j)) ∙ (sym (ap length q) ∙ (many ∙ y.count));
      }

  parts_vectors : (mat_shape c r t count ≡ ok tt) × (shape.Columns ≡ way_of t) → Vectors c r k s j (payloads_of_all ws)
  unfolding set_leaf
  parts_vectors h =
      let y = column_way c r count t h in
      let a : AllTy (Tv r j) (vals_of ws) = subst (λ (u : Ty). AllTy (set_leaf j u) (vals_of ws)) y.is x.types in
      record {
        no = x.no;
        values = l;
        intos = ws;
        row = x.row;
        plain = x.plain;
        goes = x.goes;
        are = vectors_are r j ws a ∙ ap (λ (n : ℕ). joined (vec_bytes j) (columns n r (payloads_of_all ws))) (many ∙ y.count);
      }

  pub parts_ok : mat_shape c r t count ≡ ok tt
      → (mat_shape c r t count >> ok (Vm c r j (payloads_of_all ws))) ≡ ok (Vm c r j (payloads_of_all ws))
  parts_ok h = rw h

  pub parts_are : (shape : Shape) → (mat_shape c r t count ≡ ok tt) × (shape ≡ way_of t)
      → PartsAre shape c r k s j (payloads_of_all ws)
  parts_are shape.Scalars h = parts_scalars h
  parts_are shape.Columns h = parts_vectors h

  pub parts_full : (shape : Shape) → (mat_shape c r t count ≡ ok tt) × (shape ≡ way_of t)
      → T (shaped_val (Vm c r j (payloads_of_all ws)))
  unfolding leaf set_leaf
  parts_full shape.Scalars h = full (rw (scalar_way c r count t h).is) h.0
  parts_full shape.Columns h = full (rw (column_way c r count t h).is) h.0
