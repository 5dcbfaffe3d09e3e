-- One argument: whether it is a matrix, and of which size.
use mathlib.Core.Path.{◌≡◌, refl, sym, ap, ◌∙◌, subst}
use mathlib.Core.List.{List, [], ◌∷◌}
use mathlib.Core.Bool.{Bool, true, false, not, ◌&&◌}
use Prim.Native.Nat.{ℕ, ◌+◌, ◌*◌, ◌≤◌, ◌<◌}
use native.Mathlib.Omega.{arith}
use borrow.Author.Tests.{eq-eqb}
use lib.Dec.{T, eqb, eqb→eq}
use lib.ListN.{length, get_or}
use Rattle.meaning.specs.Kinds.{Kind, is_abstract}
use Rattle.meaning.specs.Scalars.{Stage}
use Rattle.meaning.specs.Trees.{Tm, Val, Vs, Vv, Vm, Va, Vu, type_of}
use Rattle.meaning.specs.Records.{‘m’, val_bytes, every, good_lit, shaped_val}
use Rattle.meaning.specs.Answers.{Result, ok, no, ◌>>=◌, all}
use Rattle.meaning.specs.Build.{ctor_lit, same_size, mat_parts, mat_one, qm_parts, qm_one}
use Rattle.laws.proofs.Back.{and_l, and_r}
use Rattle.derive.specs.Derives.{Marked}
use Rattle.derive.proofs.ValueFronts.{tag_of, marked, matrix_only}
use Rattle.error.specs.declared.Refusal.{Refusal}
use Rattle.error.specs.Refusals.{refusal}
use Rattle.error.proofs.Refusals.{no_more}
use Rattle.literal.specs.declared.Rules.{Rules}
use Rattle.record.specs.Values.{HasVal}
use Rattle.args.specs.Row.{Row}
use Rattle.args.proofs.Kept.{one_bytes}
use Rattle.args.proofs.ArgumentRows.{row_shaped, row_typed, row_has}
use Rattle.scalar.proofs.MadeValues.{Making, mat_making, mat_shaped}
use Rattle.matrix.specs.MatrixRules.{MatrixArg}

-- ---- by the mark

module _ {s : List ℕ} {v : Val} (x : Row s 0 (v ∷ [])) where
  mark : Marked s 0 (tag_of (type_of v))
  mark = marked 15 s 0 (type_of v) (0 + length (val_bytes v)) (row_typed x)

  pub one_mark : 1 < length s
  one_mark = omega (arith, mark.room)

  pub one_has : HasVal s 0 (length s) v
  one_has = let e : 0 + length (val_bytes v) ≡ length s = omega (arith, ap length (one_bytes x)) in subst (λ (n : ℕ). HasVal s 0 n v) e
      (row_has x)

-- a value of a matrix's type
record MatrixOf (a b : ℕ) (v : Val) : Type 0 where
  kind : Kind
  pays : List ℕ
  is : v ≡ Vm a b kind pays

matrix_of_lem : (a b : ℕ) (k : Kind) (v : Val) → type_of v ≡ Tm a b k → MatrixOf a b v
unfolding type_of
matrix_of_lem a b k (Vs j p) e = absurd (let z : ◌≡◌ {A = ℕ} 0 1 = cc in omega arith)
matrix_of_lem a b k (Vv j ps) e = absurd (let z : ◌≡◌ {A = ℕ} 0 1 = cc in omega arith)
matrix_of_lem a b k (Vm c r j ps) e = let p : c ≡ a = cc in let q : r ≡ b = cc in record { kind = j; pays = ps; is = rw (p, q) }
matrix_of_lem a b k (Va l) e = absurd (let z : ◌≡◌ {A = ℕ} 0 1 = cc in omega arith)
matrix_of_lem a b k (Vu i l) e = absurd (let z : ◌≡◌ {A = ℕ} 0 1 = cc in omega arith)

-- ---- one that is no matrix goes the way of several

module _ {s : List ℕ} {v : Val} (x : Row s 0 (v ∷ [])) (c r : ℕ) (h : get_or s 1 0 ≡ ‘m’ → ⊥) where
  no_matrix : {a b : ℕ} {k : Kind} → type_of v ≡ Tm a b k → ⊥
  unfolding tag_of
  no_matrix e = h ((mark x).second ∙ ap tag_of e)

  pub mat_other : (t : Stage) (k : Kind) → mat_one t c r k v ≡ mat_parts c r k v []
  unfolding mat_one type_of
  mat_other t k = go v refl
    where
      go : (w : Val) → v ≡ w → mat_one t c r k w ≡ mat_parts c r k w []
      go (Vs j p) e = refl
      go (Vv j ps) e = refl
      go (Vm a b j ps) e = absurd (no_matrix (ap type_of e))
      go (Va l) e = refl
      go (Vu i l) e = refl

  pub qm_other : qm_one c r v ≡ qm_parts c r (v ∷ [])
  unfolding qm_one type_of
  qm_other = go v refl
    where
      go : (w : Val) → v ≡ w → qm_one c r w ≡ qm_parts c r (w ∷ [])
      go (Vs j p) e = refl
      go (Vv j ps) e = refl
      go (Vm a b j ps) e = absurd (no_matrix (ap type_of e))
      go (Va l) e = refl
      go (Vu i l) e = refl

-- ---- a matrix

-- what is asked about the size of the argument is whether it is the same
module _ (s : List ℕ) (c r : ℕ) {a d : ℕ} (columns : a ≡ get_or s 2 0) (rows : d ≡ get_or s 3 0) {b : Bool} (e : b ≡ not (eqb a c && eqb d r)) where
  pub same_told : same_size c r (get_or s 2 0) (get_or s 3 0) ≡ not b
  unfolding same_size
  same_told = rw (sym columns, sym rows) (go (eqb a c && eqb d r) e)
    where
      go : (z : Bool) → b ≡ not z → z ≡ not b
      go true f = rw f refl
      go false f = rw f refl

pub record MatrixIs (s : List ℕ) (v : Val) : Type 0 where
  pub kind : Kind
  pub pays : List ℕ
  pub is : v ≡ Vm (get_or s 2 0) (get_or s 3 0) kind pays
  pub room : 4 ≤ length s

module _ {s : List ℕ} {v : Val} (x : Row s 0 (v ∷ [])) (h : get_or s 1 0 ≡ ‘m’) where
  pub matrix_is : MatrixIs s v
  matrix_is =
      let m : Marked s 0 109 = record { room = (mark x).room; first = (mark x).first; second = h } in
      let y = matrix_only 15 s 0 m (type_of v) (0 + length (val_bytes v)) (row_typed x) in
      let z = matrix_of_lem y.columns y.rows y.kind v y.is in
      record { kind = z.kind; pays = z.pays; is = rw (y.across, y.down) z.is; room = omega (arith, y.room) }

  module _ (c r : ℕ) where
    module _ (f : same_size c r (get_or s 2 0) (get_or s 3 0) ≡ false) where
      pub mat_unequal : (t : Stage) (k : Kind) → mat_one t c r k v ≡ no 7
      unfolding mat_one
      mat_unequal t k = rw (matrix_is.is, f)

      pub qm_unequal : qm_one c r v ≡ no 7
      unfolding qm_one
      qm_unequal = rw (matrix_is.is, f)

    module _ (f : same_size c r (get_or s 2 0) (get_or s 3 0) ≡ true) where
      sizes : (get_or s 2 0 ≡ c) × (get_or s 3 0 ≡ r)
      unfolding same_size
      sizes = let t : T (eqb (get_or s 2 0) c && eqb (get_or s 3 0) r) = subst T (sym f) tt in (
        eqb→eq (get_or s 2 0) c (and_l (eqb (get_or s 2 0) c) (eqb (get_or s 3 0) r) t),
        eqb→eq (get_or s 3 0) r
            (and_r (eqb (get_or s 2 0) c) (eqb (get_or s 3 0) r) t),
      )

      equal_is : v ≡ Vm c r matrix_is.kind matrix_is.pays
      equal_is = let p = sizes.0 in let q = sizes.1 in matrix_is.is ∙ (rw (p, q))

      pub equal_row : Row s 0 (Vm c r matrix_is.kind matrix_is.pays ∷ [])
      equal_row = subst (λ (w : Val). Row s 0 (w ∷ [])) equal_is x

      equal : same_size c r c r ≡ true
      unfolding same_size
      equal = rw (eq-eqb c c refl, eq-eqb r r refl)

      pub mat_abstract : (t : Stage) (k : Kind) → is_abstract k ≡ true → mat_one t c r k v ≡ no 13
      unfolding mat_one
      mat_abstract t k e = rw (equal_is, equal, e)

      pub mat_concrete : (t : Stage) (k : Kind) → is_abstract k ≡ false
          → mat_one t c r k v ≡ (all (ctor_lit t k matrix_is.kind) matrix_is.pays >>= λ qs. ok (Vm c r k qs))
      unfolding mat_one
      mat_concrete t k e = go matrix_is.kind matrix_is.pays equal_is
        where
          go : (j : Kind) (ps : List ℕ) → v ≡ Vm c r j ps → mat_one t c r k v ≡ (all (ctor_lit t k j) ps >>= λ qs. ok (Vm c r k qs))
          go j ps u = rw (u, equal, e)

      pub qm_kept : qm_one c r v ≡ ok v
      unfolding qm_one
      qm_kept = rw (equal_is, equal)

-- ---- the literals made

module _ {rules : Rules} {c r k : ℕ} {src : List ℕ} {s : Stage} {j i : Kind} {ps : List ℕ} (x : MatrixArg rules c r k src s j i ps) where
  pub remaking : Making s j src 0 (length src) (all (ctor_lit s j i) ps) (Vm c r j)
  remaking = mat_making s j (one_has x.row)

  module _ {qs : List ℕ} (e : all (ctor_lit s j i) ps ≡ ok qs) where
    pub remade_shaped : T (shaped_val (Vm c r j qs))
    unfolding shaped_val
    remade_shaped =
        let g = row_shaped x.row in
        mat_shaped s j i x.ctor.concrete ps (and_l (every (good_lit i) ps) (eqb (length ps) (c * r)) g) qs e c r
        (eqb→eq (length ps) (c * r) (and_r (every (good_lit i) ps) (eqb (length ps) (c * r)) g))

    pub remade : (all (ctor_lit s j i) ps >>= λ us. ok (Vm c r j us)) ≡ ok (Vm c r j qs)
    remade = rw e

  pub remade_no : (x : Refusal) → all (ctor_lit s j i) ps ≡ refusal x → (all (ctor_lit s j i) ps >>= λ us. ok (Vm c r j us)) ≡ refusal x
  remade_no x e = ap (λ (y : Result (List ℕ)). y >>= λ us. ok (Vm c r j us)) e ∙ no_more (λ (us : List ℕ). ok (Vm c r j us)) x
