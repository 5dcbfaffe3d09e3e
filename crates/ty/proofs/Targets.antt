-- The bytes of each target, and what `read_target` gives for them.
use mathlib.Core.Path.{◌≡◌, refl, sym, ap, ◌∙◌, subst}
use mathlib.Core.Option.{Option as Maybe, none, some}
use Rattle.std.specs.declared.option.Option.{Option}
use Rattle.std.specs.declared.option.Option.TheVariants.{None, Some}
use mathlib.Core.List.{List, append-nil}
use mathlib.Core.Bool.{◌&&◌}
use Prim.Native.Nat.{ℕ, ◌+◌, ◌≤◌}
use native.Mathlib.Omega.{arith}
use lib.Dec.{T, leb, leb→le, le→leb}
use lib.ListN.{length, get_or, drop, length-drop}
use lib.Seq.{drop-length}
use Rattle.std.proofs.lemmas.List.{drop_all}
use Rattle.meaning.specs.Trees.{Ty, Of, Tr, Qa, Qv, Qm, depth}
use Rattle.meaning.specs.Trees as trees
use Rattle.meaning.specs.Records.{ty_bytes, target_bytes, shaped_ty, side, good_within, good_ty, good_target}
use Rattle.meaning.specs.Read.{read_target}
use Rattle.laws.proofs.Back.{and_l, and_r, shaped_of, deep_of}
use Rattle.laws.proofs.Same.{both}
use Rattle.laws.proofs.Sound.{Bytes}
use Rattle.laws.proofs.Exact.{target_exact}
use Rattle.ty.specs.Stands.{Stands, OneType}
use Rattle.ty.specs.Targets.{ArrayShape, VectorShape, MatrixShape, RuntimeTarget, TypeTarget, seen, target_of, Meant}
use Rattle.std.proofs.lemmas.Option.{none-some, same_Some}
use Rattle.record.proofs.Places.{view2, view3, view4}
use Rattle.ty.specs.declared.Target.{Target}
use Rattle.ty.specs.declared.Target.TheVariants.{«Type», Runtime, Array, Vector, Matrix}

-- ---- a type that is all of the bytes

-- "Depth 15 passes, 16 is malformed"
pub one_type_deep : (s : List ℕ) (w : OneType s) → depth w.type ≤ 15
one_type_deep s w = w.stands.deep

-- ---- a type that is all of the bytes from a place on

module _ {d : ℕ} {s : List ℕ} {at : ℕ} {t : Ty} where
  pub whole_bytes : Stands d s at t (length s) → drop at s ≡ ty_bytes t
  whole_bytes w = w.here ∙ (rw (drop-length s) (append-nil (ty_bytes t)))

  pub whole_good : (n : ℕ) → Stands d s at t (length s) → length s ≤ at + n → T (good_within d n t)
  unfolding good_within
  whole_good n w h =
      both (shaped_ty t && leb (depth t) d) (leb (length (ty_bytes t)) n)
      (both (shaped_ty t) (leb (depth t) d) w.shaped (le→leb (depth t) d w.deep))
      (le→leb (length (ty_bytes t)) n (omega (arith, w.size)))

module _ (d n : ℕ) (s : List ℕ) (at : ℕ) (t : Ty) where
  pub good_whole : drop at s ≡ ty_bytes t → at ≤ length s → T (good_within d n t) → Stands d s at t (length s)
  good_whole e h g =
      record {
        here = e ∙ (rw (drop-length s) (sym (append-nil (ty_bytes t))));
        size = omega (arith, length-drop at s, ap length e);
        within = omega arith;
        shaped = shaped_of d n t g;
        deep = deep_of d n t g;
      }

  pub good_length : drop at s ≡ ty_bytes t → T (good_within d n t) → length s ≤ at + n
  unfolding good_within
  good_length e g = omega (
    arith,
    length-drop at s,
    ap length e,
    leb→le (length (ty_bytes t)) n
        (and_r (shaped_ty t && leb (depth t) d) (leb (length (ty_bytes t)) n) g),
  )

-- ---- from the bytes to a target

module _ {s : List ℕ} where
  array_bytes : ArrayShape s → s ≡ target_bytes Qa
  unfolding target_bytes
  array_bytes w = cc (view2 s 0 (omega (arith, w.size)), drop_all 2 s (omega (arith, w.size)), w.first, w.second)

  vector_bytes : VectorShape s → s ≡ target_bytes (Qv (get_or s 2 0))
  unfolding target_bytes
  vector_bytes w = cc (view3 s 0 (omega (arith, w.size)), drop_all 3 s (omega (arith, w.size)), w.first, w.second)

  matrix_bytes : MatrixShape s → s ≡ target_bytes (Qm (get_or s 2 0) (get_or s 3 0))
  unfolding target_bytes
  matrix_bytes w = cc (view4 s 0 (omega (arith, w.size)), drop_all 4 s (omega (arith, w.size)), w.first, w.second)

  runtime_bytes : (w : RuntimeTarget s) → s ≡ target_bytes (Tr w.ends.type)
  unfolding target_bytes
  runtime_bytes w = cc (view2 s 0 w.least, whole_bytes w.ends.stands, w.first, w.second)

  type_bytes : (w : TypeTarget s) → s ≡ target_bytes (Of w.ends.type)
  unfolding target_bytes
  type_bytes w = whole_bytes w.ends.stands

  -- a well-formed target's bytes are answered as that target
  answered : (g : trees.Target) → s ≡ target_bytes g → T (good_target g) → target_of (some g) ≡ target_of (read_target s)
  answered g e h = ap target_of (sym (ap read_target e ∙ target_exact.back g h))

  pub array_answer : ArrayShape s → Some Array ≡ target_of (read_target s)
  unfolding target_of good_target
  array_answer w = answered Qa (array_bytes w) tt

  pub vector_answer : VectorShape s → Some (Vector (get_or s 2 0)) ≡ target_of (read_target s)
  unfolding target_of good_target
  vector_answer w = answered (Qv (get_or s 2 0)) (vector_bytes w) w.wide

  pub matrix_answer : MatrixShape s → Some (Matrix (get_or s 2 0) (get_or s 3 0)) ≡ target_of (read_target s)
  unfolding target_of good_target
  matrix_answer w = answered (Qm (get_or s 2 0) (get_or s 3 0)) (matrix_bytes w)
      (both (side (get_or s 2 0)) (side (get_or s 3 0)) w.wide w.high)

  pub runtime_answer : RuntimeTarget s → Some Runtime ≡ target_of (read_target s)
  unfolding target_of good_target
  runtime_answer w = answered (Tr w.ends.type) (runtime_bytes w) (whole_good 4092 w.ends.stands (omega (arith, w.most)))

  pub type_answer_lem : TypeTarget s → Some «Type» ≡ target_of (read_target s)
  unfolding target_of good_target good_ty
  type_answer_lem w = answered (Of w.ends.type) (type_bytes w) (whole_good 4096 w.ends.stands (omega (arith, w.most)))

  -- ---- from a target to its bytes

  byte_of : {b : List ℕ} → s ≡ b → (i : ℕ) → get_or s i 0 ≡ get_or b i 0
  byte_of e i = ap (λ (l : List ℕ). get_or l i 0) e

  pub of_target : (t : Ty) → s ≡ ty_bytes t → T (good_ty t) → TypeTarget s
  unfolding good_ty
  of_target t e g =
      record {
        most = omega (arith, good_length 15 4096 s 0 t e g);
        ends = record { type = t; stands = good_whole 15 4096 s 0 t e (omega arith) g };
      }

  tr_target : (t : Ty) → s ≡ target_bytes (Tr t) → T (good_within 14 4092 t) → RuntimeTarget s
  unfolding target_bytes
  tr_target t e g =
      let h : drop 2 s ≡ ty_bytes t = ap (drop 2) e in
      let l : 2 ≤ length s = omega (arith, ap length e) in
      record {
        least = l;
        most = omega (arith, good_length 14 4092 s 2 t h g);
        first = byte_of e 0;
        second = byte_of e 1;
        ends = record { type = t; stands = good_whole 14 4092 s 2 t h l g };
      }

  no_target : (ArrayShape s → ⊥) → (VectorShape s → ⊥) → (MatrixShape s → ⊥) → (RuntimeTarget s → ⊥) → (TypeTarget s → ⊥)
      → (g : trees.Target) → s ≡ target_bytes g → T (good_target g) → ⊥
  unfolding target_bytes good_target
  no_target f g h i j (Of t) e k = j (of_target t e k)
  no_target f g h i j (Tr t) e k = i (tr_target t e k)
  no_target f g h i j Qa e k = f record { size = ap length e; first = byte_of e 0; second = byte_of e 1 }
  no_target f g h i j (Qv n) e k = g record { size = ap length e; first = byte_of e 0; second = byte_of e 1; wide = rw (byte_of e 2) k }
  no_target f g h i j (Qm c r) e k =
      h record {
        size = ap length e;
        first = byte_of e 0;
        second = byte_of e 1;
        wide = rw (byte_of e 2) (and_l (side c) (side r) k);
        high = rw (byte_of e 3) (and_r (side c) (side r) k);
      }

  module _ (b : Bytes s) where
    pub bad_answer : (ArrayShape s → ⊥) → (VectorShape s → ⊥) → (MatrixShape s → ⊥) → (RuntimeTarget s → ⊥) → (TypeTarget s → ⊥)
        → None ≡ target_of (read_target s)
    unfolding target_of
    bad_answer f g h i j = go (read_target s) refl
      where
        go : (o : Maybe trees.Target) → read_target s ≡ o → None ≡ target_of o
        go none e = refl
        go (some x) e = let y = target_exact.sound s x b e in absurd (no_target f g h i j x y.0 y.1)

-- ---- what an answer says, for callers

pub meant : (s : List ℕ) {r : Option Target} {f : Target} → Bytes s → r ≡ target_of (read_target s) → r ≡ Some f → Meant s f
unfolding target_of target_bytes good_target good_ty tr_target
meant s {f = f} b q h = go (read_target s) refl (sym h ∙ q)
  where
    told : (g : trees.Target) → read_target s ≡ some g → Meant s (seen g)
    told (Of t) e = let y = target_exact.sound s (Of t) b e in
        record { type = t; stands = good_whole 15 4096 s 0 t y.0 (omega arith) y.1; good = y.1; reads = e }
    told (Tr t) e = let y = target_exact.sound s (Tr t) b e in let w = tr_target t y.0 y.1 in
        record { type = t; stands = w.ends.stands; good = y.1; reads = e }
    told Qa e = e
    told (Qv n) e = (e, (target_exact.sound s (Qv n) b e).1)
    told (Qm c r) e = let y = (target_exact.sound s (Qm c r) b e).1 in (e, and_l (side c) (side r) y, and_r (side c) (side r) y)

    go : (o : Maybe trees.Target) → read_target s ≡ o → Some f ≡ target_of o → Meant s f
    go none e x = absurd (none-some f (sym x))
    go (some g) e x = subst (Meant s) (sym (same_Some f (seen g) x)) (told g e)

module _ (s : List ℕ) {r : Option Target} (q : r ≡ target_of (read_target s)) where
  pub bad_target : r ≡ None → read_target s ≡ none
  unfolding target_of
  bad_target h = go (read_target s) (sym h ∙ q)
    where
      go : (o : Maybe trees.Target) → None ≡ target_of o → o ≡ none
      go none x = refl
      go (some g) x = absurd (none-some (seen g) x)

  pub some_target : {f : Target} → r ≡ Some f → (g : trees.Target) × (read_target s ≡ some g) × (f ≡ seen g)
  unfolding target_of
  some_target {f} h = go (read_target s) refl (sym h ∙ q)
    where
      go : (o : Maybe trees.Target) → read_target s ≡ o → Some f ≡ target_of o → (g : trees.Target) × (read_target s ≡ some g) × (f ≡ seen g)
      go none e x = absurd (none-some f (sym x))
      go (some g) e x = (g, e, same_Some f (seen g) x)

-- a target that is no type and no runtime-sized array is a shape: what holds of the three shapes holds of it
pub shape_only : (s : List ℕ) {f : Target} → (f ≡ «Type» → ⊥) → (f ≡ Runtime → ⊥) → Meant s f → (P : trees.Target → Type 0)
    → P Qa → ((n : ℕ) → P (Qv n)) → ((c r : ℕ) → P (Qm c r)) → (g : trees.Target) × (read_target s ≡ some g) × P g
shape_only s {f = «Type»} a b m P q v w = absurd (a refl)
shape_only s {f = Runtime} a b m P q v w = absurd (b refl)
shape_only s {f = Array} a b m P q v w = (Qa, m, q)
shape_only s {f = Vector n} a b m P q v w = (Qv n, m.0, v n)
shape_only s {f = Matrix c r} a b m P q v w = (Qm c r, m.0, w c r)
