-- Reading gives back what was written: lists of records, and the target.
use mathlib.Core.Path.{◌≡◌, refl, sym, ap, ◌∙◌, subst}
use mathlib.Core.Option.{Option, none, some}
use mathlib.Core.List.{List, [], ◌∷◌, ◌++◌, map, append-nil}
use mathlib.Core.Bool.{Bool}
use Prim.Native.Nat.{ℕ, zero, suc, ◌≤◌}
use native.Mathlib.Omega.{arith}
use lib.Dec.{T, leb}
use lib.ListN.{length, length-append}
use Rattle.meaning.specs.Trees.{Ty, Ts, Tv, Tm, Ta, Tu, Val, Target, Of, Tr, Qa, Qv, Qm, type_of}
use Rattle.meaning.specs.Records.{‘T’, ‘r’, ty_bytes, val_bytes, target_bytes, joined, every, shaped_val, good_val, good_ty, good_within}
use Rattle.meaning.specs.Records.{good_target, good_arg, good_tys, good_args}
use Rattle.meaning.specs.Read.{Parser, ◌>>=◌, give, p_ty, p_val, p_of, p_tr, p_shape, p_runtime, p_qv, p_qm, whole, upto, if?, read_target}
use Rattle.meaning.specs.Read.{read_tys, read_vals, read_val}
use Rattle.laws.proofs.AgreeConv.{true_of}
use Rattle.laws.proofs.Back.{and_l, and_r, after, shaped_of, deep_of, ty_back}
use Rattle.laws.proofs.BackVal.{val_back}
use Rattle.laws.proofs.Sound.{no_some}

-- ---- a list of records, where the parser reads none from no bytes

module _ {A : Type 0} (p : Parser A) (f : A → List ℕ) (good : A → Bool) (stop : p [] ≡ none)
    (back : (a : A) → T (good a) → (rest : List ℕ) → p (f a ++ rest) ≡ some (a, rest)) where
  step : (n : ℕ) (s : List ℕ) (a : A) (r : List ℕ) (l : List A) → p s ≡ some (a, r) → upto n p r ≡ some l → upto (suc n) p s ≡ some (a ∷ l)
  unfolding upto
  step n [] a r l e h = no_some (sym stop ∙ e)
  step n (b ∷ s) a r l e h =
      ap (λ (x : Option (A × List ℕ)). let y : Option (List A) = elim x
      [ none ↦ none | some r ↦ elim (upto n p r.1) [ none ↦ none | some l ↦ some (r.0 ∷ l) ] ] in y) e
      ∙ ap (λ (x : Option (List A)). let y : Option (List A) = elim x [ none ↦ none | some l ↦ some (a ∷ l) ] in y) h

  upto_back : (n : ℕ) (l : List A) → T (every good l) → length l ≤ n → upto n p (joined f l) ≡ some l
  unfolding joined upto every
  upto_back zero [] g h = refl
  upto_back zero (a ∷ l) g h = absurd (omega arith)
  upto_back (suc n) [] g h = refl
  upto_back (suc n) (a ∷ l) g h =
      step n (f a ++ joined f l) a (joined f l) l (back a (and_l (good a) (every good l) g) (joined f l))
      (upto_back n l (and_r (good a) (every good l) g) (omega arith))

  some_bytes : (s : List ℕ) (a : A) → p (s ++ []) ≡ some (a, []) → 1 ≤ length s
  some_bytes [] a e = no_some (sym stop ∙ e)
  some_bytes (b ∷ s) a e = omega arith

  long : (l : List A) → T (every good l) → length l ≤ length (joined f l)
  unfolding joined every
  long [] g = omega arith
  long (a ∷ l) g =
      omega (
        arith,
        length-append (f a) (joined f l),
        some_bytes (f a) a (back a (and_l (good a) (every good l) g) []),
        long l
            (and_r (good a) (every good l) g),
      )

  -- records up to the end, tested together
  args_back : (test : List A → Bool) (l : List A) → T (every good l) → T (test l)
      → if? test (upto (length (joined f l)) p (joined f l)) ≡ some l
  unfolding if?
  args_back test l g h = rw (upto_back (length (joined f l)) l g (long l g), true_of (test l) h)

-- ---- types and values

ty_within : (d n : ℕ) (t : Ty) → d ≤ 15 → T (good_within d n t) → (rest : List ℕ) → p_ty 16 (ty_bytes t ++ rest) ≡ some (t, rest)
ty_within d n t e g = ty_back t 16 (shaped_of d n t g) (omega (arith, deep_of d n t g))

pub good_ty_back : (t : Ty) → T (good_ty t) → (rest : List ℕ) → p_ty 16 (ty_bytes t ++ rest) ≡ some (t, rest)
unfolding good_ty
good_ty_back t g = ty_within 15 4096 t (omega arith) g

pub good_val_back : (v : Val) → T (good_val v) → (rest : List ℕ) → p_val 16 (val_bytes v ++ rest) ≡ some (v, rest)
unfolding good_val good_ty
good_val_back v g =
    let h : T (good_within 15 4096 (type_of v)) = and_r (shaped_val v) (good_ty (type_of v)) g in
    val_back v 16 (and_l (shaped_val v) (good_ty (type_of v)) g) (shaped_of 15 4096 (type_of v) h) (omega (arith, deep_of 15 4096 (type_of v) h))

arg_back : (g : Target) (t : Ty) → T (good_arg g t) → (rest : List ℕ) → p_ty 16 (ty_bytes t ++ rest) ≡ some (t, rest)
unfolding good_arg
arg_back (Of u) t h = good_ty_back t h
arg_back (Tr u) t h = good_ty_back t h
arg_back Qa t h = ty_within 14 4092 t (omega arith) h
arg_back (Qv n) t h = good_ty_back t h
arg_back (Qm c r) t h = good_ty_back t h

pub tys_args : (g : Target) (l : List Ty) → T (good_tys g l) → read_tys g (joined ty_bytes l) ≡ some l
unfolding read_tys p_ty good_tys
tys_args g l h = args_back (p_ty 16) ty_bytes (good_arg g) refl (arg_back g) (good_tys g) l
    (and_l (every (good_arg g) l) (leb (length l) 65535) h) h

pub good_vals : (g : Target) (l : List Val) → T (good_args g l) → T (every good_val l)
unfolding good_args
good_vals g l h = and_l (every good_val l) (good_tys g (map type_of l)) h

pub vals_args : (g : Target) (l : List Val) → T (good_args g l) → read_vals g (joined val_bytes l) ≡ some l
unfolding read_vals p_val
vals_args g l h = args_back (p_val 16) val_bytes good_val refl good_val_back (good_args g) l (good_vals g l h) h

-- ---- the target

whole_back : {A : Type 0} (p : Parser A) (s : List ℕ) (a : A) → p s ≡ some (a, []) → whole p s ≡ some a
unfolding whole
whole_back {A} p s a e = ap (λ (x : Option (A × List ℕ)). let y : Option A = elim x
    [ none ↦ none | some r ↦ elim r.1 [ [] ↦ some r.0 | b ∷ t ↦ none ] ] in y) e

-- a type with nothing behind it, read for a target
ty_alone : (c : Ty → Target) (d n : ℕ) (t : Ty) → d ≤ 15 → T (good_within d n t)
    → ◌>>=◌ (p_ty 16) (λ t. give (c t)) (ty_bytes t) ≡ some (c t, [])
ty_alone c d n t e g =
    after (p_ty 16) (λ t. give (c t)) (ty_bytes t) t [] (subst (λ (s : List ℕ). p_ty 16 s ≡ some (t, [])) (append-nil (ty_bytes t))
    (ty_within d n t e g []))

not_shape : (t : Ty) → (whole p_shape (ty_bytes t) ≡ none) × (whole p_runtime (ty_bytes t) ≡ none)
unfolding whole p_shape p_runtime ty_bytes
not_shape (Ts k) = (refl, refl)
not_shape (Tv n k) = (refl, refl)
not_shape (Tm c r k) = (refl, refl)
not_shape (Ta n t) = (refl, refl)
not_shape (Tu i m) = (refl, refl)

kept : (g : Target) → T (good_target g) → if? good_target (some g) ≡ some g
unfolding if?
kept g h = rw (true_of (good_target g) h)

of_back : (t : Ty) → T (good_target (Of t)) → whole p_of (ty_bytes t) ≡ some (Of t)
unfolding p_of good_target good_ty
of_back t h = whole_back p_of (ty_bytes t) (Of t) (ty_alone Of 15 4096 t (omega arith) h)

runtime_back : (t : Ty) → T (good_target (Tr t)) → whole p_runtime (‘T’ ∷ ‘r’ ∷ ty_bytes t) ≡ some (Tr t)
unfolding p_runtime p_tr good_target
runtime_back t h = whole_back p_runtime (‘T’ ∷ ‘r’ ∷ ty_bytes t) (Tr t) (ty_alone Tr 14 4092 t (omega arith) h)

pub target_back : (g : Target) → T (good_target g) → read_target (target_bytes g) ≡ some g
unfolding read_target target_bytes whole p_shape p_qv p_qm
target_back (Of t) h = rw ((not_shape t).0, (not_shape t).1, of_back t h) (kept (Of t) h)
target_back (Tr t) h = rw (runtime_back t h) (kept (Tr t) h)
target_back Qa h = kept Qa h
target_back (Qv n) h = kept (Qv n) h
target_back (Qm c r) h = kept (Qm c r) h

-- ---- one value alone

pub val_alone : (v : Val) → T (good_val v) → read_val (val_bytes v) ≡ some v
unfolding read_val if?
val_alone v h = rw (whole_back (p_val 16) (val_bytes v) v (rw append-nil at (good_val_back v h [])), true_of (good_val v) h)
