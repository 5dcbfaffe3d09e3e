-- Reading gives back what was written: types first.
use mathlib.Core.Path.{◌≡◌, refl, ap, ◌∙◌}
use mathlib.Core.Option.{Option, none, some}
use mathlib.Core.List.{List, ◌∷◌, ◌++◌, append_assoc}
use mathlib.Core.Bool.{Bool, true, false, ◌&&◌}
use Prim.Native.Nat.{ℕ, zero, suc, ◌+◌, ◌*◌, ◌%◌, ◌/◌, ◌<◌, ◌≤◌}
use native.Mathlib.Omega.{arith}
use native.Mathlib.Nat.{not-suc-le-zero}
use lib.Dec.{T, leb, leb→le}
use lib.ListN.{length}
use Rattle.meaning.specs.Kinds.{Kind, kind_no}
use Rattle.meaning.specs.Trees.{Ty, Ts, Tv, Tm, Ta, Tu, Tys, [·], ◌▸◌, tys_list, tys_of, depth, depths}
use Rattle.meaning.specs.Records.{ty_bytes, tys_bytes, le, shaped_ty, shaped_tys, u16, good_within}
use Rattle.meaning.specs.Read.{p_ty, p_ts, p_tv, p_tm, p_ta, p_tu, p_kind, p_scalar_ty, many, Parser, ◌>>=◌, give, lift}
use Rattle.laws.proofs.AgreeLit.{kind_back}

pub and_l : (a b : Bool) → T (a && b) → T a
and_l true b h = tt
and_l false b h = absurd h

pub and_r : (a b : Bool) → T (a && b) → T b
and_r true b h = h
and_r false b h = absurd h

pub shaped_of : (d n : ℕ) (t : Ty) → T (good_within d n t) → T (shaped_ty t)
unfolding good_within
shaped_of d n t h = and_l (shaped_ty t) (leb (depth t) d) (and_l (shaped_ty t && leb (depth t) d) (leb (length (ty_bytes t)) n) h)

pub deep_of : (d n : ℕ) (t : Ty) → T (good_within d n t) → depth t ≤ d
unfolding good_within
deep_of d n t h = leb→le (depth t) d (and_r (shaped_ty t) (leb (depth t) d)
    (and_l (shaped_ty t && leb (depth t) d) (leb (length (ty_bytes t)) n) h))

pub two_bytes : (n : ℕ) → n ≤ 65535 → n % 256 + 256 * (n / 256 % 256) ≡ n
two_bytes n h = omega arith

pub tys_back : (m : Tys) → tys_of (tys_list m) ≡ m
unfolding tys_of tys_list
tys_back [·] = refl
tys_back (t ▸ m) = ap (t ▸◌) (tys_back m)

-- one step of a reader: what it reads first is known
pub after : {A B : Type 0} (p : Parser A) (f : A → Parser B) (s : List ℕ) (a : A) (t : List ℕ) → p s ≡ some (a, t) → ◌>>=◌ p f s ≡ f a t
after {A} {B} p f s a t e =
    ap (λ (x : Option (A × List ℕ)). let r : Option (B × List ℕ) = elim x [ none ↦ none | some r ↦ f r.0 r.1 ] in r) e

pub kind_read : (k : Kind) (rest : List ℕ) → p_kind (kind_no k ∷ rest) ≡ some (k, rest)
unfolding p_kind
kind_read k rest = ap (λ (x : Option Kind). lift x rest) (kind_back k)

pub scalar_read : (k : Kind) (rest : List ℕ) → p_scalar_ty (84 ∷ 115 ∷ kind_no k ∷ rest) ≡ some (k, rest)
unfolding p_scalar_ty
scalar_read k rest = kind_read k rest

mutual
  unfolding p_ty ty_bytes p_ts p_tv p_tm p_ta p_tu shaped_ty depth le u16 tys_list

  pub ty_back : (t : Ty) (d : ℕ) → T (shaped_ty t) → depth t < d → (rest : List ℕ) → p_ty d (ty_bytes t ++ rest) ≡ some (t, rest)
  ty_back (Ts k) zero g h rest = absurd (not-suc-le-zero h)
  ty_back (Ts k) (suc d) g h rest = after p_kind (λ i. give (Ts i)) _ k rest (kind_read k rest)
  ty_back (Tv n k) zero g h rest = absurd (not-suc-le-zero h)
  ty_back (Tv n k) (suc d) g h rest = after p_scalar_ty (λ i. give (Tv n i)) _ k rest (scalar_read k rest)
  ty_back (Tm c r k) zero g h rest = absurd (not-suc-le-zero h)
  ty_back (Tm c r k) (suc d) g h rest = after p_scalar_ty (λ i. give (Tm c r i)) _ k rest (scalar_read k rest)
  ty_back (Ta n t) zero g h rest = absurd (not-suc-le-zero h)
  ty_back (Ta n t) (suc d) g h rest =
      after (p_ty d) (λ a. give (Ta (n % 256 + 256 * (n / 256 % 256)) a)) _ t rest
      (ty_back t d (and_r (leb 1 n && leb n 65535) (shaped_ty t) g) (omega arith) rest)
      ∙ ap (λ (x : ℕ). some (Ta x t, rest)) (two_bytes n (leb→le n 65535
      (and_r (leb 1 n) (leb n 65535) (and_l (leb 1 n && leb n 65535) (shaped_ty t) g))))
  ty_back (Tu i m) zero g h rest = absurd (not-suc-le-zero h)
  ty_back (Tu i m) (suc d) g h rest =
      let len : ℕ = length (tys_list m) in
      let a : T (u16 i && leb 1 len && leb len 1023) = and_l (u16 i && leb 1 len && leb len 1023) (shaped_tys m) g in
      let il : i ≤ 65535 = leb→le i 65535 (and_l (u16 i) (leb 1 len) (and_l (u16 i && leb 1 len) (leb len 1023) a)) in
      let ll : len ≤ 1023 = leb→le len 1023 (and_r (u16 i && leb 1 len) (leb len 1023) a) in
      rw (two_bytes i il, two_bytes len (omega arith))
      (after (many (p_ty d) len) (λ l. give (Tu i (tys_of l))) _ (tys_list m) rest
      (tys_read m d (and_r (u16 i && leb 1 len && leb len 1023) (shaped_tys m) g) (omega arith) rest)
      ∙ ap (λ (x : Tys). some (Tu i x, rest)) (tys_back m))

  pub tys_read : (m : Tys) (d : ℕ) → T (shaped_tys m) → depths m < d → (rest : List ℕ)
      → many (p_ty d) (length (tys_list m)) (tys_bytes m ++ rest) ≡ some (tys_list m, rest)
  tys_read [·] d g h rest = refl
  tys_read (t ▸ m) d g h rest =
      rw append_assoc
      (after (p_ty d) (λ x. ◌>>=◌ (many (p_ty d) (length (tys_list m))) (λ xs. give (x ∷ xs))) _ t (tys_bytes m ++ rest)
      (ty_back t d (and_l (shaped_ty t) (shaped_tys m) g) (omega arith) (tys_bytes m ++ rest))
      ∙ after (many (p_ty d) (length (tys_list m))) (λ xs. give (t ∷ xs)) _ (tys_list m) rest
      (tys_read m d (and_r (shaped_ty t) (shaped_tys m) g) (omega arith) rest))
