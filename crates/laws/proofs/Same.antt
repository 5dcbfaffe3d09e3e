-- Equal types, by test and as a path.
use mathlib.Core.Path.{◌≡◌, refl, ap, ap₂}
use mathlib.Core.Bool.{Bool, true, false, ◌&&◌}
use Prim.Native.Nat.{ℕ}
use lib.Dec.{T, eqb, eqb→eq, eqb_refl}
use Rattle.meaning.specs.Kinds.{Kind, same_kind, kind_no}
use Rattle.meaning.specs.Trees.{Ty, Ts, Tv, Tm, Ta, Tu, Tys, [·], ◌▸◌, same_ty, same_tys}
use Rattle.laws.proofs.AgreeLit.{same_kind_lem}
use Rattle.laws.proofs.Back.{and_l, and_r}

tm_path : (c r : ℕ) (j : Kind) (a b : ℕ) (k : Kind) → T (eqb c a && eqb r b && same_kind j k) → Tm c r j ≡ Tm a b k
tm_path c r j a b k h =
    let p : c ≡ a = eqb→eq c a (and_l (eqb c a) (eqb r b) (and_l (eqb c a && eqb r b) (same_kind j k) h)) in
    let q : r ≡ b = eqb→eq r b (and_r (eqb c a) (eqb r b) (and_l (eqb c a && eqb r b) (same_kind j k) h)) in
    let e : j ≡ k = same_kind_lem j k (and_r (eqb c a && eqb r b) (same_kind j k) h) in
    cc

mutual
  unfolding same_ty

  pub same_ty_lem : (x y : Ty) → T (same_ty x y) → x ≡ y
  same_ty_lem (Ts j) (Ts k) h = ap Ts (same_kind_lem j k h)
  same_ty_lem (Ts x0) (Tv y0 y1) h = absurd h
  same_ty_lem (Ts x0) (Tm y0 y1 y2) h = absurd h
  same_ty_lem (Ts x0) (Ta y0 y1) h = absurd h
  same_ty_lem (Ts x0) (Tu y0 y1) h = absurd h
  same_ty_lem (Tv x0 x1) (Ts y0) h = absurd h
  same_ty_lem (Tv n j) (Tv m k) h = ap₂ Tv (eqb→eq n m (and_l (eqb n m) (same_kind j k) h)) (same_kind_lem j k (and_r (eqb n m) (same_kind j k) h))
  same_ty_lem (Tv x0 x1) (Tm y0 y1 y2) h = absurd h
  same_ty_lem (Tv x0 x1) (Ta y0 y1) h = absurd h
  same_ty_lem (Tv x0 x1) (Tu y0 y1) h = absurd h
  same_ty_lem (Tm x0 x1 x2) (Ts y0) h = absurd h
  same_ty_lem (Tm x0 x1 x2) (Tv y0 y1) h = absurd h
  same_ty_lem (Tm c r j) (Tm a b k) h = tm_path c r j a b k h
  same_ty_lem (Tm x0 x1 x2) (Ta y0 y1) h = absurd h
  same_ty_lem (Tm x0 x1 x2) (Tu y0 y1) h = absurd h
  same_ty_lem (Ta x0 x1) (Ts y0) h = absurd h
  same_ty_lem (Ta x0 x1) (Tv y0 y1) h = absurd h
  same_ty_lem (Ta x0 x1) (Tm y0 y1 y2) h = absurd h
  same_ty_lem (Ta n t) (Ta m u) h = ap₂ Ta (eqb→eq n m (and_l (eqb n m) (same_ty t u) h)) (same_ty_lem t u (and_r (eqb n m) (same_ty t u) h))
  same_ty_lem (Ta x0 x1) (Tu y0 y1) h = absurd h
  same_ty_lem (Tu x0 x1) (Ts y0) h = absurd h
  same_ty_lem (Tu x0 x1) (Tv y0 y1) h = absurd h
  same_ty_lem (Tu x0 x1) (Tm y0 y1 y2) h = absurd h
  same_ty_lem (Tu x0 x1) (Ta y0 y1) h = absurd h
  same_ty_lem (Tu i l) (Tu h' m) h = ap₂ Tu (eqb→eq i h' (and_l (eqb i h') (same_tys l m) h)) (same_tys_lem l m (and_r (eqb i h') (same_tys l m) h))

  pub same_tys_lem : (x y : Tys) → T (same_tys x y) → x ≡ y
  same_tys_lem [·] [·] h = refl
  same_tys_lem [·] (u ▸ m) h = absurd h
  same_tys_lem (t ▸ l) [·] h = absurd h
  same_tys_lem (t ▸ l) (u ▸ m) h = ap₂ ◌▸◌ (same_ty_lem t u (and_l (same_ty t u) (same_tys l m) h))
      (same_tys_lem l m (and_r (same_ty t u) (same_tys l m) h))

pub same_kind_refl : (k : Kind) → T (same_kind k k)
unfolding same_kind
same_kind_refl k = eqb_refl (kind_no k)

pub both : (a b : Bool) → T a → T b → T (a && b)
both true b h k = k
both false b h k = h

mutual
  unfolding same_ty

  pub same_refl : (x : Ty) → T (same_ty x x)
  same_refl (Ts k) = same_kind_refl k
  same_refl (Tv n k) = both (eqb n n) (same_kind k k) (eqb_refl n) (same_kind_refl k)
  same_refl (Tm c r k) = both (eqb c c && eqb r r) (same_kind k k) (both (eqb c c) (eqb r r) (eqb_refl c) (eqb_refl r)) (same_kind_refl k)
  same_refl (Ta n t) = both (eqb n n) (same_ty t t) (eqb_refl n) (same_refl t)
  same_refl (Tu i l) = both (eqb i i) (same_tys l l) (eqb_refl i) (same_refls l)

  pub same_refls : (x : Tys) → T (same_tys x x)
  same_refls [·] = tt
  same_refls (t ▸ l) = both (same_ty t t) (same_tys l l) (same_refl t) (same_refls l)
