-- The steps of the walk over types in a row.
use mathlib.Core.Path.{◌≡◌, refl, sym, ap, ◌∙◌, subst}
use mathlib.Core.List.{List, ◌++◌, append_assoc}
use Prim.Native.Nat.{ℕ, ◌+◌, ◌-◌, ◌≤◌, ◌<◌}
use native.Mathlib.Omega.{arith}
use native.Mathlib.Nat.{add-zero}
use lib.Dec.{T, eqb, eqb→eq, eqb_refl}
use lib.ListN.{length, drop, length-append}
use Rattle.meaning.specs.Trees.{Ty, Tys, [·], ◌▸◌, tys_list, depths}
use Rattle.meaning.specs.Records.{ty_bytes, tys_bytes, shaped_ty, shaped_tys}
use Rattle.laws.proofs.Same.{both}
use Rattle.record.proofs.Starts.{decides_as, decides_test}
use Rattle.ty.specs.Stands.{Stands, StandAll, Ends, EndAll}
use Rattle.ty.specs.TypeFronts.{Told, Same}
use Rattle.record.specs.Bytes.{Decides}
use Rattle.ty.proofs.Places.{same_end}
use Rattle.ty.proofs.Heads.{first_is}
use Rattle.std.specs.Option.{option_eq}
use Rattle.std.specs.declared.option.Option.{Option}
use Rattle.std.specs.declared.option.Option.TheVariants.{None, Some}

-- ---- answers

-- where the ends are the same, so is the answer
pub told_as : {X Y : ℕ → Type 0} → Same X Y → (r : Option ℕ) → Told X r → Told Y r
told_as f (Some e) h = (f e).0 h
told_as f None h = λ e y. h e ((f e).1 y)

pub same_trans : {X Y Z : ℕ → Type 0} → Same X Y → Same Y Z → Same X Z
same_trans f g e = ((λ x. (g e).0 ((f e).0 x)), λ z. (f e).1 ((g e).1 z))

-- ---- types in a row

module _ {d : ℕ} {s : List ℕ} where
  pub nil_stands : (at : ℕ) → at ≤ length s → StandAll d s at 0 [·] at
  unfolding ty_bytes tys_list shaped_tys depths
  nil_stands at h = record { here = refl; size = sym (add-zero at); within = h; shaped = tt; deep = omega arith; count = refl }

  pub cons_stands : {at n : ℕ} {t : Ty} {m : Tys} {mid e : ℕ} → Stands d s at t mid → StandAll d s mid n m e
      → StandAll d s at (n + 1) (t ▸ m) e
  unfolding ty_bytes tys_list shaped_tys depths
  cons_stands {t = t} {m} {e = e} v w =
      record {
        here = v.here ∙ (ap (λ (l : List ℕ). ty_bytes t ++ l) w.here ∙ sym (append_assoc (ty_bytes t) (tys_bytes m) (drop e s)));
        size = omega (arith, v.size, w.size, length-append (ty_bytes t) (tys_bytes m));
        within = w.within;
        shaped = both (shaped_ty t) (shaped_tys m) v.shaped w.shaped;
        deep = omega (arith, v.deep, w.deep);
        count = omega (arith, w.count);
      }

  module _ {at n : ℕ} where
    -- one type stands there and ends at mid: the ends of the n from there on are those of the others from mid on
    pub one_on : {mid m : ℕ} → n ≡ m + 1 → Ends d s at mid → Same (EndAll d s mid m) (EndAll d s at n)
    one_on {m = m} h v e = (
      (λ w. record { types = v.type ▸ w.types; stands = rw (sym h) at (cons_stands v.stands w.stands) }),
      λ w. let f = first_is w.stands (let k : 0 < n = omega arith in k) in
          let k : n - 1 ≡ m = omega arith in
          record { types = f.others; stands = rw (same_end f.first v.stands, k) at f.rest },
    )

    -- no type stands there: no n types do
    pub none_on : 0 < n → ((e : ℕ) → Ends d s at e → ⊥) → (e : ℕ) → EndAll d s at n e → ⊥
    none_on h f e w = let x = first_is w.stands h in f x.mid record { type = x.type; stands = x.first }

-- ---- a type that is all of the bytes

module _ (d : ℕ) (s : List ℕ) (at : ℕ) where
  -- whether a type that stands there ends at n is whether n is the end that was answered
  pub ends_at : (n : ℕ) (r : Option ℕ) → Told (Ends d s at) r → Decides (Ends d s at n) (option_eq eqb r (Some n))
  ends_at n (Some e) w =
      decides_as (eqb e n) (decides_test {r = eqb e n} refl) (λ h. subst (Ends d s at) (eqb→eq e n h) w)
      (λ z. subst (λ (x : ℕ). T (eqb e x)) (same_end w.stands z.stands) (eqb_refl e))
  ends_at n None w = w n
