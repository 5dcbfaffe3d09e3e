-- Values that stand in a row, each of a type that is known.
use mathlib.Core.Path.{◌≡◌, refl, sym, ap, ap₂, ◌∙◌}
use mathlib.Core.List.{List, ◌++◌, append_assoc}
use Prim.Native.Nat.{ℕ, zero, suc, ◌+◌, ◌-◌, ◌≤◌, ◌<◌}
use native.Mathlib.Omega.{arith}
use native.Mathlib.Nat.{add-zero}
use lib.Dec.{T}
use lib.ListN.{length, drop, length-append}
use Rattle.meaning.specs.Trees.{Ty, Tys, [·], ◌▸◌, Vals, ⟨⟩, ◌▹◌, types_of, val_len}
use Rattle.meaning.specs.Records.{val_bytes, vals_bytes, shaped_val, shaped_vals}
use Rattle.laws.proofs.Back.{and_l, and_r}
use Rattle.laws.proofs.Same.{both}
use Rattle.laws.proofs.Length.{val_len_lem}
use Rattle.ty.specs.TypeFronts.{Same}
use Rattle.record.proofs.Places.{past}
use Rattle.inst.specs.Values.{Fits, FitsAll, copies}
use Rattle.inst.specs.Reading.{Told, Says}
use Rattle.std.specs.declared.option.Option.{Option}
use Rattle.std.specs.declared.option.Option.TheVariants.{None, Some}

-- ---- answers

-- where the ends are the same, so is the answer
pub told_as : {X Y : ℕ → Type 0} → Same X Y → (r : Option ℕ) → Told X r → Told Y r
told_as f (Some e) h = (f e).0 h
told_as f None h = λ e y. h e ((f e).1 y)

pub says_as : {X Y P Q : ℕ → Type 0} → Same X Y → ((q : ℕ) → P q → Q q) → (r : Option (ℕ × ℕ)) → Says X P r → Says Y Q r
says_as f g (Some (e, q)) h = ((f e).0 h.0, g q h.1)
says_as f g None h = λ e y. h e ((f e).1 y)

-- the answer of a reader of values, with a type's end
abbrev pub pair_of : Option ℕ → ℕ → Option (ℕ × ℕ)
pair_of (Some e) q = Some (e, q)
pair_of None q = None

pub says_pair : (X Q : ℕ → Type 0) (v : Option ℕ) (q : ℕ) → Told X v → Q q → Says X Q (pair_of v q)
says_pair X Q (Some e) q h i = (h, i)
says_pair X Q None q h i = h

-- ---- the types of n equal parts

pub copies_more : (n : ℕ) (t : Ty) → 0 < n → copies n t ≡ t ▸ copies (n - 1) t
unfolding copies
copies_more zero t h = absurd (omega arith)
copies_more (suc n) t h = let e : n ≡ suc n - 1 = omega arith in ap (λ (i : ℕ). t ▸ copies i t) e

pub copies_none : (n : ℕ) (t : Ty) → n ≡ 0 → copies n t ≡ [·]
unfolding copies
copies_none zero t h = refl
copies_none (suc n) t h = absurd (omega arith)

module _ (s : List ℕ) (at : ℕ) where
  -- a value ends where its type says
  pub fits_end : (t : Ty) (e : ℕ) → Fits s at t e → e ≡ at + val_len t
  fits_end t e w = w.size ∙ ap (λ (n : ℕ). at + n) (val_len_lem w.value w.shaped ∙ ap val_len w.type)

  pub nil_fits : at ≤ length s → FitsAll s at [·] at
  unfolding vals_bytes types_of shaped_vals
  nil_fits h = record { values = ⟨⟩; here = refl; size = sym (add-zero at); within = h; shaped = tt; types = refl }

  pub cons_fits : (t : Ty) (m : Tys) (mid e : ℕ) → Fits s at t mid → FitsAll s mid m e → FitsAll s at (t ▸ m) e
  unfolding vals_bytes types_of shaped_vals
  cons_fits t m mid e v w =
      let a = val_bytes v.value in
      let b = vals_bytes w.values in
      record {
        values = v.value ▹ w.values;
        here = v.here ∙ (ap (λ (l : List ℕ). a ++ l) w.here ∙ sym (append_assoc a b (drop e s)));
        size = omega (arith, v.size, w.size, length-append a b);
        within = w.within;
        shaped = both (shaped_val v.value) (shaped_vals w.values) v.shaped w.shaped;
        types = ap₂ ◌▸◌ v.type w.types;
      }

  -- the first of some values, and the others
  pub record First (t : Ty) (m : Tys) (e : ℕ) : Type 0 where
    pub mid : ℕ
    pub first : Fits s at t mid
    pub rest : FitsAll s mid m e

  pub first_fits : (t : Ty) (m : Tys) (e : ℕ) → FitsAll s at (t ▸ m) e → First t m e
  unfolding vals_bytes types_of shaped_vals
  first_fits t m e w = go w.values w.here w.size w.shaped w.types
    where
      go : (l : Vals) → drop at s ≡ vals_bytes l ++ drop e s → e ≡ at + length (vals_bytes l) → T (shaped_vals l) → types_of l ≡ t ▸ m
          → First t m e
      go ⟨⟩ h z g q = absurd (let x : ◌≡◌ {A = ℕ} 0 1 = cc in omega arith)
      go (v ▹ l) h z g q =
          let a = val_bytes v in
          let b = vals_bytes l in
          let n = length-append a b in
          let p : drop at s ≡ a ++ (b ++ drop e s) = h ∙ append_assoc a b (drop e s) in
          let f : drop (at + length a) s ≡ b ++ drop e s = past s a (b ++ drop e s) at p in
          record {
            mid = at + length a;
            first = record {
              value = v;
              here = rw f p;
              size = refl;
              within = omega (arith, w.within);
              shaped = and_l (shaped_val v)
                  (shaped_vals l) g;
              type = cc;
            };
            rest = record {
              values = l;
              here = f;
              size = omega arith;
              within = w.within;
              shaped = and_r (shaped_val v) (shaped_vals l) g;
              types = cc;
            };
          }

  pub none_fits : (e : ℕ) → FitsAll s at [·] e → e ≡ at
  unfolding vals_bytes types_of
  none_fits e w = go w.values w.size w.types
    where
      go : (l : Vals) → e ≡ at + length (vals_bytes l) → types_of l ≡ [·] → e ≡ at
      go ⟨⟩ z q = omega arith
      go (v ▹ l) z q = absurd (let x : ◌≡◌ {A = ℕ} 0 1 = cc in omega arith)

  module _ (t : Ty) (m : Tys) where
    -- a value of the first type stands there and ends at mid: the ends from there on are those from mid on
    pub one_on : (mid : ℕ) → Fits s at t mid → Same (FitsAll s mid m) (FitsAll s at (t ▸ m))
    one_on mid v e = (
      cons_fits t m mid e v,
      λ w. let f = first_fits t m e w in let i : f.mid ≡ mid = fits_end t f.mid f.first
          ∙ sym (fits_end t mid v) in rw i at f.rest,
    )

    -- no value of the first type stands there
    pub none_on : ((e : ℕ) → Fits s at t e → ⊥) → (e : ℕ) → FitsAll s at (t ▸ m) e → ⊥
    none_on f e w = let x = first_fits t m e w in f x.mid x.first

-- ---- n values of one type: the step of a loop

module _ {s : List ℕ} {at n : ℕ} {t : Ty} where
  pub each_on : (m : ℕ) → n ≡ m + 1 → {mid : ℕ} → Fits s at t mid → Same (FitsAll s mid (copies m t)) (FitsAll s at (copies n t))
  each_on m h {mid} v =
      let k : n - 1 ≡ m = omega arith in
      rw (copies_more n t (let z : 0 < n = omega arith in z), k) (one_on s at t (copies m t) mid v)

  pub each_none : 0 < n → ((e : ℕ) → Fits s at t e → ⊥) → (e : ℕ) → FitsAll s at (copies n t) e → ⊥
  each_none h = rw (copies_more n t h) (none_on s at t (copies (n - 1) t))

pub each_end : (s : List ℕ) (at n : ℕ) (t : Ty) → n ≡ 0 → at ≤ length s → FitsAll s at (copies n t) at
each_end s at n t h i = rw (copies_none n t h) (nil_fits s at i)
