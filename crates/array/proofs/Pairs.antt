-- The first member type and the first argument, and the others.
use mathlib.Core.Path.{◌≡◌, refl, sym, ap, ◌∙◌, subst}
use mathlib.Core.Option.{none}
use mathlib.Core.List.{List, [], ◌∷◌}
use mathlib.Core.Bool.{Bool, true, false}
use Prim.Native.Nat.{ℕ, ◌+◌, ◌-◌, ◌<◌}
use native.Mathlib.Omega.{arith}
use lib.Dec.{T}
use lib.ListN.{length, take, drop, length-drop}
use Rattle.meaning.specs.Trees.{Ty, Tys, [·], ◌▸◌, Val, type_of, tys_list}
use Rattle.meaning.specs.Records.{ty_bytes, joined}
use Rattle.meaning.specs.Convert.{converts, conv_val}
use Rattle.laws.proofs.AgreeConv.{conv_not}
use Rattle.ty.specs.Stands.{Stands, StandAll, Standing, Whole}
use Rattle.ty.proofs.Heads.{first_is}
use Rattle.conv.specs.Values.{ValueTo, ValueFits}
use Rattle.conv.proofs.Slices.{part, val_part}
use Rattle.record.specs.Values.{HasVal}
use Rattle.shape.specs.TypeRows.{EndsAt}
use Rattle.args.specs.Row.{SomeArg, NextIs}
use Rattle.args.proofs.ArgumentRows.{row_has, some_val}
use Rattle.convert_all.specs.Lists.{ArgConverts}
use Rattle.shape.proofs.Places.{cut_whole}
use Rattle.shape.proofs.Downs.{none_of}
use Rattle.array.specs.Members.{Pairs, MemberEnds}

module _ {target : List ℕ} {at : ℕ} {args : List ℕ} {i : ℕ} {t : Ty} {m : Tys} {v : Val} {l : List Val}
    (x : Pairs target at args i (t ▸ m) (v ∷ l)) where
  both : Stands 14 target at t (at + length (ty_bytes t)) × StandAll 14 target (at + length (ty_bytes t)) (length l) m (length target)
  both =
      let f = first_is x.types (omega arith) in
      let a : f.type ≡ t = cc f.is in
      let b : f.others ≡ m = cc f.is in
      let n : length (v ∷ l) - 1 ≡ length l = omega arith in
      let c : f.mid ≡ at + length (ty_bytes t) = f.first.size ∙ ap (λ (u : Ty). at + length (ty_bytes u)) a in
      (rw (a, c) at f.first, rw (b, c, n) at f.rest)

  pub pair_arg : SomeArg args i
  pair_arg = record { value = v; others = l; row = x.row }

  pub pair_type : Standing 14 target at
  pair_type = record { type = t; end = at + length (ty_bytes t); stands = both.0 }

  module _ {q : ℕ} (f : EndsAt 14 target at q) where
    pub pair_stands : Stands 14 target at t q
    pair_stands = subst (Stands 14 target at t) (sym (f t (at + length (ty_bytes t)) both.0)) both.0

    pub pair_part : Whole (take (q - at) (drop at target)) t
    pair_part = cut_whole pair_stands (omega arith)

    pub pair_rest : {e : ℕ} → NextIs args i v l e → Pairs target q args e m l
    pair_rest n = record {
      types = subst (λ (p : ℕ). StandAll 14 target p (length l) m (length target))
          (sym (f t (at + length (ty_bytes t)) both.0)) both.1;
      row = n.rest;
    }

  -- the argument to the member's type, where its type converts
  pub pair_to : {e : ℕ} → NextIs args i v l e → T (converts (type_of v) t) → ValueTo 14 target at (part args i e) 0 (length (part args i e)) t v
  pair_to {e} n c =
      record {
        part = t;
        end = at + length (ty_bytes t);
        stands = both.0;
        bottom = refl;
        has = val_part (subst (λ (p : ℕ). HasVal args i p v)
            (sym n.end) (row_has x.row));
        converts = c;
      }

  pub pair_more : {e : ℕ} → NextIs args i v l e → i < e
  pair_more n = omega (arith, n.end, some_val v)

  -- whether it converts: the type, then the literals
  module _ {q : ℕ} (f : EndsAt 14 target at q) {a : Bool} (c : ArgConverts args i (take (q - at) (drop at target)) a) where
    type_is : a ≡ converts (type_of v) t
    type_is = c v l t x.row (pair_part f)

    pub type_no : a ≡ false → conv_val t v ≡ none
    type_no h = conv_not t v (sym type_is ∙ h)

    module _ (h : a ≡ true) {e : ℕ} (y : NextIs args i v l e) where
      pub fits_asked : ValueTo 14 target at (part args i e) 0 (length (part args i e)) t v
      fits_asked = pair_to y (subst T (sym h ∙ type_is) tt)

      module _ {b : Bool} (g : ValueFits 14 target at (part args i e) 0 (length (part args i e)) b) where
        pub fits_no : b ≡ false → conv_val t v ≡ none
        fits_no k = none_of (conv_val t v) (sym k ∙ g t v fits_asked)

        pub fits_yes : b ≡ true → MemberEnds target args i t m v l e q
        fits_yes k = record { more = pair_more y; fits = sym (g t v fits_asked) ∙ k; rest = pair_rest f y }

-- ---- what is left decides, of members and arguments

-- from `at` and i on there are members and arguments of which Q holds
pub record PairsLeft (target : List ℕ) (at : ℕ) (args : List ℕ) (i : ℕ) (Q : Tys → List Val → Type 0) : Type 0 where
  pub types : Tys
  pub values : List Val
  pub pairs : Pairs target at args i types values
  pub so : Q types values

-- where arguments are left, there is a member for the first
pub pairs_first : {target : List ℕ} {at : ℕ} {args : List ℕ} {i : ℕ} {Q : Tys → List Val → Type 0} → PairsLeft target at args i Q
    → i < length args → {P : Type 0} → ((t : Ty) (m : Tys) (v : Val) (l : List Val) → Pairs target at args i (t ▸ m) (v ∷ l)
    → Q (t ▸ m) (v ∷ l) → P) → P
unfolding joined tys_list
pairs_first {target} {at} {args} {i} {Q} g h {P} k = go g.types g.values g.pairs g.so
  where
    go : (m : Tys) (l : List Val) → Pairs target at args i m l → Q m l → P
    go m [] x q = absurd (omega (arith, length-drop i args, ap length x.row.here))
    go [·] (v ∷ l) x q = absurd (omega (arith, x.types.count))
    go (t ▸ m) (v ∷ l) x q = k t m v l x q
