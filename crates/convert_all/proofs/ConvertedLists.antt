-- Laws for callers: what arguments become, and that all convert to their common type.
use mathlib.Core.Path.{◌≡◌, sym, ap, ◌∙◌, subst}
use mathlib.Core.Option.{some}
use mathlib.Core.List.{List, [], ◌∷◌, map}
use mathlib.Core.Bool.{Bool, true, false}
use Prim.Native.Nat.{◌*◌}
use native.Mathlib.Omega.{arith}
use native.Mathlib.Nat.{zero-mul, suc-mul}
use lib.Dec.{T}
use lib.ListN.{length, replicate, length-append}
use Rattle.meaning.specs.Scalars.{Const}
use Rattle.meaning.specs.Trees.{Ty, Val, type_of, val_len, vals_of}
use Rattle.meaning.specs.Records.{val_bytes, joined, shaped_val, shaped_vals}
use Rattle.meaning.specs.Answers.{all_some}
use Rattle.meaning.specs.Convert.{conv_val, common}
use Rattle.laws.specs.Demand.{fits_in}
use Rattle.laws.proofs.AgreeBuild.{AllOk, ConvL, conv_list}
use Rattle.laws.proofs.AgreeCommon.{common_all}
use Rattle.laws.proofs.AgreeConv.{AllTy}
use Rattle.laws.proofs.Back.{and_l, and_r}
use Rattle.laws.proofs.Length.{val_len_lem}
use Rattle.laws.proofs.Sound.{some_inj, no_some}
use Rattle.laws.proofs.Each.{some_length}
use Rattle.convert_all.specs.Lists.{all_to}
use Rattle.convert_all.proofs.Converts.{to_types, some_to}

-- ---- what the arguments become

-- values of one type, one after another
pub typed_long : (t : Ty) (l : List Val) → T (shaped_vals (vals_of l)) → AllTy t (vals_of l) → length (joined val_bytes l) ≡ length l * val_len t
unfolding joined shaped_vals vals_of
typed_long t [] g a = sym (zero-mul (val_len t))
typed_long t (v ∷ l) g a =
    let i : length (val_bytes v) ≡ val_len t = val_len_lem v (and_l (shaped_val v) (shaped_vals (vals_of l)) g) ∙ ap val_len a.0 in
    let j : length (joined val_bytes l) ≡ length l * val_len t = typed_long t l (and_r (shaped_val v) (shaped_vals (vals_of l)) g) a.1 in
    omega (arith, length-append (val_bytes v) (joined val_bytes l), suc-mul (length l) (val_len t))

module _ (t : Ty) (l : List Val) {ws : List Val} (a : AllOk l) (e : all_some (conv_val t) l ≡ some ws) where
  made : T (shaped_vals (vals_of ws)) × AllTy t (vals_of ws)
  made = go (fits_in false Const (replicate (length l) t) l) (conv_list t l Const a (subst T (sym (to_types t l)) (some_to t l e)))
    where
      go : (b : Bool) → ConvL b (length l) t (all_some (conv_val t) l) → T (shaped_vals (vals_of ws)) × AllTy t (vals_of ws)
      go true (us, q, g, h, c) = let i : us ≡ ws = some_inj (sym q ∙ e) in
          (subst (λ (x : List Val). T (shaped_vals (vals_of x))) i g, subst (λ (x : List Val). AllTy t (vals_of x)) i h)
      go false q = no_some (sym q ∙ e)

  -- they are well shaped, of the type asked for, and as many
  pub all_shaped : T (shaped_vals (vals_of ws))
  all_shaped = made.0

  pub all_typed : AllTy t (vals_of ws)
  all_typed = made.1

  pub all_count : length ws ≡ length l
  all_count = some_length (conv_val t) l ws e

-- ---- to the common type

-- all convert to their common type
pub common_to : (l : List Val) (t : Ty) → common (map type_of l) ≡ some t → T (all_to t l)
common_to l t e = subst T (to_types t l) (common_all (map type_of l) t e)
