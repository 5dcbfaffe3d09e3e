-- A whole type record as the target, by its front.
use mathlib.Core.Path.{◌≡◌, refl, sym, ap, ◌∙◌, subst}
use mathlib.Core.List.{List, ◌++◌, append-nil}
use Prim.Native.Nat.{ℕ, ◌≤◌}
use native.Mathlib.Omega.{arith}
use lib.Dec.{T}
use lib.ListN.{length, length-append}
use lib.Seq.{drop-length}
use Rattle.meaning.specs.Trees.{Ty, Tys, [·], ◌▸◌, tys_list, depths}
use Rattle.meaning.specs.Records.{ty_bytes, tys_bytes, joined, shaped_ty, shaped_tys, good_ty}
use Rattle.laws.proofs.Back.{and_l, and_r}
use Rattle.laws.proofs.Sound.{All}
use Rattle.ty.specs.Stands.{Stands, Ends}
use Rattle.ty.specs.Heads.{head_of}
use Rattle.ty.specs.declared.Head.TheVariants.{Scalar, Vector, Matrix, Array, Struct}
use Rattle.ty.proofs.Heads.{scalar_is, vector_is, matrix_is, array_is, struct_is}
use Rattle.args.specs.Counts.{TypeArg}
use Rattle.args.proofs.Rest.{within_of, short_of}
use Rattle.arg_types.specs.Given.{Given}
use Rattle.check_type.specs.Rules.{OfRules, ScalarChecks, VectorChecks, MatrixChecks, ArrayChecks, StructChecks, StructIs}
use Rattle.check_type.specs.Rules.{SomeStruct, WholeType}
use Rattle.check_type.specs.Rules.{Checked}

-- ---- a struct's members as a row

joined_members : (m : Tys) → tys_bytes m ≡ joined ty_bytes (tys_list m)
unfolding ty_bytes tys_list joined
joined_members [·] = refl
joined_members (t ▸ m) = ap (λ (b : List ℕ). ty_bytes t ++ b) (joined_members m)

each_member : (m : Tys) → T (shaped_tys m) → depths m ≤ 15 → length (tys_bytes m) ≤ 4096 → All (TypeArg 15 4096) (tys_list m)
unfolding ty_bytes tys_list shaped_tys depths
each_member [·] g d l = tt
each_member (t ▸ m) g d l =
    let n = length-append (ty_bytes t) (tys_bytes m) in (
      within_of 15 4096 t (and_l (shaped_ty t) (shaped_tys m) g) (omega arith) (omega arith),
      each_member m
          (and_r (shaped_ty t) (shaped_tys m) g) (omega arith) (omega arith),
    )

module _ {target : List ℕ} {t : Ty} (x : WholeType target t) where
  small : length target ≤ 4096
  unfolding good_ty
  small = omega (arith, x.whole.size, short_of 15 4096 t x.good)

  module _ {n : ℕ} (h : Array n ≡ head_of t) where
    pub elem_whole : Stands 15 target 4 (array_is x.whole h).elem (length target)
    elem_whole = let p = (array_is x.whole h).part in record {
      here = p.here;
      size = p.size;
      within = p.within;
      shaped = p.shaped;
      deep = omega (arith, p.deep);
    }

    pub elem_ends : Ends 15 target 4 (length target)
    elem_ends = record { type = _; stands = elem_whole }

  module _ {i n : ℕ} (h : Struct i n ≡ head_of t) where
    pub struct_whole : StructIs target n (struct_is x.whole h).members
    struct_whole =
        let p = (struct_is x.whole h).parts in
        let m = (struct_is x.whole h).members in
        record {
          members = record {
            within = omega (arith, p.size);
            here = p.here ∙ (rw (drop-length target) (append-nil (tys_bytes m) ∙ joined_members m));
            each = each_member m p.shaped (omega (arith, p.deep)) (omega (arith, p.size, small));
          };
          count = sym p.count;
        }

    pub some_struct : SomeStruct target n
    some_struct = record { members = _; is = struct_whole }

  -- ---- what a check by the front says of the type

  module _ {args : List ℕ} {n : ℕ} {l : List Ty} (g : Given args n l) (r : Checked) where
    pub whole_scalar : {k : ℕ} → Scalar k ≡ head_of t → ScalarChecks k args n r → OfRules t l r
    whole_scalar h f = let y = scalar_is x.whole h in subst (λ (u : Ty). OfRules u l r) (sym y.is) (f y.kind l y.no g)

    pub whole_vector : {m k : ℕ} → Vector m k ≡ head_of t → VectorChecks m k args n r → OfRules t l r
    whole_vector h f = let y = vector_is x.whole h in subst (λ (u : Ty). OfRules u l r) (sym y.is) (f y.kind l y.no g)

    pub whole_matrix : {a b k : ℕ} → Matrix a b k ≡ head_of t → MatrixChecks a b k args n r → OfRules t l r
    whole_matrix h f = let y = matrix_is x.whole h in subst (λ (u : Ty). OfRules u l r) (sym y.is) (f y.kind l y.no g)

    pub whole_array : {m : ℕ} → Array m ≡ head_of t → ArrayChecks target args r → OfRules t l r
    whole_array {m} h f = let y = array_is x.whole h in subst (λ (u : Ty). OfRules u l r) (sym y.is)
        (f m y.elem l (elem_whole h) g.row)

    pub whole_struct : {i m : ℕ} → Struct i m ≡ head_of t → StructChecks target m args n r → OfRules t l r
    whole_struct {i} h f = let y = struct_is x.whole h in subst (λ (u : Ty). OfRules u l r) (sym y.is)
        (f i y.members l (struct_whole h) g)
