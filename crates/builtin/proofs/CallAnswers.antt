-- From the stage, the target and the arguments that were read to the answer: "Order: 3, 1, 2, then the order above, then 22".
use mathlib.Core.Path.{◌≡◌, subst}
use mathlib.Core.Option.{none, some}
use mathlib.Core.Bool.{◌&&◌}
use mathlib.Core.List.{List, [], ◌∷◌, map}
use Prim.Native.Nat.{ℕ}
use native.Mathlib.Omega.{arith}
use lib.Dec.{T}
use lib.ListN.{length}
use Rattle.meaning.specs.Kinds.{Kind, kind_no, is_float}
use Rattle.meaning.specs.Scalars.{Stage}
use Rattle.meaning.specs.Trees.{Ty, Tv, Tm, Val, Target, type_of}
use Rattle.meaning.specs.Records.{every, side, shaped_ty, shaped_val, good_ty, good_val, good_tys, good_args}
use Rattle.meaning.specs.Read.{read_target, read_vals}
use Rattle.meaning.specs.Answers.{no}
use Rattle.meaning.specs.Build.{build}
use Rattle.meaning.specs.Entries.{stage_of, build_answer}
use Rattle.laws.proofs.Back.{and_l, and_r}
use Rattle.laws.proofs.Sound.{All, Bytes}
use Rattle.laws.proofs.Exact.{vals_exact}
use Rattle.ty.specs.TypeFronts.{float_number}
use Rattle.ty.proofs.Numbers.{float_number_lem}
use Rattle.args.specs.Counts.{ValueArg}
use Rattle.ty.specs.Stands.{Whole}
use Rattle.error.specs.Told.{Told, Builds}
use Rattle.error.proofs.Told.{told_as}
use Rattle.args.specs.Row.{Given}
use Rattle.args.proofs.Rest.{BothRead, NoneRead}
use Rattle.builtin.specs.Calls.{build_target, build_at}
use Rattle.error.specs.Told.{Written}

-- ---- the stage, and the target

module _ (stage : ℕ) (target args : List ℕ) (room : ℕ) where
  -- "3 stage over 2", before all
  pub no_stage : stage_of stage ≡ none → build_answer stage target args room ≡ no 3
  unfolding build_answer
  no_stage e = rw e

  pub staged_answer : {s : Stage} → stage_of stage ≡ some s → build_answer stage target args room ≡ build_at s target args room
  unfolding build_answer build_at
  staged_answer e = rw e

-- the constructor of the target that is read
module _ (s : Stage) (target : List ℕ) (l : List Val) where
  pub target_builds : {g : Target} → read_target target ≡ some g → build_target s target l ≡ build s g l
  unfolding build_target
  target_builds e = rw e

-- ---- the length of a vector's type, and the kind of a matrix's

module _ {target : List ℕ} {t : Ty} (w : Whole target t) where
  pub vector_side : {n : ℕ} {k : Kind} → t ≡ Tv n k → T (side n)
  unfolding shaped_ty
  vector_side e = subst (λ (u : Ty). T (shaped_ty u)) e w.shaped

  pub matrix_float : {c r n : ℕ} {k : Kind} → t ≡ Tm c r k → n ≡ kind_no k → T (float_number n)
  unfolding shaped_ty
  matrix_float {c} {r} {k = k} e q =
      let g : T (side c && side r && is_float k) = subst (λ (u : Ty). T (shaped_ty u)) e w.shaped in
      rw (q, float_number_lem k) (and_r (side c && side r) (is_float k) g)

-- ---- the arguments

good_each : (l : List Val) → T (every good_val l) → All (ValueArg 15 4096) l
unfolding every good_val good_ty
good_each [] h = tt
good_each (v ∷ l) h =
    let g = and_l (good_val v) (every good_val l) h in (
      (and_l (shaped_val v) (good_ty (type_of v)) g, and_r (shaped_val v) (good_ty (type_of v)) g),
      good_each l
          (and_r (good_val v) (every good_val l) h),
    )

pub read_given : {target : List ℕ} (s : List ℕ) (b : Bytes s) {n : ℕ} (x : BothRead read_vals target s n) → Given s n x.items
unfolding good_args
read_given s b x =
    let l = x.items in
    let y = (vals_exact x.for).sound s l b x.given in
    record {
      row = record {
        within = omega arith;
        here = y.0;
        each = good_each l
            (and_l (every good_val l) (good_tys x.for (map type_of l)) y.1);
      };
      count = x.count;
    }

-- ---- the answer

module _ (s : Stage) (target args : List ℕ) where
  -- "1 bad target record"
  pub no_target : (room : ℕ) → read_target target ≡ none → build_at s target args room ≡ no 1
  unfolding build_at
  no_target room e = rw e

  -- "2 bad argument"
  pub no_args : (room : ℕ) → NoneRead read_vals target args → build_at s target args room ≡ no 2
  unfolding build_at
  no_args room x = rw (x.reads, x.bad)

  -- what is made of the arguments
  pub read_builds : {n : ℕ} (x : BothRead read_vals target args n) {out out' : List ℕ} {r : Written}
      → Builds (build_target s target x.items) out r out' → Told (build_at s target args (length out)) out r out'
  unfolding build_at build_target
  read_builds x b = told_as (rw (x.reads, x.given)) b
