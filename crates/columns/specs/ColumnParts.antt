-- The arguments of a matrix, once they are known to convert, and what is made of them.
use Rattle.std.specs.Prelude.{◌≡◌, List, ℕ, T, length}
use Rattle.std.proofs.Math.Option.{some}
use Rattle.meaning.specs.Kinds.{Kind, kind_no}
use Rattle.meaning.specs.Trees.{Ty, Val, Vm, vals_of, set_leaf}
use Rattle.meaning.specs.Records.{shaped_vals}
use Rattle.meaning.specs.Answers.{ok, ◌>>◌, all_some}
use Rattle.meaning.specs.Convert.{conv_lits}
use Rattle.meaning.specs.Build.{mat_shape, payloads_of_all}
use Rattle.laws.proofs.AgreeConv.{AllTy}
use Rattle.ty.specs.Stands.{Stands}
use Rattle.conv.specs.Values.{plains}
use Rattle.args.specs.Row.{Row}
use Rattle.error.specs.Told.{Builds}
use Rattle.error.specs.Told.{Written}

-- the arguments are l, which in the kind j are ws, all of the type t with j at the bottom; the record of t stands in ty
pub record Parts (k : ℕ) (ty s : List ℕ) (count : ℕ) (j : Kind) (t : Ty) (l ws : List Val) : Type 0 where
  pub no : k ≡ kind_no j
  pub end : ℕ
  pub stands : Stands 15 ty 0 t end
  pub row : Row s 0 l
  pub size : count ≡ length l
  pub plain : T (plains (vals_of l))
  pub goes : all_some (conv_lits j) l ≡ some ws
  pub shaped : T (shaped_vals (vals_of ws))
  pub types : AllTy (set_leaf j t) (vals_of ws)

pub record SomeParts (k : ℕ) (ty s : List ℕ) (count : ℕ) : Type 0 where
  pub kind : Kind
  pub type : Ty
  pub values : List Val
  pub intos : List Val
  pub parts : Parts k ty s count kind type values intos

-- the shape decides, and then the matrix is handed over
abbrev pub PartsMade : ℕ → ℕ → ℕ → List ℕ → List ℕ → ℕ → List ℕ → Written → List ℕ → Type 0
PartsMade c r k ty s count out x out' = (j : Kind) (t : Ty) (l ws : List Val) → Parts k ty s count j t l ws
    → Builds (mat_shape c r t count >> ok (Vm c r j (payloads_of_all ws))) out x out'
