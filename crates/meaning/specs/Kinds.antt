-- The seven scalar kinds: their numbers, their payloads, and the rank of a conversion between two of them (document 01,
-- type records and conversion).
use Rattle.std.proofs.Math.Option.{Option, none, some}
use Rattle.std.specs.Prelude.{Bool, ◌||◌, cond, ℕ, ◌^◌, eqb, [], ◌∷◌}
use Rattle.std.proofs.Math.ListN.{get_elem?}

pub data Kind : Type 0 where
  bool aint afloat i32 u32 f32 f16 : Kind

-- "the kinds are 0 Bool, 1 AbstractInt, 2 AbstractFloat, 3 I32, 4 U32, 5 F32, 6 F16"
unfoldable pub kind_no : Kind → ℕ
kind_no bool = 0
kind_no aint = 1
kind_no afloat = 2
kind_no i32 = 3
kind_no u32 = 4
kind_no f32 = 5
kind_no f16 = 6

-- the kind of a number, and none past 6
unfoldable pub kind_of : ℕ → Option Kind
kind_of n = get_elem? (bool ∷ aint ∷ afloat ∷ i32 ∷ u32 ∷ f32 ∷ f16 ∷ []) n

-- the payloads of a kind are the numbers below this: "Bool is 0 or 1", and "unused high bytes are zero"
unfoldable pub payloads : Kind → ℕ
payloads bool = 2
payloads aint = 2 ^ 64
payloads afloat = 2 ^ 64
payloads i32 = 2 ^ 32
payloads u32 = 2 ^ 32
payloads f32 = 2 ^ 32
payloads f16 = 2 ^ 16

-- how many bytes a payload takes in a record: "8 payload bytes". Every length goes through this.
unfoldable pub pay_width : Kind → ℕ
pay_width k = 8

unfoldable pub same_kind : Kind → Kind → Bool
same_kind j k = eqb (kind_no j) (kind_no k)

unfoldable pub is_abstract : Kind → Bool
is_abstract k = same_kind k aint || same_kind k afloat

unfoldable pub is_float : Kind → Bool
is_float k = same_kind k afloat || same_kind k f32 || same_kind k f16

-- "AbstractInt to I32 3, U32 4, AbstractFloat 5, F32 6, F16 7"
unfoldable pub from_aint : Kind → Option ℕ
from_aint bool = none
from_aint aint = some 0
from_aint afloat = some 5
from_aint i32 = some 3
from_aint u32 = some 4
from_aint f32 = some 6
from_aint f16 = some 7

-- "AbstractFloat to F32 1, F16 2"
unfoldable pub from_afloat : Kind → Option ℕ
from_afloat bool = none
from_afloat aint = none
from_afloat afloat = some 0
from_afloat i32 = none
from_afloat u32 = none
from_afloat f32 = some 1
from_afloat f16 = some 2

-- "a type converts to itself (rank 0)"
unfoldable pub from_same : Kind → Kind → Option ℕ
from_same j k = cond (same_kind j k) (some 0) none

-- the rank of a conversion from the first kind to the second, if there is one
unfoldable pub kind_rank : Kind → Kind → Option ℕ
kind_rank bool k = from_same bool k
kind_rank aint k = from_aint k
kind_rank afloat k = from_afloat k
kind_rank i32 k = from_same i32 k
kind_rank u32 k = from_same u32 k
kind_rank f32 k = from_same f32 k
kind_rank f16 k = from_same f16 k
