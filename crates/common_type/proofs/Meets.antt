-- The common type, pair by pair, and that of what the arguments bring.
use mathlib.Core.Path.{◌≡◌, refl, ap, ◌∙◌}
use mathlib.Core.Option.{Option, none, some}
use mathlib.Core.List.{List, [], ◌∷◌, ◌++◌, map, map-append}
use mathlib.Core.Bool.{Bool, true, false, cond}
use Prim.Native.Nat.{ℕ}
use lib.Dec.{T}
use Rattle.meaning.specs.Kinds.{Kind}
use Rattle.meaning.specs.Trees.{Ty, Ts, Val, Vs, Vv, Vm, Va, Vu, type_of}
use Rattle.meaning.specs.Records.{shaped_ty, side}
use Rattle.meaning.specs.Convert.{converts, meet, common_from, common}
use Rattle.meaning.specs.Build.{parts, flattened}
use Rattle.laws.proofs.AgreeConv.{true_of}
use Rattle.laws.proofs.AgreeCommon.{conv_refl}
use Rattle.laws.proofs.AgreeBuild.{AllOk}
use Rattle.common_type.specs.Brought.{brought, part_of, part_type, part_types}

-- ---- of two

pub meet_next : (a b : Ty) → converts a b ≡ true → meet (some a) b ≡ some b
unfolding meet
meet_next a b e = rw e

pub meet_kept : (a b : Ty) → converts a b ≡ false → converts b a ≡ true → meet (some a) b ≡ some a
unfolding meet
meet_kept a b e f = rw (e, f)

pub meet_none : (a b : Ty) → converts a b ≡ false → converts b a ≡ false → meet (some a) b ≡ none
unfolding meet
meet_none a b e f = rw (e, f)

-- a second meeting with an equal type changes nothing
pub meet_again : (o : Option Ty) (b : Ty) → meet (meet o b) b ≡ meet o b
unfolding meet
meet_again none b = refl
meet_again (some a) b = go (converts a b) refl (converts b a) refl
  where
    go : (p : Bool) → converts a b ≡ p → (q : Bool) → converts b a ≡ q
        → meet (cond p (some b) (cond q (some a) none)) b ≡ cond p (some b) (cond q (some a) none)
    go true e q f = rw (true_of (converts b b) (conv_refl b))
    go false e true f = rw (e, f)
    go false e false f = refl

-- ---- of the parts of a vector

-- more parts of one type change nothing
from_equal : (o : Option Ty) (k : Kind) (ps : List ℕ) (l : List Ty) → meet o (Ts k) ≡ o
    → common_from o (map type_of (map (Vs k) ps) ++ l) ≡ common_from o l
unfolding common_from type_of
from_equal o k [] l h = refl
from_equal o k (p ∷ ps) l h = ap (λ (x : Option Ty). common_from x (map type_of (map (Vs k) ps) ++ l)) h ∙ from_equal o k ps l h

-- an argument's parts meet as the type that it brings does
parts_meet : (o : Option Ty) (v : Val) (l : List Ty) → T (shaped_ty (type_of v))
    → common_from o (map type_of (parts v) ++ l) ≡ common_from (meet o (part_of (type_of v))) l
unfolding common_from parts type_of part_of shaped_ty side
parts_meet o (Vs k p) l g = refl
parts_meet o (Vv k []) l g = absurd g
parts_meet o (Vv k (p ∷ ps)) l g = from_equal (meet o (Ts k)) k ps l (meet_again o (Ts k))
parts_meet o (Vm c r k ps) l g = refl
parts_meet o (Va m) l g = refl
parts_meet o (Vu i m) l g = refl

parts_from : (o : Option Ty) (l : List Val) → AllOk l → common_from o (map type_of (flattened l)) ≡ common_from o (part_types true l)
unfolding common_from flattened
parts_from o [] a = refl
parts_from o (v ∷ l) a =
    ap (common_from o) (map-append type_of (parts v) (flattened l)) ∙
    (parts_meet o v (map type_of (flattened l)) a.1 ∙ parts_from (meet o (part_of (type_of v))) l a.2)

parts_common : (v : Val) (l : List Ty) → T (shaped_ty (type_of v)) → common (map type_of (parts v) ++ l) ≡ common_from
    (some (part_of (type_of v))) l
unfolding common common_from parts type_of part_of shaped_ty side
parts_common (Vs k p) l g = refl
parts_common (Vv k []) l g = absurd g
parts_common (Vv k (p ∷ ps)) l g = from_equal (some (Ts k)) k ps l
    (meet_next (Ts k) (Ts k) (true_of (converts (Ts k) (Ts k)) (conv_refl (Ts k))))
parts_common (Vm c r k ps) l g = refl
parts_common (Va m) l g = refl
parts_common (Vu i m) l g = refl

-- the common type of what the arguments bring, by the types that they bring
pub brought_common : (flat : Bool) (v : Val) (l : List Val) → AllOk (v ∷ l)
    → common (map type_of (brought flat (v ∷ l))) ≡ common_from (some (part_type flat (type_of v))) (part_types flat l)
unfolding common flattened
brought_common false v l a = refl
brought_common true v l a =
    ap common (map-append type_of (parts v) (flattened l)) ∙ (parts_common v (map type_of (flattened l)) a.1
    ∙ parts_from (some (part_of (type_of v))) l a.2)

-- where there is no argument
pub brought_none : (flat : Bool) → common (map type_of (brought flat [])) ≡ none
unfolding common flattened
brought_none false = refl
brought_none true = refl
