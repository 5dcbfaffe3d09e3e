-- The components of vectors and literals, and what they are as literals of another kind.
use Rattle.std.proofs.Math.Option.{Option, none}
use Rattle.std.specs.Prelude.{Bool, true, false, ℕ}
use Rattle.meaning.specs.Kinds.{Kind}
use Rattle.meaning.specs.Scalars.{conv}
use Rattle.meaning.specs.Trees.{Val, Vs, Vv, Vm, Va, Vu}

-- a literal or a vector: what a vector can be made of
unfoldable pub flat : Val → Bool
flat (Vs k p) = true
flat (Vv k ps) = true
flat (Vm c r k ps) = false
flat (Va l) = false
flat (Vu i l) = false

-- how many bytes its record has before its literals: a vector's mark and count
unfoldable pub marked : Val → ℕ
marked (Vs k p) = 0
marked (Vv k ps) = 3
marked (Vm c r k ps) = 0
marked (Va l) = 0
marked (Vu i l) = 0

-- the payload of a part that converts to the kind k: only a literal does
unfoldable pub pay_to : Kind → Val → Option ℕ
pay_to k (Vs j p) = conv k j p
pay_to k (Vv j ps) = none
pay_to k (Vm c r j ps) = none
pay_to k (Va l) = none
pay_to k (Vu i l) = none
