-- The answers of the scalar constructors are told by their numbers.
use mathlib.Core.Path.{◌≡◌, sym, ap, ap₂, ◌∙◌}
use mathlib.Core.Option.{Option, none, some}
use mathlib.Core.List.{List, [], ◌∷◌}
use mathlib.Core.Bool.{Bool, true, false, cond}
use Prim.Native.Nat.{ℕ, zero, suc}
use native.Mathlib.Omega.{arith}
use lib.Dec.{eqb, eqb-suc-zero}
use Rattle.meaning.specs.Kinds.{Kind, same_kind}
use Rattle.meaning.specs.Scalars.{Stage, ctor_test, ctor_bits}
use Rattle.meaning.specs.Answers.{Result, ok, no, miscount, ◌>>◌, need, all, all_some}
use Rattle.meaning.specs.Build.{ctor_lit}
use Rattle.laws.proofs.Each.{Numbered, bind_numbered, push, all_cons}
use Rattle.laws.proofs.Named.{ok_inj}
use Rattle.laws.proofs.Sound.{some_inj, no_some}
use Rattle.conv.specs.Items.{Item, Literal, Vector, Matrix, Array}
use Rattle.scalar.specs.Made.{make_item}

-- ---- what an answer gives, if it is no refusal

abbrev pub given : {A : Type 0} → Result A → Option A
given (ok a) = some a
given (no n) = none
given (miscount w g) = none

pub given_ok : {A : Type 0} (x : Result A) {a : A} → given x ≡ some a → x ≡ ok a
given_ok (ok b) e = ap ok (some_inj e)
given_ok (no n) e = no_some e
given_ok (miscount w g) e = no_some e

pub all_given : {A B : Type 0} (f : A → Result B) (l : List A) (m : List B) → all f l ≡ ok m → all_some (λ a. given (f a)) l ≡ some m
unfolding all all_some
all_given f [] m e = ap some (ok_inj e)
all_given f (a ∷ l) m e = let x = all_cons f a l e in ap₂ push (ap given x.head) (all_given f l x.others x.tail)
    ∙ ap some (sym x.is)

-- ---- the constructors

-- a constructor's answer is such a one
pub ctor_numbered : (s : Stage) (k j : Kind) (p : ℕ) → Numbered (ctor_lit s k j p)
unfolding ctor_lit
ctor_numbered s k j p = go (same_kind j k) (ctor_test s k j p)
  where
    go : (b : Bool) (n : ℕ) → Numbered (cond b (ok p) (need (eqb n 0) n >> ok (ctor_bits k j p)))
    go true n = tt
    go false zero = tt
    go false (suc n) = rw (eqb-suc-zero n) (omega arith)

pub item_numbered : (s : Stage) (k : Kind) (a : Item) → Numbered (make_item s k a)
unfolding make_item
item_numbered s k (Literal j p) = bind_numbered (ctor_lit s k j p) (λ q. ok (Literal k q)) (ctor_numbered s k j p) (λ q. tt)
item_numbered s k (Vector n) = tt
item_numbered s k (Matrix c r) = tt
item_numbered s k (Array n) = tt
