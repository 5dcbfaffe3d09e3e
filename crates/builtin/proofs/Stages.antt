-- Document 02, request 03, about the entry: what `call_ctor` returns and leaves at Const (0) and at Override (1).
use mathlib.Core.Path.{◌≡◌}
use mathlib.Core.List.{List}
use Prim.Native.Nat.{ℕ}
use lib.ListN.{length}
use Rattle.meaning.specs.Entries.{build_answer}
use Rattle.laws.proofs.Stages.{at_const, one_answer}
use Rattle.error.specs.Told.{Told}
use Rattle.error.proofs.Told.{told_as, told_once}
use Rattle.error.specs.Told.{Written}

-- "A user who folds the same literals at Const and Override gets one result": two calls with the same target, arguments
-- and buffer, each as the contract of `call_ctor` tells it, return the same, and leave the same in every byte of the
-- buffer
pub one_result : (target args out : List ℕ) {r q : Written} {out₁ out₂ : List ℕ}
    → Told (build_answer 0 target args (length out)) out r out₁ → Told (build_answer 1 target args (length out)) out q out₂ → (r ≡ q)
    × (out₁ ≡ out₂)
unfolding at_const
one_result target args out x y = told_once x (told_as (one_answer 1 target args (length out)) y)
