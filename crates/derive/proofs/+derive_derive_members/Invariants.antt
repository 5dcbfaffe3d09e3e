-- `derive` calls itself and `derive_members` at a depth one less, and `derive_members` calls `derive` at its own depth:
-- 2d for `derive` and 2d + 1 for `derive_members`.
use mathlib.Core.Path.{◌≡◌}
use mathlib.Core.List.{List}
use Prim.Native.Nat.{ℕ, ◌+◌, ◌-◌, ◌*◌, ◌≤◌}
use lib.ListN.{length}
use Rattle.derive.specs.Derives.{DerivesAll}
use Rattle.derive.proofs.+derive_derive_members.Given as goal
use Rattle.std.specs.declared.option.Option.{Option}

abbrev pub decreases-derive : goal.decreases-derive
decreases-derive l = 2 * l.depth

abbrev pub decreases-derive_members : goal.decreases-derive_members
decreases-derive_members l = 2 * l.depth + 1

abbrev pub invariant-derive_members-loop : goal.invariant-derive_members-loop
invariant-derive_members-loop l =
    (l.i ≤ length l.s) × (l.p ≤ length l.ty) × (length l.ty ≡ length l.initial.ty) ×
    ((r : Option (ℕ × ℕ)) (x : List ℕ) →
    DerivesAll l.depth l.s l.i (l.n - l.counter) l.ty l.p r x → DerivesAll l.depth l.s l.at l.n l.initial.ty l.o r x)
