-- The limits are the target's; scalars, vectors and matrices are within all of them.
use native.Mathlib.Omega.{arith}
use Rattle.meaning.specs.Records.{val_bytes}
use Rattle.args.specs.Counts.{is_qa, depth_for, bytes_for, ValueArg}
use Rattle.args.proofs.Rest.{depth_least, bytes_least, left_none, values_read}
use Rattle.args.proofs.value_args.Goals as goal
use Rattle.std.specs.declared.option.Option.TheVariants.{Some}

pub returns-then-flat-s : goal.returns-then-flat-s
returns-then-flat-s c =
    λ g q. let f = c.flat_args-flat.ensures (depth_for (is_qa g)) (bytes_for (is_qa g)) (depth_least (is_qa g)) (bytes_least (is_qa g)) in
    values_read g c.args.s.now (λ i. (c.type_inv.s i).fits) (Some _)
    (left_none val_bytes (ValueArg (depth_for (is_qa g)) (bytes_for (is_qa g))) c.args.s.now _ _ f (omega (arith, c.if-flat-s.true)))

pub other_args-requires : goal.other_args-requires
other_args-requires c =
    let m = c.bounds_for.result in c.flat_args-flat.ensures m.depth m.bytes m.fit.0 m.fit.1

pub returns : goal.returns
returns c =
    let b = c.bounds_for.ensures in
    λ g q. values_read g c.args.s.now (λ i. (c.type_inv.s i).fits) c.other_args.result
    (rw (b.depth g q, b.bytes g q) at c.other_args.ensures)
