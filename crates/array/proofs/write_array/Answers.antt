-- The length that the element type and the count say decides; then the mark, the count and the elements.
use native.Mathlib.Omega.{arith}
use Rattle.std.proofs.Common.{rules}
use Rattle.record.proofs.Puts.{put_length, put_left}
use Rattle.laws.proofs.Length.{le_len}
use Rattle.array.proofs.Arrays.{array_no, array_fits, array_yes}
use Rattle.array.proofs.write_array.Goals as goal

pub returns-then-not-takes_array : goal.returns-then-not-takes_array
returns-then-not-takes_array c =
    λ t e l ws x. array_no x _ (c.takes_array.ensures _ _ (c.value_len.ensures _ _ x.stands))
    (c.if-not-takes_array.true)

pub write_all-requires : goal.write_all-requires
write_all-requires c =
    let h = array_fits c.requires.elements
    c.args.out.now (c.takes_array.ensures _ _
    (c.value_len.ensures _ _ c.requires.elements.stands))
    ((search)) in
    record {
      values = _;
      row = c.requires.elements.given.row;
      type = _;
      end = _;
      stands = c.requires.elements.stands;
      intos = _;
      goes = c.requires.elements.goes;
      room = omega (
        arith,
        h,
        c.put_mark.ensures.put.end,
        c.put_le.ensures.put.end,
        le_len 2 c.args.args.count,
        put_length c.put_mark.ensures.put,
        put_length c.put_le.ensures.put,
      );
    }

pub returns : goal.returns
returns c =
    λ t e l ws x. array_yes x _ (array_fits x
    c.args.out.now
    (c.takes_array.ensures _ _
    (c.value_len.ensures
    _ _ x.stands)) ((search)))
    c.put_mark.ensures.put c.put_le.ensures.put
    (put_left (c.write_all.ensures.put l t e ws x.given.row x.stands x.goes) (search rules))
