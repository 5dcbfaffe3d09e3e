-- The length that the type says decides; then the mark, what the type says of the struct, and the members.
use native.Mathlib.Omega.{arith}
use Rattle.std.proofs.Common.{rules}
use Rattle.record.proofs.Puts.{put_length, put_left}
use Rattle.array.proofs.Structs.{struct_stands, struct_room, struct_front_long, struct_pairs, made_no, made_room, made_yes}
use Rattle.array.proofs.write_struct.Goals as goal

pub value_len-requires : goal.value_len-requires
value_len-requires c = search struct_stands

pub returns-then-not-takes : goal.returns-then-not-takes
returns-then-not-takes c =
    λ i m l ws x. made_no x _ (c.takes.ensures _ _ (c.value_len.ensures _ _ x.struct.whole))
    (c.if-not-takes.true)

pub put_mark-requires : goal.put_mark-requires
put_mark-requires c =
    omega (
      arith,
      made_room c.requires.made c.args.out.now
          (c.takes.ensures _ _ (c.value_len.ensures _ _ c.requires.made.struct.whole))
          (c.if-not-takes.false),
    )

pub slice_bounds-put_bytes-end : goal.slice_bounds-put_bytes-end
slice_bounds-put_bytes-end c = omega (arith, struct_room c.requires.made.struct.whole)

pub put_bytes-requires : goal.put_bytes-requires
put_bytes-requires c =
    let h = made_room c.requires.made c.args.out.now
    (c.takes.ensures _ _
    (c.value_len.ensures _ _ c.requires.made.struct.whole))
    (c.if-not-takes.false) in
    omega (arith, h, struct_room c.requires.made.struct.whole, c.put_mark.ensures.put.end, put_length c.put_mark.ensures.put)

pub write_members-requires : goal.write_members-requires
write_members-requires c =
    let h = made_room c.requires.made
    c.args.out.now (c.takes.ensures _ _
    (c.value_len.ensures _ _ c.requires.made.struct.whole))
    ((search)) in
    record {
      types = _;
      values = _;
      intos = _;
      pairs = struct_pairs c.requires.made.struct.whole c.requires.made.struct.row c.requires.made.count;
      goes = c.requires.made.goes;
      room = omega (
        arith,
        h,
        c.put_mark.ensures.put.end,
        c.put_bytes.ensures.put.end,
        struct_front_long c.requires.made.struct.whole,
        put_length c.put_mark.ensures.put,
        put_length c.put_bytes.ensures.put,
      );
    }

pub returns : goal.returns
returns c =
    λ i m l ws x. made_yes x _ (made_room x
    c.args.out.now
    (c.takes.ensures _ _
    (c.value_len.ensures
    _ _ x.struct.whole)) ((search)))
    c.put_mark.ensures.put c.put_bytes.ensures.put
    (put_left (c.write_members.ensures.put m l ws (struct_pairs x.struct.whole x.struct.row x.count) x.goes) (search rules))
