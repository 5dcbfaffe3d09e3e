-- `literal::Literal::f16_bits` meets its contract: the kind's number picks the conversion to f32, and a number over 6 is none's.
use Rattle.meaning.specs.Kinds.{kind_no, kind_of, same_kind}
use Rattle.meaning.specs.Scalars.{number, before_f16}
use Rattle.kind.specs.Ends.{of_kind}
use Rattle.kind.proofs.Numbers.{over}
use borrow.Author.Rules.{rules}
use Rattle.literal.proofs.Literal.f16_bits.Goals.{in-0, in-1, in-2, in-3, in-4, in-5, in-6}
use Rattle.literal.proofs.Literal.f16_bits.Goals as goal

pub returns-in_default : goal.returns-in_default
unfolding of_kind kind_of kind_no same_kind number before_f16
returns-in_default c = over _ _ c.args.self.kind (search rules)

pub returns : goal.returns
unfolding of_kind kind_of kind_no same_kind number before_f16
returns c =
    let e = c.convert.ensures.value in
    elim c.match-self.branch [
      | in-0 w ↦ rw (e, w.single-is, w.of_int-single.ensures.value, w.from.ensures, w.in-0.is)
      | in-1 w ↦ rw (e, w.single-is, w.of_int-single-in-1.ensures.value, w.in-1.is, w.abstract_int_number.ensures)
      | in-2 w ↦ rw (e, w.single-is, w.convert-single.ensures.value, w.in-2.is)
      | in-3 w ↦ rw (e, w.single-is, w.of_int-single-in-3.ensures.value, w.in-3.is, w.i32_number.ensures)
      | in-4 w ↦ rw (e, w.single-is, w.of_int-single-in-4.ensures.value, w.from-in-4.ensures, w.in-4.is)
      | in-5 w ↦ rw (e, w.single-is, w.in-5.is)
      | in-6 w ↦ rw (e, w.single-is, w.convert-single-in-6.ensures.value, w.in-6.is)
    ]
