-- What `read_target` says is what `read_target` gives, and the answer follows from it.
use mathlib.Core.Path.{◌≡◌, refl, sym, subst, ◌∙◌}
use mathlib.Core.Bool.{true, false}
use lib.Seq.{length-take-le}
use Rattle.meaning.specs.Entries.{type_target}
use Rattle.ty.specs.Targets.{Meant, TypeIs}
use Rattle.ty.proofs.Targets.{meant, bad_target}
use Rattle.ty.proofs.FrontOfBuffer.{front_whole}
use Rattle.args.specs.OneValue.{FoundAt}
use Rattle.args.proofs.OneValue.{found_front}
use Rattle.error.proofs.Refusals.{passed_on, missing, present}
use Rattle.error.proofs.BufferAtExit.{refused}
use Rattle.error.proofs.Told.{told_as}
use Rattle.convert_to.proofs.ConversionAnswers.{shape_read, no_shape_read, type_only, read_answer, no_answer}
use Rattle.convert_to.proofs.OneValue.{none_read}
use Rattle.convert_to.proofs.ToType.{found_asked, type_read}
use Rattle.convert_to.proofs.Runtimes.{found_runtime, runtime_read}
use Rattle.convert_to.proofs.convert_to.Goals as goal
use Rattle.convert_to.proofs.convert_to.Goals.{In_ok-found, In_ok-q}

found : (c : In_ok-found) → Meant c.args.target.now c.in_ok-found.found
found c =
    meant _ (λ i. (c.type_inv.target i).fits) c.read_target.ensures (present _ _ c.ok_or.ensures.value c.in_ok-found.was)

one : (c : In_ok-q) → FoundAt c.args.args.now c.in_ok-q.q c.one_value.new.ty
one c = rw (present _ _ c.ok_or-2.ensures.value c.in_ok-q.was) at c.one_value.ensures

pub returns-in_err-found : goal.returns-in_err-found
returns-in_err-found c =
    let m = missing _ _ c.ok_or.ensures.value c.in_err-found.was in
    rw (passed_on c.from_residual.result c.from_residual.ensures.1, m.1)
    (refused _ _ (no_answer _ _ _ (bad_target _ c.read_target.ensures m.0) refl))

pub returns-then-is_shape : goal.returns-then-is_shape
returns-then-is_shape c =
    let x = shape_read _ _ (sym c.is_shape.ensures ∙ c.if-is_shape.true) (found (goal.at.returns-then-is_shape c).In_ok-found) in
    refused _ _ (no_answer _ _ _ x.1 x.2)

pub returns-in_err-q : goal.returns-in_err-q
returns-in_err-q c =
    let m = missing _ _ c.ok_or-2.ensures.value c.in_err-q.was in
    let x = no_shape_read _ _ (sym c.is_shape.ensures ∙ c.if-is_shape.false) (found (goal.at.returns-in_err-q c).In_ok-found) in
    rw (passed_on c.from_residual-in_err-q.result c.from_residual-in_err-q.ensures.1, m.1)
    (refused _ _ (read_answer _ _ _ x.1 x.2 ∙ none_read x.0 _ (λ i. (c.type_inv.args i).fits) (rw m.0 at c.one_value.ensures)))

pub slice_bounds-buf-end : goal.slice_bounds-buf-end
slice_bounds-buf-end c = (one (goal.at.slice_bounds-buf-end c).In_ok-q).stands.within

pub slice_bounds-ty-end : goal.slice_bounds-ty-end
slice_bounds-ty-end c = sym (length-take-le _ _ (one (goal.at.slice_bounds-ty-end c).In_ok-q).stands.within)

pub invariant_of-ty : goal.invariant_of-ty
invariant_of-ty c =
    record { one = record { type = _; stands = front_whole (one (goal.at.invariant_of-ty c).In_ok-q).stands } }

pub convert_array-requires : goal.convert_array-requires
convert_array-requires c = (
  subst (Meant _) c.in-Runtime.is (found (goal.at.convert_array-requires c).In_ok-found),
  found_front (one (goal.at.convert_array-requires c).In_ok-q),
)

pub returns-in-Runtime : goal.returns-in-Runtime
unfolding type_target
returns-in-Runtime c =
    let m = subst (Meant _) c.in-Runtime.is (found (goal.at.returns-in-Runtime c).In_ok-found) in
    let f = found_front (one (goal.at.returns-in-Runtime c).In_ok-q) in
    told_as (read_answer _ _ _ m.reads refl ∙ runtime_read m.type _ f.one)
    (c.convert_array.ensures m.type f.value (found_runtime m f))

pub invariant_of-to : goal.invariant_of-to
invariant_of-to c =
    let m = type_only _ (sym c.is_shape.ensures ∙ c.if-is_shape.false) c.in_default.not-Runtime
    (found (goal.at.invariant_of-to c).In_ok-found) in
    record { one = record { type = m.type; stands = m.stands } }

pub convert_value-requires : goal.convert_value-requires
convert_value-requires c = found_front (one (goal.at.convert_value-requires c).In_ok-q)

pub returns : goal.returns
unfolding type_target
returns c =
    let m = type_only _ (sym c.is_shape.ensures ∙ c.if-is_shape.false) c.in_default.not-Runtime
    (found (goal.at.returns c).In_ok-found) in
    let f = found_front (one (goal.at.returns c).In_ok-q) in
    told_as (read_answer _ _ _ m.reads refl ∙ type_read m.type _ f.one)
    (c.convert_value.ensures m.type f.value (found_asked record { type = m.type; stands = m.stands } f))
