-- The front of the target says which constructor it is.
use mathlib.Core.Path.{sym, ap, ◌∙◌, subst}
use native.Mathlib.Omega.{arith}
use Rattle.meaning.specs.Trees.{Ty, Of}
use Rattle.meaning.specs.Build.{build}
use Rattle.ty.proofs.Heads.{scalar_is, vector_is, matrix_is, array_is, struct_is}
use Rattle.ty.specs.Stands.{Whole}
use Rattle.error.proofs.BufferAtExit.{builds_as}
use Rattle.builtin.proofs.CallAnswers.{vector_side, matrix_float}
use Rattle.builtin.proofs.Counts.{builds_none, array_build, struct_build}
use Rattle.builtin.proofs.type_given.Goals as goal

pub returns-then-args-eq0 : goal.returns-then-args-eq0
unfolding build
returns-then-args-eq0 c =
    λ s t e w l g. builds_none (build s (Of t)) l g c.if-args-eq0.true
    (c.zero_value.ensures t w)

pub invariant_of-scalar_ctor : goal.invariant_of-scalar_ctor
invariant_of-scalar_ctor c =
    let x = scalar_is c.args.target.one.stands (sym c.in-Scalar.is ∙ c.head_at.ensures _ _ c.args.target.one.stands) in
    record { some = record { kind = x.kind; no = x.no } }

pub invariant_of-vec_ctor : goal.invariant_of-vec_ctor
invariant_of-vec_ctor c =
    let x = vector_is c.args.target.one.stands (sym c.in-Vector.is ∙ c.head_at.ensures _ _ c.args.target.one.stands) in
    record { some = record { kind = x.kind; no = x.no } }

pub vec_ctor-requires : goal.vec_ctor-requires
vec_ctor-requires c =
    let x = vector_is c.args.target.one.stands (sym c.in-Vector.is ∙ c.head_at.ensures _ _ c.args.target.one.stands) in
    (vector_side c.args.target.one.stands x.is, omega (arith, c.if-args-eq0.false))

pub invariant_of-mat_ctor : goal.invariant_of-mat_ctor
invariant_of-mat_ctor c =
    let x = matrix_is c.args.target.one.stands (sym c.in-Matrix.is ∙ c.head_at.ensures _ _ c.args.target.one.stands) in
    record { float = matrix_float c.args.target.one.stands x.is x.no }

pub mat_ctor-requires : goal.mat_ctor-requires
mat_ctor-requires c = omega (arith, c.if-args-eq0.false)

pub array_of-requires : goal.array_of-requires
unfolding build
array_of-requires c =
    let x = array_is c.args.target.one.stands (sym c.in-Array.is
    ∙ c.head_at.ensures _ _ c.args.target.one.stands) in
    record { number = _; type = x.elem; whole = subst (Whole _) x.is c.args.target.one.stands; least = omega (arith, c.if-args-eq0.false) }

pub struct_of-requires : goal.struct_of-requires
unfolding build
struct_of-requires c =
    let x = struct_is c.args.target.one.stands (sym c.in-Struct.is
    ∙ c.head_at.ensures _ _ c.args.target.one.stands) in
    record { identity = _; types = x.members; whole = subst (Whole _) x.is c.args.target.one.stands }

pub returns-in-Scalar : goal.returns-in-Scalar
unfolding build
returns-in-Scalar c =
    λ s t e w l g. let x = scalar_is w (sym c.in-Scalar.is
    ∙ c.head_at.ensures _ _ w) in builds_as _
    (ap (λ (u : Ty). build s (Of u) l) x.is) (c.scalar_ctor.ensures s x.kind e x.no l g)

pub returns-in-Vector : goal.returns-in-Vector
unfolding build
returns-in-Vector c =
    λ s t e w l g. let x = vector_is w (sym c.in-Vector.is
    ∙ c.head_at.ensures _ _ w) in builds_as _
    (ap (λ (u : Ty). build s (Of u) l) x.is) (c.vec_ctor.ensures s x.kind e x.no l g)

pub returns-in-Matrix : goal.returns-in-Matrix
unfolding build
returns-in-Matrix c =
    λ s t e w l g. let x = matrix_is w (sym c.in-Matrix.is
    ∙ c.head_at.ensures _ _ w) in builds_as _
    (ap (λ (u : Ty). build s (Of u) l) x.is) (c.mat_ctor.ensures s x.kind e x.no l g)

pub returns-in-Array : goal.returns-in-Array
unfolding build
returns-in-Array c =
    λ s t e w l g. let x = array_is w (sym c.in-Array.is
    ∙ c.head_at.ensures _ _ w) in
    let h = array_build s _ x.elem l g.count (omega arith) in
    builds_as _ (ap (λ (u : Ty). build s (Of u) l) x.is ∙ h)
    (c.array_of.ensures _ x.elem l (subst (Whole _) x.is w) g)

pub returns-in-Struct : goal.returns-in-Struct
unfolding build
returns-in-Struct c =
    λ s t e w l g. let x = struct_is w (sym c.in-Struct.is
    ∙ c.head_at.ensures _ _ w) in
    let h = struct_build s _ x.members l g.count (omega arith) in
    builds_as _ (ap (λ (u : Ty). build s (Of u) l) x.is ∙ h)
    (c.struct_of.ensures _ x.members l (subst (Whole _) x.is w) g)
