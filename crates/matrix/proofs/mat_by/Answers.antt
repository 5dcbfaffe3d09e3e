-- Whether the first one's kind converts decides; then the arguments go to the type with the target's kind.
use Rattle.error.proofs.BufferAtExit.{builds_no}
use Rattle.shape.proofs.Downs.{kind_stays, kind_goes}
use Rattle.matrix.proofs.Downs.{float_no}
use Rattle.matrix.proofs.MatrixParts.{first_of, mat_no, mat_asked, mat_made}
use Rattle.matrix.proofs.mat_by.Goals as goal

pub returns-then-not-kind_converts : goal.returns-then-not-kind_converts
returns-then-not-kind_converts c =
    λ j v l n w h. builds_no c.args.out.now _
    (mat_no _ _ j v l (kind_stays j n _ (c.requires.first_as.down v l w) c.kind_converts.ensures
    (c.if-not-kind_converts.true)))

pub mat_to-requires : goal.mat_to-requires
mat_to-requires c =
    let k = float_no _ c.args.kind.float in
    let f = first_of c.args.args.given c.requires.some in
    let d = kind_goes k.0 k.1 _ (c.requires.first_as.down _ _ f.row) c.kind_converts.ensures c.if-not-kind_converts.false in
    mat_asked f.row k.0 k.1 f.size d (c.requires.first_as.stands k.0 _ _ k.1 f.row)

pub returns : goal.returns
returns c =
    λ j v l n w h. let d = kind_goes j n _ (c.requires.first_as.down v l w) c.kind_converts.ensures
    (c.if-not-kind_converts.false) in
    mat_made w j n h d (c.requires.first_as.stands j v l n w) _ _ _ c.mat_to.ensures
