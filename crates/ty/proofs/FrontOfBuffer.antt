-- Where a type's record stands at the front of a buffer, it is the whole of that front.
use mathlib.Core.Path.{◌≡◌, sym, ap, ◌∙◌}
use mathlib.Core.List.{List, append-nil}
use Prim.Native.Nat.{ℕ}
use native.Mathlib.Omega.{arith}
use lib.ListN.{length, take, drop}
use lib.Seq.{drop-length, take_at}
use Rattle.meaning.specs.Trees.{Ty}
use Rattle.meaning.specs.Records.{ty_bytes}
use Rattle.ty.specs.Stands.{Stands, Whole}

pub front_whole : {s : List ℕ} {t : Ty} {q : ℕ} → Stands 15 s 0 t q → Whole (take q s) t
front_whole {s} {t} {q} w =
    let e : take q s ≡ ty_bytes t = ap (take q) w.here ∙ take_at (ty_bytes t) (drop q s) q (omega (arith, w.size)) in
    record {
      here = rw (drop-length (take q s)) (e ∙ sym (append-nil (ty_bytes t)));
      size = omega (arith, ap length e);
      within = omega arith;
      shaped = w.shaped;
      deep = w.deep;
    }
