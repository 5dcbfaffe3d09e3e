-- The third demand over bytes: reading what was written, then the trees.
use mathlib.Core.Path.{◌≡◌, refl, sym, ap, ◌∙◌, subst}
use mathlib.Core.Option.{some}
use mathlib.Core.List.{List, map}
use mathlib.Core.Bool.{Bool, true, false, cond}
use Prim.Native.Nat.{ℕ}
use lib.Dec.{T, leb}
use lib.ListN.{length}
use Rattle.meaning.specs.Scalars.{Stage}
use Rattle.meaning.specs.Trees.{Ty, Val, Target, type_of, val_len}
use Rattle.meaning.specs.Answers.{Result, ok, no, miscount, ◌>>=◌}
use Rattle.meaning.specs.Records.{ty_bytes, val_bytes, target_bytes, joined, shaped_val, good_val, good_ty, good_target, good_tys, good_args}
use Rattle.meaning.specs.Read.{read_target, read_vals}
use Rattle.meaning.specs.Build.{build}
use Rattle.meaning.specs.Typing.{typed}
use Rattle.meaning.specs.Entries.{build_answer, type_answer, stage_of, hand_val, hand_ty}
use Rattle.laws.specs.Demand.{Demand3, Agree, in_scope, Returned, nothing_stops, refused, long_enough}
use Rattle.laws.proofs.AgreeConv.{true_of}
use Rattle.laws.proofs.AgreeBuild.{Agrees, Made}
use Rattle.laws.proofs.AgreeVec.{stuck}
use Rattle.laws.proofs.AgreeAll.{trees}
use Rattle.laws.proofs.Back.{and_l, and_r}
use Rattle.laws.proofs.Built.{types_good, vals_ok}
use Rattle.laws.proofs.Handed.{target_good, vals_good}
use Rattle.laws.proofs.Exact.{target_exact, vals_exact, tys_exact}
use Rattle.laws.proofs.Same.{both}
use Rattle.laws.proofs.Named.{named}

-- ---- the answers

build_is : (stage : ℕ) (s : Stage) → stage_of stage ≡ some s → (target args : List ℕ) (g : Target) (l : List Val)
    → read_target target ≡ some g → read_vals g args ≡ some l → (room : ℕ)
    → build_answer stage target args room ≡ (build s g l >>= hand_val room)
unfolding build_answer
build_is stage s e target args g l h a room = rw (e, h, a)

type_is : (target : List ℕ) (g : Target) (l : List Ty) → read_target target ≡ some g → T (good_tys g l) → (room : ℕ)
    → type_answer target (joined ty_bytes l) room ≡ (typed g l >>= hand_ty room)
unfolding type_answer
type_is target g l h a room = rw (h, (tys_exact g).back l a)

hand_ty_lem : (room : ℕ) (t : Ty) → T (leb (length (ty_bytes t)) room) → hand_ty room t ≡ ok (ty_bytes t)
unfolding hand_ty
hand_ty_lem room t h = rw (true_of (leb (length (ty_bytes t)) room) h)

hand_val_lem : (room : ℕ) (v : Val) → T (leb (val_len (type_of v)) room) → hand_val room v ≡ ok (val_bytes v)
unfolding hand_val
hand_val_lem room v h = rw (true_of (leb (val_len (type_of v)) room) h)

finish : (s : Stage) (g : Target) (l : List Val) (roomT roomB : ℕ) (x : Result Ty) (b : Result Val) → ((t : Ty) → x ≡ ok t → T (good_ty t))
    → T (long_enough roomT roomB x) → Agrees s g l x b → Agree s g l x (x >>= hand_ty roomT) (b >>= hand_val roomB)
unfolding long_enough Agree refused good_val
finish s g l roomT roomB (ok t) b n h a = go (nothing_stops s g t l) a
  where
    ht : T (leb (length (ty_bytes t)) roomT)
    ht = and_l (leb (length (ty_bytes t)) roomT) (leb (val_len t) roomB) h

    hb : T (leb (val_len t) roomB)
    hb = and_r (leb (length (ty_bytes t)) roomT) (leb (val_len t) roomB) h

    go : (y : Bool) → Made y t b → cond y (Returned (hand_ty roomT t) (b >>= hand_val roomB)) (T (refused (b >>= hand_val roomB)))
    go true (w, e, q, u) =
        record {
          value = w;
          good = both (shaped_val w) (good_ty (type_of w)) q (subst (λ (z : Ty). T (good_ty z)) (sym u) (n t refl));
          built = rw e (hand_val_lem roomB w (subst (λ (z : Ty). T (leb (val_len z) roomB)) (sym u) hb));
          told = hand_ty_lem roomT t ht ∙ ap (λ (z : Ty). ok (ty_bytes z)) (sym u);
        }
    go false k = stuck b (hand_val roomB) k
finish s g l roomT roomB (no i) b n h a = record { untyped = tt; unbuilt = stuck b (hand_val roomB) a }
finish s g l roomT roomB (miscount w i) b n h a = record { untyped = tt; unbuilt = stuck b (hand_val roomB) a }

-- the third demand, for every target and argument bytes that reading accepts
pub third_read : (stage : ℕ) (s : Stage) → stage_of stage ≡ some s
    → (target args : List ℕ) (g : Target) (l : List Val) → read_target target ≡ some g → T (in_scope g) → read_vals g args ≡ some l
    → (roomT roomB : ℕ) → T (long_enough roomT roomB (typed g (map type_of l)))
    → Agree s g l (typed g (map type_of l)) (type_answer target (joined ty_bytes (map type_of l)) roomT) (build_answer stage target args roomB)
third_read stage s e target args g l h c a roomT roomB r =
    let hg : T (good_target g) = target_good target g h in
    let ag : T (good_args g l) = vals_good g args l a in
    rw (build_is stage s e target args g l h a roomB, type_is target g (map type_of l) h (types_good g l ag) roomT)
    (finish s g l roomT roomB (typed g (map type_of l)) (build s g l) (λ t q. named g (map type_of l) t hg (types_good g l ag) q) r
    (trees s g l hg c (vals_ok g l ag)))

-- the third demand, all of it
pub third : Demand3
unfolding Demand3
third stage s e g h c l a roomT roomB r = third_read stage s e (target_bytes g) (joined val_bytes l) g l (target_exact.back g h) c
    ((vals_exact g).back l a) roomT roomB r
