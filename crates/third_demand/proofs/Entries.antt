-- The third demand, from the answers of the definitions to what the entries return and leave.
use mathlib.Core.Path.{◌≡◌, refl, sym, ap, ◌∙◌, subst}
use mathlib.Core.Option.{some}
use mathlib.Core.List.{List, ◌++◌, map}
use mathlib.Core.Bool.{Bool, true, false, cond}
use native.Mathlib.Omega.{arith}
use Prim.Native.Nat.{ℕ}
use lib.Dec.{T, leb}
use lib.ListN.{length, take, drop}
use lib.Seq.{take-append_seam}
use Rattle.meaning.specs.Scalars.{Stage}
use Rattle.meaning.specs.Trees.{Ty, Val, Target, type_of, val_len}
use Rattle.meaning.specs.Answers.{Result, ok, no, miscount, Answer}
use Rattle.meaning.specs.Records.{ty_bytes, val_bytes, target_bytes, joined, shaped_val, good_ty, good_val, good_tys}
use Rattle.meaning.specs.Read.{read_target, read_tys}
use Rattle.meaning.specs.Typing.{typed}
use Rattle.meaning.specs.Entries.{type_answer, hand_ty, laid}
use Rattle.laws.specs.Demand as demand
use Rattle.laws.specs.Demand.{Agree, nothing_stops, long_enough}
use Rattle.laws.proofs.AgreeConv.{true_of}
use Rattle.laws.proofs.Back.{and_l, and_r, shaped_of}
use Rattle.laws.proofs.Length.{bytes_same}
use Rattle.laws.proofs.Named.{named, ok_inj}
use Rattle.laws.proofs.Built.{types_good}
use Rattle.laws.proofs.Handed.{target_good, vals_good}
use Rattle.laws.proofs.Exact.{target_exact, vals_exact, tys_exact}
use Rattle.laws.proofs.Third.{third_read}
use Rattle.error.specs.Told.{Told, by_length}
use Rattle.error.specs.Refusals.{paper}
use Rattle.error.proofs.Refusals.{is_ok}
use Rattle.error.proofs.Told.{told_as}
use Rattle.third_demand.specs.Entries.{refuses, Declined, Returned, Outcome, Demand3Entries, Demand3Bytes}
use Rattle.error.specs.Told.{Written}
use Rattle.std.specs.declared.result.Result.TheVariants.{Ok, Err}

-- ---- one call

-- a record as its contract tells it
pub recorded : (s : List ℕ) {a : Answer} {out out' : List ℕ} {r : Written} → a ≡ ok s → Told a out r out' → (r ≡ Ok (length s))
    × (out' ≡ s ++ drop (length s) out)
unfolding by_length laid
recorded s {r = r} e t = let u = told_as (sym e) t in (is_ok r u.says, u.leaves)

-- an answer that is no record is a refusal
not_record : (r : Written) → ((m : ℕ) → paper r ≡ ok m → ⊥) → T (refuses r)
unfolding paper refuses
not_record (Ok m) f = absurd (f m refl)
not_record (Err x) f = tt

pub declined : (a : Answer) {out out' : List ℕ} {r : Written} → T (demand.refused a) → Told a out r out' → Declined out r out'
unfolding by_length laid refuses demand.refused
declined (ok s) h t = absurd h
declined (no n) {r = r} h t =
    record { says = not_record r (λ m e. let x = sym t.says ∙ e in let z : ◌≡◌ {A = ℕ} 0 1 = cc in omega arith); leaves = t.leaves }
declined (miscount w g) {r = r} h t =
    record { says = not_record r (λ m e. let x = sym t.says ∙ e in let z : ◌≡◌ {A = ℕ} 0 1 = cc in omega arith); leaves = t.leaves }

-- ---- typing's answer

-- the same types give the same answer
read_same : (target types types' : List ℕ) (g : Target) (l : List Ty) → read_target target ≡ some g → read_tys g types ≡ some l
    → read_tys g types' ≡ some l → (room : ℕ)
    → type_answer target types room ≡ type_answer target types' room
unfolding type_answer
read_same target types types' g l h a b room = rw (h, a, b)

-- the type that the rules name is handed over
type_told : (target types : List ℕ) (g : Target) (l : List Ty) (t : Ty) → read_target target ≡ some g → read_tys g types ≡ some l
    → typed g l ≡ ok t
    → (room : ℕ) → T (leb (length (ty_bytes t)) room) → type_answer target types room ≡ ok (ty_bytes t)
unfolding type_answer hand_ty
type_told target types g l t h a u room r = rw (h, a, u, true_of (leb (length (ty_bytes t)) room) r)

-- ---- both

-- typing refused
neither : (s : Stage) (g : Target) (l : List Val) {outT outT' outB outB' : List ℕ} (rT : Written) {rB : Written}
    → Declined outT rT outT' → Declined outB rB outB' → Outcome s g l outT rT outT' outB rB outB'
unfolding refuses Outcome
neither s g l (Ok n) d b = absurd d.says
neither s g l (Err x) d b = record { leaves = d.leaves; building = b }

-- building returned a value, whose type is the one named
returned : (t : Ty) → T (good_ty t) → {a b : Answer} → a ≡ ok (ty_bytes t) → demand.Returned a b
    → {answered out out' : List ℕ} {r : Written} → answered ≡ ty_bytes t → Told b out r out' → Returned t answered out r out'
unfolding good_val good_ty
returned t h e v q k =
    let w : Val = v.value in
    let u : T (good_ty (type_of w)) = and_r (shaped_val w) (good_ty (type_of w)) v.good in
    let f : type_of w ≡ t = bytes_same (type_of w) t (shaped_of 15 4096 (type_of w) u) (shaped_of 15 4096 t h) (ok_inj (sym v.told ∙ e)) in
    let x = recorded (val_bytes w) v.built k in
    record { value = w; good = v.good; type = f; same = ap ty_bytes f ∙ sym q; says = x.0; leaves = x.1 }

-- from what the rules say of the types, and the two answers, to what the two calls returned and left
outcome : (s : Stage) (g : Target) (l : List Val) {a b : Answer} {outT outT' outB outB' : List ℕ} {rT rB : Written} (x : Result Ty)
    → ((t : Ty) → x ≡ ok t → T (good_ty t) × (a ≡ ok (ty_bytes t))) → Agree s g l x a b → Told a outT rT outT' → Told b outB rB outB'
    → Outcome s g l outT rT outT' outB rB outB'
unfolding Agree Outcome
outcome s g l {a} {b} {outT} {outT'} {outB} {outB'} {rT} {rB} (ok t) f m p q =
    subst (λ (r : Written). Outcome s g l outT r outT' outB rB outB') (sym u.0)
    record { type = t; good = h; long = refl; leaves = u.1; building = go (nothing_stops s g t l) m }
  where
    h : T (good_ty t)
    h = (f t refl).0

    e : a ≡ ok (ty_bytes t)
    e = (f t refl).1

    u : (rT ≡ Ok (length (ty_bytes t))) × (outT' ≡ ty_bytes t ++ drop (length (ty_bytes t)) outT)
    u = recorded (ty_bytes t) e p

    go : (y : Bool) → cond y (demand.Returned a b) (T (demand.refused b))
        → cond y (Returned t (take (length (ty_bytes t)) outT') outB rB outB') (Declined outB rB outB')
    go true v = returned t h e v (rw u.1 (take-append_seam (ty_bytes t) (drop (length (ty_bytes t)) outT))) q
    go false k = declined b k q
outcome s g l {a} {b} {rT = rT} (no n) f m p q = neither s g l rT (declined a m.untyped p) (declined b m.unbuilt q)
outcome s g l {a} {b} {rT = rT} (miscount w h) f m p q = neither s g l rT (declined a m.untyped p) (declined b m.unbuilt q)

room_for : (roomT roomB : ℕ) (x : Result Ty) (t : Ty) → x ≡ ok t → T (long_enough roomT roomB x) → T (leb (length (ty_bytes t)) roomT)
unfolding long_enough
room_for roomT roomB x t e r = and_l (leb (length (ty_bytes t)) roomT) (leb (val_len t) roomB) (rw e at r)

-- the third demand about the entries, for every target, argument and type bytes that they accept
pub entries_bytes : Demand3Bytes
entries_bytes stage s e target args types g h c l a y outT outT' outB outB' rT rB r calls =
    let tys : List Ty = map type_of l in
    let ag : T (good_tys g tys) = types_good g l (vals_good g args l a) in
    let back : read_tys g (joined ty_bytes tys) ≡ some tys = (tys_exact g).back tys ag in
    let roomT : ℕ = length outT in
    outcome s g l (typed g tys)
    (λ t u. (
      named g tys t (target_good target g h) ag u,
      type_told target (joined ty_bytes tys) g tys t h back u roomT
          (room_for roomT (length outB) (typed g tys) t u r),
    ))
    (third_read stage s e target args g l h c a roomT (length outB) r)
    (told_as (read_same target (joined ty_bytes tys) types g tys h back y roomT) calls.typing)
    calls.building

-- the third demand about the entries, all of it
pub entries : Demand3Entries
entries stage s e g h c l a =
    entries_bytes stage s e (target_bytes g) (joined val_bytes l) (joined ty_bytes (map type_of l)) g (target_exact.back g h) c l
    ((vals_exact g).back l a)
    ((tys_exact g).back (map type_of l) (types_good g l a))
