-- What an entry hands over: where it answers with a record, that is the whole record of a well-formed value or type, as
-- long as its type says and no longer than the lent buffer; and the buffer keeps its length. A zero value's answer
-- follows from the type alone: it is measured without being made.
use mathlib.Core.Path.{◌≡◌, refl, sym, ap, ◌∙◌, subst}
use mathlib.Core.Option.{Option, none, some}
use mathlib.Core.List.{List, [], ◌∷◌, ◌++◌}
use mathlib.Core.Bool.{Bool, true, false, ◌&&◌, cond}
use Prim.Native.Nat.{ℕ, ◌≤◌}
use native.Mathlib.Omega.{arith}
use lib.Dec.{T, leb, leb→le}
use lib.ListN.{length, drop, length-append, length-drop}
use Rattle.meaning.specs.Scalars.{Stage, Const}
use Rattle.meaning.specs.Trees.{Ty, Ts, Tv, Tm, Ta, Tu, Val, Target, Of, Tr, Qa, Qv, Qm, type_of, zero_of, val_len, leaf}
use Rattle.meaning.specs.Answers.{Result, ok, no, miscount, Answer, or_no, need, ◌>>=◌, ◌>>◌}
use Rattle.meaning.specs.Records.{ty_bytes, val_bytes, shaped_val, shaped_ty, good_within, good_val, good_ty, good_target, good_args, good_tys}
use Rattle.meaning.specs.Records.{every, u16}
use Rattle.meaning.specs.Read.{if?, read_target, read_vals, read_tys}
use Rattle.meaning.specs.Convert.{converts, conv_val, conv_runtime}
use Rattle.meaning.specs.Build.{build}
use Rattle.meaning.specs.Typing.{typed}
use Rattle.meaning.specs.Entries.{stage_of, hand_val, hand_ty, build_answer, type_answer, convert_answer, conv_one, type_target, only, laid}
use Rattle.laws.specs.Demand.{fits_leaf}
use Rattle.laws.proofs.AgreeConv.{Conv, conv_val_lem, conv_not}
use Rattle.laws.proofs.AgreeBuild.{zero_made}
use Rattle.laws.proofs.Back.{and_l, and_r, shaped_of}
use Rattle.laws.proofs.Named.{named, qa_good, opt_ok, bind_ok, seq_ok, ok_inj, no_ok}
use Rattle.laws.proofs.Length.{val_len_lem}
use Rattle.laws.proofs.Built.{built_good}
use Rattle.laws.proofs.Same.{both}

-- the whole record of a well-formed value
pub record WholeValue (room : ℕ) (s : List ℕ) : Type 0 where
  pub value : Val
  pub good : T (good_val value)
  pub is : s ≡ val_bytes value
  pub long : length s ≡ val_len (type_of value)
  pub fits : length s ≤ room

pub record WholeType (room : ℕ) (s : List ℕ) : Type 0 where
  pub type : Ty
  pub good : T (good_ty type)
  pub is : s ≡ ty_bytes type
  pub fits : length s ≤ room

-- ---- what the last test says

need_ok : {B : Type 0} (b : Bool) (n : ℕ) (y : Result B) (x : B) → (need b n >> y) ≡ ok x → T b
need_ok true n y x h = tt
need_ok false n y x h = no_ok h

pub hands_value : (room : ℕ) (v : Val) (s : List ℕ) → T (good_val v) → hand_val room v ≡ ok s → WholeValue room s
unfolding hand_val good_val
hands_value room v s g h =
    let i : val_bytes v ≡ s = ok_inj (seq_ok (need (leb (val_len (type_of v)) room) 22) (ok (val_bytes v)) s h) in
    let l : length (val_bytes v) ≡ val_len (type_of v) = val_len_lem v (and_l (shaped_val v) (good_ty (type_of v)) g) in
    let r : val_len (type_of v) ≤ room = leb→le (val_len (type_of v)) room (need_ok (leb (val_len (type_of v)) room) 22 (ok (val_bytes v)) s h) in
    record { value = v; good = g; is = sym i; long = ap length (sym i) ∙ l; fits = omega (arith, ap length (sym i) ∙ l, r) }

hands_type : (room : ℕ) (t : Ty) (s : List ℕ) → T (good_ty t) → hand_ty room t ≡ ok s → WholeType room s
unfolding hand_ty
hands_type room t s g h =
    let i : ty_bytes t ≡ s = ok_inj (seq_ok (need (leb (length (ty_bytes t)) room) 22) (ok (ty_bytes t)) s h) in
    let r : length (ty_bytes t) ≤ room = leb→le (length (ty_bytes t)) room
    (need_ok (leb (length (ty_bytes t)) room) 22 (ok (ty_bytes t)) s h) in
    record { type = t; good = g; is = sym i; fits = omega (arith, ap length (sym i), r) }

some_of : {A : Type 0} {a : A} (n : ℕ) (o : Option A) → or_no n o ≡ ok a → o ≡ some a
some_of n none h = no_ok h
some_of n (some b) h = ap some (ok_inj h)

-- ---- what was read is well formed

if_some : {A : Type 0} (f : A → Bool) (o : Option A) (a : A) → if? f o ≡ some a → T (f a)
unfolding if?
if_some {A} f none a h = absurd (let z : ◌≡◌ {A = ℕ} 0 1 = cc in omega arith)
if_some {A} f (some b) a h = go (f b) refl h
  where
    go : (c : Bool) → f b ≡ c → cond c (some b) none ≡ some a → T (f a)
    go true e q = let i : b ≡ a = cc in subst (λ (x : A). T (f x)) i (subst T (sym e) tt)
    go false e q = absurd (let z : ◌≡◌ {A = ℕ} 0 1 = cc in omega arith)

pub target_good : (s : List ℕ) (g : Target) → read_target s ≡ some g → T (good_target g)
unfolding read_target
target_good s g h = if_some good_target _ g h

pub vals_good : (g : Target) (s : List ℕ) (l : List Val) → read_vals g s ≡ some l → T (good_args g l)
unfolding read_vals
vals_good g s l h = if_some (good_args g) _ l h

pub tys_good : (g : Target) (s : List ℕ) (l : List Ty) → read_tys g s ≡ some l → T (good_tys g l)
unfolding read_tys
tys_good g s l h = if_some (good_tys g) _ l h

-- ---- the three entries that hand over a record

pub building : (stage : ℕ) (target args : List ℕ) (room : ℕ) (s : List ℕ) → build_answer stage target args room ≡ ok s → WholeValue room s
unfolding build_answer
building stage target args room s h =
    let a = opt_ok 3 (stage_of stage) (λ st. or_no 1 (read_target target) >>= λ g. or_no 2 (read_vals g args) >>= λ l. build st g l >>= hand_val
    room) s h in
    let b = opt_ok 1 (read_target target) (λ g. or_no 2 (read_vals g args) >>= λ l. build a.0 g l >>= hand_val room) s a.2 in
    let c = opt_ok 2 (read_vals b.0 args) (λ l. build a.0 b.0 l >>= hand_val room) s b.2 in
    let d = bind_ok (build a.0 b.0 c.0) (hand_val room) s c.2 in
    hands_value room d.0 s (built_good a.0 b.0 c.0 d.0 (target_good target b.0 b.1)
    (vals_good b.0 args c.0 c.1) d.1) d.2

pub typing : (target args : List ℕ) (room : ℕ) (s : List ℕ) → type_answer target args room ≡ ok s → WholeType room s
unfolding type_answer
typing target args room s h =
    let b = opt_ok 1 (read_target target) (λ g. or_no 2 (read_tys g args) >>= λ l. typed g l >>= hand_ty room) s h in
    let c = opt_ok 2 (read_tys b.0 args) (λ l. typed b.0 l >>= hand_ty room) s b.2 in
    let d = bind_ok (typed b.0 c.0) (hand_ty room) s c.2 in
    hands_type room d.0 s (named b.0 c.0 d.0 (target_good target b.0 b.1) (tys_good b.0 args c.0 c.1) d.1)
    d.2

-- a converted value has the type that was asked for
converted : (t : Ty) (v w : Val) → T (good_val v) → T (good_ty t) → conv_val t v ≡ some w → T (good_val w)
unfolding good_val good_ty
converted t v w g h e = go (converts (type_of v) t) refl
  where
    sv : T (shaped_val v)
    sv = and_l (shaped_val v) (good_ty (type_of v)) g

    take : (b : Bool) → Conv b t (conv_val t v) → T (shaped_val w && good_within 15 4096 (type_of w))
    take true (x, q, s, u) =
        let i : x ≡ w = (let j : some x ≡ some w = sym q ∙ e in cc) in
        both (shaped_val w) (good_within 15 4096 (type_of w)) (subst (λ (y : Val). T (shaped_val y)) i s)
        (subst (λ (y : Ty). T (good_within 15 4096 y)) (sym u ∙ ap type_of i) h)
    take false q = absurd (let j : none ≡ some w = sym q ∙ e in let z : ◌≡◌ {A = ℕ} 0 1 = cc in omega arith)

    go : (b : Bool) → converts (type_of v) t ≡ b → T (shaped_val w && good_within 15 4096 (type_of w))
    go true c = take (fits_leaf false Const (leaf t) v) (conv_val_lem t v Const sv
        (shaped_of 15 4096 (type_of v) (and_r (shaped_val v) (good_ty (type_of v)) g)) (subst T (sym c) tt))
    go false c = take false (conv_not t v c)

-- the counted array that a runtime-sized one becomes
pub counted_good : (n : ℕ) (a t : Ty) → T (good_ty (Ta n a)) → T (good_within 14 4092 t) → T (good_ty (Ta n t))
unfolding good_ty good_within shaped_ty u16
counted_good n a t g h =
    let s : T (leb 1 n && leb n 65535 && shaped_ty a) = shaped_of 15 4096 (Ta n a) g in
    let u : T (leb 1 n && leb n 65535) = and_l (leb 1 n && leb n 65535) (shaped_ty a) s in
    qa_good n t (leb→le 1 n (and_l (leb 1 n) (leb n 65535) u)) (and_r (leb 1 n) (leb n 65535) u) h

runtime : (t x : Ty) (v w : Val) → type_of v ≡ x → T (good_val v) → T (good_within 14 4092 t) → conv_runtime t x v ≡ some w → T (good_val w)
unfolding conv_runtime good_val
runtime t (Ts k) v w u g h e = absurd (let z : ◌≡◌ {A = ℕ} 0 1 = cc in omega arith)
runtime t (Tv n k) v w u g h e = absurd (let z : ◌≡◌ {A = ℕ} 0 1 = cc in omega arith)
runtime t (Tm c r k) v w u g h e = absurd (let z : ◌≡◌ {A = ℕ} 0 1 = cc in omega arith)
runtime t (Ta n a) v w u g h e =
    converted (Ta n t) v w g (counted_good n a t (subst (λ (y : Ty). T (good_ty y)) u (and_r (shaped_val v) (good_ty (type_of v)) g)) h) e
runtime t (Tu i m) v w u g h e = absurd (let z : ◌≡◌ {A = ℕ} 0 1 = cc in omega arith)

converted_to : (g : Target) (v w : Val) → T (good_target g) → T (good_val v) → conv_one g v ≡ ok w → T (good_val w)
unfolding conv_one good_target
converted_to (Of t) v w h g e = converted t v w g h (some_of 9 (conv_val t v) e)
converted_to (Tr t) v w h g e = runtime t (type_of v) v w refl g h (some_of 9 (conv_runtime t (type_of v) v) e)
converted_to Qa v w h g e = no_ok e
converted_to (Qv n) v w h g e = no_ok e
converted_to (Qm c r) v w h g e = no_ok e

only_one : (g : Target) (l : List Val) (v : Val) → T (good_args g l) → only l ≡ ok v → T (good_val v)
unfolding only good_args every
only_one g [] v a e = no_ok e
only_one g (x ∷ []) v a e = subst (λ (y : Val). T (good_val y)) (ok_inj e)
    (and_l (good_val x) true (and_l (good_val x && true) (good_tys g (type_of x ∷ [])) a))
only_one g (x ∷ y ∷ l) v a e = no_ok e

pub conversion : (target args : List ℕ) (room : ℕ) (s : List ℕ) → convert_answer target args room ≡ ok s → WholeValue room s
unfolding convert_answer
conversion target args room s h =
    let b = opt_ok 1 (read_target target) (λ g. type_target g >>
    (or_no 2 (read_vals g args) >>= λ l. only l >>= λ v. conv_one g v >>= hand_val room)) s h in
    let q = seq_ok (type_target b.0) (or_no 2 (read_vals b.0 args) >>= λ l. only l >>= λ v. conv_one b.0 v >>= hand_val room) s
    b.2 in
    let c = opt_ok 2 (read_vals b.0 args) (λ l. only l >>= λ v. conv_one b.0 v >>= hand_val room) s q in
    let d = bind_ok (only c.0) (λ v. conv_one b.0 v >>= hand_val room) s c.2 in
    let e = bind_ok (conv_one b.0 d.0) (hand_val room) s d.2 in
    hands_value room e.0 s
    (converted_to b.0 d.0 e.0 (target_good target b.0 b.1)
    (only_one b.0 c.0 d.0 (vals_good b.0 args c.0 c.1) d.1) e.1) e.2

-- ---- the buffer keeps its length

pub front_keeps : (s out : List ℕ) → length s ≤ length out → length (s ++ drop (length s) out) ≡ length out
front_keeps s out h = simp (length-append, length-drop) (omega arith)

keeps : (a : Answer) (out : List ℕ) → ((s : List ℕ) → a ≡ ok s → length s ≤ length out) → length (laid a out) ≡ length out
unfolding laid
keeps (ok s) out h = front_keeps s out (h s refl)
keeps (no n) out h = refl
keeps (miscount w g) out h = refl

pub building_keeps : (stage : ℕ) (target args out : List ℕ) → length (laid (build_answer stage target args (length out)) out) ≡ length out
building_keeps stage target args out = keeps _ out (λ s e. (building stage target args (length out) s e).fits)

pub typing_keeps : (target args out : List ℕ) → length (laid (type_answer target args (length out)) out) ≡ length out
typing_keeps target args out = keeps _ out (λ s e. (typing target args (length out) s e).fits)

pub conversion_keeps : (target args out : List ℕ) → length (laid (convert_answer target args (length out)) out) ≡ length out
conversion_keeps target args out = keeps _ out (λ s e. (conversion target args (length out) s e).fits)

-- ---- zero values: "measured, not made"

pub zero_measured : (s : Stage) (t : Ty) (room : ℕ) → T (good_ty t) → (build s (Of t) [] >>= hand_val room) ≡
    (need (leb (val_len t) room) 22 >> ok (val_bytes (zero_of t)))
unfolding build hand_val good_ty
zero_measured s t room g = ap (λ (u : Ty). need (leb (val_len u) room) 22 >> ok (val_bytes (zero_of t)))
    (zero_made t (shaped_of 15 4096 t g)).1
