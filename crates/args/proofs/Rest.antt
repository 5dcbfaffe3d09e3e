-- Records one after another, up to the end of the bytes.
use mathlib.Core.Path.{◌≡◌, refl, sym, ap, ◌∙◌, subst}
use mathlib.Core.Option.{Option as Maybe, none, some}
use mathlib.Core.Bool.{Bool, true, false, ◌&&◌}
use mathlib.Core.List.{List, [], ◌∷◌, ◌++◌, map}
use Prim.Native.Nat.{ℕ, suc, ◌+◌, ◌-◌, ◌≤◌, ◌<◌}
use native.Mathlib.Omega.{arith}
use lib.Dec.{T, leb, le→leb, leb→le}
use lib.ListN.{length, drop, length-drop, length-append, length-map}
use lib.Seq.{drop-length}
use Rattle.meaning.specs.Kinds.{Kind}
use Rattle.meaning.specs.Trees.{Ty, Ts, Val, Target, Of, Tr, Qa, Qv, Qm, type_of, depth}
use Rattle.meaning.specs.Records.{ty_bytes, val_bytes, joined, every, shaped_ty, shaped_val, good_within, good_ty, good_val, good_arg, good_tys}
use Rattle.meaning.specs.Records.{good_args}
use Rattle.meaning.specs.Read.{p_ty, p_val, read_target, read_tys, read_vals}
use Rattle.laws.proofs.Back.{and_l, and_r, shaped_of, deep_of, ty_back}
use Rattle.laws.proofs.BackVal.{val_back}
use Rattle.laws.proofs.Same.{both}
use Rattle.laws.proofs.Sound.{All, Bytes}
use Rattle.laws.proofs.Exact.{Exactly, vals_exact, tys_exact}
use Rattle.ty.specs.Stands.{Stands}
use Rattle.record.proofs.Places.{past}
use Rattle.ty.specs.TypeFronts.{kind_number}
use Rattle.ty.proofs.Numbers.{kind_of_lem, is_number}
use Rattle.ty.specs.Targets.{seen, target_of}
use Rattle.ty.proofs.Targets.{some_target}
use Rattle.ty.specs.declared.Target as ty
use Rattle.inst.specs.Values.{Fits, Typed}
use Rattle.inst.specs.Reading.{Told, LiteralAt}
use Rattle.derive.specs.Derives.{LeafFront}
use Rattle.args.specs.Counts.{is_qa, is_tight, depth_for, bytes_for, args_of, Rests, Left, ValueArg, TypeArg, Counts, Flat, FlatIs}
use Rattle.args.specs.Counts.{FlatLeft}
use Rattle.std.specs.declared.option.Option.{Option}
use Rattle.std.specs.declared.option.Option.TheVariants.{None, Some}

-- ---- one record, and the others

-- what one item writes tells it
abbrev pub Tells : {A : Type 0} → (A → List ℕ) → (A → Type 0) → Type 0
Tells {A} write P = (a b : A) (x y : List ℕ) → P a → P b → write a ++ x ≡ write b ++ y → a ≡ b

module _ {A : Type 0} (write : A → List ℕ) (P : A → Type 0) (s : List ℕ) where
  -- an item of which P holds stands at i
  pub record Head (i : ℕ) : Type 0 where
    pub item : A
    pub here : drop i s ≡ write item ++ drop (i + length (write item)) s
    pub within : i + length (write item) ≤ length s
    pub so : P item

  module _ (i : ℕ) where
    some_left : i < length s → drop i s ≡ [] → ⊥
    some_left h e = omega (arith, length-drop i s, ap length e)

    pub head : i < length s → (k : ℕ) → Rests write P s i k → Head i
    unfolding joined
    head h k w = go w.items w.here w.each
      where
        go : (l : List A) → drop i s ≡ joined write l → All P l → Head i
        go [] e a = absurd (some_left h e)
        go (x ∷ l) e a =
            let f = past s (write x) (joined write l) i e in
            record {
              item = x;
              here = rw f e;
              within = omega
                  (arith, length-drop i s, ap length e, length-append (write x) (joined write l));
              so = a.0;
            }

    pub some_rests : i < length s → (k : ℕ) → Rests write P s i k → 1 ≤ k
    unfolding joined
    some_rests h k w = go w.items w.here w.count
      where
        go : (l : List A) → drop i s ≡ joined write l → length l ≡ k → 1 ≤ k
        go [] e c = absurd (some_left h e)
        go (x ∷ l) e c = omega arith

    module _ (t : Tells write P) (a : A) (p : P a) (e : ℕ) (q : e ≡ i + length (write a)) (x : drop i s ≡ write a ++ drop e s) where
      pub rests_more : (k : ℕ) → Rests write P s e k → Rests write P s i (suc k)
      unfolding joined
      rests_more k w = record {
        items = a ∷ w.items;
        here = x ∙ ap (λ (l : List ℕ). write a ++ l) w.here;
        each = (p, w.each);
        count = ap suc w.count;
      }

      pub rests_less : (k : ℕ) → i < length s → Rests write P s i k → Rests write P s e (k - 1)
      unfolding joined
      rests_less k h w = go w.items w.here w.each w.count
        where
          go : (l : List A) → drop i s ≡ joined write l → All P l → length l ≡ k → Rests write P s e (k - 1)
          go [] f b c = absurd (some_left h f)
          go (y ∷ l) f b c =
              let z : y ≡ a = t y a (joined write l) (drop e s) b.0 p (sym f ∙ x) in
              let j : i + length (write y) ≡ e = ap (λ (v : A). i + length (write v)) z ∙ sym q in
              record { items = l; here = rw j at (past s (write y) (joined write l) i f); each = b.1; count = omega arith }

  pub left_all : Left write P s 0 0
  left_all = record {
    within = omega arith;
    few = omega arith;
    more = λ k w. (let j : 0 + k ≡ k = omega arith in rw j w);
    less = λ k w.
        (omega arith, (let j : k - 0 ≡ k = omega arith in rw j w));
  }

  pub left_on : Tells write P → (i n : ℕ) → Left write P s i n → i < length s → n < 65535 → (a : A) → P a → (e : ℕ)
      → e ≡ i + length (write a) → e ≤ length s → drop i s ≡ write a ++ drop e s → Left write P s e (n + 1)
  left_on t i n l h f a p e q b x =
      record {
        within = b;
        few = omega arith;
        more = λ k w. let j : n + suc k ≡ n + 1 + k = omega arith in rw j at (l.more (suc k) (rests_more i t a p e q x k w));
        less = λ k w.
            let r = l.less k w in
            let o : 1 ≤ k - n = some_rests i h (k - n) r.1 in
            let m = r.0 in
            let j : k - n - 1 ≡ k - (n + 1) = omega arith in
            (omega arith, rw j at (rests_less i t a p e q x (k - n) h r.1));
      }

  pub left_none : (i n : ℕ) → Left write P s i n → length s ≤ i → Rests write P s 0 n × (n ≤ 65535)
  unfolding joined
  left_none i n l h =
      let j : i ≡ length s = omega (arith, l.within) in
      let k : n + 0 ≡ n = omega arith in
      (rw k at (l.more 0 record { items = []; here = rw (j, drop-length s); each = tt; count = refl }), l.few)

module _ {A : Type 0} {write : A → List ℕ} {P : A → Type 0} {s : List ℕ} {i n : ℕ} (l : Left write P s i n) (h : i < length s) where
  -- no more than 65,535
  pub left_full : 65535 ≤ n → (k : ℕ) → k ≤ 65535 → Rests write P s 0 k → ⊥
  left_full f k b w =
      let r = l.less k w in
      let o = some_rests write P s i h (k - n) r.1 in
      omega (arith, r.0)

  -- none stands at i
  pub left_bad : (Head write P s i → ⊥) → (k : ℕ) → k ≤ 65535 → Rests write P s 0 k → ⊥
  left_bad f k b w = f (head write P s i h (k - n) (l.less k w).1)

-- ---- types and values

module _ (d m : ℕ) where
  ty_back' : (t : Ty) (x : List ℕ) → TypeArg d m t → p_ty (suc d) (ty_bytes t ++ x) ≡ some (t, x)
  ty_back' t x p = ty_back t (suc d) (shaped_of d m t p) (omega (arith, deep_of d m t p)) x

  pub type_tells : Tells ty_bytes (TypeArg d m)
  type_tells a b x y p q e =
      ap (λ (o : Maybe (Ty × List ℕ)). let v : Ty = elim o [ none ↦ a | some r ↦ r.0 ] in v)
      (sym (ty_back' a x p) ∙ (ap (p_ty (suc d)) e ∙ ty_back' b y q))

  val_back' : (v : Val) (x : List ℕ) → ValueArg d m v → p_val (suc d) (val_bytes v ++ x) ≡ some (v, x)
  val_back' v x p = val_back v (suc d) p.0 (shaped_of d m (type_of v) p.1) (omega (arith, deep_of d m (type_of v) p.1)) x

  pub value_tells : Tells val_bytes (ValueArg d m)
  value_tells a b x y p q e =
      ap (λ (o : Maybe (Val × List ℕ)). let v : Val = elim o [ none ↦ a | some r ↦ r.0 ] in v)
      (sym (val_back' a x p) ∙ (ap (p_val (suc d)) e ∙ val_back' b y q))

  pub short_of : (t : Ty) → T (good_within d m t) → length (ty_bytes t) ≤ m
  unfolding good_within
  short_of t g = leb→le (length (ty_bytes t)) m (and_r (shaped_ty t && leb (depth t) d) (leb (length (ty_bytes t)) m) g)

  pub within_of : (t : Ty) → T (shaped_ty t) → depth t ≤ d → length (ty_bytes t) ≤ m → T (good_within d m t)
  unfolding good_within
  within_of t g h l =
      both (shaped_ty t && leb (depth t) d) (leb (length (ty_bytes t)) m) (both (shaped_ty t) (leb (depth t) d) g (le→leb (depth t) d h))
      (le→leb (length (ty_bytes t)) m l)

  -- an argument that stands at i
  pub record TypeHead (s : List ℕ) (i : ℕ) : Type 0 where
    pub type : Ty
    pub stands : Stands d s i type (i + length (ty_bytes type))
    pub short : length (ty_bytes type) ≤ m

  pub type_head : {s : List ℕ} {i : ℕ} → Head ty_bytes (TypeArg d m) s i → TypeHead s i
  type_head h =
      let t = h.item in
      record {
        type = t;
        stands = record {
          here = h.here;
          size = refl;
          within = h.within;
          shaped = shaped_of d m t h.so;
          deep = deep_of d m t h.so;
        };
        short = short_of t h.so;
      }

  pub record ValueHead (s : List ℕ) (i : ℕ) : Type 0 where
    pub type : Ty
    pub end : ℕ
    pub typed : Typed d s i type end
    pub short : length (ty_bytes type) ≤ m

  pub value_head : {s : List ℕ} {i : ℕ} → Head val_bytes (ValueArg d m) s i → ValueHead s i
  value_head {i = i} h =
      let v = h.item in
      let p = h.so in
      record {
        type = type_of v;
        end = i + length (val_bytes v);
        typed = record {
          fits = record { value = v; here = h.here; size = refl; within = h.within; shaped = p.0; type = refl };
          shaped = shaped_of d m (type_of v) p.1;
          deep = deep_of d m (type_of v) p.1;
        };
        short = short_of (type_of v) p.1;
      }

  -- one more was read
  pub type_left : {s : List ℕ} {i n : ℕ} → Left ty_bytes (TypeArg d m) s i n → i < length s → n < 65535 → {t : Ty} {e : ℕ}
      → Stands d s i t e → length (ty_bytes t) ≤ m → Left ty_bytes (TypeArg d m) s e (n + 1)
  type_left {s} {i} {n} l h f {t} {e} w b = left_on ty_bytes (TypeArg d m) s type_tells i n l h f t (within_of t w.shaped w.deep b) e w.size
      w.within w.here

  pub value_left : {s : List ℕ} {i n : ℕ} → Left val_bytes (ValueArg d m) s i n → i < length s → n < 65535 → {t : Ty} {e : ℕ}
      → Typed d s i t e → length (ty_bytes t) ≤ m → Left val_bytes (ValueArg d m) s e (n + 1)
  value_left {s} {i} {n} l h f {t} {e} w b =
      let v = w.fits in
      let g : T (good_within d m (type_of v.value)) = subst (λ (u : Ty). T (good_within d m u)) (sym v.type)
      (within_of t w.shaped w.deep b) in
      left_on val_bytes (ValueArg d m) s value_tells i n l h f v.value (v.shaped, g) e v.size v.within v.here

-- ---- scalars, vectors and matrices

-- a type within the limits, and what was told of a value of it
module _ (s : List ℕ) (at : ℕ) (t : Ty) (p : T (shaped_ty t)) (q : depth t ≤ 2) (h : length (ty_bytes t) ≤ 7) where
  flat_as : (r : Option ℕ) → Told (Fits s at t) r → Flat s at r
  flat_as (Some e) w = record { type = t; typed = record { fits = w; shaped = p; deep = q }; short = h }
  flat_as None w = tt

module _ {s : List ℕ} {at k : ℕ} {g : Kind → Ty} (f : LeafFront 2 s at g k) where
  pub flat_kind : T (kind_number k)
  flat_kind = subst (λ (n : ℕ). T (kind_number n)) (sym f.no) (is_number f.kind)

  pub flat_of : (r : Option ℕ) → ((j : Kind) → length (ty_bytes (g j)) ≤ 7) → Told (Fits s at (g f.kind)) r → Flat s at r
  flat_of r h w = flat_as s at (g f.kind) f.shaped f.deep (h f.kind) r w

-- a literal is such an argument, whatever its kind
pub flat_literal : (s : List ℕ) (at : ℕ) {k : ℕ} → T (kind_number k) → (r : Option ℕ) → LiteralAt s at k r → Flat s at r
unfolding ty_bytes shaped_ty depth
flat_literal s at {k} h r w = let j = kind_of_lem k h in flat_as s at (Ts j.kind) tt (omega arith) (omega arith) r (w j.kind j.no)

-- one more was read
pub flat_left : {s : List ℕ} {i n e : ℕ} → FlatLeft s i n → i < length s → n < 65535 → FlatIs s i e → FlatLeft s e (n + 1)
flat_left l h f x d m p q =
    let w = x.typed in
    value_left d m (l d m p q) h f record { fits = w.fits; shaped = w.shaped; deep = omega (arith, w.deep) }
    (omega (arith, x.short))

-- ---- the lists that may stand there are those whose records these are

pub tight_is : (g : Target) {r : ty.Target} → r ≡ seen g → is_qa g ≡ is_tight r
tight_is (Of t) q = ap is_tight (sym q)
tight_is (Tr t) q = ap is_tight (sym q)
tight_is Qa q = ap is_tight (sym q)
tight_is (Qv n) q = ap is_tight (sym q)
tight_is (Qm c r) q = ap is_tight (sym q)

arg_is : (g : Target) (t : Ty) → good_arg g t ≡ good_within (depth_for (is_qa g)) (bytes_for (is_qa g)) t
unfolding good_arg good_ty
arg_is (Of u) t = refl
arg_is (Tr u) t = refl
arg_is Qa t = refl
arg_is (Qv n) t = refl
arg_is (Qm c r) t = refl

pub bytes_least : (b : Bool) → 7 ≤ bytes_for b
bytes_least true = omega arith
bytes_least false = omega arith

pub depth_least : (b : Bool) → 2 ≤ depth_for b
depth_least true = omega arith
depth_least false = omega arith

-- each passes the test where P holds, and the other way round
pub every_all : {A : Type 0} (f : A → Bool) (P : A → Type 0) → ((a : A) → T (f a) → P a) → (l : List A) → T (every f l) → All P l
unfolding every
every_all f P h [] g = tt
every_all f P h (a ∷ l) g = (h a (and_l (f a) (every f l) g), every_all f P h l (and_r (f a) (every f l) g))

all_every : {A : Type 0} (f : A → Bool) (P : A → Type 0) → ((a : A) → P a → T (f a)) → (l : List A) → All P l → T (every f l)
unfolding every
all_every f P h [] g = tt
all_every f P h (a ∷ l) g = both (f a) (every f l) (h a g.0) (all_every f P h l g.1)

-- from the number that was counted to what is read
exactly : {A : Type 0} (good : List A → Bool) (write : A → List ℕ) (read : List ℕ → Maybe (List A)) (P : A → Type 0)
    → Exactly good (joined write) read
    → ((l : List A) → All P l → length l ≤ 65535 → T (good l)) → ((l : List A) → T (good l) → All P l × (length l ≤ 65535))
    → (s : List ℕ) → Bytes s → (r : Option ℕ) → Counts (Rests write P s 0) r → r ≡ args_of (read s)
unfolding args_of
exactly good write read P x f g s b (Some n) c =
    let w = c.0 in
    let i : length w.items ≡ n = w.count in
    let l = c.1 in
    let y : read s ≡ some w.items = ap read w.here ∙ x.back w.items (f w.items w.each (omega arith)) in
    rw (y, i)
exactly {A} good write read P x f g s b None c = go (read s) refl
  where
    go : (o : Maybe (List A)) → read s ≡ o → None ≡ args_of o
    go none e = refl
    go (some l) e =
        let y = x.sound s l b e in
        let z = g l y.1 in
        absurd (c (length l) z.1 record { items = l; here = y.0; each = z.0; count = refl })

module _ (g : Target) where
  pub limit : (l : List Ty) → T (good_tys g l) → T (every (good_arg g) l) × (length l ≤ 65535)
  unfolding good_tys
  limit l h = (
    and_l (every (good_arg g) l) (leb (length l) 65535) h,
    leb→le (length l) 65535
        (and_r (every (good_arg g) l) (leb (length l) 65535) h),
  )

  limited : (l : List Ty) → T (every (good_arg g) l) → length l ≤ 65535 → T (good_tys g l)
  unfolding good_tys
  limited l h i = both (every (good_arg g) l) (leb (length l) 65535) h (le→leb (length l) 65535 i)

  pub types_read : (s : List ℕ) → Bytes s → (r : Option ℕ) → Counts (Rests ty_bytes (TypeArg (depth_for (is_qa g)) (bytes_for (is_qa g))) s 0) r
      → r ≡ args_of (read_tys g s)
  types_read =
      exactly (good_tys g) ty_bytes (read_tys g) (TypeArg (depth_for (is_qa g)) (bytes_for (is_qa g))) (tys_exact g)
      (λ l a i. limited l (all_every (good_arg g) _ (λ t p. subst T (sym (arg_is g t)) p) l a) i)
      (λ l h. let x = limit l h in (every_all (good_arg g) _ (λ t p. subst T (arg_is g t) p) l x.0, x.1))

  -- under the limits of any target a type is well formed
  pub good_ty_lem : (t : Ty) → T (good_arg g t) → T (good_ty t)
  unfolding good_ty
  good_ty_lem t h = go (is_qa g) (subst T (arg_is g t) h)
    where
      go : (b : Bool) → T (good_within (depth_for b) (bytes_for b) t) → T (good_within 15 4096 t)
      go false p = p
      go true p = within_of 15 4096 t (shaped_of 14 4092 t p) (omega (arith, deep_of 14 4092 t p)) (omega (arith, short_of 14 4092 t p))

  all_types : (l : List Val) → All (ValueArg (depth_for (is_qa g)) (bytes_for (is_qa g))) l → T (every (good_arg g) (map type_of l))
  unfolding every
  all_types [] a = tt
  all_types (v ∷ l) a = both (good_arg g (type_of v)) (every (good_arg g) (map type_of l)) (subst T (sym (arg_is g (type_of v))) a.0.1)
      (all_types l a.1)

  all_values : (l : List Val) → T (every good_val l) → T (every (good_arg g) (map type_of l))
      → All (ValueArg (depth_for (is_qa g)) (bytes_for (is_qa g))) l
  unfolding every good_val
  all_values [] h i = tt
  all_values (v ∷ l) h i = (
    (
      and_l (shaped_val v) (good_ty (type_of v)) (and_l (good_val v) (every good_val l) h),
      subst T (arg_is g (type_of v))
          (and_l (good_arg g (type_of v)) (every (good_arg g) (map type_of l)) i),
    ),
    all_values l (and_r (good_val v) (every good_val l) h) (and_r (good_arg g (type_of v)) (every (good_arg g) (map type_of l)) i),
  )

  good_value : (v : Val) → ValueArg (depth_for (is_qa g)) (bytes_for (is_qa g)) v → T (good_val v)
  unfolding good_val
  good_value v p = both (shaped_val v) (good_ty (type_of v)) p.0 (good_ty_lem (type_of v) (subst T (sym (arg_is g (type_of v))) p.1))

  pub values_read : (s : List ℕ) → Bytes s → (r : Option ℕ) → Counts (Rests val_bytes (ValueArg (depth_for (is_qa g)) (bytes_for (is_qa g))) s 0) r
      → r ≡ args_of (read_vals g s)
  unfolding good_args
  values_read =
      exactly (good_args g) val_bytes (read_vals g) (ValueArg (depth_for (is_qa g)) (bytes_for (is_qa g))) (vals_exact g)
      (λ l a i. both (every good_val l) (good_tys g (map type_of l)) (all_every good_val _ good_value l a)
      (limited (map type_of l) (all_types l a) (omega (arith, length-map l type_of))))
      (λ l h.
      let x = limit (map type_of l) (and_r (every good_val l) (good_tys g (map type_of l)) h) in
      (all_values l (and_l (every good_val l) (good_tys g (map type_of l)) h) x.0, omega (arith, x.1, length-map l type_of)))

-- ---- what an answer says, for callers

-- the target that is read, and n arguments for it
pub record BothRead {A : Type 0} (read : Target → List ℕ → Maybe (List A)) (target s : List ℕ) (n : ℕ) : Type 0 where
  pub for : Target
  pub reads : read_target target ≡ some for
  pub items : List A
  pub given : read for s ≡ some items
  pub count : n ≡ length items

-- the target that is read, and bad arguments for it
pub record NoneRead {A : Type 0} (read : Target → List ℕ → Maybe (List A)) (target s : List ℕ) : Type 0 where
  pub for : Target
  pub reads : read_target target ≡ some for
  pub bad : read for s ≡ none

module _ {A : Type 0} (read : Target → List ℕ → Maybe (List A)) (target s : List ℕ) {o : Option ty.Target} {found : ty.Target}
    (q : o ≡ target_of (read_target target)) (h : o ≡ Some found) {r : Option ℕ}
    (f : (g : Target) → found ≡ seen g → r ≡ args_of (read g s)) where
  read_for : (g : Target) × (read_target target ≡ some g) × (found ≡ seen g)
  read_for = some_target target q h

  told : r ≡ args_of (read read_for.0 s)
  told = f read_for.0 read_for.2

  pub both_read : {n : ℕ} → r ≡ Some n → BothRead read target s n
  unfolding args_of
  both_read {n} e = go (read read_for.0 s) refl (sym e ∙ told)
    where
      go : (o : Maybe (List A)) → read read_for.0 s ≡ o → Some n ≡ args_of o → BothRead read target s n
      go none k p = absurd (let z : ◌≡◌ {A = ℕ} 0 1 = cc in omega arith)
      go (some l) k p = record { for = read_for.0; reads = read_for.1; items = l; given = k; count = cc }

  pub none_read : r ≡ None → NoneRead read target s
  unfolding args_of
  none_read e = record { for = read_for.0; reads = read_for.1; bad = go (read read_for.0 s) (sym e ∙ told) }
    where
      go : (o : Maybe (List A)) → None ≡ args_of o → o ≡ none
      go none p = refl
      go (some l) p = absurd (let z : ◌≡◌ {A = ℕ} 0 1 = cc in omega arith)
