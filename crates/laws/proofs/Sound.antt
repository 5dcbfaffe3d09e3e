-- What a parser accepts, of a list of bytes, is the writing of what it read, and then what is left: the parts, lists, and types.
use mathlib.Core.Path.{◌≡◌, refl, ap, subst}
use mathlib.Core.Option.{Option, none, some}
use mathlib.Core.List.{List, [], ◌∷◌, ◌++◌, append_assoc}
use mathlib.Core.Bool.{Bool, true, false, cond}
use Prim.Native.Nat.{ℕ, zero, suc, ◌+◌, ◌*◌, ◌<◌, ◌%◌, ◌/◌}
use native.Mathlib.Omega.{arith}
use lib.Dec.{T, eqb, eqb→eq}
use lib.ListN.{length, get_or}
use Rattle.meaning.specs.Kinds.{Kind, bool, aint, afloat, i32, u32, f32, f16, kind_no, kind_of}
use Rattle.meaning.specs.Trees.{Ty, Ts, tys_of, tys_list}
use Rattle.meaning.specs.Records.{‘T’, ‘s’, ‘v’, ‘m’, ‘a’, ‘u’, le, joined, ty_bytes, tys_bytes}
use Rattle.meaning.specs.Read.{Parser, p_byte, p_u16, p_number, lift, many, choose, marked, p_kind, p_scalar_ty, p_ts, p_tv, p_tm, p_ta, p_tu, p_ty}

-- every element is a byte
abbrev pub Bytes : List ℕ → Type 0
Bytes s = (i : ℕ) → get_or s i 0 < 256

-- the bytes h and then s are the writing of x's first part, of which Q holds, and then x's second
pub record Wrote {A : Type 0} (h : List ℕ) (f : A → List ℕ) (Q : A → Type 0) (s : List ℕ) (x : A × List ℕ) : Type 0 where
  pub is : h ++ s ≡ f x.0 ++ x.1
  pub so : Q x.0
  pub rest : Bytes x.1

-- what p reads behind the bytes h is the writing of what it gives
abbrev pub Reads : {A : Type 0} → List ℕ → Parser A → (A → List ℕ) → (A → Type 0) → Type 0
Reads {A} h p f Q = (s : List ℕ) (x : A × List ℕ) → Bytes s → p s ≡ some x → Wrote h f Q s x

-- nothing more is said
abbrev pub Any : {A : Type 0} → A → Type 0
Any a = Unit {0}

-- ---- the steps of a parser that ended well

pub some_inj : {A : Type 0} {x y : A} → some x ≡ some y → x ≡ y
some_inj e = cc

-- one reading gives one result
pub same_read : {A B : Type 0} {a b : A} {x y : B} → ◌≡◌ {A = Option (A × B)} (some (a, x)) (some (b, y)) → a ≡ b
same_read {A} {B} e = ap (λ (r : A × B). r.0) (some_inj e)

pub no_some : {A : Type 0} {x : A} {P : Type 0} → none ≡ some x → P
no_some e = absurd (let z : ◌≡◌ {A = ℕ} 0 1 = cc in omega arith)

-- each gives what the step read to what follows
module _ {B : Type 0} {x : B} {P : Type 0} where
  pub on_some : {A : Type 0} (o : Option A) (k : A → Option B) → elim o [ none ↦ none | some a ↦ k a ] ≡ some x
      → ((a : A) → o ≡ some a → k a ≡ some x → P) → P
  on_some none k e c = no_some e
  on_some (some a) k e c = c a refl e

  pub on_read : {A : Type 0} {h : List ℕ} {p : Parser A} {f : A → List ℕ} {Q : A → Type 0} → Reads h p f Q
      → (s : List ℕ) (k : A × List ℕ → Option B) → Bytes s
      → elim (p s) [ none ↦ none | some r ↦ k r ] ≡ some x →
      ((a : A) (t : List ℕ) → h ++ s ≡ f a ++ t → Q a → Bytes t → k (a, t) ≡ some x → P) → P
  on_read {p = p} r s k b e c = on_some (p s) k e λ y e₁ e₂. let w = r s y b e₁ in c y.0 y.1 w.is w.so w.rest e₂

  pub on_test : {A : Type 0} (b : Bool) (p q : A → Option B) (s : A) → cond b p q s ≡ some x → (T b → p s ≡ some x → P)
      → (q s ≡ some x → P) → P
  on_test true p q s e c d = c tt e
  on_test false p q s e c d = d e

  pub on_if : (b : Bool) (o : Option B) → cond b o none ≡ some x → (T b → o ≡ some x → P) → P
  on_if true o e c = c tt e
  on_if false o e c = no_some e

-- a parser that gives y, gave y
pub gave : {A : Type 0} {h : List ℕ} {f : A → List ℕ} {Q : A → Type 0} {s : List ℕ} {x y : A × List ℕ} → some y ≡ some x → Wrote h f Q s y
    → Wrote h f Q s x
gave {A} {h} {f} {Q} {s} e w = subst (λ (z : A × List ℕ). Wrote h f Q s z) (some_inj e) w

pub lift_sound : {A : Type 0} (o : Option A) → Reads [] (lift o) (λ a. []) (λ a. o ≡ some a)
lift_sound none s x b e = no_some e
lift_sound (some a) s x b e = gave e record { is = refl; so = refl; rest = b }

-- ---- bytes, numbers, kinds

pub byte_sound : Reads [] p_byte (λ b. b ∷ []) (λ b. b < 256)
byte_sound [] x b e = no_some e
byte_sound (a ∷ s) x b e = gave e record { is = refl; so = b 0; rest = λ i. b (suc i) }

low : (a n : ℕ) → a < 256 → (a + 256 * n) % 256 ≡ a
low a n h = omega arith

high : (a n : ℕ) → a < 256 → (a + 256 * n) / 256 ≡ n
high a n h = omega arith

pub number_sound : (w : ℕ) → Reads [] (p_number w) (le w) Any
unfolding le
number_sound zero s x b e = gave e record { is = refl; so = tt; rest = b }
number_sound (suc w) s x b e =
    on_read byte_sound s _ b e λ a t i q b₁ e₁.
    on_read (number_sound w) t _ b₁ e₁ λ n u j _ b₂ e₂.
    gave e₂ record { is = rw (low a n q, high a n q) (cc); so = tt; rest = b₂ }

pub u16_sound : Reads [] p_u16 (le 2) Any
unfolding le
u16_sound s x b e =
    on_read byte_sound s _ b e λ l t i p b₁ e₁.
    on_read byte_sound t _ b₁ e₁ λ h u j q b₂ e₂.
    let small : h % 256 ≡ h = omega arith in
    gave e₂ record { is = rw (low l h p, high l h p, small) (cc); so = tt; rest = b₂ }

pub kind_no_lem : (n : ℕ) (k : Kind) → kind_of n ≡ some k → n ≡ kind_no k
unfolding kind_of kind_no
kind_no_lem zero k e = ap kind_no (some_inj {x = bool} e)
kind_no_lem (suc zero) k e = ap kind_no (some_inj {x = aint} e)
kind_no_lem (suc (suc zero)) k e = ap kind_no (some_inj {x = afloat} e)
kind_no_lem (suc (suc (suc zero))) k e = ap kind_no (some_inj {x = i32} e)
kind_no_lem (suc (suc (suc (suc zero)))) k e = ap kind_no (some_inj {x = u32} e)
kind_no_lem (suc (suc (suc (suc (suc zero))))) k e = ap kind_no (some_inj {x = f32} e)
kind_no_lem (suc (suc (suc (suc (suc (suc zero)))))) k e = ap kind_no (some_inj {x = f16} e)
kind_no_lem (suc (suc (suc (suc (suc (suc (suc n))))))) k e = no_some e

pub kind_sound : Reads [] p_kind (λ k. kind_no k ∷ []) Any
unfolding p_kind
kind_sound s x b e =
    on_read byte_sound s _ b e λ n t i _ b₁ e₁.
    let w = lift_sound (kind_of n) t x b₁ e₁ in
    record { is = cc (w.is, kind_no_lem n x.0 w.so); so = tt; rest = w.rest }

-- ---- marks and lists

-- Q holds of every element
abbrev pub All : {A : Type 0} → (A → Type 0) → List A → Type 0
All Q [] = Unit {0}
All Q (a ∷ l) = Q a × All Q l

module _ {A : Type 0} (f : A → List ℕ) (Q : A → Type 0) where
  -- each of the parsers reads behind its mark
  abbrev pub Each : ℕ → List (ℕ × Parser A) → Type 0
  Each m [] = Unit {0}
  Each m (c ∷ l) = Reads (m ∷ c.0 ∷ []) c.1 f Q × Each m l

  choose_sound : (m b : ℕ) (l : List (ℕ × Parser A)) → Each m l → Reads (m ∷ b ∷ []) (choose b l) f Q
  choose_sound m b [] r s x h e = no_some e
  choose_sound m b (c ∷ l) r s x h e =
      on_test (eqb b c.0) c.1 (choose b l) s e
      (λ t e₁. rw (eqb→eq b c.0 t) (r.0 s x h e₁))
      (λ e₁. choose_sound m b l r.1 s x h e₁)

  pub marked_sound : (m : ℕ) (l : List (ℕ × Parser A)) → Each m l → Reads [] (marked m l) f Q
  marked_sound m l r s x h e =
      on_read byte_sound s _ h e λ a t i _ h₁ e₁.
      on_read byte_sound t _ h₁ e₁ λ b u j _ h₂ e₂.
      on_test (eqb a m) (choose b l) _ u e₂
      (λ y e₃. let w = choose_sound m b l r u x h₂ e₃ in record { is = cc (eqb→eq a m y, w.is); so = w.so; rest = w.rest })
      no_some

  pub many_sound : (p : Parser A) → Reads [] p f Q → (n : ℕ) → Reads [] (many p n) (joined f) (λ l. (length l ≡ n) × All Q l)
  unfolding joined
  many_sound p r zero s x b e = gave e record { is = refl; so = (refl, tt); rest = b }
  many_sound p r (suc n) s x b e =
      on_read r s _ b e λ a t i q b₁ e₁.
      on_read (many_sound p r n) t _ b₁ e₁ λ l u j z b₂ e₂.
      gave e₂ record { is = cc (append_assoc (f a) (joined f l) u); so = (ap suc z.0, (q, z.1)); rest = b₂ }

-- ---- types

scalar_sound : Reads [] p_scalar_ty (λ k. ty_bytes (Ts k)) Any
unfolding p_scalar_ty ty_bytes
scalar_sound =
    marked_sound (λ k. ty_bytes (Ts k)) Any ‘T’ ((‘s’, p_kind) ∷ [])
    ((λ s x b e. let w = kind_sound s x b e in record { is = cc w.is; so = tt; rest = w.rest }), tt)

ts_sound : Reads (‘T’ ∷ ‘s’ ∷ []) p_ts ty_bytes Any
unfolding p_ts ty_bytes
ts_sound s x b e =
    on_read kind_sound s _ b e λ k t i _ b₁ e₁.
    gave e₁ record { is = cc; so = tt; rest = b₁ }

tv_sound : Reads (‘T’ ∷ ‘v’ ∷ []) p_tv ty_bytes Any
unfolding p_tv ty_bytes
tv_sound s x b e =
    on_read byte_sound s _ b e λ n t i _ b₁ e₁.
    on_read scalar_sound t _ b₁ e₁ λ k u j _ b₂ e₂.
    gave e₂ record { is = cc; so = tt; rest = b₂ }

tm_sound : Reads (‘T’ ∷ ‘m’ ∷ []) p_tm ty_bytes Any
unfolding p_tm ty_bytes
tm_sound s x b e =
    on_read byte_sound s _ b e λ c t i _ b₁ e₁.
    on_read byte_sound t _ b₁ e₁ λ r u j _ b₂ e₂.
    on_read scalar_sound u _ b₂ e₂ λ k v l _ b₃ e₃.
    gave e₃ record { is = cc; so = tt; rest = b₃ }

joined_tys : (l : List Ty) → (tys_bytes (tys_of l) ≡ joined ty_bytes l) × (length (tys_list (tys_of l)) ≡ length l)
unfolding tys_bytes tys_of joined tys_list
joined_tys [] = (refl, refl)
joined_tys (t ∷ l) = let r = joined_tys l in (ap (λ (m : List ℕ). ty_bytes t ++ m) r.0, ap suc r.1)

module _ {p : Parser Ty} (r : Reads [] p ty_bytes Any) where
  ta_sound : Reads (‘T’ ∷ ‘a’ ∷ []) (p_ta p) ty_bytes Any
  unfolding p_ta ty_bytes le
  ta_sound s x b e =
      on_read u16_sound s _ b e λ n u i _ b₁ e₁.
      on_read r u _ b₁ e₁ λ t v j _ b₂ e₂.
      gave e₂ record { is = cc; so = tt; rest = b₂ }

  tu_sound : Reads (‘T’ ∷ ‘u’ ∷ []) (p_tu p) ty_bytes Any
  unfolding p_tu ty_bytes le
  tu_sound s x b e =
      on_read u16_sound s _ b e λ i t j _ b₁ e₁.
      on_read u16_sound t _ b₁ e₁ λ n u k _ b₂ e₂.
      on_read (many_sound ty_bytes Any p r n) u _ b₂ e₂ λ l v m z b₃ e₃.
      let y = joined_tys l in
      gave e₃ record { is = rw (y.0, y.1, z.0) (cc); so = tt; rest = b₃ }

pub ty_sound : (d : ℕ) → Reads [] (p_ty d) ty_bytes Any
unfolding p_ty
ty_sound zero = λ s x b e. no_some e
ty_sound (suc d) =
    marked_sound ty_bytes Any ‘T’ ((‘s’, p_ts) ∷ (‘v’, p_tv) ∷ (‘m’, p_tm) ∷ (‘a’, p_ta (p_ty d)) ∷ (‘u’, p_tu (p_ty d)) ∷ [])
    (ts_sound, (tv_sound, (tm_sound, (ta_sound (ty_sound d), (tu_sound (ty_sound d), tt)))))
