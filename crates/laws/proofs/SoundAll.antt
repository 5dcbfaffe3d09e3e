-- What is read whole, of a list of bytes, is the writing of what was read: lists of records, and the target.
use mathlib.Core.Path.{◌≡◌, refl, ap, ◌∙◌, subst}
use mathlib.Core.Option.{Option, none, some}
use mathlib.Core.List.{List, [], ◌∷◌, ◌++◌, append-nil}
use mathlib.Core.Bool.{Bool}
use Prim.Native.Nat.{ℕ, zero, suc}
use lib.Dec.{T}
use lib.ListN.{length}
use Rattle.meaning.specs.Trees.{Val, Target, Qa}
use Rattle.meaning.specs.Records.{‘T’, ‘Q’, ‘a’, ‘v’, ‘m’, ‘r’, joined, val_bytes, target_bytes, good_val, good_target}
use Rattle.meaning.specs.Read.{Parser, give, p_of, p_tr, p_qv, p_qm, p_shape, p_runtime, whole, upto, if?, or?, p_val, read_target, read_val}
use Rattle.laws.proofs.Sound.{Bytes, Reads, Any, some_inj, no_some, on_some, on_read, on_if, gave, byte_sound, marked_sound}
use Rattle.laws.proofs.Sound.{ty_sound}
use Rattle.laws.proofs.SoundVal.{val_sound}

-- what passes a check is good
checked : {A : Type 0} (good : A → Bool) (o : Option A) (a : A) → if? good o ≡ some a → (o ≡ some a) × T (good a)
unfolding if?
checked good none a e = no_some e
checked good (some b) a e = on_if (good b) (some b) e λ h e₁. (e₁, subst (λ z. T (good z)) (some_inj e₁) h)

module _ {A : Type 0} {p : Parser A} {f : A → List ℕ} (r : Reads [] p f Any) where
  upto_sound : (n : ℕ) (s : List ℕ) (l : List A) → Bytes s → upto n p s ≡ some l → s ≡ joined f l
  unfolding upto joined
  upto_sound zero [] l b e = ap (joined f) (some_inj {x = []} e)
  upto_sound zero (c ∷ s) l b e = no_some e
  upto_sound (suc n) [] l b e = ap (joined f) (some_inj {x = []} e)
  upto_sound (suc n) (c ∷ s) l b e =
      on_read r (c ∷ s) _ b e λ a t i _ b₁ e₁.
      on_some (upto n p t) _ e₁ λ m e₂ e₃.
      i ∙ (ap (λ (u : List ℕ). f a ++ u) (upto_sound n t m b₁ e₂) ∙ ap (joined f) (some_inj e₃))

  -- records up to the end, tested together
  pub args_sound : (test : List A → Bool) (s : List ℕ) (l : List A) → Bytes s → if? test (upto (length s) p s) ≡ some l → (s ≡ joined f l)
      × T (test l)
  args_sound test s l b e = let y = checked test (upto (length s) p s) l e in (upto_sound (length s) s l b y.0, y.1)

  alone : (a x : A) (t : List ℕ) → elim t [ [] ↦ some a | b ∷ u ↦ none ] ≡ some x → f a ++ t ≡ f x
  alone a x [] e = append-nil (f a) ∙ ap f (some_inj e)
  alone a x (b ∷ t) e = no_some e

  whole_sound : (s : List ℕ) (x : A) → Bytes s → whole p s ≡ some x → s ≡ f x
  unfolding whole
  whole_sound s x b e = on_read r s _ b e λ a t i _ b₁ e₁. i ∙ alone a x t e₁

-- ---- the target

of_sound : Reads [] p_of target_bytes Any
unfolding p_of target_bytes
of_sound s x b e =
    on_read (ty_sound 16) s _ b e λ t u i _ b₁ e₁.
    gave e₁ record { is = i; so = tt; rest = b₁ }

tr_sound : Reads (‘T’ ∷ ‘r’ ∷ []) p_tr target_bytes Any
unfolding p_tr target_bytes
tr_sound s x b e =
    on_read (ty_sound 16) s _ b e λ t u i _ b₁ e₁.
    gave e₁ record { is = cc; so = tt; rest = b₁ }

runtime_sound : Reads [] p_runtime target_bytes Any
unfolding p_runtime
runtime_sound = marked_sound target_bytes Any ‘T’ ((‘r’, p_tr) ∷ []) (tr_sound, tt)

qv_sound : Reads (‘Q’ ∷ ‘v’ ∷ []) p_qv target_bytes Any
unfolding p_qv target_bytes
qv_sound s x b e =
    on_read byte_sound s _ b e λ n t i _ b₁ e₁.
    gave e₁ record { is = cc; so = tt; rest = b₁ }

qm_sound : Reads (‘Q’ ∷ ‘m’ ∷ []) p_qm target_bytes Any
unfolding p_qm target_bytes
qm_sound s x b e =
    on_read byte_sound s _ b e λ c t i _ b₁ e₁.
    on_read byte_sound t _ b₁ e₁ λ r u j _ b₂ e₂.
    gave e₂ record { is = cc; so = tt; rest = b₂ }

shape_sound : Reads [] p_shape target_bytes Any
unfolding p_shape target_bytes
shape_sound =
    marked_sound target_bytes Any ‘Q’ ((‘a’, give Qa) ∷ (‘v’, p_qv) ∷ (‘m’, p_qm) ∷ [])
    ((λ s x b e. gave e record { is = refl; so = tt; rest = b }), (qv_sound, (qm_sound, tt)))

on_or : {A P : Type 0} {x : A} (o q : Option A) → or? o q ≡ some x → (o ≡ some x → P) → (q ≡ some x → P) → P
on_or none q e c d = d e
on_or (some a) q e c d = c e

pub target_sound : (s : List ℕ) (g : Target) → Bytes s → read_target s ≡ some g → (s ≡ target_bytes g) × T (good_target g)
unfolding read_target
target_sound s g b e =
    let y = checked good_target (or? (whole p_shape s) (or? (whole p_runtime s) (whole p_of s))) g e in (
      on_or (whole p_shape s) _ y.0 (whole_sound shape_sound s g b) λ e₁.
          on_or (whole p_runtime s) _ e₁ (whole_sound runtime_sound s g b) (whole_sound of_sound s g b),
      y.1,
    )

-- ---- one value alone

pub value_sound : (s : List ℕ) (v : Val) → Bytes s → read_val s ≡ some v → (s ≡ val_bytes v) × T (good_val v)
unfolding read_val
value_sound s v b e = let y = checked good_val (whole (p_val 16) s) v e in (whole_sound (val_sound 16) s v b y.0, y.1)
