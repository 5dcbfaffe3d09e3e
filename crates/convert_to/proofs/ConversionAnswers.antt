-- From the target that was read to the answer.
use mathlib.Core.Path.{◌≡◌, refl, sym, ap, subst}
use mathlib.Core.Option.{Option, none, some}
use mathlib.Core.List.{List}
use mathlib.Core.Bool.{true, false}
use Prim.Native.Nat.{ℕ}
use lib.Dec.{T}
use Rattle.meaning.specs.Trees.{Ty, Target, Of, Tr, Qa, Qv, Qm}
use Rattle.meaning.specs.Read.{read_target, read_vals}
use Rattle.meaning.specs.Answers.{Result, ok, no, Answer, or_no, ◌>>=◌, ◌>>◌}
use Rattle.meaning.specs.Entries.{hand_val, type_target, only, conv_one, convert_answer}
use Rattle.ty.specs.declared.Target as ty
use Rattle.ty.specs.declared.Target.TheVariants.{«Type», Runtime, Array, Vector, Matrix}
use Rattle.ty.specs.Targets.{TypeIs, Meant}
use Rattle.convert_to.specs.Conversions.{convert_read, is_shape}

-- ---- what the target is

module _ (s : List ℕ) where
  -- a shape, to which no value converts
  pub shape_read : (f : ty.Target) → is_shape f ≡ true → Meant s f → (g : Target) × (read_target s ≡ some g) × (type_target g ≡ no 1)
  unfolding type_target
  shape_read «Type» h m = absurd (subst T (sym h) tt)
  shape_read Runtime h m = absurd (subst T (sym h) tt)
  shape_read Array h m = (Qa, m, refl)
  shape_read (Vector n) h m = (Qv n, m.0, refl)
  shape_read (Matrix c r) h m = (Qm c r, m.0, refl)

  -- a type, or a runtime-sized array
  pub no_shape_read : (f : ty.Target) → is_shape f ≡ false → Meant s f → (g : Target) × (read_target s ≡ some g) × (type_target g ≡ ok tt)
  unfolding type_target
  no_shape_read «Type» h m = (Of m.type, m.reads, refl)
  no_shape_read Runtime h m = (Tr m.type, m.reads, refl)
  no_shape_read Array h m = absurd (subst T h tt)
  no_shape_read (Vector n) h m = absurd (subst T h tt)
  no_shape_read (Matrix c r) h m = absurd (subst T h tt)

  pub type_only : {f : ty.Target} → is_shape f ≡ false → (f ≡ Runtime → ⊥) → Meant s f → TypeIs s
  type_only {f = «Type»} h n m = m
  type_only {f = Runtime} h n m = absurd (n refl)
  type_only {f = Array} h n m = absurd (subst T h tt)
  type_only {f = Vector n'} h n m = absurd (subst T h tt)
  type_only {f = Matrix c r} h n m = absurd (subst T h tt)

-- ---- the answer

module _ (s args : List ℕ) (room : ℕ) where
  pub read_answer : {g : Target} → read_target s ≡ some g → type_target g ≡ ok tt → convert_answer s args room ≡ convert_read g args room
  unfolding convert_answer convert_read
  read_answer e h = rw (e, h)

  pub no_answer : {o : Option Target} → read_target s ≡ o → (or_no 1 o >>= type_target) ≡ no 1 → convert_answer s args room ≡ no 1
  unfolding convert_answer
  no_answer {o} e h = rw e (go o h)
    where
      go : (o : Option Target) → (or_no 1 o >>= type_target) ≡ no 1
          → ◌≡◌ {A = Answer} (or_no 1 o >>= λ g. type_target g >>
          (or_no 2 (read_vals g args) >>= λ l. only l >>= λ v. conv_one g v >>= hand_val room)) (no 1)
      go none h = refl
      go (some g) h = ap (λ (r : Result (Unit {0})). r >> (or_no 2 (read_vals g args) >>= λ l. only l >>= λ v. conv_one g v >>= hand_val room))
          h
