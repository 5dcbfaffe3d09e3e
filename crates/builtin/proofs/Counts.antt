-- None, one or more arguments.
use mathlib.Core.Path.{◌≡◌, refl}
use mathlib.Core.Bool.{true, false}
use mathlib.Core.List.{List, [], ◌∷◌}
use Prim.Native.Nat.{ℕ, ◌≤◌}
use native.Mathlib.Omega.{arith}
use lib.ListN.{length}
use Rattle.meaning.specs.Kinds.{Kind, is_abstract}
use Rattle.meaning.specs.Scalars.{Stage}
use Rattle.meaning.specs.Trees.{Ty, Ts, Ta, Tu, Tys, Tr, Qa, Val, Of}
use Rattle.meaning.specs.Answers.{Result, no}
use Rattle.meaning.specs.Build.{build, build_one, build_more, array_of, struct_of, runtime_of, qa_of}
use Rattle.args.specs.Row.{Row, Given}
use Rattle.error.specs.Told.{Builds}
use Rattle.error.specs.Told.{Written}

module _ (P : List Val → Type 0) {args : List ℕ} {n : ℕ} (l : List Val) (g : Given args n l) where
  pub on_none : n ≡ 0 → P [] → P l
  on_none h p = go l g.count p
    where
      go : (l : List Val) → n ≡ length l → P [] → P l
      go [] c p = p
      go (v ∷ l) c p = absurd (omega arith)

  pub on_one : n ≡ 1 → ((v : Val) → Row args 0 (v ∷ []) → P (v ∷ [])) → P l
  on_one h f = go l g.row g.count
    where
      go : (l : List Val) → Row args 0 l → n ≡ length l → P l
      go [] w c = absurd (omega arith)
      go (v ∷ []) w c = f v w
      go (v ∷ u ∷ l) w c = absurd (omega arith)

  pub on_more : 2 ≤ n → ((v u : Val) (m : List Val) → Given args n (v ∷ u ∷ m) → P (v ∷ u ∷ m)) → P l
  on_more h f = go l g
    where
      go : (l : List Val) → Given args n l → P l
      go [] x = absurd (omega (arith, x.count))
      go (v ∷ []) x = absurd (omega (arith, x.count))
      go (v ∷ u ∷ m) x = f v u m x

-- what is built of none, of one and of more
module _ (f : List Val → Result Val) {args : List ℕ} {n : ℕ} (l : List Val) (g : Given args n l) {out : List ℕ} {r : Written}
    {out' : List ℕ} where
  pub builds_none : n ≡ 0 → Builds (f []) out r out' → Builds (f l) out r out'
  builds_none h b = on_none (λ m. Builds (f m) out r out') l g h b

  pub builds_one : n ≡ 1 → ((v : Val) → Row args 0 (v ∷ []) → Builds (f (v ∷ [])) out r out') → Builds (f l) out r out'
  builds_one h b = on_one (λ m. Builds (f m) out r out') l g h b

  pub builds_more : 2 ≤ n → ((v u : Val) (m : List Val) → Given args n (v ∷ u ∷ m) → Builds (f (v ∷ u ∷ m)) out r out')
      → Builds (f l) out r out'
  builds_more h b = on_more (λ m. Builds (f m) out r out') l g h b

-- a scalar with more: 4 for an abstract one, else 5
pub more_abstract : (k : Kind) → is_abstract k ≡ true → (v : Val) (l : List Val) → build_more (Ts k) v l ≡ no 4
unfolding build_more
more_abstract k h v l = rw h

pub more_concrete : (k : Kind) → is_abstract k ≡ false → (v : Val) (l : List Val) → build_more (Ts k) v l ≡ no 5
unfolding build_more
more_concrete k h v l = rw h

-- an array, a struct and the shape of an array are built alike from one argument and from more
pub array_build : (s : Stage) (n : ℕ) (t : Ty) (l : List Val) → {c : ℕ} → c ≡ length l → 1 ≤ c → build s (Of (Ta n t)) l ≡ array_of n t l
unfolding build build_one build_more
array_build s n t [] e h = absurd (omega arith)
array_build s n t (v ∷ []) e h = refl
array_build s n t (v ∷ u ∷ l) e h = refl

pub struct_build : (s : Stage) (i : ℕ) (m : Tys) (l : List Val) → {c : ℕ} → c ≡ length l → 1 ≤ c → build s (Of (Tu i m)) l ≡ struct_of i m l
unfolding build build_one build_more
struct_build s i m [] e h = absurd (omega arith)
struct_build s i m (v ∷ []) e h = refl
struct_build s i m (v ∷ u ∷ l) e h = refl

pub runtime_build : (s : Stage) (t : Ty) (l : List Val) → {c : ℕ} → c ≡ length l → 1 ≤ c → build s (Tr t) l ≡ runtime_of t l
unfolding build
runtime_build s t [] e h = absurd (omega arith)
runtime_build s t (v ∷ l) e h = refl

pub qa_build : (s : Stage) (l : List Val) → {c : ℕ} → c ≡ length l → 1 ≤ c → build s Qa l ≡ qa_of l
unfolding build
qa_build s [] e h = absurd (omega arith)
qa_build s (v ∷ l) e h = refl
