-- The third demand, as one statement over target, stage and the whole argument list.
use Rattle.std.specs.Prelude.{◌≡◌, List, [], ◌∷◌, ◌++◌, map, Bool, true, false, not, ◌&&◌, cond, ℕ, T, leb, eqb, length, replicate}
use Rattle.std.proofs.Math.Option.{Option, none, some}
use Rattle.meaning.specs.Kinds.{Kind, is_abstract}
use Rattle.meaning.specs.Scalars.{Stage, fits_conv, fits_ctor}
use Rattle.meaning.specs.Trees.{Ty, Ts, Tv, Tm, Ta, Tu, Tys, [·], ◌▸◌, Val, Vs, Vv, Vm, Va, Vu, Vals, ⟨⟩, ◌▹◌, Target, Of, Tr, Qa, Qv, Qm}
use Rattle.meaning.specs.Trees.{type_of, leaf, tys_list, val_len}
use Rattle.meaning.specs.Answers.{Result, ok, no, miscount, Answer}
use Rattle.meaning.specs.Records.{ty_bytes, val_bytes, target_bytes, joined, every, good_target, good_args, good_val}
use Rattle.meaning.specs.Typing.{typed}
use Rattle.meaning.specs.Entries.{build_answer, type_answer, stage_of}

-- no abstract kind in a type
unfoldable mutual
  pub concrete : Ty → Bool
  concrete (Ts k) = not (is_abstract k)
  concrete (Tv n k) = not (is_abstract k)
  concrete (Tm c r k) = not (is_abstract k)
  concrete (Ta n t) = concrete t
  concrete (Tu i m) = concretes m

  pub concretes : Tys → Bool
  concretes [·] = true
  concretes (t ▸ m) = concrete t && concretes m

unfoldable pub in_scope : Target → Bool
in_scope (Of t) = concrete t
in_scope (Tr t) = false
in_scope Qa = true
in_scope (Qv n) = true
in_scope (Qm c r) = true

-- the literals of a value, alone or as components
unfoldable mutual
  pub literals : Val → List (Kind × ℕ)
  literals (Vs k p) = (k, p) ∷ []
  literals (Vv k ps) = map (λ p. (k, p)) ps
  literals (Vm c r k ps) = map (λ p. (k, p)) ps
  literals (Va l) = literals_of l
  literals (Vu i l) = literals_of l

  pub literals_of : Vals → List (Kind × ℕ)
  literals_of ⟨⟩ = []
  literals_of (v ▹ m) = literals v ++ literals_of m

-- where n arguments land in the type named
unfoldable pub lands : Ty → ℕ → List Ty
lands (Ts k) n = replicate n (Ts k)
lands (Tv m k) n = replicate n (Ts k)
lands (Tm c r k) n = replicate n (Ts k)
lands (Ta m t) n = replicate n t
lands (Tu i m) n = tys_list m

-- whether a scalar constructor makes the literals: a scalar target, one vector into a vector type, one matrix into a matrix type
unfoldable pub by_ctor_one : Ty → Ty → Bool
by_ctor_one (Ts k) a = true
by_ctor_one (Tv n k) (Ts j) = false
by_ctor_one (Tv n k) (Tv m j) = true
by_ctor_one (Tv n k) (Tm c r j) = false
by_ctor_one (Tv n k) (Ta m t) = false
by_ctor_one (Tv n k) (Tu i m) = false
by_ctor_one (Tm c r k) (Ts j) = false
by_ctor_one (Tm c r k) (Tv m j) = false
by_ctor_one (Tm c r k) (Tm a b j) = true
by_ctor_one (Tm c r k) (Ta m t) = false
by_ctor_one (Tm c r k) (Tu i m) = false
by_ctor_one (Ta n t) a = false
by_ctor_one (Tu i m) a = false

unfoldable pub by_ctor : Target → List Val → Bool
by_ctor (Of t) [] = false
by_ctor (Of t) (v ∷ []) = by_ctor_one t (type_of v)
by_ctor (Of t) (v ∷ w ∷ l) = false
by_ctor (Tr t) l = false
by_ctor Qa l = false
by_ctor (Qv n) l = false
by_ctor (Qm c r) l = false

-- "a literal .. fits if the step it meets takes it": the constructor's 15, and 21 at Const and Override (request 03),
-- or the test under conversion, which no stage changes
unfoldable pub lit_fits : Bool → Stage → Kind → Kind × ℕ → Bool
lit_fits true s k a = fits_ctor s k a.0 a.1
lit_fits false s k a = fits_conv k a.0 a.1

unfoldable pub fits_leaf : Bool → Stage → Option Kind → Val → Bool
fits_leaf b s none v = true
fits_leaf b s (some k) v = every (lit_fits b s k) (literals v)

unfoldable pub fits_in : Bool → Stage → List Ty → List Val → Bool
fits_in b s [] l = true
fits_in b s (t ∷ m) l = elim l [ [] ↦ true | v ∷ vs ↦ fits_leaf b s (leaf t) v && fits_in b s m vs ]

-- a counted array given any arguments has as many as it counts
unfoldable pub counted : Target → List Val → Bool
counted g [] = true
counted (Of (Ts k)) (v ∷ l) = true
counted (Of (Tv n k)) (v ∷ l) = true
counted (Of (Tm c r k)) (v ∷ l) = true
counted (Of (Ta n t)) (v ∷ l) = eqb (length (v ∷ l)) n
counted (Of (Tu i m)) (v ∷ l) = true
counted (Tr t) (v ∷ l) = true
counted Qa (v ∷ l) = true
counted (Qv n) (v ∷ l) = true
counted (Qm c r) (v ∷ l) = true

-- nothing stops the build: t is the type named
unfoldable pub nothing_stops : Stage → Target → Ty → List Val → Bool
nothing_stops s g t l = fits_in (by_ctor g l) s (lands t (length l)) l && counted g l

unfoldable pub refused : {A : Type 0} → Result A → Bool
refused (ok a) = false
refused (no n) = true
refused (miscount w g) = true

-- typing's buffer takes the type named, building's a value of it; where the rules accept nothing any will do
unfoldable pub long_enough : ℕ → ℕ → Result Ty → Bool
long_enough roomT roomB (ok t) = leb (length (ty_bytes t)) roomT && leb (val_len t) roomB
long_enough roomT roomB (no n) = true
long_enough roomT roomB (miscount w g) = true

-- a value came back, whose type is the record that typing gave
pub record Returned (typing building : Answer) : Type 0 where
  pub value : Val
  pub good : T (good_val value)
  pub built : building ≡ ok (val_bytes value)
  pub told : typing ≡ ok (ty_bytes (type_of value))

pub record Both (typing building : Answer) : Type 0 where
  pub untyped : T (refused typing)
  pub unbuilt : T (refused building)

unfoldable pub Agree : Stage → Target → List Val → Result Ty → Answer → Answer → Type 0
Agree s g l (ok t) typing building = cond (nothing_stops s g t l) (Returned typing building) (T (refused building))
Agree s g l (no n) typing building = Both typing building
Agree s g l (miscount w h) typing building = Both typing building

unfoldable pub Demand3 : Type 0
Demand3 =
    (stage : ℕ) (s : Stage) → stage_of stage ≡ some s
    → (g : Target) → T (good_target g) → T (in_scope g)
    → (l : List Val) → T (good_args g l)
    → (roomT roomB : ℕ) → T (long_enough roomT roomB (typed g (map type_of l)))
    → Agree s g l (typed g (map type_of l))
    (type_answer (target_bytes g) (joined ty_bytes (map type_of l)) roomT)
    (build_answer stage (target_bytes g) (joined val_bytes l) roomB)
