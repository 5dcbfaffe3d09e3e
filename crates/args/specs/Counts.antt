-- The arguments of a call: records one after another, up to the end of the bytes.
use Rattle.std.specs.Prelude.{◌≡◌, Bool, true, false, List, ℕ, ◌+◌, ◌-◌, ◌≤◌, T, length, drop}
use Rattle.std.proofs.Math.Option.{Option as Maybe, none, some}
use Rattle.meaning.specs.Trees.{Ty, Val, Target, Of, Tr, Qa, Qv, Qm, type_of}
use Rattle.meaning.specs.Records.{ty_bytes, val_bytes, joined, shaped_val, good_within}
use Rattle.laws.proofs.Sound.{All}
use Rattle.ty.specs.declared.Target as ty
use Rattle.ty.specs.declared.Target.TheVariants.{«Type», Runtime, Array, Vector, Matrix}
use Rattle.inst.specs.Values.{Typed}
use Rattle.std.specs.declared.option.Option.{Option}
use Rattle.std.specs.declared.option.Option.TheVariants.{None, Some}

-- "for `Qa` each argument's type has depth at most 14 and at most 4,092 bytes"
abbrev pub is_qa : Target → Bool
is_qa (Of t) = false
is_qa (Tr t) = false
is_qa Qa = true
is_qa (Qv n) = false
is_qa (Qm c r) = false

-- the same of a target as it is answered
abbrev pub is_tight : ty.Target → Bool
is_tight «Type» = false
is_tight Runtime = false
is_tight Array = true
is_tight (Vector n) = false
is_tight (Matrix c r) = false

abbrev pub depth_for : Bool → ℕ
depth_for true = 14
depth_for false = 15

abbrev pub bytes_for : Bool → ℕ
bytes_for true = 4092
bytes_for false = 4096

-- how many were read, or that they are malformed
unfoldable pub args_of : {A : Type 0} → Maybe (List A) → Option ℕ
args_of none = None
args_of (some l) = Some (length l)

-- k records from i on up to the end, of items of which P holds
pub record Rests {A : Type 0} (write : A → List ℕ) (P : A → Type 0) (s : List ℕ) (i k : ℕ) : Type 0 where
  pub items : List A
  pub here : drop i s ≡ joined write items
  pub each : All P items
  pub count : length items ≡ k

-- what is left at i when n were read: the number of all is n more
pub record Left {A : Type 0} (write : A → List ℕ) (P : A → Type 0) (s : List ℕ) (i n : ℕ) : Type 0 where
  pub within : i ≤ length s
  pub few : n ≤ 65535
  pub more : (k : ℕ) → Rests write P s i k → Rests write P s 0 (n + k)
  pub less : (k : ℕ) → Rests write P s 0 k → (n ≤ k) × Rests write P s i (k - n)

abbrev pub ValueArg : ℕ → ℕ → Val → Type 0
ValueArg d m v = T (shaped_val v) × T (good_within d m (type_of v))

abbrev pub TypeArg : ℕ → ℕ → Ty → Type 0
TypeArg d m t = T (good_within d m t)

-- a number of at most 65,535 of which X holds, or that there is none
abbrev pub Counts : (ℕ → Type 0) → Option ℕ → Type 0
Counts X (Some n) = X n × (n ≤ 65535)
Counts X None = (k : ℕ) → k ≤ 65535 → X k → ⊥

-- ---- arguments whose types have no parts of many kinds: scalars, vectors and matrices

-- one that stands at `at` and ends at e; its type is within the limits of every target
pub record FlatIs (s : List ℕ) (at e : ℕ) : Type 0 where
  pub type : Ty
  pub typed : Typed 2 s at type e
  pub short : length (ty_bytes type) ≤ 7

-- nothing is said where none was found: the argument is then read in full
abbrev pub Flat : List ℕ → ℕ → Option ℕ → Type 0
Flat s at (Some e) = FlatIs s at e
Flat s at None = Unit {0}

-- the first n arguments are such, and end at i
abbrev pub FlatLeft : List ℕ → ℕ → ℕ → Type 0
FlatLeft s i n = (d m : ℕ) → 2 ≤ d → 7 ≤ m → Left val_bytes (ValueArg d m) s i n
