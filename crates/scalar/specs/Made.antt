-- The scalar constructors over the items of a record, and over one argument (document 01, scalar constructors): "one
-- literal of any kind", and "the scalar constructor on each component" of a vector or a matrix.
use Rattle.std.specs.Prelude.{◌≡◌, List, [], ◌∷◌, not, ℕ, ◌+◌, ◌≤◌, T, length, get_or, IfOk}
use mathlib.Core.Path.{refl, sym, ap, ◌∙◌}
use mathlib.Core.HLevel.{is_prop→PathP}
use native.Mathlib.Nat.{ℕ_set}
use native.Mathlib.Omega.{arith}
use Rattle.meaning.specs.Kinds.{Kind, kind_no, kind_of, is_abstract}
use Rattle.meaning.specs.Scalars.{Stage}
use Rattle.meaning.specs.Trees.{Ts, Val, Vs}
use Rattle.meaning.specs.Records.{good_lit}
use Rattle.meaning.specs.Answers.{Result, ok, ◌>>=◌, all, refusal_of}
use Rattle.meaning.specs.Build.{ctor_lit, build_one}
use Rattle.laws.proofs.AgreeLit.{kind_back}
use Rattle.laws.proofs.Sound.{some_inj}
use Rattle.error.specs.Refusals.{number}
use Rattle.std.specs.declared.result.Result.TheVariants.{Ok, Err}
use Rattle.literal.specs.LiteralAnswers.{Made, rules_of, refusal_for, WhenTo}
use Rattle.literal.specs.declared.Unmade.{Unmade}
use Rattle.std.specs.declared.result.Result.{Result as Outcome}
use Rattle.literal.specs.declared.Rules.{Rules}
use Rattle.record.specs.Bytes.{Put, number_at}
use Rattle.conv.specs.Items.{Item, Literal, Vector, Matrix, Array, item_bytes, bytes_of, ItemAt, ItemsAt, EndIs}
use Rattle.args.specs.Row.{Row, Given, SomeGiven}
use Rattle.args.specs.Values.{some_given_prop}
use Rattle.error.specs.Told.{Builds}
use Rattle.record.specs.Literals.{width_of}
use Rattle.error.specs.Told.{Written}

-- a literal goes through the constructor of the kind k; a mark stays
unfoldable pub make_item : Stage → Kind → Item → Result Item
make_item s k (Literal j p) = ctor_lit s k j p >>= λ q. ok (Literal k q)
make_item s k (Vector n) = ok (Vector n)
make_item s k (Matrix c r) = ok (Matrix c r)
make_item s k (Array n) = ok (Array n)

-- each in order, up to the first refusal
abbrev pub make_items : Stage → Kind → List Item → Result (List Item)
make_items s k l = all (make_item s k) l

-- the number of the refusal, and 0 where something was made
abbrev pub number_in : {A : Type 0} → Outcome A Unmade → ℕ
number_in (Ok a) = 0
number_in (Err u) = number (refusal_for u)

-- ---- one item

-- the rules are those of the stage s, and k is the number of the kind j; no constructor is an abstract kind's
pub record Ctor (rules : Rules) (k : ℕ) (s : Stage) (j : Kind) : Type 0 where
  pub ruled : rules ≡ rules_of s
  pub no : k ≡ kind_no j
  pub concrete : T (not (is_abstract j))

-- what the constructor of the kind with the number k answers to the literal whose record stands at i; by the numbers in the record
abbrev pub MadeAt : Rules → ℕ → List ℕ → ℕ → Made → Type 0
MadeAt rules k src i r = let j = get_or src (i + 2) 0 in WhenTo rules k j (number_at src (i + 3) (width_of j)) r

-- the item goes through that constructor, and ends there, or it is refused
pub record ItemMade (rules : Rules) (k : ℕ) (src : List ℕ) (i : ℕ) (r : Outcome ℕ Unmade) : Type 0 where
  pub made : (s : Stage) (j : Kind) (a : Item) → Ctor rules k s j → ItemAt src i a → number_in r ≡ refusal_of (make_item s j a)
  pub ends : IfOk r (EndIs src i)

pub record ItemRoom (rules : Rules) (k : ℕ) (src : List ℕ) (i : ℕ) (out : List ℕ) (to : ℕ) : Type 0 where
  pub at : Stage
  pub kind : Kind
  pub ctor : Ctor rules k at kind
  pub item : Item
  pub into : Item
  pub stands : ItemAt src i item
  pub goes : make_item at kind item ≡ ok into
  pub room : to + length (item_bytes into) ≤ length out

abbrev pub ItemPut : Rules → ℕ → List ℕ → ℕ → List ℕ → ℕ → ℕ → List ℕ → Type 0
ItemPut rules k src i out to r out' =
    (s : Stage) (j : Kind) (a b : Item) → Ctor rules k s j → ItemAt src i a → make_item s j a ≡ ok b → Put out to (item_bytes b) r out'

-- ---- several

abbrev pub AllMade : Rules → ℕ → List ℕ → ℕ → ℕ → Outcome (Unit {0}) Unmade → Type 0
AllMade rules k src from e r = (s : Stage) (j : Kind) (l : List Item) → Ctor rules k s j → ItemsAt src from e l
    → number_in r ≡ refusal_of (make_items s j l)

pub record Makeable (rules : Rules) (k : ℕ) (src : List ℕ) (from e : ℕ) (out : List ℕ) (to : ℕ) : Type 0 where
  pub at : Stage
  pub kind : Kind
  pub ctor : Ctor rules k at kind
  pub items : List Item
  pub intos : List Item
  pub stands : ItemsAt src from e items
  pub goes : make_items at kind items ≡ ok intos
  pub room : to + length (bytes_of intos) ≤ length out

abbrev pub Makes : Rules → ℕ → List ℕ → ℕ → ℕ → List ℕ → ℕ → ℕ → List ℕ → Type 0
Makes rules k src from e out to r out' =
    (s : Stage) (j : Kind) (l m : List Item) → Ctor rules k s j → ItemsAt src from e l → make_items s j l ≡ ok m
    → Put out to (bytes_of m) r out'

-- ---- one argument

-- the number k is a kind's
pub record SomeKind (k : ℕ) : Type 0 where
  pub kind : Kind
  pub no : k ≡ kind_no kind

-- in one way at most, so a struct may hold that fact
pub some_kind_prop : (k : ℕ) → IsProp (SomeKind k)
some_kind_prop k x y =
    let same : x.kind ≡ y.kind = some_inj (sym (kind_back x.kind) ∙ (ap kind_of (sym x.no ∙ y.no) ∙ kind_back y.kind)) in
    λ i. record { kind = same i; no = is_prop→PathP (λ j. k ≡ kind_no (same j)) (λ j. ℕ_set _ _) x.no y.no i }

-- all of s is the record of one well-formed value
pub record OneArg (s : List ℕ) : Type 0 where
  pub value : Val
  pub row : Row s 0 (value ∷ [])

-- that value is the arguments of a call with one, and the one of them is that value
unfoldable pub one_given : {s : List ℕ} → OneArg s → SomeGiven s 1
one_given x = record { values = x.value ∷ []; given = record { row = x.row; count = refl } }

unfoldable only : {s : List ℕ} {n : ℕ} → n ≡ 1 → (l : List Val) → Given s n l → OneArg s
only h [] g = absurd (omega (arith, g.count))
only h (v ∷ []) g = record { value = v; row = g.row }
only h (v ∷ u ∷ l) g = absurd (omega (arith, g.count))

unfoldable pub given_one : {s : List ℕ} {n : ℕ} → SomeGiven s n → n ≡ 1 → OneArg s
unfolding only
given_one x h = only h x.values x.given

-- the bytes say which arguments they are, so a struct may hold that fact too
pub one_arg_prop : (s : List ℕ) → IsProp (OneArg s)
unfolding one_given only given_one
one_arg_prop s x y = ap (λ g. given_one g refl) (some_given_prop s 1 (one_given x) (one_given y))

-- a payload is handed over as a literal of the kind with the number k, where it is one of the kind's
abbrev pub Handed : ℕ → ℕ → List ℕ → Written → List ℕ → Type 0
Handed k q out r out' = (j : Kind) → k ≡ kind_no j → T (good_lit j q) → Builds (ok (Vs j q)) out r out'

-- "one literal of any kind" to the scalar type of the kind with the number k
abbrev pub ScalarTold : Rules → ℕ → List ℕ → List ℕ → Written → List ℕ → Type 0
ScalarTold rules k args out r out' =
    (s : Stage) (j : Kind) (v : Val) → rules ≡ rules_of s → k ≡ kind_no j → Row args 0 (v ∷ []) → Builds (build_one s (Ts j) v) out r out'
