-- Literals: a scalar constructor and a conversion give a payload of the kind exactly where the literal fits.
use mathlib.Core.Path.{◌≡◌, refl, sym, ap, ◌∙◌, subst}
use mathlib.Core.Option.{Option, none, some}
use mathlib.Core.Bool.{Bool, true, false, not, ◌&&◌, ◌||◌, cond}
use Prim.Native.Nat.{ℕ, ◌+◌, ◌*◌, ◌-◌, ◌^◌, ◌/◌, ◌<◌, min}
use native.Mathlib.Nat.{mod-lt}
use native.Mathlib.Omega.{arith}
use lib.Dec.{T, eqb, eqb→eq, ltb→lt, lt→ltb, lit<}
use Rattle.meaning.specs.Kinds.{Kind, bool, aint, afloat, i32, u32, f32, f16, kind_no, kind_of, same_kind, payloads, is_abstract, kind_rank}
use Rattle.meaning.specs.Floats.{binary16, binary32, binary64, Num, nan, inf, fin, bits, packed, ones, hid, top}
use Rattle.meaning.specs.Scalars.{Stage, ctor_test, ctor_bits, fits_ctor, fits_conv, conv, conv_fits, conv_bits, some?, toward, wrap, hi_of}
use Rattle.meaning.specs.Scalars.{lo_of, keeps_bits, number, nonzero}
use Rattle.meaning.specs.Answers.{Result, ok, ◌>>◌, need}
use Rattle.meaning.specs.Records.{good_lit}
use Rattle.meaning.specs.Build.{ctor_lit}
use Rattle.laws.specs.Demand.{refused}

pub kind_back : (k : Kind) → kind_of (kind_no k) ≡ some k
unfolding kind_of kind_no
kind_back bool = refl
kind_back aint = refl
kind_back afloat = refl
kind_back i32 = refl
kind_back u32 = refl
kind_back f32 = refl
kind_back f16 = refl

some_inj : {j k : Kind} → ◌≡◌ {A = Option Kind} (some j) (some k) → j ≡ k
some_inj h = cc

pub same_kind_lem : (j k : Kind) → T (same_kind j k) → j ≡ k
unfolding same_kind
same_kind_lem j k h = some_inj (sym (kind_back j) ∙ (ap kind_of (eqb→eq (kind_no j) (kind_no k) h) ∙ kind_back k))

-- ---- ranges

-- every pattern that a number is rounded to is below twice the sign's weight
module _ (p emax : ℕ) (h : ones emax * hid p + hid p / 2 < top p emax) where
  signed_lt : (s : Bool) (b : ℕ) → b < top p emax → cond s (top p emax) 0 + b < top p emax + top p emax
  signed_lt true b l = omega arith
  signed_lt false b l = omega arith

  bits_lt : (x : Num) → bits p emax x < top p emax + top p emax
  unfolding bits packed
  bits_lt nan = omega arith
  bits_lt (inf s) = signed_lt s (ones emax * hid p) (omega arith)
  bits_lt (fin s n) = signed_lt s (packed p emax n) (omega arith)

pub bits16 : (x : Num) → T (good_lit f16 (binary16 bits x))
unfolding good_lit payloads
bits16 x = lt→ltb (binary16 bits x) (2 ^ 16) (bits_lt 11 15 (lit< tt) x)

pub bits32 : (x : Num) → T (good_lit f32 (binary32 bits x))
unfolding good_lit payloads
bits32 x = lt→ltb (binary32 bits x) (2 ^ 32) (bits_lt 24 127 (lit< tt) x)

pub bits64 : (x : Num) → T (good_lit afloat (binary64 bits x))
unfolding good_lit payloads
bits64 x = lt→ltb (binary64 bits x) (2 ^ 64) (bits_lt 53 1023 (lit< tt) x)

wrap_lt : (s : Bool) (n : ℕ) → n < 2 ^ 32 → wrap s n < 2 ^ 32
unfolding wrap
wrap_lt true n h = mod-lt (2 ^ 32 - n) (lit< tt)
wrap_lt false n h = h

min_lt : (a b n : ℕ) → b < n → min a b < n
min_lt a b n h = omega arith

pub toward_lt : (lo hi : ℕ) (x : Num) → lo < 2 ^ 32 → hi < 2 ^ 32 → toward lo hi x < 2 ^ 32
unfolding toward
toward_lt lo hi nan l h = lit< tt
toward_lt lo hi (inf true) l h = wrap_lt true lo l
toward_lt lo hi (inf false) l h = wrap_lt false hi h
toward_lt lo hi (fin true n) l h = wrap_lt true (min (n / 2 ^ 1074) lo) (min_lt (n / 2 ^ 1074) lo (2 ^ 32) l)
toward_lt lo hi (fin false n) l h = wrap_lt false (min (n / 2 ^ 1074) hi) (min_lt (n / 2 ^ 1074) hi (2 ^ 32) h)

-- the payload that a constructor makes is one of its kind
ends : (j : Kind) → (lo_of j < 2 ^ 32) × (hi_of (2 ^ 31 - 1) 2147483520 j < 2 ^ 32) × (hi_of (2 ^ 32 - 1) 4294967040 j < 2 ^ 32)
unfolding lo_of hi_of same_kind kind_no
ends bool = (lit< tt, lit< tt, lit< tt)
ends aint = (lit< tt, lit< tt, lit< tt)
ends afloat = (lit< tt, lit< tt, lit< tt)
ends i32 = (lit< tt, lit< tt, lit< tt)
ends u32 = (lit< tt, lit< tt, lit< tt)
ends f32 = (lit< tt, lit< tt, lit< tt)
ends f16 = (lit< tt, lit< tt, lit< tt)

kept : (j : Kind) (p : ℕ) → T (good_lit j p) → T (keeps_bits j) → p < 2 ^ 32
unfolding keeps_bits same_kind kind_no good_lit payloads
kept bool p g h = absurd h
kept aint p g h = absurd h
kept afloat p g h = absurd h
kept i32 p g h = ltb→lt p (2 ^ 32) g
kept u32 p g h = ltb→lt p (2 ^ 32) g
kept f32 p g h = absurd h
kept f16 p g h = absurd h

either : (b : Bool) (x y n : ℕ) → (T b → x < n) → y < n → cond b x y < n
either true x y n h k = h tt
either false x y n h k = k

pub ctor_good : (k j : Kind) (p : ℕ) → T (not (is_abstract k)) → T (good_lit j p) → T (good_lit k (ctor_bits k j p))
unfolding is_abstract same_kind kind_no good_lit payloads ctor_bits
ctor_good bool j p c g = lt→ltb (cond (nonzero (number j p)) 1 0) 2 (either (nonzero (number j p)) 1 0 2 (λ _. lit< tt) (lit< tt))
ctor_good aint j p c g = absurd c
ctor_good afloat j p c g = absurd c
ctor_good i32 j p c g = lt→ltb _ (2 ^ 32) (either (keeps_bits j) p _ (2 ^ 32) (kept j p g)
    (toward_lt (lo_of j) (hi_of (2 ^ 31 - 1) 2147483520 j) (number j p) (ends j).0 (ends j).1))
ctor_good u32 j p c g = lt→ltb _ (2 ^ 32) (either (keeps_bits j) p _ (2 ^ 32) (kept j p g)
    (toward_lt 0 (hi_of (2 ^ 32 - 1) 4294967040 j) (number j p) (lit< tt) (ends j).2))
ctor_good f32 j p c g = bits32 (number j p)
ctor_good f16 j p c g = bits16 _

pub conv_good : (k : Kind) (x : Num) → T (good_lit k (conv_bits k x))
unfolding good_lit payloads conv_bits
conv_good bool x = tt
conv_good aint x = tt
conv_good afloat x = bits64 x
conv_good i32 x = lt→ltb _ (2 ^ 32) (toward_lt (2 ^ 31) (2 ^ 31 - 1) x (lit< tt) (lit< tt))
conv_good u32 x = lt→ltb _ (2 ^ 32) (toward_lt 0 (2 ^ 32 - 1) x (lit< tt) (lit< tt))
conv_good f32 x = bits32 x
conv_good f16 x = bits16 x

-- ---- one literal

-- a constructor's result where the literal fits, b, and where it does not
abbrev pub Lit : Bool → Kind → Result ℕ → Type 0
Lit true k r = (q : ℕ) × (r ≡ ok q) × T (good_lit k q)
Lit false k r = T (refused r)

lit_cases : (a b : Bool) (k : Kind) (p q n : ℕ) → (T a → T (good_lit k p)) → T (good_lit k q)
    → Lit (a || b) k (cond a (ok p) (need b n >> ok q))
unfolding refused
lit_cases true b k p q n g h = (p, refl, g tt)
lit_cases false true k p q n g h = (q, refl, h)
lit_cases false false k p q n g h = tt

pub ctor_lit_lem : (s : Stage) (k j : Kind) (p : ℕ) → T (not (is_abstract k)) → T (good_lit j p) → Lit (fits_ctor s k j p) k (ctor_lit s k j p)
unfolding fits_ctor ctor_lit
ctor_lit_lem s k j p c g =
    lit_cases (same_kind j k) (eqb (ctor_test s k j p) 0) k p (ctor_bits k j p) (ctor_test s k j p)
    (λ t. subst (λ (i : Kind). T (good_lit i p)) (same_kind_lem j k t) g) (ctor_good k j p c g)

-- the same of a conversion, where the kinds convert
abbrev pub LitO : Bool → Kind → Option ℕ → Type 0
LitO true k r = (q : ℕ) × (r ≡ some q) × T (good_lit k q)
LitO false k r = r ≡ none

conv_cases : (a b c : Bool) (k : Kind) (p q : ℕ) → T c → (T a → T (good_lit k p)) → T (good_lit k q)
    → LitO (a || b) k (cond a (some p) (cond (c && b) (some q) none))
conv_cases true b c k p q t g h = (p, refl, g tt)
conv_cases false true true k p q t g h = (q, refl, h)
conv_cases false true false k p q t g h = absurd t
conv_cases false false true k p q t g h = refl
conv_cases false false false k p q t g h = refl

pub conv_lit : (k j : Kind) (p : ℕ) → T (some? (kind_rank j k)) → T (good_lit j p) → LitO (fits_conv k j p) k (conv k j p)
unfolding fits_conv conv
conv_lit k j p c g =
    conv_cases (same_kind j k) (conv_fits k (number j p)) (some? (kind_rank j k)) k p (conv_bits k (number j p)) c
    (λ t. subst (λ (i : Kind). T (good_lit i p)) (same_kind_lem j k t) g) (conv_good k (number j p))
