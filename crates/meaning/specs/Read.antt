-- Reading the records back: a parser takes bytes, and gives what it read and the bytes left, or nothing.
-- `crates/laws/proofs/Exact.antt` shows that what is read is exactly what is well formed and written so.
use Rattle.std.proofs.Math.Option.{Option, none, some}
use Rattle.std.specs.Prelude.{List, [], ◌∷◌, ◌++◌, map, Bool, cond, ℕ, zero, suc, ◌+◌, ◌*◌, eqb, length}
use Rattle.meaning.specs.Kinds.{Kind, kind_of, pay_width, same_kind}
use Rattle.meaning.specs.Trees.{Ty, Ts, Tv, Tm, Ta, Tu, Val, Vs, Vv, Vm, Va, Vu, Target, Of, Tr, Qa, Qv, Qm, tys_of, vals_of}
use Rattle.meaning.specs.Records.{‘T’, ‘V’, ‘Q’, ‘s’, ‘v’, ‘m’, ‘a’, ‘r’, ‘u’, every, good_target, good_val, good_args, good_tys}

abbrev pub Parser : Type 0 → Type 0
Parser A = List ℕ → Option (A × List ℕ)

abbrev pub ◌>>=◌ : {A B : Type 0} → Parser A → (A → Parser B) → Parser B
◌>>=◌ p f s = elim (p s) [ none ↦ none | some r ↦ f r.0 r.1 ]

abbrev pub give : {A : Type 0} → A → Parser A
give a s = some (a, s)

abbrev pub fail : {A : Type 0} → Parser A
fail s = none

abbrev pub p_byte : Parser ℕ
p_byte [] = none
p_byte (b ∷ s) = some (b, s)

abbrev pub p_u16 : Parser ℕ
p_u16 = do
  a ← p_byte
  b ← p_byte
  give (a + 256 * b)

abbrev pub lift : {A : Type 0} → Option A → Parser A
lift none = fail
lift (some a) = give a

-- n times
abbrev pub many : {A : Type 0} → Parser A → ℕ → Parser (List A)
many p zero = give []
many p (suc n) = do
  x ← p
  xs ← many p n
  give (x ∷ xs)

-- the reader that the letter m picks
abbrev pub choose : {A : Type 0} → ℕ → List (ℕ × Parser A) → Parser A
choose m [] = fail
choose m (c ∷ l) = cond (eqb m c.0) c.1 (choose m l)

-- a mark: its first letter is m, and its second picks the reader of what follows
abbrev pub marked : {A : Type 0} → ℕ → List (ℕ × Parser A) → Parser A
marked m l = do
  a ← p_byte
  b ← p_byte
  cond (eqb a m) (choose b l) fail

-- a number of w bytes, the low byte first
abbrev pub p_number : ℕ → Parser ℕ
p_number zero = give 0
p_number (suc w) = do
  b ← p_byte
  n ← p_number w
  give (b + 256 * n)

unfoldable pub p_kind : Parser Kind
p_kind = do
  b ← p_byte
  lift (kind_of b)

unfoldable pub p_scalar_ty : Parser Kind
p_scalar_ty = marked ‘T’ ((‘s’, p_kind) ∷ [])

unfoldable pub p_ts : Parser Ty
p_ts = do
  k ← p_kind
  give (Ts k)

unfoldable pub p_tv : Parser Ty
p_tv = do
  n ← p_byte
  k ← p_scalar_ty
  give (Tv n k)

unfoldable pub p_tm : Parser Ty
p_tm = do
  c ← p_byte
  r ← p_byte
  k ← p_scalar_ty
  give (Tm c r k)

unfoldable pub p_ta : Parser Ty → Parser Ty
p_ta part = do
  n ← p_u16
  t ← part
  give (Ta n t)

unfoldable pub p_tu : Parser Ty → Parser Ty
p_tu part = do
  i ← p_u16
  n ← p_u16
  l ← many part n
  give (Tu i (tys_of l))

-- a type; d is more than the arrays and structs that may lie in one another
unfoldable pub p_ty : ℕ → Parser Ty
p_ty zero = fail
p_ty (suc d) = marked ‘T’ ((‘s’, p_ts) ∷ (‘v’, p_tv) ∷ (‘m’, p_tm) ∷ (‘a’, p_ta (p_ty d)) ∷ (‘u’, p_tu (p_ty d)) ∷ [])

unfoldable pub p_payload : Parser (Kind × ℕ)
p_payload = do
  k ← p_kind
  p ← p_number (pay_width k)
  give (k, p)

unfoldable pub p_lit : Parser (Kind × ℕ)
p_lit = marked ‘V’ ((‘s’, p_payload) ∷ [])

-- the one kind and the payloads of some literals
unfoldable pub one_kind : List (Kind × ℕ) → Option (Kind × List ℕ)
one_kind [] = none
one_kind (a ∷ l) = cond (every (λ b. same_kind b.0 a.0) l) (some (a.0, map (λ b. b.1) (a ∷ l))) none

unfoldable pub flat : {A : Type 0} → List (List A) → List A
flat [] = []
flat (a ∷ l) = a ++ flat l

unfoldable pub p_vs : Parser Val
p_vs = do
  l ← p_payload
  give (Vs l.0 l.1)

unfoldable pub p_vv : Parser Val
p_vv = do
  n ← p_byte
  l ← many p_lit n
  kp ← lift (one_kind l)
  give (Vv kp.0 kp.1)

-- a vector of r literals, behind its mark
unfoldable pub p_rows : ℕ → Parser (List (Kind × ℕ))
p_rows r = do
  n ← p_byte
  l ← many p_lit n
  cond (eqb n r) (give l) fail

unfoldable pub p_vm : Parser Val
p_vm = do
  c ← p_byte
  r ← p_byte
  l ← many (marked ‘V’ ((‘v’, p_rows r) ∷ [])) c
  kp ← lift (one_kind (flat l))
  give (Vm c r kp.0 kp.1)

unfoldable pub p_va : Parser Val → Parser Val
p_va part = do
  n ← p_u16
  l ← many part n
  give (Va (vals_of l))

unfoldable pub p_vu : Parser Val → Parser Val
p_vu part = do
  i ← p_u16
  n ← p_u16
  l ← many part n
  give (Vu i (vals_of l))

-- a value, in the same way
unfoldable pub p_val : ℕ → Parser Val
p_val zero = fail
p_val (suc d) = marked ‘V’ ((‘s’, p_vs) ∷ (‘v’, p_vv) ∷ (‘m’, p_vm) ∷ (‘a’, p_va (p_val d)) ∷ (‘u’, p_vu (p_val d)) ∷ [])

-- all of the bytes, as one record
unfoldable pub whole : {A : Type 0} → Parser A → List ℕ → Option A
whole p s = elim (p s) [ none ↦ none | some r ↦ elim r.1 [ [] ↦ some r.0 | b ∷ t ↦ none ] ]

-- records up to the end; n is at least their number
unfoldable pub upto : {A : Type 0} → ℕ → Parser A → List ℕ → Option (List A)
upto zero p s = elim s [ [] ↦ some [] | b ∷ t ↦ none ]
upto (suc n) p s =
    elim s [
      | [] ↦ some []
      | b ∷ t ↦ elim (p (b ∷ t)) [
        | none ↦ none
        | some r ↦
            elim (upto n p r.1) [ none ↦ none | some l ↦ some (r.0 ∷ l) ]
      ]
    ]

-- what was read, if it passes the test
unfoldable pub if? : {A : Type 0} → (A → Bool) → Option A → Option A
if? f none = none
if? f (some a) = cond (f a) (some a) none

unfoldable pub p_qv : Parser Target
p_qv = do
  n ← p_byte
  give (Qv n)

unfoldable pub p_qm : Parser Target
p_qm = do
  c ← p_byte
  r ← p_byte
  give (Qm c r)

unfoldable pub p_shape : Parser Target
p_shape = marked ‘Q’ ((‘a’, give Qa) ∷ (‘v’, p_qv) ∷ (‘m’, p_qm) ∷ [])

unfoldable pub p_tr : Parser Target
p_tr = do
  t ← p_ty 16
  give (Tr t)

unfoldable pub p_runtime : Parser Target
p_runtime = marked ‘T’ ((‘r’, p_tr) ∷ [])

unfoldable pub p_of : Parser Target
p_of = do
  t ← p_ty 16
  give (Of t)

abbrev pub or? : {A : Type 0} → Option A → Option A → Option A
or? none b = b
or? (some a) b = some a

-- a whole target, all of whose bytes are one well-formed record or shape
unfoldable pub read_target : List ℕ → Option Target
read_target s = if? good_target (or? (whole p_shape s) (or? (whole p_runtime s) (whole p_of s)))

-- one value alone: all of the bytes are its record, and it is well formed
unfoldable pub read_val : List ℕ → Option Val
read_val s = if? good_val (whole (p_val 16) s)

-- the arguments of building, and of typing: records up to the end, all well formed
unfoldable pub read_vals : Target → List ℕ → Option (List Val)
read_vals g s = if? (good_args g) (upto (length s) (p_val 16) s)

unfoldable pub read_tys : Target → List ℕ → Option (List Ty)
read_tys g s = if? (good_tys g) (upto (length s) (p_ty 16) s)
