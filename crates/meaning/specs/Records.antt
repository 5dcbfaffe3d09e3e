-- The byte records: how types, values and targets are written, and which of them are well formed (document 01, the two record sections).
-- "Each begins with a two-byte ASCII mark. Numbers are little-endian; u16 is 2 bytes."
use Rattle.std.specs.Prelude.{List, [], ◌∷◌, ◌++◌, map, Bool, true, ◌&&◌, ℕ, zero, suc, ◌*◌, ◌/◌, ◌%◌, eqb, leb, ltb, length, take, drop}
use Rattle.meaning.specs.Kinds.{Kind, kind_no, pay_width, payloads, is_float}
use Rattle.meaning.specs.Trees.{Ty, Ts, Tv, Tm, Ta, Tu, Tys, [·], ◌▸◌, Val, Vs, Vv, Vm, Va, Vu, Vals, ⟨⟩, ◌▹◌, Target, Of, Tr, Qa}
use Rattle.meaning.specs.Trees.{Qv, Qm}
use Rattle.meaning.specs.Trees.{type_of, types_of, depth, count_vals, tys_list, same_ty}

-- ---- the ASCII letters of the marks

abbrev pub ‘T’ : ℕ
‘T’ = 84

abbrev pub ‘V’ : ℕ
‘V’ = 86

abbrev pub ‘Q’ : ℕ
‘Q’ = 81

abbrev pub ‘s’ : ℕ
‘s’ = 115

abbrev pub ‘v’ : ℕ
‘v’ = 118

abbrev pub ‘m’ : ℕ
‘m’ = 109

abbrev pub ‘a’ : ℕ
‘a’ = 97

abbrev pub ‘r’ : ℕ
‘r’ = 114

abbrev pub ‘u’ : ℕ
‘u’ = 117

-- ---- writing

-- the w lowest bytes of n, the low byte first
unfoldable pub le : ℕ → ℕ → List ℕ
le zero n = []
le (suc w) n = n % 256 ∷ le w (n / 256)

-- "`Vs` kind, 8 payload bytes"
unfoldable pub lit_bytes : Kind → ℕ → List ℕ
lit_bytes k p = ‘V’ ∷ ‘s’ ∷ kind_no k ∷ le (pay_width k) p

-- records one after another
unfoldable pub joined : {A : Type 0} → (A → List ℕ) → List A → List ℕ
joined f [] = []
joined f (a ∷ l) = f a ++ joined f l

-- "`Vv` n, n `Vs` records of one kind"
unfoldable pub vec_bytes : Kind → List ℕ → List ℕ
vec_bytes k ps = ‘V’ ∷ ‘v’ ∷ length ps ∷ joined (lit_bytes k) ps

-- the payloads of a matrix in c columns of r
unfoldable pub columns : ℕ → ℕ → List ℕ → List (List ℕ)
columns zero r ps = []
columns (suc c) r ps = take r ps ∷ columns c r (drop r ps)

-- "`Ts` kind"; "`Tv` n, `Ts` record"; "`Tm` c r, `Ts` record"; "`Ta` count, element type"; "`Tu` identity, member
-- count, member types in order"
unfoldable mutual
  pub ty_bytes : Ty → List ℕ
  ty_bytes (Ts k) = ‘T’ ∷ ‘s’ ∷ kind_no k ∷ []
  ty_bytes (Tv n k) = ‘T’ ∷ ‘v’ ∷ n ∷ ‘T’ ∷ ‘s’ ∷ kind_no k ∷ []
  ty_bytes (Tm c r k) = ‘T’ ∷ ‘m’ ∷ c ∷ r ∷ ‘T’ ∷ ‘s’ ∷ kind_no k ∷ []
  ty_bytes (Ta n t) = ‘T’ ∷ ‘a’ ∷ le 2 n ++ ty_bytes t
  ty_bytes (Tu i m) = ‘T’ ∷ ‘u’ ∷ le 2 i ++ (le 2 (length (tys_list m)) ++ tys_bytes m)

  pub tys_bytes : Tys → List ℕ
  tys_bytes [·] = []
  tys_bytes (t ▸ m) = ty_bytes t ++ tys_bytes m

-- "`Vm` c r, c `Vv` records of length r"; "`Va` count, elements"; "`Vu` identity, member count, members"
unfoldable mutual
  pub val_bytes : Val → List ℕ
  val_bytes (Vs k p) = lit_bytes k p
  val_bytes (Vv k ps) = vec_bytes k ps
  val_bytes (Vm c r k ps) = ‘V’ ∷ ‘m’ ∷ c ∷ r ∷ joined (vec_bytes k) (columns c r ps)
  val_bytes (Va l) = ‘V’ ∷ ‘a’ ∷ le 2 (count_vals l) ++ vals_bytes l
  val_bytes (Vu i l) = ‘V’ ∷ ‘u’ ∷ le 2 i ++ (le 2 (count_vals l) ++ vals_bytes l)

  pub vals_bytes : Vals → List ℕ
  vals_bytes ⟨⟩ = []
  vals_bytes (v ▹ m) = val_bytes v ++ vals_bytes m

-- "`Tr` element type"; "untemplated shapes: `Qa`; `Qv` n; `Qm` c r"
unfoldable pub target_bytes : Target → List ℕ
target_bytes (Of t) = ty_bytes t
target_bytes (Tr t) = ‘T’ ∷ ‘r’ ∷ ty_bytes t
target_bytes Qa = ‘Q’ ∷ ‘a’ ∷ []
target_bytes (Qv n) = ‘Q’ ∷ ‘v’ ∷ n ∷ []
target_bytes (Qm c r) = ‘Q’ ∷ ‘m’ ∷ c ∷ r ∷ []

-- ---- well formed

-- "n is 2, 3 or 4", "c columns and r rows, each 2 to 4"
unfoldable pub side : ℕ → Bool
side n = leb 2 n && leb n 4

-- a number of two bytes
unfoldable pub u16 : ℕ → Bool
u16 n = leb n 65535

-- the numbers in a type are in range: a matrix is of kind 2, 5 or 6, an array counts 1 to 65,535, a struct has 1 to 1,023 members
unfoldable mutual
  pub shaped_ty : Ty → Bool
  shaped_ty (Ts k) = true
  shaped_ty (Tv n k) = side n
  shaped_ty (Tm c r k) = side c && side r && is_float k
  shaped_ty (Ta n t) = leb 1 n && u16 n && shaped_ty t
  shaped_ty (Tu i m) = u16 i && leb 1 (length (tys_list m)) && leb (length (tys_list m)) 1023 && shaped_tys m

  pub shaped_tys : Tys → Bool
  shaped_tys [·] = true
  shaped_tys (t ▸ m) = shaped_ty t && shaped_tys m

-- a type of depth at most d and at most n bytes
unfoldable pub good_within : ℕ → ℕ → Ty → Bool
good_within d n t = shaped_ty t && leb (depth t) d && leb (length (ty_bytes t)) n

-- "depth 15 passes, 16 is malformed", "length is at most 4,096 bytes"
unfoldable pub good_ty : Ty → Bool
good_ty t = good_within 15 4096 t

-- a `Tr` record is "at most 4,094 bytes, since building makes a `Ta` of it": two bytes of mark, and an element type
-- that leaves room for the array
unfoldable pub good_target : Target → Bool
good_target (Of t) = good_ty t
good_target (Tr t) = good_within 14 4092 t
good_target Qa = true
good_target (Qv n) = side n
good_target (Qm c r) = side c && side r

-- each element of a list passes the test
unfoldable pub every : {A : Type 0} → (A → Bool) → List A → Bool
every f [] = true
every f (a ∷ l) = f a && every f l

-- "unused high bytes are zero; Bool is 0 or 1"
unfoldable pub good_lit : Kind → ℕ → Bool
good_lit k p = ltb p (payloads k)

-- "elements of one equal type"
unfoldable pub all_same : Tys → Bool
all_same [·] = true
all_same (t ▸ m) = every (same_ty t) (tys_list m)

-- the payloads are in range, a matrix has c * r of them, an array's elements have one type
unfoldable mutual
  pub shaped_val : Val → Bool
  shaped_val (Vs k p) = good_lit k p
  shaped_val (Vv k ps) = every (good_lit k) ps
  shaped_val (Vm c r k ps) = every (good_lit k) ps && eqb (length ps) (c * r)
  shaped_val (Va l) = all_same (types_of l) && shaped_vals l
  shaped_val (Vu i l) = shaped_vals l

  pub shaped_vals : Vals → Bool
  shaped_vals ⟨⟩ = true
  shaped_vals (v ▹ m) = shaped_val v && shaped_vals m

-- "its type must obey the limits above"
unfoldable pub good_val : Val → Bool
good_val v = shaped_val v && good_ty (type_of v)

-- the limits on an argument's type: "for `Qa` each argument's type has depth at most 14 and at most 4,092 bytes"
unfoldable pub good_arg : Target → Ty → Bool
good_arg (Of t) a = good_ty a
good_arg (Tr t) a = good_ty a
good_arg Qa a = good_within 14 4092 a
good_arg (Qv n) a = good_ty a
good_arg (Qm c r) a = good_ty a

-- "at most 65,535" arguments: of typing, and of building
unfoldable pub good_tys : Target → List Ty → Bool
good_tys g l = every (good_arg g) l && leb (length l) 65535

unfoldable pub good_args : Target → List Val → Bool
good_args g l = every good_val l && good_tys g (map type_of l)
