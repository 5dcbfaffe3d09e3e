-- What each front of a type's record says of a value in memory: its size, the padding inside it, and the value's record.
use mathlib.Core.Path.{◌≡◌, sym, ap, ◌∙◌, subst}
use mathlib.Core.List.{List, [], ◌∷◌, ◌++◌}
use Prim.Native.Nat.{ℕ, ◌+◌, ◌-◌, ◌*◌, ◌≤◌, ◌<◌}
use native.Mathlib.Omega.{arith}
use native.Mathlib.Nat.{one-mul}
use lib.ListN.{get_or}
use Rattle.meaning.specs.Kinds.{Kind, kind_no}
use Rattle.meaning.specs.Trees.{Ty, Ts, Tv, Ta, Tu, Tys, ◌▸◌}
use Rattle.meaning.specs.Records.{‘V’, ‘m’}
use Rattle.meaning.specs.Layout.{scalar_size, round_up, align_of, most_align, col_stride, stride, size_of, past_last}
use Rattle.ty.specs.Heads.{head_of}
use Rattle.ty.specs.declared.Head.TheVariants.{Scalar, Vector, Matrix, Array, Struct}
use Rattle.ty.proofs.Heads.{scalar_is, vector_is, matrix_is, array_is, struct_is, first_is, none_is}
use Rattle.memory.specs.Padding.{Padded, PaddedAll}
use Rattle.memory.proofs.Length.{type_long, past_more}
use Rattle.memory.proofs.RoundUp.{up_more, align_is, most_align_lem}
use Rattle.record.specs.Fronts.{array_front, struct_front}
use Rattle.read_layout.specs.Memory.{Typed, TypedAll, scalars_from, vector_from, columns_from, value_from, elements_from, members_from}
use Rattle.read_layout.proofs.Parts.{scalar_value, vector_value, matrix_value, array_value, struct_value, more_members, no_members}

-- ---- by its front, the type t, whose record stands from o up to q

module _ (o : ℕ) (pads : List ℕ) (t : Ty) (q : ℕ) where
  pub record ScalarLies (k : ℕ) : Type 0 where
    pub kind : Kind
    pub no : k ≡ kind_no kind
    pub is : t ≡ Ts kind
    pub end : o + 3 ≡ q
    pub size : size_of t ≡ 1 * scalar_size kind
    pub bytes : (mem : List ℕ) (at : ℕ) → value_from t mem at ≡ scalars_from mem at 1 kind

  pub record VectorLies (n k : ℕ) : Type 0 where
    pub kind : Kind
    pub no : k ≡ kind_no kind
    pub is : t ≡ Tv n kind
    pub end : o + 6 ≡ q
    pub size : size_of t ≡ n * scalar_size kind
    pub bytes : (mem : List ℕ) (at : ℕ) → value_from t mem at ≡ vector_from mem at n kind

  pub record MatrixLies (c r k : ℕ) : Type 0 where
    pub kind : Kind
    pub no : k ≡ kind_no kind
    pub end : o + 7 ≡ q
    pub pad : get_or pads o 0 ≡ col_stride r kind - r * scalar_size kind
    pub size : size_of t ≡ c * col_stride r kind
    pub bytes : (mem : List ℕ) (at : ℕ) → value_from t mem at ≡ (‘V’ ∷ ‘m’ ∷ c ∷ r ∷ []) ++ columns_from mem at c r kind

module _ (d : ℕ) (ty : List ℕ) (o : ℕ) (pads : List ℕ) (t : Ty) (q : ℕ) where
  pub record ArrayLies (n : ℕ) : Type 0 where
    pub elem : Ty
    pub part : Typed (d - 1) ty (o + 4) pads q elem
    pub some : 1 ≤ n
    pub deep : 1 ≤ d
    pub room : o + 4 ≤ q
    pub pad : get_or pads o 0 ≡ stride elem - size_of elem
    pub size : size_of t ≡ n * stride elem
    pub bytes : (mem : List ℕ) (at : ℕ) → value_from t mem at ≡ array_front n ++ elements_from n elem mem at

  pub record StructLies (i n : ℕ) : Type 0 where
    pub members : Tys
    pub parts : TypedAll (d - 1) ty (o + 6) n pads q 0 members
    pub deep : 1 ≤ d
    pub room : o + 6 ≤ q
    pub pad : get_or pads o 0 ≡ size_of t - past_last 0 members
    pub size : past_last 0 members ≤ size_of t
    pub bytes : (mem : List ℕ) (at : ℕ) → value_from t mem at ≡ struct_front i n ++ members_from 0 members mem at

bytes_of : {t u : Ty} → t ≡ u → (mem : List ℕ) (at : ℕ) → value_from t mem at ≡ value_from u mem at
bytes_of e mem at = ap (λ (u : Ty). value_from u mem at) e

module _ {d : ℕ} {ty : List ℕ} {o : ℕ} {pads : List ℕ} {q : ℕ} {t : Ty} (w : Typed d ty o pads q t) where
  pub scalar_lies : {k : ℕ} → Scalar k ≡ head_of t → ScalarLies o pads t q k
  unfolding size_of
  scalar_lies h =
      let x = scalar_is w.stands h in
      record {
        kind = x.kind;
        no = x.no;
        is = x.is;
        end = x.end;
        size = ap size_of x.is ∙ sym (one-mul (scalar_size x.kind));
        bytes = λ mem at. bytes_of x.is mem at ∙ scalar_value mem at x.kind;
      }

  pub vector_lies : {n k : ℕ} → Vector n k ≡ head_of t → VectorLies o pads t q n k
  unfolding size_of
  vector_lies {n} h =
      let x = vector_is w.stands h in
      record {
        kind = x.kind;
        no = x.no;
        is = x.is;
        end = x.end;
        size = ap size_of x.is;
        bytes = λ mem at. bytes_of x.is mem at ∙
            vector_value mem at n x.kind;
      }

  pub matrix_lies : {c r k : ℕ} → Matrix c r k ≡ head_of t → MatrixLies o pads t q c r k
  unfolding size_of Padded
  matrix_lies {c} {r} h =
      let x = matrix_is w.stands h in
      record {
        kind = x.kind;
        no = x.no;
        end = x.end;
        pad = rw x.is at w.padded;
        size = ap size_of x.is;
        bytes = λ mem at. bytes_of x.is mem at ∙ matrix_value mem at c r x.kind;
      }

  pub array_lies : {n : ℕ} → Array n ≡ head_of t → ArrayLies d ty o pads t q n
  unfolding size_of stride Padded
  array_lies {n} h =
      let x = array_is w.stands h in
      let p : Padded pads o (Ta n x.elem) = rw x.is at w.padded in
      record {
        elem = x.elem;
        part = record { stands = x.part; padded = p.1; long = w.long };
        some = x.some;
        deep = x.deep;
        room = x.room;
        pad = p.0;
        size = ap size_of x.is;
        bytes = λ mem at. bytes_of x.is mem at ∙ array_value mem at n x.elem;
      }

  pub struct_lies : {i n : ℕ} → Struct i n ≡ head_of t → StructLies d ty o pads t q i n
  unfolding size_of Padded
  struct_lies {i} {n} h =
      let x = struct_is w.stands h in
      let m = x.members in
      let p : Padded pads o (Tu i m) = rw x.is at w.padded in
      record {
        members = m;
        parts = record { stands = x.parts; padded = p.1; long = w.long };
        deep = x.deep;
        room = x.room;
        pad = p.0 ∙ ap (λ (u : Ty). size_of u - past_last 0 m) (sym x.is);
        size = omega (arith, ap size_of x.is, up_more (most_align m) (most_align_lem m) (past_last 0 m));
        bytes = λ mem at. bytes_of x.is mem at ∙ (struct_value mem at i m
            ∙ ap (λ (c : ℕ). struct_front i c ++ members_from 0 m mem at) x.parts.count);
      }

-- ---- types in a row

-- the first of them, which begins at `start`, counted from where the struct does, and ends at `next`
pub record FirstLies (d : ℕ) (ty : List ℕ) (o n : ℕ) (pads : List ℕ) (q off : ℕ) (m : Tys) : Type 0 where
  pub type : Ty
  pub others : Tys
  pub mid : ℕ
  pub start : ℕ
  pub first : Typed d ty o pads mid type
  pub rest : TypedAll d ty mid (n - 1) pads q (start + size_of type) others
  pub room : o + 3 ≤ q
  pub pad : get_or pads (o + 1) 0 ≡ start - off
  pub behind : off ≤ start
  pub past : past_last off m ≡ past_last (start + size_of type) others
  pub within : start + size_of type ≤ past_last off m
  pub bytes : (mem : List ℕ) (base : ℕ) → members_from off m mem base ≡ value_from type mem (base + start) ++ members_from
      (start + size_of type) others mem base

module _ {d : ℕ} {ty : List ℕ} {o n : ℕ} {pads : List ℕ} {q off : ℕ} {m : Tys} (w : TypedAll d ty o n pads q off m) where
  pub first_lies : 0 < n → FirstLies d ty o n pads q off m
  unfolding PaddedAll past_last
  first_lies h =
      let x = first_is w.stands h in
      let t = x.type in
      let p : PaddedAll pads o off (t ▸ x.others) = rw x.is at w.padded in
      let s : ℕ = round_up (align_of t) off in
      record {
        type = t;
        others = x.others;
        mid = x.mid;
        start = s;
        first = record { stands = x.first; padded = p.1; long = omega (arith, w.long, x.rest.size) };
        rest = record {
          stands = x.rest;
          padded = subst (λ (e : ℕ). PaddedAll pads e (s + size_of t) x.others) (sym x.first.size)
              p.2;
          long = w.long;
        };
        room = omega (arith, type_long t, x.first.size, x.rest.size);
        pad = p.0;
        behind = up_more (align_of t) (align_is t) off;
        past = ap (past_last off) x.is;
        within = omega (arith, ap (past_last off) x.is, past_more (s + size_of t) x.others);
        bytes = λ mem base. ap (λ (l : Tys). members_from off l mem base) x.is ∙ more_members mem base off t x.others;
      }

  pub none_lies : n ≡ 0 → (o ≡ q) × (past_last off m ≡ off) × ((mem : List ℕ) (base : ℕ) → members_from off m mem base ≡ [])
  unfolding past_last
  none_lies h = let x = none_is w.stands h in (x.1, rw x.0, λ mem base. rw x.0 (no_members mem base off))
