-- A value by the front of its type: which literals, columns, elements or members stand there, and its bytes in memory by them.
use mathlib.Core.Path.{◌≡◌, refl, sym, ap, ◌∙◌, subst}
use mathlib.Core.List.{List, [], ◌∷◌, ◌++◌, append-nil}
use mathlib.Core.Bool.{true}
use Prim.Native.Nat.{ℕ, ◌+◌, ◌-◌, ◌*◌, ◌/◌, ◌%◌, ◌≤◌}
use lib.Dec.{eqb, eqb→eq}
use lib.ListN.{length, get_or}
use Rattle.meaning.specs.Kinds.{Kind, kind_no}
use Rattle.meaning.specs.Trees.{Ty, Tys, Val, Vs, Vv, Vm, Va, Vu, Vals, type_of, types_of, first, count_vals}
use Rattle.meaning.specs.Records.{le, joined, lit_bytes, vec_bytes, columns, val_bytes, vals_bytes, every, good_lit, all_same, shaped_val}
use Rattle.meaning.specs.Records.{shaped_vals}
use Rattle.meaning.specs.Layout.{scalar_size, align_of, col_stride, size_of, stride, zeros, mem_vec, mem_col, mem_bytes, mem_elements, mem_members}
use Rattle.laws.proofs.AgreeConv.{AllTy, all_first}
use Rattle.laws.proofs.Back.{and_l, and_r}
use Rattle.laws.proofs.Same.{both}
use Rattle.ty.specs.Stands.{Stands, StandAll}
use Rattle.ty.specs.Heads.{head_of}
use Rattle.ty.specs.declared.Head.TheVariants.{Scalar, Vector, Matrix, Array, Struct}
use Rattle.ty.proofs.Heads.{scalar_is, vector_is, matrix_is, array_is, struct_is}
use Rattle.record.specs.Values.{BytesAt}
use Rattle.memory.specs.Padding.{Padded}
use Rattle.write_layout.specs.Memory.{Literals, Columns, Value, Elements, Members}
use Rattle.write_layout.proofs.Parts.{bytes_rest}
use Rattle.write_layout.proofs.Values.{scalar_val, vector_val, matrix_val, array_val, struct_val, columns_each, columns_count}
use Rattle.write_layout.proofs.Values.{scalars, vectors}

-- ---- what stands there, with these bytes in memory

pub record LiteralsOf (s : List ℕ) (at n k e : ℕ) (bs : List ℕ) : Type 0 where
  pub kind : Kind
  pub payloads : List ℕ
  pub has : Literals s at n k e kind payloads
  pub mem : bs ≡ mem_vec kind payloads

pub record ColumnsOf (s : List ℕ) (at n r k pad e : ℕ) (bs : List ℕ) : Type 0 where
  pub kind : Kind
  pub columns : List (List ℕ)
  pub has : Columns s at n r k pad e kind columns
  pub mem : bs ≡ joined (mem_col r kind) columns

pub record ElementsOf (d : ℕ) (ty : List ℕ) (o n pad : ℕ) (pads : List ℕ) (s : List ℕ) (at q e : ℕ) (bs : List ℕ) : Type 0 where
  pub type : Ty
  pub values : Vals
  pub are : Elements d ty o n pad pads s at q e type values
  pub mem : bs ≡ mem_elements values

pub record MembersOf (d : ℕ) (ty : List ℕ) (o n pad : ℕ) (pads : List ℕ) (s : List ℕ) (at q e : ℕ) (bs : List ℕ) : Type 0 where
  pub values : Vals
  pub are : Members d ty o n pads s at q e 0 values
  pub mem : bs ≡ mem_members 0 values ++ zeros pad

-- ---- elements that are scalars or vectors

module _ {d : ℕ} {ty : List ℕ} {o n pad : ℕ} {pads s : List ℕ} {at q e : ℕ} {t : Ty} {l : Vals}
    (x : Elements d ty o n pad pads s at q e t l) where
  pub scalar_elements : {k : ℕ} → Scalar k ≡ head_of t → LiteralsOf s at n k e (mem_elements l) × (o + 3 ≡ q)
  scalar_elements h =
      let y = scalar_is x.stands h in
      let z = scalars y.kind l (subst (λ (u : Ty). AllTy u l) y.is x.types) x.shaped in (
        record {
          kind = y.kind;
          payloads = z.payloads;
          has = record { no = y.no; bytes = subst (BytesAt s at e) z.bytes x.bytes; good = z.good; count = z.count ∙ x.count };
          mem = z.mem;
        },
        y.end,
      )

  pub vector_elements : {r k : ℕ} → Vector r k ≡ head_of t → ColumnsOf s at n r k pad e (mem_elements l) × (o + 6 ≡ q)
  unfolding stride size_of align_of col_stride
  vector_elements {r} h =
      let y = vector_is x.stands h in
      let z = vectors r y.kind l (subst (λ (u : Ty). AllTy u l) y.is x.types) x.shaped in (
        record {
          kind = y.kind;
          columns = z.columns;
          has = record {
            no = y.no;
            bytes = subst (BytesAt s at e) z.bytes x.bytes;
            each = z.each;
            count = z.count ∙ x.count;
            padding = x.padding ∙ ap (λ (u : Ty). stride u - size_of u) y.is;
          };
          mem = z.mem;
        },
        y.end,
      )

-- ---- one value

module _ {d : ℕ} {ty : List ℕ} {o : ℕ} {pads s : List ℕ} {at q e : ℕ} where
  scalar_of_lem : {j : Kind} {p k : ℕ} → Value d ty o pads s at q e (Vs j p) → k ≡ kind_no j → LiteralsOf s at 1 k e (mem_bytes (Vs j p))
  unfolding val_bytes joined shaped_val every mem_bytes mem_vec
  scalar_of_lem {j} {p} x m =
      record {
        kind = j;
        payloads = p ∷ [];
        has = record {
          no = m;
          bytes = subst (BytesAt s at e) (sym (append-nil (lit_bytes j p))) x.has.bytes;
          good = both (good_lit j p) true x.has.shaped tt;
          count = refl;
        };
        mem = sym (append-nil (le (scalar_size j) p));
      }

  vector_of_lem : {j : Kind} {ps : List ℕ} {n k : ℕ} → Value d ty o pads s at q e (Vv j ps) → length ps ≡ n → k ≡ kind_no j
      → LiteralsOf s (at + 3) n k e (mem_bytes (Vv j ps))
  unfolding val_bytes vec_bytes shaped_val mem_bytes
  vector_of_lem {j} {ps} x c m =
      record {
        kind = j;
        payloads = ps;
        has = record {
          no = m;
          bytes = bytes_rest (86 ∷ 118 ∷ length ps ∷ []) (joined (lit_bytes j) ps) x.has.bytes;
          good = x.has.shaped;
          count = c;
        };
        mem = refl;
      }

  matrix_of_lem : {c r : ℕ} {j : Kind} {ps : List ℕ} {k : ℕ} → Value d ty o pads s at q e (Vm c r j ps) → k ≡ kind_no j
      → ColumnsOf s (at + 4) c r k (get_or pads o 0) e (mem_bytes (Vm c r j ps))
  unfolding type_of Padded val_bytes shaped_val mem_bytes
  matrix_of_lem {c} {r} {j} {ps} x m =
      let good = every (good_lit j) ps in
      let many = eqb (length ps) (c * r) in
      let g = x.has.shaped in
      record {
        kind = j;
        columns = columns c r ps;
        has = record {
          no = m;
          bytes = bytes_rest (86 ∷ 109 ∷ c ∷ r ∷ []) (joined (vec_bytes j) (columns c r ps)) x.has.bytes;
          each = columns_each j c r ps (eqb→eq (length ps) (c * r) (and_r good many g)) (and_l good many g);
          count = columns_count c r ps;
          padding = x.padded;
        };
        mem = refl;
      }

  array_of : {l : Vals} {n : ℕ} → Value d ty o pads s at q e (Va l) → count_vals l ≡ n → 1 ≤ n
      → Stands (d - 1) ty (o + 4) (first (types_of l)) q
      → ElementsOf (d - 1) ty (o + 4) n (get_or pads o 0) pads s (at + 4) q e (mem_bytes (Va l))
  unfolding type_of Padded val_bytes le shaped_val mem_bytes
  array_of {l} x c some w =
      let g = x.has.shaped in
      let n = count_vals l in
      record {
        type = first (types_of l);
        values = l;
        are = record {
          stands = w;
          padded = x.padded.1;
          long = x.long;
          padding = x.padded.0;
          bytes = bytes_rest (86 ∷ 97 ∷ n % 256 ∷ n / 256 % 256 ∷ []) (vals_bytes l) x.has.bytes;
          shaped = and_r (all_same (types_of l)) (shaped_vals l) g;
          types = all_first l (and_l (all_same (types_of l)) (shaped_vals l) g);
          count = c;
          some = some;
        };
        mem = refl;
      }

  struct_of_lem : {i : ℕ} {l : Vals} {n : ℕ} → Value d ty o pads s at q e (Vu i l) → StandAll (d - 1) ty (o + 6) n (types_of l) q
      → MembersOf (d - 1) ty (o + 6) n (get_or pads o 0) pads s (at + 6) q e (mem_bytes (Vu i l))
  unfolding type_of Padded val_bytes le shaped_val mem_bytes
  struct_of_lem {i} {l} x w =
      let n = count_vals l in
      record {
        values = l;
        are = record {
          stands = w;
          padded = x.padded.1;
          long = x.long;
          bytes = bytes_rest (86 ∷ 117 ∷ i % 256 ∷ i / 256 % 256 ∷ n % 256 ∷ n / 256 % 256 ∷ []) (vals_bytes l) x.has.bytes;
          shaped = x.has.shaped;
        };
        mem = ap (λ (k : ℕ). mem_members 0 l ++ zeros k) (sym x.padded.0);
      }

  module _ {v : Val} (x : Value d ty o pads s at q e v) where
    same : {u : Val} → v ≡ u → Value d ty o pads s at q e u
    same f = subst (Value d ty o pads s at q e) f x

    pub scalar_value : {k : ℕ} → Scalar k ≡ head_of (type_of v) → LiteralsOf s at 1 k e (mem_bytes v) × (o + 3 ≡ q)
    scalar_value {k} h =
        let y = scalar_is x.stands h in
        let z = scalar_val y.kind v y.is in
        (subst (λ (u : Val). LiteralsOf s at 1 k e (mem_bytes u)) (sym z.is) (scalar_of_lem (same z.is) y.no), y.end)

    pub vector_value : {n k : ℕ} → Vector n k ≡ head_of (type_of v) → LiteralsOf s (at + 3) n k e (mem_bytes v) × (o + 6 ≡ q)
    vector_value {n} {k} h =
        let y = vector_is x.stands h in
        let z = vector_val n y.kind v y.is in
        (subst (λ (u : Val). LiteralsOf s (at + 3) n k e (mem_bytes u)) (sym z.is) (vector_of_lem (same z.is) z.count y.no), y.end)

    pub matrix_value : {c r k : ℕ} → Matrix c r k ≡ head_of (type_of v) → ColumnsOf s (at + 4) c r k (get_or pads o 0) e (mem_bytes v)
        × (o + 7 ≡ q)
    matrix_value {c} {r} {k} h =
        let y = matrix_is x.stands h in
        let z = matrix_val c r y.kind v y.is in (
          subst (λ (u : Val). ColumnsOf s (at + 4) c r k (get_or pads o 0) e (mem_bytes u)) (sym z.is) (matrix_of_lem (same z.is) y.no),
          y.end,
        )

    pub array_value : {n : ℕ} → Array n ≡ head_of (type_of v) → ElementsOf (d - 1) ty (o + 4) n (get_or pads o 0) pads s (at + 4) q e
        (mem_bytes v)
    array_value {n} h =
        let y = array_is x.stands h in
        let z = array_val n y.elem v y.is in
        subst (λ (u : Val). ElementsOf (d - 1) ty (o + 4) n (get_or pads o 0) pads s (at + 4) q e (mem_bytes u)) (sym z.is)
        (array_of (same z.is) z.count y.some (subst (λ (u : Ty). Stands (d - 1) ty (o + 4) u q) (sym z.elem) y.part))

    pub struct_value : {i n : ℕ} → Struct i n ≡ head_of (type_of v) → MembersOf (d - 1) ty (o + 6) n (get_or pads o 0) pads s (at + 6) q e
        (mem_bytes v)
    struct_value {i} {n} h =
        let y = struct_is x.stands h in
        let z = struct_val i y.members v y.is in
        subst (λ (u : Val). MembersOf (d - 1) ty (o + 6) n (get_or pads o 0) pads s (at + 6) q e (mem_bytes u)) (sym z.is)
        (struct_of_lem (same z.is) (subst (λ (m : Tys). StandAll (d - 1) ty (o + 6) n m q) (sym z.types) y.parts))
