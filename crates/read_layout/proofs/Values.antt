-- The arms of `read_value`, `read_member` and `read_elements`: what each is asked, and that what it leaves is the value.
use mathlib.Core.Path.{◌≡◌, refl, sym, ap, ◌∙◌}
use mathlib.Core.List.{List, [], ◌∷◌}
use Prim.Native.Nat.{ℕ, ◌+◌, ◌-◌, ◌*◌, ◌≤◌}
use native.Mathlib.Omega.{arith}
use lib.ListN.{length, get_or, length-append}
use Rattle.meaning.specs.Kinds.{Kind}
use Rattle.meaning.specs.Trees.{Ty, Tv}
use Rattle.meaning.specs.Records.{‘V’, ‘m’}
use Rattle.meaning.specs.Layout.{scalar_size, col_stride, stride, align_of, size_of}
use Rattle.ty.specs.Stands.{Standing}
use Rattle.ty.specs.Heads.{HeadAt}
use Rattle.ty.specs.declared.Head.{Head}
use Rattle.ty.specs.declared.Head.TheVariants.{Scalar, Vector, Matrix, Array, Struct}
use Rattle.record.specs.Bytes.{Put, Takes}
use Rattle.record.specs.Fronts.{array_front, struct_front}
use Rattle.record.proofs.Puts.{put_put, put_length}
use Rattle.read_layout.specs.Memory.{scalars_from, ScalarsRoom, ScalarsMoved, VectorRoom, VectorMoved, columns_from, ColumnsRoom}
use Rattle.read_layout.specs.Memory.{ColumnsMoved}
use Rattle.read_layout.specs.Memory.{Typed, value_from, ValueRoom, ValueMoved, elements_from, ElementsRoom, ElementsMoved}
use Rattle.read_layout.specs.Memory.{members_from, MembersRoom, MembersMoved}
use Rattle.memory.proofs.Length.{scalar_stride}
use Rattle.read_layout.proofs.Parts.{scalar_elements, vector_elements}
use Rattle.read_layout.proofs.ByType.{ScalarLies, scalar_lies, VectorLies, vector_lies, MatrixLies, matrix_lies, ArrayLies}
use Rattle.read_layout.proofs.ByType.{array_lies, StructLies, struct_lies}

-- ---- one value

module _ {d : ℕ} {ty : List ℕ} {o : ℕ} {pads mem : List ℕ} {at : ℕ} {out : List ℕ} {to : ℕ} (g : ValueRoom d ty o pads mem at out to) where
  pub value_stands : Standing d ty o
  value_stands = record { type = g.type; end = g.ty_end; stands = g.typed.stands }

  module _ {a : Head} (h : HeadAt d ty o a) where
    module _ {k : ℕ} (e : a ≡ Scalar k) where
      scalar : {t : Ty} {q : ℕ} → Typed d ty o pads q t → ScalarLies o pads t q k
      scalar w = scalar_lies w (sym e ∙ h _ _ w.stands)

      pub scalar_room : ScalarsRoom mem at 1 k out to
      scalar_room =
          let x = scalar g.typed in
          record { kind = x.kind; no = x.no; within = omega (arith, g.within, x.size); room = rw (x.bytes mem at) at g.room }

      pub scalar_done : {f r : ℕ} {out' : List ℕ} → ScalarsMoved mem at 1 k out to f r out'
          → ValueMoved d ty o pads mem at out to (o + 3) f r out'
      scalar_done z t q w =
          let x = scalar w in
          let y = z x.kind x.no in
          (x.end, omega (arith, y.0, x.size), rw (x.bytes mem at) y.1)

    module _ {n k : ℕ} (e : a ≡ Vector n k) where
      vector : {t : Ty} {q : ℕ} → Typed d ty o pads q t → VectorLies o pads t q n k
      vector w = vector_lies w (sym e ∙ h _ _ w.stands)

      pub vector_room : VectorRoom mem at n k out to
      vector_room =
          let x = vector g.typed in
          record { kind = x.kind; no = x.no; within = omega (arith, g.within, x.size); room = rw (x.bytes mem at) at g.room }

      pub vector_done : {f r : ℕ} {out' : List ℕ} → VectorMoved mem at n k out to f r out'
          → ValueMoved d ty o pads mem at out to (o + 6) f r out'
      vector_done z t q w =
          let x = vector w in
          let y = z x.kind x.no in
          (x.end, omega (arith, y.0, x.size), rw (x.bytes mem at) y.1)

    module _ {c r k : ℕ} (e : a ≡ Matrix c r k) where
      matrix : {t : Ty} {q : ℕ} → Typed d ty o pads q t → MatrixLies o pads t q c r k
      matrix w = matrix_lies w (sym e ∙ h _ _ w.stands)

      whole : MatrixLies o pads g.type g.ty_end c r k
      whole = matrix g.typed

      matrix_long : length (value_from g.type mem at) ≡ 4 + length (columns_from mem at c r whole.kind)
      matrix_long = ap length (whole.bytes mem at) ∙ length-append (‘V’ ∷ ‘m’ ∷ c ∷ r ∷ []) (columns_from mem at c r whole.kind)

      pub matrix_end : o + 7 ≤ length pads
      matrix_end = omega (arith, whole.end, g.typed.long)

      pub matrix_front : to + 4 ≤ length out
      matrix_front = omega (arith, g.room, matrix_long)

      module _ {n p : ℕ} {mid : List ℕ} (i : n ≡ c) (y : Put out to (‘V’ ∷ ‘m’ ∷ c ∷ r ∷ []) p mid) where
        pub matrix_room : ColumnsRoom mem at n r k (get_or pads o 0) mid p
        matrix_room =
            let x = whole in
            rw i record {
              kind = x.kind;
              no = x.no;
              padding = x.pad;
              within = omega (arith, g.within, x.size);
              room = omega (arith, g.room, matrix_long, y.end, put_length y);
            }

        pub matrix_done : {f s : ℕ} {out' : List ℕ} → ColumnsMoved mem at n r k (get_or pads o 0) mid p f s out'
            → ValueMoved d ty o pads mem at out to (o + 7) f s out'
        matrix_done z t q w =
            let x = matrix w in
            let v = rw i at (z x.kind x.no x.pad) in
            (x.end, omega (arith, v.0, x.size), rw (x.bytes mem at) (put_put y v.1))

    module _ {n : ℕ} (e : a ≡ Array n) where
      array : {t : Ty} {q : ℕ} → Typed d ty o pads q t → ArrayLies d ty o pads t q n
      array w = array_lies w (sym e ∙ h _ _ w.stands)

      elements : ArrayLies d ty o pads g.type g.ty_end n
      elements = array g.typed

      array_long : length (value_from g.type mem at) ≡ length (array_front n) + length (elements_from n elements.elem mem at)
      array_long = ap length (elements.bytes mem at) ∙ length-append (array_front n) (elements_from n elements.elem mem at)

      pub array_front_lem : Takes out to (array_front n)
      array_front_lem = omega (arith, g.room, array_long)

      pub array_end : o + 4 ≤ length pads
      array_end = omega (arith, elements.room, g.typed.long)

      pub array_deep : 1 ≤ d
      array_deep = elements.deep

      module _ {p : ℕ} {mid : List ℕ} (y : Put out to (array_front n) p mid) where
        pub array_room : ElementsRoom (d - 1) ty (o + 4) n (get_or pads o 0) pads mem at mid p
        array_room =
            let x = elements in
            record {
              type = x.elem;
              ty_end = g.ty_end;
              typed = x.part;
              padding = x.pad;
              some = x.some;
              within = omega (arith, g.within, x.size);
              room = omega (arith, g.room, array_long, y.end, put_length y);
            }

        pub array_done : {q' f r : ℕ} {out' : List ℕ} → ElementsMoved (d - 1) ty (o + 4) n (get_or pads o 0) pads mem at mid p q' f r out'
            → ValueMoved d ty o pads mem at out to q' f r out'
        array_done z t q w =
            let x = array w in
            let v = z x.elem q x.part x.pad in
            (v.0, omega (arith, v.1, x.size), rw (x.bytes mem at) (put_put y v.2))

    module _ {i n : ℕ} (e : a ≡ Struct i n) where
      struct : {t : Ty} {q : ℕ} → Typed d ty o pads q t → StructLies d ty o pads t q i n
      struct w = struct_lies w (sym e ∙ h _ _ w.stands)

      members : StructLies d ty o pads g.type g.ty_end i n
      members = struct g.typed

      struct_long : length (value_from g.type mem at) ≡ length (struct_front i n) + length (members_from 0 members.members mem at)
      struct_long = ap length (members.bytes mem at) ∙ length-append (struct_front i n) (members_from 0 members.members mem at)

      pub struct_front_lem : Takes out to (struct_front i n)
      struct_front_lem = omega (arith, g.room, struct_long)

      pub struct_end : o + 6 ≤ length pads
      struct_end = omega (arith, members.room, g.typed.long)

      pub struct_deep : 1 ≤ d
      struct_deep = members.deep

      module _ {p : ℕ} {mid : List ℕ} (y : Put out to (struct_front i n) p mid) where
        pub struct_room : MembersRoom (d - 1) ty (o + 6) n pads mem at mid p
        struct_room =
            let x = members in
            record {
              types = x.members;
              ty_end = g.ty_end;
              base = at;
              off = 0;
              typed = x.parts;
              place = omega arith;
              within = omega (arith, g.within, x.size);
              room = omega (arith, g.room, struct_long, y.end, put_length y);
            }

        module _ {q' f r s : ℕ} {out' : List ℕ} (z : MembersMoved (d - 1) ty (o + 6) n pads mem at mid p q' f r out')
            (u : s ≡ get_or pads o 0) where
          -- the padding behind the last member leads to the struct's end
          past : {t : Ty} {q : ℕ} (w : Typed d ty o pads q t) → f + s ≡ at + size_of t
          past {q = q} w = let x = struct w in omega (arith, (z x.members q at 0 x.parts (omega arith)).1, x.pad, x.size)

          pub struct_within : f + s ≤ length mem
          struct_within = omega (arith, past g.typed, g.within)

          pub struct_done : ValueMoved d ty o pads mem at out to q' (f + s) r out'
          struct_done t q w =
              let x = struct w in
              let v = z x.members q at 0 x.parts (omega arith) in
              (v.0, past w, rw (x.bytes mem at) (put_put y v.2))

-- ---- elements that are scalars or vectors

vector_stride : (r : ℕ) (j : Kind) → (stride (Tv r j) ≡ col_stride r j) × (size_of (Tv r j) ≡ r * scalar_size j)
unfolding stride col_stride align_of size_of
vector_stride r j = (refl, refl)

module _ {d : ℕ} {ty : List ℕ} {o n pad : ℕ} {pads mem : List ℕ} {at : ℕ} {out : List ℕ} {to : ℕ}
    (g : ElementsRoom d ty o n pad pads mem at out to) where
  pub elements_stand : Standing d ty o
  elements_stand = record { type = g.type; end = g.ty_end; stands = g.typed.stands }

  module _ {a : Head} (h : HeadAt d ty o a) where
    module _ {k : ℕ} (e : a ≡ Scalar k) where
      one : {t : Ty} {q : ℕ} → Typed d ty o pads q t → ScalarLies o pads t q k
      one w = scalar_lies w (sym e ∙ h _ _ w.stands)

      scalars_bytes : {t : Ty} {q : ℕ} (x : ScalarLies o pads t q k) → elements_from n t mem at ≡ scalars_from mem at n x.kind
      scalars_bytes x = ap (λ (u : Ty). elements_from n u mem at) x.is ∙ scalar_elements mem at n x.kind

      scalars_size : {t : Ty} {q : ℕ} (x : ScalarLies o pads t q k) → n * stride t ≡ n * scalar_size x.kind
      scalars_size x = ap (λ (s : ℕ). n * s) (ap stride x.is ∙ scalar_stride x.kind)

      pub scalars_room : ScalarsRoom mem at n k out to
      scalars_room =
          let x = one g.typed in
          record { kind = x.kind; no = x.no; within = omega (arith, g.within, scalars_size x); room = rw (scalars_bytes x) at g.room }

      pub scalars_done : {f r : ℕ} {out' : List ℕ} → ScalarsMoved mem at n k out to f r out'
          → ElementsMoved d ty o n pad pads mem at out to (o + 3) f r out'
      scalars_done z t q w i =
          let x = one w in
          let y = z x.kind x.no in
          (x.end, omega (arith, y.0, scalars_size x), rw (scalars_bytes x) y.1)

    module _ {r k : ℕ} (e : a ≡ Vector r k) where
      row : {t : Ty} {q : ℕ} → Typed d ty o pads q t → VectorLies o pads t q r k
      row w = vector_lies w (sym e ∙ h _ _ w.stands)

      vectors_bytes : {t : Ty} {q : ℕ} (x : VectorLies o pads t q r k) → elements_from n t mem at ≡ columns_from mem at n r x.kind
      vectors_bytes x = ap (λ (u : Ty). elements_from n u mem at) x.is ∙ vector_elements mem at n r x.kind

      vectors_stride : {t : Ty} {q : ℕ} (x : VectorLies o pads t q r k) → stride t ≡ col_stride r x.kind
      vectors_stride x = ap stride x.is ∙ (vector_stride r x.kind).0

      vectors_pad : {t : Ty} {q : ℕ} (x : VectorLies o pads t q r k) → pad ≡ stride t - size_of t
          → pad ≡ col_stride r x.kind - r * scalar_size x.kind
      vectors_pad x i = omega (arith, i, vectors_stride x, x.size)

      pub vectors_room : ColumnsRoom mem at n r k pad out to
      vectors_room =
          let x = row g.typed in
          record {
            kind = x.kind;
            no = x.no;
            padding = vectors_pad x g.padding;
            within = rw (vectors_stride x) at g.within;
            room = rw (vectors_bytes x) at g.room;
          }

      pub vectors_done : {f s : ℕ} {out' : List ℕ} → ColumnsMoved mem at n r k pad out to f s out'
          → ElementsMoved d ty o n pad pads mem at out to (o + 6) f s out'
      vectors_done z t q w i =
          let x = row w in
          let y = z x.kind x.no (vectors_pad x i) in
          (x.end, y.0 ∙ ap (λ (l : ℕ). at + n * l) (sym (vectors_stride x)), rw (vectors_bytes x) y.1)
