-- The arms of `write_value`, `write_member` and `write_elements`: what each asks is there, and what it writes is the
-- value's, or the elements'.
use mathlib.Core.Path.{◌≡◌, sym, ap, ◌∙◌}
use mathlib.Core.List.{List}
use Prim.Native.Nat.{ℕ, ◌+◌, ◌-◌, ◌≤◌, ◌<◌}
use native.Mathlib.Omega.{arith}
use lib.ListN.{length, get_or, length-append}
use Rattle.meaning.specs.Trees.{Ty, Val, Vals, type_of}
use Rattle.meaning.specs.Layout.{zeros, mem_bytes, mem_elements, mem_members}
use Rattle.ty.specs.Stands.{Standing}
use Rattle.ty.specs.Heads.{head_of, HeadAt}
use Rattle.ty.specs.declared.Head.{Head}
use Rattle.ty.specs.declared.Head.TheVariants.{Scalar, Vector, Matrix, Array, Struct}
use Rattle.ty.proofs.Heads.{array_is, struct_is}
use Rattle.record.specs.Bytes.{Put, Takes}
use Rattle.record.proofs.Puts.{put_put, put_length}
use Rattle.write_layout.specs.Memory.{LiteralsRoom, LiteralsMoved, ColumnsRoom, ColumnsMoved, Value, ValueRoom, Elements}
use Rattle.write_layout.specs.Memory.{ElementsRoom, ElementsMoved, MembersRoom, MembersMoved}
use Rattle.write_layout.proofs.Parts.{in_table}
use Rattle.write_layout.proofs.ByType.{LiteralsOf, ColumnsOf, ElementsOf, MembersOf, scalar_value, vector_value, matrix_value}
use Rattle.write_layout.proofs.ByType.{array_value, struct_value, scalar_elements, vector_elements}

-- ---- literals and columns

module _ {s : List ℕ} {at n k e : ℕ} {bs : List ℕ} (x : LiteralsOf s at n k e bs) {out : List ℕ} {to : ℕ} where
  literals_room : Takes out to bs → LiteralsRoom s at n k out to
  literals_room l = record { kind = x.kind; payloads = x.payloads; end = e; has = x.has; room = rw x.mem at l }

  literals_done : {from r : ℕ} {out' : List ℕ} → LiteralsMoved s at n k out to from r out' → (from ≡ e) × Put out to bs r out'
  literals_done y = let z = y e x.kind x.payloads x.has in (z.0, rw x.mem z.1)

module _ {s : List ℕ} {at n r k pad e : ℕ} {bs : List ℕ} (x : ColumnsOf s at n r k pad e bs) {out : List ℕ} {to : ℕ} where
  columns_room : Takes out to bs → ColumnsRoom s at n r k pad out to
  columns_room l = record { kind = x.kind; columns = x.columns; end = e; has = x.has; room = rw x.mem at l }

  columns_done : {from q : ℕ} {out' : List ℕ} → ColumnsMoved s at n r k pad out to from q out' → (from ≡ e) × Put out to bs q out'
  columns_done y = let z = y e x.kind x.columns x.has in (z.0, rw x.mem z.1)

-- ---- what each arm of `write_value` and `write_member` asks

module _ {d : ℕ} {ty : List ℕ} {o : ℕ} {pads s : List ℕ} {at : ℕ} {out : List ℕ} {to : ℕ} (p : ValueRoom d ty o pads s at out to) where
  pub value_stands : Standing d ty o
  value_stands = record { type = type_of p.value; end = p.ty_end; stands = p.is.stands }

  pub table_here : o < length pads
  table_here = omega (arith, in_table p.is.stands, p.is.long)

  module _ {r : Head} (h : HeadAt d ty o r) where
    told : {q : Head} → r ≡ q → q ≡ head_of (type_of p.value)
    told f = sym f ∙ h (type_of p.value) p.ty_end p.is.stands

    module _ {k : ℕ} (f : r ≡ Scalar k) where
      pub scalar_room : LiteralsRoom s at 1 k out to
      scalar_room = literals_room (scalar_value p.is (told f)).0 p.room

    module _ {n k : ℕ} (f : r ≡ Vector n k) where
      pub vector_room : {rows : ℕ} → rows ≡ n → LiteralsRoom s (at + 3) rows k out to
      vector_room m = rw m (literals_room (vector_value p.is (told f)).0 p.room)

    module _ {c w k : ℕ} (f : r ≡ Matrix c w k) where
      pub matrix_room : {cols : ℕ} → cols ≡ c → ColumnsRoom s (at + 4) cols w k (get_or pads o 0) out to
      matrix_room m = rw m (columns_room (matrix_value p.is (told f)).0 p.room)

    module _ {n : ℕ} (f : r ≡ Array n) where
      elements : ElementsOf (d - 1) ty (o + 4) n (get_or pads o 0) pads s (at + 4) p.ty_end p.end (mem_bytes p.value)
      elements = array_value p.is (told f)

      pub array_deep : 1 ≤ d
      array_deep = (array_is p.is.stands (told f)).deep

      pub array_room : ElementsRoom (d - 1) ty (o + 4) n (get_or pads o 0) pads s (at + 4) out to
      array_room =
          record {
            type = elements.type;
            values = elements.values;
            ty_end = p.ty_end;
            end = p.end;
            are = elements.are;
            room = rw elements.mem at p.room;
          }

    module _ {i n : ℕ} (f : r ≡ Struct i n) where
      members : MembersOf (d - 1) ty (o + 6) n (get_or pads o 0) pads s (at + 6) p.ty_end p.end (mem_bytes p.value)
      members = struct_value p.is (told f)

      members_long : length (mem_bytes p.value) ≡ length (mem_members 0 members.values) + length (zeros (get_or pads o 0))
      members_long = ap length members.mem ∙ length-append (mem_members 0 members.values) (zeros (get_or pads o 0))

      pub struct_deep : 1 ≤ d
      struct_deep = (struct_is p.is.stands (told f)).deep

      pub struct_room : MembersRoom (d - 1) ty (o + 6) n pads s (at + 6) out to
      struct_room =
          record {
            values = members.values;
            ty_end = p.ty_end;
            end = p.end;
            off = 0;
            are = members.are;
            room = omega (arith, p.room, members_long);
          }

      -- behind the members
      pub struct_pad : {q' e' q : ℕ} {between : List ℕ} → MembersMoved (d - 1) ty (o + 6) n pads s (at + 6) out to q' e' q between
          → Takes between q (zeros (get_or pads o 0))
      struct_pad y =
          let w = (y p.ty_end p.end 0 members.values members.are).2 in
          omega (arith, w.end, put_length w, p.room, members_long)

-- ---- what each arm of `write_value` and `write_member` has written

module _ {d : ℕ} {ty : List ℕ} {o : ℕ} {pads s : List ℕ} {at q e : ℕ} {v : Val} (x : Value d ty o pads s at q e v) {h : Head}
    (a : HeadAt d ty o h) where
  said : {g : Head} → h ≡ g → g ≡ head_of (type_of v)
  said f = sym f ∙ a (type_of v) q x.stands

  module _ {out out' : List ℕ} {to : ℕ} where
    pub scalar_done : {k from r : ℕ} → h ≡ Scalar k → LiteralsMoved s at 1 k out to from r out' → (o + 3 ≡ q) × (from ≡ e)
        × Put out to (mem_bytes v) r out'
    scalar_done f y = let z = scalar_value x (said f) in let w = literals_done z.0 y in (z.1, w.0, w.1)

    pub vector_done : {n k rows from r : ℕ} → h ≡ Vector n k → rows ≡ n → LiteralsMoved s (at + 3) rows k out to from r out'
        → (o + 6 ≡ q) × (from ≡ e) × Put out to (mem_bytes v) r out'
    vector_done f m y = let z = vector_value x (said f) in let w = literals_done z.0 (rw m at y) in (z.1, w.0, w.1)

    pub matrix_done : {c w k cols from r : ℕ} → h ≡ Matrix c w k → cols ≡ c
        → ColumnsMoved s (at + 4) cols w k (get_or pads o 0) out to from r out'
        → (o + 7 ≡ q) × (from ≡ e) × Put out to (mem_bytes v) r out'
    matrix_done f m y = let z = matrix_value x (said f) in let w = columns_done z.0 (rw m at y) in (z.1, w.0, w.1)

    pub array_done : {n q' e' r : ℕ} → h ≡ Array n → ElementsMoved (d - 1) ty (o + 4) n (get_or pads o 0) pads s (at + 4) out to q' e' r out'
        → (q' ≡ q) × (e' ≡ e) × Put out to (mem_bytes v) r out'
    array_done f y =
        let z = array_value x (said f) in
        let w = y q e z.type z.values z.are in
        (w.0, w.1, rw z.mem w.2)

    pub struct_done : {i n q' e' r t : ℕ} {between : List ℕ} → h ≡ Struct i n
        → MembersMoved (d - 1) ty (o + 6) n pads s (at + 6) out to q' e' r between
        → Put between r (zeros (get_or pads o 0)) t out'
        → (q' ≡ q) × (e' ≡ e) × Put out to (mem_bytes v) t out'
    struct_done f y b =
        let z = struct_value x (said f) in
        let w = y q e 0 z.values z.are in
        (w.0, w.1, rw z.mem (put_put w.2 b))

-- ---- elements that are scalars or vectors

module _ {d : ℕ} {ty : List ℕ} {o n pad : ℕ} {pads s : List ℕ} {at : ℕ} {out : List ℕ} {to : ℕ}
    (p : ElementsRoom d ty o n pad pads s at out to) where
  pub elements_stand : Standing d ty o
  elements_stand = record { type = p.type; end = p.ty_end; stands = p.are.stands }

  module _ {r : Head} (h : HeadAt d ty o r) where
    element_told : {q : Head} → r ≡ q → q ≡ head_of p.type
    element_told f = sym f ∙ h p.type p.ty_end p.are.stands

    module _ {k : ℕ} (f : r ≡ Scalar k) where
      pub scalars_room : LiteralsRoom s at n k out to
      scalars_room = literals_room (scalar_elements p.are (element_told f)).0 p.room

    module _ {w k : ℕ} (f : r ≡ Vector w k) where
      pub vectors_room : ColumnsRoom s at n w k pad out to
      vectors_room = columns_room (vector_elements p.are (element_told f)).0 p.room

module _ {d : ℕ} {ty : List ℕ} {o n pad : ℕ} {pads s : List ℕ} {at q e : ℕ} {t : Ty} {l : Vals}
    (x : Elements d ty o n pad pads s at q e t l) {h : Head} (a : HeadAt d ty o h) where
  element_said : {g : Head} → h ≡ g → g ≡ head_of t
  element_said f = sym f ∙ a t q x.stands

  module _ {out out' : List ℕ} {to : ℕ} where
    pub scalars_done : {k from r : ℕ} → h ≡ Scalar k → LiteralsMoved s at n k out to from r out' → (o + 3 ≡ q) × (from ≡ e)
        × Put out to (mem_elements l) r out'
    scalars_done f y = let z = scalar_elements x (element_said f) in let w = literals_done z.0 y in (z.1, w.0, w.1)

    pub vectors_done : {w k from r : ℕ} → h ≡ Vector w k → ColumnsMoved s at n w k pad out to from r out'
        → (o + 6 ≡ q) × (from ≡ e) × Put out to (mem_elements l) r out'
    vectors_done f y = let z = vector_elements x (element_said f) in let w = columns_done z.0 y in (z.1, w.0, w.1)
