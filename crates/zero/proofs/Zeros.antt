-- The arms of `write_zero`: what each writes is the zero value, and there is room for it; and the loops over elements and members.
use mathlib.Core.Path.{◌≡◌, sym, ap, ◌∙◌}
use mathlib.Core.List.{List, ◌++◌}
use Prim.Native.Nat.{ℕ, ◌+◌, ◌-◌, ◌≤◌, ◌<◌}
use native.Mathlib.Omega.{arith}
use native.Mathlib.Nat.{sub-zero}
use lib.ListN.{length, length-append}
use Rattle.meaning.specs.Trees.{Ty, Tys, zero_of, zeros_of}
use Rattle.meaning.specs.Records.{val_bytes, vals_bytes}
use Rattle.ty.specs.Stands.{Stands, StandAll, Standing}
use Rattle.ty.specs.Heads.{head_of, HeadAt}
use Rattle.ty.specs.declared.Head.{Head}
use Rattle.ty.specs.declared.Head.TheVariants.{Scalar, Vector, Matrix, Array, Struct}
use Rattle.ty.proofs.Heads.{scalar_is, vector_is, matrix_is, array_is, struct_is, ArrayIs, StructIs, first_is, none_is, FirstIs}
use Rattle.record.specs.Bytes.{Put, times, Takes}
use Rattle.record.specs.Fronts.{array_front, struct_front}
use Rattle.record.specs.Literals.{literal_of}
use Rattle.record.proofs.Left.{Left, left_all, one_less, copies_all, left_room, left_on, left_end, Copies, copies_room, copies_on, copies_end}
use Rattle.zero.specs.Zeros.{vector_of, matrix_of, ZeroRoom, Zeroes, ElementsRoom, ZeroesEach, MembersRoom, ZeroesAll}
use Rattle.record.proofs.Puts.{put_put}
use Rattle.zero.proofs.Bytes.{zero_long, scalar_zero, vector_zero, matrix_zero, array_zero, struct_zero, more_zeros, no_zeros}

-- ---- what is written for each front is the zero value

-- of a type without parts: its zero value's bytes are bs, and e is where its record ends
pub record ZeroIs (bs : List ℕ) (t : Ty) (e e' : ℕ) : Type 0 where
  pub bytes : val_bytes (zero_of t) ≡ bs
  pub end : e ≡ e'

zero_of_lem : {t u : Ty} → t ≡ u → val_bytes (zero_of t) ≡ val_bytes (zero_of u)
zero_of_lem e = ap (λ (u : Ty). val_bytes (zero_of u)) e

module _ {d : ℕ} {ty : List ℕ} {at : ℕ} {t : Ty} {e : ℕ} (w : Stands d ty at t e) where
  pub scalar_zero_is : {k : ℕ} → Scalar k ≡ head_of t → ZeroIs (literal_of k 0) t (at + 3) e
  scalar_zero_is h = let x = scalar_is w h in record {
    bytes = zero_of_lem x.is
        ∙ (scalar_zero x.kind ∙ ap (λ (n : ℕ). literal_of n 0) (sym x.no));
    end = x.end;
  }

  pub vector_zero_is : {n k : ℕ} → Vector n k ≡ head_of t → ZeroIs (vector_of n k) t (at + 6) e
  vector_zero_is {n} h = let x = vector_is w h in record {
    bytes = zero_of_lem x.is
        ∙ (vector_zero n x.kind ∙ ap (vector_of n) (sym x.no));
    end = x.end;
  }

  pub matrix_zero_is : {c r k : ℕ} → Matrix c r k ≡ head_of t → ZeroIs (matrix_of c r k) t (at + 7) e
  matrix_zero_is {c} {r} h = let x = matrix_is w h in record {
    bytes = zero_of_lem x.is
        ∙ (matrix_zero c r x.kind ∙ ap (matrix_of c r) (sym x.no));
    end = x.end;
  }

  array_bytes : {n : ℕ} → (x : ArrayIs d ty at n t e) → val_bytes (zero_of t) ≡ array_front n ++ times n (val_bytes (zero_of x.elem))
  array_bytes {n} x = zero_of_lem x.is ∙ array_zero n x.elem

  struct_bytes : {i n : ℕ} → (x : StructIs d ty at i n t e) → val_bytes (zero_of t) ≡ struct_front i n ++ vals_bytes (zeros_of x.members)
  struct_bytes {i} x =
      zero_of_lem x.is ∙ (struct_zero i x.members ∙ ap (λ (c : ℕ). struct_front i c ++ vals_bytes (zeros_of x.members)) x.parts.count)

  module _ {out out' : List ℕ} {to : ℕ} where
    pub whole_done : {bs : List ℕ} {e' r : ℕ} → ZeroIs bs t e' e → Put out to bs r out' → (e' ≡ e) × Put out to (val_bytes (zero_of t)) r out'
    whole_done x y = (x.end, rw x.bytes y)

    pub array_done : {n : ℕ} {mid : List ℕ} {q e' r : ℕ} → Array n ≡ head_of t → Put out to (array_front n) q mid
        → ZeroesEach (d - 1) ty (at + 4) n mid q e' r out'
        → (e' ≡ e) × Put out to (val_bytes (zero_of t)) r out'
    array_done h y z = let x = array_is w h in let v = z x.elem e x.part in (v.0, rw (array_bytes x) (put_put y v.1))

    pub struct_done : {i n : ℕ} {mid : List ℕ} {q e' r : ℕ} → Struct i n ≡ head_of t → Put out to (struct_front i n) q mid
        → ZeroesAll (d - 1) ty (at + 6) n mid q e' r out'
        → (e' ≡ e) × Put out to (val_bytes (zero_of t)) r out'
    struct_done h y z = let x = struct_is w h in let v = z x.members e x.parts in (v.0, rw (struct_bytes x) (put_put y v.1))

-- ---- the room that each of them has

module _ {d : ℕ} {ty : List ℕ} {at : ℕ} {out : List ℕ} {to : ℕ} (p : ZeroRoom d ty at out to) where
  pub room_stands : Standing d ty at
  room_stands = record { type = p.type; end = p.end; stands = p.stands }

  all : Takes out to (val_bytes (zero_of p.type))
  all = omega (arith, p.room, zero_long p.type p.stands.shaped)

  module _ {r : Head} (h : HeadAt d ty at r) where
    told : {q : Head} → r ≡ q → q ≡ head_of p.type
    told e = sym e ∙ h p.type p.end p.stands

    pub scalar_room : {k : ℕ} → r ≡ Scalar k → Takes out to (literal_of k 0)
    scalar_room e = rw (scalar_zero_is p.stands (told e)).bytes at all

    pub vector_room : {n k : ℕ} → r ≡ Vector n k → Takes out to (vector_of n k)
    vector_room e = rw (vector_zero_is p.stands (told e)).bytes at all

    pub matrix_room : {c l k : ℕ} → r ≡ Matrix c l k → Takes out to (matrix_of c l k)
    matrix_room e = rw (matrix_zero_is p.stands (told e)).bytes at all

    module _ {n : ℕ} (e : r ≡ Array n) where
      array : ArrayIs d ty at n p.type p.end
      array = array_is p.stands (told e)

      array_long : length (val_bytes (zero_of p.type)) ≡ length (array_front n) + length (times n (val_bytes (zero_of array.elem)))
      array_long = ap length (array_bytes p.stands array) ∙ length-append (array_front n) (times n (val_bytes (zero_of array.elem)))

      pub array_room : Takes out to (array_front n)
      array_room = omega (arith, all, array_long)

      pub array_deep : 1 ≤ d
      array_deep = array.deep

      pub array_parts : {mid : List ℕ} {q : ℕ} → Put out to (array_front n) q mid → length mid ≡ length out
          → ElementsRoom (d - 1) ty (at + 4) n mid q
      array_parts y l = record {
        type = array.elem;
        end = p.end;
        stands = array.part;
        some = array.some;
        room = omega
            (arith, all, array_long, y.end);
      }

    module _ {i n : ℕ} (e : r ≡ Struct i n) where
      struct : StructIs d ty at i n p.type p.end
      struct = struct_is p.stands (told e)

      struct_long : length (val_bytes (zero_of p.type)) ≡ length (struct_front i n) + length (vals_bytes (zeros_of struct.members))
      struct_long = ap length (struct_bytes p.stands struct) ∙ length-append (struct_front i n) (vals_bytes (zeros_of struct.members))

      pub struct_room : Takes out to (struct_front i n)
      struct_room = omega (arith, all, struct_long)

      pub struct_deep : 1 ≤ d
      struct_deep = struct.deep

      pub struct_parts : {mid : List ℕ} {q : ℕ} → Put out to (struct_front i n) q mid → length mid ≡ length out
          → MembersRoom (d - 1) ty (at + 6) n mid q
      struct_parts y l = record {
        types = struct.members;
        end = p.end;
        stands = struct.parts;
        room = omega
            (arith, all, struct_long, y.end);
      }

-- ---- the loop over elements: after the first, `end` is where their type's record ends

pub record EachLeft (t : Ty) (e n : ℕ) (out₀ : List ℕ) (to end p i : ℕ) (out : List ℕ) : Type 0 where
  pub after : 0 < i → end ≡ e
  pub rest : Copies (val_bytes (zero_of t)) n out₀ to out p i

pub each_first : (t : Ty) (e n : ℕ) (out : List ℕ) (to end : ℕ) → EachLeft t e n out to end to 0 out
each_first t e n out to end = record { after = λ h. absurd (omega arith); rest = copies_all (val_bytes (zero_of t)) n out to }

module _ {d : ℕ} {ty : List ℕ} {at : ℕ} {t : Ty} {e n : ℕ} {out₀ : List ℕ} {to end p i : ℕ} {out : List ℕ} (w : Stands d ty at t e)
    (g : EachLeft t e n out₀ to end p i out) where
  pub each_room : i < n → Takes out₀ to (times n (val_bytes (zero_of t))) → ZeroRoom d ty at out p
  each_room h l = record { type = t; end = e; stands = w; room = omega (arith, copies_room g.rest h l, zero_long t w.shaped) }

  pub each_on : i < n → {e' q : ℕ} {out' : List ℕ} → Zeroes d ty at out p e' q out' → EachLeft t e n out₀ to e' q (i + 1) out'
  each_on h z = let y = z t e w in record { after = λ l. y.0; rest = copies_on g.rest h y.1 }

  pub each_end : 1 ≤ n → i ≡ n → (end ≡ e) × Put out₀ to (times n (val_bytes (zero_of t))) p out
  each_end s h = (g.after (omega arith), copies_end g.rest h)

-- ---- the loop over members: n of them, of which i are written

pub record AllLeft (d : ℕ) (ty : List ℕ) (m₀ : Tys) (e n : ℕ) (out₀ : List ℕ) (to at p i : ℕ) (out : List ℕ) : Type 0 where
  pub types : Tys
  pub stands : StandAll d ty at (n - i) types e
  pub rest : Left out₀ to (vals_bytes (zeros_of m₀)) out p (vals_bytes (zeros_of types))

pub all_first : {d : ℕ} {ty : List ℕ} {m : Tys} {e n at : ℕ} (out : List ℕ) (to : ℕ) → StandAll d ty at n m e → AllLeft d ty m e n out to at to 0 out
all_first {m = m} {n = n} out to w = record {
  types = m;
  stands = rw (sub-zero n) w;
  rest = left_all out to (vals_bytes (zeros_of m));
}

module _ {d : ℕ} {ty : List ℕ} {m₀ : Tys} {e n : ℕ} {out₀ : List ℕ} {to at p i : ℕ} {out : List ℕ}
    (g : AllLeft d ty m₀ e n out₀ to at p i out) where
  module _ (h : i < n) where
    first : FirstIs d ty at (n - i) g.types e
    first = first_is g.stands (omega arith)

    bytes : vals_bytes (zeros_of g.types) ≡ val_bytes (zero_of first.type) ++ vals_bytes (zeros_of first.others)
    bytes = ap (λ (m : Tys). vals_bytes (zeros_of m)) first.is ∙ more_zeros first.type first.others

    pub all_room : Takes out₀ to (vals_bytes (zeros_of m₀)) → ZeroRoom d ty at out p
    all_room l =
        record {
          type = first.type;
          end = first.mid;
          stands = first.first;
          room = omega (
            arith,
            left_room g.rest (val_bytes (zero_of first.type)) (vals_bytes (zeros_of first.others)) bytes l,
            zero_long
                first.type first.first.shaped,
          );
        }

    pub all_on : {e' q : ℕ} {out' : List ℕ} → Zeroes d ty at out p e' q out' → AllLeft d ty m₀ e n out₀ to e' q (i + 1) out'
    all_on z =
        let y = z first.type first.mid first.first in
        record {
          types = first.others;
          stands = rw (y.0, ← one_less n i) first.rest;
          rest = left_on g.rest _ _ bytes y.1;
        }

  pub all_end : i ≡ n → (at ≡ e) × Put out₀ to (vals_bytes (zeros_of m₀)) p out
  all_end h =
      let x = none_is g.stands (omega arith) in
      (x.1, left_end g.rest (ap (λ (m : Tys). vals_bytes (zeros_of m)) x.0 ∙ no_zeros))
