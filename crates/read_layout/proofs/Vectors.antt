-- A vector, which is its mark and its scalars, and the loop over vectors with padding behind each.
use mathlib.Core.Path.{◌≡◌, refl, ap, ◌∙◌}
use mathlib.Core.List.{List, [], ◌∷◌}
use Prim.Native.Nat.{ℕ, ◌+◌, ◌-◌, ◌*◌, ◌≤◌, ◌<◌}
use native.Mathlib.Omega.{arith}
use lib.ListN.{length, drop, length-append}
use Rattle.meaning.specs.Kinds.{Kind, kind_no}
use Rattle.meaning.specs.Records.{‘V’, ‘v’}
use Rattle.meaning.specs.Layout.{scalar_size, vec_align, col_stride}
use Rattle.memory.proofs.RoundUp.{up_more, vec_align_lem}
use Rattle.record.specs.Bytes.{Put}
use Rattle.record.proofs.Puts.{put_put, put_length}
use Rattle.read_layout.specs.Memory.{scalars_from, ScalarsRoom, ScalarsMoved, vector_from, VectorRoom, VectorMoved, columns_from}
use Rattle.read_layout.specs.Memory.{ColumnsRoom}
use Rattle.read_layout.proofs.Apart.{each_from, Apart, apart_all, apart_within, apart_room, apart_on, apart_end}
use Rattle.read_layout.proofs.Parts.{vector_from_lem, vector_there}

-- ---- a vector

module _ {mem : List ℕ} {at n k : ℕ} {out : List ℕ} {to : ℕ} (g : VectorRoom mem at n k out to) where
  long : length (vector_from mem at n g.kind) ≡ 3 + length (scalars_from mem at n g.kind)
  long = ap length (vector_from_lem mem at n g.kind) ∙ length-append (‘V’ ∷ ‘v’ ∷ n ∷ []) (scalars_from mem at n g.kind)

  pub vector_front : to + 3 ≤ length out
  vector_front = omega (arith, g.room, long)

  module _ {m q : ℕ} {mid : List ℕ} (e : m ≡ n) (y : Put out to (‘V’ ∷ ‘v’ ∷ n ∷ []) q mid) where
    pub vector_scalars : ScalarsRoom mem at m k mid q
    vector_scalars = rw e record {
      kind = g.kind;
      no = g.no;
      within = g.within;
      room = omega
          (arith, g.room, long, y.end, put_length y);
    }

    pub vector_done : {from r : ℕ} {out' : List ℕ} → ScalarsMoved mem at m k mid q from r out' → VectorMoved mem at n k out to from r out'
    vector_done z j p = let x = rw e at (z j p) in (x.0, rw (vector_from_lem mem at n j) (put_put y x.1))

-- ---- vectors apart from one another

-- a column's padding fills its stride
column_wide : (r : ℕ) (j : Kind) → r * scalar_size j ≤ col_stride r j
unfolding col_stride
column_wide r j = up_more (vec_align r j) (vec_align_lem r j) (r * scalar_size j)

vector_here : (mem : List ℕ) (at r : ℕ) (j : Kind) → vector_there r j (drop at mem) ≡ vector_from mem at r j
unfolding vector_from
vector_here mem at r j = refl

columns_from_lem : (mem : List ℕ) (at n r : ℕ) (j : Kind) → columns_from mem at n r j ≡ each_from (vector_there r j) (col_stride r j) mem at n
unfolding columns_from
columns_from_lem mem at n r j = refl

abbrev pub ColumnsLeft : List ℕ → ℕ → ℕ → ℕ → ℕ → ℕ → List ℕ → ℕ → List ℕ → ℕ → ℕ → ℕ → Type 0
ColumnsLeft mem at n r k pad out₀ to out i p done =
    (j : Kind) → k ≡ kind_no j → pad ≡ col_stride r j - r * scalar_size j
    → Apart (vector_there r j) (col_stride r j) mem at n out₀ to out i p done

pub columns_all : (mem : List ℕ) (at n r k pad : ℕ) (out : List ℕ) (to : ℕ) → ColumnsLeft mem at n r k pad out to out at to 0
columns_all mem at n r k pad out to j e q = apart_all (vector_there r j) (col_stride r j) mem at n out to

module _ {mem : List ℕ} {at n r k pad : ℕ} {out₀ : List ℕ} {to : ℕ} {out : List ℕ} {i p done : ℕ}
    (g : ColumnsRoom mem at n r k pad out₀ to) (v : ColumnsLeft mem at n r k pad out₀ to out i p done) where
  here : Apart (vector_there r g.kind) (col_stride r g.kind) mem at n out₀ to out i p done
  here = v g.kind g.no g.padding

  module _ (h : done < n) where
    pub column_room : VectorRoom mem i r k out p
    column_room =
        let j = g.kind in
        record {
          kind = j;
          no = g.no;
          within = omega (arith, apart_within here h g.within, column_wide r j);
          room = rw (vector_here mem i r j) at (apart_room here h (rw (columns_from_lem mem at n r j) at g.room));
        }

    module _ {from q skip : ℕ} {out' : List ℕ} (z : VectorMoved mem i r k out p from q out') (s : skip ≡ pad) where
      next : (j : Kind) → k ≡ kind_no j → pad ≡ col_stride r j - r * scalar_size j → from + skip ≡ i + col_stride r j
      next j e d = omega (arith, (z j e).0, column_wide r j)

      pub column_on : ColumnsLeft mem at n r k pad out₀ to out' (from + skip) q (done + 1)
      column_on j e d = apart_on (v j e d) h (next j e d) (rw (vector_here mem i r j) (z j e).1)

  pub columns_end : done ≡ n → (j : Kind) → k ≡ kind_no j → pad ≡ col_stride r j - r * scalar_size j
      → (i ≡ at + n * col_stride r j) × Put out₀ to (columns_from mem at n r j) p out
  columns_end h j e d = rw (columns_from_lem mem at n r j) (apart_end (v j e d) h)
