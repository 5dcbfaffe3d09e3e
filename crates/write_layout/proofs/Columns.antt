-- Columns in a row: the first of them, and the loop that writes each with its padding.
use mathlib.Core.Path.{◌≡◌, refl, sym, ap, ◌∙◌}
use mathlib.Core.List.{List, [], ◌∷◌, ◌++◌, append_assoc}
use Prim.Native.Nat.{ℕ, ◌+◌, ◌-◌, ◌*◌, ◌≤◌, ◌<◌}
use native.Mathlib.Omega.{arith}
use native.Mathlib.Nat.{sub-zero}
use lib.ListN.{length}
use Rattle.meaning.specs.Kinds.{Kind}
use Rattle.meaning.specs.Records.{joined, lit_bytes, vec_bytes}
use Rattle.meaning.specs.Layout.{scalar_size, col_stride, zeros, mem_vec, mem_col}
use Rattle.record.specs.Bytes.{Put, Takes}
use Rattle.record.proofs.Left.{Left, left_all, one_less, left_room, left_on, left_end}
use Rattle.write_layout.specs.Memory.{Literals, LiteralsRoom, LiteralsMoved, Columns}
use Rattle.write_layout.proofs.Parts.{bytes_rest, bytes_first, bytes_none}

-- the literals of the first column, and the columns behind it
pub record FirstColumn (s : List ℕ) (at n r k pad e : ℕ) (j : Kind) (cols : List (List ℕ)) : Type 0 where
  pub payloads : List ℕ
  pub others : List (List ℕ)
  pub mid : ℕ
  pub is : cols ≡ payloads ∷ others
  pub within : at + 3 ≤ length s
  pub has : Literals s (at + 3) r k mid j payloads
  pub next : Columns s mid (n - 1) r k pad e j others

module _ {s : List ℕ} {at n r k pad e : ℕ} {j : Kind} where
  pub first_column : {cols : List (List ℕ)} → Columns s at n r k pad e j cols → 0 < n → FirstColumn s at n r k pad e j cols
  unfolding joined vec_bytes
  first_column {cols = []} x h = absurd (omega (arith, x.count))
  first_column {cols = ps ∷ cols} x h =
      let a = bytes_rest (86 ∷ 118 ∷ length ps ∷ []) (joined (lit_bytes j) ps)
      (bytes_first (vec_bytes j ps) (joined (vec_bytes j) cols) x.bytes) in
      record {
        payloads = ps;
        others = cols;
        mid = at + length (vec_bytes j ps);
        is = refl;
        within = omega (arith, a.size, a.within);
        has = record { no = x.no; bytes = a; good = x.each.0.1; count = x.each.0.0 };
        next = record {
          no = x.no;
          bytes = bytes_rest (vec_bytes j ps) (joined (vec_bytes j) cols) x.bytes;
          each = x.each.1;
          count = omega (arith, x.count);
          padding = x.padding;
        };
      }

  pub no_column : {cols : List (List ℕ)} → Columns s at n r k pad e j cols → n ≡ 0 → (cols ≡ []) × (at ≡ e)
  unfolding joined
  no_column {cols = []} x h = (refl, bytes_none x.bytes)
  no_column {cols = ps ∷ cols} x h = absurd (omega (arith, x.count))

-- ---- the loop: of n columns, `done` are written

pub record ColumnsLeft (s : List ℕ) (n r k pad e : ℕ) (j : Kind) (cols₀ : List (List ℕ)) (out₀ : List ℕ) (to i p done : ℕ) (out : List ℕ) :
    Type 0 where
  pub columns : List (List ℕ)
  pub has : Columns s i (n - done) r k pad e j columns
  pub rest : Left out₀ to (joined (mem_col r j) cols₀) out p (joined (mem_col r j) columns)

pub columns_all : {s : List ℕ} {at n r k pad e : ℕ} {j : Kind} {cols : List (List ℕ)} (out : List ℕ) (to : ℕ)
    → Columns s at n r k pad e j cols → ColumnsLeft s n r k pad e j cols out to at to 0 out
columns_all {n = n} {r = r} {j = j} {cols = cols} out to x =
    record { columns = cols; has = rw (sub-zero n) x; rest = left_all out to (joined (mem_col r j) cols) }

module _ {s : List ℕ} {n r k pad e : ℕ} {j : Kind} {cols₀ : List (List ℕ)} {out₀ : List ℕ} {to i p done : ℕ} {out : List ℕ}
    (g : ColumnsLeft s n r k pad e j cols₀ out₀ to i p done out) where
  module _ (h : done < n) where
    here : FirstColumn s i (n - done) r k pad e j g.columns
    here = first_column g.has (omega arith)

    behind : List ℕ
    behind = joined (mem_col r j) here.others

    mem : joined (mem_col r j) g.columns ≡ mem_vec j here.payloads ++ (zeros pad ++ behind)
    unfolding joined mem_col behind
    mem =
        ap (joined (mem_col r j)) here.is
        ∙ (append_assoc (mem_vec j here.payloads) (zeros (col_stride r j - r * scalar_size j)) behind
        ∙ ap (λ (n : ℕ). mem_vec j here.payloads ++ (zeros n ++ behind)) (sym g.has.padding))

    module _ {rows : ℕ} (m : rows ≡ r) where
      pub column_room : Takes out₀ to (joined (mem_col r j) cols₀) → LiteralsRoom s (i + 3) rows k out p
      column_room l =
          record {
            kind = j;
            payloads = here.payloads;
            end = here.mid;
            has = rw m here.has;
            room = left_room g.rest (mem_vec j here.payloads) (zeros pad ++ behind) mem l;
          }

      -- behind its scalars
      module _ {from q : ℕ} {between : List ℕ} (y : LiteralsMoved s (i + 3) rows k out p from q between) where
        moved : (from ≡ here.mid) × Put out p (mem_vec j here.payloads) q between
        moved = y here.mid j here.payloads (rw m here.has)

        padding_left : Left out₀ to (joined (mem_col r j) cols₀) between q (zeros pad ++ behind)
        padding_left = left_on g.rest (mem_vec j here.payloads) (zeros pad ++ behind) mem moved.1

        pub column_pad : Takes out₀ to (joined (mem_col r j) cols₀) → Takes between q (zeros pad)
        column_pad l = left_room padding_left (zeros pad) behind refl l

        pub column_on : {t : ℕ} {out' : List ℕ} → Put between q (zeros pad) t out'
            → ColumnsLeft s n r k pad e j cols₀ out₀ to from t (done + 1) out'
        unfolding behind
        column_on z =
            record {
              columns = here.others;
              has = rw (moved.0, ← one_less n done) here.next;
              rest = left_on padding_left (zeros pad) behind refl z;
            }

  pub columns_end : done ≡ n → (i ≡ e) × Put out₀ to (joined (mem_col r j) cols₀) p out
  unfolding joined
  columns_end h = let x = no_column g.has (omega arith) in (x.1, left_end g.rest (ap (joined (mem_col r j)) x.0))
