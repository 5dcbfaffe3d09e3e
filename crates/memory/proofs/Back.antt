-- A value written and read by its type is the same value.
use mathlib.Core.Path.{◌≡◌, refl, sym, ap, ap₂, ◌∙◌, subst}
use mathlib.Core.List.{List, [], ◌∷◌, ◌++◌, map, append_assoc}
use Prim.Native.Nat.{ℕ, zero, suc, ◌+◌, ◌-◌, ◌*◌}
use native.Mathlib.Omega.{arith}
use lib.Dec.{T, eqb, eqb→eq}
use lib.ListN.{length, take, drop, length-append, take-append-drop}
use lib.Seq.{drop_at}
use Rattle.meaning.specs.Kinds.{Kind}
use Rattle.meaning.specs.Trees.{Ty, Tu, Val, Vs, Vv, Vm, Va, Vu, Vals, ⟨⟩, ◌▹◌, type_of, types_of, first, count_vals, vals_of}
use Rattle.meaning.specs.Records.{le, joined, columns, every, good_lit, shaped_val, shaped_vals, all_same}
use Rattle.meaning.specs.Read.{flat}
use Rattle.meaning.specs.Layout.{laid_kind, has_layout, have_layouts, scalar_size, round_up, align_of, col_stride, size_of, past_last, stride, zeros}
use Rattle.meaning.specs.Layout.{mem_vec, mem_col, mem_bytes, mem_elements, mem_members, apart, mem_scalars, mem_value, mem_values}
use Rattle.laws.proofs.AgreeConv.{AllTy, all_first}
use Rattle.laws.proofs.Back.{and_l, and_r}
use Rattle.laws.proofs.BackVal.{drop_len, take_len, every_take, every_drop}
use Rattle.laws.proofs.Length.{le_len}
use Rattle.record.proofs.Places.{past}
use Rattle.memory.proofs.RoundUp.{up_more, align_is}
use Rattle.memory.proofs.Length.{zeros_len, col_size, stride_more, mem_size}
use Rattle.memory.proofs.Numbers.{scalar_back}

-- ---- vectors and columns

vec_back : (k : Kind) (ps rest : List ℕ) → T (laid_kind k) → T (every (good_lit k) ps) → mem_scalars (length ps) k (mem_vec k ps ++ rest) ≡ ps
unfolding mem_scalars mem_vec joined apart every
vec_back k [] rest h g = refl
vec_back k (p ∷ ps) rest h g =
    let a : (le (scalar_size k) p ++ joined (le (scalar_size k)) ps) ++ rest ≡ le (scalar_size k) p ++
    (joined (le (scalar_size k)) ps ++ rest) = append_assoc (le (scalar_size k) p) (joined (le (scalar_size k)) ps) rest in
    let d : drop (scalar_size k) (le (scalar_size k) p ++ (joined (le (scalar_size k)) ps ++ rest)) ≡ joined (le (scalar_size k)) ps ++ rest =
    drop_at (le (scalar_size k) p) (joined (le (scalar_size k)) ps ++ rest) (scalar_size k) (le_len (scalar_size k) p) in
    rw (a, d) (ap₂ ◌∷◌ (scalar_back k h p (joined (le (scalar_size k)) ps ++ rest) (and_l (good_lit k p) (every (good_lit k) ps) g))
    (vec_back k ps rest h (and_r (good_lit k p) (every (good_lit k) ps) g)))

col_back : (r : ℕ) (k : Kind) (ps rest : List ℕ) → T (laid_kind k) → T (every (good_lit k) ps) → length ps ≡ r
    → mem_scalars r k (mem_col r k ps ++ rest) ≡ ps
unfolding mem_col
col_back r k ps rest h g n =
    let z = zeros (col_stride r k - r * scalar_size k) in
    rw (append_assoc (mem_vec k ps) z rest) (subst (λ (i : ℕ). mem_scalars i k (mem_vec k ps ++ (z ++ rest)) ≡ ps) n
    (vec_back k ps (z ++ rest) h g))

cols_back : (k : Kind) (c r : ℕ) (ps rest : List ℕ) → T (laid_kind k) → T (every (good_lit k) ps) → length ps ≡ c * r
    → flat (map (mem_scalars r k) (apart c (col_stride r k) (joined (mem_col r k) (columns c r ps) ++ rest))) ≡ ps
unfolding flat apart joined columns
cols_back k zero r [] rest h g n = refl
cols_back k zero r (p ∷ ps) rest h g n = absurd (omega arith)
cols_back k (suc c) r ps rest h g n =
    let one = take r ps in
    let others = joined (mem_col r k) (columns c r (drop r ps)) in
    let l : length one ≡ r = take_len c r ps n in
    let d : drop (col_stride r k) (mem_col r k one ++ (others ++ rest)) ≡ others ++ rest = drop_at (mem_col r k one) (others ++ rest)
    (col_stride r k) (col_size r k one l) in
    rw (
      append_assoc (mem_col r k one) others rest,
      d,
      cols_back k c r (drop r ps) rest h (every_drop (good_lit k) r ps g)
          (drop_len c r ps n),
      col_back r k one (others ++ rest) h (every_take (good_lit k) r ps g) l,
    ) (take-append-drop r ps)

-- ---- parts

-- behind two lists in a row; and further on in a list
pub behind : (x z more : List ℕ) (n : ℕ) → length x + length z ≡ n → drop n (x ++ (z ++ more)) ≡ more
behind x z more n e = rw (← append_assoc x z more) (drop_at (x ++ z) more n (length-append x z ∙ e))

pub further : (s x more : List ℕ) (at to : ℕ) → drop at s ≡ x ++ more → at + length x ≡ to → drop to s ≡ more
further s x more at to e h = rw (← h) (past s x more at e)

-- the first of some members stands at the next multiple of its alignment
pub first_member : (at : ℕ) (v : Val) (l : Vals) (s rest : List ℕ) → drop at s ≡ mem_members at (v ▹ l) ++ rest
    → drop (round_up (align_of (type_of v)) at) s ≡ mem_bytes v ++ (mem_members (round_up (align_of (type_of v)) at + size_of (type_of v)) l ++ rest)
unfolding mem_members
first_member at v l s rest e =
    let start = round_up (align_of (type_of v)) at in
    let z = zeros (start - at) in
    let others = mem_members (start + size_of (type_of v)) l in
    further s z (mem_bytes v ++ (others ++ rest)) at start
    (e ∙ (append_assoc z (mem_bytes v ++ others) rest ∙ ap (λ (y : List ℕ). z ++ y) (append_assoc (mem_bytes v) others rest)))
    (omega (arith, zeros_len (start - at), up_more (align_of (type_of v)) (align_is (type_of v)) at))

mutual
  unfolding mem_bytes mem_value type_of has_layout shaped_val count_vals apart vals_of

  pub mem_back : (v : Val) (rest : List ℕ) → T (shaped_val v) → T (has_layout (type_of v)) → mem_value (type_of v) (mem_bytes v ++ rest) ≡ v
  mem_back (Vs k p) rest g h = ap (Vs k) (scalar_back k h p rest g)
  mem_back (Vv k ps) rest g h = ap (Vv k) (vec_back k ps rest h g)
  mem_back (Vm c r k ps) rest g h =
      ap (Vm c r k) (cols_back k c r ps rest h (and_l (every (good_lit k) ps) (eqb (length ps) (c * r)) g)
      (eqb→eq (length ps) (c * r) (and_r (every (good_lit k) ps) (eqb (length ps) (c * r)) g)))
  mem_back (Va l) rest g h =
      ap Va (elements_back (first (types_of l)) l rest (all_first l (and_l (all_same (types_of l)) (shaped_vals l) g))
      (and_r (all_same (types_of l)) (shaped_vals l) g) h)
  mem_back (Vu i l) rest g h =
      let z = zeros (size_of (Tu i (types_of l)) - past_last 0 (types_of l)) in
      ap (Vu i) (members_back 0 l _ (z ++ rest) (append_assoc (mem_members 0 l) z rest) g h)

  elements_back : (t : Ty) (l : Vals) (rest : List ℕ) → AllTy t l → T (shaped_vals l) → T (has_layout t)
      → vals_of (map (mem_value t) (apart (count_vals l) (stride t) (mem_elements l ++ rest))) ≡ l
  elements_back t ⟨⟩ rest a g h = refl
  elements_back t (v ▹ l) rest a g h =
      let z = zeros (stride (type_of v) - size_of (type_of v)) in
      let more = mem_elements l ++ rest in
      let s = mem_bytes v ++ (z ++ more) in
      let gv = and_l (shaped_val v) (shaped_vals l) g in
      let e : (mem_bytes v ++ (z ++ mem_elements l)) ++ rest ≡ s = append_assoc (mem_bytes v) (z ++ mem_elements l) rest
      ∙ ap (λ (y : List ℕ). mem_bytes v ++ y) (append_assoc z (mem_elements l) rest) in
      let d : drop (stride t) s ≡ more = ap (λ (u : Ty). drop (stride u) s) (sym a.0)
      ∙ behind (mem_bytes v) z more (stride (type_of v)) (omega
      (arith, mem_size v gv, zeros_len (stride (type_of v) - size_of (type_of v)), stride_more (type_of v))) in
      let b : mem_value t s ≡ v = subst (λ (u : Ty). mem_value u s ≡ v) a.0
      (mem_back v (z ++ more) gv (subst (λ (u : Ty). T (has_layout u)) (sym a.0) h)) in
      rw (e, d) (ap₂ ◌▹◌ b (elements_back t l rest a.1 (and_r (shaped_val v) (shaped_vals l) g) h))

  members_back : (at : ℕ) (l : Vals) (s rest : List ℕ) → drop at s ≡ mem_members at l ++ rest → T (shaped_vals l)
      → T (have_layouts (types_of l)) → mem_values at (types_of l) s ≡ l
  members_back at ⟨⟩ s rest e g h = refl
  members_back at (v ▹ l) s rest e g h =
      let start = round_up (align_of (type_of v)) at in
      let next = start + size_of (type_of v) in
      let more = mem_members next l ++ rest in
      let gv = and_l (shaped_val v) (shaped_vals l) g in
      let p : drop start s ≡ mem_bytes v ++ more = first_member at v l s rest e in
      let q : drop next s ≡ more = further s (mem_bytes v) more start next p (omega (arith, mem_size v gv)) in
      let b : mem_value (type_of v) (drop start s) ≡ v = rw p (mem_back v more gv
      (and_l (has_layout (type_of v)) (have_layouts (types_of l)) h)) in
      ap₂ ◌▹◌ b (members_back next l s rest q (and_r (shaped_val v) (shaped_vals l) g)
      (and_r (has_layout (type_of v)) (have_layouts (types_of l)) h))
