-- What is read from memory and written again is the same bytes but for the padding, which is zero then.
use mathlib.Core.Path.{◌≡◌, refl, sym, ap, ap₂, ◌∙◌}
use mathlib.Core.List.{List, [], ◌∷◌, ◌++◌, map, append_assoc}
use mathlib.Core.Bool.{Bool, true, false, cond}
use Prim.Native.Nat.{ℕ, zero, suc, ◌+◌, ◌-◌, ◌*◌, ◌≤◌}
use native.Mathlib.Omega.{arith}
use native.Mathlib.Nat.{suc-mul, zero-mul}
use lib.Dec.{T}
use lib.ListN.{length, take, drop, replicate, length-append, length-replicate, length-drop}
use lib.Seq.{take_at, drop_at, drop-drop, take-add}
use Rattle.meaning.specs.Kinds.{Kind}
use Rattle.meaning.specs.Trees.{Ty, Ts, Tv, Tm, Ta, Tu, Tys, [·], ◌▸◌, Val, type_of, vals_of}
use Rattle.meaning.specs.Records.{joined, columns, shaped_ty, shaped_tys}
use Rattle.meaning.specs.Read.{flat}
use Rattle.meaning.specs.Layout.{scalar_size, round_up, align_of, col_stride, size_of, past_last, stride, zeros, mem_vec, mem_col, mem_bytes}
use Rattle.meaning.specs.Layout.{mem_elements, mem_members}
use Rattle.meaning.specs.Layout.{apart, mem_scalar, mem_scalars, mem_value, mem_values, repeat, used, used_by, cleared}
use Rattle.laws.proofs.Back.{and_l, and_r}
use Rattle.laws.proofs.Sound.{Bytes}
use Rattle.memory.proofs.RoundUp.{up_more, align_is}
use Rattle.memory.proofs.Length.{col_more, stride_more, last_more, past_more}
use Rattle.memory.proofs.Numbers.{number_same}
use Rattle.memory.proofs.Typed.{drop_bytes, scalars_len, mem_typed, all_typed, elem_shaped, members_shaped}

-- ---- clearing

cleared_append : (u w : List Bool) (s : List ℕ) → length u ≤ length s → cleared (u ++ w) s ≡ cleared u s ++ cleared w (drop (length u) s)
unfolding cleared
cleared_append [] w s h = refl
cleared_append (b ∷ u) w [] h = absurd (omega arith)
cleared_append (b ∷ u) w (x ∷ s) h = ap (λ (l : List ℕ). cond b x 0 ∷ l) (cleared_append u w s (omega arith))

cleared_used : (n : ℕ) (s : List ℕ) → cleared (replicate n true) s ≡ take n s
unfolding cleared
cleared_used zero s = refl
cleared_used (suc n) [] = refl
cleared_used (suc n) (x ∷ s) = ap (x ∷◌) (cleared_used n s)

cleared_padding : (n : ℕ) (s : List ℕ) → n ≤ length s → cleared (replicate n false) s ≡ zeros n
unfolding cleared zeros
cleared_padding zero s h = refl
cleared_padding (suc n) [] h = absurd (omega arith)
cleared_padding (suc n) (x ∷ s) h = ap (0 ∷◌) (cleared_padding n s (omega arith))

-- a part, and the padding behind it
cleared_part : (u : List Bool) (g n : ℕ) (w : List Bool) (s : List ℕ) → length u + g ≡ n → n ≤ length s
    → cleared ((u ++ replicate g false) ++ w) s ≡ (cleared u s ++ zeros g) ++ cleared w (drop n s)
cleared_part u g n w s e h =
    let l : length (u ++ replicate g false) ≡ n = length-append u (replicate g false)
    ∙ omega (arith, length-replicate {A = Bool} g false) in
    cleared_append (u ++ replicate g false) w s (omega arith)
    ∙ ap₂ ◌++◌ (cleared_append u (replicate g false) s (omega arith) ∙ ap (λ (x : List ℕ). cleared u s ++ x)
    (cleared_padding g (drop (length u) s) (omega (arith, length-drop (length u) s)))) (ap (λ (i : ℕ). cleared w (drop i s)) l)

-- ---- how many bytes are told

repeat_len : {A : Type 0} (n : ℕ) (l : List A) → length (repeat n l) ≡ n * length l
unfolding repeat
repeat_len zero l = sym (zero-mul (length l))
repeat_len (suc n) l = length-append l (repeat n l) ∙ omega (arith, repeat_len n l, suc-mul n (length l))

padded_len : (u : List Bool) (n m : ℕ) → length u ≡ n → n ≤ m → length (u ++ replicate (m - n) false) ≡ m
padded_len u n m e h = length-append u (replicate (m - n) false) ∙ omega (arith, length-replicate {A = Bool} (m - n) false)

mutual
  unfolding used size_of stride

  pub used_len : (t : Ty) → length (used t) ≡ size_of t
  used_len (Ts k) = length-replicate (scalar_size k) true
  used_len (Tv n k) = length-replicate (n * scalar_size k) true
  used_len (Tm c r k) =
      repeat_len c (replicate (r * scalar_size k) true ++ replicate (col_stride r k - r * scalar_size k) false)
      ∙ ap (λ (i : ℕ). c * i) (padded_len (replicate (r * scalar_size k) true) (r * scalar_size k) (col_stride r k)
      (length-replicate (r * scalar_size k) true) (col_more r k))
  used_len (Ta n t) = repeat_len n (used t ++ replicate (stride t - size_of t) false)
      ∙ ap (λ (i : ℕ). n * i) (padded_len (used t) (size_of t) (stride t) (used_len t) (stride_more t))
  used_len (Tu i m) = padded_len (used_by 0 m) (past_last 0 m) (size_of (Tu i m)) (omega (arith, used_past 0 m)) (last_more i m)

  pub used_past : (at : ℕ) (m : Tys) → at + length (used_by at m) ≡ past_last at m
  used_past at [·] = omega arith
  used_past at (t ▸ m) =
      let start = round_up (align_of t) at in
      let next = start + size_of t in
      let e = length-append (replicate (start - at) false) (used t ++ used_by next m) in
      let f = length-append (used t) (used_by next m) in
      let s : at + length (used_by at (t ▸ m)) ≡ next + length (used_by next m) = omega
      (arith, e, f, used_len t, length-replicate {A = Bool} (start - at) false, up_more (align_of t) (align_is t) at) in
      s ∙ used_past next m

-- ---- vectors and columns

vec_same : (n : ℕ) (k : Kind) (s : List ℕ) → Bytes s → n * scalar_size k ≤ length s → mem_vec k (mem_scalars n k s) ≡ take (n * scalar_size k) s
unfolding mem_vec mem_scalars mem_scalar joined apart
vec_same zero k s b h = rw (zero-mul (scalar_size k))
vec_same (suc n) k s b h =
    let w = scalar_size k in
    let e : suc n * w ≡ w + n * w = omega (arith, suc-mul n w) in
    rw (e, take-add w (n * w) s)
    (ap₂ ◌++◌ (number_same w s b (omega arith)) (vec_same n k (drop w s) (drop_bytes w s b) (omega (arith, length-drop w s))))

col_same : (r : ℕ) (k : Kind) (s : List ℕ) → Bytes s → r * scalar_size k ≤ length s
    → mem_col r k (mem_scalars r k s) ≡ cleared (replicate (r * scalar_size k) true) s ++ zeros (col_stride r k - r * scalar_size k)
unfolding mem_col
col_same r k s b h = ap (λ (x : List ℕ). x ++ zeros (col_stride r k - r * scalar_size k))
    (vec_same r k s b h ∙ sym (cleared_used (r * scalar_size k) s))

cols_same : (c r : ℕ) (k : Kind) (s : List ℕ) → Bytes s → c * col_stride r k ≤ length s
    → joined (mem_col r k) (columns c r (flat (map (mem_scalars r k) (apart c (col_stride r k) s))))
    ≡ cleared (repeat c (replicate (r * scalar_size k) true ++ replicate (col_stride r k - r * scalar_size k) false)) s
unfolding joined columns flat apart repeat cleared
cols_same zero r k s b h = refl
cols_same (suc c) r k s b h =
    let w = r * scalar_size k in
    let cs = col_stride r k in
    let u = replicate w true in
    let x = mem_scalars r k s in
    let y = flat (map (mem_scalars r k) (apart c cs (drop cs s))) in
    let more = cs + c * cs ≤ length s in
    let m : cs + c * cs ≤ length s = omega (arith, suc-mul c cs) in
    let l = length-replicate {A = Bool} w true in
    let i = cols_same c r k (drop cs s) (drop_bytes cs s b) (omega (arith, length-drop cs s)) in
    let p = cleared_part u (cs - w) cs (repeat c (u ++ replicate (cs - w) false)) s (omega (arith, col_more r k)) (omega arith) in
    rw (p, take_at x y r (scalars_len r k s), drop_at x y r (scalars_len r k s))
    (ap₂ ◌++◌ (col_same r k s b (omega (arith, col_more r k))) i)

-- ---- elements, each read from its place by f

each_same : (t : Ty) (f : List ℕ → Val) → ((s : List ℕ) → type_of (f s) ≡ t)
    → ((s : List ℕ) → Bytes s → size_of t ≤ length s → mem_bytes (f s) ≡ cleared (used t) s)
    → (n : ℕ) (s : List ℕ) → Bytes s → n * stride t ≤ length s
    → mem_elements (vals_of (map f (apart n (stride t) s))) ≡ cleared (repeat n (used t ++ replicate (stride t - size_of t) false)) s
unfolding mem_elements vals_of apart repeat cleared
each_same t f y e zero s b h = refl
each_same t f y e (suc n) s b h =
    let st = stride t in
    let g = st - size_of t in
    let m : st + n * st ≤ length s = omega (arith, suc-mul n st) in
    let i = each_same t f y e n (drop st s) (drop_bytes st s b) (omega (arith, length-drop st s)) in
    let p = cleared_part (used t) g st (repeat n (used t ++ replicate g false)) s (omega (arith, used_len t, stride_more t))
    (omega arith) in
    rw (y s, p, append_assoc (cleared (used t) s) (zeros g) (cleared (repeat n (used t ++ replicate g false)) (drop st s)))
    (ap₂ (λ (a b : List ℕ). a ++ (zeros g ++ b)) (e s b (omega (arith, stride_more t))) i)

-- ---- values

mutual
  unfolding mem_value mem_bytes mem_scalar used size_of shaped_tys stride cleared

  pub mem_cleared : (t : Ty) (s : List ℕ) → T (shaped_ty t) → Bytes s → size_of t ≤ length s → mem_bytes (mem_value t s) ≡ cleared (used t) s
  mem_cleared (Ts k) s g b h = number_same (scalar_size k) s b h ∙ sym (cleared_used (scalar_size k) s)
  mem_cleared (Tv n k) s g b h = vec_same n k s b h ∙ sym (cleared_used (n * scalar_size k) s)
  mem_cleared (Tm c r k) s g b h = cols_same c r k s b h
  mem_cleared (Ta n t) s g b h =
      let gt = elem_shaped n t g in
      each_same t (mem_value t) (λ u. mem_typed t u gt) (λ u c l. mem_cleared t u gt c l) n s b h
  mem_cleared (Tu i m) s g b h =
      let gm = members_shaped i m g in
      let n = size_of (Tu i m) - past_last 0 m in
      let past = last_more i m in
      let e = members_cleared 0 m s gm b (omega arith) in
      let l : length (used_by 0 m) ≡ past_last 0 m = omega (arith, used_past 0 m) in
      rw (all_typed 0 m s gm)
      (ap₂ ◌++◌ e (sym (cleared_padding n (drop (length (used_by 0 m)) s) (omega (arith, length-drop (length (used_by 0 m)) s))))
      ∙ sym (cleared_append (used_by 0 m) (replicate n false) s (omega arith)))

  members_cleared : (at : ℕ) (m : Tys) (s : List ℕ) → T (shaped_tys m) → Bytes s → past_last at m ≤ length s
      → mem_members at (mem_values at m s) ≡ cleared (used_by at m) (drop at s)
  members_cleared at [·] s g b h = refl
  members_cleared at (t ▸ m) s g b h =
      let start = round_up (align_of t) at in
      let next = start + size_of t in
      let n = start - at in
      let gt = and_l (shaped_ty t) (shaped_tys m) g in
      let up = up_more (align_of t) (align_is t) at in
      let past = past_more next m in
      let to_start : at + n ≡ start = omega arith in
      let to-next : start + length (used t) ≡ next = omega (arith, used_len t) in
      let at-start : drop n (drop at s) ≡ drop start s = drop-drop n at s ∙ ap (λ (i : ℕ). drop i s) to_start in
      let at_next : drop (length (used t)) (drop start s) ≡ drop next s = drop-drop (length (used t)) start s
      ∙ ap (λ (i : ℕ). drop i s) to-next in
      let r = length-replicate {A = Bool} n false in
      let c : cleared (used t ++ used_by next m) (drop start s) ≡ cleared (used t) (drop start s) ++ cleared (used_by next m) (drop next s) =
      cleared_append (used t) (used_by next m) (drop start s) (omega (arith, used_len t, length-drop start s))
      ∙ ap (λ (x : List ℕ). cleared (used t) (drop start s) ++ cleared (used_by next m) x) at_next in
      let d : cleared (replicate n false ++ (used t ++ used_by next m)) (drop at s) ≡ zeros n ++ cleared (used t ++ used_by next m)
      (drop start s) =
      cleared_append (replicate n false) (used t ++ used_by next m) (drop at s) (omega (arith, length-drop at s))
      ∙ ap₂ ◌++◌ (cleared_padding n (drop at s) (omega (arith, length-drop at s)))
      (ap (λ (x : List ℕ). cleared (used t ++ used_by next m) x) (ap (λ (i : ℕ). drop i (drop at s)) r ∙ at-start)) in
      rw (mem_typed t (drop start s) gt, d, c)
      (ap₂ (λ (x y : List ℕ). zeros n ++ (x ++ y)) (mem_cleared t (drop start s) gt (drop_bytes start s b)
      (omega (arith, length-drop start s)))
      (members_cleared next m s (and_r (shaped_ty t) (shaped_tys m) g) b h))
