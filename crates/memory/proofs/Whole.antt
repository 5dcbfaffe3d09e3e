-- Where parts begin: "size is a multiple of the alignment"; an element of an array begins at its number times the
-- stride, a member at its offset.
use mathlib.Core.Path.{◌≡◌, sym, ap, ◌∙◌}
use mathlib.Core.Option.{some}
use mathlib.Core.List.{List, ◌++◌, map}
use Prim.Native.Nat.{ℕ, zero, suc, ◌+◌, ◌-◌, ◌*◌, ◌/◌, ◌%◌, ◌<◌}
use native.Mathlib.Omega.{arith}
use native.Mathlib.Nat.{suc-mul, zero-mul, mul_assoc, mul-mod_left}
use lib.Dec.{T}
use lib.ListN.{length, take, drop, get_elem?}
use lib.Seq.{take_at, drop-drop}
use Rattle.meaning.specs.Kinds.{Kind}
use Rattle.meaning.specs.Trees.{Ty, Tm, Ta, Tu, Tys, [·], ◌▸◌, Val, Vals, ⟨⟩, ◌▹◌, type_of, types_of, vals_list, tys_list}
use Rattle.meaning.specs.Records.{shaped_val, shaped_vals}
use Rattle.meaning.specs.Layout.{round_up, vec_align, align_of, most_align, col_stride, size_of, past_last, stride, offsets, zeros, mem_bytes}
use Rattle.meaning.specs.Layout.{mem_elements, mem_members, apart, mem_value, mem_values}
use Rattle.laws.proofs.AgreeConv.{AllTy}
use Rattle.laws.proofs.Back.{and_l, and_r}
use Rattle.laws.proofs.Sound.{no_some, some_inj}
use Rattle.memory.proofs.RoundUp.{up_whole, most_align_lem}
use Rattle.memory.proofs.Length.{zeros_len, stride_more, mem_size}
use Rattle.memory.proofs.Back.{behind, further, first_member}

-- ---- sizes

times_whole : (n a m : ℕ) → n * round_up a m % a ≡ 0
unfolding round_up
times_whole n a m = rw (← mul_assoc n ((m + (a - 1)) / a) a) (mul-mod_left (n * ((m + (a - 1)) / a)) a)

pub matrix_whole : (c r : ℕ) (k : Kind) → size_of (Tm c r k) % align_of (Tm c r k) ≡ 0
unfolding size_of align_of col_stride
matrix_whole c r k = times_whole c (vec_align r k) _

pub array_whole : (n : ℕ) (t : Ty) → size_of (Ta n t) % align_of (Ta n t) ≡ 0
unfolding size_of align_of
array_whole n t = times_whole n (align_of t) (size_of t)

pub struct_whole : (i : ℕ) (m : Tys) → size_of (Tu i m) % align_of (Tu i m) ≡ 0
unfolding size_of align_of
struct_whole i m = up_whole (most_align m) (most_align_lem m) (past_last 0 m)

-- ---- elements

-- what stands in memory at the number of an element times the stride is that element's bytes
pub element_begins : (t : Ty) (l : Vals) → AllTy t l → T (shaped_vals l) → (i : ℕ) (v : Val) → get_elem? (vals_list l) i ≡ some v
    → take (size_of t) (drop (i * stride t) (mem_elements l)) ≡ mem_bytes v
unfolding mem_elements vals_list shaped_vals
element_begins t ⟨⟩ a g i v e = no_some e
element_begins t (w ▹ l) a g zero v e =
    let z = zeros (stride (type_of w) - size_of (type_of w)) in
    let n : length (mem_bytes w) ≡ size_of t = mem_size w (and_l (shaped_val w) (shaped_vals l) g) ∙ ap size_of a.0 in
    rw (zero-mul (stride t), take_at (mem_bytes w) (z ++ mem_elements l) (size_of t) n) (ap mem_bytes (some_inj e))
element_begins t (w ▹ l) a g (suc i) v e =
    let st = stride t in
    let k = stride (type_of w) - size_of (type_of w) in
    let s = mem_bytes w ++ (zeros k ++ mem_elements l) in
    let n : suc i * st ≡ st + i * st = omega (arith, suc-mul i st) in
    let u : stride (type_of w) ≡ st = ap stride a.0 in
    let d : drop st s ≡ mem_elements l = behind (mem_bytes w) (zeros k) (mem_elements l) st
    (omega (arith, mem_size w (and_l (shaped_val w) (shaped_vals l) g), zeros_len k, stride_more (type_of w))) in
    rw (n, ← drop-drop (i * st) st s, d) (element_begins t l a.1 (and_r (shaped_val w) (shaped_vals l) g) i v e)

-- and the element of that number is read there
pub element_read : (t : Ty) (n : ℕ) (s : List ℕ) (i : ℕ) → i < n → get_elem? (map (mem_value t) (apart n (stride t) s)) i ≡ some
    (mem_value t (drop (i * stride t) s))
unfolding apart
element_read t zero s i h = absurd (omega arith)
element_read t (suc n) s zero h = rw (zero-mul (stride t))
element_read t (suc n) s (suc i) h =
    let st = stride t in
    let e : suc i * st ≡ st + i * st = omega (arith, suc-mul i st) in
    rw (e, ← drop-drop (i * st) st s) (element_read t n (drop st s) i (omega arith))

-- ---- members

-- what stands in memory at the offset of a member is that member's bytes; `at` bytes of the struct stand before these members
pub member_begins : (at : ℕ) (l : Vals) → T (shaped_vals l) → (s rest : List ℕ) → drop at s ≡ mem_members at l ++ rest → (i o : ℕ) (v : Val)
    → get_elem? (offsets at (types_of l)) i ≡ some o → get_elem? (vals_list l) i ≡ some v → take (size_of (type_of v)) (drop o s) ≡ mem_bytes v
unfolding mem_members vals_list shaped_vals types_of offsets
member_begins at ⟨⟩ g s rest d i o v p q = no_some q
member_begins at (w ▹ l) g s rest d zero o v p q =
    let e : o ≡ round_up (align_of (type_of w)) at = sym (some_inj p) in
    let f : v ≡ w = sym (some_inj q) in
    rw (e, f, first_member at w l s rest d) (take_at (mem_bytes w) _ (size_of (type_of w)) (mem_size w (and_l (shaped_val w) (shaped_vals l) g)))
member_begins at (w ▹ l) g s rest d (suc i) o v p q =
    let gw = and_l (shaped_val w) (shaped_vals l) g in
    let start = round_up (align_of (type_of w)) at in
    let next = start + size_of (type_of w) in
    let e : drop next s ≡ mem_members next l ++ rest = further s (mem_bytes w) (mem_members next l ++ rest) start next
    (first_member at w l s rest d) (omega (arith, mem_size w gw)) in
    member_begins next l (and_r (shaped_val w) (shaped_vals l) g) s rest e i o v p q

pub member_read : (at : ℕ) (m : Tys) (s : List ℕ) (i o : ℕ) (t : Ty) → get_elem? (offsets at m) i ≡ some o → get_elem? (tys_list m) i ≡ some t
    → get_elem? (vals_list (mem_values at m s)) i ≡ some (mem_value t (drop o s))
unfolding mem_values vals_list tys_list offsets
member_read at [·] s i o t p q = no_some q
member_read at (u ▸ m) s zero o t p q = rw (← some_inj p, ← some_inj q)
member_read at (u ▸ m) s (suc i) o t p q = member_read (round_up (align_of u) at + size_of u) m s i o t p q
