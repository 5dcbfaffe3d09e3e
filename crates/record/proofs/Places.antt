-- The bytes at a place.
use mathlib.Core.Path.{◌≡◌, sym, ap, ◌∙◌}
use mathlib.Core.List.{List, ◌∷◌, ◌++◌}
use Prim.Native.Nat.{ℕ, ◌+◌, ◌≤◌, ◌<◌}
use native.Mathlib.Omega.{arith}
use native.Mathlib.Numerals.{add-one}
use lib.ListN.{length, get_or, drop}
use lib.Seq.{drop-cons, drop-drop, drop-append_seam, get_or-drop}

pub at_of : (s b : List ℕ) (at : ℕ) → drop at s ≡ b → (j : ℕ) → get_or s (at + j) 0 ≡ get_or b j 0
at_of s b at h j = sym (get_or-drop at s j 0) ∙ ap (λ (l : List ℕ). get_or l j 0) h

pub past : (s a b : List ℕ) (i : ℕ) → drop i s ≡ a ++ b → drop (i + length a) s ≡ b
past s a b i h = sym (drop-drop (length a) i s) ∙ ap (drop (length a)) h ∙ drop-append_seam a b

-- ---- the first bytes of what follows a place

pub view1 : (s : List ℕ) (at : ℕ) → at < length s → drop at s ≡ get_or s at 0 ∷ drop (at + 1) s
view1 s at h = rw (add-one, drop-cons s at 0)

pub view2 : (s : List ℕ) (at : ℕ) → at + 2 ≤ length s → drop at s ≡ get_or s at 0 ∷ get_or s (at + 1) 0 ∷ drop (at + 2) s
view2 s at h =
    let p : at + 1 + 1 ≡ at + 2 = omega arith in
    cc (view1 s at (omega arith), view1 s (at + 1) (omega arith))

pub view3 : (s : List ℕ) (at : ℕ) → at + 3 ≤ length s → drop at s ≡ get_or s at 0 ∷ get_or s (at + 1) 0 ∷ get_or s (at + 2) 0 ∷ drop (at + 3) s
view3 s at h =
    let p : at + 2 + 1 ≡ at + 3 = omega arith in
    cc (view2 s at (omega arith), view1 s (at + 2) (omega arith))

pub view4 : (s : List ℕ) (at : ℕ) → at + 4 ≤ length s → drop at s ≡ get_or s at 0 ∷ get_or s (at + 1) 0 ∷ get_or s (at + 2) 0 ∷ get_or s (at + 3) 0
    ∷ drop (at + 4) s
view4 s at h =
    let p : at + 3 + 1 ≡ at + 4 = omega arith in
    cc (view3 s at (omega arith), view1 s (at + 3) (omega arith))

pub view6 : (s : List ℕ) (at : ℕ) → at + 6 ≤ length s
    → drop at s ≡ get_or s at 0 ∷ get_or s (at + 1) 0 ∷ get_or s (at + 2) 0 ∷ get_or s (at + 3) 0 ∷ get_or s (at + 4) 0 ∷ get_or s (at + 5) 0 ∷ drop
    (at + 6) s
view6 s at h =
    let p : at + 4 + 1 ≡ at + 5 = omega arith in
    let q : at + 4 + 2 ≡ at + 6 = omega arith in
    cc (view4 s at (omega arith), view2 s (at + 4) (omega arith))
