-- The theorems of request 02: "A value written and read is the same value; bytes read and written are the same where
-- their padding was zero."
use mathlib.Core.Path.{◌≡◌, refl, sym, ap, ap₂, ◌∙◌, subst}
use mathlib.Core.List.{List, [], ◌∷◌, append-nil}
use mathlib.Core.Bool.{Bool, true, false, cond}
use Prim.Native.Nat.{ℕ, zero, suc, ◌≤◌}
use native.Mathlib.Omega.{arith}
use lib.Dec.{T}
use lib.ListN.{length, get_or}
use borrow.Author.Tests.{le-leb, eq-eqb}
use Rattle.meaning.specs.Trees.{Ty, Val, Of, type_of, val_len}
use Rattle.meaning.specs.Records.{ty_bytes, val_bytes, target_bytes, shaped_ty, shaped_val, good_ty, good_val, good_target}
use Rattle.meaning.specs.Answers.{ok}
use Rattle.meaning.specs.Layout.{has_layout, size_of, mem_bytes, mem_value, used, cleared, laid_type, write_answer, read_answer}
use Rattle.meaning.specs.Entries.{hand_val}
use Rattle.laws.proofs.AgreeConv.{true_of}
use Rattle.laws.proofs.Back.{and_l, and_r, shaped_of}
use Rattle.laws.proofs.Exact.{val_exact, target_exact}
use Rattle.laws.proofs.Same.{both}
use Rattle.laws.proofs.Sound.{Bytes}
use Rattle.memory.proofs.Back.{mem_back}
use Rattle.memory.proofs.Cleared.{used_len, mem_cleared}
use Rattle.memory.proofs.Length.{mem_size}
use Rattle.memory.proofs.Typed.{mem_typed, mem_shaped}

-- ---- values

-- a value written and read is the same value: every bit of it, of a NaN and of a zero too
pub written_read : (v : Val) → T (shaped_val v) → T (has_layout (type_of v)) → mem_value (type_of v) (mem_bytes v) ≡ v
written_read v g h = ap (mem_value (type_of v)) (sym (append-nil (mem_bytes v))) ∙ mem_back v [] g h

-- ---- bytes

-- byte i belongs to a scalar of the type
abbrev pub Used : Ty → ℕ → Type 0
Used t i = get_or (used t) i false ≡ true

-- it is padding
abbrev pub Padding : Ty → ℕ → Type 0
Padding t i = get_or (used t) i true ≡ false

cleared_len : (u : List Bool) (s : List ℕ) → length u ≡ length s → length (cleared u s) ≡ length s
unfolding cleared
cleared_len [] [] h = refl
cleared_len [] (x ∷ s) h = absurd (omega arith)
cleared_len (b ∷ u) [] h = absurd (omega arith)
cleared_len (b ∷ u) (x ∷ s) h = ap suc (cleared_len u s (omega arith))

cleared_keeps : (u : List Bool) (s : List ℕ) (i : ℕ) → length u ≡ length s → get_or u i false ≡ true → get_or (cleared u s) i 0 ≡ get_or s i 0
unfolding cleared
cleared_keeps [] s i h e = absurd (let z : ◌≡◌ {A = ℕ} 0 1 = cc in omega arith)
cleared_keeps (b ∷ u) [] i h e = absurd (omega arith)
cleared_keeps (b ∷ u) (x ∷ s) zero h e = rw e
cleared_keeps (b ∷ u) (x ∷ s) (suc i) h e = cleared_keeps u s i (omega arith) e

cleared_zero : (u : List Bool) (s : List ℕ) (i : ℕ) → get_or u i true ≡ false → get_or (cleared u s) i 0 ≡ 0
unfolding cleared
cleared_zero [] s i e = refl
cleared_zero (b ∷ u) [] i e = refl
cleared_zero (b ∷ u) (x ∷ s) zero e = rw e
cleared_zero (b ∷ u) (x ∷ s) (suc i) e = cleared_zero u s i e

cleared_same : (u : List Bool) (s : List ℕ) → length u ≡ length s → ((i : ℕ) → get_or u i true ≡ false → get_or s i 0 ≡ 0) → cleared u s ≡ s
unfolding cleared
cleared_same [] [] h z = refl
cleared_same [] (x ∷ s) h z = absurd (omega arith)
cleared_same (b ∷ u) [] h z = absurd (omega arith)
cleared_same (b ∷ u) (x ∷ s) h z = ap₂ ◌∷◌ (kept b (z 0)) (cleared_same u s (omega arith) (λ i e. z (suc i) e))
  where
    kept : (c : Bool) → (c ≡ false → x ≡ 0) → cond c x 0 ≡ x
    kept true f = refl
    kept false f = sym (f refl)

cleared_agree : (u : List Bool) (s s' : List ℕ) → length u ≡ length s → length u ≡ length s'
    → ((i : ℕ) → get_or u i false ≡ true → get_or s i 0 ≡ get_or s' i 0) → cleared u s ≡ cleared u s'
unfolding cleared
cleared_agree [] s s' h h' z = refl
cleared_agree (b ∷ u) [] s' h h' z = absurd (omega arith)
cleared_agree (b ∷ u) (x ∷ s) [] h h' z = absurd (omega arith)
cleared_agree (b ∷ u) (x ∷ s) (y ∷ s') h h' z = ap₂ ◌∷◌ (same b (z 0))
    (cleared_agree u s s' (omega arith) (omega arith) (λ i e. z (suc i) e))
  where
    same : (c : Bool) → (c ≡ true → x ≡ y) → cond c x 0 ≡ cond c y 0
    same true f = f refl
    same false f = refl

module _ (t : Ty) (g : T (shaped_ty t)) (s : List ℕ) (b : Bytes s) (n : length s ≡ size_of t) where
  marks : length (used t) ≡ length s
  marks = used_len t ∙ sym n

  again : mem_bytes (mem_value t s) ≡ cleared (used t) s
  again = mem_cleared t s g b (omega arith)

  -- bytes read and written are the same but for the padding: as many, the same where a scalar is, and zero where padding is
  pub again_length : length (mem_bytes (mem_value t s)) ≡ length s
  again_length = ap length again ∙ cleared_len (used t) s marks

  pub again_used : (i : ℕ) → Used t i → get_or (mem_bytes (mem_value t s)) i 0 ≡ get_or s i 0
  again_used i e = ap (λ (x : List ℕ). get_or x i 0) again ∙ cleared_keeps (used t) s i marks e

  pub again_padding : (i : ℕ) → Padding t i → get_or (mem_bytes (mem_value t s)) i 0 ≡ 0
  again_padding i e = ap (λ (x : List ℕ). get_or x i 0) again ∙ cleared_zero (used t) s i e

  -- and the same bytes where their padding was zero
  pub read_written : ((i : ℕ) → Padding t i → get_or s i 0 ≡ 0) → mem_bytes (mem_value t s) ≡ s
  read_written z = again ∙ cleared_same (used t) s marks z

  -- reading depends on no padding byte
  pub padding_ignored : T (has_layout t) → (s' : List ℕ) → Bytes s' → length s' ≡ size_of t → ((i : ℕ) → Used t i → get_or s i 0 ≡ get_or s' i 0)
      → mem_value t s ≡ mem_value t s'
  padding_ignored h s' b' n' z =
      let c : mem_bytes (mem_value t s) ≡ mem_bytes (mem_value t s') = again
      ∙ (cleared_agree (used t) s s' marks (used_len t ∙ sym n') z ∙ sym (mem_cleared t s' g b' (omega arith))) in
      sym (back s b) ∙ (ap (mem_value t) c ∙ back s' b')
    where
      back : (x : List ℕ) → Bytes x → mem_value t (mem_bytes (mem_value t x)) ≡ mem_value t x
      back x c =
          let e = mem_typed t x g in
          subst (λ (u : Ty). mem_value u (mem_bytes (mem_value t x)) ≡ mem_value t x) e
          (written_read (mem_value t x) (mem_shaped t x c g h) (rw e h))

-- ---- the entries' answers

-- what is read is well formed
pub read_good : (t : Ty) (s : List ℕ) → Bytes s → T (good_ty t) → T (has_layout t) → T (good_val (mem_value t s))
unfolding good_val good_ty
read_good t s b g h =
    let k = shaped_of 15 4096 t g in
    both (shaped_val (mem_value t s)) (good_ty (type_of (mem_value t s))) (mem_shaped t s b k h) (rw (mem_typed t s k) g)

module _ (v : Val) (g : T (good_val v)) (h : T (has_layout (type_of v))) where
  -- a well-formed value that has a layout is written, if the buffer takes it
  pub writes : (room : ℕ) → size_of (type_of v) ≤ room → write_answer (val_bytes v) room ≡ ok (mem_bytes v)
  unfolding write_answer
  writes room l = rw (val_exact.back v g, true_of (has_layout (type_of v)) h, le-leb (size_of (type_of v)) room l)

  -- and what was written is read by its type as the same record
  pub reads : (room : ℕ) → val_len (type_of v) ≤ room → read_answer (ty_bytes (type_of v)) (mem_bytes v) room ≡ ok (val_bytes v)
  unfolding read_answer laid_type good_val good_target target_bytes hand_val
  reads room l =
      let gs = and_l (shaped_val v) (good_ty (type_of v)) g in
      let r = target_exact.back (Of (type_of v)) (and_r (shaped_val v) (good_ty (type_of v)) g) in
      rw (
        r,
        true_of (has_layout (type_of v)) h,
        eq-eqb (length (mem_bytes v)) (size_of (type_of v)) (mem_size v gs),
        written_read v gs h,
        le-leb (val_len (type_of v)) room l,
      )

-- bytes of a type's size are read, and what was read is written as the same bytes but for the padding
module _ (t : Ty) (g : T (good_ty t)) (h : T (has_layout t)) (s : List ℕ) (b : Bytes s) (n : length s ≡ size_of t) where
  shaped : T (shaped_ty t)
  unfolding good_ty
  shaped = shaped_of 15 4096 t g

  typed : type_of (mem_value t s) ≡ t
  typed = mem_typed t s shaped

  pub reads_bytes : (room : ℕ) → val_len t ≤ room → read_answer (ty_bytes t) s room ≡ ok (val_bytes (mem_value t s))
  unfolding read_answer laid_type good_target target_bytes hand_val
  reads_bytes room l = rw (
    target_exact.back (Of t) g,
    true_of (has_layout t) h,
    eq-eqb (length s) (size_of t) n,
    typed,
    le-leb (val_len t)
        room l,
  )

  pub writes_bytes : (room : ℕ) → size_of t ≤ room → write_answer (val_bytes (mem_value t s)) room ≡ ok (cleared (used t) s)
  writes_bytes room l =
      writes (mem_value t s) (read_good t s b g h) (rw typed h) room (rw typed l) ∙ ap ok (mem_cleared t s shaped b (omega arith))
