-- An array: its count and its element type in the target, what the arguments become, and its record.
use mathlib.Core.Path.{◌≡◌, refl, sym, ap, ◌∙◌}
use mathlib.Core.Option.{none, some}
use mathlib.Core.List.{List, [], ◌∷◌, ◌++◌, map}
use mathlib.Core.Bool.{Bool, true, false}
use Prim.Native.Nat.{ℕ, ◌+◌, ◌*◌, ◌≤◌}
use native.Mathlib.Omega.{arith}
use borrow.Author.Tests.{eq-eqb, ne_eqb}
use lib.Dec.{T, leb, le→leb}
use lib.ListN.{length, get_or}
use Rattle.meaning.specs.Scalars.{some?}
use Rattle.meaning.specs.Trees.{Ty, Ta, Val, Va, type_of, vals_of, count_vals, val_len}
use Rattle.meaning.specs.Records.{‘V’, ‘a’, le, ty_bytes, val_bytes, joined, shaped_val}
use Rattle.meaning.specs.Answers.{ok, no, miscount, all_some}
use Rattle.meaning.specs.Convert.{conv_val, common}
use Rattle.meaning.specs.Build.{elements, array_of, runtime_of, qa_of}
use Rattle.laws.proofs.AgreeBuild.{AllOk, arr_made}
use Rattle.laws.proofs.Length.{val_len_lem}
use Rattle.laws.proofs.SoundVal.{joined_vals}
use Rattle.ty.specs.Stands.{Stands, Whole}
use Rattle.ty.proofs.Heads.{ArrayIs, array_by}
use Rattle.ty.proofs.Targets.{whole_bytes}
use Rattle.record.specs.Bytes.{Put}
use Rattle.record.proofs.Puts.{put_put}
use Rattle.error.specs.Told.{Builds}
use Rattle.error.proofs.BufferAtExit.{builds_long, builds_record}
use Rattle.args.proofs.ArgumentRows.{each_ok}
use Rattle.convert_all.proofs.ConvertedLists.{all_shaped, all_typed, all_count}
use Rattle.array.specs.Arrays.{Elements}
use Rattle.array.proofs.Lengths.{room_no, room_yes}
use Rattle.shape.proofs.Downs.{some_of, none_of}
use Rattle.std.specs.declared.result.Result.TheVariants.{Ok, Err}
use Rattle.error.specs.declared.Refusal.TheVariants.{NoRoom}

-- ---- the target

module _ {target : List ℕ} {n : ℕ} {t : Ty} (w : Whole target (Ta n t)) where
  parts : ArrayIs 15 target 0 (get_or target 2 0 + 256 * get_or target 3 0) (Ta n t) (length target)
  unfolding ty_bytes
  parts = array_by w (ap (λ (l : List ℕ). get_or l 1 0) (whole_bytes w))

  pub array_room : 4 ≤ length target
  array_room = omega (arith, parts.room)

  pub array_count : get_or target 2 0 + 256 * get_or target 3 0 ≡ n
  array_count = cc parts.is

  pub array_elem : Stands 14 target 4 t (length target)
  array_elem = let k : parts.elem ≡ t = cc parts.is in rw k at parts.part

-- ---- the array

module _ {args : List ℕ} {count d : ℕ} {ty : List ℕ} {at : ℕ} {t : Ty} {e : ℕ} {l ws : List Val}
    (x : Elements args count d ty at t e l ws) where
  abbrev pub array_val : Val
  array_val = Va (vals_of ws)

  good : AllOk l
  good = each_ok l x.given.row.each

  given : count ≡ count_vals (vals_of ws)
  given = x.given.count ∙ sym ((joined_vals ws).1 ∙ all_count t l good x.goes)

  made : T (shaped_val array_val) × (type_of array_val ≡ Ta count t)
  made =
      arr_made count t (vals_of ws) (le→leb 1 count x.least) (all_shaped t l good x.goes) (all_typed t l good x.goes) (sym given)

  record_is : val_bytes array_val ≡ (‘V’ ∷ ‘a’ ∷ []) ++ le 2 count ++ joined val_bytes ws
  unfolding val_bytes le
  record_is = rw (given, (joined_vals ws).0)

  long : val_len (type_of array_val) ≡ 4 + count * val_len t
  unfolding val_len
  long = ap val_len made.1

  array_long : 4 + count * val_len t ≡ 4 + length (joined val_bytes ws)
  unfolding le
  array_long = omega (arith, val_len_lem array_val made.0, long, ap length record_is)

  module _ (out : List ℕ) where
    -- the test of the length: the count, times the length of an element
    module _ {r : Bool} (w : r ≡ leb (4 + count * val_len t) (length out)) where
      pub array_no : r ≡ false → Builds (ok array_val) out (Err NoRoom) out
      array_no q = builds_long out array_val refl (rw long (room_no (4 + count * val_len t) (length out) w q))

      pub array_fits : r ≡ true → 4 + length (joined val_bytes ws) ≤ length out
      array_fits q = omega (arith, array_long, room_yes (4 + count * val_len t) (length out) w q)

    -- the mark, the count, the elements
    pub array_yes : {o₁ o₂ out' : List ℕ} {p q r : ℕ} → 4 + length (joined val_bytes ws) ≤ length out → Put out 0 (‘V’ ∷ ‘a’ ∷ []) p o₁
        → Put o₁ p (le 2 count) q o₂
        → Put o₂ q (joined val_bytes ws) r out' → Builds (ok array_val) out (Ok r) out'
    array_yes h a b c = builds_record out array_val refl made.0 (rw long (omega (arith, array_long)))
        (rw record_is (put_put (put_put a b) c))

-- ---- the answers

-- what the arguments become, where they convert
pub record Become (t : Ty) (l : List Val) : Type 0 where
  pub intos : List Val
  pub goes : all_some (conv_val t) l ≡ some intos

module _ (t : Ty) (l : List Val) where
  pub become : some? (all_some (conv_val t) l) ≡ true → Become t l
  become h = let o = some_of (all_some (conv_val t) l) (sym h) in record { intos = o.0; goes = o.1 }

  pub array_nine : (n : ℕ) → some? (all_some (conv_val t) l) ≡ false → array_of n t l ≡ no 9
  unfolding array_of elements
  array_nine n h = rw (none_of (all_some (conv_val t) l) (sym h))

  pub runtime_nine : some? (all_some (conv_val t) l) ≡ false → runtime_of t l ≡ no 9
  unfolding runtime_of elements
  runtime_nine h = rw (none_of (all_some (conv_val t) l) (sym h))

  module _ (b : Become t l) where
    pub array_miscount : {n wanted count : ℕ} → wanted ≡ n → count ≡ length l → (count ≡ wanted → ⊥) → array_of n t l ≡ miscount wanted count
    unfolding array_of elements
    array_miscount {n} w g h = rw (b.goes, ne_eqb (length l) n (λ e. h (g ∙ e ∙ sym w)), w, g)

    pub array_ok : {n : ℕ} → length l ≡ n → array_of n t l ≡ ok (Va (vals_of b.intos))
    unfolding array_of elements
    array_ok {n} e = rw (b.goes, eq-eqb (length l) n e)

    pub runtime_ok : runtime_of t l ≡ ok (Va (vals_of b.intos))
    unfolding runtime_of elements
    runtime_ok = rw b.goes

-- "`Qa`: .. then 10"
module _ (l : List Val) where
  pub qa_none : common (map type_of l) ≡ none → qa_of l ≡ no 10
  unfolding qa_of
  qa_none h = rw h

  module _ {t : Ty} (h : common (map type_of l) ≡ some t) where
    pub qa_ten : some? (all_some (conv_val t) l) ≡ false → qa_of l ≡ no 10
    unfolding qa_of
    qa_ten q = rw (h, none_of (all_some (conv_val t) l) (sym q))

    pub qa_ok : (b : Become t l) → qa_of l ≡ ok (Va (vals_of b.intos))
    unfolding qa_of
    qa_ok b = rw (h, b.goes)
