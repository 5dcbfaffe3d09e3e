-- What is read of the one argument.
use mathlib.Core.Path.{◌≡◌, refl, sym, ap, ◌∙◌}
use mathlib.Core.Option.{Option, none, some}
use mathlib.Core.List.{List, [], ◌∷◌, append-nil}
use mathlib.Core.Bool.{true, ◌&&◌}
use Prim.Native.Nat.{ℕ}
use lib.Dec.{T}
use Rattle.meaning.specs.Trees.{Ty, Val, Target, type_of}
use Rattle.meaning.specs.Records.{val_bytes, joined, every, good_ty, good_val, good_arg, good_tys, good_args}
use Rattle.meaning.specs.Read.{read_vals}
use Rattle.meaning.specs.Answers.{Answer, no, or_no, ◌>>=◌}
use Rattle.meaning.specs.Entries.{hand_val, only, conv_one}
use Rattle.laws.proofs.Back.{and_l}
use Rattle.laws.proofs.Same.{both}
use Rattle.laws.proofs.Sound.{Bytes}
use Rattle.laws.proofs.Exact.{vals_exact}
use Rattle.args.specs.OneValue.{OneValue}
use Rattle.args.proofs.OneValue.{one_type}
use Rattle.convert_to.specs.Conversions.{convert_read}

module _ (g : Target) {s : List ℕ} (room : ℕ) where
  pub one_read : ((t : Ty) → good_arg g t ≡ good_ty t) → {v : Val} → OneValue s v → convert_read g s room ≡ (conv_one g v >>= hand_val room)
  unfolding convert_read good_args good_tys every joined only
  one_read same {v} x =
      let k : T (good_args g (v ∷ [])) = both (good_val v && true) (good_tys g (type_of v ∷ [])) (both (good_val v) true x.good tt)
      (both (good_arg g (type_of v) && true) true (both (good_arg g (type_of v)) true (rw (same (type_of v)) (one_type x)) tt) tt) in
      let r : read_vals g s ≡ some (v ∷ []) = ap (read_vals g) (x.is ∙ sym (append-nil (val_bytes v))) ∙ (vals_exact g).back (v ∷ []) k in
      rw r

  not_one : Bytes s → ((v : Val) → OneValue s v → ⊥) → (v : Val) → read_vals g s ≡ some (v ∷ []) → ⊥
  unfolding good_args every joined
  not_one b f v e =
      let y = (vals_exact g).sound s (v ∷ []) b e in
      f v record {
        is = y.0 ∙ append-nil (val_bytes v);
        good = and_l (good_val v) true
            (and_l (good_val v && true) (good_tys g (type_of v ∷ [])) y.1);
      }

  pub none_read : Bytes s → ((v : Val) → OneValue s v → ⊥) → convert_read g s room ≡ no 2
  unfolding convert_read only
  none_read b f = go (read_vals g s) refl
    where
      go : (o : Option (List Val)) → read_vals g s ≡ o → ◌≡◌ {A = Answer} (or_no 2 o >>= λ l. only l >>= λ v. conv_one g v >>= hand_val room)
          (no 2)
      go none e = refl
      go (some []) e = refl
      go (some (v ∷ [])) e = absurd (not_one b f v e)
      go (some (v ∷ w ∷ l)) e = refl
