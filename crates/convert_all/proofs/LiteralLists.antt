-- Literals among the arguments, to a scalar type.
use mathlib.Core.Path.{◌≡◌, refl, sym, ap, ap₂, ◌∙◌, subst}
use mathlib.Core.Option.{none}
use mathlib.Core.List.{List, ◌∷◌}
use mathlib.Core.Bool.{Bool, true, false, cond}
use Prim.Native.Nat.{ℕ, ◌+◌, ◌≤◌}
use lib.ListN.{length, get_or}
use Rattle.meaning.specs.Kinds.{Kind, kind_no}
use Rattle.meaning.specs.Scalars.{conv, some?}
use Rattle.meaning.specs.Trees.{Ty, Ts, Val, Vs, Vv, Vm, Va, Vu, type_of, leaf}
use Rattle.meaning.specs.Records.{‘s’, val_bytes, lit_bytes, joined, shaped_val}
use Rattle.meaning.specs.Answers.{map_some}
use Rattle.meaning.specs.Convert.{converts, conv_lits, conv_leaf, conv_val}
use Rattle.meaning.specs.Build.{lit_kind}
use Rattle.laws.proofs.AgreeConv.{conv_not}
use Rattle.laws.proofs.AgreeVec.{converts_lit, conv_no, not_to_scalar}
use Rattle.record.specs.Literals.{width_of}
use Rattle.conv.specs.Items.{Literal, item_bytes, good_item, ItemAt, literal_as}
use Rattle.conv.proofs.ItemSteps.{literal_within, literal_of_lem}
use Rattle.conv.proofs.Values.{some_map}
use Rattle.args.specs.Row.{Row}
use Rattle.args.proofs.ArgumentRows.{row_shaped}
use Rattle.args.proofs.LiteralArgs.{LiteralIs, mark}

-- an argument that is no literal does not convert to a scalar
other_by : {s : List ℕ} {i : ℕ} {v : Val} {l : List Val} → Row s i (v ∷ l) → (get_or s (i + 1) 0 ≡ ‘s’ → ⊥) → (k : Kind)
    → converts (type_of v) (Ts k) ≡ false
unfolding val_bytes lit_bytes lit_kind type_of
other_by {v = Vs j p} x h k = absurd (h (mark x refl))
other_by {v = Vv j ps} x h k = not_to_scalar (type_of (Vv j ps)) k refl
other_by {v = Vm c r j ps} x h k = not_to_scalar (type_of (Vm c r j ps)) k refl
other_by {v = Va m} x h k = not_to_scalar (type_of (Va m)) k refl
other_by {v = Vu j m} x h k = not_to_scalar (type_of (Vu j m)) k refl

-- the scalar type of the kind whose number k is
abbrev pub IsScalar : ℕ → Ty → Type 0
IsScalar k t = (j : Kind) × (k ≡ kind_no j) × (t ≡ Ts j)

-- no rank, no literal
scalar_fits : (j h : Kind) (p : ℕ) → some? (conv j h p) ≡ some? (conv_val (Ts j) (Vs h p))
unfolding conv_val type_of leaf conv_leaf conv_lits some?
scalar_fits j h p = go (converts (Ts h) (Ts j)) refl
  where
    go : (b : Bool) → converts (Ts h) (Ts j) ≡ b → some? (conv j h p) ≡ some? (cond b (map_some (Vs j) (conv j h p)) none)
    go true e = sym (some_map (Vs j) (conv j h p))
    go false e = rw (conv_no j h p (sym (converts_lit h j) ∙ e))

item_of : {s : List ℕ} {i : ℕ} {h : Kind} {p : ℕ} {l : List Val} → Row s i (Vs h p ∷ l) → ItemAt s i (Literal h p)
unfolding joined val_bytes item_bytes shaped_val good_item
item_of {l = l} x = record { rest = joined val_bytes l; here = x.here; good = row_shaped x }

module _ {s : List ℕ} {i : ℕ} {v : Val} {l : List Val} (x : Row s i (v ∷ l)) (y : LiteralIs s i v) where
  item : ItemAt s i (Literal y.kind y.payload)
  item = item_of (subst (λ (w : Val). Row s i (w ∷ l)) y.is x)

  pub literal_room : get_or s (i + 1) 0 ≡ ‘s’ → i + (3 + width_of (get_or s (i + 2) 0)) ≤ length s
  literal_room h = literal_within item h

  pub fits_as : {k : ℕ} {r : Bool} → r ≡ some? (literal_as k s i) → (t : Ty) → IsScalar k t → r ≡ some? (conv_val t v)
  fits_as e t (j, n, q) =
      e ∙ (ap some? (literal_of_lem item j n) ∙ (scalar_fits j y.kind y.payload
      ∙ ap₂ (λ (u : Ty) (w : Val). some? (conv_val u w)) (sym q) (sym y.is)))

pub other_not : {s : List ℕ} {i : ℕ} {v : Val} {l : List Val} → Row s i (v ∷ l) → (get_or s (i + 1) 0 ≡ ‘s’ → ⊥) → (k : Kind)
    → false ≡ some? (conv_val (Ts k) v)
unfolding some?
other_not {v = v} x h k = rw (conv_not (Ts k) v (other_by x h k))
