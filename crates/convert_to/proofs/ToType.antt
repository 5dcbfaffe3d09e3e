-- To a type: whether the value converts, how long its record is then, and that it is written.
use mathlib.Core.Path.{◌≡◌, refl, sym, ap, ◌∙◌, subst}
use mathlib.Core.Option.{none, some}
use mathlib.Core.List.{List}
use mathlib.Core.Bool.{Bool, true, false}
use Prim.Native.Nat.{ℕ, ◌≤◌, ◌<◌}
use native.Mathlib.Omega.{arith}
use borrow.Author.Tests.{le-leb, lt-leb}
use lib.Dec.{T}
use lib.ListN.{length}
use Rattle.meaning.specs.Scalars.{some?, Const}
use Rattle.meaning.specs.Trees.{Ty, Val, Of, type_of, val_len, leaf}
use Rattle.meaning.specs.Records.{val_bytes, shaped_val, good_ty, good_arg}
use Rattle.meaning.specs.Answers.{ok, no}
use Rattle.meaning.specs.Convert.{converts, conv_val}
use Rattle.meaning.specs.Entries.{hand_val, conv_one}
use Rattle.laws.specs.Demand.{fits_leaf}
use Rattle.laws.proofs.AgreeConv.{Conv, conv_val_lem, conv_not}
use Rattle.laws.proofs.Back.{shaped_of}
use Rattle.laws.proofs.Length.{val_len_lem}
use Rattle.laws.proofs.Sound.{some_inj}
use Rattle.conv.specs.Values.{ValueTo, ValueRoom}
use Rattle.shape.proofs.Downs.{some_of, none_of}
use Rattle.convert_to.specs.Conversions.{Asked, Becomes, converted, convert_read}
use Rattle.ty.specs.Stands.{OneType}
use Rattle.args.specs.OneValue.{OneValue, Found}
use Rattle.args.proofs.OneValue.{one_shaped, one_type, one_has}
use Rattle.convert_to.proofs.OneValue.{one_read}

-- ---- a value that converts

module _ {target args : List ℕ} {t : Ty} {v w : Val} (x : Becomes target args t v w) where
  pub room_to : ValueTo 15 target 0 args 0 (length args) t v
  room_to = record { part = t; end = length target; stands = x.whole; bottom = refl; has = one_has x.value; converts = x.converts }

  -- it has the type that was asked for
  made : T (shaped_val w) × (type_of w ≡ t)
  unfolding good_ty
  made = take (fits_leaf false Const (leaf t) v) (conv_val_lem t v Const (one_shaped x.value)
      (shaped_of 15 4096 (type_of v) (one_type x.value)) x.converts)
    where
      take : (b : Bool) → Conv b t (conv_val t v) → T (shaped_val w) × (type_of w ≡ t)
      take true (y, q, s, u) = let i : y ≡ w = some_inj (sym q ∙ x.goes) in
          (subst (λ (z : Val). T (shaped_val z)) i s, ap type_of (sym i) ∙ u)
      take false q = absurd (let j : none ≡ some w = sym q ∙ x.goes in let z : ◌≡◌ {A = ℕ} 0 1 = cc in omega arith)

  pub made_long : length (val_bytes w) ≡ val_len t
  made_long = val_len_lem w made.0 ∙ ap val_len made.1

  pub hand_yes : (room : ℕ) → val_len t ≤ room → hand_val room w ≡ ok (val_bytes w)
  unfolding hand_val
  hand_yes room h = rw (made.1, le-leb (val_len t) room h)

  pub hand_no : (room : ℕ) → room < val_len t → hand_val room w ≡ no 22
  unfolding hand_val
  hand_no room h = rw (made.1, lt-leb (val_len t) room h)

  pub room_for : {out : List ℕ} → val_len t ≤ length out → ValueRoom 15 target 0 args 0 (length args) out 0
  room_for h = record { type = t; value = v; into = w; asked = room_to; goes = x.goes; room = omega (arith, made_long) }

-- ---- whether it does

pub found_asked : {target args ty : List ℕ} (o : OneType target) (f : Found args ty) → Asked target args ty o.type f.value
found_asked o f = record { whole = o.stands; value = f.one; type = f.whole }

module _ {target args ty : List ℕ} {t : Ty} {v : Val} (x : Asked target args ty t v) where
  pub asked_to : T (converts (type_of v) t) → ValueTo 15 target 0 args 0 (length args) t v
  asked_to c = record { part = t; end = length target; stands = x.whole; bottom = refl; has = one_has x.value; converts = c }

  pub type_no : (room : ℕ) → converts (type_of v) t ≡ false → converted t v room ≡ no 9
  unfolding converted
  type_no room c = rw (conv_not t v c)

  pub value_no : (room : ℕ) → false ≡ some? (conv_val t v) → converted t v room ≡ no 9
  unfolding converted
  value_no room e = rw (none_of (conv_val t v) e)

  pub record Goes : Type 0 where
    pub into : Val
    pub becomes : Becomes target args t v into

  pub value_goes : T (converts (type_of v) t) → true ≡ some? (conv_val t v) → Goes
  value_goes c e = let o = some_of (conv_val t v) e in record {
    into = o.0;
    becomes = record { whole = x.whole; value = x.value; converts = c; goes = o.1 };
  }

  pub value_yes : (g : Goes) (room : ℕ) → converted t v room ≡ hand_val room g.into
  unfolding converted
  value_yes g room = rw g.becomes.goes

-- ---- what is read of the arguments

pub type_read : (t : Ty) {s : List ℕ} (room : ℕ) {v : Val} → OneValue s v → convert_read (Of t) s room ≡ converted t v room
unfolding conv_one converted good_arg
type_read t room x = one_read (Of t) room (λ u. refl) x
