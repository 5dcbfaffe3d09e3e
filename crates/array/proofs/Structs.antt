-- A struct: its members' number and place in the target, what the arguments become, and its record.
use mathlib.Core.Path.{◌≡◌, refl, sym, ap, ◌∙◌, subst}
use mathlib.Core.Option.{some}
use mathlib.Core.List.{List, [], ◌∷◌, ◌++◌, map}
use mathlib.Core.Bool.{Bool, true, false}
use Prim.Native.Nat.{ℕ, ◌+◌, ◌*◌, ◌≤◌}
use native.Mathlib.Omega.{arith}
use borrow.Author.Tests.{eq-eqb, ne_eqb}
use lib.Dec.{T, leb}
use lib.ListN.{length, get_or, take, drop, length-append}
use Rattle.meaning.specs.Scalars.{Const, some?}
use Rattle.meaning.specs.Trees.{Ty, Tu, Tys, Val, Vu, type_of, types_of, tys_list, tys_of, vals_of, count_vals, val_len}
use Rattle.meaning.specs.Records.{‘V’, ‘u’, le, ty_bytes, val_bytes, joined, shaped_val, shaped_vals}
use Rattle.meaning.specs.Answers.{ok, no, miscount}
use Rattle.meaning.specs.Build.{memberwise, struct_of}
use Rattle.meaning.specs.Typing.{memberwise_ty}
use Rattle.laws.specs.Demand.{fits_in}
use Rattle.laws.proofs.AgreeBuild.{AllOk, ConvM, conv_members, members_not}
use Rattle.laws.proofs.Back.{tys_back}
use Rattle.laws.proofs.BackVal.{count_types}
use Rattle.laws.proofs.Length.{val_len_lem}
use Rattle.laws.proofs.Sound.{some_inj, no_some}
use Rattle.laws.proofs.SoundVal.{joined_vals}
use Rattle.ty.specs.Stands.{Standing, Whole}
use Rattle.ty.proofs.Heads.{StructIs, struct_by}
use Rattle.ty.proofs.Targets.{whole_bytes}
use Rattle.record.specs.Bytes.{Put}
use Rattle.record.proofs.Puts.{put_put}
use Rattle.args.specs.Row.{Row}
use Rattle.error.specs.Told.{Builds}
use Rattle.error.proofs.BufferAtExit.{builds_long, builds_record}
use Rattle.args.proofs.ArgumentRows.{each_ok}
use Rattle.array.specs.Members.{Pairs, Made}
use Rattle.array.proofs.Lengths.{room_no, room_yes}
use Rattle.shape.proofs.Downs.{some_of, none_of}
use Rattle.std.specs.declared.result.Result.TheVariants.{Ok, Err}
use Rattle.error.specs.declared.Refusal.TheVariants.{NoRoom}

-- ---- the target

module _ {target : List ℕ} {i : ℕ} {m : Tys} (w : Whole target (Tu i m)) where
  bytes : target ≡ ty_bytes (Tu i m)
  bytes = whole_bytes w

  parts : StructIs 15 target 0 (get_or target 2 0 + 256 * get_or target 3 0) (get_or target 4 0 + 256 * get_or target 5 0) (Tu i m) (length target)
  unfolding ty_bytes
  parts = struct_by w (ap (λ (l : List ℕ). get_or l 1 0) bytes)

  types : parts.members ≡ m
  types = cc parts.is

  pub struct_stands : Standing 15 target 0
  struct_stands = record { type = Tu i m; end = length target; stands = w }

  -- the 6 bytes before the members
  pub struct_room : 6 ≤ length target
  struct_room = omega (arith, parts.room)

  struct_front_lem : take 4 (drop 2 target) ≡ le 2 i ++ le 2 (length (tys_list m))
  unfolding ty_bytes le
  struct_front_lem = ap (λ (l : List ℕ). take 4 (drop 2 l)) bytes

  pub struct_front_long : length (take 4 (drop 2 target)) ≡ 4
  unfolding le
  struct_front_long = ap length struct_front_lem

  pub struct_count : get_or target 4 0 + 256 * get_or target 5 0 ≡ length (tys_list m)
  struct_count = sym parts.parts.count ∙ ap (λ (x : Tys). length (tys_list x)) types

  pub struct_pairs : {args : List ℕ} {l : List Val} → Row args 0 l → length l ≡ length (tys_list m) → Pairs target 6 args 0 m l
  struct_pairs {l = l} r n =
      let k : get_or target 4 0 + 256 * get_or target 5 0 ≡ length l = struct_count ∙ sym n in
      record { types = rw (types, k) at parts.parts; row = r }

-- ---- what the arguments become

pub members_made : (ts : List Ty) (l ws : List Val) → AllOk l → length l ≡ length ts → memberwise ts l ≡ some ws
    → T (shaped_vals (vals_of ws)) × (types_of (vals_of ws) ≡ tys_of ts)
members_made ts l ws a n e = go (memberwise_ty ts (map type_of l)) refl
  where
    take : (b : Bool) → ConvM b ts (memberwise ts l) → T (shaped_vals (vals_of ws)) × (types_of (vals_of ws) ≡ tys_of ts)
    take true (us, h, s, y) =
        let k : us ≡ ws = some_inj (sym h ∙ e) in
        (subst (λ (x : List Val). T (shaped_vals (vals_of x))) k s, ap (λ (x : List Val). types_of (vals_of x)) (sym k) ∙ y)
    take false h = no_some (sym h ∙ e)

    go : (b : Bool) → memberwise_ty ts (map type_of l) ≡ b → T (shaped_vals (vals_of ws)) × (types_of (vals_of ws) ≡ tys_of ts)
    go true q = take (fits_in false Const ts l) (conv_members ts l Const a n (subst T (sym q) tt))
    go false q = no_some (sym (members_not ts l q) ∙ e)

-- ---- the struct

module _ {target args : List ℕ} {i : ℕ} {m : Tys} {l ws : List Val} (x : Made target args i m l ws) where
  abbrev pub made_val : Val
  made_val = Vu i (vals_of ws)

  members : T (shaped_vals (vals_of ws)) × (types_of (vals_of ws) ≡ m)
  members =
      let y = members_made (tys_list m) l ws (each_ok l x.struct.row.each) x.count x.goes in
      (y.0, y.1 ∙ tys_back m)

  shaped : T (shaped_val made_val)
  unfolding shaped_val
  shaped = members.0

  type : type_of made_val ≡ Tu i m
  unfolding type_of
  type = ap (Tu i) members.1

  record_is : val_bytes made_val ≡ (‘V’ ∷ ‘u’ ∷ []) ++ take 4 (drop 2 target) ++ joined val_bytes ws
  unfolding val_bytes le
  record_is =
      let n : count_vals (vals_of ws) ≡ length (tys_list m) = sym (count_types (vals_of ws))
      ∙ ap (λ (y : Tys). length (tys_list y)) members.1 in
      rw (struct_front_lem x.struct.whole, n, (joined_vals ws).0)

  made_long : val_len (Tu i m) ≡ 6 + length (joined val_bytes ws)
  made_long =
      omega (
        arith,
        val_len_lem made_val shaped,
        ap val_len type,
        ap length record_is,
        length-append (take 4 (drop 2 target))
            (joined val_bytes ws),
        struct_front_long x.struct.whole,
      )

  module _ (out : List ℕ) where
    -- the test of the length that the type says
    module _ {r : Bool} (w : r ≡ leb (val_len (Tu i m)) (length out)) where
      pub made_no : r ≡ false → Builds (ok made_val) out (Err NoRoom) out
      made_no q = builds_long out made_val refl (rw type (room_no (val_len (Tu i m)) (length out) w q))

      pub made_room : r ≡ true → 6 + length (joined val_bytes ws) ≤ length out
      made_room q = omega (arith, made_long, room_yes (val_len (Tu i m)) (length out) w q)

    -- the mark, the identity and the member count, and the members
    pub made_yes : {o₁ o₂ out' : List ℕ} {p q r : ℕ} → 6 + length (joined val_bytes ws) ≤ length out → Put out 0 (‘V’ ∷ ‘u’ ∷ []) p o₁
        → Put o₁ p (take 4 (drop 2 target)) q o₂
        → Put o₂ q (joined val_bytes ws) r out' → Builds (ok made_val) out (Ok r) out'
    made_yes h a b c = builds_record out made_val refl shaped (rw type (omega (arith, made_long))) (rw record_is (put_put (put_put a b) c))

-- ---- the answer

pub record Goes (i : ℕ) (m : Tys) (l : List Val) (target args : List ℕ) : Type 0 where
  pub intos : List Val
  pub made : Made target args i m l intos
  pub yes : struct_of i m l ≡ ok (Vu i (vals_of intos))

module _ (i : ℕ) (m : Tys) (l : List Val) where
  pub struct_miscount : {wanted count : ℕ} → wanted ≡ length (tys_list m) → count ≡ length l → (count ≡ wanted → ⊥)
      → struct_of i m l ≡ miscount wanted count
  unfolding struct_of
  struct_miscount w g h = rw (ne_eqb (length l) (length (tys_list m)) (λ e. h (g ∙ e ∙ sym w)), w, g)

  module _ (n : length l ≡ length (tys_list m)) where
    pub struct_no : some? (memberwise (tys_list m) l) ≡ false → struct_of i m l ≡ no 9
    unfolding struct_of
    struct_no h = rw (eq-eqb (length l) (length (tys_list m)) n, none_of (memberwise (tys_list m) l) (sym h))

    -- what they become
    pub struct_yes : {target args : List ℕ} → Whole target (Tu i m) → Row args 0 l → some? (memberwise (tys_list m) l) ≡ true
        → Goes i m l target args
    unfolding struct_of
    struct_yes {target} {args} w r h = let o = some_of (memberwise (tys_list m) l) (sym h) in go o.0 o.1
      where
        go : (ws : List Val) → memberwise (tys_list m) l ≡ some ws → Goes i m l target args
        go ws q = record {
          intos = ws;
          made = record { struct = record { whole = w; row = r }; count = n; goes = q };
          yes = rw (eq-eqb (length l) (length (tys_list m)) n, q);
        }
