-- Literals at a place.
use mathlib.Core.Path.{◌≡◌, refl, sym, ap, ◌∙◌, subst}
use mathlib.Core.List.{List, [], ◌∷◌, ◌++◌}
use Prim.Native.Nat.{ℕ, ◌+◌, ◌≤◌}
use native.Mathlib.Omega.{arith}
use native.Mathlib.Nat.{add-zero}
use lib.Dec.{T, leb, ltb, le→leb, leb→le, ltb→lt, lt→ltb}
use lib.ListN.{length, get_or, drop}
use Rattle.meaning.specs.Kinds.{Kind, bool, aint, afloat, i32, u32, f32, f16, kind_no, pay_width, payloads}
use Rattle.meaning.specs.Trees.{Ts, Val, Vs, Vv, Vm, Va, Vu, type_of, lit_len, val_len}
use Rattle.meaning.specs.Records.{‘V’, ‘s’, le, lit_bytes, val_bytes, good_lit, shaped_val}
use Rattle.laws.proofs.BackVal.{lit_fits_lem}
use Rattle.laws.proofs.Length.{val_len_lem}
use Rattle.kind.specs.Ends.{of_kind, numbered}
use Rattle.laws.proofs.AgreeLit.{kind_back}
use Rattle.laws.proofs.Sound.{Bytes}
use Rattle.record.specs.Bytes.{Decides, number_at}
use Rattle.record.specs.Literals.{width_of}
use Rattle.record.proofs.Starts.{decides_as, decides_test}
use Rattle.record.proofs.Places.{at_of, past, view3}
use Rattle.record.proofs.Numbers.{number_here, number_of}
use Rattle.record.proofs.Literals.{width_of_lem}
use Rattle.inst.specs.Values.{Fits}
use Rattle.inst.specs.Reading.{most, KindIs}
use Rattle.inst.proofs.ValueRows.{fits_end}

-- a value of a scalar type
pub record LitIs (j : Kind) (v : Val) : Type 0 where
  pub payload : ℕ
  pub is : v ≡ Vs j payload

pub lit_is : (j : Kind) (v : Val) → type_of v ≡ Ts j → LitIs j v
unfolding type_of
lit_is j (Vs k p) q = let i : k ≡ j = cc in record { payload = p; is = rw i }
lit_is j (Vv k ps) q = absurd (let z : ◌≡◌ {A = ℕ} 0 1 = cc in omega arith)
lit_is j (Vm c r k ps) q = absurd (let z : ◌≡◌ {A = ℕ} 0 1 = cc in omega arith)
lit_is j (Va l) q = absurd (let z : ◌≡◌ {A = ℕ} 0 1 = cc in omega arith)
lit_is j (Vu i l) q = absurd (let z : ◌≡◌ {A = ℕ} 0 1 = cc in omega arith)

-- where it stands, by its payload
pub record LitAt (s : List ℕ) (at : ℕ) (j : Kind) (e : ℕ) : Type 0 where
  pub payload : ℕ
  pub here : drop at s ≡ lit_bytes j payload ++ drop e s
  pub good : T (good_lit j payload)

pub lit_at : (s : List ℕ) (at : ℕ) (j : Kind) (e : ℕ) → Fits s at (Ts j) e → LitAt s at j e
unfolding val_bytes shaped_val
lit_at s at j e w =
    let x = lit_is j w.value w.type in
    record {
      payload = x.payload;
      here = subst (λ (v : Val). drop at s ≡ val_bytes v ++ drop e s) x.is w.here;
      good = subst
          (λ (v : Val). T (shaped_val v)) x.is w.shaped;
    }

most_is : (k : Kind) → payloads k ≡ most k + 1
unfolding most payloads
most_is bool = refl
most_is aint = refl
most_is afloat = refl
most_is i32 = refl
most_is u32 = refl
most_is f32 = refl
most_is f16 = refl

-- the mark and the kind of a literal, and room for the payload
pub record LitFront (s : List ℕ) (at k w : ℕ) : Type 0 where
  pub room : at + (3 + w) ≤ length s
  pub first : get_or s at 0 ≡ ‘V’
  pub second : get_or s (at + 1) 0 ≡ ‘s’
  pub kind : get_or s (at + 2) 0 ≡ k

module _ {s : List ℕ} {at : ℕ} {j : Kind} {k w m : ℕ} (i : KindIs j k w m) where
  pub literal_front : {e : ℕ} → Fits s at (Ts j) e → LitFront s at k w
  unfolding lit_bytes val_len lit_len
  literal_front {e} f =
      let x = (lit_at s at j e f).here in
      record {
        room = omega (arith, f.within, fits_end s at (Ts j) e f, i.wide);
        first = rw add-zero at (at_of s _ at x 0);
        second = at_of s _ at x 1;
        kind = at_of s _ at x 2 ∙ sym i.no;
      }

  -- behind the front the payload decides
  pub literal_decides : LitFront s at k w → Bytes s → (p : ℕ) → p ≡ number_at s (at + 3) w
      → Decides (Fits s at (Ts j) (at + (3 + w))) (leb p m)
  unfolding lit_bytes val_bytes type_of shaped_val good_lit val_len lit_len
  literal_decides r y p n =
      decides_as (leb p m) (decides_test {r = leb p m} refl)
      (λ h.
      let l = leb→le p m h in
      let g : T (ltb p (payloads j)) = lt→ltb p (payloads j) (omega (arith, most_is j, i.top)) in
      let q : at + 3 + w ≡ at + (3 + w) = omega arith in
      let x : drop at s ≡ lit_bytes j p ++ drop (at + (3 + w)) s = cc
      (view3 s at (omega (arith, r.room)), r.first, r.second, r.kind, i.no, i.wide, rw (sym n) at (number_here s (at + 3) w y (omega (arith, r.room))), q) in
      record { value = Vs j p; here = x; size = rw (val_len_lem (Vs j p) g, i.wide); within = r.room; shaped = g; type = refl })
      (λ f.
      let t = lit_at s at j (at + (3 + w)) f in
      let v : drop (at + 3) s ≡ le (pay_width j) t.payload ++ drop (at + (3 + w)) s = past s (86 ∷ 115 ∷ kind_no j ∷ []) _ at t.here in
      let z : p ≡ t.payload = n ∙ (ap (number_at s (at + 3)) i.wide
      ∙ number_of s _ (at + 3) (pay_width j) t.payload v (lit_fits_lem j t.payload t.good)) in
      le→leb p m (omega (arith, ltb→lt t.payload (payloads j) t.good, most_is j, i.top)))

-- what the readers know of a kind
pub kind_is : {j : Kind} {k w m : ℕ} → k ≡ kind_no j → w ≡ width_of k → m ≡ numbered most k → KindIs j k w m
unfolding of_kind
kind_is {j} p z q = record {
  no = p;
  wide = z ∙ (ap width_of p ∙ width_of_lem j);
  top = q
      ∙ (ap (numbered most) p ∙ ap (of_kind 0 most) (kind_back j));
}

-- a literal ends in one place only
pub literal_none : {s : List ℕ} {at : ℕ} {j : Kind} {k w m : ℕ} → KindIs j k w m → (Fits s at (Ts j) (at + (3 + w)) → ⊥) → (e : ℕ)
    → Fits s at (Ts j) e → ⊥
unfolding val_len lit_len
literal_none {s} {at} {j} {w = w} i f e x =
    let z : e ≡ at + (3 + w) = fits_end s at (Ts j) e x ∙ ap (λ (n : ℕ). at + (3 + n)) (sym i.wide) in
    f (subst (Fits s at (Ts j)) z x)
