-- The front of a value with parts.
use mathlib.Core.Path.{◌≡◌, sym, ap, ◌∙◌, subst}
use mathlib.Core.List.{List, ◌++◌, append_assoc}
use Prim.Native.Nat.{ℕ, ◌+◌}
use native.Mathlib.Omega.{arith}
use lib.ListN.{length, drop, length-append}
use Rattle.meaning.specs.Trees.{Ty, Val, type_of}
use Rattle.meaning.specs.Records.{val_bytes, vals_bytes}
use Rattle.ty.specs.TypeFronts.{Same}
use Rattle.record.specs.Bytes.{Starts}
use Rattle.record.proofs.Places.{past}
use Rattle.inst.specs.Values.{Fits, FitsAll}
use Rattle.inst.proofs.ValueParts.{Parted, parts_of, front_bytes, apart, join}

module _ (s : List ℕ) (at : ℕ) where
  module _ (t : Ty) (p : Parted t) where
    parted_of : (v : Val) → type_of v ≡ t → Parted (type_of v)
    parted_of v q = subst Parted (sym q) p

    front_of : (e : ℕ) (w : Fits s at t e) → drop at s ≡ front_bytes t ++
        (vals_bytes (apart w.value w.shaped (parted_of w.value w.type)).parts ++ drop e s)
    front_of e w =
        let x = apart w.value w.shaped (parted_of w.value w.type) in
        w.here
        ∙ (ap (λ (b : List ℕ). b ++ drop e s) (x.bytes ∙ ap (λ (u : Ty). front_bytes u ++ vals_bytes x.parts) w.type)
        ∙ append_assoc (front_bytes t) (vals_bytes x.parts) (drop e s))

    front_size : (e : ℕ) (w : Fits s at t e) → e ≡ at + length (front_bytes t) + length
        (vals_bytes (apart w.value w.shaped (parted_of w.value w.type)).parts)
    front_size e w =
        let x = apart w.value w.shaped (parted_of w.value w.type) in
        let l : length (val_bytes w.value) ≡ length (front_bytes t ++ vals_bytes x.parts) = ap length
        (x.bytes ∙ ap (λ (u : Ty). front_bytes u ++ vals_bytes x.parts) w.type) in
        omega (arith, w.size, l, length-append (front_bytes t) (vals_bytes x.parts))

    -- it begins with its front
    pub fits_starts : (e : ℕ) → Fits s at t e → Starts s at (front_bytes t)
    fits_starts e w =
        let f = front_of e w in
        record {
          here = f ∙ ap (λ (r : List ℕ). front_bytes t ++ r) (sym (past s (front_bytes t) _ at f));
          room = omega
              (arith, front_size e w, w.within);
        }

    -- behind its front stand its parts, and it ends where they do
    pub parts_same : Starts s at (front_bytes t) → Same (FitsAll s (at + length (front_bytes t)) (parts_of t)) (Fits s at t)
    parts_same h e = (
      (λ w.
          let x = join t p w.values w.types w.shaped in
          let f = front_bytes t in
          let b = vals_bytes w.values in
          record {
            value = x.value;
            here = h.here ∙ (ap (λ (r : List ℕ). f ++ r) w.here ∙
                (sym (append_assoc f b (drop e s)) ∙ ap (λ (r : List ℕ). r ++ drop e s) (sym x.bytes)));
            size = omega (arith, w.size, ap length x.bytes, length-append f b);
            within = w.within;
            shaped = x.shaped;
            type = x.type;
          }),
      λ w.
          let x = apart w.value w.shaped (parted_of w.value w.type) in
          record {
            values = x.parts;
            here = past s (front_bytes t) _ at (front_of e w);
            size = front_size e w;
            within = w.within;
            shaped = x.shaped;
            types = x.types ∙ ap parts_of w.type;
          },
    )
