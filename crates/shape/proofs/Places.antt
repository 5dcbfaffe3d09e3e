-- A type's record cut out of a buffer, and copied to the front of one.
use mathlib.Core.Path.{◌≡◌, sym, ap, ◌∙◌, subst}
use mathlib.Core.List.{List, append-nil}
use Prim.Native.Nat.{ℕ, ◌-◌, ◌≤◌}
use native.Mathlib.Omega.{arith}
use lib.ListN.{length, take, drop}
use lib.Seq.{drop-length, take_at}
use Rattle.meaning.specs.Trees.{Ty}
use Rattle.meaning.specs.Records.{ty_bytes}
use Rattle.ty.specs.Stands.{Stands, Ends, Whole}
use Rattle.ty.proofs.Places.{same_end, put_stands}
use Rattle.record.specs.Bytes.{Put}

module _ {d : ℕ} {s : List ℕ} {at : ℕ} {t : Ty} {e : ℕ} (w : Stands d s at t e) where
  cut : take (e - at) (drop at s) ≡ ty_bytes t
  cut = ap (take (e - at)) w.here ∙ take_at (ty_bytes t) (drop e s) (e - at) (omega (arith, w.size))

  -- the bytes of the record are one type's
  pub cut_whole : d ≤ 15 → Whole (take (e - at) (drop at s)) t
  cut_whole h =
      record {
        here = rw (drop-length (take (e - at) (drop at s))) (cut ∙ sym (append-nil (ty_bytes t)));
        size = omega (arith, ap length cut);
        within = omega arith;
        shaped = w.shaped;
        deep = omega (arith, w.deep);
      }

  -- they copied to the front of a buffer stand there
  pub cut_put : {out out' : List ℕ} {r : ℕ} → Put out 0 (take (e - at) (drop at s)) r out' → length (ty_bytes t) ≤ length out
      → Stands d out' 0 t r
  cut_put {out} {out'} {r} p h =
      let q : Put out 0 (ty_bytes t) r out' = subst (λ (b : List ℕ). Put out 0 b r out') cut p in
      put_stands t w.shaped w.deep q (omega (arith, q.end))

-- the same where its end was found
pub cut_to : {d : ℕ} {s : List ℕ} {at e : ℕ} → Ends d s at e → d ≤ 15 → {t : Ty} {e' : ℕ} → Stands d s at t e'
    → Whole (take (e - at) (drop at s)) t
cut_to {d} {s} {at} {e} f h {t} w = cut_whole (subst (Stands d s at t) (same_end w f.stands) w) h

-- one type's record copied to the front of a buffer
pub whole_put : {s out out' : List ℕ} {t : Ty} {r : ℕ} → Whole s t → Put out 0 (take (length s - 0) (drop 0 s)) r out'
    → length s ≤ length out → Stands 15 out' 0 t r
whole_put w p h = cut_put w p (omega (arith, w.size))
