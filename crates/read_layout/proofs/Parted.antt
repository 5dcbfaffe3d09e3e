-- The loops over elements and over members.
use mathlib.Core.Path.{◌≡◌, refl, sym, ◌∙◌}
use mathlib.Core.List.{List}
use Prim.Native.Nat.{ℕ, ◌+◌, ◌-◌, ◌*◌, ◌≤◌, ◌<◌}
use native.Mathlib.Omega.{arith}
use native.Mathlib.Nat.{sub-zero}
use lib.ListN.{length, get_or}
use Rattle.meaning.specs.Trees.{Ty, Tys}
use Rattle.meaning.specs.Layout.{stride, align_of, size_of, past_last}
use Rattle.memory.proofs.RoundUp.{up_more, align_is}
use Rattle.record.specs.Bytes.{Put}
use Rattle.record.proofs.Left.{Left, left_all, one_less, left_room, left_on, left_end}
use Rattle.read_layout.specs.Memory.{Typed, TypedAll, value_from, ValueRoom, ValueMoved, elements_from, ElementsRoom, members_from}
use Rattle.read_layout.specs.Memory.{MembersRoom}
use Rattle.read_layout.proofs.Apart.{Apart, apart_all, apart_within, apart_room, apart_on, apart_end}
use Rattle.read_layout.proofs.Parts.{value_there, value_here, elements_from_lem}
use Rattle.read_layout.proofs.ByType.{FirstLies, first_lies, none_lies}

-- ---- elements: after the first, `end` is where their type's record ends

pub record EachLeft (t : Ty) (q n : ℕ) (mem : List ℕ) (at : ℕ) (out₀ : List ℕ) (to : ℕ) (out : List ℕ) (end i p done : ℕ) : Type 0 where
  pub after : 0 < done → end ≡ q
  pub rest : Apart (value_there t) (stride t) mem at n out₀ to out i p done

abbrev pub ElementsLeft : ℕ → List ℕ → ℕ → ℕ → ℕ → List ℕ → List ℕ → ℕ → List ℕ → ℕ → List ℕ → ℕ → ℕ → ℕ → ℕ → Type 0
ElementsLeft d ty o n pad pads mem at out₀ to out end i p done =
    (t : Ty) (q : ℕ) → Typed d ty o pads q t → pad ≡ stride t - size_of t → EachLeft t q n mem at out₀ to out end i p done

pub elements_all : (d : ℕ) (ty : List ℕ) (o n pad : ℕ) (pads mem : List ℕ) (at : ℕ) (out : List ℕ) (to end : ℕ)
    → ElementsLeft d ty o n pad pads mem at out to out end at to 0
elements_all d ty o n pad pads mem at out to end t q w e = record {
  after = λ h. absurd (omega arith);
  rest = apart_all (value_there t)
      (stride t) mem at n out to;
}

stride_wide : (t : Ty) → size_of t ≤ stride t
unfolding stride
stride_wide t = up_more (align_of t) (align_is t) (size_of t)

module _ {d : ℕ} {ty : List ℕ} {o n pad : ℕ} {pads mem : List ℕ} {at : ℕ} {out₀ : List ℕ} {to : ℕ} {out : List ℕ} {end i p done : ℕ}
    (g : ElementsRoom d ty o n pad pads mem at out₀ to) (v : ElementsLeft d ty o n pad pads mem at out₀ to out end i p done) where
  here : EachLeft g.type g.ty_end n mem at out₀ to out end i p done
  here = v g.type g.ty_end g.typed g.padding

  module _ (h : done < n) where
    pub element_room : ValueRoom d ty o pads mem i out p
    element_room =
        let t = g.type in
        record {
          type = t;
          ty_end = g.ty_end;
          typed = g.typed;
          within = omega (arith, apart_within here.rest h g.within, stride_wide t);
          room = rw (value_here mem i t) at (apart_room here.rest h (rw (elements_from_lem mem at n t) at g.room));
        }

    module _ {q' f r skip : ℕ} {out' : List ℕ} (z : ValueMoved d ty o pads mem i out p q' f r out') (s : skip ≡ pad) where
      next : (t : Ty) (q : ℕ) → Typed d ty o pads q t → pad ≡ stride t - size_of t → f + skip ≡ i + stride t
      next t q w e = omega (arith, (z t q w).1, stride_wide t)

      pub element_on : ElementsLeft d ty o n pad pads mem at out₀ to out' q' (f + skip) r (done + 1)
      element_on t q w e =
          let y = z t q w in
          record { after = λ l. y.0; rest = apart_on (v t q w e).rest h (next t q w e) (rw (value_here mem i t) y.2) }

  pub elements_end : done ≡ n → (t : Ty) (q : ℕ) → Typed d ty o pads q t → pad ≡ stride t - size_of t
      → (end ≡ q) × (i ≡ at + n * stride t) × Put out₀ to (elements_from n t mem at) p out
  elements_end h t q w e =
      let x = v t q w e in
      let y = apart_end x.rest h in
      (x.after (omega (arith, g.some)), y.0, rw (elements_from_lem mem at n t) y.1)

-- ---- members

-- of the n members m₀ of the struct that begins at `base`, `done` are done; the types of the others stand at o, and those before
-- them end at i
pub record AllLeft (d : ℕ) (ty : List ℕ) (n : ℕ) (pads : List ℕ) (m₀ : Tys) (q base off₀ : ℕ) (mem out₀ : List ℕ)
    (to : ℕ) (out : List ℕ) (o i p done : ℕ) : Type 0 where
  pub types : Tys
  pub off : ℕ
  pub typed : TypedAll d ty o (n - done) pads q off types
  pub place : i ≡ base + off
  pub past : past_last off types ≡ past_last off₀ m₀
  pub rest : Left out₀ to (members_from off₀ m₀ mem base) out p (members_from off types mem base)

abbrev pub MembersLeft : ℕ → List ℕ → ℕ → ℕ → List ℕ → List ℕ → ℕ → List ℕ → ℕ → List ℕ → ℕ → ℕ → ℕ → ℕ → Type 0
MembersLeft d ty o n pads mem at out₀ to out o' i p done =
    (m : Tys) (q base off : ℕ) → TypedAll d ty o n pads q off m → at ≡ base + off
    → AllLeft d ty n pads m q base off mem out₀ to out o' i p done

pub members_all : (d : ℕ) (ty : List ℕ) (o n : ℕ) (pads mem : List ℕ) (at : ℕ) (out : List ℕ) (to : ℕ)
    → MembersLeft d ty o n pads mem at out to out o at to 0
members_all d ty o n pads mem at out to m q base off w e =
    record { types = m; off = off; typed = rw (sub-zero n) w; place = e; past = refl; rest = left_all out to (members_from off m mem base) }

module _ {d : ℕ} {ty : List ℕ} {o n : ℕ} {pads mem : List ℕ} {at : ℕ} {out₀ : List ℕ} {to : ℕ} {out : List ℕ} {o' i p done : ℕ}
    (g : MembersRoom d ty o n pads mem at out₀ to) (v : MembersLeft d ty o n pads mem at out₀ to out o' i p done) where
  those : AllLeft d ty n pads g.types g.ty_end g.base g.off mem out₀ to out o' i p done
  those = v g.types g.ty_end g.base g.off g.typed g.place

  module _ (h : done < n) where
    first : {m : Tys} {q base off : ℕ} (x : AllLeft d ty n pads m q base off mem out₀ to out o' i p done)
        → FirstLies d ty o' (n - done) pads q x.off x.types
    first x = first_lies x.typed (omega arith)

    pub member_index : o' + 3 ≤ length pads
    member_index = omega (arith, (first those).room, those.typed.long)

    module _ {pad : ℕ} (s : pad ≡ get_or pads (o' + 1) 0) where
      starts : {m : Tys} {q base off : ℕ} (x : AllLeft d ty n pads m q base off mem out₀ to out o' i p done) → i + pad ≡ base + (first x).start
      starts x = omega (arith, x.place, (first x).pad, (first x).behind)

      pub member_within : i + pad ≤ length mem
      member_within = omega (arith, starts those, (first those).within, those.past, g.within)

      pub member_room : ValueRoom d ty o' pads mem (i + pad) out p
      member_room =
          let x = those in
          let f = first x in
          let b = left_room x.rest (value_from f.type mem (g.base + f.start)) _ (f.bytes mem g.base) g.room in
          record {
            type = f.type;
            ty_end = f.mid;
            typed = f.first;
            within = omega (arith, starts x, f.within, x.past, g.within);
            room = rw (starts x) b;
          }

      pub member_on : {q' e r : ℕ} {out' : List ℕ} → ValueMoved d ty o' pads mem (i + pad) out p q' e r out'
          → MembersLeft d ty o n pads mem at out₀ to out' q' e r (done + 1)
      member_on z m q base off w a =
          let x = v m q base off w a in
          let f = first x in
          let y = z f.type f.mid f.first in
          record {
            types = f.others;
            off = f.start + size_of f.type;
            typed = rw (y.0, ← one_less n done) f.rest;
            place = omega (arith, y.1, starts x);
            past = sym f.past ∙ x.past;
            rest = left_on x.rest _ _ (f.bytes mem base) (rw (starts x) at y.2);
          }

  pub members_end : done ≡ n → (m : Tys) (q base off : ℕ) → TypedAll d ty o n pads q off m → at ≡ base + off
      → (o' ≡ q) × (i ≡ base + past_last off m) × Put out₀ to (members_from off m mem base) p out
  members_end h m q base off w a =
      let x = v m q base off w a in
      let y = none_lies x.typed (omega arith) in
      (y.0, omega (arith, x.place, y.1, x.past), left_end x.rest (y.2 mem base))
