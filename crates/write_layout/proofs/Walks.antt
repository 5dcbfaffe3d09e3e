-- The loops over elements and members: the first of the values that are left, and what is left behind it.
use mathlib.Core.Path.{◌≡◌, refl, sym, ap, ◌∙◌, subst}
use mathlib.Core.List.{List, ◌++◌}
use Prim.Native.Nat.{ℕ, ◌+◌, ◌-◌, ◌<◌}
use native.Mathlib.Omega.{arith}
use native.Mathlib.Nat.{sub-zero}
use lib.Dec.{T}
use lib.ListN.{length, get_or}
use Rattle.meaning.specs.Trees.{Ty, Tys, ◌▸◌, Val, Vals, ⟨⟩, ◌▹◌, type_of, types_of, count_vals}
use Rattle.meaning.specs.Records.{ty_bytes, val_bytes, vals_bytes, shaped_val, shaped_vals}
use Rattle.meaning.specs.Layout.{round_up, align_of, size_of, stride, zeros, mem_bytes, mem_elements, mem_members}
use Rattle.laws.proofs.AgreeConv.{AllTy}
use Rattle.laws.proofs.Back.{and_l, and_r}
use Rattle.laws.proofs.BackVal.{count_types}
use Rattle.ty.specs.Stands.{Stands, StandAll}
use Rattle.ty.proofs.Heads.{first_is, none_is, FirstIs}
use Rattle.record.specs.Bytes.{Put, Takes}
use Rattle.record.proofs.Left.{Left, left_all, one_less, left_room, left_on, left_end}
use Rattle.record.specs.Values.{BytesAt, HasVal}
use Rattle.memory.specs.Padding.{Padded, PaddedAll}
use Rattle.write_layout.specs.Memory.{Value, ValueRoom, ValueMoved, Elements, Members}
use Rattle.write_layout.proofs.Parts.{bytes_rest, bytes_first, bytes_none, in_table}

-- ---- the first of some values

pub record FirstVal (s : List ℕ) (i e : ℕ) (l : Vals) : Type 0 where
  pub value : Val
  pub others : Vals
  pub mid : ℕ
  pub is : l ≡ value ▹ others
  pub has : HasVal s i mid value
  pub bytes : BytesAt s mid e (vals_bytes others)
  pub shaped : T (shaped_vals others)

module _ {s : List ℕ} {i e : ℕ} where
  first_val : (l : Vals) → BytesAt s i e (vals_bytes l) → T (shaped_vals l) → 0 < count_vals l → FirstVal s i e l
  unfolding count_vals vals_bytes shaped_vals
  first_val ⟨⟩ b g h = absurd (omega arith)
  first_val (v ▹ l) b g h =
      record {
        value = v;
        others = l;
        mid = i + length (val_bytes v);
        is = refl;
        has = record { bytes = bytes_first (val_bytes v) (vals_bytes l) b; shaped = and_l (shaped_val v) (shaped_vals l) g };
        bytes = bytes_rest (val_bytes v) (vals_bytes l) b;
        shaped = and_r (shaped_val v) (shaped_vals l) g;
      }

  no_val : (l : Vals) → BytesAt s i e (vals_bytes l) → count_vals l ≡ 0 → (l ≡ ⟨⟩) × (i ≡ e)
  unfolding count_vals vals_bytes
  no_val ⟨⟩ b h = (refl, bytes_none b)
  no_val (v ▹ l) b h = absurd (omega arith)

-- ---- elements: of n, `done` are written; after the first, `end` is where their type's record ends

pub record EachLeft (s : List ℕ) (q e n : ℕ) (t : Ty) (l₀ : Vals) (out₀ : List ℕ) (to end i p done : ℕ) (out : List ℕ) : Type 0 where
  pub values : Vals
  pub after : 0 < done → end ≡ q
  pub bytes : BytesAt s i e (vals_bytes values)
  pub shaped : T (shaped_vals values)
  pub types : AllTy t values
  pub count : count_vals values + done ≡ n
  pub rest : Left out₀ to (mem_elements l₀) out p (mem_elements values)

module _ {d : ℕ} {ty : List ℕ} {o n pad : ℕ} {pads s : List ℕ} {at q e : ℕ} {t : Ty} {l₀ : Vals}
    (x : Elements d ty o n pad pads s at q e t l₀) where
  pub each_all : (out : List ℕ) (to : ℕ) → EachLeft s q e n t l₀ out to o at to 0 out
  each_all out to =
      record {
        values = l₀;
        after = λ h. absurd (omega arith);
        bytes = x.bytes;
        shaped = x.shaped;
        types = x.types;
        count = omega (arith, x.count);
        rest = left_all out to (mem_elements l₀);
      }

  module _ {out₀ : List ℕ} {to end i p done : ℕ} {out : List ℕ} (g : EachLeft s q e n t l₀ out₀ to end i p done out) where
    module _ (h : done < n) where
      element : FirstVal s i e g.values
      element = first_val g.values g.bytes g.shaped (omega (arith, g.count))

      all_types : AllTy t (element.value ▹ element.others)
      all_types = subst (AllTy t) element.is g.types

      value : Value d ty o pads s i q element.mid element.value
      value =
          let f = sym all_types.0 in
          record {
            stands = subst (λ (u : Ty). Stands d ty o u q) f x.stands;
            padded = subst (Padded pads o) f x.padded;
            long = x.long;
            has = element.has;
          }

      behind : List ℕ
      behind = mem_elements element.others

      element_mem : mem_elements g.values ≡ mem_bytes element.value ++ (zeros pad ++ behind)
      unfolding mem_elements behind
      element_mem =
          ap mem_elements element.is
          ∙ ap (λ (m : ℕ). mem_bytes element.value ++ (zeros m ++ behind))
          (ap (λ (u : Ty). stride u - size_of u) all_types.0 ∙ sym x.padding)

      pub each_room : Takes out₀ to (mem_elements l₀) → ValueRoom d ty o pads s i out p
      each_room l =
          record {
            value = element.value;
            ty_end = q;
            end = element.mid;
            is = value;
            room = left_room g.rest (mem_bytes element.value) (zeros pad ++ behind) element_mem l;
          }

      module _ {q' e' r : ℕ} {between : List ℕ} (y : ValueMoved d ty o pads s i out p q' e' r between) where
        element_moved : (q' ≡ q) × (e' ≡ element.mid) × Put out p (mem_bytes element.value) r between
        element_moved = y q element.mid element.value value

        padding_left : Left out₀ to (mem_elements l₀) between r (zeros pad ++ behind)
        padding_left = left_on g.rest (mem_bytes element.value) (zeros pad ++ behind) element_mem element_moved.2

        pub each_pad : Takes out₀ to (mem_elements l₀) → Takes between r (zeros pad)
        each_pad l = left_room padding_left (zeros pad) behind refl l

        pub each_on : {z : ℕ} {out' : List ℕ} → Put between r (zeros pad) z out' → EachLeft s q e n t l₀ out₀ to q' e' z (done + 1) out'
        unfolding count_vals behind
        each_on w =
            record {
              values = element.others;
              after = λ m. element_moved.0;
              bytes = subst (λ (a : ℕ). BytesAt s a e (vals_bytes element.others)) (sym element_moved.1) element.bytes;
              shaped = element.shaped;
              types = all_types.1;
              count = omega (arith, g.count, ap count_vals element.is);
              rest = left_on padding_left (zeros pad) behind refl w;
            }

    pub each_end : done ≡ n → (end ≡ q) × (i ≡ e) × Put out₀ to (mem_elements l₀) p out
    unfolding mem_elements
    each_end h =
        let y = no_val g.values g.bytes (omega (arith, g.count)) in
        (g.after (omega (arith, x.some)), y.1, left_end g.rest (ap mem_elements y.0))

-- ---- members: of n, `done` are written

pub record AllLeft (d : ℕ) (ty : List ℕ) (n : ℕ) (pads s : List ℕ) (q e off₀ : ℕ) (l₀ : Vals) (out₀ : List ℕ) (to o i p done : ℕ)
    (out : List ℕ) : Type 0 where
  pub values : Vals
  pub off : ℕ
  pub are : Members d ty o (n - done) pads s i q e off values
  pub rest : Left out₀ to (mem_members off₀ l₀) out p (mem_members off values)

pub all_all : {d : ℕ} {ty : List ℕ} {o n : ℕ} {pads s : List ℕ} {at q e off : ℕ} {l : Vals} (out : List ℕ) (to : ℕ)
    → Members d ty o n pads s at q e off l → AllLeft d ty n pads s q e off l out to o at to 0 out
all_all {n = n} {off = off} {l = l} out to x =
    record { values = l; off = off; are = rw (sub-zero n) x; rest = left_all out to (mem_members off l) }

module _ {d : ℕ} {ty : List ℕ} {n : ℕ} {pads s : List ℕ} {q e off₀ : ℕ} {l₀ : Vals} {out₀ : List ℕ} {to o i p done : ℕ} {out : List ℕ}
    (g : AllLeft d ty n pads s q e off₀ l₀ out₀ to o i p done out) where
  many : count_vals g.values ≡ n - done
  many = sym (count_types g.values) ∙ g.are.stands.count

  module _ (h : done < n) where
    type : FirstIs d ty o (n - done) (types_of g.values) q
    type = first_is g.are.stands (omega arith)

    member : FirstVal s i e g.values
    member = first_val g.values g.are.bytes g.are.shaped (omega (arith, many))

    same : type.type ▸ type.others ≡ type_of member.value ▸ types_of member.others
    unfolding types_of
    same = sym type.is ∙ ap types_of member.is

    same_type : type.type ≡ type_of member.value
    same_type = cc same

    same_types : type.others ≡ types_of member.others
    same_types = cc same

    padded : PaddedAll pads o g.off (type_of member.value ▸ types_of member.others)
    unfolding types_of
    padded = subst (λ (l : Vals). PaddedAll pads o g.off (types_of l)) member.is g.are.padded

    next : ℕ
    next = round_up (align_of (type_of member.value)) g.off + size_of (type_of member.value)

    value_of_lem : Value d ty o pads s i type.mid member.mid member.value
    unfolding Padded
    value_of_lem =
        record {
          stands = subst (λ (u : Ty). Stands d ty o u type.mid) same_type type.first;
          padded = padded.1;
          long = omega (arith, type.rest.size, g.are.long);
          has = member.has;
        }

    after : List ℕ
    after = mem_members next member.others

    member_mem : mem_members g.off g.values ≡ zeros (get_or pads (o + 1) 0) ++ (mem_bytes member.value ++ after)
    unfolding mem_members Padded after next
    member_mem = ap (mem_members g.off) member.is ∙ ap (λ (m : ℕ). zeros m ++ (mem_bytes member.value ++ after)) (sym padded.0)

    pub all_here : o + 1 < length pads
    all_here = omega (arith, in_table type.first, type.rest.size, g.are.long)

    pub all_pad : Takes out₀ to (mem_members off₀ l₀) → Takes out p (zeros (get_or pads (o + 1) 0))
    all_pad l = left_room g.rest (zeros (get_or pads (o + 1) 0)) (mem_bytes member.value ++ after) member_mem l

    -- behind the padding
    module _ {b : ℕ} {between : List ℕ} (w : Put out p (zeros (get_or pads (o + 1) 0)) b between) where
      member_left : Left out₀ to (mem_members off₀ l₀) between b (mem_bytes member.value ++ after)
      member_left = left_on g.rest (zeros (get_or pads (o + 1) 0)) (mem_bytes member.value ++ after) member_mem w

      pub all_room : Takes out₀ to (mem_members off₀ l₀) → ValueRoom d ty o pads s i between b
      all_room l =
          record {
            value = member.value;
            ty_end = type.mid;
            end = member.mid;
            is = value_of_lem;
            room = left_room member_left (mem_bytes member.value) after refl l;
          }

      pub all_on : {q' e' r : ℕ} {out' : List ℕ} → ValueMoved d ty o pads s i between b q' e' r out'
          → AllLeft d ty n pads s q e off₀ l₀ out₀ to q' e' r (done + 1) out'
      unfolding Padded after next
      all_on {q'} y =
          let m = y type.mid member.mid member.value value_of_lem in
          let ts = subst (λ (k : Tys). StandAll d ty type.mid (n - done - 1) k q) same_types type.rest in
          let z : o + length (ty_bytes (type_of member.value)) ≡ q' = sym
          (m.0 ∙ (type.first.size ∙ ap (λ (u : Ty). o + length (ty_bytes u)) same_type)) in
          record {
            values = member.others;
            off = next;
            are = record {
              stands = rw (m.0, ← one_less n done) ts;
              padded = subst (λ (a : ℕ). PaddedAll pads a next (types_of member.others)) z padded.2;
              long = g.are.long;
              bytes = subst (λ (a : ℕ). BytesAt s a e (vals_bytes member.others)) (sym m.1) member.bytes;
              shaped = member.shaped;
            };
            rest = left_on member_left (mem_bytes member.value) after refl m.2;
          }

  pub all_end : done ≡ n → (o ≡ q) × (i ≡ e) × Put out₀ to (mem_members off₀ l₀) p out
  unfolding mem_members
  all_end h =
      let y = no_val g.values g.are.bytes (omega (arith, many)) in
      ((none_is g.are.stands (omega arith)).1, y.1, left_end g.rest (ap (mem_members g.off) y.0))
