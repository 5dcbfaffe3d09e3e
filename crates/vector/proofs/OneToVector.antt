-- What is decided of one argument.
use mathlib.Core.Path.{◌≡◌, refl, sym, ap, ◌∙◌, subst}
use mathlib.Core.Option.{Option as Maybe, none, some}
use mathlib.Core.List.{List, [], ◌∷◌, append-nil}
use mathlib.Core.Bool.{true, false, not}
use Prim.Native.Nat.{ℕ, ◌+◌, ◌≤◌}
use native.Mathlib.Omega.{arith}
use lib.Dec.{T, leb, leb→le, eqb}
use lib.ListN.{length, replicate, get_or}
use borrow.Author.Tests.{eq-eqb, ne_eqb}
use Rattle.meaning.specs.Kinds.{Kind, kind_no, is_abstract}
use Rattle.meaning.specs.Scalars.{Stage, conv}
use Rattle.meaning.specs.Trees.{Val, Vs, Vv, Vm, Va, Vu}
use Rattle.meaning.specs.Records.{side, val_bytes, joined, every, good_lit, shaped_val}
use Rattle.meaning.specs.Answers.{Result, ok, no, miscount, or_no, need, all, ◌>>=◌, ◌>>◌}
use Rattle.meaning.specs.Build.{ctor_lit, vec_one, vec_parts, qv_one, qv_parts}
use Rattle.laws.proofs.AgreeBuild.{true_false}
use Rattle.laws.proofs.AgreeConv.{true_of}
use Rattle.laws.proofs.AgreeLit.{kind_back}
use Rattle.laws.proofs.Back.{and_l}
use Rattle.kind.specs.Ends.{of_kind}
use Rattle.literal.specs.LiteralAnswers.{converted_of, conv_between}
use Rattle.literal.specs.declared.Rules.{Rules}
use Rattle.literal.specs.declared.Unmade.{Unmade}
use Rattle.literal.specs.LiteralAnswers.{refusal_for}
use Rattle.error.specs.Refusals.{refusal}
use Rattle.std.specs.declared.result.Result.{Result as Outcome}
use Rattle.std.specs.declared.result.Result.TheVariants.{Ok, Err}
use Rattle.record.specs.Bytes.{Put}
use Rattle.conv.specs.Items.{SomeItems}
use Rattle.record.specs.Values.{HasVal}
use Rattle.args.specs.Row.{Row}
use Rattle.args.proofs.ArgumentRows.{row_has}
use Rattle.scalar.specs.Made.{Ctor, AllMade, Makeable, Makes}
use Rattle.scalar.proofs.MadeValues.{Making, vec_making, making_items, making_ok, making_no, refusal_no, making_room, making_put, lits_made}
use Rattle.vector.specs.VectorParts.{flat}
use Rattle.vector.proofs.Args.{IsLiteral, IsVector}
use Rattle.vector.proofs.Lits.{conv_in}
use Rattle.std.specs.declared.option.Option.{Option}
use Rattle.std.specs.declared.option.Option.TheVariants.{None, Some}

-- a vector has two components at least, so one part is too few
one_short : (n : ℕ) → T (side n) → eqb 1 n ≡ false
unfolding side
one_short n h = ne_eqb 1 n (λ e. omega (arith, leb→le 2 n (and_l (leb 2 n) (leb n 4) h)))

module _ {s : List ℕ} {i : ℕ} {v : Val} (n : ℕ) where
  pub qv_literal : (x : IsLiteral s i v) {b : ℕ} → b ≡ x.pay → qv_one n v ≡ ok (Vv x.kind (replicate n b))
  unfolding qv_one
  qv_literal x q = ap (qv_one n) x.is ∙ ap (λ (p : ℕ). ok (Vv x.kind (replicate n p))) (sym q)

  module _ (x : IsVector s i v) where
    pub qv_other_length : (get_or s (i + 2) 0 ≡ n → ⊥) → qv_one n v ≡ no 7
    unfolding qv_one
    qv_other_length h = ap (qv_one n) x.is ∙ (rw (ne_eqb (length x.pays) n (λ e. h (x.count ∙ e))))

    pub qv_length : get_or s (i + 2) 0 ≡ n → qv_one n v ≡ ok v
    unfolding qv_one
    qv_length h = ap (qv_one n) x.is ∙ ((rw (eq-eqb (length x.pays) n (sym x.count ∙ h))) ∙ ap ok (sym x.is))

pub qv_other : (n : ℕ) (v : Val) → T (side n) → flat v ≡ false → qv_one n v ≡ miscount n 1
unfolding qv_one qv_parts flat
qv_other n (Vs k p) h x = true_false x
qv_other n (Vv k ps) h x = true_false x
qv_other n (Vm c r k ps) h x = rw (one_short n h)
qv_other n (Va l) h x = rw (one_short n h)
qv_other n (Vu i l) h x = rw (one_short n h)

-- ---- to a vector type

-- a literal, as it is converted
module _ {i : ℕ} {t : List ℕ} {v : Val} (x : IsLiteral t i v) {k : ℕ} (j : Kind) (e : k ≡ kind_no j) {a : ℕ} (m : a ≡ get_or t (i + 2) 0)
    {b : ℕ} (q : b ≡ x.pay) {c : Option ℕ} (h : c ≡ converted_of (conv_between k a b)) where
  converted : c ≡ converted_of (conv j x.kind x.pay)
  unfolding conv_between of_kind
  converted = h ∙ (rw (e, m, x.no, q, kind_back x.kind, kind_back j))

  vec_literal : (s : Stage) (n : ℕ) → vec_one s n j v ≡ (or_no 9 (conv j x.kind x.pay) >>= λ p. ok (Vv j (replicate n p)))
  unfolding vec_one
  vec_literal s n = ap (vec_one s n j) x.is

  goes : {p : ℕ} → c ≡ Some p → conv j x.kind x.pay ≡ some p
  unfolding converted_of
  goes {p} f = go (conv j x.kind x.pay) (sym f ∙ converted)
    where
      go : (o : Maybe ℕ) → Some p ≡ converted_of o → o ≡ some p
      go none u = absurd (let z : ◌≡◌ {A = ℕ} 0 1 = cc in omega arith)
      go (some r) u = cc

  pub vec_unfit : c ≡ None → (s : Stage) (n : ℕ) → vec_one s n j v ≡ no 9
  unfolding converted_of
  vec_unfit f s n = vec_literal s n ∙ go (conv j x.kind x.pay) (sym f ∙ converted)
    where
      go : (o : Maybe ℕ) → None ≡ converted_of o → ◌≡◌ {A = Result Val} (or_no 9 o >>= λ p. ok (Vv j (replicate n p))) (no 9)
      go none u = refl
      go (some p) u = absurd (let z : ◌≡◌ {A = ℕ} 0 1 = cc in omega arith)

  pub vec_splat : {p : ℕ} → c ≡ Some p → (s : Stage) (n : ℕ) → vec_one s n j v ≡ ok (Vv j (replicate n p))
  vec_splat f s n = vec_literal s n ∙ (rw (goes f))

  pub splat_in : {p : ℕ} → c ≡ Some p → T (good_lit j p)
  splat_in f = conv_in j x.kind x.pay x.good (goes f)

-- a vector: its length, the kind, then each component
module _ {t : List ℕ} {i : ℕ} {v : Val} (x : IsVector t i v) (s : Stage) (n : ℕ) (j : Kind) where
  vec_vector : vec_one s n j v ≡ (need (eqb (length x.pays) n) 7 >>
      (need (not (is_abstract j)) 12 >> (all (ctor_lit s j x.kind) x.pays >>= λ qs. ok (Vv j qs))))
  unfolding vec_one
  vec_vector = ap (vec_one s n j) x.is

  pub vec_other_length : (get_or t (i + 2) 0 ≡ n → ⊥) → vec_one s n j v ≡ no 7
  vec_other_length h = vec_vector ∙ (rw (ne_eqb (length x.pays) n (λ e. h (x.count ∙ e))))

  module _ (h : get_or t (i + 2) 0 ≡ n) where
    same_length : eqb (length x.pays) n ≡ true
    same_length = eq-eqb (length x.pays) n (sym x.count ∙ h)

    pub vec_abstract : is_abstract j ≡ true → vec_one s n j v ≡ no 12
    vec_abstract f = vec_vector ∙ (rw (same_length, f))

    module _ (c : T (not (is_abstract j))) where
      vec_made : vec_one s n j v ≡ (all (ctor_lit s j x.kind) x.pays >>= λ qs. ok (Vv j qs))
      vec_made = vec_vector ∙ (rw (same_length, true_of (not (is_abstract j)) c))

      vec_refused : {r : ℕ} → all (ctor_lit s j x.kind) x.pays ≡ no r → vec_one s n j v ≡ no r
      vec_refused e = vec_made ∙ (rw e)

      vec_rebuilt : {qs : List ℕ} → all (ctor_lit s j x.kind) x.pays ≡ ok qs → vec_one s n j v ≡ ok (Vv j qs)
      vec_rebuilt e = vec_made ∙ (rw e)

-- what the constructor of the kind j makes of each component
module _ {t : List ℕ} {v : Val} (w : Row t 0 (v ∷ [])) (x : IsVector t 0 v) where
  has : HasVal t 0 (length t) (Vv x.kind x.pays)
  unfolding joined
  has =
      let e : 0 + length (val_bytes v) ≡ length t = omega (arith, ap length w.here, ap length (append-nil (val_bytes v))) in
      subst (HasVal t 0 (length t)) x.is (subst (λ (i : ℕ). HasVal t 0 i v) e (row_has w))

  making : (s : Stage) (j : Kind) → Making s j t 0 (length t) (all (ctor_lit s j x.kind) x.pays) (Vv j)
  making s j = vec_making s j has

  pub vector_items : Stage → Kind → SomeItems t 0 (length t)
  vector_items s j = making_items (making s j)

  module _ {n : ℕ} (h : get_or t 2 0 ≡ n) {rules : Rules} {k : ℕ} {s : Stage} {j : Kind} (c : Ctor rules k s j) where
    -- the vector made
    pub record Remade : Type 0 where
      pub pays : List ℕ
      pub is : vec_one s n j v ≡ ok (Vv j pays)
      pub goes : all (ctor_lit s j x.kind) x.pays ≡ ok pays
      pub good : T (every (good_lit j) pays)
      pub count : length pays ≡ n

    module _ (r : Outcome (Unit {0}) Unmade) (m : AllMade rules k t 0 (length t) r) where
      pub made_no : {u : Unmade} → r ≡ Err u → vec_one s n j v ≡ refusal (refusal_for u)
      made_no {u} z = vec_refused x s n j h c.concrete (making_no (making s j) c r m z ∙ refusal_no u) ∙ sym (refusal_no u)

      pub remade : {u : Unit {0}} → r ≡ Ok u → Remade
      unfolding shaped_val
      remade z =
          let y = making_ok (making s j) c r m z in
          let l = lits_made s j x.kind c.concrete x.pays has.shaped y.0 y.1 in
          record {
            pays = y.0;
            is = vec_rebuilt x s n j h c.concrete y.1;
            goes = y.1;
            good = l.0;
            count = l.1
                ∙ (sym x.count ∙ h);
          }

    module _ (y : Remade) {out : List ℕ} where
      pub remade_room : 0 + length (val_bytes (Vv j y.pays)) ≤ length out → Makeable rules k t 0 (length t) out 0
      remade_room l = making_room (making s j) c y.goes l

      pub remade_put : {q : ℕ} {out' : List ℕ} → Makes rules k t 0 (length t) out 0 q out' → Put out 0 (val_bytes (Vv j y.pays)) q out'
      remade_put u = making_put (making s j) c y.goes u

pub vec_other : (s : Stage) (n : ℕ) (j : Kind) (v : Val) → T (side n) → flat v ≡ false → vec_one s n j v ≡ miscount n 1
unfolding vec_one vec_parts flat
vec_other s n j (Vs k p) h x = true_false x
vec_other s n j (Vv k ps) h x = true_false x
vec_other s n j (Vm c r k ps) h x = rw (one_short n h)
vec_other s n j (Va l) h x = rw (one_short n h)
vec_other s n j (Vu i l) h x = rw (one_short n h)
