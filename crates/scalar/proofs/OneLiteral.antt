-- One argument: what is no literal, and what the constructor makes of a literal, handed over.
use mathlib.Core.Path.{◌≡◌, refl, sym, ap, ap₂, ◌∙◌, subst}
use mathlib.Core.List.{List, [], ◌∷◌}
use mathlib.Core.Bool.{Bool, true, false, not}
use Prim.Native.Nat.{ℕ, ◌+◌, ◌≤◌, ◌<◌}
use native.Mathlib.Omega.{arith}
use lib.Dec.{T}
use lib.ListN.{length, get_or}
use Rattle.meaning.specs.Kinds.{Kind, kind_no, is_abstract}
use Rattle.meaning.specs.Scalars.{Stage}
use Rattle.meaning.specs.Trees.{Ts, Val, Vs, Vv, Vm, Va, Vu, type_of, lit_len, val_len}
use Rattle.meaning.specs.Records.{‘s’, lit_bytes, vec_bytes, val_bytes, joined, good_lit, shaped_val}
use Rattle.meaning.specs.Answers.{Result, ok, no, ◌>>=◌}
use Rattle.meaning.specs.Build.{ctor_lit, scalar_of, build_one}
use Rattle.laws.proofs.AgreeLit.{kind_back}
use Rattle.laws.proofs.AgreeConv.{true_of}
use Rattle.kind.specs.Ends.{of_kind, tested}
use Rattle.literal.specs.LiteralAnswers.{Made, refusal_for, paper}
use Rattle.literal.specs.declared.Unmade.{Unmade}
use Rattle.error.specs.Refusals.{refusal}
use Rattle.error.proofs.Refusals.{no_more}
use Rattle.literal.specs.declared.Rules.{Rules}
use Rattle.record.specs.Literals.{Sized, most_lit, width_of, literal_of}
use Rattle.record.proofs.Places.{at_of}
use Rattle.record.specs.Bytes.{Put}
use Rattle.conv.specs.Items.{Literal, item_bytes, good_item, ItemAt}
use Rattle.record.proofs.Literals.{width_of_lem, literal_bytes}
use Rattle.conv.proofs.ItemSteps.{literal_here, literal_within}
use Rattle.args.specs.Row.{Row}
use Rattle.error.specs.Told.{Builds}
use Rattle.error.proofs.BufferAtExit.{builds_long, builds_record}
use Rattle.args.proofs.ArgumentRows.{row_shaped, row_next, some_val}
use Rattle.scalar.specs.Made.{Ctor, MadeAt}
use Rattle.scalar.proofs.MadeSteps.{ctor_of}
use Rattle.scalar.proofs.MadeValues.{lit_made}
use Rattle.std.specs.declared.result.Result.TheVariants.{Ok, Err}
use Rattle.error.specs.declared.Refusal.TheVariants.{NoRoom}

-- ---- a payload as a literal of the kind j

module _ (p : ℕ) {k : ℕ} (j : Kind) (n : k ≡ kind_no j) {r : ℕ} (z : Sized k lit_len most_lit r) where
  size : val_len (type_of (Vs j p)) ≡ r
  unfolding val_len type_of
  size = sym (z.is j n)

  pub handed_long : (out : List ℕ) → length out < r → Builds (ok (Vs j p)) out (Err NoRoom) out
  handed_long out l = builds_long out (Vs j p) refl (omega (arith, size))

  pub handed_room : {most : ℕ} → r ≤ most → 0 + (3 + width_of k) ≤ most
  unfolding lit_len
  handed_room l = rw (n, width_of_lem j) (omega (arith, z.is j n))

  pub handed_record : {out out' : List ℕ} {t : ℕ} → T (good_lit j p) → r ≤ length out
      → Put out 0 (literal_of k p) t out'
      → Builds (ok (Vs j p)) out (Ok t) out'
  unfolding shaped_val val_bytes
  handed_record {out} {out'} {t} g l y =
      builds_record out (Vs j p) refl g (omega (arith, size))
      (subst (λ (b : List ℕ). Put out 0 b t out') (ap (λ (x : ℕ). literal_of x p) n ∙ literal_bytes j p) y)

-- ---- the kind

module _ {k : ℕ} (j : Kind) (n : k ≡ kind_no j) {r : Bool} (a : r ≡ tested is_abstract k) where
  pub abstract_is : r ≡ is_abstract j
  unfolding of_kind
  abstract_is = a ∙ (rw (n, kind_back j))

  pub abstract_no : r ≡ true → (s : Stage) (v : Val) → build_one s (Ts j) v ≡ no 4
  unfolding build_one
  abstract_no h s v = rw (sym abstract_is ∙ h)

  pub concrete : r ≡ false → T (not (is_abstract j))
  concrete h = rw (sym abstract_is ∙ h) tt

-- ---- the argument

module _ {args : List ℕ} {v : Val} (w : Row args 0 (v ∷ [])) where
  byte : get_or args 1 0 ≡ get_or (joined val_bytes (v ∷ [])) 1 0
  byte = at_of args _ 0 w.here 1

-- "6 scalar given a non-scalar": another letter stands in its mark
not_literal : (s : Stage) (j : Kind) (v : Val) {args : List ℕ} → Row args 0 (v ∷ []) → (get_or args 1 0 ≡ ‘s’ → ⊥) → scalar_of s j v ≡ no 6
unfolding scalar_of joined val_bytes lit_bytes
not_literal s j (Vs i p) w m = absurd (m (byte w))
not_literal s j (Vv i ps) w m = refl
not_literal s j (Vm c r i ps) w m = refl
not_literal s j (Va l) w m = refl
not_literal s j (Vu i l) w m = refl

-- the literal that stands there
record Single (args : List ℕ) (v : Val) : Type 0 where
  kind : Kind
  pay : ℕ
  is : v ≡ Vs kind pay
  stands : ItemAt args 0 (Literal kind pay)
  good : T (good_lit kind pay)

single : (v : Val) {args : List ℕ} → Row args 0 (v ∷ []) → get_or args 1 0 ≡ ‘s’ → Single args v
unfolding joined val_bytes lit_bytes vec_bytes item_bytes good_item shaped_val
single (Vs i p) w m =
    record { kind = i; pay = p; is = refl; stands = record { rest = []; here = w.here; good = row_shaped w }; good = row_shaped w }
single (Vv i ps) w m = absurd (omega (arith, byte w))
single (Vm c r i ps) w m = absurd (omega (arith, byte w))
single (Va l) w m = absurd (omega (arith, byte w))
single (Vu i l) w m = absurd (omega (arith, byte w))

module _ {args : List ℕ} {v : Val} (w : Row args 0 (v ∷ [])) where
  pub arg_room : 2 ≤ length args
  arg_room = omega (arith, (row_next w).rest.within, some_val v)

  pub other_no : (s : Stage) (j : Kind) → T (not (is_abstract j)) → (get_or args 1 0 ≡ ‘s’ → ⊥) → build_one s (Ts j) v ≡ no 6
  unfolding build_one
  other_no s j c m = rw (true_of (not (is_abstract j)) c) (not_literal s j v w m)

  module _ (m : get_or args 1 0 ≡ ‘s’) where
    pub single_within : 0 + (3 + width_of (get_or args 2 0)) ≤ length args
    single_within = literal_within (single v w m).stands m

    module _ {rules : Rules} {k : ℕ} {s : Stage} {j : Kind} (x : Ctor rules k s j) (r : Made) (c : MadeAt rules k args 0 r) where
      made_of : ctor_lit s j (single v w m).kind (single v w m).pay ≡ paper r
      made_of =
          let y = single v w m in
          let l = literal_here y.stands m in
          let a : y.kind ≡ l.kind = cc l.is in
          let b : y.pay ≡ l.pay = cc l.is in
          ap₂ (ctor_lit s j) a b ∙ ctor_of y.stands m x r c l

      pub single_good : {q : ℕ} → r ≡ Ok q → T (good_lit j q)
      unfolding paper
      single_good {q} e = let y = single v w m in lit_made s j y.kind x.concrete y.pay y.good q (made_of ∙ ap paper e)

      single_build : build_one s (Ts j) v ≡ (paper r >>= λ q. ok (Vs j q))
      unfolding build_one scalar_of
      single_build =
          let y = single v w m in
          (rw (true_of (not (is_abstract j)) x.concrete))
          ∙ (ap (scalar_of s j) y.is ∙ ap (λ (z : Result ℕ). z >>= λ q. ok (Vs j q)) made_of)

      -- a payload made, or the refusal
      pub single_made : {p : ℕ} → r ≡ Ok p → build_one s (Ts j) v ≡ ok (Vs j p)
      unfolding paper
      single_made e = single_build ∙ ap (λ (z : Made). paper z >>= λ q. ok (Vs j q)) e

      pub single_refused : {u : Unmade} → r ≡ Err u → build_one s (Ts j) v ≡ refusal (refusal_for u)
      unfolding paper
      single_refused {u} e =
          single_build ∙ (ap (λ (z : Made). paper z >>= λ q. ok (Vs j q)) e ∙ no_more (λ (q : ℕ). ok (Vs j q)) (refusal_for u))
