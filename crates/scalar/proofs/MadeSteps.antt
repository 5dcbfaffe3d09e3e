-- One item where it stands: a mark stays, a literal is what the constructor makes of it.
use mathlib.Core.Path.{◌≡◌, refl, sym, ap, ◌∙◌, subst}
use mathlib.Core.List.{List}
use mathlib.Core.Bool.{not}
use Prim.Native.Nat.{ℕ, ◌+◌, ◌-◌, ◌≤◌}
use native.Mathlib.Omega.{arith}
use lib.ListN.{length, get_or, take, drop}
use Rattle.meaning.specs.Kinds.{Kind, is_abstract}
use Rattle.meaning.specs.Scalars.{Stage}
use Rattle.meaning.specs.Trees.{lit_len}
use Rattle.meaning.specs.Records.{‘s’, lit_bytes}
use Rattle.meaning.specs.Answers.{Result, ok, ◌>>=◌, refusal_of}
use Rattle.meaning.specs.Build.{ctor_lit}
use Rattle.laws.proofs.AgreeLit.{kind_back}
use Rattle.laws.proofs.AgreeConv.{true_of}
use Rattle.laws.proofs.Length.{lit_len_lem}
use Rattle.laws.proofs.Named.{ok_inj, no_ok}
use Rattle.kind.specs.Ends.{of_kind}
use Rattle.literal.specs.LiteralAnswers.{Made, paper, ctor_from, ctor_to}
use Rattle.literal.specs.declared.Rules.{Rules}
use Rattle.literal.specs.declared.Unmade.TheVariants.{NoTarget, NoArgument, Abstract, Integer, Float}
use Rattle.std.specs.declared.result.Result.TheVariants.{Ok, Err}
use Rattle.record.proofs.Places.{at_of}
use Rattle.record.specs.Bytes.{Put}
use Rattle.conv.specs.Items.{Item, Literal, Vector, Matrix, Array, item_bytes, ItemAt}
use Rattle.record.specs.Literals.{width_of, literal_of}
use Rattle.conv.proofs.ItemSteps.{LiteralIs, literal_here, mark_stays, mark_put}
use Rattle.record.proofs.Literals.{width_of_lem, literal_bytes}
use Rattle.scalar.specs.Made.{make_item, Ctor, MadeAt, number_in}
use Rattle.laws.proofs.Each.{refusal_map}

-- an answer's number is the paper's
number_is : (r : Made) → number_in r ≡ refusal_of (paper r)
unfolding refusal_of paper
number_is (Ok p) = refl
number_is (Err NoTarget) = refl
number_is (Err NoArgument) = refl
number_is (Err Abstract) = refl
number_is (Err Integer) = refl
number_is (Err Float) = refl

-- ---- a mark stays as it is

stays : (s : Stage) (k : Kind) (a : Item) {src : List ℕ} {i : ℕ} → ItemAt src i a → (get_or src (i + 1) 0 ≡ ‘s’ → ⊥) → make_item s k a ≡ ok a
unfolding item_bytes lit_bytes make_item
stays s k (Literal j p) {src} {i} w m = absurd (m (at_of src _ i w.here 1))
stays s k (Vector n) w m = refl
stays s k (Matrix c r) w m = refl
stays s k (Array n) w m = refl

module _ {src : List ℕ} {i : ℕ} {a : Item} (w : ItemAt src i a) where
  module _ (m : get_or src (i + 1) 0 ≡ ‘s’ → ⊥) (s : Stage) (k : Kind) where
    pub mark_made : 0 ≡ refusal_of (make_item s k a)
    unfolding refusal_of
    mark_made = rw (stays s k a w m)

    module _ {b : Item} (g : make_item s k a ≡ ok b) {n : ℕ} (e : n ≡ i + length (item_bytes a)) where
      is : b ≡ a
      is = ok_inj (sym g ∙ stays s k a w m)

      pub mark_length : n - i ≡ length (item_bytes b)
      mark_length = rw is (omega arith)

      pub mark_copied : {out out' : List ℕ} {to r : ℕ} → Put out to (take (n - i) (drop i src)) r out' → Put out to (item_bytes b) r out'
      mark_copied y = rw is (mark_put w m k (mark_stays w m k) e y)

  -- ---- a literal goes through the constructor

  module _ (m : get_or src (i + 1) 0 ≡ ‘s’) {rules : Rules} {k : ℕ} {s : Stage} {j : Kind} (x : Ctor rules k s j) (r : Made)
      (c : MadeAt rules k src i r) where
    pub ctor_of : (l : LiteralIs src i a) → ctor_lit s j l.kind l.pay ≡ paper r
    unfolding ctor_to ctor_from of_kind
    ctor_of l =
        sym (c s x.ruled ∙ (rw (
          l.no,
          width_of_lem l.kind,
          l.num,
          x.no,
          kind_back l.kind,
          kind_back j,
          true_of (not (is_abstract j))
              x.concrete,
        )))

    item_of : make_item s j a ≡ (paper r >>= λ q. ok (Literal j q))
    unfolding make_item
    item_of = let l = literal_here w m in ap (make_item s j) l.is ∙ ap (λ (y : Result ℕ). y >>= λ q. ok (Literal j q)) (ctor_of l)

    pub literal_refusal : number_in r ≡ refusal_of (make_item s j a)
    literal_refusal = number_is r ∙ sym (ap refusal_of item_of ∙ refusal_map (paper r) (Literal j))

    module _ {b : Item} (g : make_item s j a ≡ ok b) where
      -- an item that goes through has a payload made
      pub literal_made : (p : ℕ) × (r ≡ Ok p) × (b ≡ Literal j p)
      unfolding paper
      literal_made = go r (sym item_of ∙ g)
        where
          go : (r : Made) → (paper r >>= λ q. ok (Literal j q)) ≡ ok b → (p : ℕ) × (r ≡ Ok p) × (b ≡ Literal j p)
          go (Ok p) h = (p, refl, sym (ok_inj h))
          go (Err NoTarget) h = no_ok h
          go (Err NoArgument) h = no_ok h
          go (Err Abstract) h = no_ok h
          go (Err Integer) h = no_ok h
          go (Err Float) h = no_ok h

      module _ {p : ℕ} (h : r ≡ Ok p) where
        into : b ≡ Literal j p
        into = let y = literal_made in let u : ◌≡◌ {A = Made} (Ok y.0) (Ok p) = sym y.1 ∙ h in let v : y.0 ≡ p = cc in y.2 ∙ ap (Literal j) v

        pub literal_room : (to : ℕ) {most : ℕ} → to + length (item_bytes b) ≤ most → to + (3 + width_of k) ≤ most
        unfolding item_bytes lit_len
        literal_room to l = rw (x.no, width_of_lem j) (omega (arith, lit_len_lem j p, ap (λ (y : Item). length (item_bytes y)) into))

        pub literal_put : {out out' : List ℕ} {to t : ℕ} → Put out to (literal_of k p) t out' → Put out to (item_bytes b) t out'
        unfolding item_bytes
        literal_put {out} {out'} {to} {t} y =
            subst (λ (l : List ℕ). Put out to l t out') (ap (λ (z : ℕ). literal_of z p) x.no
            ∙ (literal_bytes j p ∙ ap item_bytes (sym into))) y
