-- For callers: the items of a literal, a vector and a matrix as the constructors make them; what is made is well shaped, and of which type.
use mathlib.Core.Path.{◌≡◌, refl, sym, ap, ◌∙◌, subst}
use mathlib.Core.List.{List, [], ◌∷◌, ◌++◌, map}
use mathlib.Core.Bool.{Bool, true, false, not}
use Prim.Native.Nat.{ℕ, zero, suc, ◌+◌, ◌*◌, ◌≤◌}
use native.Mathlib.Omega.{arith}
use native.Mathlib.Nat.{zero-mul}
use lib.Dec.{T, eqb, eqb→eq}
use lib.ListN.{length, take, drop, take-append-drop}
use lib.Seq.{take_at, drop_at}
use Rattle.meaning.specs.Kinds.{Kind, is_abstract}
use Rattle.meaning.specs.Scalars.{Stage, fits_ctor}
use Rattle.meaning.specs.Trees.{Val, Vv, Vm}
use Rattle.meaning.specs.Records.{columns, val_bytes, every, good_lit, shaped_val}
use Rattle.meaning.specs.Answers.{Result, ok, no, miscount, ◌>>=◌, all, refusal_of}
use Rattle.meaning.specs.Build.{ctor_lit}
use Rattle.laws.specs.Demand.{refused, lit_fits}
use Rattle.laws.proofs.AgreeLit.{Lit, ctor_lit_lem}
use Rattle.laws.proofs.AgreeVec.{LitsR, ctor_all_lits}
use Rattle.laws.proofs.AgreeMat.{full}
use Rattle.laws.proofs.Back.{and_r}
use Rattle.laws.proofs.BackVal.{drop_len, take_len}
use Rattle.laws.proofs.Named.{ok_inj}
use Rattle.literal.specs.declared.Rules.{Rules}
use Rattle.literal.specs.declared.Unmade.{Unmade}
use Rattle.literal.specs.declared.Unmade.TheVariants.{NoTarget, NoArgument, Abstract, Integer, Float}
use Rattle.literal.specs.LiteralAnswers.{refusal_for}
use Rattle.error.specs.Refusals.{number, refusal}
use Rattle.std.specs.declared.result.Result.{Result as Outcome}
use Rattle.std.specs.declared.result.Result.TheVariants.{Ok, Err}
use Rattle.scalar.proofs.MadeLeft.{some_number}
use Rattle.record.specs.Bytes.{Put}
use Rattle.conv.specs.Items.{Item, Literal, Vector, Matrix, bytes_of, column_items, items_of, ItemsAt, SomeItems}
use Rattle.record.specs.Values.{HasVal}
use Rattle.conv.specs.Values.{plain}
use Rattle.conv.proofs.Values.{items_bytes, items_good, items_at}
use Rattle.scalar.specs.Made.{make_item, make_items, Ctor, AllMade, Makeable, Makes, number_in}
use Rattle.laws.proofs.Each.{Numbered, number_ok, number_no, refusal_map, all_numbered, all_length, all_append}
use Rattle.scalar.proofs.Results.{ctor_numbered}

module _ (s : Stage) (k j : Kind) where
  -- ---- the items

  lits_make : (ps : List ℕ) → make_items s k (map (Literal j) ps) ≡ (all (ctor_lit s k j) ps >>= λ qs. ok (map (Literal k) qs))
  unfolding all make_item
  lits_make [] = refl
  lits_make (p ∷ ps) = go (ctor_lit s k j p) (all (ctor_lit s k j) ps) (make_items s k (map (Literal j) ps)) (lits_make ps)
    where
      go : (x : Result ℕ) (y : Result (List ℕ)) (z : Result (List Item)) → z ≡ (y >>= λ qs. ok (map (Literal k) qs))
          → ((x >>= λ q. ok (Literal k q)) >>= λ b. z >>= λ bs. ok (b ∷ bs)) ≡
          ((x >>= λ q. y >>= λ qs. ok (q ∷ qs)) >>= λ qs. ok (map (Literal k) qs))
      go (ok q) (ok qs) z e = rw e
      go (ok q) (no n) z e = rw e
      go (ok q) (miscount w g) z e = rw e
      go (no n) y z e = refl
      go (miscount w g) y z e = refl

  -- as many components as there were
  pub vec_make : (ps : List ℕ) → make_items s k (items_of (Vv j ps)) ≡ (all (ctor_lit s k j) ps >>= λ qs. ok (items_of (Vv k qs)))
  unfolding all make_item items_of
  vec_make ps = rw (lits_make ps) (go (all (ctor_lit s k j) ps) (all_length (ctor_lit s k j) ps))
    where
      go : (x : Result (List ℕ)) → ((qs : List ℕ) → x ≡ ok qs → length qs ≡ length ps)
          → ((x >>= λ qs. ok (map (Literal k) qs)) >>= λ bs. ok (Vector (length ps) ∷ bs)) ≡
          (x >>= λ qs. ok (Vector (length qs) ∷ map (Literal k) qs))
      go (ok qs) h = rw (h qs refl)
      go (no n) h = refl
      go (miscount w g) h = refl

  columns_make : (c r : ℕ) (ps : List ℕ) → length ps ≡ c * r
      → make_items s k (column_items j (columns c r ps)) ≡ (all (ctor_lit s k j) ps >>= λ qs. ok (column_items k (columns c r qs)))
  unfolding all make_item column_items columns
  columns_make zero r [] h = refl
  columns_make zero r (p ∷ ps) h = absurd (omega (arith, zero-mul r))
  columns_make (suc c) r ps h =
      let n : length (take r ps) ≡ r = take_len c r ps h in
      (rw (
        all_append (make_item s k) (map (Literal j) (take r ps)) (column_items j (columns c r (drop r ps))),
        lits_make (take r ps),
        columns_make c r (drop r ps) (drop_len c r ps h),
      ))
      ∙ (go (all (ctor_lit s k j) (take r ps)) (all (ctor_lit s k j) (drop r ps)) (length (take r ps)) n
      (λ qs e. all_length (ctor_lit s k j) (take r ps) qs e ∙ n)
      ∙ ap (λ (x : Result (List ℕ)). x >>= λ qs. ok (column_items k (columns (suc c) r qs)))
      (sym (all_append (ctor_lit s k j) (take r ps) (drop r ps)) ∙ ap (all (ctor_lit s k j)) (take-append-drop r ps)))
    where
      go : (x y : Result (List ℕ)) (n : ℕ) → n ≡ r → ((qs : List ℕ) → x ≡ ok qs → length qs ≡ r)
          → (((x >>= λ a. ok (map (Literal k) a)) >>= λ a. (y >>= λ b. ok (column_items k (columns c r b))) >>= λ b. ok (a ++ b)) >>= λ l.
          ok (Vector n ∷ l))
          ≡ ((x >>= λ a. y >>= λ b. ok (a ++ b)) >>= λ qs. ok (column_items k (columns (suc c) r qs)))
      go (ok a) (ok b) n e h = let z : length a ≡ r = h a refl in rw (take_at a b r z, drop_at a b r z, z, e)
      go (ok a) (no m) n e h = refl
      go (ok a) (miscount w g) n e h = refl
      go (no m) y n e h = refl
      go (miscount w g) y n e h = refl

  -- column by column
  pub mat_make : (c r : ℕ) (ps : List ℕ) → length ps ≡ c * r → make_items s k (items_of (Vm c r j ps)) ≡
      (all (ctor_lit s k j) ps >>= λ qs. ok (items_of (Vm c r k qs)))
  unfolding all make_item items_of
  mat_make c r ps h = rw (columns_make c r ps h) (go (all (ctor_lit s k j) ps))
    where
      go : (x : Result (List ℕ)) → ((x >>= λ qs. ok (column_items k (columns c r qs))) >>= λ l. ok (Matrix c r ∷ l)) ≡
          (x >>= λ qs. ok (Matrix c r ∷ column_items k (columns c r qs)))
      go (ok qs) = refl
      go (no n) = refl
      go (miscount w g) = refl

  -- ---- what is made

  module _ (c : T (not (is_abstract k))) where
    pub lit_made : (p : ℕ) → T (good_lit j p) → (q : ℕ) → ctor_lit s k j p ≡ ok q → T (good_lit k q)
    unfolding refused
    lit_made p g q e = go (fits_ctor s k j p) (ctor_lit_lem s k j p c g)
      where
        go : (b : Bool) → Lit b k (ctor_lit s k j p) → T (good_lit k q)
        go true (x, h, y) = subst (λ (z : ℕ). T (good_lit k z)) (ok_inj (sym h ∙ e)) y
        go false h = absurd (subst (λ (z : Result ℕ). T (refused z)) e h)

    module _ (ps : List ℕ) (g : T (every (good_lit j) ps)) (qs : List ℕ) (e : all (ctor_lit s k j) ps ≡ ok qs) where
      -- every payload is one of the kind k, and there are as many
      pub lits_made : T (every (good_lit k) qs) × (length qs ≡ length ps)
      unfolding refused
      lits_made = go (every (lit_fits true s k) (map (λ p. (j, p)) ps)) (ctor_all_lits s k j c ps g)
        where
          go : (b : Bool) → LitsR b k (length ps) (all (ctor_lit s k j) ps) → T (every (good_lit k) qs) × (length qs ≡ length ps)
          go true (x, h, y, l) = subst (λ (z : List ℕ). T (every (good_lit k) z) × (length z ≡ length ps)) (ok_inj (sym h ∙ e)) (y, l)
          go false h = absurd (subst (λ (z : Result (List ℕ)). T (refused z)) e h)

      pub mat_shaped : (c r : ℕ) → length ps ≡ c * r → T (shaped_val (Vm c r k qs))
      unfolding shaped_val
      mat_shaped c r h = full k qs (c * r) lits_made.0 (lits_made.1 ∙ h)

-- a constructor's refusal has a number alone
pub refusal_no : {A : Type 0} (u : Unmade) → refusal {A = A} (refusal_for u) ≡ no (number (refusal_for u))
refusal_no NoTarget = refl
refusal_no NoArgument = refl
refusal_no Abstract = refl
refusal_no Integer = refl
refusal_no Float = refl

-- ---- a value whose record stands in src, as it is made

-- x is what the constructor answers of its payloads, and `value` the value of the payloads made

pub record Making (s : Stage) (k : Kind) (src : List ℕ) (from e : ℕ) {A : Type 0} (x : Result A) (value : A → Val) : Type 0 where
  pub items : List Item
  pub stands : ItemsAt src from e items
  pub makes : make_items s k items ≡ (x >>= λ a. ok (items_of (value a)))
  pub flat : (a : A) → T (plain (value a))
  pub numbered : Numbered x

has_items : {src : List ℕ} {from e : ℕ} (v : Val) → T (plain v) → HasVal src from e v → ItemsAt src from e (items_of v)
has_items v h w = items_at (items_of v) w.bytes (items_bytes v h) (items_good v w.shaped)

module _ (s : Stage) (k : Kind) {j : Kind} {src : List ℕ} {from e : ℕ} where
  pub vec_making : {ps : List ℕ} → HasVal src from e (Vv j ps) → Making s k src from e (all (ctor_lit s k j) ps) (Vv k)
  unfolding plain
  vec_making {ps} w =
      record {
        items = items_of (Vv j ps);
        stands = has_items (Vv j ps) tt w;
        makes = vec_make s k j ps;
        flat = λ qs. tt;
        numbered = all_numbered (ctor_lit s k j) (ctor_numbered s k j) ps;
      }

  pub mat_making : {c r : ℕ} {ps : List ℕ} → HasVal src from e (Vm c r j ps) → Making s k src from e (all (ctor_lit s k j) ps) (Vm c r k)
  unfolding plain shaped_val
  mat_making {c} {r} {ps} w =
      record {
        items = items_of (Vm c r j ps);
        stands = has_items (Vm c r j ps) tt w;
        makes = mat_make s k j c r ps (eqb→eq (length ps) (c * r) (and_r (every (good_lit j) ps) (eqb (length ps) (c * r)) w.shaped));
        flat = λ qs. tt;
        numbered = all_numbered (ctor_lit s k j) (ctor_numbered s k j) ps;
      }

module _ {s : Stage} {k : Kind} {src : List ℕ} {from e : ℕ} {A : Type 0} {x : Result A} {value : A → Val}
    (m : Making s k src from e x value) where
  pub making_items : SomeItems src from e
  making_items = record { items = m.items; stands = m.stands }

  module _ {rules : Rules} {kind : ℕ} (c : Ctor rules kind s k) where
    module _ (r : Outcome (Unit {0}) Unmade) (f : AllMade rules kind src from e r) where
      refusal_is : number_in r ≡ refusal_of x
      refusal_is = f s k m.items c m.stands ∙ (ap refusal_of m.makes ∙ refusal_map x (λ a. items_of (value a)))

      -- what `all_made` says: something is made of all, or r is the refusal
      pub making_ok : {u : Unit {0}} → r ≡ Ok u → (b : A) × (x ≡ ok b)
      making_ok z = number_ok x m.numbered (sym refusal_is ∙ ap number_in z)

      pub making_no : {u : Unmade} → r ≡ Err u → x ≡ refusal (refusal_for u)
      making_no {u} z =
          let n : number (refusal_for u) ≡ refusal_of x = sym (ap number_in z) ∙ refusal_is in
          number_no x m.numbered (λ v. some_number u (n ∙ v)) ∙ (ap no (sym n) ∙ sym (refusal_no u))

    -- what `write_made` is asked, and what it writes
    module _ {b : A} (q : x ≡ ok b) where
      goes : make_items s k m.items ≡ ok (items_of (value b))
      goes = m.makes ∙ ap (λ (y : Result A). y >>= λ a. ok (items_of (value a))) q

      bytes : val_bytes (value b) ≡ bytes_of (items_of (value b))
      bytes = items_bytes (value b) (m.flat b)

      pub making_room : {out : List ℕ} {to : ℕ} → to + length (val_bytes (value b)) ≤ length out → Makeable rules kind src from e out to
      making_room h =
          record {
            at = s;
            kind = k;
            ctor = c;
            items = m.items;
            intos = items_of (value b);
            stands = m.stands;
            goes = goes;
            room = rw bytes at h;
          }

      pub making_put : {out : List ℕ} {to r : ℕ} {out' : List ℕ} → Makes rules kind src from e out to r out'
          → Put out to (val_bytes (value b)) r out'
      making_put f = rw bytes (f s k m.items (items_of (value b)) c m.stands goes)
