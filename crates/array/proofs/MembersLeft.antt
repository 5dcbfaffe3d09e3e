-- What the loops over members and arguments have left.
use mathlib.Core.Path.{◌≡◌, refl, sym, ap, ◌∙◌}
use mathlib.Core.Option.{Option, none, some}
use mathlib.Core.List.{List, [], ◌∷◌, ◌++◌}
use mathlib.Core.Bool.{Bool, true, false, ◌&&◌}
use Prim.Native.Nat.{ℕ, ◌≤◌, ◌<◌}
use lib.Dec.{T}
use lib.ListN.{length}
use Rattle.meaning.specs.Scalars.{some?}
use Rattle.meaning.specs.Trees.{Ty, Tys, ◌▸◌, Val, type_of, tys_list}
use Rattle.meaning.specs.Records.{val_bytes, joined}
use Rattle.meaning.specs.Answers.{map_some}
use Rattle.meaning.specs.Convert.{converts, conv_val}
use Rattle.meaning.specs.Build.{memberwise}
use Rattle.laws.proofs.Sound.{on_some, on_if, some_inj, no_some}
use Rattle.ty.specs.Stands.{Standing}
use Rattle.record.specs.Bytes.{Takes, Put}
use Rattle.conv.specs.Values.{ValueTo, ValueRoom, ValuePut}
use Rattle.conv.proofs.Slices.{part}
use Rattle.shape.specs.TypeRows.{EndsAt}
use Rattle.record.proofs.Left.{Left, left_room, left_on, left_end}
use Rattle.args.specs.Row.{SomeArg, Skips}
use Rattle.args.proofs.ArgumentRows.{row_none}
use Rattle.array.specs.Members.{Pairs, SomePair, MemberIs}
use Rattle.array.proofs.Pairs.{PairsLeft, pairs_first, pair_arg, pair_type, pair_to, pair_rest, pair_more}
use Rattle.std.specs.declared.option.Option.TheVariants.{None, Some}

-- ---- one member more

some_cons : (x : Option Val) (y : Option (List Val)) → some?
    (let r : Option (List Val) = elim x [ none ↦ none | some w ↦ map_some (w ∷◌) y ] in r) ≡ some? x && some? y
unfolding some? map_some
some_cons none y = refl
some_cons (some w) none = refl
some_cons (some w) (some ws) = refl

members_cons : (t : Ty) (m : Tys) (v : Val) (l : List Val) → some? (memberwise (tys_list (t ▸ m)) (v ∷ l)) ≡ some? (conv_val t v) && some?
    (memberwise (tys_list m) l)
unfolding memberwise tys_list
members_cons t m v l = some_cons (conv_val t v) (memberwise (tys_list m) l)

record Into (t : Ty) (m : Tys) (v : Val) (l ws : List Val) : Type 0 where
  into : Val
  others : List Val
  is : joined val_bytes ws ≡ val_bytes into ++ joined val_bytes others
  head : conv_val t v ≡ some into
  tail : memberwise (tys_list m) l ≡ some others

into_of : (t : Ty) (m : Tys) (v : Val) (l : List Val) {ws : List Val} → memberwise (tys_list (t ▸ m)) (v ∷ l) ≡ some ws → Into t m v l ws
unfolding memberwise tys_list map_some joined
into_of t m v l {ws} e = on_some (conv_val t v) _ e λ w h e₁. go w h (memberwise (tys_list m) l) refl e₁
  where
    go : (w : Val) → conv_val t v ≡ some w → (o : Option (List Val)) → memberwise (tys_list m) l ≡ o → map_some (w ∷◌) o ≡ some ws
        → Into t m v l ws
    go w h none q u = no_some u
    go w h (some us) q u = record { into = w; others = us; is = ap (joined val_bytes) (sym (some_inj u)); head = h; tail = q }

-- what converts has a type that does
pub goes_type : (t : Ty) (v : Val) {w : Val} → conv_val t v ≡ some w → T (converts (type_of v) t)
unfolding conv_val
goes_type t v e = on_if (converts (type_of v) t) _ e λ h q. h

-- no arguments left
done : {target : List ℕ} {at : ℕ} {args : List ℕ} {i : ℕ} {m : Tys} {l : List Val} → Pairs target at args i m l → length args ≤ i
    → memberwise (tys_list m) l ≡ some []
unfolding memberwise tys_list
done {m = m} {l} x h = rw (row_none l x.row h) (go (tys_list m))
  where
    go : (ts : List Ty) → memberwise ts [] ≡ some []
    go [] = refl
    go (t ∷ ts) = refl

-- ---- the decision: what is left fits exactly where all does

abbrev pub FitLeft : List ℕ → ℕ → List ℕ → ℕ → Bool → Type 0
FitLeft target at args i b = PairsLeft target at args i λ (m : Tys) (l : List Val). some? (memberwise (tys_list m) l) ≡ b

module _ {target : List ℕ} {at : ℕ} {args : List ℕ} {i : ℕ} {b : Bool} (g : FitLeft target at args i b) where
  module _ (h : i < length args) where
    pub fit_pair : SomePair target at args i
    fit_pair = pairs_first g h λ t m v l x q. record { type = t; types = m; value = v; values = l; pairs = x }

    pub fit_no : MemberIs target at args i None → false ≡ b
    unfolding some?
    fit_no f = pairs_first g h λ t m v l x q. rw (f t m v l x) at (sym (members_cons t m v l) ∙ q)

    module _ {e a : ℕ} (f : MemberIs target at args i (Some (e, a))) where
      pub fit_less : i < e
      fit_less = pairs_first g h λ t m v l x q. (f t m v l x).more

      pub fit_on : FitLeft target a args e b
      fit_on = pairs_first g h λ t m v l x q. let y = f t m v l x in
          record { types = m; values = l; pairs = y.rest; so = rw y.fits at (sym (members_cons t m v l) ∙ q) }

  pub fit_end : length args ≤ i → true ≡ b
  unfolding some?
  fit_end h = rw (done g.pairs h) at g.so

-- ---- the writing: what writes the rest makes the whole

-- what the values l become is left to write
pub record ToPut (out₀ : List ℕ) (to : ℕ) (ws : List Val) (p : ℕ) (out : List ℕ) (m : Tys) (l : List Val) : Type 0 where
  pub intos : List Val
  pub goes : memberwise (tys_list m) l ≡ some intos
  pub rest : Left out₀ to (joined val_bytes ws) out p (joined val_bytes intos)

abbrev pub PutLeft : List ℕ → ℕ → List ℕ → ℕ → List ℕ → ℕ → List Val → ℕ → List ℕ → Type 0
PutLeft target at args i out₀ to ws p out = PairsLeft target at args i (ToPut out₀ to ws p out)

module _ {target : List ℕ} {at : ℕ} {args : List ℕ} {i : ℕ} {out₀ : List ℕ} {to : ℕ} {ws : List Val} {p : ℕ} {out : List ℕ}
    (g : PutLeft target at args i out₀ to ws p out) where
  module _ (h : i < length args) where
    pub put_arg : SomeArg args i
    put_arg = pairs_first g h λ t m v l x q. pair_arg x

    pub put_type : Standing 14 target at
    put_type = pairs_first g h λ t m v l x q. pair_type x

    module _ {e : ℕ} (s : Skips args i e) where
      pub put_less : i < e
      put_less = pairs_first g h λ t m v l x q. pair_more x (s v l x.row)

      pub put_within : e ≤ length args
      put_within = pairs_first g h λ t m v l x q. (s v l x.row).rest.within

      to_into : {t : Ty} {m : Tys} {v w : Val} {l : List Val} → Pairs target at args i (t ▸ m) (v ∷ l) → conv_val t v ≡ some w
          → ValueTo 14 target at (part args i e) 0 (length (part args i e)) t v
      to_into {t} {m} {v} {w} {l} x f = pair_to x (s v l x.row) (goes_type t v f)

      pub put_room : Takes out₀ to (joined val_bytes ws) → ValueRoom 14 target at (part args i e) 0 (length (part args i e)) out p
      put_room a = pairs_first g h λ t m v l x q.
          let y = into_of t m v l q.goes in
          record {
            type = t;
            value = v;
            into = y.into;
            asked = to_into x y.head;
            goes = y.head;
            room = left_room q.rest
                (val_bytes y.into) (joined val_bytes y.others) y.is a;
          }

      pub put_on : {a r : ℕ} {out' : List ℕ} → ValuePut 14 target at (part args i e) 0 (length (part args i e)) out p r out' → EndsAt 14 target at a
          → PutLeft target a args e out₀ to ws r out'
      put_on z f = pairs_first g h λ t m v l x q.
          let y = into_of t m v l q.goes in
          record {
            types = m;
            values = l;
            pairs = pair_rest x f (s v l x.row);
            so = record {
              intos = y.others;
              goes = y.tail;
              rest = left_on q.rest (val_bytes y.into) (joined val_bytes y.others)
                  y.is (z t v y.into (to_into x y.head) y.head);
            };
          }

  pub put_end : length args ≤ i → Put out₀ to (joined val_bytes ws) p out
  unfolding joined
  put_end h = left_end g.so.rest (ap (joined val_bytes) (sym (some_inj (sym (done g.pairs h) ∙ g.so.goes))))
