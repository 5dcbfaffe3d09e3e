-- The third demand at the level of trees: the untemplated array.
use mathlib.Core.Path.{◌≡◌, refl, sym, subst}
use mathlib.Core.Option.{Option, none, some}
use mathlib.Core.List.{List, [], ◌∷◌, map}
use mathlib.Core.Bool.{Bool, true, false, ◌&&◌}
use Prim.Native.Nat.{ℕ, suc}
use native.Mathlib.Omega.{arith}
use lib.Dec.{T, leb, le→leb}
use lib.ListN.{length, replicate}
use Rattle.meaning.specs.Scalars.{Stage}
use Rattle.meaning.specs.Trees.{Ty, Ta, Val, Va, Qa, type_of, vals_of}
use Rattle.meaning.specs.Answers.{ok, ◌>>=◌, or_no, all_some}
use Rattle.meaning.specs.Convert.{conv_val, common}
use Rattle.meaning.specs.Build.{build, qa_of}
use Rattle.meaning.specs.Typing.{typed, type_qa}
use Rattle.laws.specs.Demand.{fits_in, by_ctor, lands, counted, nothing_stops, refused}
use Rattle.laws.proofs.AgreeBuild.{Made, Agrees, AllOk, ConvL, conv_list, arr_made, length_map}
use Rattle.laws.proofs.AgreeCommon.{common_all}

qa_made : (b : Bool) (n : ℕ) (t : Ty) (x : Option (List Val)) → T (leb 1 n) → ConvL b n t x
    → Made (b && true) (Ta n t) (or_no 10 x >>= λ ws. ok (Va (vals_of ws)))
unfolding refused
qa_made true n t x h (ws, e, g, a, c) = let r = arr_made n t (vals_of ws) h g a c in rw e (Va (vals_of ws), refl, r.0, r.1)
qa_made false n t x h e = rw e tt

pub agree_qa_none : (s : Stage) → Agrees s Qa [] (typed Qa []) (build s Qa [])
unfolding typed type_qa common build refused
agree_qa_none s = tt

pub agree_qa : (s : Stage) (v : Val) (l : List Val) → AllOk (v ∷ l) → Agrees s Qa (v ∷ l) (typed Qa (map type_of (v ∷ l)))
    (build s Qa (v ∷ l))
unfolding typed type_qa build qa_of nothing_stops by_ctor lands counted refused
agree_qa s v l g = go (common (map type_of (v ∷ l))) refl
  where
    go : (o : Option Ty) → common (map type_of (v ∷ l)) ≡ o
        → Agrees s Qa (v ∷ l) (or_no 10 o >>= λ t. ok (Ta (length (map type_of (v ∷ l))) t))
        (or_no 10 o >>= λ t. or_no 10 (all_some (conv_val t) (v ∷ l)) >>= λ ws. ok (Va (vals_of ws)))
    go none e = tt
    go (some t) e =
        subst (λ (n : ℕ). Made (fits_in false s (replicate (length (v ∷ l)) t) (v ∷ l) && true) (Ta n t)
        (or_no 10 (all_some (conv_val t) (v ∷ l)) >>= λ ws. ok (Va (vals_of ws))))
        (sym (length_map (v ∷ l)))
        (qa_made (fits_in false s (replicate (length (v ∷ l)) t) (v ∷ l)) (length (v ∷ l)) t (all_some (conv_val t) (v ∷ l))
        (le→leb 1 (suc (length l)) (omega arith))
        (conv_list t (v ∷ l) s g (common_all (map type_of (v ∷ l)) t e)))
