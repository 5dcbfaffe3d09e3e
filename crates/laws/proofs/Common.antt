-- The common type, as document 01 says it: "the common type of a list is one of its own types to which all others
-- convert; none exists otherwise". The definition folds the list pair by pair, as the source does.
use mathlib.Core.Path.{◌≡◌, refl, sym, ap, ◌∙◌, subst}
use mathlib.Core.Option.{Option, none, some}
use mathlib.Core.List.{List, [], ◌∷◌}
use mathlib.Core.Bool.{Bool, true, false, cond}
use Prim.Native.Nat.{◌≤◌}
use native.Mathlib.Omega.{arith}
use lib.Dec.{T}
use lib.ListN.{length}
use Rattle.meaning.specs.Trees.{Ty}
use Rattle.meaning.specs.Records.{every}
use Rattle.meaning.specs.Convert.{converts, meet, common_from, common}
use Rattle.laws.proofs.AgreeCommon.{some_ty, none_ty, common_all, chain_from, conv_one_lem, from_none}
use Rattle.laws.proofs.Back.{and_l, and_r}

-- t is one of the list
pub data In (t : Ty) : List Ty → Type 0 where
  here : {l : List Ty} → In t (t ∷ l)
  there : {a : Ty} {l : List Ty} → In t l → In t (a ∷ l)

-- "one of its own types to which all others convert"; it converts to itself, so it need not be left out
pub record Common (l : List Ty) (t : Ty) : Type 0 where
  pub own : In t l
  pub others : T (every (λ a. converts a t) l)

-- `common l` is t exactly where t is such a type, so there is at most one; and it is none exactly where there is no such type
pub record CommonType (l : List Ty) : Type 0 where
  pub is : (t : Ty) → common l ≡ some t → Common l t
  pub only : (t : Ty) → Common l t → common l ≡ some t
  pub nothing : common l ≡ none → (t : Ty) → Common l t → ⊥
  pub otherwise : ((t : Ty) → Common l t → ⊥) → common l ≡ none

pub some_in : {t : Ty} {l : List Ty} → In t l → 1 ≤ length l
some_in here = omega arith
some_in (there m) = omega arith

pub in_every : (f : Ty → Bool) {t : Ty} {l : List Ty} → In t l → T (every f l) → T (f t)
unfolding every
in_every f {t} (here {l}) h = and_l (f t) (every f l) h
in_every f {t} (there {a} {l} m) h = in_every f m (and_r (f a) (every f l) h)

skip : {t a : Ty} (b : Ty) {l : List Ty} → In t (a ∷ l) → In t (a ∷ (b ∷ l))
skip b here = here
skip b (there m) = there (there m)

from_own : (a : Ty) (l : List Ty) (t : Ty) → common_from (some a) l ≡ some t → In t (a ∷ l)
unfolding common_from meet
from_own a [] t h = subst (λ (x : Ty). In t (x ∷ [])) (sym (some_ty h)) here
from_own a (b ∷ l) t h = go (λ x. from_own x l t) (converts a b) (converts b a) h
  where
    go : ((x : Ty) → common_from (some x) l ≡ some t → In t (x ∷ l)) → (p q : Bool)
        → common_from (cond p (some b) (cond q (some a) none)) l ≡ some t → In t (a ∷ (b ∷ l))
    go ih true q h = there (ih b h)
    go ih false true h = skip b (ih a h)
    go ih false false h = absurd (none_ty (sym (from_none l) ∙ h))

pub is_common : (l : List Ty) (t : Ty) → common l ≡ some t → Common l t
unfolding common
is_common [] t h = absurd (none_ty h)
is_common (a ∷ l) t h = record { own = from_own a l t h; others = common_all (a ∷ l) t h }

only_common : (l : List Ty) (t : Ty) → Common l t → common l ≡ some t
unfolding common every
only_common [] t c = absurd (let h : 1 ≤ 0 = some_in c.own in omega arith)
only_common (a ∷ l) t c =
    let r = chain_from a l t (and_l (converts a t) (every (λ x. converts x t) l) c.others)
    (and_r (converts a t) (every (λ x. converts x t) l) c.others) in
    r.1 ∙ ap some (conv_one_lem r.0 t r.2 (in_every (λ x. converts x r.0) c.own (common_all (a ∷ l) r.0 r.1)))

pub common_type : (l : List Ty) → CommonType l
common_type l = record {
  is = is_common l;
  only = only_common l;
  nothing = λ e t c. none_ty (sym e ∙ only_common l t c);
  otherwise = λ f. go (common l) refl f;
}
  where
    go : (o : Option Ty) → common l ≡ o → ((t : Ty) → Common l t → ⊥) → o ≡ none
    go none e f = refl
    go (some t) e f = absurd (f t (is_common l t e))
