-- That values are given has one proof at most: the bytes say which they are.
use Rattle.std.specs.Prelude.{◌≡◌, List, [], ◌∷◌, ℕ}
use Rattle.std.specs.Coded.{×_prop, Unit-prop, le_prop}
use mathlib.Core.Path.{refl, sym, ap, ap₂, ◌∙◌}
use mathlib.Core.HLevel.{is_prop→PathP}
use mathlib.Core.List.{is_set}
use mathlib.Core.Option.{some, some-injective, none-ne-some}
use native.Mathlib.Nat.{ℕ_set}
use native.Mathlib.Omega.{arith}
use lib.Dec.{T_prop}
use Rattle.meaning.specs.Trees.{Val, type_of}
use Rattle.meaning.specs.Records.{val_bytes, joined}
use Rattle.meaning.specs.Read.{p_val}
use Rattle.laws.proofs.Back.{shaped_of, deep_of}
use Rattle.laws.proofs.BackVal.{val_back}
use Rattle.laws.proofs.Sound.{All}
use Rattle.args.specs.Counts.{ValueArg}
use Rattle.args.specs.Row.{Row, Given, SomeGiven}

-- the first of the values, and the bytes of the others
first_is : (v : Val) (l : List Val) → All (ValueArg 15 4096) (v ∷ l) → p_val 16 (joined val_bytes (v ∷ l)) ≡ some (v, joined val_bytes l)
unfolding joined
first_is v l a = val_back v 16 a.0.0 (shaped_of 15 4096 (type_of v) a.0.1) (omega (arith, deep_of 15 4096 (type_of v) a.0.1)) (joined val_bytes l)

-- no value is written without bytes
none_is : (v : Val) (l : List Val) → All (ValueArg 15 4096) (v ∷ l) → joined val_bytes (v ∷ l) ≡ [] → ⊥
unfolding p_val
none_is v l a e = none-ne-some _ (sym (ap (p_val 16) e) ∙ first_is v l a)

same_values : (l m : List Val) → All (ValueArg 15 4096) l → All (ValueArg 15 4096) m → joined val_bytes l ≡ joined val_bytes m → l ≡ m
unfolding joined
same_values [] [] a b e = refl
same_values [] (v ∷ m) a b e = absurd (none_is v m b (sym e))
same_values (v ∷ l) [] a b e = absurd (none_is v l a e)
same_values (v ∷ l) (u ∷ m) a b e =
    let q : (v, joined val_bytes l) ≡ (u, joined val_bytes m) = some-injective _ _ (sym (first_is v l a)
    ∙ (ap (p_val 16) e ∙ first_is u m b)) in
    ap₂ (λ (x : Val) (y : List Val). x ∷ y) (ap (λ (r : Val × List ℕ). r.0) q)
    (same_values l m a.1 b.1 (ap (λ (r : Val × List ℕ). r.1) q))

each_prop : (l : List Val) → IsProp (All (ValueArg 15 4096) l)
each_prop [] = Unit-prop
each_prop (v ∷ l) = ×_prop (×_prop (T_prop _) (T_prop _)) (each_prop l)

row_prop : (s : List ℕ) (i : ℕ) (l : List Val) → IsProp (Row s i l)
row_prop s i l x y = λ j. record {
  within = le_prop x.within y.within j;
  here = is_set ℕ_set _ _ x.here y.here j;
  each = each_prop l x.each y.each j;
}

given_prop : (s : List ℕ) (n : ℕ) (l : List Val) → IsProp (Given s n l)
given_prop s n l x y = λ j. record { row = row_prop s 0 l x.row y.row j; count = ℕ_set _ _ x.count y.count j }

pub some_given_prop : (s : List ℕ) (n : ℕ) → IsProp (SomeGiven s n)
some_given_prop s n x y =
    let a = x.given.row in
    let b = y.given.row in
    let q : x.values ≡ y.values = same_values x.values y.values a.each b.each (sym a.here ∙ b.here) in
    λ j. record {
      values = q j;
      given = is_prop→PathP (λ k. Given s n (q k)) (λ k. given_prop s n (q k)) x.given y.given j;
    }
