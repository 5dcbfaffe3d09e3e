-- The common kind of the components: the kind so far and the kinds that are left come to the whole.
use mathlib.Core.Path.{◌≡◌, refl, sym, ap, ◌∙◌}
use mathlib.Core.Option.{Option as Maybe, none, some}
use mathlib.Core.List.{List, [], ◌∷◌, map}
use Prim.Native.Nat.{ℕ}
use native.Mathlib.Omega.{arith}
use lib.ListN.{length}
use Rattle.meaning.specs.Kinds.{Kind, kind_no}
use Rattle.meaning.specs.Trees.{Ty, Ts}
use Rattle.meaning.specs.Answers.{Result, ok, no, miscount, or_no, all, map_some, ◌>>=◌}
use Rattle.meaning.specs.Convert.{common_from, meet}
use Rattle.meaning.specs.Typing.{part_kind, part_of}
use Rattle.laws.proofs.Left.{Left}
use Rattle.laws.proofs.Named.{ok_inj, no_ok}
use Rattle.ty.specs.Stands.{Stands, Standing}
use Rattle.shape.specs.Kinds.{found_of, meet_kind}
use Rattle.shape.specs.TypeRows.{EndsAt, TypeRow}
use Rattle.shape.proofs.KindsFound.{found_kind, found_none, kinds_meet}
use Rattle.shape.proofs.TypeRows.{type_stands, type_standing, type_rest}
use Rattle.arg_types.specs.Components.{ComponentKind, MeetPart, PartKinds, meet_some, common_kind_from}
use Rattle.std.specs.declared.option.Option.{Option}
use Rattle.std.specs.declared.option.Option.TheVariants.{None, Some}

from_no : (l : List Kind) → common_kind_from none l ≡ none
unfolding common_kind_from meet_some
from_no [] = refl
from_no (k ∷ l) = from_no l

meets : (o : Maybe Kind) (k : Kind) → meet (map_some Ts o) (Ts k) ≡ map_some Ts (meet_some o k)
unfolding meet map_some meet_some
meets none k = refl
meets (some j) k = kinds_meet j k

-- it is the common type of the scalars
pub kinds_common : (o : Maybe Kind) (l : List Kind) → common_from (map_some Ts o) (map Ts l) ≡ map_some Ts (common_kind_from o l)
unfolding common_from common_kind_from
kinds_common o [] = refl
kinds_common o (k ∷ l) = ap (λ (x : Maybe Ty). common_from x (map Ts l)) (meets o k) ∙ kinds_common (meet_some o k) l

-- the kind so far, and the kinds that the types l bring
pub record KindsLeft (k : ℕ) (o : Maybe Kind) (l : List Ty) : Type 0 where
  pub kind : Kind
  pub no : k ≡ kind_no kind
  pub kinds : List Kind
  pub parts : all part_of l ≡ ok kinds
  pub same : common_kind_from (some kind) kinds ≡ o

-- a list of components begins with the kind of its first type
pub record Split (t : Ty) (l : List Ty) (ks : List Kind) : Type 0 where
  pub head : Kind
  pub tail : List Kind
  pub is : ks ≡ head ∷ tail
  pub part : part_kind t ≡ some head
  pub parts : all part_of l ≡ ok tail

pub split_kinds : (t : Ty) (l : List Ty) {ks : List Kind} → all part_of (t ∷ l) ≡ ok ks → Split t l ks
unfolding all part_of
split_kinds t l {ks} h = go (part_kind t) (all part_of l) refl refl h
  where
    go : (o : Maybe Kind) (x : Result (List Kind)) → part_kind t ≡ o → all part_of l ≡ x
        → (or_no 12 o >>= λ b. x >>= λ bs. ok (b ∷ bs)) ≡ ok ks → Split t l ks
    go none x e f q = no_ok q
    go (some j) (ok js) e f q = record { head = j; tail = js; is = sym (ok_inj q); part = e; parts = f }
    go (some j) (no n) e f q = no_ok q
    go (some j) (miscount w g) e f q = absurd (let z : ◌≡◌ {A = ℕ} 0 1 = cc in omega arith)

-- at least one type brings the first kind
module _ {s : List ℕ} {l : List Ty} {k : Kind} {ks : List Kind} (x : PartKinds s l k ks) where
  record Begins : Type 0 where
    type : Ty
    others : List Ty
    row : TypeRow s 0 (type ∷ others)
    part : part_kind type ≡ some k
    parts : all part_of others ≡ ok ks

  begins : Begins
  unfolding all
  begins = go l x.row x.parts
    where
      go : (m : List Ty) → TypeRow s 0 m → all part_of m ≡ ok (k ∷ ks) → Begins
      go [] w h = absurd (omega (arith, ap length (ok_inj h)))
      go (t ∷ m) w h =
          let y = split_kinds t m h in
          let a : k ≡ y.head = cc y.is in
          let b : ks ≡ y.tail = cc y.is in
          record { type = t; others = m; row = w; part = rw a y.part; parts = rw b y.parts }

  pub parts_standing : Standing 15 s 0
  parts_standing = type_standing begins.row

  module _ {r : Option ℕ} (f : ComponentKind s 0 r) where
    is_first : r ≡ found_of (some k)
    is_first = f begins.type _ (type_stands begins.row) ∙ ap found_of begins.part

    pub parts_none : r ≡ None → ⊥
    unfolding found_of
    parts_none h = let z : None ≡ Some (kind_no k) = sym h ∙ is_first in let z : ◌≡◌ {A = ℕ} 0 1 = cc in omega arith

    pub kind_start : {c e : ℕ} → r ≡ Some c → EndsAt 15 s 0 e → Left (TypeRow s) e (KindsLeft c (common_kind_from (some k) ks))
    unfolding found_of
    kind_start {c} h y =
        let z : Some c ≡ Some (kind_no k) = sym h ∙ is_first in
        record {
          items = begins.others;
          row = type_rest begins.row y;
          so = record { kind = k; no = cc; kinds = ks; parts = begins.parts; same = refl };
        }

module _ {k : ℕ} {o : Maybe Kind} {t : Ty} {l : List Ty} (g : KindsLeft k o (t ∷ l)) where
  kinds : Split t l g.kinds
  kinds = split_kinds t l g.parts

  folded : common_kind_from (meet_kind g.kind kinds.head) kinds.tail ≡ o
  unfolding common_kind_from meet_some
  folded = rw kinds.is at g.same

  module _ {s : List ℕ} {i e : ℕ} (w : Stands 15 s i t e) {r : Option ℕ} (f : MeetPart k s i r) where
    met : r ≡ found_of (meet_kind g.kind kinds.head)
    met = f g.kind kinds.head t e g.no w kinds.part

    pub kind_no_lem : r ≡ None → None ≡ found_of o
    unfolding found_of
    kind_no_lem q = ap found_of (sym (from_no kinds.tail) ∙ (rw (found_none (meet_kind g.kind kinds.head) (sym q ∙ met)) at folded))

    pub kind_on : {m : ℕ} → r ≡ Some m → KindsLeft m o l
    kind_on q =
        let x = found_kind (meet_kind g.kind kinds.head) (sym q ∙ met) in
        record { kind = x.kind; no = x.no; kinds = kinds.tail; parts = kinds.parts; same = rw x.is at folded }

pub kind_end : {k : ℕ} {o : Maybe Kind} → KindsLeft k o [] → Some k ≡ found_of o
unfolding all found_of common_kind_from
kind_end {o = o} g = let b : some g.kind ≡ o = rw (sym (ok_inj g.parts)) at g.same in ap Some g.no ∙ ap found_of b
