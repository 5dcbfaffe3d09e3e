-- The arguments once they convert: to the type that the first one's gives, or to the kind that the common type gives.
use mathlib.Core.Path.{◌≡◌, refl, sym, ◌∙◌, subst}
use mathlib.Core.Option.{Option, none, some}
use mathlib.Core.List.{List, [], ◌∷◌, map, append-nil}
use mathlib.Core.Bool.{Bool, true, false}
use Prim.Native.Nat.{ℕ, ◌-◌, ◌≤◌}
use native.Mathlib.Omega.{arith}
use lib.Dec.{T}
use lib.ListN.{length, replicate, set}
use lib.Seq.{drop-length}
use Rattle.meaning.specs.Kinds.{Kind, kind_no}
use Rattle.meaning.specs.Scalars.{Const, some?}
use Rattle.meaning.specs.Trees.{Ty, Val, Vm, type_of, vals_of, depth, leaf, set_leaf, inner}
use Rattle.meaning.specs.Records.{‘T’, ‘s’, ‘v’, ty_bytes, val_bytes, joined, every, shaped_ty, shaped_vals}
use Rattle.meaning.specs.Answers.{ok, no, ◌>>◌, all_some, map_some}
use Rattle.meaning.specs.Convert.{converts, conv_val, conv_lits, common, float_kind}
use Rattle.meaning.specs.Build.{mat_shape, payloads_of_all, to_inner, lit_kind, mat_parts, qm_parts}
use Rattle.laws.specs.Demand.{fits_in}
use Rattle.laws.proofs.AgreeBuild.{ConvL}
use Rattle.laws.proofs.AgreeCommon.{common_all}
use Rattle.laws.proofs.AgreeConv.{AllTy, set_same}
use Rattle.laws.proofs.AgreeMat.{Down, leaf_inner, down_leaf}
use Rattle.laws.proofs.AgreeQm.{float_kind_lem, lits_list}
use Rattle.laws.proofs.Sound.{some_inj, no_some}
use Rattle.ty.specs.Stands.{Stands, Whole, OneType}
use Rattle.ty.specs.TypeFronts.{float_number}
use Rattle.ty.specs.declared.Head.TheVariants.{Scalar, Vector}
use Rattle.ty.proofs.Heads.{scalar_is, vector_is}
use Rattle.conv.specs.Items.{SomeItems, Fits}
use Rattle.conv.specs.Values.{plains}
use Rattle.ty.proofs.Bottom.{KindIs}
use Rattle.conv.proofs.Values.{Scan, list_scan, scan_items, scan_fits, some_map}
use Rattle.args.specs.Row.{Row, SomeArg, HeadOf, Types, Given, SomeGiven}
use Rattle.error.specs.Told.{Builds}
use Rattle.error.proofs.BufferAtExit.{builds_as}
use Rattle.args.proofs.ArgumentRows.{row_type, row_deep, row_bytes, each_ok, each_shaped}
use Rattle.convert_all.specs.Lists.{all_to, Asked}
use Rattle.convert_all.proofs.Converts.{to_types, some_to, all_lits, all_plain}
use Rattle.convert_all.proofs.ConvertedLists.{all_shaped, all_typed}
use Rattle.shape.specs.Kinds.{found_of}
use Rattle.shape.proofs.KindsFound.{found_kind, found_none, scalar_found, vector_found}
use Rattle.columns.specs.ColumnParts.{Parts}
use Rattle.matrix.specs.MatrixRules.{FirstAs, Bottom, To, mat_to, ToMade, Common, Typed, qm_to}
use Rattle.shape.proofs.Downs.{some_of, none_of, GoesTo}
use Rattle.matrix.proofs.Downs.{set_stands, float_is, float_no}
use Rattle.std.specs.declared.option.Option.TheVariants.{None, Some}
use Rattle.error.specs.Told.{Written}

-- ---- what the values converted are

conv_shaped : (b : Bool) (n : ℕ) (t : Ty) (o : Option (List Val)) {ws : List Val} → ConvL b n t o → o ≡ some ws
    → T (shaped_vals (vals_of ws)) × AllTy t (vals_of ws)
conv_shaped true n t o {ws} (m, e, g, a, q) h = subst (λ (l : List Val). T (shaped_vals (vals_of l)) × AllTy t (vals_of l))
    (some_inj (sym e ∙ h)) (g, a)
conv_shaped false n t o e h = no_some (sym e ∙ h)

-- the values that the arguments become
pub record Becoming (k : ℕ) (ty s : List ℕ) (count : ℕ) (j : Kind) (t : Ty) (l : List Val) (o : Option (List Val)) : Type 0 where
  pub intos : List Val
  pub is : o ≡ some intos
  pub parts : Parts k ty s count j t l intos

-- ---- to a type

pub bottom_to : {k : ℕ} {ty s : List ℕ} {count : ℕ} (b : Bottom k ty) (g : SomeGiven s count) → To k ty s count b.kind b.type g.values
bottom_to b g = record { no = b.no; whole = b.whole; bottom = b.bottom; given = g.given }

module _ {k : ℕ} {ty s : List ℕ} {count : ℕ} {j : Kind} {u : Ty} {l : List Val} (x : To k ty s count j u l) where
  pub to_asked : Asked s 0 15 ty 0
  to_asked = record {
    rest = record { values = l; row = x.given.row };
    to = record { type = u; end = length ty; stands = x.whole };
  }

  pub to_no : (c r : ℕ) → false ≡ some? (all_some (conv_val u) l) → mat_to c r j u l ≡ no 10
  unfolding mat_to
  to_no c r h = rw (none_of (all_some (conv_val u) l) h)

  pub to_becoming : true ≡ some? (all_some (conv_val u) l) → Becoming k ty s count j u l (all_some (conv_val u) l)
  to_becoming h =
      let o = some_of (all_some (conv_val u) l) h in
      let a : T (all_to u l) = some_to u l o.1 in
      record {
        intos = o.0;
        is = o.1;
        parts = record {
          no = x.no;
          end = length ty;
          stands = x.whole;
          row = x.given.row;
          size = x.given.count;
          plain = all_plain u x.bottom l (each_shaped l x.given.row.each) a;
          goes = sym (all_lits u x.bottom l a) ∙ o.1;
          shaped = all_shaped u l (each_ok l x.given.row.each) o.1;
          types = subst (λ (t : Ty). AllTy t (vals_of o.0)) (sym (set_same u j x.bottom))
              (all_typed u l (each_ok l x.given.row.each) o.1);
        };
      }

  pub to_made : (c r : ℕ) (y : Becoming k ty s count j u l (all_some (conv_val u) l))
      → mat_to c r j u l ≡ (mat_shape c r u count >> ok (Vm c r j (payloads_of_all y.intos)))
  unfolding mat_to
  to_made c r y = rw (y.is, x.given.count)

-- ---- from the first argument's type

module _ (c r : ℕ) (j : Kind) (v : Val) (l : List Val) where
  pub mat_no : to_inner j (type_of v) ≡ none → mat_parts c r j v l ≡ no 7
  unfolding mat_parts
  mat_no h = rw h

  mat_goes : GoesTo j (type_of v) → mat_parts c r j v l ≡ mat_to c r j (set_leaf j (type_of v)) (v ∷ l)
  unfolding mat_parts mat_to
  mat_goes g = rw g.into

-- at least one argument
pub record SomeFirst (s : List ℕ) (count : ℕ) : Type 0 where
  pub value : Val
  pub others : List Val
  pub row : Row s 0 (value ∷ others)
  pub size : count ≡ length (value ∷ others)

pub first_of : {s : List ℕ} {count : ℕ} → SomeGiven s count → 1 ≤ count → SomeFirst s count
first_of {s} {count} g h = go g.values g.given
  where
    go : (l : List Val) → Given s count l → SomeFirst s count
    go [] x = absurd (omega (arith, x.count))
    go (v ∷ l) x = record { value = v; others = l; row = x.row; size = x.count }

module _ {s : List ℕ} {count : ℕ} (g : SomeGiven s count) (h : 1 ≤ count) where
  pub first : SomeFirst s count
  first = first_of g h

  pub first_arg : SomeArg s 0
  first_arg = record { value = first.value; others = first.others; row = first.row }

  -- its type, as `next_type` writes it
  pub first_stands : {e q : ℕ} {ty : List ℕ} → Types s 0 e q ty → Stands 15 ty 0 (type_of first.value) q
  first_stands y = (y first.value first.others first.row).stands

  -- that type with k in it is a type
  pub first_one : {k i : ℕ} {ty : List ℕ} → FirstAs k i ty s → T (float_number k) → OneType ty
  first_one {k} x f =
      let j = float_no k f in
      record { type = set_leaf j.0 (type_of first.value); stands = x.stands j.0 first.value first.others j.1 first.row }

-- the record of a type that goes down, with k at its end
pub type_set : {k : ℕ} (j : Kind) → k ≡ kind_no j → T (float_number k) → {t : Ty} → GoesTo j t → {ty : List ℕ} {q : ℕ} → Stands 15 ty 0 t q
    → Stands 15 (set ty (q - 1) k) 0 (set_leaf j t) q
type_set j n f {t} g w = set_stands j w (leaf_inner t g.down.kind g.down.at) n (float_is j n f)

module _ {s : List ℕ} {v : Val} {l : List Val} (w : Row s 0 (v ∷ l)) where
  -- the first argument's type, in its own record
  own : Stands 15 (ty_bytes (type_of v)) 0 (type_of v) (length (ty_bytes (type_of v)))
  own =
      let b = ty_bytes (type_of v) in
      record {
        here = rw (drop-length b) (sym (append-nil b));
        size = omega arith;
        within = omega arith;
        shaped = row_type w;
        deep = row_deep w;
      }

  -- the first argument by the front of its type: the kind one level down, and the record with k there
  module _ {i : ℕ} (h : HeadOf s 0 (Scalar i)) where
    scalar_down : Some i ≡ found_of (lit_kind (inner (type_of v)))
    unfolding lit_kind inner
    scalar_down = scalar_found (λ t. lit_kind (inner t)) own (h v l w) (λ j. refl)

    scalar_set : {k : ℕ} (j : Kind) → k ≡ kind_no j → Stands 15 (‘T’ ∷ ‘s’ ∷ k ∷ []) 0 (set_leaf j (type_of v)) 3
    unfolding set_leaf ty_bytes shaped_ty depth
    scalar_set j n = rw ((scalar_is own (h v l w)).is, n) record {
      here = refl;
      size = refl;
      within = omega arith;
      shaped = tt;
      deep = omega
          arith;
    }

  module _ {m i : ℕ} (h : HeadOf s 0 (Vector m i)) where
    vector_down : Some i ≡ found_of (lit_kind (inner (type_of v)))
    unfolding lit_kind inner
    vector_down = vector_found (λ t. lit_kind (inner t)) own (h v l w) (λ j. refl)

    vector_set : {k : ℕ} (j : Kind) → k ≡ kind_no j → Stands 15 (‘T’ ∷ ‘v’ ∷ m ∷ ‘T’ ∷ ‘s’ ∷ k ∷ []) 0 (set_leaf j (type_of v)) 6
    unfolding set_leaf ty_bytes shaped_ty depth
    vector_set j n =
        let e = (vector_is own (h v l w)).is in
        let g = subst (λ (t : Ty). T (shaped_ty t)) e (row_type w) in
        rw (e, n) record { here = refl; size = refl; within = omega arith; shaped = g; deep = omega arith }

  -- what is made of the arguments, once ty is the record with k there
  module _ {k count : ℕ} (j : Kind) (n : k ≡ kind_no j) (h : count ≡ length (v ∷ l)) (g : GoesTo j (type_of v)) {ty : List ℕ}
      (t : Whole ty (set_leaf j (type_of v))) where
    bottom : leaf (set_leaf j (type_of v)) ≡ some j
    bottom = down_leaf j (type_of v) (set_leaf j (type_of v)) g.down

    pub mat_asked : Bottom k ty
    mat_asked = record { kind = j; type = set_leaf j (type_of v); no = n; whole = t; bottom = bottom }

    pub mat_made : (c r : ℕ) (out : List ℕ) {x : Written} {out' : List ℕ} → ToMade c r k ty s count out x out'
        → Builds (mat_parts c r j v l) out x out'
    mat_made c r out f = builds_as out (mat_goes c r j v l g)
        (f j (set_leaf j (type_of v)) (v ∷ l) record { no = n; whole = t; bottom = bottom; given = record { row = w; count = h } })

pub scalar_first : {s : List ℕ} {k i : ℕ} → HeadOf s 0 (Scalar i) → FirstAs k i (‘T’ ∷ ‘s’ ∷ k ∷ []) s
scalar_first h = record { down = λ v l w. scalar_down w h; stands = λ j v l n w. scalar_set w h j n }

pub vector_first : {s : List ℕ} {k m i : ℕ} → HeadOf s 0 (Vector m i) → FirstAs k i (‘T’ ∷ ‘v’ ∷ m ∷ ‘T’ ∷ ‘s’ ∷ k ∷ []) s
vector_first h = record { down = λ v l w. vector_down w h; stands = λ j v l n w. vector_set w h j n }

-- ---- to the kind of the common type

pub common_typed : {ty s : List ℕ} {count : ℕ} (f : Common ty s) (g : SomeGiven s count)
    → Typed ty s count (f g.values g.given.row).type g.values
common_typed f g = let x = f g.values g.given.row in record { whole = x.whole; is = x.is; given = g.given }

module _ {ty s : List ℕ} {count : ℕ} {t : Ty} {l : List Val} (x : Typed ty s count t l) where
  pub typed_other : (c r : ℕ) → None ≡ found_of (float_kind (inner t)) → qm_to c r t l ≡ no 13
  unfolding qm_to
  typed_other c r h = rw (found_none (float_kind (inner t)) h)

  module _ {k : ℕ} (h : Some k ≡ found_of (float_kind (inner t))) where
    pub float : KindIs k (float_kind (inner t))
    float = found_kind (float_kind (inner t)) h

    goes_down : Down float.kind t (set_leaf float.kind t)
    goes_down = let y = float_kind_lem (inner t) float.kind float.is in record { kind = y.0; at = y.1; is = refl; ranks = y.2 }

    all_to_lem : T (every (λ a. converts a t) (map type_of l))
    all_to_lem = common_all (map type_of l) t x.is

    no_struct : T (plains (vals_of l))
    no_struct = all_plain t (leaf_inner t goes_down.kind goes_down.at) l (each_shaped l x.given.row.each)
        (subst T (to_types t l) all_to_lem)

    scan : Scan float.kind s 0 (length s) (map_some (joined val_bytes) (all_some (conv_lits float.kind) l))
    scan = list_scan float.kind l (row_bytes x.given.row) (each_shaped l x.given.row.each) no_struct

    pub typed_items : SomeItems s 0 (length s)
    typed_items = scan_items scan

    module _ {b : Bool} (f : Fits k s 0 (length s) b) where
      fits_are : b ≡ some? (all_some (conv_lits float.kind) l)
      fits_are = scan_fits scan float.no f ∙ some_map (joined val_bytes) (all_some (conv_lits float.kind) l)

      pub typed_no : (c r : ℕ) → b ≡ false → qm_to c r t l ≡ no 10
      unfolding qm_to
      typed_no c r e = rw (float.is, none_of (all_some (conv_lits float.kind) l) (sym e ∙ fits_are))

      pub typed_becoming : b ≡ true → Becoming k ty s count float.kind t l (all_some (conv_lits float.kind) l)
      typed_becoming e =
          let o = some_of (all_some (conv_lits float.kind) l) (sym e ∙ fits_are) in
          let u : Ty = set_leaf float.kind t in
          let g = conv_shaped (fits_in false Const (replicate (length l) u) l) (length l) u (all_some (conv_lits float.kind) l)
          (lits_list t float.kind goes_down l Const (each_ok l x.given.row.each) all_to_lem) o.1 in
          record {
            intos = o.0;
            is = o.1;
            parts = record {
              no = float.no;
              end = length ty;
              stands = x.whole;
              row = x.given.row;
              size = x.given.count;
              plain = no_struct;
              goes = o.1;
              shaped = g.0;
              types = g.1;
            };
          }

      pub typed_made : (c r : ℕ) (y : Becoming k ty s count float.kind t l (all_some (conv_lits float.kind) l))
          → qm_to c r t l ≡ (mat_shape c r t count >> ok (Vm c r float.kind (payloads_of_all y.intos)))
      unfolding qm_to
      typed_made c r y = go float.kind float.is y.intos y.is
        where
          go : (j : Kind) → float_kind (inner t) ≡ some j → (ws : List Val) → all_some (conv_lits j) l ≡ some ws
              → qm_to c r t l ≡ (mat_shape c r t count >> ok (Vm c r j (payloads_of_all ws)))
          go j e ws h = rw (e, h, x.given.count)

module _ (c r : ℕ) (l : List Val) where
  pub qm_none : common (map type_of l) ≡ none → qm_parts c r l ≡ no 10
  unfolding qm_parts
  qm_none h = rw h

  pub qm_typed : {t : Ty} → common (map type_of l) ≡ some t → qm_parts c r l ≡ qm_to c r t l
  unfolding qm_parts qm_to
  qm_typed h = rw h
