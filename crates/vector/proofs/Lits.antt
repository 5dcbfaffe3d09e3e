-- The components of arguments as literals of one kind: what converts, what is written, and what the scan of all arguments decides.
use mathlib.Core.Path.{◌≡◌, refl, sym, ap, ap₂, ◌∙◌, subst}
use mathlib.Core.Option.{Option, none, some}
use mathlib.Core.List.{List, [], ◌∷◌, ◌++◌, map, append-nil}
use mathlib.Core.Bool.{Bool, true, false, ◌&&◌, cond}
use Prim.Native.Nat.{ℕ, ◌+◌}
use native.Mathlib.Omega.{arith}
use native.Mathlib.Nat.{add-zero}
use lib.Dec.{T, eqb}
use lib.ListN.{length, drop}
use Rattle.meaning.specs.Kinds.{Kind, kind_rank}
use Rattle.meaning.specs.Scalars.{conv, some?, fits_conv}
use Rattle.meaning.specs.Trees.{Ts, Val, Vs, Vv, Vm, Va, Vu, type_of, leaf, vals_of}
use Rattle.meaning.specs.Records.{lit_bytes, vec_bytes, val_bytes, joined, every, good_lit, shaped_val}
use Rattle.meaning.specs.Answers.{Result, ok, or_no, need_count, ◌>>=◌, ◌>>◌, all_some, map_some}
use Rattle.meaning.specs.Convert.{converts, conv_lits, conv_leaf, conv_val}
use Rattle.meaning.specs.Build.{parts, flattened, payload, lit_kind, vec_parts}
use Rattle.laws.proofs.AgreeBuild.{AllOk, true_false}
use Rattle.laws.proofs.AgreeConv.{conv_not, every_append}
use Rattle.laws.proofs.AgreeLit.{LitO, conv_lit}
use Rattle.laws.proofs.AgreeVec.{converts_lit, conv_no, not_to_scalar, and_true, and_false}
use Rattle.laws.proofs.Back.{and_l, and_r}
use Rattle.laws.proofs.Same.{both}
use Rattle.laws.proofs.Sound.{on_some, some_inj}
use Rattle.record.proofs.Places.{past}
use Rattle.record.specs.Values.{BytesAt, HasVal}
use Rattle.conv.specs.Values.{plain, plains}
use Rattle.conv.proofs.Values.{Scan, lits_scan, list_scan, some_map}
use Rattle.laws.proofs.Each.{push, some_every, written}
use Rattle.args.specs.Row.{Row}
use Rattle.args.proofs.ArgumentRows.{row_has, row_bytes, each_shaped}
use Rattle.shape.proofs.Downs.{none_of}
use Rattle.vector.specs.VectorParts.{flat, marked, pay_to}

-- ---- a part converts to the scalar of kind k where it is a literal that does

to_lit : (k j : Kind) (p : ℕ) → conv_val (Ts k) (Vs j p) ≡ map_some (Vs k) (conv k j p)
unfolding conv_val conv_leaf conv_lits leaf type_of map_some
to_lit k j p = go (converts (Ts j) (Ts k)) refl
  where
    go : (b : Bool) → converts (Ts j) (Ts k) ≡ b → cond b (map_some (Vs k) (conv k j p)) none ≡ map_some (Vs k) (conv k j p)
    go true e = refl
    go false e = rw (conv_no k j p (sym (converts_lit j k) ∙ e))

to_pay : (k : Kind) (v : Val) → conv_val (Ts k) v ≡ map_some (Vs k) (pay_to k v)
unfolding pay_to map_some lit_kind type_of
to_pay k (Vs j p) = to_lit k j p
to_pay k (Vv j ps) = conv_not (Ts k) (Vv j ps) (not_to_scalar (type_of (Vv j ps)) k refl)
to_pay k (Vm c r j ps) = conv_not (Ts k) (Vm c r j ps) (not_to_scalar (type_of (Vm c r j ps)) k refl)
to_pay k (Va l) = conv_not (Ts k) (Va l) (not_to_scalar (type_of (Va l)) k refl)
to_pay k (Vu i l) = conv_not (Ts k) (Vu i l) (not_to_scalar (type_of (Vu i l)) k refl)

pub to_pays : (k : Kind) (l : List Val) → all_some (conv_val (Ts k)) l ≡ map_some (map (Vs k)) (all_some (pay_to k) l)
unfolding all_some map_some
to_pays k [] = refl
to_pays k (v ∷ l) = ap₂ push (to_pay k v) (to_pays k l) ∙ go (pay_to k v) (all_some (pay_to k) l)
  where
    go : (x : Option ℕ) (y : Option (List ℕ)) → push (map_some (Vs k) x) (map_some (map (Vs k)) y) ≡ map_some (map (Vs k)) (push x y)
    go none y = refl
    go (some p) none = refl
    go (some p) (some ps) = refl

pub pays_back : (k : Kind) (ps : List ℕ) → all_some payload (map (Vs k) ps) ≡ some ps
unfolding all_some payload
pays_back k [] = refl
pays_back k (p ∷ ps) = rw (pays_back k ps)

-- "count (8), then conversion (9)", by the payloads
pub vec_pays : (n : ℕ) (k : Kind) (l : List Val) → vec_parts n k l ≡
    (need_count (eqb (length l) n) n (length l) >> (or_no 9 (all_some (pay_to k) l) >>= λ ps. ok (Vv k ps)))
unfolding vec_parts map_some
vec_pays n k l = rw (to_pays k l) (ap (λ (x : Result Val). need_count (eqb (length l) n) n (length l) >> x) (go (all_some (pay_to k) l)))
  where
    go : (o : Option (List ℕ)) → ◌≡◌ {A = Result Val} (or_no 9 (map_some (map (Vs k)) o) >>= λ ws. or_no 9 (all_some payload ws) >>= λ ps. ok
        (Vv k ps)) (or_no 9 o >>= λ ps. ok (Vv k ps))
    go none = refl
    go (some ps) = rw (pays_back k ps)

-- ---- all of them, and each

lits_every : (k j : Kind) (ps : List ℕ) → every (λ v. some? (pay_to k v)) (map (Vs j) ps) ≡ every (λ p. some? (conv k j p)) ps
unfolding every pay_to
lits_every k j [] = refl
lits_every k j (p ∷ ps) = ap (λ (b : Bool). some? (conv k j p) && b) (lits_every k j ps)

-- a literal or a vector converts to the kind k where its parts do
part_every : (k : Kind) (v : Val) → T (flat v) → some? (conv_lits k v) ≡ every (λ w. some? (pay_to k w)) (parts v)
unfolding conv_lits parts flat every pay_to
part_every k (Vs j p) h = some_map (Vs k) (conv k j p) ∙ sym (and_true (some? (conv k j p)))
part_every k (Vv j ps) h = some_map (Vv k) (all_some (conv k j) ps) ∙ (some_every (conv k j) ps ∙ sym (lits_every k j ps))
part_every k (Vm c r j ps) h = absurd h
part_every k (Va l) h = absurd h
part_every k (Vu i l) h = absurd h

flat_every : (k : Kind) (l : List Val) → T (every flat l) → every (λ v. some? (conv_lits k v)) l ≡ every (λ w. some? (pay_to k w))
    (flattened l)
unfolding every flattened
flat_every k [] h = refl
flat_every k (v ∷ l) h =
    ap₂ ◌&&◌ (part_every k v (and_l (flat v) (every flat l) h)) (flat_every k l (and_r (flat v) (every flat l) h))
    ∙ sym (every_append (λ w. some? (pay_to k w)) (parts v) (flattened l))

-- so the scan of all arguments decides it
pub flat_some : (k : Kind) (l : List Val) → T (every flat l) → some? (all_some (conv_lits k) l) ≡ some? (all_some (pay_to k) (flattened l))
flat_some k l h = some_every (conv_lits k) l ∙ (flat_every k l h ∙ sym (some_every (pay_to k) (flattened l)))

-- anything that is neither never converts
part_not : (k : Kind) (v : Val) → flat v ≡ false → every (λ w. some? (pay_to k w)) (parts v) ≡ false
unfolding parts flat every pay_to some?
part_not k (Vs j p) h = true_false h
part_not k (Vv j ps) h = true_false h
part_not k (Vm c r j ps) h = refl
part_not k (Va l) h = refl
part_not k (Vu i l) h = refl

flat_not : (k : Kind) (l : List Val) → every flat l ≡ false → every (λ w. some? (pay_to k w)) (flattened l) ≡ false
unfolding every flattened
flat_not k [] h = true_false h
flat_not k (v ∷ l) h = every_append (λ w. some? (pay_to k w)) (parts v) (flattened l) ∙ go (flat v) refl h (flat_not k l)
  where
    go : (b : Bool) → flat v ≡ b → b && every flat l ≡ false → (every flat l ≡ false → every (λ w. some? (pay_to k w)) (flattened l) ≡ false)
        → every (λ w. some? (pay_to k w)) (parts v) && every (λ w. some? (pay_to k w)) (flattened l) ≡ false
    go true e f q = ap (λ (x : Bool). every (λ w. some? (pay_to k w)) (parts v) && x) (q f)
        ∙ and_false (every (λ w. some? (pay_to k w)) (parts v))
    go false e f q = ap (λ (x : Bool). x && every (λ w. some? (pay_to k w)) (flattened l)) (part_not k v e)

pub other_none : (k : Kind) (l : List Val) → every flat l ≡ false → all_some (pay_to k) (flattened l) ≡ none
other_none k l h = none_of (all_some (pay_to k) (flattened l)) (sym (some_every (pay_to k) (flattened l) ∙ flat_not k l h))

-- ---- what is scanned

flat_plain : (v : Val) → T (flat v) → T (plain v)
unfolding flat plain
flat_plain (Vs k p) h = tt
flat_plain (Vv k ps) h = tt
flat_plain (Vm c r k ps) h = absurd h
flat_plain (Va l) h = absurd h
flat_plain (Vu i l) h = absurd h

flat_plains : (l : List Val) → T (every flat l) → T (plains (vals_of l))
unfolding every plains vals_of
flat_plains [] h = tt
flat_plains (v ∷ l) h = both (plain v) (plains (vals_of l)) (flat_plain v (and_l (flat v) (every flat l) h))
    (flat_plains l (and_r (flat v) (every flat l) h))

pub row_scan : {s : List ℕ} {i : ℕ} {l : List Val} (k : Kind) → Row s i l → T (every flat l)
    → Scan k s i (length s) (map_some (joined val_bytes) (all_some (conv_lits k) l))
row_scan {l = l} k x h = list_scan k l (row_bytes x) (each_shaped l x.each) (flat_plains l h)

pays_lits : (k j : Kind) (ps : List ℕ) → all_some (conv k j) ps ≡ all_some (pay_to k) (map (Vs j) ps)
unfolding all_some pay_to
pays_lits k j [] = refl
pays_lits k j (p ∷ ps) = ap (push (conv k j p)) (pays_lits k j ps)

-- the literals of one argument, from the first of them on
literals_scan : {s : List ℕ} {i e : ℕ} (k : Kind) (v : Val) → HasVal s i e v → T (flat v)
    → Scan k s (i + marked v) e (written (pay_to k) (lit_bytes k) (parts v))
unfolding flat marked parts written val_bytes vec_bytes shaped_val joined every
literals_scan {s} {i} {e} k (Vs j p) x h =
    let b = x.bytes in
    let w : BytesAt s (i + 0) e (lit_bytes j p ++ []) = rw (append-nil (lit_bytes j p), add-zero i) b in
    subst (λ (o : Option (List ℕ)). Scan k s (i + 0) e (map_some (joined (lit_bytes k)) o)) (pays_lits k j (p ∷ []))
    (lits_scan k j (p ∷ []) w (both (good_lit j p) true x.shaped tt))
literals_scan {s} {i} {e} k (Vv j ps) x h =
    let b = x.bytes in
    let w : BytesAt s (i + 3) e (joined (lit_bytes j) ps) = record {
      here = past s (86 ∷ 118 ∷ length ps ∷ [])
          (joined (lit_bytes j) ps ++ drop e s) i b.here;
      size = omega (arith, b.size);
      within = b.within;
    } in
    subst (λ (o : Option (List ℕ)). Scan k s (i + 3) e (map_some (joined (lit_bytes k)) o)) (pays_lits k j ps)
    (lits_scan k j ps w x.shaped)
literals_scan k (Vm c r j ps) x h = absurd h
literals_scan k (Va l) x h = absurd h
literals_scan k (Vu i l) x h = absurd h

pub arg_scan : {s : List ℕ} {i : ℕ} {v : Val} {l : List Val} (k : Kind) → Row s i (v ∷ l) → T (flat v)
    → Scan k s (i + marked v) (i + length (val_bytes v)) (written (pay_to k) (lit_bytes k) (parts v))
arg_scan {v = v} k x h = literals_scan k v (row_has x) h

-- ---- payloads stay in range

pub conv_in : (k j : Kind) (p : ℕ) {q : ℕ} → T (good_lit j p) → conv k j p ≡ some q → T (good_lit k q)
conv_in k j p {q} g e = go (some? (kind_rank j k)) refl
  where
    lit : (b : Bool) → LitO b k (conv k j p) → T (good_lit k q)
    lit true (x, f, h) = subst (λ (y : ℕ). T (good_lit k y)) (some_inj (sym f ∙ e)) h
    lit false f = absurd (let z : ◌≡◌ {A = ℕ} 0 1 = cc in omega arith)

    go : (b : Bool) → some? (kind_rank j k) ≡ b → T (good_lit k q)
    go true f = lit (fits_conv k j p) (conv_lit k j p (subst T (sym f) tt) g)
    go false f = let w = conv_no k j p f in absurd (let z : ◌≡◌ {A = ℕ} 0 1 = cc in omega arith)

pay_in : (k : Kind) (v : Val) {q : ℕ} → T (shaped_val v) → pay_to k v ≡ some q → T (good_lit k q)
unfolding pay_to shaped_val
pay_in k (Vs j p) g e = conv_in k j p g e
pay_in k (Vv j ps) g e = absurd (let z : ◌≡◌ {A = ℕ} 0 1 = cc in omega arith)
pay_in k (Vm c r j ps) g e = absurd (let z : ◌≡◌ {A = ℕ} 0 1 = cc in omega arith)
pay_in k (Va l) g e = absurd (let z : ◌≡◌ {A = ℕ} 0 1 = cc in omega arith)
pay_in k (Vu i l) g e = absurd (let z : ◌≡◌ {A = ℕ} 0 1 = cc in omega arith)

pub pays_in : (k : Kind) (l : List Val) (ps : List ℕ) → AllOk l → all_some (pay_to k) l ≡ some ps → T (every (good_lit k) ps)
unfolding all_some every
pays_in k [] ps g e = subst (λ (x : List ℕ). T (every (good_lit k) x)) (some_inj e) tt
pays_in k (v ∷ l) ps g e =
    on_some (pay_to k v) _ e λ b h e₁.
    on_some (all_some (pay_to k) l) _ e₁ λ bs h₁ e₂.
    subst (λ (x : List ℕ). T (every (good_lit k) x)) (some_inj e₂)
    (both (good_lit k b) (every (good_lit k) bs) (pay_in k v g.0 h) (pays_in k l bs g.2 h₁))
