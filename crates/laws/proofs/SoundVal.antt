-- What a parser accepts, of a list of bytes, is the writing of what it read, and then what is left: values.
use mathlib.Core.Path.{◌≡◌, refl, ap, ap₂, ◌∙◌, subst}
use mathlib.Core.Option.{some}
use mathlib.Core.List.{List, [], ◌∷◌, ◌++◌, map}
use Prim.Native.Nat.{ℕ, zero, suc}
use native.Mathlib.Omega.{arith}
use lib.Dec.{T, eqb, eqb→eq}
use lib.ListN.{length, take, drop, length-map}
use Rattle.meaning.specs.Kinds.{Kind, pay_width, same_kind}
use Rattle.meaning.specs.Trees.{Val, vals_of, count_vals}
use Rattle.meaning.specs.Records.{‘V’, ‘s’, ‘v’, ‘m’, ‘a’, ‘u’, le, lit_bytes, joined, vec_bytes, columns, every, val_bytes, vals_bytes}
use Rattle.meaning.specs.Read.{Parser, marked, p_payload, p_lit, one_kind, flat, p_vs, p_vv, p_rows, p_vm, p_va, p_vu, p_val}
use Rattle.laws.proofs.AgreeLit.{same_kind_lem}
use Rattle.laws.proofs.Back.{and_l, and_r}
use Rattle.laws.proofs.BackVal.{pairs}
use Rattle.laws.proofs.Sound.{Reads, Any, All, some_inj, no_some, on_read, on_test, on_if, gave, lift_sound, byte_sound}
use Rattle.laws.proofs.Sound.{number_sound, u16_sound, kind_sound, marked_sound, many_sound}

-- ---- literals and vectors

-- the writing of a literal, and of a vector's literals, whatever their kinds
lit_of_lem : Kind × ℕ → List ℕ
lit_of_lem l = lit_bytes l.0 l.1

vec_of_lem : List (Kind × ℕ) → List ℕ
vec_of_lem l = ‘V’ ∷ ‘v’ ∷ length l ∷ joined lit_of_lem l

payload_sound : Reads (‘V’ ∷ ‘s’ ∷ []) p_payload lit_of_lem Any
unfolding p_payload lit_of_lem lit_bytes
payload_sound s x b e =
    on_read kind_sound s _ b e λ k t i _ b₁ e₁.
    on_read (number_sound (pay_width k)) t _ b₁ e₁ λ n u j _ b₂ e₂.
    gave e₂ record { is = cc; so = tt; rest = b₂ }

lit_sound : Reads [] p_lit lit_of_lem Any
unfolding p_lit
lit_sound = marked_sound lit_of_lem Any ‘V’ ((‘s’, p_payload) ∷ []) (payload_sound, tt)

vs_sound : Reads (‘V’ ∷ ‘s’ ∷ []) p_vs val_bytes Any
unfolding p_vs val_bytes lit_of_lem
vs_sound s x b e =
    on_read payload_sound s _ b e λ l t i _ b₁ e₁.
    gave e₁ record { is = i; so = tt; rest = b₁ }

same_kinds : (k : Kind) (l : List (Kind × ℕ)) → T (every (λ b. same_kind b.0 k) l) → l ≡ pairs k (map (λ b. b.1) l)
unfolding every pairs
same_kinds k [] h = refl
same_kinds k (a ∷ l) h =
    let e : a.0 ≡ k = same_kind_lem a.0 k (and_l (same_kind a.0 k) (every (λ b. same_kind b.0 k) l) h) in
    ap₂ ◌∷◌ (ap (λ (j : Kind). (j, a.1)) e) (same_kinds k l (and_r (same_kind a.0 k) (every (λ b. same_kind b.0 k) l) h))

one_kind_is : (l : List (Kind × ℕ)) (y : Kind × List ℕ) → one_kind l ≡ some y → l ≡ pairs y.0 y.1
unfolding one_kind pairs
one_kind_is [] y e = no_some e
one_kind_is (a ∷ l) y e =
    on_if (every (λ b. same_kind b.0 a.0) l) _ e λ h e₁.
    subst (λ (z : Kind × List ℕ). a ∷ l ≡ pairs z.0 z.1) (some_inj e₁) (ap (a ∷◌) (same_kinds a.0 l h))

lits_of : (k : Kind) (ps : List ℕ) → joined lit_of_lem (pairs k ps) ≡ joined (lit_bytes k) ps
unfolding joined lit_of_lem pairs
lits_of k [] = refl
lits_of k (p ∷ ps) = ap (λ (m : List ℕ). lit_bytes k p ++ m) (lits_of k ps)

vec_of : (k : Kind) (ps : List ℕ) → vec_of_lem (pairs k ps) ≡ vec_bytes k ps
unfolding vec_of_lem vec_bytes pairs
vec_of k ps = ap₂ (λ (n : ℕ) (m : List ℕ). ‘V’ ∷ ‘v’ ∷ n ∷ m) (length-map ps (λ p. (k, p))) (lits_of k ps)

-- the literals of a vector, all of one kind
vec_is : (l : List (Kind × ℕ)) (y : Kind × List ℕ) → one_kind l ≡ some y → vec_of_lem l ≡ vec_bytes y.0 y.1
vec_is l y o = ap vec_of_lem (one_kind_is l y o) ∙ vec_of y.0 y.1

vv_sound : Reads (‘V’ ∷ ‘v’ ∷ []) p_vv val_bytes Any
unfolding p_vv val_bytes vec_of_lem
vv_sound s x b e =
    on_read byte_sound s _ b e λ n t i _ b₁ e₁.
    on_read (many_sound lit_of_lem Any p_lit lit_sound n) t _ b₁ e₁ λ l u j z b₂ e₂.
    on_read (lift_sound (one_kind l)) u _ b₂ e₂ λ y v m o b₃ e₃.
    gave e₃ record { is = rw (← (vec_is l y o), z.0) (cc); so = tt; rest = b₃ }

-- ---- matrices

rows_sound : (r : ℕ) → Reads (‘V’ ∷ ‘v’ ∷ []) (p_rows r) vec_of_lem (λ l. length l ≡ r)
unfolding p_rows vec_of_lem
rows_sound r s x b e =
    on_read byte_sound s _ b e λ n t i _ b₁ e₁.
    on_read (many_sound lit_of_lem Any p_lit lit_sound n) t _ b₁ e₁ λ l u j z b₂ e₂.
    on_test (eqb n r) _ _ u e₂
    (λ y e₃. gave e₃ record { is = rw z.0 (cc); so = z.0 ∙ eqb→eq n r y; rest = b₂ })
    no_some

-- literals of one kind, in two parts
split_pairs : (k : Kind) (a l : List (Kind × ℕ)) (ps : List ℕ) → a ++ l ≡ pairs k ps → (a ≡ pairs k (take (length a) ps))
    × (l ≡ pairs k (drop (length a) ps))
unfolding pairs
split_pairs k [] l ps e = (refl, e)
split_pairs k (q ∷ a) l [] e = absurd (let z : ◌≡◌ {A = ℕ} 0 1 = cc in omega arith)
split_pairs k (q ∷ a) l (p ∷ ps) e =
    let t : a ++ l ≡ map (λ p. (k, p)) ps = cc in
    let h : q ≡ (k, p) = cc in
    let r = split_pairs k a l ps t in
    (ap₂ ◌∷◌ h r.0, r.1)

columns_are : (k : Kind) (r : ℕ) (l : List (List (Kind × ℕ))) (ps : List ℕ) → All (λ a. length a ≡ r) l → flat l ≡ pairs k ps
    → joined vec_of_lem l ≡ joined (vec_bytes k) (columns (length l) r ps)
unfolding joined columns flat
columns_are k r [] ps h e = refl
columns_are k r (a ∷ l) ps h e =
    let d : (a ≡ pairs k (take r ps)) × (flat l ≡ pairs k (drop r ps)) = rw h.0 at (split_pairs k a (flat l) ps e) in
    ap₂ ◌++◌ (ap vec_of_lem d.0 ∙ vec_of k (take r ps)) (columns_are k r l (drop r ps) h.1 d.1)

vm_sound : Reads (‘V’ ∷ ‘m’ ∷ []) p_vm val_bytes Any
unfolding p_vm val_bytes
vm_sound s x b e =
    on_read byte_sound s _ b e λ c t i _ b₁ e₁.
    on_read byte_sound t _ b₁ e₁ λ r u j _ b₂ e₂.
    on_read (many_sound vec_of_lem (λ l. length l ≡ r) (marked ‘V’ ((‘v’, p_rows r) ∷ []))
    (marked_sound vec_of_lem (λ l. length l ≡ r) ‘V’ ((‘v’, p_rows r) ∷ []) (rows_sound r, tt)) c) u _ b₂ e₂ λ l v m z b₃ e₃.
    on_read (lift_sound (one_kind (flat l))) v _ b₃ e₃ λ y w q o b₄ e₄.
    let f : joined vec_of_lem l ≡ joined (vec_bytes y.0) (columns c r y.1) =
    rw z.0 at (columns_are y.0 r l y.1 z.1 (one_kind_is (flat l) y o)) in
    gave e₄ record { is = cc; so = tt; rest = b₄ }

-- ---- values

pub joined_vals : (l : List Val) → (vals_bytes (vals_of l) ≡ joined val_bytes l) × (count_vals (vals_of l) ≡ length l)
unfolding vals_bytes vals_of joined count_vals
joined_vals [] = (refl, refl)
joined_vals (v ∷ l) = let r = joined_vals l in (ap (λ (m : List ℕ). val_bytes v ++ m) r.0, ap suc r.1)

module _ {p : Parser Val} (r : Reads [] p val_bytes Any) where
  va_sound : Reads (‘V’ ∷ ‘a’ ∷ []) (p_va p) val_bytes Any
  unfolding p_va val_bytes le
  va_sound s x b e =
      on_read u16_sound s _ b e λ n t i _ b₁ e₁.
      on_read (many_sound val_bytes Any p r n) t _ b₁ e₁ λ l u j z b₂ e₂.
      let y = joined_vals l in
      gave e₂ record { is = rw (y.0, y.1, z.0) (cc); so = tt; rest = b₂ }

  vu_sound : Reads (‘V’ ∷ ‘u’ ∷ []) (p_vu p) val_bytes Any
  unfolding p_vu val_bytes le
  vu_sound s x b e =
      on_read u16_sound s _ b e λ i t j _ b₁ e₁.
      on_read u16_sound t _ b₁ e₁ λ n u k _ b₂ e₂.
      on_read (many_sound val_bytes Any p r n) u _ b₂ e₂ λ l v m z b₃ e₃.
      let y = joined_vals l in
      gave e₃ record { is = rw (y.0, y.1, z.0) (cc); so = tt; rest = b₃ }

pub val_sound : (d : ℕ) → Reads [] (p_val d) val_bytes Any
unfolding p_val
val_sound zero = λ s x b e. no_some e
val_sound (suc d) =
    marked_sound val_bytes Any ‘V’ ((‘s’, p_vs) ∷ (‘v’, p_vv) ∷ (‘m’, p_vm) ∷ (‘a’, p_va (p_val d)) ∷ (‘u’, p_vu (p_val d)) ∷ [])
    (vs_sound, (vv_sound, (vm_sound, (va_sound (val_sound d), (vu_sound (val_sound d), tt)))))
