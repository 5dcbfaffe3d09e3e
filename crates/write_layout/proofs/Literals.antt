-- Literals in a row: the first of them, and the loop that writes their scalars.
use mathlib.Core.Path.{◌≡◌, refl, sym, ap, ◌∙◌, subst}
use mathlib.Core.List.{List, [], ◌∷◌, ◌++◌}
use Prim.Native.Nat.{ℕ, ◌+◌, ◌-◌, ◌≤◌, ◌<◌}
use native.Mathlib.Omega.{arith}
use native.Mathlib.Nat.{sub-zero}
use lib.ListN.{length, drop}
use Rattle.meaning.specs.Kinds.{Kind, kind_no, pay_width}
use Rattle.meaning.specs.Records.{le, joined, lit_bytes, every, good_lit}
use Rattle.meaning.specs.Layout.{scalar_size, mem_vec}
use Rattle.laws.proofs.Back.{and_l, and_r}
use Rattle.laws.proofs.BackVal.{lit_fits_lem}
use Rattle.laws.proofs.Length.{le_len}
use Rattle.record.specs.Bytes.{Put, Takes, number_at}
use Rattle.record.specs.Literals.{width_of}
use Rattle.record.proofs.Left.{Left, left_all, one_less, left_room, left_on, left_end}
use Rattle.record.proofs.Literals.{width_of_lem}
use Rattle.record.proofs.Numbers.{number_of}
use Rattle.record.proofs.Places.{past}
use Rattle.record.specs.Values.{BytesAt}
use Rattle.memory.specs.Sizes.{size_no}
use Rattle.memory.proofs.Sizes.{size_of_lem}
use Rattle.write_layout.specs.Memory.{Literals}
use Rattle.write_layout.proofs.Parts.{bytes_rest, bytes_first, bytes_none}

-- the first payload, and the literals behind it
pub record FirstLiteral (s : List ℕ) (at n k e : ℕ) (j : Kind) (ps : List ℕ) : Type 0 where
  pub payload : ℕ
  pub others : List ℕ
  pub is : ps ≡ payload ∷ others
  pub num : number_at s (at + 3) (width_of k) ≡ payload
  pub within : at + (3 + width_of k) ≤ length s
  pub next : Literals s (at + (3 + width_of k)) (n - 1) k e j others

module _ {s : List ℕ} {at n k e : ℕ} {j : Kind} where
  pub first_literal : {ps : List ℕ} → Literals s at n k e j ps → 0 < n → FirstLiteral s at n k e j ps
  unfolding joined every lit_bytes
  first_literal {ps = []} x h = absurd (omega (arith, x.count))
  first_literal {ps = p ∷ ps} x h =
      let w : pay_width j ≡ width_of k = sym (ap width_of x.no ∙ width_of_lem j) in
      let a = bytes_first (lit_bytes j p) (joined (lit_bytes j) ps) x.bytes in
      let l : at + length (lit_bytes j p) ≡ at + (3 + width_of k) = omega (arith, le_len (pay_width j) p) in
      let rest = drop (at + length (lit_bytes j p)) s in
      let m : number_at s (at + 3) (pay_width j) ≡ p =
      number_of s rest (at + 3) (pay_width j) p (past s (86 ∷ 115 ∷ kind_no j ∷ []) (le (pay_width j) p ++ rest) at a.here)
      (lit_fits_lem j p (and_l (good_lit j p) (every (good_lit j) ps) x.good)) in
      record {
        payload = p;
        others = ps;
        is = refl;
        num = rw w at m;
        within = omega (arith, a.within);
        next = record {
          no = x.no;
          bytes = subst (λ (i : ℕ). BytesAt s i e (joined (lit_bytes j) ps)) l
              (bytes_rest (lit_bytes j p) (joined (lit_bytes j) ps) x.bytes);
          good = and_r (good_lit j p) (every (good_lit j) ps) x.good;
          count = omega (arith, x.count);
        };
      }

  pub no_literal : {ps : List ℕ} → Literals s at n k e j ps → n ≡ 0 → (ps ≡ []) × (at ≡ e)
  unfolding joined
  no_literal {ps = []} x h = (refl, bytes_none x.bytes)
  no_literal {ps = p ∷ ps} x h = absurd (omega (arith, x.count))

-- ---- the loop: of n literals, `done` are written

pub record LiteralsLeft (s : List ℕ) (n k e : ℕ) (j : Kind) (ps₀ out₀ : List ℕ) (to i p done : ℕ) (out : List ℕ) : Type 0 where
  pub payloads : List ℕ
  pub has : Literals s i (n - done) k e j payloads
  pub rest : Left out₀ to (mem_vec j ps₀) out p (mem_vec j payloads)

pub literals_all : {s : List ℕ} {at n k e : ℕ} {j : Kind} {ps : List ℕ} (out : List ℕ) (to : ℕ) → Literals s at n k e j ps
    → LiteralsLeft s n k e j ps out to at to 0 out
literals_all {n = n} {j = j} {ps = ps} out to x = record { payloads = ps; has = rw (sub-zero n) x; rest = left_all out to (mem_vec j ps) }

module _ {s : List ℕ} {n k e : ℕ} {j : Kind} {ps₀ out₀ : List ℕ} {to i p done : ℕ} {out : List ℕ}
    (g : LiteralsLeft s n k e j ps₀ out₀ to i p done out) where
  module _ (h : done < n) {w size : ℕ} (wide : w ≡ width_of k) (sized : size ≡ size_no k) where
    here : FirstLiteral s i (n - done) k e j g.payloads
    here = first_literal g.has (omega arith)

    mem : mem_vec j g.payloads ≡ le size here.payload ++ mem_vec j here.others
    unfolding mem_vec joined
    mem =
        let z : size ≡ scalar_size j = sized ∙ (ap size_no g.has.no ∙ size_of_lem j) in
        ap (mem_vec j) here.is ∙ ap (λ (n : ℕ). le n here.payload ++ mem_vec j here.others) (sym z)

    pub literal_here : i + (3 + w) ≤ length s
    literal_here = omega (arith, here.within, wide)

    pub literal_room : Takes out₀ to (mem_vec j ps₀) → p + size ≤ length out
    literal_room l = omega (
      arith,
      left_room g.rest (le size here.payload) (mem_vec j here.others) mem l,
      le_len size
          here.payload,
    )

    pub literal_on : {x q : ℕ} {out' : List ℕ} → x ≡ number_at s (i + 3) w → Put out p (le size x) q out'
        → LiteralsLeft s n k e j ps₀ out₀ to (i + (3 + w)) q (done + 1) out'
    literal_on {x = x} a y =
        let m : x ≡ here.payload = a ∙ (ap (number_at s (i + 3)) wide ∙ here.num) in
        record {
          payloads = here.others;
          has = subst (λ (m : ℕ). Literals s (i + (3 + m)) (n - (done + 1)) k e j here.others) (sym wide) (rw (← one_less n done) here.next);
          rest = left_on g.rest _ _ mem (rw m at y);
        }

  pub literals_end : done ≡ n → (i ≡ e) × Put out₀ to (mem_vec j ps₀) p out
  unfolding mem_vec joined
  literals_end h = let x = no_literal g.has (omega arith) in (x.1, left_end g.rest (rw x.0))
