-- One call of the reference's list against the definitions: the same answer, or for each departure that document 01 names, what it says instead.
use Rattle.std.proofs.Math.Option.{Option, none, some}
use Rattle.std.specs.Prelude.{List, [], ◌∷◌, map, Bool, true, false, ◌&&◌, cond, ℕ, zero, suc, ◌/◌, ◌%◌, eqb}
use Rattle.meaning.specs.Kinds.{Kind, f32, f16, same_kind}
use Rattle.meaning.specs.Floats.{Num, nan, inf, fin}
use Rattle.meaning.specs.Scalars.{number, conv_bits}
use Rattle.meaning.specs.Trees.{Val, Vs, Vv, Vm, Va, Vu, Vals, ⟨⟩, ◌▹◌}
use Rattle.meaning.specs.Answers.{Result, ok, no, miscount, Answer}
use Rattle.meaning.specs.Records.{val_bytes}
use Rattle.meaning.specs.Read.{whole, p_val}
use Rattle.meaning.specs.Entries.{build_answer, type_answer, convert_answer, rank_answer}

-- the w bytes of a number that is written in hex, two digits a byte
unfoldable pub bytes : ℕ → ℕ → List ℕ → List ℕ
bytes zero n s = s
bytes (suc w) n s = bytes w (n / 256) (n % 256 ∷ s)

unfoldable pub hex : ℕ → ℕ → List ℕ
hex w n = bytes w n []

unfoldable pub record? : ℕ → ℕ → Answer
record? w n = ok (hex w n)

-- ---- equal answers

unfoldable pub same_bytes : List ℕ → List ℕ → Bool
same_bytes [] [] = true
same_bytes [] (b ∷ t) = false
same_bytes (a ∷ s) [] = false
same_bytes (a ∷ s) (b ∷ t) = eqb a b && same_bytes s t

unfoldable pub same_result : {A : Type 0} → (A → A → Bool) → Result A → Result A → Bool
same_result f (ok a) (ok b) = f a b
same_result f (ok a) (no n) = false
same_result f (ok a) (miscount w g) = false
same_result f (no n) (ok b) = false
same_result f (no n) (no m) = eqb n m
same_result f (no n) (miscount w g) = false
same_result f (miscount w g) (ok b) = false
same_result f (miscount w g) (no m) = false
same_result f (miscount w g) (miscount v h) = eqb w v && eqb g h

-- ---- "runs compare NaN with NaN": every NaN of F32 and F16 as the one that a conversion makes

unfoldable pub as_made : Kind → Num → ℕ → ℕ
as_made k nan p = conv_bits k nan
as_made k (inf s) p = p
as_made k (fin s n) p = p

unfoldable pub one_nan : Kind → ℕ → ℕ
one_nan k p = cond (same_kind k f32) (as_made f32 (number f32 p) p) (cond (same_kind k f16) (as_made f16 (number f16 p) p) p)

unfoldable mutual
  pub one_nans : Val → Val
  one_nans (Vs k p) = Vs k (one_nan k p)
  one_nans (Vv k ps) = Vv k (map (one_nan k) ps)
  one_nans (Vm c r k ps) = Vm c r k (map (one_nan k) ps)
  one_nans (Va l) = Va (one_nans_in l)
  one_nans (Vu i l) = Vu i (one_nans_in l)

  pub one_nans_in : Vals → Vals
  one_nans_in ⟨⟩ = ⟨⟩
  one_nans_in (v ▹ m) = one_nans v ▹ one_nans_in m

unfoldable pub written_again : Option Val → List ℕ
written_again none = []
written_again (some v) = val_bytes (one_nans v)

unfoldable pub same_but_nan : List ℕ → List ℕ → Bool
same_but_nan s t = same_bytes (written_again (whole (p_val 16) s)) (written_again (whole (p_val 16) t))

-- ---- a line of the list: its entry, its bytes, and what document 01 expects by its class

-- the same answer; the same but for a NaN's bits; `Qm` with columns of another length, 14; a NaN that does not fit by conversion, a refusal
pub data Expected : Type 0 where
  same nan_bits : Answer → Expected
  rows nan_fits : Expected

unfoldable pub meets : Answer → Expected → Bool
meets a (same b) = same_result same_bytes a b
meets a (nan_bits b) = same_result same_but_nan a b
meets a rows = same_result same_bytes a (no 14)
meets (ok s) nan_fits = false
meets (no n) nan_fits = true
meets (miscount w g) nan_fits = true

pub data Call : Type 0 where
  builds : ℕ → List ℕ → List ℕ → Expected → Call
  types converts : List ℕ → List ℕ → Expected → Call
  ranks : List ℕ → List ℕ → Result ℕ → Call

unfoldable pub agrees : Call → Bool
agrees (builds s target args e) = meets (build_answer s target args 65536) e
agrees (types target args e) = meets (type_answer target args 65536) e
agrees (converts target args e) = meets (convert_answer target args 65536) e
agrees (ranks target args r) = same_result eqb (rank_answer target args) r

-- the numbers of the lines that do not agree, from n on
unfoldable pub wrong : ℕ → List Call → List ℕ
wrong n [] = []
wrong n (c ∷ l) = cond (agrees c) (wrong (suc n) l) (n ∷ wrong (suc n) l)
