-- A refusal leaves the buffer; a record that was stored at the front of it is what `laid` says.
use mathlib.Core.Path.{◌≡◌, refl, ap, ◌∙◌}
use mathlib.Core.List.{List}
use Prim.Native.Nat.{ℕ, ◌+◌, ◌≤◌, ◌<◌}
use native.Mathlib.Omega.{arith}
use borrow.Author.Tests.{le-leb, lt-leb}
use lib.Dec.{T}
use lib.ListN.{length}
use lib.Seq.{sets-eq}
use Rattle.meaning.specs.Trees.{Val, type_of, val_len}
use Rattle.meaning.specs.Records.{val_bytes, shaped_val}
use Rattle.meaning.specs.Answers.{Result, ok, Answer, ◌>>=◌}
use Rattle.meaning.specs.Entries.{laid, hand_val}
use Rattle.laws.proofs.Length.{val_len_lem}
use Rattle.record.specs.Bytes.{Put}
use Rattle.error.specs.Refusals.{refusal, paper}
use Rattle.error.specs.Told.{by_length, Told, Builds}
use Rattle.error.proofs.Told.{told_as}
use Rattle.error.specs.Told.{Written}
use Rattle.error.specs.declared.Refusal.{Refusal}
use Rattle.error.specs.declared.Refusal.TheVariants.{NoRoom}
use Rattle.error.proofs.Refusals.{told, no_more}
use Rattle.error.proofs.Refusals as refusals
use Rattle.std.specs.declared.result.Result.TheVariants.{Ok, Err}

-- a refusal's answer has its number and values, and leaves the buffer
refusal_told : (x : Refusal) (out : List ℕ) → Told (refusal x) out (Err x) out
unfolding paper by_length laid
refusal_told x out = go x (told x)
  where
    go : (y : Refusal) → refusals.Told y → Told (refusal y) out (Err y) out
    go y (refusals.plain e) = record { says = rw (e ℕ, e (List ℕ)) refl; leaves = rw (e (List ℕ)) refl }
    go _ (refusals.counted w g) = record { says = refl; leaves = refl }

pub refused : (x : Refusal) {a : Answer} (out : List ℕ) → a ≡ refusal x → Told a out (Err x) out
refused x out e = told_as e (refusal_told x out)

pub written : {a : Answer} (s : List ℕ) {out out' : List ℕ} {r : ℕ} → a ≡ ok s → length s ≤ length out → Put out 0 s r out'
    → Told a out (Ok r) out'
unfolding paper by_length laid
written s {out} {r = r} e h x =
    let z : 0 + length s ≡ length s = omega arith in
    let i : r ≡ length s = omega (arith, x.end) in
    told_as e record { says = ap ok i; leaves = x.left ∙ (rw z at (sets-eq s out 0 (omega arith))) }

-- ---- a value that was built, or the refusal

module _ {x : Result Val} (out : List ℕ) where
  pub builds_as : {y : Result Val} {r : Written} {out' : List ℕ} → x ≡ y → Builds y out r out' → Builds x out r out'
  builds_as {y} e b = told_as (ap (λ (z : Result Val). z >>= hand_val (length out)) e) b

  pub builds_no : (y : Refusal) → x ≡ refusal y → Builds x out (Err y) out
  builds_no y e = refused y out (ap (λ (z : Result Val). z >>= hand_val (length out)) e ∙ no_more (hand_val (length out)) y)

  -- "22 the accepted record is longer than the lent buffer"
  pub builds_long : (v : Val) → x ≡ ok v → length out < val_len (type_of v) → Builds x out (Err NoRoom) out
  unfolding hand_val
  builds_long v e h = builds_as e (refused NoRoom out (rw (lt-leb (val_len (type_of v)) (length out) h)))

  pub builds_record : (v : Val) {r : ℕ} {out' : List ℕ} → x ≡ ok v → T (shaped_val v) → val_len (type_of v) ≤ length out
      → Put out 0 (val_bytes v) r out' → Builds x out (Ok r) out'
  unfolding hand_val
  builds_record v e g h p =
      builds_as e (written (val_bytes v) (rw (le-leb (val_len (type_of v)) (length out) h)) (omega (arith, val_len_lem v g)) p)
