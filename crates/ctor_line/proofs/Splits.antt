-- The input is taken apart as the definition of the program's line has it.
use mathlib.Core.Path.{◌≡◌, refl}
use mathlib.Core.List.{List}
use mathlib.Core.Bool.{Bool, true, false, cond}
use Prim.Native.Nat.{ℕ, ◌+◌, ◌-◌, ◌*◌, ◌≤◌, ◌<◌}
use native.Mathlib.Omega.{arith}
use borrow.Author.Tests.{lt-ltb, le-ltb, ltb-false}
use lib.Dec.{ltb}
use lib.ListN.{length, get_or, take, drop, length-drop}
use lib.Seq.{drop-drop, take_all}
use Rattle.meaning.specs.Answers.{Answer, no}
use Rattle.meaning.specs.Entries.{build_answer, line, run_ctor}
use Rattle.ctor_line.specs.Split.{split_of, asked}
use Rattle.std.specs.declared.option.Option.TheVariants.{None, Some}

pub run_split : (s : List ℕ) → run_ctor s ≡ line (asked build_answer (split_of s) s)
unfolding run_ctor split_of asked
run_split s = go (ltb (length s) (3 + n)) (ltb 65536 (length s))
  where
    n : ℕ
    n = get_or s 1 0 + 256 * get_or s 2 0

    go : (b d : Bool) → line (cond b (no 1) (cond d (no 1) (build_answer (get_or s 0 0) (take n (drop 3 s)) (drop n (drop 3 s)) 65536))) ≡
        line (asked build_answer (cond b None (cond d None (Some n))) s)
    go true d = refl
    go false true = refl
    go false false = refl

module _ (s : List ℕ) where
  pub split_short : length s < 3 + (get_or s 1 0 + 256 * get_or s 2 0) → None ≡ split_of s
  unfolding split_of
  split_short h = rw (lt-ltb (length s) (3 + (get_or s 1 0 + 256 * get_or s 2 0)) h)

  pub split_long : 65536 < length s → None ≡ split_of s
  unfolding split_of
  split_long h = go (ltb (length s) (3 + (get_or s 1 0 + 256 * get_or s 2 0)))
    where
      go : (b : Bool) → None ≡ cond b None (cond (ltb 65536 (length s)) None (Some (get_or s 1 0 + 256 * get_or s 2 0)))
      go true = refl
      go false = rw (lt-ltb 65536 (length s) h)

  pub split_call : 3 + (get_or s 1 0 + 256 * get_or s 2 0) ≤ length s → length s ≤ 65536 → Some (get_or s 1 0 + 256 * get_or s 2 0) ≡ split_of s
  unfolding split_of
  split_call h l = rw (le-ltb (length s) (3 + (get_or s 1 0 + 256 * get_or s 2 0)) h, le-ltb 65536 (length s) l)

  -- the target that a call has ends within the input
  pub call_within : (n : ℕ) → split_of s ≡ Some n → 3 + n ≤ length s
  unfolding split_of
  call_within n e = go (ltb (length s) (3 + (get_or s 1 0 + 256 * get_or s 2 0))) (ltb 65536 (length s))
      (ltb-false (length s) (3 + (get_or s 1 0 + 256 * get_or s 2 0))) e
    where
      go : (b d : Bool) → (b ≡ false → 3 + (get_or s 1 0 + 256 * get_or s 2 0) ≤ length s)
          → cond b None (cond d None (Some (get_or s 1 0 + 256 * get_or s 2 0))) ≡ Some n → 3 + n ≤ length s
      go true d f q = absurd (let z : ◌≡◌ {A = ℕ} 0 1 = cc in omega arith)
      go false true f q = absurd (let z : ◌≡◌ {A = ℕ} 0 1 = cc in omega arith)
      go false false f q = let z : get_or s 1 0 + 256 * get_or s 2 0 ≡ n = cc in omega (arith, f refl)

-- the parts as they are lent
pub asked_parts : (entry : ℕ → List ℕ → List ℕ → ℕ → Answer) (s : List ℕ) (n room : ℕ) → 3 + n ≤ length s → room ≡ 65536
    → asked entry (Some n) s ≡ entry (get_or s 0 0) (take (3 + n - 3) (drop 3 s)) (take (length s - (3 + n)) (drop (3 + n) s)) room
unfolding asked
asked_parts entry s n room h e =
    let k : 3 + n - 3 ≡ n = omega arith in
    rw (e, k, drop-drop n 3 s, take_all (length s - (3 + n)) (drop (3 + n) s) (simp length-drop (omega arith)))
