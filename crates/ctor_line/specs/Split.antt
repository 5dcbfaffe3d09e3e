-- The standard input of the program `ctor`, taken apart.
use Rattle.std.specs.Prelude.{List, cond, ℕ, ◌+◌, ◌*◌, ltb, length, get_or, take, drop}
use Rattle.meaning.specs.Answers.{Answer, no}
use Rattle.std.specs.declared.option.Option.{Option}
use Rattle.std.specs.declared.option.Option.TheVariants.{None, Some}

-- "a stage byte, a u16 target length, the target, then arguments (64 KiB in all); input that is longer, or ends before
-- the target does" is no call
unfoldable pub split_of : List ℕ → Option ℕ
split_of s =
    let n = get_or s 1 0 + 256 * get_or s 2 0 in
    cond (ltb (length s) (3 + n)) None (cond (ltb 65536 (length s)) None (Some n))

-- what the entry answers to the call, "its result buffer is 65,536 bytes"; no call "prints `no 1`, also where its stage is over 2"
unfoldable pub asked : (ℕ → List ℕ → List ℕ → ℕ → Answer) → Option ℕ → List ℕ → Answer
asked entry None s = no 1
asked entry (Some n) s = entry (get_or s 0 0) (take n (drop 3 s)) (drop n (drop 3 s)) 65536
