-- The one argument, handed over as it stands.
use mathlib.Core.Path.{◌≡◌, sym, ap, ◌∙◌}
use mathlib.Core.List.{List, [], ◌∷◌, append-nil}
use Prim.Native.Nat.{ℕ}
use lib.ListN.{length}
use Rattle.meaning.specs.Trees.{Val, type_of, val_len}
use Rattle.meaning.specs.Records.{val_bytes, joined}
use Rattle.meaning.specs.Answers.{Result, ok}
use Rattle.meaning.specs.Entries.{hand_val}
use Rattle.laws.proofs.Length.{val_len_lem}
use Rattle.error.specs.Told.{Told, Builds}
use Rattle.error.proofs.Told.{told_as}
use Rattle.args.specs.Row.{Row}
use Rattle.error.specs.Hand.{handed}
use Rattle.error.proofs.BufferAtExit.{builds_as}
use Rattle.args.proofs.ArgumentRows.{row_shaped}
use Rattle.error.specs.Told.{Written}

module _ {s : List ℕ} {v : Val} (x : Row s 0 (v ∷ [])) where
  pub one_bytes : s ≡ val_bytes v
  unfolding joined
  one_bytes = x.here ∙ append-nil (val_bytes v)

  size : val_len (type_of v) ≡ length s
  size = sym (ap length one_bytes ∙ val_len_lem v (row_shaped x))

  as_handed : (room : ℕ) → hand_val room v ≡ handed room s
  unfolding hand_val handed
  as_handed room = rw (size, ← one_bytes)

  pub hand_kept : {y : Result Val} → y ≡ ok v → {out out' : List ℕ} {r : Written} → Told (handed (length out) s) out r out'
      → Builds y out r out'
  hand_kept e {out} t = builds_as out e (told_as (as_handed (length out)) t)
