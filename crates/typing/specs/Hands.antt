-- The record of an accepted type, handed over.
use Rattle.std.specs.Prelude.{◌≡◌, List, ℕ, length}
use Rattle.meaning.specs.Kinds.{Kind, kind_no}
use Rattle.meaning.specs.Trees.{Ty, Tv, Tm, Ta}
use Rattle.meaning.specs.Answers.{Result, ◌>>=◌}
use Rattle.meaning.specs.Entries.{hand_ty}
use Rattle.ty.specs.Stands.{Whole}
use Rattle.error.specs.Told.{Told}
use Rattle.error.specs.Told.{Written}

-- a type that is named is handed over, and a refusal stays
abbrev pub Types : Result Ty → List ℕ → Written → List ℕ → Type 0
Types x out r out' = Told (x >>= hand_ty (length out)) out r out'

abbrev pub HandsVector : ℕ → ℕ → List ℕ → Written → List ℕ → Type 0
HandsVector n k out r out' = (j : Kind) → k ≡ kind_no j → Told (hand_ty (length out) (Tv n j)) out r out'

abbrev pub HandsMatrix : ℕ → ℕ → ℕ → List ℕ → Written → List ℕ → Type 0
HandsMatrix c r k out x out' = (j : Kind) → k ≡ kind_no j → Told (hand_ty (length out) (Tm c r j)) out x out'

abbrev pub HandsArray : ℕ → List ℕ → List ℕ → Written → List ℕ → Type 0
HandsArray n ty out r out' = (t : Ty) → Whole ty t → Told (hand_ty (length out) (Ta n t)) out r out'
