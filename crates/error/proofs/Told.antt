-- The same answer by another name, and that a contract leaves nothing open.
use mathlib.Core.Path.{◌≡◌, sym, ◌∙◌, subst}
use mathlib.Core.List.{List}
use Prim.Native.Nat.{ℕ}
use Rattle.meaning.specs.Answers.{Answer}
use Rattle.error.specs.Told.{Written, Told}
use Rattle.error.proofs.Refusals.{same_paper}

pub told_as : {a b : Answer} {out out' : List ℕ} {r : Written} → a ≡ b → Told b out r out' → Told a out r out'
told_as {out = out} {out'} {r} e x = subst (λ (c : Answer). Told c out r out') (sym e) x

-- two calls of which it tells the same, on equal buffers, returned the same and left the same
pub told_once : {a : Answer} {out out₁ out₂ : List ℕ} {r q : Written} → Told a out r out₁ → Told a out q out₂ → (r ≡ q) × (out₁ ≡ out₂)
told_once {r = r} {q} x y = (same_paper q r (x.says ∙ sym y.says), x.leaves ∙ sym y.leaves)
