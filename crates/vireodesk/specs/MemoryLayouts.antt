-- The answer of `vireo_layout_of` as plain numbers.
use Rattle.std.specs.Prelude.{ℕ}
use Rattle.meaning.specs.Answers.{Result, refusal_of}
use Rattle.error.specs.Numbers.{value_of}
use Rattle.vireodesk.specs.declared.MemoryLayout.{MemoryLayout}

-- the refusal's number or 0, and the size and the alignment, 0 where it is refused
abbrev pub layout_numbers : Result (ℕ × ℕ) → MemoryLayout
layout_numbers a = record { refusal = refusal_of a; size = value_of (λ x. x.0) a; align = value_of (λ x. x.1) a }
