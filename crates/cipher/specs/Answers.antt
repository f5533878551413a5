-- How one answer follows another, and what a space holds after it.
use Rattle.std.specs.Prelude.{ℕ, List, Ok, Err, Result}
use Rattle.refusal.specs.declared.Refusal.{Refusal}

-- a refusal is carried up unaltered
abbrev pub and_then : {A B : Type 0} → Result A Refusal → Result B Refusal → Result B Refusal
and_then (Ok a) rest = rest
and_then (Err refusal) rest = Err refusal

-- the bytes that replace a space as a whole, unless the answer is a refusal
abbrev pub replaced : {A : Type 0} → Result A Refusal → List ℕ → List ℕ → List ℕ
replaced (Ok a) result space = result
replaced (Err refusal) result space = space
