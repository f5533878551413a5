-- The content of a line, and its parts before and after a space.
use Rattle.std.specs.Prelude.{ℕ, ◌-◌, Bool, cond, ◌&&◌, List, length, take, Some, None, Option, ◌==◌, nat_lt, slice_index}
use Rattle.std.specs.List.{before_first, after_first, position_or_len}

-- the last byte is a line feed
abbrev pub is_ended : List ℕ → Bool
is_ended bytes = nat_lt 0 (length bytes) && slice_index bytes (length bytes - 1) == 10

-- the bytes without the line feed at their end, if they have one
abbrev pub content_of : List ℕ → List ℕ
content_of bytes = cond (is_ended bytes) (take (length bytes - 1) bytes) bytes

-- what stands before the first space, or the whole line
abbrev pub name_of : List ℕ → List ℕ
name_of line = before_first (λ b. b == 32) line

-- what stands after the first space, if there is one
abbrev pub rest_of : List ℕ → Option (List ℕ)
rest_of line = cond (nat_lt (position_or_len (λ b. b == 32) line) (length line)) (Some (after_first (λ b. b == 32) line)) None
