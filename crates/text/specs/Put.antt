-- A text put into a buffer. Assumes nothing.
use Rattle.std.specs.Prelude.{ℕ, ◌+◌, List, ◌++◌, length, take, drop}

-- a buffer with a text put into it at a place
unfoldable pub put_at : List ℕ → ℕ → List ℕ → List ℕ
put_at buffer at text = take at buffer ++ (text ++ drop (at + length text) buffer)
