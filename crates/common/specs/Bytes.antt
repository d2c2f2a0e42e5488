-- The words of a file: document 01, "The basin file".
use Rattle.std.specs.Prelude.{ℕ, ◌+◌, ◌*◌, ◌/◌, ◌%◌, List, [], ◌∷◌, get_or}

-- "Little-endian 32-bit words, counted from 0"
unfoldable pub word_at : List ℕ → ℕ → ℕ
word_at f i = get_or f (4 * i) 0 + 256 * get_or f (4 * i + 1) 0 + 65536 * get_or f (4 * i + 2) 0 + 16777216 * get_or f (4 * i + 3) 0

-- and back: the bytes of so many words
abbrev pub bytes_of : List ℕ → List ℕ
bytes_of [] = []
bytes_of (w ∷ ws) = w % 256 ∷ w / 256 % 256 ∷ w / 65536 % 256 ∷ w / 16777216 % 256 ∷ bytes_of ws
