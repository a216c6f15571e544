-- Numbers in a list of bytes, low byte first. A byte past the end is 0.
use Rattle.std.specs.Prelude.{ℕ, ◌+◌, ◌*◌, List, slice_index}

abbrev pub byte : List ℕ → ℕ → ℕ
byte bs at = slice_index bs at

unfoldable pub two_bytes : List ℕ → ℕ → ℕ
two_bytes bs at = byte bs at + 256 * byte bs (at + 1)

unfoldable pub four_bytes : List ℕ → ℕ → ℕ
four_bytes bs at = two_bytes bs at + 65536 * two_bytes bs (at + 2)
