-- The source that a word stands for.
use Rattle.std.specs.Prelude.{◌≡◌, ℕ, List, ◌∷◌, codes, ◌≢◌, slice_index}
use Rattle.scripts.specs.declared.source.Source.{Source}
use Rattle.scripts.specs.declared.source.Source.TheVariants.{Empty, File, Digits}

-- 64 is '@'
abbrev pub SourceIs : List ℕ → Source → Type 0
SourceIs word Empty = word ≡ codes "-"
SourceIs word (File path) = word ≡ 64 ∷ path.now
SourceIs word (Digits digits) = (digits.now ≡ word) × (word ≢ codes "-") × (slice_index word 0 ≢ 64)
