-- The steps of a timed word as a script writes them: a delay, a colon and a label.
use Rattle.std.specs.Prelude.{◌≡◌, ℕ, ◌<◌, min, List, [], ◌∷◌, length, drop, slice_index_or}
use Rattle.words.specs.declared.word.Letter.{Letter}
use Rattle.scripts.specs.Lines.{front, past, other_than}
use Rattle.scripts.specs.Numbers.{Writes}

-- 58 is the colon; a label above 255 counts as 255
pub record LetterIs (word : List ℕ) (delay label : ℕ) : Type 0 where
  pub colon : 0 < length (past (other_than 58) word)
  pub delay_is : Writes (front (other_than 58) word) delay
  pub number : ℕ
  pub number_is : Writes (drop 1 (past (other_than 58) word)) number
  pub label_is : label ≡ min number 255

-- word by word
abbrev pub LettersAre : List (List ℕ) → List Letter → Type 0
LettersAre [] [] = Unit {0}
LettersAre [] (a ∷ more) = ⊥
LettersAre (w ∷ ws) [] = ⊥
LettersAre (w ∷ ws) (a ∷ more) = LetterIs w a.delay a.label × LettersAre ws more

-- some word writes none
abbrev pub NoLetter : List (List ℕ) → Type 0
NoLetter ws = (i : ℕ) × (i < length ws) × ((delay label : ℕ) → LetterIs (slice_index_or ws i []) delay label → ⊥)
