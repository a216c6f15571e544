-- The words of a line: its parts between blanks.
use Rattle.std.specs.Prelude.{◌≡◌, ℕ, ◌<◌, Bool, not, ◌||◌, List, [], length, take, drop, filter, Some, None, Option, ◌==◌}
use Rattle.std.specs.Borrow.{Bor}
use Rattle.std.specs.List.{prefix_len, slice_split}

-- a space, a tab or a carriage return
abbrev pub blank : ℕ → Bool
blank b = b == 32 || (b == 9 || b == 13)

-- any byte but these
abbrev pub in_word : ℕ → Bool
in_word b = not (blank b)

-- any byte but c
abbrev pub other_than : ℕ → ℕ → Bool
other_than c b = not (b == c)

-- the longest run of such bytes that a text begins with, and what follows it
abbrev pub front : (ℕ → Bool) → List ℕ → List ℕ
front p bs = take (prefix_len p bs) bs

abbrev pub past : (ℕ → Bool) → List ℕ → List ℕ
past p bs = drop (prefix_len p bs) bs

-- what stands before and after the first byte c, or none where there is none
abbrev pub SplitAt : ℕ → List ℕ → Option (Bor (List ℕ) × Bor (List ℕ)) → Type 0
SplitAt c bs None = length (past (other_than c) bs) ≡ 0
SplitAt c bs (Some p) = (0 < length (past (other_than c) bs)) × (p.0.now ≡ front (other_than c) bs) × (p.1.now ≡ drop 1 (past (other_than c) bs))

-- the first line of a text, without its line feed, and the text after it, or none where there is no text; 10 is the line feed
abbrev pub NextLine : List ℕ → Option (Bor (List ℕ)) → List ℕ → Type 0
NextLine text None after = (text ≡ []) × (after ≡ [])
NextLine text (Some line) after = (0 < length text) × (line.now ≡ front (other_than 10) text) × (after ≡ drop 1 (past (other_than 10) text))

-- what stands before a comment; 35 is '#'
abbrev pub code_of : List ℕ → List ℕ
code_of bs = front (other_than 35) bs

-- the first word and what follows it, or none where the text is blank
abbrev pub NextWord : List ℕ → Option (Bor (List ℕ) × Bor (List ℕ)) → Type 0
NextWord bs None = length (past blank bs) ≡ 0
NextWord bs (Some p) = (0 < length (past blank bs)) × (p.0.now ≡ front in_word (past blank bs)) × (p.1.now ≡ past in_word (past blank bs))

-- the words of a text: its parts between blanks, but for the empty ones
abbrev pub words_in : List ℕ → List (List ℕ)
words_in bs = filter (λ w. not (length w == 0)) (slice_split blank bs)

-- the words of a line, up to its comment
abbrev pub words_of : List ℕ → List (List ℕ)
words_of line = words_in (code_of line)
