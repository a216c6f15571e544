-- How each statement is spelled, as a list of words.
use Rattle.std.specs.Prelude.{◌≡◌, ℕ, ◌<◌, ◌≤◌, Bool, false, ◌⊎◌, List, [], ◌∷◌, length, Ok, Err, codes, Result, ◌==◌, ◌≢◌, nat_le, slice_index_or}
use Rattle.scripts.specs.declared.fault.Fault.{Fault}
use Rattle.scripts.specs.declared.fault.Fault.TheVariants.{Memory, Unknown, Words, Number, Hex, Step, Missing, Paired, File}
use Rattle.scripts.specs.declared.statement.Keyword.{Keyword}
use Rattle.scripts.specs.declared.statement.Keyword.TheVariants as keyword
use Rattle.scripts.specs.declared.statement.DeadlineNumbers.{DeadlineNumbers}
use Rattle.scripts.specs.declared.statement.Statement.{Statement}
use Rattle.scripts.specs.declared.statement.Statement.TheVariants.{Blank, Table, Deadline, Pair, Describe, Replay}
use Rattle.scripts.specs.Numbers.{Writes, Written}

-- how a keyword is spelled
abbrev pub spelling : Keyword → List ℕ
spelling keyword.Table = codes "table"
spelling keyword.Deadline = codes "deadline"
spelling keyword.Pair = codes "pair"
spelling keyword.Describe = codes "describe"
spelling keyword.Replay = codes "replay"

-- whether a statement may have so many words, its keyword included
abbrev pub fitting : Keyword → ℕ → Bool
fitting keyword.Table n = n == 3
fitting keyword.Deadline n = n == 6
fitting keyword.Pair n = n == 4
fitting keyword.Describe n = n == 2
fitting keyword.Replay n = nat_le 3 n

-- the keyword that a word is, or the fault where it is none
abbrev pub Recognized : List ℕ → Result Keyword Fault → Type 0
Recognized word (Ok k) = word ≡ spelling k
Recognized word (Err e) = (e ≡ Unknown) × ((k : Keyword) → word ≢ spelling k)

-- word i, empty past the end
abbrev pub word_at : List (List ℕ) → ℕ → List ℕ
word_at ws i = slice_index_or ws i []

-- what the words after a deadline's name write
pub record Numbers (ws : List (List ℕ)) (n : DeadlineNumbers) : Type 0 where
  pub a_is : Writes (word_at ws 2) n.a
  pub b_is : Writes (word_at ws 3) n.b
  pub m_is : Writes (word_at ws 4) n.m
  pub c_is : Writes (word_at ws 5) n.c

-- the statement that the words spell
abbrev pub Spelled : Statement → List (List ℕ) → Type 0
Spelled Blank ws = ws ≡ []
Spelled (Table name source) ws = ws ≡ codes "table" ∷ name.now ∷ source.now ∷ []
Spelled (Deadline name numbers) ws = (length ws ≡ 6) × (word_at ws 0 ≡ codes "deadline") × (word_at ws 1 ≡ name.now) × Numbers ws numbers
Spelled (Pair name left right) ws = ws ≡ codes "pair" ∷ name.now ∷ left.now ∷ right.now ∷ []
Spelled (Describe name) ws = ws ≡ codes "describe" ∷ name.now ∷ []
Spelled (Replay name grid) ws = (3 ≤ length ws) × (word_at ws 0 ≡ codes "replay") × (word_at ws 1 ≡ name.now) × Writes (word_at ws 2) grid

-- why the words spell none; other faults come later
abbrev pub Faulty : Fault → List (List ℕ) → Type 0
Faulty Memory ws = ⊥
Faulty Unknown ws = (0 < length ws) × ((k : Keyword) → word_at ws 0 ≢ spelling k)
Faulty Words ws = (k : Keyword) × (word_at ws 0 ≡ spelling k) × (fitting k (length ws) ≡ false)
Faulty Number ws = ((word_at ws 0 ≡ codes "deadline") × (i : ℕ) × (2 ≤ i) × (i < 6) × (Written (word_at ws i) → ⊥)) ⊎ ((word_at ws 0 ≡ codes "replay") × (Written (word_at ws 2) → ⊥))
Faulty Hex ws = ⊥
Faulty Step ws = ⊥
Faulty Missing ws = ⊥
Faulty Paired ws = ⊥
Faulty File ws = ⊥

abbrev pub Read : List (List ℕ) → Result Statement Fault → Type 0
Read ws (Ok s) = Spelled s ws
Read ws (Err e) = Faulty e ws
