-- What the names of a session stand for.
use Rattle.std.specs.Prelude.{◌≡◌, ◌≢◌, ℕ, ◌+◌, Bool, true, false, ◌⊎◌, List, ◌∷◌, [], ◌++◌, map, length, is_some, vec_items, Vec, MatchBool, Option, None, Some}
use Rattle.std.proofs.Common.{inl, inr}
use Rattle.std.specs.Ordering.{nat_cmp}
use Rattle.std.specs.Cmp.Lexicographic.{slice_cmp}
use Rattle.std.specs.FinMap.{FinMap, get, insert, from_entries}
use Rattle.std.specs.BTreeMap.{BTreeMap}
use Rattle.std.specs.List.{slice_get}
use Rattle.std.specs.Option.{option_map, option_and_then}
use Rattle.machines.specs.declared.deadline.Deadline.{Deadline}
use Rattle.console.specs.declared.part.Part.{Part}
use Rattle.console.specs.declared.part.Part.TheVariants as part
use Rattle.console.specs.declared.named.Named.{Named}
use Rattle.console.specs.declared.named.Named.TheVariants as named

-- each name with the number of the part that it stands for, or those of the two parts of its pair
abbrev pub Names : Type 0
Names = FinMap (slice_cmp nat_cmp) (Named ℕ)

module _ {X Y : Type 0} where
  -- a name and what it stands for, as a session keeps them
  abbrev pub entry : Vec ℕ Y × X → List ℕ × X
  entry e = (vec_items e.0, e.1)

  abbrev pub read : BTreeMap (Vec ℕ Y) X → FinMap (slice_cmp nat_cmp) X
  read m = from_entries (map entry m.entries)

-- what a session has: its parts, by number, and its names
pub record Contents : Type 0 where
  pub parts : List Part
  pub names : Names

-- a session with one part more, to which the name is given
abbrev pub defined : Contents → List ℕ → Part → Contents
defined old name p = record { parts = old.parts ++ p ∷ []; names = insert old.names name (named.Part (length old.parts)) }

-- a session after a table is loaded: a refused file leaves a name that stands for something as it was, and gives a new one to the bare location
abbrev pub Loaded : Bool → List ℕ → Part → Contents → Contents → Type 0
Loaded true name table old new = new ≡ defined old name table
Loaded false name table old new = MatchBool (is_some (get old.names name)) (new ≡ old) (new ≡ defined old name part.Bare)

-- the parts of the numbers, or none where a number is that of no part
abbrev pub parts_of : List Part → Named ℕ → Option (Named Part)
parts_of parts (named.Part i) = option_map named.Part (slice_get parts i)
parts_of parts (named.Pair i j) = option_and_then (λ l. option_map (named.Pair l) (slice_get parts j)) (slice_get parts i)

-- the parts that a name stands for; none where it is no name, or a number is that of no part
abbrev pub stands : Contents → List ℕ → Option (Named Part)
stands s name = option_and_then (parts_of s.parts) (get s.names name)

-- every other name has the numbers that it had, and stands for the parts that it stood for
abbrev pub Kept : List ℕ → Contents → Contents → Type 0
Kept name old new = (other : List ℕ) → other ≢ name → (get new.names other ≡ get old.names other) × ((what : Named Part) → stands old other ≡ Some what → stands new other ≡ Some what)

-- every name stands for parts
abbrev pub Whole : Contents → Type 0
Whole s = (name : List ℕ) → is_some (stands s name) ≡ is_some (get s.names name)

-- what a part is made from: the bytes of a file, wherever they stand, the numbers of a deadline, or nothing
abbrev pub made_from : Part → Option (List ℕ ⊎ Deadline)
made_from part.Bare = None
made_from (part.Table file) = Some (inl (vec_items file))
made_from (part.Deadline d) = Some (inr d)

-- a session with two parts more, to whose pair the name is given
abbrev pub joined : Contents → List ℕ → Part → Part → Contents
joined old name l r = record { parts = old.parts ++ l ∷ r ∷ []; names = insert old.names name (named.Pair (length old.parts) (length old.parts + 1)) }

-- a session with two parts more, made from the same as these, to whose pair the name is given
pub record Joined (old : Contents) (name : List ℕ) (left right : Part) (new : Contents) : Type 0 where
  pub l : Part
  pub r : Part
  pub left_same : made_from l ≡ made_from left
  pub right_same : made_from r ≡ made_from right
  pub is : new ≡ joined old name l r
