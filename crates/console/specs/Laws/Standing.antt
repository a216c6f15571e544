-- What names stand for after one of them is given.
use Rattle.std.proofs.Common.{◌≡◌, ◌≢◌, ℕ, ◌+◌, ◌<◌, true, List, [], ◌∷◌, ◌++◌, length, Some, None, Option, cond, is_some, is_ok, refl, ap, sym, subst, ◌∙◌, arith, append-nil, get_or, ◌⊎◌, inl, inr}
use Rattle.std.specs.Ordering.{nat_cmp, is_eq}
use Rattle.std.specs.declared.cmp.Ordering.{Ordering}
use Rattle.std.specs.declared.cmp.Ordering.TheVariants.{Less, Equal, Greater}
use Rattle.std.proofs.lemmas.Cmp.{eq_by_cmp_equiv}
use Rattle.std.specs.List.{slice_get}
use Rattle.std.specs.Option.{option_map, option_and_then}
use Rattle.std.specs.Cmp.Lexicographic.{slice_cmp, nat_list_cmp_total}
use Rattle.std.specs.FinMap.{get, insert, empty, get-insert, get-empty, slice_cmp-IsAntisymmetric, nat_cmp-IsAntisymmetric}
use Rattle.std.proofs.lemmas.Option.{slice_get_within, slice_get-get_or, option_and_then_some}
use Rattle.models.specs.Format.{verdict}
use Rattle.models.specs.Model.{model}
use Rattle.pairs.proofs.Joints.{nth_front, nth_behind}
use Rattle.machines.specs.Automaton.{Automaton, bare}
use Rattle.machines.specs.declared.deadline.Deadline.{Deadline}
use Rattle.machines.specs.Deadline.{deadline}
use Rattle.console.specs.declared.part.Part.{Part}
use Rattle.console.specs.declared.part.Part.TheVariants as part
use Rattle.console.specs.declared.named.Named.{Named}
use Rattle.console.specs.declared.named.Named.TheVariants as named
use Rattle.console.specs.Stations.{part_automaton}
use Rattle.console.specs.Names.{Names, Contents, Kept, Whole, defined, joined, made_from, parts_of, stands}

-- what stood in a list stands there still
more : {X : Type 0} (xs ys : List X) (i : ℕ) (x : X) → slice_get xs i ≡ Some x → slice_get (xs ++ ys) i ≡ Some x
more xs ys i x e = nth_front xs ys i (slice_get_within xs i x e) ∙ e

-- so that numbers have the parts that they had
part_more : (f : Part → Named Part) (ps qs : List Part) (i : ℕ) (w : Named Part) → option_map f (slice_get ps i) ≡ Some w → option_map f (slice_get (ps ++ qs) i) ≡ Some w
part_more f ps qs i w = go (slice_get ps i) refl
  where
    go : (o : Option Part) → slice_get ps i ≡ o → option_map f o ≡ Some w → option_map f (slice_get (ps ++ qs) i) ≡ Some w
    go None is e = absurd (cc)
    go (Some x) is e = rw (more ps qs i x is) e

parts_more : (ps qs : List Part) (n : Named ℕ) (w : Named Part) → parts_of ps n ≡ Some w → parts_of (ps ++ qs) n ≡ Some w
parts_more ps qs (named.Part i) w e = part_more named.Part ps qs i w e
parts_more ps qs (named.Pair i j) w e = go (slice_get ps i) refl e
  where
    go : (o : Option Part) → slice_get ps i ≡ o → option_and_then (λ l. option_map (named.Pair l) (slice_get ps j)) o ≡ Some w → parts_of (ps ++ qs) (named.Pair i j) ≡ Some w
    go None is e = absurd (cc)
    go (Some l) is e = rw (more ps qs i l is) (part_more (named.Pair l) ps qs j w e)

is_some_more : (ps qs : List Part) (n : Named ℕ) → is_some (parts_of ps n) ≡ true → is_some (parts_of (ps ++ qs) n) ≡ true
is_some_more ps qs n = go (parts_of ps n) refl
  where
    go : (o : Option (Named Part)) → parts_of ps n ≡ o → is_some o ≡ true → is_some (parts_of (ps ++ qs) n) ≡ true
    go None is h = absurd (cc)
    go (Some w) is h = ap is_some (parts_more ps qs n w is)

-- the name that is given, and each other
get_given : (m : Names) (name : List ℕ) (n : Named ℕ) → get (insert m name n) name ≡ Some n
get_given m name n = get-insert nat_list_cmp_total m name n name ∙ ap (λ b. cond b (Some n) (get m name)) ((eq_by_cmp_equiv nat_list_cmp_total).refl name)

get_other : (m : Names) (name other : List ℕ) (n : Named ℕ) → other ≢ name → get (insert m name n) other ≡ get m other
get_other m name other n apart = get-insert nat_list_cmp_total m name n other ∙ go (slice_cmp nat_cmp other name) refl
  where
    go : (o : Ordering) → slice_cmp nat_cmp other name ≡ o → cond (is_eq o) (Some n) (get m other) ≡ get m other
    go Less is = refl
    go Equal is = absurd (apart (slice_cmp-IsAntisymmetric nat_cmp-IsAntisymmetric other name is))
    go Greater is = refl

-- a session with more parts, where a name is given
more_given : Contents → List Part → List ℕ → Named ℕ → Contents
more_given s qs name n = record { parts = s.parts ++ qs; names = insert s.names name n }

stands_given : (s : Contents) (qs : List Part) (name : List ℕ) (n : Named ℕ) → stands (more_given s qs name n) name ≡ parts_of (s.parts ++ qs) n
unfolding more_given
stands_given s qs name n = ap (option_and_then (parts_of (s.parts ++ qs))) (get_given s.names name n)

kept_more : (s : Contents) (qs : List Part) (name : List ℕ) (n : Named ℕ) → Kept name s (more_given s qs name n)
unfolding more_given
kept_more s qs name n other apart =
    let same = get_other s.names name other n apart in (
      same,
      (λ w e. ap (option_and_then (parts_of (s.parts ++ qs))) same
          ∙ option_and_then_some (parts_of s.parts) (get s.names other) w e (λ m is here. ap (option_and_then (parts_of (s.parts ++ qs))) is ∙ parts_more s.parts qs m w here)),
    )

-- every name stands for parts still, where the one that is given does
whole_more : (s : Contents) (qs : List Part) (name : List ℕ) (n : Named ℕ) (w : Named Part) → parts_of (s.parts ++ qs) n ≡ Some w → Whole s → Whole (more_given s qs name n)
unfolding more_given
whole_more s qs name n w there whole other = go (slice_cmp nat_cmp other name) refl
  where
    old : (o : Option (Named ℕ)) → get s.names other ≡ o → is_some (option_and_then (parts_of (s.parts ++ qs)) o) ≡ is_some o
    old None is = refl
    old (Some m) is = is_some_more s.parts qs m (sym (ap (λ o. is_some (option_and_then (parts_of s.parts) o)) is) ∙ whole other ∙ ap is_some is)

    go : (o : Ordering) → slice_cmp nat_cmp other name ≡ o → is_some (option_and_then (parts_of (s.parts ++ qs)) (get (insert s.names name n) other)) ≡ is_some (get (insert s.names name n) other)
    go o is = rw (get-insert nat_list_cmp_total s.names name n other, is) (by_order o)
      where
        by_order : (o : Ordering) → is_some (option_and_then (parts_of (s.parts ++ qs)) (cond (is_eq o) (Some n) (get s.names other))) ≡ is_some (cond (is_eq o) (Some n) (get s.names other))
        by_order Less = old (get s.names other) refl
        by_order Equal = ap is_some there
        by_order Greater = old (get s.names other) refl

-- the parts that come last have the last numbers
last : (ps : List Part) (p : Part) (qs : List Part) → slice_get (ps ++ p ∷ qs) (length ps) ≡ Some p
last ps p qs = nth_behind ps (p ∷ qs) (length ps) 0 (omega arith)

last_two : (ps : List Part) (l r : Part) → parts_of (ps ++ l ∷ r ∷ []) (named.Pair (length ps) (length ps + 1)) ≡ Some (named.Pair l r)
last_two ps l r = rw (last ps l (r ∷ []), nth_behind ps (l ∷ r ∷ []) (length ps + 1) 1 refl) refl

-- and each number below the length has a part
pub below_there : (ps : List Part) (i j : ℕ) → i < length ps → j < length ps → (w : Named Part) × (parts_of ps (named.Pair i j) ≡ Some w)
below_there ps i j a b = (named.Pair (get_or ps i part.Bare) (get_or ps j part.Bare), rw (slice_get-get_or ps i part.Bare a, slice_get-get_or ps j part.Bare b) refl)

-- parts made from the same make the same automaton
automaton_from : Option (List ℕ ⊎ Deadline) → Automaton
automaton_from None = bare
automaton_from (Some (inl file)) = cond (is_ok (verdict file)) (model file) bare
automaton_from (Some (inr d)) = deadline d.a d.b d.m d.c

from_made : (p : Part) → part_automaton p ≡ automaton_from (made_from p)
unfolding automaton_from
from_made part.Bare = refl
from_made (part.Table file) = refl
from_made (part.Deadline d) = refl

pub same_automaton : (p q : Part) → made_from p ≡ made_from q → part_automaton p ≡ part_automaton q
same_automaton p q e = from_made p ∙ ap automaton_from e ∙ sym (from_made q)

-- a name that is given to a new part stands for it
pub defined_stands : (old : Contents) (name : List ℕ) (p : Part) → stands (defined old name p) name ≡ Some (named.Part p)
unfolding more_given
defined_stands old name p = stands_given old (p ∷ []) name (named.Part (length old.parts)) ∙ ap (option_map named.Part) (last old.parts p [])

pub defined_kept : (old : Contents) (name : List ℕ) (p : Part) → Kept name old (defined old name p)
unfolding more_given
defined_kept old name p = kept_more old (p ∷ []) name (named.Part (length old.parts))

pub defined_whole : (old : Contents) (name : List ℕ) (p : Part) → Whole old → Whole (defined old name p)
unfolding more_given
defined_whole old name p = whole_more old (p ∷ []) name (named.Part (length old.parts)) (named.Part p) (ap (option_map named.Part) (last old.parts p []))

-- and a name that is given to the pair of two new parts, for the pair
pub joined_stands : (old : Contents) (name : List ℕ) (l r : Part) → stands (joined old name l r) name ≡ Some (named.Pair l r)
unfolding more_given
joined_stands old name l r = stands_given old (l ∷ r ∷ []) name (named.Pair (length old.parts) (length old.parts + 1)) ∙ last_two old.parts l r

pub joined_kept : (old : Contents) (name : List ℕ) (l r : Part) → Kept name old (joined old name l r)
unfolding more_given
joined_kept old name l r = kept_more old (l ∷ r ∷ []) name (named.Pair (length old.parts) (length old.parts + 1))

pub joined_whole : (old : Contents) (name : List ℕ) (l r : Part) → Whole old → Whole (joined old name l r)
unfolding more_given
joined_whole old name l r = whole_more old (l ∷ r ∷ []) name (named.Pair (length old.parts) (length old.parts + 1)) (named.Pair l r) (last_two old.parts l r)

-- the same where a name is given to numbers
module _ (old new : Contents) (name : List ℕ) (n : Named ℕ) (parts : new.parts ≡ old.parts) (names : new.names ≡ insert old.names name n) where
  numbered : new ≡ more_given old [] name n
  unfolding more_given
  numbered i = record { parts = (parts ∙ sym (append-nil old.parts)) i; names = names i }

  pub numbered_stands : stands new name ≡ parts_of old.parts n
  numbered_stands = ap (λ s. stands s name) numbered ∙ stands_given old [] name n ∙ ap (λ ps. parts_of ps n) (append-nil old.parts)

  pub numbered_kept : Kept name old new
  numbered_kept = subst (Kept name old) (sym numbered) (kept_more old [] name n)

  pub numbered_whole : (w : Named Part) → parts_of old.parts n ≡ Some w → Whole old → Whole new
  numbered_whole w there whole = subst Whole (sym numbered) (whole_more old [] name n w (ap (λ ps. parts_of ps n) (append-nil old.parts) ∙ there) whole)

-- every name stands for parts where there is none
pub empty_whole : (s : Contents) → s.names ≡ empty → Whole s
empty_whole s is name = rw (is, get-empty {X = Named ℕ} (slice_cmp nat_cmp) name) refl
