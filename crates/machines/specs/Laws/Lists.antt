-- Lists read by place.
use Rattle.std.specs.Prelude.{◌≡◌, ℕ, zero, suc, ◌≤◌, Bool, true, false, cond, List, [], ◌∷◌, ◌++◌, map, length, Some, filter, refl}
use Rattle.std.proofs.Common.{ap, subst, ◌∙◌, arith}
use Rattle.std.proofs.lemmas.List.Elements.{All-get_or, All-from_recursion}
use Rattle.std.proofs.lemmas.List.Sums.{length-filter, count_by-le-length}
use Rattle.std.proofs.lemmas.Option.{slice_get_within, get_or_from_slice_get}
use Rattle.std.specs.List.{slice_get, flat_map, All, AllByRecursion}

-- an element of a mapped list comes from one of the list
pub from_map : {X Y : Type 0} (f : X → Y) (xs : List X) (k : ℕ) (y : Y) → slice_get (map f xs) k ≡ Some y → (x : X) × (slice_get xs k ≡ Some x) × (f x ≡ y)
from_map f [] k y e = absurd (let z : ◌≡◌ {A = ℕ} 0 1 = cc in omega arith)
from_map f (x ∷ xs) zero y e = (x, refl, cc)
from_map f (x ∷ xs) (suc k) y e = from_map f xs k y e

-- what is true of each element is true of that at a place
pub all_at : {X : Type 0} (P : X → Type 0) (xs : List X) (k : ℕ) (x : X) → All P xs → slice_get xs k ≡ Some x → P x
all_at P xs k x a e = subst P (get_or_from_slice_get xs k x x e) (All-get_or P xs k x (slice_get_within xs k x e) a)

pub all_nth : {X : Type 0} (P : X → Type 0) (xs : List X) (k : ℕ) (x : X) → AllByRecursion P xs → slice_get xs k ≡ Some x → P x
all_nth P xs k x a e = all_at P xs k x (All-from_recursion P xs a) e

pub nth_all : {X : Type 0} (P : X → Type 0) (xs : List X) → ((k : ℕ) (x : X) → slice_get xs k ≡ Some x → P x) → AllByRecursion P xs
nth_all P [] h = tt
nth_all P (y ∷ xs) h = (h 0 y refl, nth_all P xs (λ k. h (suc k)))

-- x stands somewhere in xs
abbrev pub Stands : {X : Type 0} → List X → X → Type 0
Stands xs x = (k : ℕ) × (slice_get xs k ≡ Some x)

stands_later : {X : Type 0} (y : X) (xs : List X) (x : X) → Stands xs x → Stands (y ∷ xs) x
stands_later y xs x h = (suc h.0, h.1)

pub stands_left : {X : Type 0} (xs ys : List X) (x : X) (k : ℕ) → slice_get xs k ≡ Some x → Stands (xs ++ ys) x
stands_left [] ys x k e = absurd (let z : ◌≡◌ {A = ℕ} 0 1 = cc in omega arith)
stands_left (y ∷ xs) ys x zero e = (0, e)
stands_left (y ∷ xs) ys x (suc k) e = stands_later y (xs ++ ys) x (stands_left xs ys x k e)

pub stands_right : {X : Type 0} (xs ys : List X) (x : X) → Stands ys x → Stands (xs ++ ys) x
stands_right [] ys x h = h
stands_right (y ∷ xs) ys x h = stands_later y (xs ++ ys) x (stands_right xs ys x h)

pub stands_map : {X Y : Type 0} (f : X → Y) (xs : List X) (x : X) (k : ℕ) → slice_get xs k ≡ Some x → Stands (map f xs) (f x)
stands_map f [] x k e = absurd (let z : ◌≡◌ {A = ℕ} 0 1 = cc in omega arith)
stands_map f (y ∷ xs) x zero e = let same : y ≡ x = cc in (0, ap (λ z. Some (f z)) same)
stands_map f (y ∷ xs) x (suc k) e = stands_later (f y) (map f xs) (f x) (stands_map f xs x k e)

pub stands_kept : {X : Type 0} (p : X → Bool) (xs : List X) (x : X) (k : ℕ) → p x ≡ true → slice_get xs k ≡ Some x → Stands (filter p xs) x
stands_kept p [] x k t e = absurd (let z : ◌≡◌ {A = ℕ} 0 1 = cc in omega arith)
stands_kept p (y ∷ xs) x zero t e =
    let same : y ≡ x = cc in (0, rw (ap p same ∙ t) (ap (λ z. Some z) same))
stands_kept p (y ∷ xs) x (suc k) t e = go (p y) (stands_kept p xs x k t e)
  where
    go : (b : Bool) → Stands (filter p xs) x → Stands (cond b (y ∷ filter p xs) (filter p xs)) x
    go true h = stands_later y (filter p xs) x h
    go false h = h

pub stands_joined : {X Y : Type 0} (f : X → List Y) (xs : List X) (x : X) (y : Y) (k : ℕ) → slice_get xs k ≡ Some x → Stands (f x) y → Stands (flat_map f xs) y
stands_joined f [] x y k e h = absurd (let z : ◌≡◌ {A = ℕ} 0 1 = cc in omega arith)
stands_joined f (a ∷ xs) x y zero e h =
    let same : x ≡ a = cc in let here : Stands (f a) y = subst (λ z. Stands (f z) y) same h in stands_left (f a) (flat_map f xs) y here.0 here.1
stands_joined f (a ∷ xs) x y (suc k) e h = stands_right (f a) (flat_map f xs) y (stands_joined f xs x y k e h)

pub length-kept : {X : Type 0} (p : X → Bool) (xs : List X) → length (filter p xs) ≤ length xs
length-kept p xs = omega (arith, length-filter p xs, count_by-le-length p xs)
