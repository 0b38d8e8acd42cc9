-- Laws of lists: what stays where one item changes, comes or goes.
use Rattle.std.proofs.Common.{◌≡◌, ℕ, ◌+◌, ◌<◌, List, [], ◌∷◌, ◌++◌, length, get_or, set, map, replicate, filter, Bool, true, false, cond, refl, ap, sym, ◌∙◌, arith}
use Rattle.std.specs.Prelude.{All, sum_by}
use Rattle.std.proofs.lemmas.List.{map-set, set-get_or, get_or-map, map-append, length-append}
use Rattle.std.proofs.lemmas.List.Elements.{All-cons, All-head, All-tail, filter-append}
use Rattle.std.proofs.lemmas.List.Sums.{sum_by-cons, sum_by-append}

-- a function of the items that doesn't tell the new item from the old
pub map_kept : {X Y : Type 0} (f : X → Y) (xs : List X) (i : ℕ) (v d : X) → i < length xs → f v ≡ f (get_or xs i d)
    → map f (set xs i v) ≡ map f xs
map_kept f xs i v d within same =
    map-set f xs i v ∙ ap (set (map f xs) i) (same ∙ sym (get_or-map f xs i d (f d) within))
    ∙ set-get_or (map f xs) i (f d)

-- a function of the items that doesn't tell an item from what another function makes of it
pub map_after : {X Y : Type 0} (f : X → Y) (g : X → X) (xs : List X) → ((x : X) → f (g x) ≡ f x)
    → map f (map g xs) ≡ map f xs
map_after f g [] same = refl
map_after f g (x ∷ xs) same = ap (λ y. y ∷ map f (map g xs)) (same x) ∙ ap (λ ys. f x ∷ ys) (map_after f g xs same)

pub sum_after : {X : Type 0} (f : X → ℕ) (g : X → X) (xs : List X) → ((x : X) → f (g x) ≡ f x)
    → sum_by f (map g xs) ≡ sum_by f xs
sum_after f g [] same = refl
sum_after f g (x ∷ xs) same =
    omega (arith, sum_by-cons f (g x) (map g xs), sum_by-cons f x xs, same x, sum_after f g xs same)

-- each item is what a function makes of it
pub map_fixed : {X : Type 0} (f : X → X) (xs : List X) → All (λ x. f x ≡ x) xs → map f xs ≡ xs
map_fixed f [] same = refl
map_fixed f (x ∷ xs) same =
    ap (λ y. y ∷ map f xs) (All-head (λ z. f z ≡ z) x xs same)
    ∙ ap (λ ys. x ∷ ys) (map_fixed f xs (All-tail (λ z. f z ≡ z) x xs same))

pub filter_all : {X : Type 0} (p : X → Bool) (xs : List X) → All (λ x. p x ≡ true) xs → filter p xs ≡ xs
filter_all p [] same = refl
filter_all p (x ∷ xs) same =
    ap (λ t. cond t (x ∷ filter p xs) (filter p xs)) (All-head (λ z. p z ≡ true) x xs same)
    ∙ ap (λ ys. x ∷ ys) (filter_all p xs (All-tail (λ z. p z ≡ true) x xs same))

pub all_insert : {X : Type 0} (P : X → Type 0) (before after : List X) (x : X) → All P (before ++ after) → P x
    → All P (before ++ x ∷ after)
all_insert P [] after x all here = All-cons P x after here all
all_insert P (b ∷ bs) after x all here =
    All-cons P b (bs ++ x ∷ after) (All-head P b (bs ++ after) all)
    (all_insert P bs after x (All-tail P b (bs ++ after) all) here)

pub all_remove : {X : Type 0} (P : X → Type 0) (before after : List X) (x : X) → All P (before ++ x ∷ after)
    → All P (before ++ after)
all_remove P [] after x all = All-tail P x after all
all_remove P (b ∷ bs) after x all =
    All-cons P b (bs ++ after) (All-head P b (bs ++ x ∷ after) all)
    (all_remove P bs after x (All-tail P b (bs ++ x ∷ after) all))

pub all_at : {X : Type 0} (P : X → Type 0) (before after : List X) (x : X) → All P (before ++ x ∷ after) → P x
all_at P [] after x all = All-head P x after all
all_at P (b ∷ bs) after x all = all_at P bs after x (All-tail P b (bs ++ x ∷ after) all)

pub sum_insert : {X : Type 0} (f : X → ℕ) (before after : List X) (x : X)
    → sum_by f (before ++ x ∷ after) ≡ sum_by f (before ++ after) + f x
sum_insert f before after x =
    omega (arith, sum_by-append f before (x ∷ after), sum_by-cons f x after, sum_by-append f before after)

-- an item that a filter drops
pub filter_insert : {X : Type 0} (p : X → Bool) (before after : List X) (x : X) → p x ≡ false
    → filter p (before ++ x ∷ after) ≡ filter p (before ++ after)
filter_insert p before after x drops =
    filter-append p before (x ∷ after)
    ∙ ap (λ t. filter p before ++ cond t (x ∷ filter p after) (filter p after)) drops
    ∙ sym (filter-append p before after)

-- an item in place of another from which a function doesn't tell it
pub map_replace : {X Y : Type 0} (f : X → Y) (before after : List X) (x y : X) → f x ≡ f y
    → map f (before ++ x ∷ after) ≡ map f (before ++ y ∷ after)
map_replace f before after x y same =
    map-append f before (x ∷ after) ∙ ap (λ z. map f before ++ z ∷ map f after) same
    ∙ sym (map-append f before (y ∷ after))

sum_first : {X : Type 0} (f : X → ℕ) (x : X) (kept xs : List X) (t : Bool) → (t ≡ false → f x ≡ 0)
    → sum_by f kept ≡ sum_by f xs
    → sum_by f (cond t (x ∷ kept) kept) ≡ sum_by f (x ∷ xs)
sum_first f x kept xs true none rest = omega (arith, sum_by-cons f x kept, sum_by-cons f x xs, rest)
sum_first f x kept xs false none rest = omega (arith, sum_by-cons f x xs, none refl, rest)

-- a sum over what passes a test, where nothing else counts
pub sum_filter : {X : Type 0} (f : X → ℕ) (p : X → Bool) (xs : List X) → ((x : X) → p x ≡ false → f x ≡ 0)
    → sum_by f (filter p xs) ≡ sum_by f xs
sum_filter f p [] none = refl
sum_filter f p (x ∷ xs) none = sum_first f x (filter p xs) xs (p x) (none x) (sum_filter f p xs none)

pub sum_same : {X : Type 0} (f g : X → ℕ) (xs : List X) → ((x : X) → f x ≡ g x) → sum_by f xs ≡ sum_by g xs
sum_same f g [] same = refl
sum_same f g (x ∷ xs) same = omega (arith, sum_by-cons f x xs, sum_by-cons g x xs, same x, sum_same f g xs same)

pub sum_none : {X : Type 0} (f : X → ℕ) (xs : List X) → ((x : X) → f x ≡ 0) → sum_by f xs ≡ 0
sum_none f [] none = refl
sum_none f (x ∷ xs) none = omega (arith, sum_by-cons f x xs, none x, sum_none f xs none)

pub sum_both : {X : Type 0} (f g : X → ℕ) (xs : List X) → sum_by (λ x. f x + g x) xs ≡ sum_by f xs + sum_by g xs
sum_both f g [] = refl
sum_both f g (x ∷ xs) =
    omega (arith, sum_both f g xs, sum_by-cons (λ y. f y + g y) x xs, sum_by-cons f x xs, sum_by-cons g x xs)

-- a sum of sums, the other way round
pub sum_swap : {X Y : Type 0} (f : X → Y → ℕ) (xs : List X) (ys : List Y)
    → sum_by (λ x. sum_by (f x) ys) xs ≡ sum_by (λ y. sum_by (λ x. f x y) xs) ys
sum_swap f [] ys = sym (sum_none (λ y. sum_by (λ x. f x y) []) ys (λ y. refl))
sum_swap f (x ∷ xs) ys =
    sum_by-cons (λ z. sum_by (f z) ys) x xs ∙ ap (λ n. sum_by (f x) ys + n) (sum_swap f xs ys)
    ∙ sym (sum_both (f x) (λ y. sum_by (λ z. f z y) xs) ys)
    ∙ sum_same (λ y. f x y + sum_by (λ z. f z y) xs) (λ y. sum_by (λ z. f z y) (x ∷ xs)) ys
    (λ y. sym (sum_by-cons (λ z. f z y) x xs))

pub length_one_more : {X : Type 0} (before after : List X) (x : X)
    → length (before ++ x ∷ after) ≡ length (before ++ after) + 1
length_one_more before after x = omega (arith, length-append before (x ∷ after), length-append before after)

-- what two functions make, one after the other
pub map_through : {X Y Z : Type 0} (f : Y → Z) (g : X → Y) (h : X → Z) (xs : List X) → ((x : X) → f (g x) ≡ h x)
    → map f (map g xs) ≡ map h xs
map_through f g h [] same = refl
map_through f g h (x ∷ xs) same = ap (λ z. z ∷ map f (map g xs)) (same x)
    ∙ ap (λ zs. h x ∷ zs) (map_through f g h xs same)

pub map_flat : {X Y : Type 0} (y : Y) (xs : List X) → map (λ x. y) xs ≡ replicate (length xs) y
map_flat y [] = refl
map_flat y (x ∷ xs) = ap (λ ys. y ∷ ys) (map_flat y xs)
