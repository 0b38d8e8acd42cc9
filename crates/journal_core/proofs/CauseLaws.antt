-- Laws of the causes of tags in places: what calls of a store leave of them, and what lists of places have together.
use Rattle.std.proofs.Common.{◌≡◌, ℕ, zero, suc, ◌+◌, ◌<◌, ◌≤◌, List, [], ◌∷◌, ◌++◌, length, get_or, set, below_more, subst, take, drop, replicate, Option, Some, None, refl, ap, sym, ◌∙◌, arith}
use Rattle.std.proofs.lemmas.List.{length-map, map-set, map_more, get_or-set_same, get_or-set_other, drop_more}
use Rattle.std.proofs.lemmas.List.Sums.{sum_by-take-drop}
use Rattle.std.specs.Prelude.{Result, Ok, Err, IfOk, IfSome, IsSome}
use Rattle.split_types.specs.Sets.{union_of, IsSet}
use Rattle.split_types.proofs.Sets.{union-one, union-flat, union-is_set}
use Rattle.cause_set.specs.Tags.{Tags, Moved, no_use, one_use, use_in, held}
use Rattle.cause_set.proofs.TagLaws.{one_use-same, use_in-held, held-cons, held-set, moved-then}
use Rattle.journal_core.specs.Causes.{Covered, causes_in, causes_at, wider, joined, joined_all, all_in, together, whole_of}
use Rattle.journal_core.specs.Places.{blocks_from, blocks_of}

-- what a join gives is a set
pub union-results : {X E : Type 0} (result : Result X E) (members : X → List ℕ) (lists : List (List ℕ))
    → IfOk result (λ t. members t ≡ union_of lists) → IfOk result (λ t. IsSet (members t))
union-results (Ok t) members lists is = subst IsSet (sym is) (union-is_set lists)
union-results (Err e) members lists is = tt

-- ---- what lists of places have together

all_in-some : {X : Type 0} (places : List (Option X)) (x : X) → all_in (places ++ Some x ∷ []) ≡ all_in places ++ x ∷ []
all_in-some [] x = refl
all_in-some (None ∷ places) x = all_in-some places x
all_in-some (Some y ∷ places) x = ap (λ ys. y ∷ ys) (all_in-some places x)

all_in-none : {X : Type 0} (places : List (Option X)) → all_in (places ++ None ∷ []) ≡ all_in places
all_in-none [] = refl
all_in-none (None ∷ places) = all_in-none places
all_in-none (Some y ∷ places) = ap (λ ys. y ∷ ys) (all_in-none places)

together-more : (lists : List (List ℕ)) (more : List ℕ) → IsSet (wider (together lists) more)
    → Some (wider (together lists) more) ≡ together (lists ++ more ∷ [])
together-more [] more is = ap Some (sym (union-one more is))
together-more (causes ∷ lists) more is = ap Some (union-flat (causes ∷ lists) (more ∷ []))

-- where some place has any, all have some together
some-blocks : (block : ℕ) (places : List (Option (List ℕ))) → 0 < length (blocks_from block places)
    → IsSome (whole_of places)
some-blocks block [] some = absurd (omega (arith, some))
some-blocks block (None ∷ places) some = some-blocks (block + 1) places some
some-blocks block (Some causes ∷ places) some = refl

pub whole-some : (places : List (Option (List ℕ))) → 0 < length (blocks_of places) → IsSome (whole_of places)
whole-some places some = some-blocks 1 places some

-- a list that is, place by place, what two others have together
pub joined_all-is : (made places others : List (Option (List ℕ))) → length made ≡ length places
    → length others ≡ length places
    → ((k : ℕ) → k < length places → get_or made k None ≡ joined (get_or places k None) (get_or others k None))
    → made ≡ joined_all places others
joined_all-is [] [] others ml ol each = refl
joined_all-is (m ∷ made) [] others ml ol each = absurd (omega (arith, ml))
joined_all-is [] (p ∷ places) others ml ol each = absurd (omega (arith, ml))
joined_all-is (m ∷ made) (p ∷ places) [] ml ol each = absurd (omega (arith, ol))
joined_all-is (m ∷ made) (p ∷ places) (o ∷ others) ml ol each =
    let here : m ≡ joined p o = each 0 (omega arith) in
    let rest : made ≡ joined_all places others =
    joined_all-is made places others (omega (arith, ml)) (omega (arith, ol)) (λ k within.
    each (suc k) (omega (arith, within))) in
    rw (here, rest) refl

module _ {T : Type 0} (number : T → ℕ) where
  -- ---- what calls of a store leave

  -- the causes of a place that is held beside what went
  pub causes_in-keeps : (old new : Tags) (gone come : ℕ → ℕ) (place : Option T) → Moved old new gone come
      → ((n : ℕ) → gone n + use_in number place n ≤ old.uses n)
      → causes_in number new place ≡ causes_in number old place
  causes_in-keeps old new gone come None m live = refl
  causes_in-keeps old new gone come (Some t) m live =
      ap Some (m.keeps (number t) (omega (arith, live (number t), one_use-same (number t))))

  -- those of a list that is held beside what went
  pub causes_at-keeps : (old new : Tags) (gone come : ℕ → ℕ) (places : List (Option T)) → Moved old new gone come
      → ((n : ℕ) → gone n + held number places n ≤ old.uses n)
      → causes_at number new places ≡ causes_at number old places
  causes_at-keeps old new gone come [] m live = refl
  causes_at-keeps old new gone come (place ∷ places) m live =
      let here : causes_in number new place ≡ causes_in number old place =
      causes_in-keeps old new gone come place m (λ n. omega (arith, live n, held-cons number place places n)) in
      let rest : causes_at number new places ≡ causes_at number old places =
      causes_at-keeps old new gone come places m (λ n. omega (arith, live n, held-cons number place places n)) in
      rw (here, rest) refl

  -- a place, among the causes of a list
  pub causes_at-get : (tags : Tags) (places : List (Option T)) (at : ℕ)
      → get_or (causes_at number tags places) at None ≡ causes_in number tags (get_or places at None)
  causes_at-get tags [] at = refl
  causes_at-get tags (place ∷ places) zero = refl
  causes_at-get tags (place ∷ places) (suc at) = causes_at-get tags places at

  pub causes_at-empty : (tags : Tags) (count : ℕ) → causes_at number tags (replicate count None) ≡ replicate count None
  causes_at-empty tags zero = refl
  causes_at-empty tags (suc count) = ap (λ places. None ∷ places) (causes_at-empty tags count)

  -- the causes of a list where a place got a tag and lost the one that it had
  pub marked-causes : (old mid new : Tags) (places : List (Option T)) (at : ℕ) (t : T) → at < length places
      → Covered (held number places) old → Moved old mid no_use (one_use (number t))
      → Moved mid new (use_in number (get_or places at None)) no_use
      → causes_at number new (set places at (Some t)) ≡ set (causes_at number old places) at
      (Some (mid.members (number t)))
  marked-causes old mid new places at t within covers first second =
      let later : causes_at number new (set places at (Some t)) ≡ causes_at number mid (set places at (Some t)) =
      causes_at-keeps mid new (use_in number (get_or places at None)) no_use (set places at (Some t)) second
      (λ n. omega (arith, first.uses n, covers n, held-set number places at (Some t) n within)) in
      let before : causes_at number mid places ≡ causes_at number old places =
      causes_at-keeps old mid no_use (one_use (number t)) places first (λ n. omega (arith, covers n)) in
      later ∙ map-set (causes_in number mid) places at (Some t)
      ∙ ap (λ causes. set causes at (Some (mid.members (number t)))) before

  -- one place more of what a list has together
  whole-next : (tags : Tags) (wholes : List (Option (List ℕ))) (place : Option T) (made : Option (List ℕ))
      → made ≡ joined (whole_of wholes) (causes_in number tags place) → IfSome place (λ _. IfSome made IsSet)
      → made ≡ whole_of (wholes ++ causes_in number tags place ∷ [])
  whole-next tags wholes None made is set = is ∙ ap together (sym (all_in-none wholes))
  whole-next tags wholes (Some t) made is set =
      is ∙ together-more (all_in wholes) (tags.members (number t)) (subst (λ m. IfSome m IsSet) is set)
      ∙ ap together (sym (all_in-some wholes (tags.members (number t))))

  pub whole-step : (tags : Tags) (places : List (Option T)) (at : ℕ) (place : Option T) (made : Option (List ℕ))
      → at < length places
      → place ≡ get_or places at None → made ≡ joined (whole_of (causes_at number tags (take at places)))
      (causes_in number tags place)
      → IfSome place (λ _. IfSome made IsSet) → made ≡ whole_of (causes_at number tags (take (at + 1) places))
  whole-step tags places at place made within read is set =
      whole-next tags (causes_at number tags (take at places)) place made is set
      ∙ ap whole_of (ap (λ x. causes_at number tags (take at places) ++ causes_in number tags x ∷ []) read
      ∙ sym (map_more (causes_in number tags) places at None within))

  -- ---- what is held of a list

  pub held-parts : (places : List (Option T)) (at n : ℕ) → at < length places
      → held number (take at places) n + (use_in number (get_or places at None) n + held number (drop (at + 1) places)
      n) ≡ held number places n
  held-parts places at n within =
      let parts : held number (take at places) n + held number (drop at places) n ≡ held number places n =
      sum_by-take-drop (λ place. use_in number place n) places at in
      let first : held number (drop at places) n ≡ use_in number (get_or places at None) n + held number
      (drop (at + 1) places) n =
      ap (λ xs. held number xs n) (drop_more places at None within)
      ∙ held-cons number (get_or places at None) (drop (at + 1) places) n in
      omega (arith, parts, first)

  held-more : (places : List (Option T)) (at n : ℕ) → at < length places
      → held number (take (at + 1) places) n ≡ held number (take at places) n + use_in number (get_or places at None) n
  held-more places at n within =
      let parts : held number (take (at + 1) places) n + held number (drop (at + 1) places) n ≡ held number places n =
      sum_by-take-drop (λ place. use_in number place n) places (at + 1) in
      omega (arith, parts, held-parts places at n within)

  -- ---- a loop that empties places, one after another

  pub freed-live : (old now : Tags) (places : List (Option T)) (at : ℕ) (place : Option T) → at < length places
      → place ≡ get_or places at None → Covered (held number places) old
      → Moved old now (held number (take at places)) no_use → Covered (use_in number place) now
  freed-live old now places at place within read covers m n =
      omega (arith, m.uses n, covers n, held-parts places at n within, ap (λ x. use_in number x n) read)

  pub freed-more : (old now new : Tags) (places : List (Option T)) (at : ℕ) (place : Option T) → at < length places
      → place ≡ get_or places at None → Moved old now (held number (take at places)) no_use
      → Moved now new (use_in number place) no_use → Moved old new (held number (take (at + 1) places)) no_use
  freed-more old now new places at place within read first second =
      let each : (n : ℕ) → held number (take (at + 1) places) n
      ≡ held number (take at places) n + use_in number place n =
      λ n. omega (arith, held-more places at n within, ap (λ x. use_in number x n) read) in
      moved-then old now new (held number (take at places)) no_use (use_in number place) no_use
      (held number (take (at + 1) places)) no_use
      first second (λ n. omega (arith, each n)) (λ n. omega (arith, each n)) (λ n. omega (arith, each n))

  -- ---- a loop that makes one tag for all places

  pub whole-live : (old now : Tags) (places : List (Option T)) (at : ℕ) (whole place : Option T)
      → place ≡ get_or places at None
      → Covered (held number places) old → Moved old now no_use (use_in number whole)
      → (n : ℕ) → use_in number whole n + use_in number place n ≤ now.uses n
  whole-live old now places at whole place read covers m n =
      omega (arith, m.uses n, covers n, use_in-held number places at n, ap (λ x. use_in number x n) read)

  -- a tag for another one
  pub moved-through : (old now new : Tags) (between come : ℕ → ℕ) → Moved old now no_use between
      → Moved now new between come
      → Moved old new no_use come
  moved-through old now new between come first second =
      moved-then old now new no_use between between come no_use come first second
      (λ n. omega arith) (λ n. omega arith) (λ n. omega arith)

  -- a place that is held beside what came keeps its causes
  pub causes_in-beside : (old now : Tags) (come : ℕ → ℕ) (places : List (Option T)) (at : ℕ) (place : Option T)
      → place ≡ get_or places at None
      → Covered (held number places) old → Moved old now no_use come
      → causes_in number now place ≡ causes_in number old place
  causes_in-beside old now come places at place read covers m =
      causes_in-keeps old now no_use come place m
      (λ n. omega (arith, covers n, use_in-held number places at n, ap (λ x. use_in number x n) read))

  -- ---- a loop that joins two lists, place by place

  pub joined-held : (old now new : Tags) (into : List (Option T)) (at : ℕ) (made : Option T) → at < length into
      → get_or into at None ≡ None → Moved old now no_use (held number into) → Moved now new no_use (use_in number made)
      → Moved old new no_use (held number (set into at made))
  joined-held old now new into at made within empty first second =
      let each : (n : ℕ) → held number (set into at made) n ≡ held number into n + use_in number made n =
      λ n. omega (arith, held-set number into at made n within, ap (λ x. use_in number x n) empty) in
      moved-then old now new no_use (held number into) no_use (use_in number made) no_use
      (held number (set into at made))
      first second (λ n. omega (arith, each n)) (λ n. omega arith) (λ n. omega arith)

  pub joined-made : (now new : Tags) (into : List (Option T)) (at : ℕ) (made : Option T) (C : ℕ → Option (List ℕ))
      → at < length into
      → Covered (held number into) now → Moved now new no_use (use_in number made) → causes_in number new made ≡ C at
      → ((k : ℕ) → k < at → causes_in number now (get_or into k None) ≡ C k)
      → (k : ℕ) → k < at + 1 → causes_in number new (get_or (set into at made) k None) ≡ C k
  joined-made now new into at made C within covers m here below =
      below_more (λ k. causes_in number new (get_or (set into at made) k None) ≡ C k) at
      (λ k less.
      let other : get_or (set into at made) k None ≡ get_or into k None =
      get_or-set_other into at k made None (λ same. absurd (omega (arith, same, less))) in
      ap (causes_in number new) other ∙ causes_in-beside now new (use_in number made) into k (get_or into k None) refl
      covers m ∙ below k less)
      (ap (causes_in number new) (get_or-set_same into at made None within) ∙ here)

  pub joins : (old now : Tags) (into places others : List (Option T)) → length into ≡ length places
      → length others ≡ length places
      → ((k : ℕ) → k < length places → causes_in number now (get_or into k None)
      ≡ joined (causes_in number old (get_or places k None)) (causes_in number old (get_or others k None)))
      → causes_at number now into ≡ joined_all (causes_at number old places) (causes_at number old others)
  joins old now into places others made other each =
      joined_all-is (causes_at number now into) (causes_at number old places) (causes_at number old others)
      (length-map into (causes_in number now) ∙ made ∙ sym (length-map places (causes_in number old)))
      (length-map others (causes_in number old) ∙ other ∙ sym (length-map places (causes_in number old)))
      (λ k within.
      causes_at-get now into k ∙ each k (omega (arith, within, length-map places (causes_in number old)))
      ∙ ap (λ x. joined x (causes_in number old (get_or others k None))) (sym (causes_at-get old places k))
      ∙ ap (λ x. joined (get_or (causes_at number old places) k None) x) (sym (causes_at-get old others k)))

  -- a place whose causes are some has a tag
  pub made-some : (tags : Tags) (made : Option T) (whole : Option (List ℕ)) → causes_in number tags made ≡ whole
      → IsSome whole → IsSome made
  made-some tags None whole is some = subst IsSome (sym is) some
  made-some tags (Some t) whole is some = refl
