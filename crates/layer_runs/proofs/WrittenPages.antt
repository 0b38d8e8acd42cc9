-- The first pages of a file, written one after another into a cache of three places.
use Rattle.std.proofs.Common.{◌≡◌, ◌≢◌, ◌∙◌, ℕ, ◌+◌, ◌<◌, Bool, true, false, Option, Some, None, is_some, IsSome, MatchOption, ap, refl, sym, subst, arith, inl, inr}
use Rattle.std.proofs.lemmas.Bool.{both_ways, cases_eq}
use Rattle.split_types.specs.declared.ids.Pid.{Pid}
use Rattle.split_types.specs.declared.ids.Serial.{Serial}
use Rattle.split_types.specs.declared.buf.Buf.{Buf}
use Rattle.split_types.specs.declared.buf.Buf.TheVariants.{Page}
use Rattle.split_types.specs.Hooks.{same_buf}
use Rattle.split_types.proofs.Shared.{same_buf-is, same_buf-self}
use Rattle.cause_set.specs.Tags.{Tags}
use Rattle.page_cache.specs.Held.{Held}
use Rattle.page_cache.specs.Cached.{Cached, page_of, held_in, is_ready}
use Rattle.page_cache.specs.Changes.{one_if, CanWrite, IsReady, Writes}

-- the first n pages of the file are all that is held
pub record HoldsFirst (c : Cached) (s : Serial) (n : ℕ) : Type 0 where
  pub limit : c.limit ≡ 3
  pub held : held_in c ≡ n
  pub pages : (t : Serial) (k : ℕ) → IsSome (page_of c (Page t k)) → (t ≡ s) × (k < n)

next_is_none : (c : Cached) (s : Serial) (n : ℕ) → HoldsFirst c s n → page_of c (Page s n) ≡ None
next_is_none c s n holds = by_page (page_of c (Page s n)) refl
  where
    by_page : (x : Option Held) → page_of c (Page s n) ≡ x → page_of c (Page s n) ≡ None
    by_page None is = is
    by_page (Some p) is = absurd (omega (arith, (holds.pages s n (ap is_some is)).1))

pub may_be_written : (c : Cached) (s : Serial) (n : ℕ) → HoldsFirst c s n → n < 3 → CanWrite c (Page s n)
may_be_written c s n holds few =
    subst (λ (x : Option Held). MatchOption x (held_in c < c.limit) (λ p. p.state.loading ≡ false))
    (sym (next_is_none c s n holds)) (omega (arith, holds.held, holds.limit, few))

pub holds_one_more : (before after : Tags) (old new : Cached) (s : Serial) (n from to byte : ℕ) (by : Pid)
    → HoldsFirst old s n → Writes before after old new (Page s n) from to byte by → HoldsFirst new s (n + 1)
holds_one_more before after old new s n from to byte by holds writes =
    record {
      limit = writes.page.limit ∙ holds.limit;
      held =
          (let was : one_if (is_some (page_of old (Page s n))) ≡ 0 =
          ap (λ (x : Option Held). one_if (is_some x)) (next_is_none old s n holds)
          in omega (arith, writes.page.count, was, holds.held));
      pages = λ t k there. by_test t k (same_buf (Page t k) (Page s n)) refl there;
    }
  where
    by_test : (t : Serial) (k : ℕ) (same : Bool) → same_buf (Page t k) (Page s n) ≡ same
        → IsSome (page_of new (Page t k)) → (t ≡ s) × (k < n + 1)
    by_test t k true same there =
        let is : Page t k ≡ Page s n = same_buf-is (Page t k) (Page s n) same in
        let serial : t ≡ s = cc in
        let page : k ≡ n = cc in
        (serial, omega (arith, page))
    by_test t k false other there =
        let apart : Page t k ≢ Page s n =
        λ is. both_ways (same_buf (Page t k) (Page s n)) other
        (subst (λ (b : Buf). same_buf (Page t k) b ≡ true) is (same_buf-self (Page t k))) in
        let was = holds.pages t k (ap is_some (sym (writes.page.others (Page t k) apart)) ∙ there) in
        (was.0, omega (arith, was.1))

-- a page that is dirty and not busy is held
pub ready_is_held : (c : Cached) (b : Buf) → IsReady c b → IsSome (page_of c b)
ready_is_held c b ready = by_page (page_of c b) ready
  where
    by_page : (x : Option Held) → is_ready x ≡ true → is_some x ≡ true
    by_page None ready = absurd (cc)
    by_page (Some p) ready = refl

-- where nothing was held, the one page that changed is all of its file that is held
pub only_page : (old new : Cached) (s : Serial) (n : ℕ) → ((b : Buf) → page_of old b ≡ None)
    → ((b : Buf) → b ≢ Page s n → page_of new b ≡ page_of old b) → (k : ℕ) → IsSome (page_of new (Page s k)) → k ≡ n
only_page old new s n empty others k there = elim (cases_eq k n) [
  | inl is ↦ is
  | inr apart ↦
      (let none : page_of new (Page s k) ≡ None =
      others (Page s k) (λ same. apart (page_is same)) ∙ empty (Page s k)
      in absurd (nothing (subst (λ (x : Option Held). IsSome x) none there)))
]
  where
    page_is : Page s k ≡ Page s n → k ≡ n
    page_is same = cc

    nothing : IsSome {T = Held} None → ⊥
    nothing is = absurd (cc)
