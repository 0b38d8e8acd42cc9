-- Where a run begins, and how far it goes on.
use borrow.Author.Count.{below_none, below_more}
use Rattle.std.proofs.Common.{◌≡◌, ◌∙◌, ℕ, ◌+◌, ◌<◌, Bool, true, ◌&&◌, Option, Some, None, refl, sym, subst, arith}
use Rattle.std.proofs.lemmas.Bool.{and_from}
use Rattle.std.proofs.lemmas.Bool.Decides.{nat_tests}
use Rattle.split_types.specs.declared.ids.Serial.{Serial}
use Rattle.split_types.specs.declared.buf.Buf.{Buf}
use Rattle.split_types.specs.declared.buf.Buf.TheVariants.{Page, Bitmap, Dir, Inode}
use Rattle.split_types.specs.ServedRuns.{are_apart}
use Rattle.small_fs.specs.Files.{Files}
use Rattle.page_cache.specs.Cached.{Cached, page_of, is_ready}
use Rattle.page_cache.specs.Changes.{IsReady, IsFirstReady}
use Rattle.writeback.specs.ServedRun.{block_of, goes_on}

-- the first buffer that is dirty and not busy is a page
pub first_is_page : (c : Cached) (b : Buf) → IsFirstReady c b → (s : Serial) × (g : ℕ) × (b ≡ Page s g)
first_is_page c (Page s g) first = (s, g, refl)
first_is_page c Bitmap first = absurd (first.first Bitmap first.ready)
first_is_page c (Dir k) first = absurd (first.first (Dir k) first.ready)
first_is_page c (Inode t) first = absurd (first.first (Inode t) first.ready)

-- a page is no page apart from itself
apart_from_itself : (block : Option ℕ) → are_apart 0 block block ≡ true
apart_from_itself None = refl
apart_from_itself (Some x) = grind (arith, nat_tests)

-- the page with which a run begins goes on with it
pub start_goes_on : (c : Cached) (fs : Files) (s : Serial) (g : ℕ) → IsReady c (Page s g)
    → (k : ℕ) → k < 1 → goes_on c fs s g k ≡ true
start_goes_on c fs s g ready =
    let here : g + 0 ≡ g = omega arith in
    below_more (λ k. goes_on c fs s g k ≡ true) 0 (below_none (λ k. goes_on c fs s g k ≡ true))
    (subst
    (λ j. (is_ready (page_of c (Page s j)) && are_apart 0 (block_of fs s g) (block_of fs s j)) ≡ true)
    (sym here)
    (and_from (is_ready (page_of c (Page s g))) (are_apart 0 (block_of fs s g) (block_of fs s g)) ready
    (apart_from_itself (block_of fs s g))))

-- one page more goes on
pub one_more_goes_on : (c : Cached) (fs : Files) (s : Serial) (g n : ℕ) (goes : Bool) → goes ≡ goes_on c fs s g n
    → goes ≡ true → ((k : ℕ) → k < n → goes_on c fs s g k ≡ true)
    → (k : ℕ) → k < n + 1 → goes_on c fs s g k ≡ true
one_more_goes_on c fs s g n goes is passes below =
    below_more (λ k. goes_on c fs s g k ≡ true) n below (sym is ∙ passes)
