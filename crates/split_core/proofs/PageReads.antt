-- What the cache holds is what the history holds, after a request that reads a page is done.
use Rattle.std.proofs.Common.{◌≡◌, ℕ, ◌<◌, List, length, slice_get, count_by, Bool, true, false, not, ◌&&◌, Option}
use Rattle.std.proofs.Common.{Some, None, is_some, IsSome, refl, ap, sym, subst, ◌∙◌, arith, if◌then◌else◌}
use Rattle.std.specs.Option.{option_map}
use Rattle.std.proofs.lemmas.Bool.{both_ways}
use Rattle.split_types.specs.declared.ids.Pid.{Pid}
use Rattle.split_types.specs.declared.ids.ReqId.{ReqId}
use Rattle.split_types.specs.declared.ids.Serial.{Serial}
use Rattle.split_types.specs.declared.buf.Buf.{Buf}
use Rattle.split_types.specs.declared.buf.Buf.TheVariants.{Page}
use Rattle.split_types.specs.declared.request.ReqKind.TheVariants.{Read}
use Rattle.split_types.specs.declared.request.Request.{Request}
use Rattle.split_types.specs.declared.workload.Workload.{Workload}
use Rattle.split_types.specs.declared.event.Event.{Event}
use Rattle.split_types.specs.declared.event.Event.TheVariants.{Done}
use Rattle.split_types.specs.History.{◌▹◌}
use Rattle.split_types.specs.Hooks.{same_buf}
use Rattle.split_types.specs.Pages.{is_live_page, is_dirty, is_busy}
use Rattle.split_types.specs.Requests.{requests}
use Rattle.split_types.specs.Reads.{is_loading}
use Rattle.split_types.specs.HeldPages.{is_held}
use Rattle.split_types.specs.Victims.{last_touch}
use Rattle.split_types.specs.PageBytes.{page_bytes}
use Rattle.split_types.specs.PagesInCache.{PageIs, CountsDone, IsThere, pages_written}
use Rattle.split_types.specs.Accepted.{IsAccepted}
use Rattle.split_types.specs.Legal.{IsLegal}
use Rattle.split_types.proofs.Shared.{same_buf-is, same_buf-self}
use Rattle.split_types.proofs.Shared.{pages_change}
use Rattle.split_types.proofs.Shared.{pins_change}
use Rattle.split_types.proofs.Shared.{counts_change}
use Rattle.split_types.proofs.Shared.{touches_change}
use Rattle.split_types.proofs.Shared.{running_causes}
use Rattle.cause_set.specs.Tags.{Tags, same, set_in}
use Rattle.page_cache.specs.Held.{Held}
use Rattle.page_cache.specs.Cached as cached
use Rattle.page_cache.specs.Cached.{Cached, page_of, IsDataPage}
use Rattle.page_cache.specs.Changes.{ChangesOnly, Touches, bytes_in, loaded, one_if}
use Rattle.split_core.specs.Pages.{CacheStands}
use Rattle.split_core.proofs.PageFacts.{Mirrors, mirrors, mirrors_at, Leaves, looks_same, there_before, mirrors_left}
use Rattle.split_core.proofs.PageOrder.{apart_pages, order_touched}
use Rattle.split_core.proofs.PageNotes.{Passes, stands_by, pages_quiet}
use Rattle.split_core.proofs.PageLoads.{reads_page, covers_none}

-- ---- the page that is loaded
-- y is x, but that it isn't loading and has these bytes
pub record LoadsAs (bytes : List ℕ) (x y : Option Held) : Type 0 where
  pub held_is : is_some y ≡ is_some x
  pub loading_is : cached.is_loading y ≡ false
  pub tag_is : cached.tag_in y ≡ cached.tag_in x
  pub busy_is : cached.is_busy y ≡ cached.is_busy x
  pub pin_is : cached.pin_in y ≡ cached.pin_in x
  pub unsettled_is : cached.is_unsettled y ≡ cached.is_unsettled x
  pub bytes_are : bytes_in y ≡ bytes

loads_by : (bytes : List ℕ) (x : Option Held) → cached.is_loading x ≡ true
    → LoadsAs bytes x (option_map (loaded bytes) x)
loads_by bytes None is = absurd (cc)
loads_by bytes (Some p) is = record {
  held_is = refl;
  loading_is = refl;
  tag_is = refl;
  busy_is = refl;
  pin_is = refl;
  unsettled_is = refl;
  bytes_are = refl;
}

loads_as : (bytes : List ℕ) (x y : Option Held) → cached.is_loading x ≡ true → y ≡ option_map (loaded bytes) x
    → LoadsAs bytes x y
loads_as bytes x y is made = subst (LoadsAs bytes x) (sym made) (loads_by bytes x is)

-- what is known of a request that is done, and that reads the page g of a file
pub record ReadIs (w : Workload) (h : List Event) (k : ℕ) (id : ReqId) (ok : Bool) (r : Request) (p : Pid) (s : Serial)
    (g : ℕ) : Type 0 where
  pub accepted : IsAccepted w
  pub legal : IsLegal w (h ▹ Done k id ok)
  pub at : slice_get (requests h) id.0 ≡ Some r
  pub kind : r.kind ≡ Read p s g
  pub loading : is_loading w h (Page s g) ≡ true
  pub few : g < 1008

after_read : (w : Workload) (h : List Event) (k : ℕ) (id : ReqId) (ok : Bool) (r : Request) (p : Pid) (s : Serial)
    (g : ℕ) (b : Buf) → ReadIs w h k id ok r p s g
    → PageIs w (h ▹ Done k id ok) b (is_held w h b) (not (same_buf b (Page s g)) && is_loading w h b) (is_dirty w h b)
    (is_busy w h b)
after_read w h k id ok r p s g b is =
    let after = pages_change w h (Done k id ok) b is.accepted is.legal r is.at
    in record {
      held_is = after.held_is;
      loading_is = after.loading_is ∙ ap (λ t. not t && is_loading w h b) (reads_page r p s g b is.kind);
      dirty_is = after.dirty_is;
      busy_is = after.busy_is ∙ ap (λ t. not t && is_busy w h b) (covers_none r p s g b is.kind);
    }

read_page : (w : Workload) (h : List Event) (k : ℕ) (id : ReqId) (ok : Bool) (r : Request) (p : Pid) (s : Serial)
    (g : ℕ) (bytes : List ℕ) (tags : Tags) (x y : Option Held) → ReadIs w h k id ok r p s g → LoadsAs bytes x y
    → bytes ≡ page_bytes w h s g → Mirrors w h tags x s g → Mirrors w (h ▹ Done k id ok) tags y s g
read_page w h k id ok r p s g bytes tags x y is loads whole m =
    let after = after_read w h k id ok r p s g (Page s g) is
    in record {
      held_is = loads.held_is ∙ m.held_is ∙ sym after.held_is;
      loading_is = loads.loading_is
          ∙ sym (after.loading_is ∙ ap (λ t. not t && is_loading w h (Page s g)) (same_buf-self (Page s g)));
      dirty_is = ap is_some loads.tag_is ∙ m.dirty_is ∙ sym after.dirty_is;
      busy_is = loads.busy_is ∙ m.busy_is ∙ sym after.busy_is;
      pin_is = loads.pin_is ∙ m.pin_is
          ∙ sym (pins_change.change w h (Done k id ok) (Page s g) is.accepted is.legal);
      causes_is = ap (set_in same tags) loads.tag_is ∙ m.causes_is
          ∙ sym (running_causes.kept h (Done k id ok) (Page s g) refl refl);
      bytes_is = λ there. loads.bytes_are ∙ whole;
    }

-- ---- the other pages
leaves_read : (w : Workload) (h : List Event) (k : ℕ) (id : ReqId) (ok : Bool) (r : Request) (p : Pid) (s t : Serial)
    (g m : ℕ) → ReadIs w h k id ok r p s g → same_buf (Page t m) (Page s g) ≡ false
    → Leaves w h (h ▹ Done k id ok) t m
leaves_read w h k id ok r p s t g m is other =
    let after = after_read w h k id ok r p s g (Page t m) is
    in record {
      page = record {
        held_is = after.held_is;
        loading_is = after.loading_is ∙ ap (λ b. not b && is_loading w h (Page t m)) other;
        dirty_is = after.dirty_is;
        busy_is = after.busy_is;
      };
      causes_are = running_causes.kept h (Done k id ok) (Page t m) refl refl;
      bytes_are = refl;
    }

-- ---- a request that reads is done
none_written : (w : Workload) (h : List Event) (r : Request) (p : Pid) (s : Serial) (g : ℕ) → r.kind ≡ Read p s g
    → count_by (λ b. is_live_page w h b && not (is_dirty w h b)) (pages_written r) ≡ 0
none_written w h r p s g is = rw is refl

pub pages_read : (w : Workload) (h : List Event) (k : ℕ) (id : ReqId) (ok : Bool) (r : Request) (p : Pid) (s : Serial)
    (g : ℕ) (bytes : List ℕ) (old new : Cached) (tags : Tags) → ReadIs w h k id ok r p s g
    → ChangesOnly old new (Page s g) (option_map (loaded bytes) (page_of old (Page s g)))
    → Touches old new (Page s g) → bytes ≡ page_bytes w h s g → CacheStands w old tags h
    → CacheStands w new tags (h ▹ Done k id ok)
pages_read w h k id ok r p s g bytes old new tags is page touches whole stands =
    stands_by w l new tags (page.limit ∙ stands.limit) (λ t j. each t j (same_buf (Page t j) (Page s g)) refl)
    (order_touched w h l old new (Page s g) touches
    (λ t j there. record {
      is = held t j there (same_buf (Page t j) (Page s g)) refl;
      touch = touches_change.change w h (Done k id ok) (Page t j) is.accepted is.legal r is.at
          ∙ ap (λ b. if b then length h else last_touch h (Page t j)) (reads_page r p s g (Page t j) is.kind);
      there = λ other. there_before w h l t j (leaves_read w h k id ok r p s t g j is other) there;
    })
    stands.order)
    (omega (arith, page.count, one, stands.held_counted, counts.held_is))
    (omega (
      arith,
      page.unsettled,
      still,
      stands.unsettled_counted,
      counts.settled_is,
      none_written w h r p s g is.kind,
    ))
    (λ b there. alone b there (same_buf b (Page s g)) refl)
  where
    l : List Event
    l = h ▹ Done k id ok

    loads : LoadsAs bytes (page_of old (Page s g)) (page_of new (Page s g))
    loads = loads_as bytes (page_of old (Page s g)) (page_of new (Page s g))
        (stands.loading_are s g ∙ is.loading) page.page

    one : one_if (is_some (option_map (loaded bytes) (page_of old (Page s g))))
        ≡ one_if (is_some (page_of old (Page s g)))
    one = ap (λ (z : Option Held). one_if (is_some z)) (sym page.page) ∙ ap one_if loads.held_is

    still : one_if (cached.is_unsettled (option_map (loaded bytes) (page_of old (Page s g))))
        ≡ one_if (cached.is_unsettled (page_of old (Page s g)))
    still = ap (λ (z : Option Held). one_if (cached.is_unsettled z)) (sym page.page) ∙ ap one_if loads.unsettled_is

    counts : CountsDone w h l r
    counts = counts_change w h (Done k id ok) is.accepted is.legal r is.at

    each : (t : Serial) (j : ℕ) (b : Bool) → same_buf (Page t j) (Page s g) ≡ b
        → Mirrors w l tags (page_of new (Page t j)) t j
    each t j true here =
        mirrors_at w l new tags s t g j (sym (same_buf-is (Page t j) (Page s g) here))
        (read_page w h k id ok r p s g bytes tags (page_of old (Page s g)) (page_of new (Page s g)) is loads whole
        (mirrors w h old tags s g is.accepted is.legal.1 stands))
    each t j false other =
        let kept : page_of new (Page t j) ≡ page_of old (Page t j) =
        page.others (Page t j) (apart_pages (Page t j) (Page s g) other)
        in let own = mirrors w h old tags t j is.accepted is.legal.1 stands
        in mirrors_left w h l tags tags (page_of old (Page t j)) (page_of new (Page t j)) t j
        (leaves_read w h k id ok r p s t g j is other)
        (looks_same (page_of old (Page t j)) (page_of new (Page t j)) kept)
        (ap cached.pin_in kept ∙ own.pin_is
        ∙ sym (pins_change.change w h (Done k id ok) (Page t j) is.accepted is.legal))
        (ap (λ (z : Option Held). set_in same tags (cached.tag_in z)) kept) own

    held : (t : Serial) (j : ℕ) → IsThere w l (Page t j) → (b : Bool) → same_buf (Page t j) (Page s g) ≡ b
        → IsSome (page_of new (Page t j))
    held t j there b is_page = (each t j b is_page).held_is ∙ there.held

    alone : (b : Buf) → is_some (page_of new b) ≡ true → (t : Bool) → same_buf b (Page s g) ≡ t → IsDataPage b
    alone b there true here = subst IsDataPage (sym (same_buf-is b (Page s g) here)) is.few
    alone b there false other =
        stands.pages_alone b (sym (ap is_some (page.others b (apart_pages b (Page s g) other))) ∙ there)

-- ---- a request is done that reads a page of a file that isn't there any more
-- what is known of it: the page isn't held
pub record GoneIs (w : Workload) (h : List Event) (k : ℕ) (id : ReqId) (ok : Bool) (r : Request) (p : Pid) (s : Serial)
    (g : ℕ) : Type 0 where
  pub accepted : IsAccepted w
  pub legal : IsLegal w (h ▹ Done k id ok)
  pub at : slice_get (requests h) id.0 ≡ Some r
  pub kind : r.kind ≡ Read p s g
  pub unread : is_loading w h (Page s g) ≡ false
  pub out : is_held w h (Page s g) ≡ false

-- no page was loading for it
unread_all : (w : Workload) (h : List Event) (k : ℕ) (id : ReqId) (ok : Bool) (r : Request) (p : Pid) (s : Serial)
    (g : ℕ) (b : Buf) → GoneIs w h k id ok r p s g → (t : Bool) → same_buf b (Page s g) ≡ t
    → (not t && is_loading w h b) ≡ is_loading w h b
unread_all w h k id ok r p s g b is true here =
    sym (ap (is_loading w h) (same_buf-is b (Page s g) here) ∙ is.unread)
unread_all w h k id ok r p s g b is false other = refl

leaves_gone : (w : Workload) (h : List Event) (k : ℕ) (id : ReqId) (ok : Bool) (r : Request) (p : Pid) (s t : Serial)
    (g m : ℕ) → GoneIs w h k id ok r p s g → Leaves w h (h ▹ Done k id ok) t m
leaves_gone w h k id ok r p s t g m is =
    let after = pages_change w h (Done k id ok) (Page t m) is.accepted is.legal r is.at
    in record {
      page = record {
        held_is = after.held_is;
        loading_is = after.loading_is
            ∙ ap (λ b. not b && is_loading w h (Page t m)) (reads_page r p s g (Page t m) is.kind)
            ∙ unread_all w h k id ok r p s g (Page t m) is (same_buf (Page t m) (Page s g)) refl;
        dirty_is = after.dirty_is;
        busy_is = after.busy_is
            ∙ ap (λ b. not b && is_busy w h (Page t m)) (covers_none r p s g (Page t m) is.kind);
      };
      causes_are = running_causes.kept h (Done k id ok) (Page t m) refl refl;
      bytes_are = refl;
    }

pub pages_gone : (w : Workload) (h : List Event) (k : ℕ) (id : ReqId) (ok : Bool) (r : Request) (p : Pid) (s : Serial)
    (g : ℕ) (c : Cached) (tags : Tags) → GoneIs w h k id ok r p s g → CacheStands w c tags h
    → CacheStands w c tags (h ▹ Done k id ok)
pages_gone w h k id ok r p s g c tags is stands =
    pages_quiet w h (Done k id ok) c tags is.accepted is.legal passes
    (λ t m there. untouched t m there (same_buf (Page t m) (Page s g)) refl) stands
  where
    counts : CountsDone w h (h ▹ Done k id ok) r
    counts = counts_change w h (Done k id ok) is.accepted is.legal r is.at

    passes : Passes w h (h ▹ Done k id ok) (λ o. o)
    passes = record {
      leaves = λ t m. leaves_gone w h k id ok r p s t g m is;
      pins = λ t m. pins_change.change w h (Done k id ok) (Page t m) is.accepted is.legal;
      counts = record {
        held_is = counts.held_is;
        unsettled_is = omega (arith, counts.settled_is, none_written w h r p s g is.kind);
      };
    }

    untouched : (t : Serial) (m : ℕ) → IsThere w (h ▹ Done k id ok) (Page t m) → (b : Bool)
        → same_buf (Page t m) (Page s g) ≡ b → last_touch (h ▹ Done k id ok) (Page t m) ≡ last_touch h (Page t m)
    untouched t m there true here =
        absurd (both_ways (is_held w h (Page t m)) (ap (is_held w h) (same_buf-is (Page t m) (Page s g) here) ∙ is.out)
        (there_before w h (h ▹ Done k id ok) t m (leaves_gone w h k id ok r p s t g m is) there).held)
    untouched t m there false other =
        touches_change.change w h (Done k id ok) (Page t m) is.accepted is.legal r is.at
        ∙ ap (λ b. if b then length h else last_touch h (Page t m)) (reads_page r p s g (Page t m) is.kind ∙ other)
