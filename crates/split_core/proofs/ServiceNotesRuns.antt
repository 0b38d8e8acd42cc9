-- What the cache has of the run that writeback serves next.
use Rattle.std.proofs.Common.{◌≡◌, ℕ, ◌+◌, ◌-◌, ◌<◌, ◌≤◌, List, [], ◌∷◌, length, map, true, not, Option, Some, None, is_some}
use Rattle.std.proofs.Common.{refl, ap, sym, subst, ◌∙◌, arith}
use Rattle.std.specs.Prelude.{take_while, IsTrue}
use Rattle.std.specs.List.{flat_map, range_with_len}
use Rattle.std.proofs.lemmas.Bool.{and_parts, and_from}
use Rattle.std.proofs.lemmas.Option.{same_Some}
use Rattle.split_types.specs.declared.ids.Serial.{Serial}
use Rattle.split_types.specs.declared.buf.Buf.{Buf}
use Rattle.split_types.specs.declared.buf.Buf.TheVariants.{Page}
use Rattle.split_types.specs.declared.request.Run.{Run}
use Rattle.split_types.specs.declared.request.Service.{Service}
use Rattle.split_types.specs.declared.request.Service.TheVariants as service
use Rattle.split_types.specs.declared.workload.Workload.{Workload}
use Rattle.split_types.specs.declared.event.Event.{Event}
use Rattle.split_types.specs.declared.event.Event.TheVariants.{Serve}
use Rattle.split_types.specs.History.{◌▹◌}
use Rattle.split_types.specs.Hooks.{maker}
use Rattle.split_types.specs.OpenDirtyings.{open_at}
use Rattle.split_types.specs.Parents.{pages_of}
use Rattle.split_types.specs.Sets.{union_of}
use Rattle.split_types.specs.Blame.{blame, causes}
use Rattle.split_types.specs.Pages.{is_dirty, is_busy, is_ready}
use Rattle.split_types.specs.HeldPages.{known_pages}
use Rattle.split_types.specs.FileMaps.{mapped_block}
use Rattle.split_types.specs.Writeback.{service, served_run}
use Rattle.split_types.specs.ServedRuns.{first_ready, are_apart, goes_on, run_from, run_to_serve}
use Rattle.split_types.specs.Proving.Came.{Came}
use Rattle.split_types.specs.Proving.Came.Came.{came_serve}
use Rattle.split_types.proofs.Shared.{blame-new, union-empty, causes-all, came, least_passes}
use Rattle.split_types.proofs.MapRuns.{while_passes, while_some, while_most, apart_self}
use Rattle.cause_set.specs.Tags.{Tags}
use Rattle.page_cache.specs.Held.{Held}
use Rattle.page_cache.specs.Cached.{Cached, page_of, tag_in, causes_of}
use Rattle.proxies.specs.declared.writeback.Writeback.{Writeback}
use Rattle.proxies.specs.declared.writeback.Writeback.TheVariants as writeback
use Rattle.split_core.specs.Fits.{Fits}
use Rattle.split_core.specs.Pages.{CacheStands}
use Rattle.split_core.specs.Served.{service_of}
use Rattle.split_core.proofs.PageCargo.{map_pages}

-- a run of pages that are dirty in the cache
pub record IsDirtyRun (c : Cached) (run : Run) : Type 0 where
  pub some : 1 ≤ run.n
  pub most : run.n ≤ 16
  pub within : run.page + run.n ≤ 1008
  pub dirty : (k : ℕ) → k < run.n → IsTrue (is_some (tag_in (page_of c (Page run.serial (run.page + k)))))

-- what has a tag is held
tagged : (x : Option Held) → is_some (tag_in x) ≡ true → is_some x ≡ true
tagged None has = absurd (cc)
tagged (Some p) has = refl

-- the run from a page that is ready
run_at : (w : Workload) (h : List Event) (c : Cached) (tags : Tags) (s : Serial) (g : ℕ) → CacheStands w c tags h
    → is_ready w h (Page s g) ≡ true
    → IsDirtyRun c (record { serial = s; page = g; n = length (take_while (goes_on w h s g) (range_with_len 0 16)) })
run_at w h c tags s g stands ready = record {
  some = some;
  most = while_most (goes_on w h s g) 16;
  within =
      let last : n - 1 < n = omega (arith, some) in
      let there = tagged (page_of c (Page s (g + (n - 1)))) (dirty (n - 1) last) in
      let few : g + (n - 1) < 1008 = stands.pages_alone (Page s (g + (n - 1))) there in
      omega (arith, few, some);
  dirty = dirty;
}
  where
    n : ℕ
    n = length (take_while (goes_on w h s g) (range_with_len 0 16))

    same : g + 0 ≡ g
    same = omega arith

    some : 1 ≤ n
    some =
        while_some (goes_on w h s g) 16
        (and_from (is_ready w h (Page s (g + 0)))
        (are_apart 0 (mapped_block w h s.0 g) (mapped_block w h s.0 (g + 0)))
        (subst (λ k. is_ready w h (Page s k) ≡ true) (sym same) ready)
        (subst (λ k. are_apart 0 (mapped_block w h s.0 g) (mapped_block w h s.0 k) ≡ true) (sym same)
        (apart_self (mapped_block w h s.0 g))))
        (omega arith)

    dirty : (k : ℕ) → k < n → is_some (tag_in (page_of c (Page s (g + k)))) ≡ true
    dirty k low =
        let here = (and_parts (is_ready w h (Page s (g + k)))
        (are_apart k (mapped_block w h s.0 g) (mapped_block w h s.0 (g + k)))
        (while_passes (goes_on w h s g) 16 k low)).0 in
        stands.dirty_are s (g + k)
        ∙ (and_parts (is_dirty w h (Page s (g + k))) (not (is_busy w h (Page s (g + k)))) here).0

run_next : (w : Workload) (h : List Event) (c : Cached) (tags : Tags) (run : Run) → CacheStands w c tags h
    → run_to_serve w h ≡ Some run → IsDirtyRun c run
run_next w h c tags run stands found =
    by_first (first_ready w h) (least_passes (is_ready w h) (known_pages h)) found
  where
    by_first : (o : Option Buf) → ((b : Buf) → o ≡ Some b → is_ready w h b ≡ true)
        → (elim o [ None ↦ None | Some b ↦ run_from w h b ]) ≡ Some run → IsDirtyRun c run
    by_first None ready is = absurd (cc)
    by_first (Some (Page s g)) ready is =
        subst (IsDirtyRun c) (same_Some _ run is) (run_at w h c tags s g stands (ready (Page s g) refl))
    by_first (Some b) ready is = absurd (cc)

-- ---- a serve
-- what is known of one that comes next
pub record ServesNext (h : List Event) (c : Cached) (run : Run) : Type 0 where
  pub idle : service h ≡ service.Idle
  pub pages : IsDirtyRun c run

none_served : (x : Service) → served_run x ≡ None → x ≡ service.Idle
none_served service.Idle is = refl
none_served (service.Serving run) is = absurd (cc)
none_served (service.Mapped run) is = absurd (cc)

serves_by : (w : Workload) (h : List Event) (s : Serial) (g n : ℕ) (c : Cached) (tags : Tags) → CacheStands w c tags h
    → Came w h (Serve s g n) → ServesNext h c (record { serial = s; page = g; n = n })
serves_by w h s g n c tags stands (came_serve run idle found) =
    record { idle = none_served (service h) idle; pages = run_next w h c tags run stands found }

pub serves_next : (w : Workload) (h : List Event) (e : Event) (s : Serial) (g n : ℕ) (c : Cached) (tags : Tags)
    → e ≡ Serve s g n → CacheStands w c tags h → Fits w h e
    → ServesNext h c (record { serial = s; page = g; n = n })
serves_next w h e s g n c tags is stands fits =
    let f : Fits w h (Serve s g n) = subst (Fits w h) is fits in
    serves_by w h s g n c tags stands (came w h (maker (Serve s g n)) (Serve s g n) f.legal.0)

-- those to blame for it are the causes of its pages
pub serve_blame : (w : Workload) (h : List Event) (s : Serial) (g n : ℕ) (c : Cached) (tags : Tags)
    → CacheStands w c tags h
    → union_of (map (causes_of tags c) (pages_of s g n)) ≡ blame (h ▹ Serve s g n) (length h)
serve_blame w h s g n c tags stands =
    ap union_of (map_pages (causes_of tags c) (λ b. causes h (b ∷ [])) s g n (λ k. stands.causes_are s k))
    ∙ causes-all h (pages_of s g n)
    ∙ sym (union-empty (map (blame h) (flat_map (open_at h) (pages_of s g n))))
    ∙ sym (blame-new h (Serve s g n))

-- what serves nothing is idle
pub none_serves : {T : Type 0} (x : Writeback T) → service_of x ≡ service.Idle → x ≡ writeback.Idle
none_serves writeback.Idle is = refl
none_serves (writeback.Serving run causes) is = absurd (cc)
none_serves (writeback.Mapped run causes) is = absurd (cc)
