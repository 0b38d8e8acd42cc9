-- What the cache holds is what the history holds, after an event that changes no page.
use Rattle.std.proofs.Common.{◌≡◌, ℕ, List, length, Bool, true, false, refl}
use Rattle.split_types.specs.declared.ids.Pid.{Pid}
use Rattle.split_types.specs.declared.ids.ReqId.{ReqId}
use Rattle.split_types.specs.declared.ids.Serial.{Serial}
use Rattle.split_types.specs.declared.ids.Slot.{Slot}
use Rattle.split_types.specs.declared.buf.Buf.TheVariants.{Page}
use Rattle.split_types.specs.declared.actor.Actor.{Actor}
use Rattle.split_types.specs.declared.call.Reply.{Reply}
use Rattle.split_types.specs.declared.request.Request.{Request}
use Rattle.split_types.specs.declared.workload.Workload.{Workload}
use Rattle.split_types.specs.declared.event.Event.{Event}
use Rattle.split_types.specs.declared.event.Event.TheVariants.{Enter, Admit, Make, Put, Get, Drop, Flushed, Ret, Serve}
use Rattle.split_types.specs.declared.event.Event.TheVariants.{Map, Skip, Seal, Add, Send, Done, Evict, Tick}
use Rattle.split_types.specs.History.{◌▹◌}
use Rattle.split_types.specs.HeldPages.{held_pages, unsettled_pages}
use Rattle.split_types.specs.PagesInCache.{CountsAre, pin_of}
use Rattle.split_types.specs.Accepted.{IsAccepted}
use Rattle.split_types.specs.Legal.{IsLegal}
use Rattle.split_types.proofs.Shared.{pages_change}
use Rattle.split_types.proofs.Shared.{pins_change}
use Rattle.split_types.proofs.Shared.{counts_change}
use Rattle.split_types.proofs.Shared.{running_causes}
use Rattle.cause_set.specs.Tags.{Tags}
use Rattle.page_cache.specs.Cached.{Cached}
use Rattle.split_core.specs.Fits.{FitsKind}
use Rattle.split_core.specs.Pages.{CacheStands}
use Rattle.split_core.proofs.PageFacts.{Leaves}
use Rattle.split_core.proofs.PageNotes.{Passes, pages_quiet}

passes_one : (w : Workload) (h : List Event) (e : Event) → ((s : Serial) (g : ℕ) → Leaves w h (h ▹ e) s g)
    → ((s : Serial) (g : ℕ) → pin_of w (h ▹ e) (Page s g) ≡ pin_of w h (Page s g))
    → CountsAre w (h ▹ e) (length (held_pages w h)) (length (unsettled_pages w h)) → Passes w h (h ▹ e) (λ o. o)
passes_one w h e leaves pins counts = record { leaves = leaves; pins = pins; counts = counts }

-- an event of another kind
pub pages_other : (w : Workload) (h : List Event) (e : Event) (c : Cached) (tags : Tags) → IsAccepted w
    → IsLegal w (h ▹ e) → FitsKind w h e
    → ((by : Pid) (s : Serial) (g from to fill : ℕ) → e ≡ Put by s g from to fill → ⊥)
    → ((by : Pid) (s : Serial) (g from to sum : ℕ) → e ≡ Get by s g from to sum → ⊥)
    → ((by : Pid) (slot : Slot) (s : Serial) → e ≡ Drop by slot s → ⊥)
    → ((by : Pid) (reply : Reply) → e ≡ Ret by reply → ⊥)
    → ((by : Pid) (s : Serial) (g : ℕ) → e ≡ Evict by s g → ⊥)
    → ((by : Actor) (r : Request) → e ≡ Add by r → ⊥)
    → ((k : ℕ) (id : ReqId) (ok : Bool) → e ≡ Done k id ok → ⊥) → CacheStands w c tags h
    → CacheStands w c tags (h ▹ e)
pages_other w h (Enter p k) c tags accepted legal fits put get drop ret evict add done stands =
    pages_quiet w h (Enter p k) c tags accepted legal
    (passes_one w h (Enter p k)
    (λ t m. record {
      page = pages_change w h (Enter p k) (Page t m) accepted legal;
      causes_are = running_causes.kept h (Enter p k) (Page t m) refl refl;
      bytes_are = refl;
    })
    (λ t m. pins_change.change w h (Enter p k) (Page t m) accepted legal)
    (counts_change w h (Enter p k) accepted legal)) (λ t m there. refl) stands
pages_other w h (Admit p) c tags accepted legal fits put get drop ret evict add done stands =
    pages_quiet w h (Admit p) c tags accepted legal
    (passes_one w h (Admit p)
    (λ t m. record {
      page = pages_change w h (Admit p) (Page t m) accepted legal;
      causes_are = running_causes.kept h (Admit p) (Page t m) refl refl;
      bytes_are = refl;
    })
    (λ t m. pins_change.change w h (Admit p) (Page t m) accepted legal)
    (counts_change w h (Admit p) accepted legal)) (λ t m there. refl) stands
pages_other w h (Serve s g n) c tags accepted legal fits put get drop ret evict add done stands =
    pages_quiet w h (Serve s g n) c tags accepted legal
    (passes_one w h (Serve s g n)
    (λ t m. record {
      page = pages_change w h (Serve s g n) (Page t m) accepted legal;
      causes_are = running_causes.kept h (Serve s g n) (Page t m) refl refl;
      bytes_are = refl;
    })
    (λ t m. pins_change.change w h (Serve s g n) (Page t m) accepted legal)
    (counts_change w h (Serve s g n) accepted legal)) (λ t m there. refl) stands
pages_other w h (Send id cost) c tags accepted legal fits put get drop ret evict add done stands =
    pages_quiet w h (Send id cost) c tags accepted legal
    (passes_one w h (Send id cost)
    (λ t m. record {
      page = pages_change w h (Send id cost) (Page t m) accepted legal;
      causes_are = running_causes.kept h (Send id cost) (Page t m) refl refl;
      bytes_are = refl;
    })
    (λ t m. pins_change.change w h (Send id cost) (Page t m) accepted legal)
    (counts_change w h (Send id cost) accepted legal)) (λ t m there. refl) stands
pages_other w h (Make by slot s) c tags accepted legal fits put get drop ret evict add done stands =
    pages_quiet w h (Make by slot s) c tags accepted legal
    (passes_one w h (Make by slot s)
    (λ t m. record {
      page = pages_change w h (Make by slot s) (Page t m) accepted legal;
      causes_are = running_causes.kept h (Make by slot s) (Page t m) refl refl;
      bytes_are = refl;
    })
    (λ t m. pins_change.change w h (Make by slot s) (Page t m) accepted legal)
    (counts_change w h (Make by slot s) accepted legal)) (λ t m there. refl) stands
pages_other w h (Map slot s g n block true size) c tags accepted legal fits put get drop ret evict add done stands =
    pages_quiet w h (Map slot s g n block true size) c tags accepted legal
    (passes_one w h (Map slot s g n block true size)
    (λ t m. record {
      page = pages_change w h (Map slot s g n block true size) (Page t m) accepted legal;
      causes_are = running_causes.kept h (Map slot s g n block true size) (Page t m) refl refl;
      bytes_are = refl;
    })
    (λ t m. pins_change.change w h (Map slot s g n block true size) (Page t m) accepted legal)
    (counts_change w h (Map slot s g n block true size) accepted legal)) (λ t m there. refl) stands
pages_other w h (Map slot s g n block false size) c tags accepted legal fits put get drop ret evict add done stands =
    pages_quiet w h (Map slot s g n block false size) c tags accepted legal
    (passes_one w h (Map slot s g n block false size)
    (λ t m. record {
      page = pages_change w h (Map slot s g n block false size) (Page t m) accepted legal;
      causes_are = running_causes.kept h (Map slot s g n block false size) (Page t m) refl refl;
      bytes_are = refl;
    })
    (λ t m. pins_change.change w h (Map slot s g n block false size) (Page t m) accepted legal)
    (counts_change w h (Map slot s g n block false size) accepted legal)) (λ t m there. refl) stands
pages_other w h Skip c tags accepted legal fits put get drop ret evict add done stands =
    pages_quiet w h Skip c tags accepted legal
    (passes_one w h Skip
    (λ t m. record {
      page = pages_change w h Skip (Page t m) accepted legal;
      causes_are = running_causes.kept h Skip (Page t m) refl refl;
      bytes_are = refl;
    })
    (λ t m. pins_change.change w h Skip (Page t m) accepted legal)
    (counts_change w h Skip accepted legal)) (λ t m there. refl) stands
pages_other w h (Flushed p) c tags accepted legal fits put get drop ret evict add done stands =
    pages_quiet w h (Flushed p) c tags accepted legal
    (passes_one w h (Flushed p)
    (λ t m. record {
      page = pages_change w h (Flushed p) (Page t m) accepted legal;
      causes_are = running_causes.kept h (Flushed p) (Page t m) refl refl;
      bytes_are = refl;
    })
    (λ t m. pins_change.change w h (Flushed p) (Page t m) accepted legal)
    (counts_change w h (Flushed p) accepted legal)) (λ t m there. refl) stands
pages_other w h (Seal number k) c tags accepted legal fits put get drop ret evict add done stands =
    pages_quiet w h (Seal number k) c tags accepted legal
    (passes_one w h (Seal number k)
    (λ t m. record {
      page = pages_change w h (Seal number k) (Page t m) accepted legal;
      causes_are = running_causes.kept h (Seal number k) (Page t m) refl refl;
      bytes_are = refl;
    })
    (λ t m. pins_change.change w h (Seal number k) (Page t m) accepted legal)
    (counts_change w h (Seal number k) accepted legal)) (λ t m there. refl) stands
pages_other w h (Put by s g from to fill) c tags accepted legal fits put get drop ret evict add done stands =
    absurd (put _ _ _ _ _ _ refl)
pages_other w h (Get by s g from to sum) c tags accepted legal fits put get drop ret evict add done stands =
    absurd (get _ _ _ _ _ _ refl)
pages_other w h (Ret p r) c tags accepted legal fits put get drop ret evict add done stands =
    absurd (ret _ _ refl)
pages_other w h (Evict p s g) c tags accepted legal fits put get drop ret evict add done stands =
    absurd (evict _ _ _ refl)
pages_other w h (Add by r) c tags accepted legal fits put get drop ret evict add done stands =
    absurd (add _ _ refl)
pages_other w h (Done k id ok) c tags accepted legal fits put get drop ret evict add done stands =
    absurd (done _ _ _ refl)
pages_other w h (Drop by slot s) c tags accepted legal fits put get drop ret evict add done stands =
    absurd (drop _ _ _ refl)
pages_other w h (Tick d) c tags accepted legal fits put get drop ret evict add done stands =
    absurd fits
