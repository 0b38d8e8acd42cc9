-- What stands of the service of writeback, and of those for whom it serves: after a serve, and where other tags move.
use Rattle.std.proofs.Common.{◌≡◌, ℕ, ◌+◌, ◌≤◌, List, map, Option, Some, None, refl, ap, subst, sym, ◌∙◌, arith}
use Rattle.std.specs.Option.{option_map}
use Rattle.split_types.specs.declared.ids.Serial.{Serial}
use Rattle.split_types.specs.declared.request.Service.TheVariants.{Serving}
use Rattle.split_types.specs.declared.workload.Workload.{Workload}
use Rattle.split_types.specs.declared.event.Event.{Event}
use Rattle.split_types.specs.declared.event.Event.TheVariants.{Serve}
use Rattle.split_types.specs.History.{◌▹◌}
use Rattle.split_types.specs.Parents.{pages_of}
use Rattle.split_types.specs.Sets.{union_of}
use Rattle.cause_set.specs.Tags.{Tags, Moved, use_in}
use Rattle.cause_set.proofs.TagLaws.{one_use-same}
use Rattle.proxies.specs.Causes.{causes_of_writeback}
use Rattle.tag_table.specs.declared.table.TableTag.{TableTag}
use Rattle.page_cache.specs.Cached.{Cached, causes_of}
use Rattle.split_core.specs.declared.note.service.Served.{Served}
use Rattle.split_core.specs.Pages.{CacheStands}
use Rattle.split_core.specs.Served.{ServedStands, service_of, held_by_service}
use Rattle.split_core.proofs.ServiceNotesRuns.{serve_blame}

-- ---- a serve
pub after_serve : (w : Workload) (h : List Event) (e : Event) (s : Serial) (g n : ℕ) (c : Cached)
    (before after : Tags) (new : Served) → e ≡ Serve s g n → CacheStands w c before h
    → service_of new.state ≡ Serving (record { serial = s; page = g; n = n })
    → option_map (λ t. after.members t.number) (causes_of_writeback new.state)
    ≡ Some (union_of (map (causes_of before c) (pages_of s g n)))
    → ServedStands new after (h ▹ e)
after_serve w h e s g n c before after new is stands serving causes_are =
    subst (λ (x : Event). ServedStands new after (h ▹ x)) (sym is)
    (record { service_is = serving; causes_are = causes_are ∙ ap Some (serve_blame w h s g n c before stands) })

-- ---- other tags
members_kept : (old new : Tags) (gone come : ℕ → ℕ) (x : Option TableTag) → Moved old new gone come
    → ((n : ℕ) → gone n + use_in (λ t. t.number) x n ≤ old.uses n)
    → option_map (λ t. new.members t.number) x ≡ option_map (λ t. old.members t.number) x
members_kept old new gone come None moved live = refl
members_kept old new gone come (Some t) moved live =
    ap Some (moved.keeps t.number (omega (arith, live t.number, one_use-same t.number)))

-- where tags go and come beside its own, the service stands as it did
pub served_stays : (s : Served) (old new : Tags) (gone come : ℕ → ℕ) (h : List Event) → Moved old new gone come
    → ((n : ℕ) → gone n + held_by_service s n ≤ old.uses n) → ServedStands s old h → ServedStands s new h
served_stays s old new gone come h moved live stands = record {
  service_is = stands.service_is;
  causes_are = members_kept old new gone come (causes_of_writeback s.state) moved live ∙ stands.causes_are;
}
