-- How held, loading, dirty and busy pages change with each event.
use Rattle.std.proofs.Common.{◌≡◌, ℕ, List, slice_get, Bool, true, false, not, ◌&&◌, ◌||◌, Some, None, refl, arith, subst, sym, ap, ◌∙◌}
use Rattle.std.specs.List.{list_any}
use Rattle.std.proofs.lemmas.Bool.{both_ways, false_from_ne_true, ne_eqb, or_left}
use Rattle.std.proofs.lemmas.Option.{same_Some}
use Rattle.split_types.specs.declared.ids.Pid.{Pid}
use Rattle.split_types.specs.declared.ids.Serial.{Serial}
use Rattle.split_types.specs.declared.ids.Slot.{Slot}
use Rattle.split_types.specs.declared.actor.Actor.{Actor}
use Rattle.split_types.specs.declared.actor.Actor.TheVariants.{Client, Wb, Cm}
use Rattle.split_types.specs.declared.buf.Buf.{Buf}
use Rattle.split_types.specs.declared.buf.Buf.TheVariants.{Page}
use Rattle.split_types.specs.declared.call.Call.TheVariants.{Write}
use Rattle.split_types.specs.declared.request.Request.{Request}
use Rattle.split_types.specs.declared.workload.Workload.{Workload}
use Rattle.split_types.specs.declared.event.Event.{Event}
use Rattle.split_types.specs.declared.event.Event.TheVariants.{Make, Put, Drop, Add, Done, Evict}
use Rattle.split_types.specs.History.{◌▹◌, adds}
use Rattle.split_types.specs.Hooks.{maker, same_buf, covers}
use Rattle.split_types.specs.Requests.{is_numbered, unfinished}
use Rattle.split_types.specs.Pages.{is_live_page, is_put_since, is_dirty, is_busy}
use Rattle.split_types.specs.Reads.{reads, outstanding, is_loading}
use Rattle.split_types.specs.HeldPages.{is_placed, is_held}
use Rattle.split_types.specs.Victims.{victim}
use Rattle.split_types.specs.FileMaps.{mapped_block}
use Rattle.split_types.specs.FileSlots.{next_serial, slot_of}
use Rattle.split_types.specs.FilesInOrder.{all_files, AreFiles}
use Rattle.split_types.specs.Serving.{request_for}
use Rattle.split_types.specs.PagesInCache.{is_page_of, PageIs, PageAfter, PagesChange}
use Rattle.split_types.specs.Accepted.{IsAccepted}
use Rattle.split_types.specs.Legal.{IsLegal}
use Rattle.split_types.specs.Proving.Came.{Came, read_request, journal_request}
use Rattle.split_types.specs.Proving.Came.Came.{came_enter, came_admit, came_changed, came_exists, came_no_slot, came_make, came_drop, came_no_file, came_too_big}
use Rattle.split_types.specs.Proving.Came.Came.{came_wrote, came_read, came_fault, came_no_space, came_put, came_get, came_zeros, came_evict, came_load}
use Rattle.split_types.specs.Proving.Came.Came.{came_flushed, came_synced, came_seal, came_journal, came_serve, came_skip, came_map, came_grow, came_add, came_send, came_done}
use Rattle.split_types.specs.Proving.Known.{Known}
use Rattle.split_types.proofs.CameLaws.{came}
use Rattle.split_types.proofs.JournalAdds.{of_journal, reads_moves}
use Rattle.split_types.proofs.FileLaws.{files_are_in_order}
use Rattle.split_types.proofs.HeldLaws.{same_buf-is}
use Rattle.split_types.proofs.WaitingLaws.{number_here}
use Rattle.split_types.proofs.Lists.{find_some, list_any_here}
use Rattle.split_types.proofs.KeptLists.{any_pushed}
use Rattle.split_types.proofs.CacheLaws.{any_without, live_here, live_after, live_changes, IsKnown, is_known}
use Rattle.split_types.proofs.CacheLaws.{read_moved, IsFlying, flying, served_ready, ready_live, takes_once}
use Rattle.split_types.proofs.CacheKept.{victim_free, Kept, kept}
use Rattle.split_types.proofs.PlacedLaws.{IsFilePage, placed_file}

-- ---- from the parts of a page's state
-- whether its file is there, a request that isn't done reads it, it was put or loaded and not evicted since, it was put
-- since a request took it, and a request that wasn't done well writes it
record HasParts (w : Workload) (h : List Event) (b : Buf) (live load place put busy : Bool) : Type 0 where
  live_is : is_live_page w h b ≡ live
  load_is : list_any (λ r. reads r b) (outstanding h) ≡ load
  place_is : is_placed h b ≡ place
  put_is : is_put_since h b ≡ put
  busy_is : list_any (λ r. covers r b) (unfinished h) ≡ busy

-- a page of such parts is held, loading, dirty and busy as they say
of_parts : (w : Workload) (h : List Event) (b : Buf) (live load place put busy held loading dirty taken : Bool)
    → HasParts w h b live load place put busy → ((live && load) || (live && place)) ≡ held → (live && load) ≡ loading
    → (live && put) ≡ dirty → (live && busy) ≡ taken → PageIs w h b held loading dirty taken
of_parts w h b live load place put busy held loading dirty taken has one two three four = record {
  held_is = is_loading_held ∙ one;
  loading_is = is_loading ∙ two;
  dirty_is = ap (λ x. x && is_put_since h b) has.live_is ∙ ap (λ x. live && x) has.put_is ∙ three;
  busy_is =
      ap (λ x. x && list_any (λ r. covers r b) (unfinished h)) has.live_is ∙ ap (λ x. live && x) has.busy_is ∙ four;
}
  where
    is_loading : (is_live_page w h b && list_any (λ r. reads r b) (outstanding h)) ≡ (live && load)
    is_loading =
        ap (λ x. x && list_any (λ r. reads r b) (outstanding h)) has.live_is ∙ ap (λ x. live && x) has.load_is

    is_there : (is_live_page w h b && is_placed h b) ≡ (live && place)
    is_there = ap (λ x. x && is_placed h b) has.live_is ∙ ap (λ x. live && x) has.place_is

    is_loading_held : is_held w h b ≡ ((live && load) || (live && place))
    is_loading_held =
        ap (λ x. x || (is_live_page w h b && is_placed h b)) is_loading ∙ ap (λ x. (live && load) || x) is_there

-- an event that touches none of them
page_stays : (w : Workload) (h l : List Event) (b : Buf) → is_live_page w l b ≡ is_live_page w h b
    → outstanding l ≡ outstanding h → is_placed l b ≡ is_placed h b → is_put_since l b ≡ is_put_since h b
    → unfinished l ≡ unfinished h → PageIs w l b (is_held w h b) (is_loading w h b) (is_dirty w h b) (is_busy w h b)
page_stays w h l b live out place put left =
    of_parts w l b (is_live_page w h b) (list_any (λ r. reads r b) (outstanding h)) (is_placed h b) (is_put_since h b)
    (list_any (λ r. covers r b) (unfinished h)) (is_held w h b) (is_loading w h b) (is_dirty w h b) (is_busy w h b)
    (record {
      live_is = live;
      load_is = ap (list_any (λ r. reads r b)) out;
      place_is = place;
      put_is = put;
      busy_is = ap (list_any (λ r. covers r b)) left;
    }) refl refl refl refl

-- ---- a put
put_held : (live same load place : Bool) → (same ≡ true → live ≡ true)
    → ((live && load) || (live && (same || place))) ≡ (same || ((live && load) || (live && place)))
put_held true true true place there = refl
put_held true true false place there = refl
put_held true false load place there = refl
put_held false true load place there = absurd (both_ways false refl (there refl))
put_held false false load place there = refl

put_dirty : (live same put : Bool) → (same ≡ true → live ≡ true)
    → (live && (same || put)) ≡ (same || (live && put))
put_dirty true same put there = refl
put_dirty false true put there = absurd (both_ways false refl (there refl))
put_dirty false false put there = refl

after_put : (w : Workload) (h : List Event) (b : Buf) (q : Pid) (s : Serial) (g from to fill : ℕ)
    → (same_buf b (Page s g) ≡ true → is_live_page w h b ≡ true)
    → is_live_page w (h ▹ Put q s g from to fill) b ≡ is_live_page w h b
    → PageAfter w h (Put q s g from to fill) b
after_put w h b q s g from to fill there live =
    of_parts w (h ▹ Put q s g from to fill) b (is_live_page w h b) (list_any (λ r. reads r b) (outstanding h))
    (same_buf b (Page s g) || is_placed h b) (same_buf b (Page s g) || is_put_since h b)
    (list_any (λ r. covers r b) (unfinished h)) (same_buf b (Page s g) || is_held w h b) (is_loading w h b)
    (same_buf b (Page s g) || is_dirty w h b) (is_busy w h b)
    (record { live_is = live; load_is = refl; place_is = refl; put_is = refl; busy_is = refl })
    (put_held (is_live_page w h b) (same_buf b (Page s g)) (list_any (λ r. reads r b) (outstanding h)) (is_placed h b)
    there) refl
    (put_dirty (is_live_page w h b) (same_buf b (Page s g)) (is_put_since h b) there) refl

-- ---- an add
add_held : (live does load place : Bool) → (does ≡ true → live ≡ true)
    → ((live && (does || load)) || (live && place)) ≡ (does || ((live && load) || (live && place)))
add_held true true load place there = refl
add_held true false load place there = refl
add_held false true load place there = absurd (both_ways false refl (there refl))
add_held false false load place there = refl

add_clean : (live takes put : Bool) → (live && (not takes && put)) ≡ (not takes && (live && put))
add_clean true takes put = refl
add_clean false true put = refl
add_clean false false put = refl

after_add : (w : Workload) (h : List Event) (b : Buf) (by : Actor) (r : Request)
    → (reads r b ≡ true → is_live_page w h b ≡ true) → (covers r b ≡ true → is_live_page w h b ≡ true)
    → is_live_page w (h ▹ Add by r) b ≡ is_live_page w h b → PageAfter w h (Add by r) b
after_add w h b by r read written live =
    of_parts w (h ▹ Add by r) b (is_live_page w h b) (reads r b || list_any (λ x. reads x b) (outstanding h))
    (is_placed h b) (not (covers r b) && is_put_since h b) (covers r b || list_any (λ x. covers x b) (unfinished h))
    (reads r b || is_held w h b) (reads r b || is_loading w h b) (not (covers r b) && is_dirty w h b)
    (covers r b || is_busy w h b)
    (record {
      live_is = live;
      load_is = any_pushed (λ x. reads x b) (outstanding h) r;
      place_is = refl;
      put_is = refl;
      busy_is = any_pushed (λ x. covers x b) (unfinished h) r;
    })
    (add_held (is_live_page w h b) (reads r b) (list_any (λ x. reads x b) (outstanding h)) (is_placed h b) read)
    (put_dirty (is_live_page w h b) (reads r b) (list_any (λ x. reads x b) (outstanding h)) read)
    (add_clean (is_live_page w h b) (covers r b) (is_put_since h b))
    (put_dirty (is_live_page w h b) (covers r b) (list_any (λ x. covers x b) (unfinished h)) written)

-- ---- a file that is made
-- a page that was put or loaded is of another file
pub past : (w : Workload) (h : List Event) (b : Buf) → IsFilePage w h b → is_page_of (next_serial w h) b ≡ false
past w h b at =
    ap (is_page_of (next_serial w h)) at.is
    ∙ ne_eqb (all_files w h) at.serial.0 (λ (e : all_files w h ≡ at.serial.0). omega (arith, at.file, e))

-- so is one that a request that isn't done reads
read_past : (w : Workload) (h : List Event) (b : Buf) → IsKnown w h
    → list_any (λ r. reads r b) (outstanding h) ≡ true → is_page_of (next_serial w h) b ≡ false
read_past w h b f any =
    let found = find_some (λ r. reads r b) (outstanding h) any
    in let r = found.element
    in let there : slice_get (unfinished h) found.place ≡ Some r =
    ap (λ l. slice_get l found.place) (sym f.well) ∙ found.there
    in let run = f.known.runs r.id.0 r (f.known.waiting.left_of found.place r there)
    (reads_moves r b found.passes)
    in past w h b (record {
      serial = run.serial;
      page = run.page;
      is = read_moved (all_files w h) (mapped_block w h) r b run found.passes;
      file = run.run.file;
      within = omega (arith, run.run.within, run.run.some);
    })

-- and one of a file that is there
pub live_past : (w : Workload) (h : List Event) (b : Buf) → AreFiles w h → is_live_page w h b ≡ true
    → is_page_of (next_serial w h) b ≡ false
live_past w h (Page s g) files live =
    ne_eqb (all_files w h) s.0 (λ (e : all_files w h ≡ s.0). omega (arith, (files.live s live).numbered, e))
live_past w h b files live = absurd (cc)

none_of : (live load place : Bool) → live ≡ false → false ≡ ((live && load) || (live && place))
none_of true load place is = absurd (cc)
none_of false load place is = refl

none_so : (live part : Bool) → live ≡ false → false ≡ (live && part)
none_so true part is = absurd (cc)
none_so false part is = refl

after_make : (w : Workload) (h : List Event) (b : Buf) (q : Pid) (slot : Slot) → IsAccepted w → IsLegal w h
    → IsKnown w h → Kept h
    → is_live_page w (h ▹ Make q slot (next_serial w h)) b ≡ (is_page_of (next_serial w h) b || is_live_page w h b)
    → PageAfter w h (Make q slot (next_serial w h)) b
after_make w h b q slot accepted legal f old live = by_test (is_page_of (next_serial w h) b) refl
  where
    l : List Event
    l = h ▹ Make q slot (next_serial w h)

    gone : (t : Bool) → is_page_of (next_serial w h) b ≡ true
        → (t ≡ true → is_page_of (next_serial w h) b ≡ false) → t ≡ false
    gone t new other =
        false_from_ne_true t (λ is. both_ways (is_page_of (next_serial w h) b) (other is) new)

    placed_past : is_placed h b ≡ true → is_page_of (next_serial w h) b ≡ false
    placed_past is = past w h b (placed_file w h b accepted legal is)

    by_test : (t : Bool) → is_page_of (next_serial w h) b ≡ t
        → PageIs w l b (is_held w h b) (is_loading w h b) (is_dirty w h b) (is_busy w h b)
    by_test false other =
        page_stays w h l b (live ∙ ap (λ x. x || is_live_page w h b) other) refl refl refl refl
    by_test true new =
        let unlive = gone (is_live_page w h b) new (live_past w h b (files_are_in_order w h accepted legal))
        in of_parts w l b true false false false false (is_held w h b) (is_loading w h b) (is_dirty w h b)
        (is_busy w h b)
        (record {
          live_is = live ∙ or_left (is_page_of (next_serial w h) b) (is_live_page w h b) new;
          load_is = gone (list_any (λ r. reads r b) (outstanding h)) new (read_past w h b f);
          place_is = gone (is_placed h b) new placed_past;
          put_is = gone (is_put_since h b) new (λ is. placed_past (old.put_placed b is));
          busy_is =
              gone (list_any (λ r. covers r b) (unfinished h)) new (λ is. placed_past (old.busy_placed b is));
        })
        (none_of (is_live_page w h b) (list_any (λ r. reads r b) (outstanding h)) (is_placed h b) unlive)
        (none_so (is_live_page w h b) (list_any (λ r. reads r b) (outstanding h)) unlive)
        (none_so (is_live_page w h b) (is_put_since h b) unlive)
        (none_so (is_live_page w h b) (list_any (λ r. covers r b) (unfinished h)) unlive)

-- ---- a file that is dropped
drop_held : (of live load place : Bool)
    → (((not of && live) && load) || ((not of && live) && place))
    ≡ (not of && ((live && load) || (live && place)))
drop_held true live load place = refl
drop_held false live load place = refl

drop_part : (of live part : Bool) → ((not of && live) && part) ≡ (not of && (live && part))
drop_part true live part = refl
drop_part false live part = refl

after_drop : (w : Workload) (h : List Event) (b : Buf) (q : Pid) (slot : Slot) (s : Serial)
    → is_live_page w (h ▹ Drop q slot s) b ≡ (not (is_page_of s b) && is_live_page w h b)
    → PageAfter w h (Drop q slot s) b
after_drop w h b q slot s live =
    of_parts w (h ▹ Drop q slot s) b (not (is_page_of s b) && is_live_page w h b)
    (list_any (λ r. reads r b) (outstanding h)) (is_placed h b) (is_put_since h b)
    (list_any (λ r. covers r b) (unfinished h)) (not (is_page_of s b) && is_held w h b)
    (not (is_page_of s b) && is_loading w h b) (not (is_page_of s b) && is_dirty w h b)
    (not (is_page_of s b) && is_busy w h b)
    (record { live_is = live; load_is = refl; place_is = refl; put_is = refl; busy_is = refl })
    (drop_held (is_page_of s b) (is_live_page w h b) (list_any (λ r. reads r b) (outstanding h)) (is_placed h b))
    (drop_part (is_page_of s b) (is_live_page w h b) (list_any (λ r. reads r b) (outstanding h)))
    (drop_part (is_page_of s b) (is_live_page w h b) (is_put_since h b))
    (drop_part (is_page_of s b) (is_live_page w h b) (list_any (λ r. covers r b) (unfinished h)))

-- ---- a completion
-- a page that was read is put in place as its request goes
done_held : (live does load place : Bool) → (does ≡ true → load ≡ true)
    → ((live && (not does && load)) || (live && (does || place))) ≡ ((live && load) || (live && place))
done_held false does load place was = refl
done_held true true true place was = refl
done_held true true false place was = absurd (both_ways false refl (was refl))
done_held true false load place was = refl

after_done : (w : Workload) (h : List Event) (b : Buf) (k : ℕ) (r : Request) → Known w h → Kept h → IsFlying w h r
    → is_live_page w (h ▹ Done k r.id true) b ≡ is_live_page w h b
    → PageIs w (h ▹ Done k r.id true) b (is_held w h b) (not (reads r b) && is_loading w h b) (is_dirty w h b)
    (not (covers r b) && is_busy w h b)
after_done w h b k r f old fly live =
    of_parts w (h ▹ Done k r.id true) b (is_live_page w h b)
    (not (reads r b) && list_any (λ x. reads x b) (outstanding h)) (reads r b || is_placed h b) (is_put_since h b)
    (not (covers r b) && list_any (λ x. covers x b) (unfinished h)) (is_held w h b)
    (not (reads r b) && is_loading w h b) (is_dirty w h b) (not (covers r b) && is_busy w h b)
    (record {
      live_is = live;
      load_is =
          any_without (λ x. reads x b) (is_numbered r.id) (outstanding h) fly.place r fly.out (number_here r)
          fly.out_once (old.reads_once b);
      place_is =
          ap (λ o. (elim o [ None ↦ false | Some y ↦ reads y b ]) || is_placed h b) fly.numbered;
      put_is = refl;
      busy_is =
          any_without (λ x. covers x b) (is_numbered r.id) (unfinished h) fly.place r fly.left (number_here r) fly.once
          (takes_once w h b f);
    })
    (done_held (is_live_page w h b) (reads r b) (list_any (λ x. reads x b) (outstanding h)) (is_placed h b)
    (λ does. list_any_here (λ x. reads x b) (outstanding h) fly.place r fly.out does))
    (add_clean (is_live_page w h b) (reads r b) (list_any (λ x. reads x b) (outstanding h))) refl
    (add_clean (is_live_page w h b) (covers r b) (list_any (λ x. covers x b) (unfinished h)))

-- ---- an eviction
evict_held : (live same load place : Bool) → (same ≡ true → load ≡ false)
    → ((live && load) || (live && (not same && place))) ≡ (not same && ((live && load) || (live && place)))
evict_held live false load place free = refl
evict_held true true false place free = refl
evict_held true true true place free = absurd (both_ways true (free refl) refl)
evict_held false true load place free = refl

after_evict : (w : Workload) (h : List Event) (b : Buf) (q : Pid) (s : Serial) (g : ℕ) → victim w h ≡ Some (Page s g)
    → is_live_page w (h ▹ Evict q s g) b ≡ is_live_page w h b → PageAfter w h (Evict q s g) b
after_evict w h b q s g found live =
    of_parts w (h ▹ Evict q s g) b (is_live_page w h b) (list_any (λ r. reads r b) (outstanding h))
    (not (same_buf b (Page s g)) && is_placed h b) (is_put_since h b) (list_any (λ r. covers r b) (unfinished h))
    (not (same_buf b (Page s g)) && is_held w h b) (is_loading w h b) (is_dirty w h b) (is_busy w h b)
    (record { live_is = live; load_is = refl; place_is = refl; put_is = refl; busy_is = refl })
    (evict_held (is_live_page w h b) (same_buf b (Page s g)) (list_any (λ r. reads r b) (outstanding h)) (is_placed h b)
    (λ same. subst (λ x. list_any (λ r. reads r x) (outstanding h) ≡ false) (sym (same_buf-is b (Page s g) same))
    (victim_free w h (Page s g) found).unread)) refl refl refl

-- ---- every event
page_next : (w : Workload) (h : List Event) (e : Event) (b : Buf) → IsAccepted w → IsLegal w h → IsKnown w h → Kept h
    → is_live_page w (h ▹ e) b ≡ live_after w h e b → Came w h e → PageAfter w h e b
page_next w h e b accepted legal f old live (came_enter q c has out) =
    page_stays w h (h ▹ e) b live refl refl refl refl
page_next w h e b accepted legal f old live (came_admit q c has is out may) =
    page_stays w h (h ▹ e) b live refl refl refl refl
page_next w h e b accepted legal f old live (came_make q name slot admitted idle unused at) =
    after_make w h b q (record { 0 = slot }) accepted legal f old live
page_next w h e b accepted legal f old live (came_drop q name serial working idle) =
    after_drop w h b q (slot_of w h serial) serial live
page_next w h e b accepted legal f old live (came_no_file q c admitted none) =
    page_stays w h (h ▹ e) b live refl refl refl refl
page_next w h e b accepted legal f old live (came_changed q c admitted names acted) =
    page_stays w h (h ▹ e) b live refl refl refl refl
page_next w h e b accepted legal f old live (came_exists q name admitted idle taken) =
    page_stays w h (h ▹ e) b live refl refl refl refl
page_next w h e b accepted legal f old live (came_no_slot q name admitted idle unused none) =
    page_stays w h (h ▹ e) b live refl refl refl refl
page_next w h e b accepted legal f old live (came_too_big q name off len fill s working big) =
    page_stays w h (h ▹ e) b live refl refl refl refl
page_next w h e b accepted legal f old live (came_no_space q name off len fill s piece here out none) =
    page_stays w h (h ▹ e) b live refl refl refl refl
page_next w h e b accepted legal f old live (came_wrote q name off len fill s working none) =
    page_stays w h (h ▹ e) b live refl refl refl refl
page_next w h e b accepted legal f old live (came_read q name off len s working none) =
    page_stays w h (h ▹ e) b live refl refl refl refl
page_next w h e b accepted legal f old live (came_fault q c s piece working left bad) =
    page_stays w h (h ▹ e) b live refl refl refl refl
page_next w h e b accepted legal f old live (came_put q name off len fill s piece here may) =
    after_put w h b q s piece.page piece.from piece.to fill
    (λ is. subst (λ x. is_live_page w h x ≡ true) (sym (same_buf-is b (Page s piece.page) is))
    (live_here w h q (Write name off len fill) s piece here)) live
page_next w h e b accepted legal f old live (came_get q name off len s piece here held) =
    page_stays w h (h ▹ e) b live refl refl refl refl
page_next w h e b accepted legal f old live (came_zeros q name off len s piece here absent none) =
    page_stays w h (h ▹ e) b live refl refl refl refl
page_next w h e b accepted legal f old live (came_evict q c s piece here absent t g found) =
    after_evict w h b q t g found live
page_next w h e b accepted legal f old live (came_load q c s piece here absent block at) =
    let r = read_request (adds h) q s piece.page block
    in after_add w h b (Client q) r
    (λ is. subst (λ x. is_live_page w h x ≡ true) (sym (same_buf-is b (Page s piece.page) is))
    (live_here w h q c s piece here))
    (λ is. absurd (both_ways false refl is)) live
page_next w h e b accepted legal f old live (came_serve run idle found) =
    page_stays w h (h ▹ e) b live refl refl refl refl
page_next w h e b accepted legal f old live (came_skip run at gone) =
    page_stays w h (h ▹ e) b live refl refl refl refl
page_next w h e b accepted legal f old live (came_map run free serves there none at) =
    page_stays w h (h ▹ e) b live refl refl refl refl
page_next w h e b accepted legal f old live (came_grow run block serves there at short) =
    page_stays w h (h ▹ e) b live refl refl refl refl
page_next w h e b accepted legal f old live (came_add run block at there placed known) =
    let r = request_for (adds h) run block
    in after_add w h b Wb r (λ is. absurd (both_ways false refl is))
    (λ is. ready_live w h b (served_ready w h run b (f.served run at) there is)) live
page_next w h e b accepted legal f old live (came_flushed q name s working idle down) =
    page_stays w h (h ▹ e) b live refl refl refl refl
page_next w h e b accepted legal f old live (came_synced q name s working acted safe) =
    page_stays w h (h ▹ e) b live refl refl refl refl
page_next w h e b accepted legal f old live (came_seal may) =
    page_stays w h (h ▹ e) b live refl refl refl refl
page_next w h e b accepted legal f old live (came_journal kind first n j) =
    let r = journal_request (adds h) kind first n
    in let of = of_journal w h (adds h) kind first n j
    in after_add w h b Cm r (λ is. absurd (both_ways (reads r b) (of.reads_none b) is))
    (λ is. absurd (both_ways (covers r b) (of.covers_none b) is)) live
page_next w h e b accepted legal f old live (came_send r free picked) =
    page_stays w h (h ▹ e) b live refl refl refl refl
page_next w h e b accepted legal f old live (came_done k r at) = λ x there.
    (let fly = flying w h k r f at
    in subst (λ y. PageIs w (h ▹ Done k r.id true) b (is_held w h b) (not (reads y b) && is_loading w h b)
    (is_dirty w h b) (not (covers y b) && is_busy w h b)) (same_Some r x (sym fly.added ∙ there))
    (after_done w h b k r f.known old fly live))

pub pages_change : PagesChange
pages_change w h e b accepted legal =
    page_next w h e b accepted legal.1 (is_known w h accepted legal.1) (kept w h accepted legal.1)
    (live_changes w h e b) (came w h (maker e) e legal.0)
