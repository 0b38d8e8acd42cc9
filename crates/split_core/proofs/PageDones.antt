-- What is known of a request that is done.
use Rattle.std.proofs.Common.{◌≡◌, ℕ, ◌+◌, ◌<◌, List, slice_get, Bool, true, false, ◌&&◌, ◌||◌, Option, Some, None, refl, ap}
use Rattle.std.proofs.Common.{sym, subst, ◌∙◌, arith}
use Rattle.std.specs.List.{list_any}
use Rattle.std.specs.Option.{option_map}
use Rattle.std.proofs.lemmas.Bool.{and_parts, both_ways, false_from_ne_true}
use Rattle.std.proofs.lemmas.Option.{same_Some}
use Rattle.split_types.specs.declared.ids.Pid.{Pid}
use Rattle.split_types.specs.declared.ids.ReqId.{ReqId}
use Rattle.split_types.specs.declared.ids.Serial.{Serial}
use Rattle.split_types.specs.declared.buf.Buf.TheVariants.{Page}
use Rattle.split_types.specs.declared.request.ReqKind.{ReqKind}
use Rattle.split_types.specs.declared.request.ReqKind.TheVariants.{Read}
use Rattle.split_types.specs.declared.request.Request.{Request}
use Rattle.split_types.specs.declared.workload.Workload.{Workload}
use Rattle.split_types.specs.declared.event.Event.{Event}
use Rattle.split_types.specs.declared.event.Event.TheVariants.{Done}
use Rattle.split_types.specs.History.{◌▹◌}
use Rattle.split_types.specs.Requests.{requests}
use Rattle.split_types.specs.Files.{is_live}
use Rattle.split_types.specs.Reads.{reads, outstanding, is_loading}
use Rattle.split_types.specs.HeldPages.{is_placed, is_held}
use Rattle.split_types.specs.FileMaps.{mapped_block}
use Rattle.split_types.specs.PageBytes.{page_bytes}
use Rattle.split_types.specs.DiskContents.{IsOnDisk}
use Rattle.split_types.specs.Accepted.{IsAccepted}
use Rattle.split_types.specs.Legal.{IsLegal}
use Rattle.split_types.proofs.Shared.{clean_pages_are_on_disk}
use Rattle.cause_set.specs.Tags.{Tags, same, held, use_in}
use Rattle.page_cache.specs.Held.{Held}
use Rattle.page_cache.specs.Cached.{is_loading as is_loading_in}
use Rattle.page_cache.specs.Cached.{Cached, page_of, tag_in, tags_in}
use Rattle.page_cache.specs.Changes.{loaded}
use Rattle.sim_disk.specs.Bytes.{block_at}
use Rattle.split_core.specs.declared.note.pages.Pages.{Pages as Kept}
use Rattle.split_core.specs.declared.note.medium.Medium.{Medium}
use Rattle.split_core.specs.Fits.{HaveBlocks, DoneFits, DoneKind}
use Rattle.split_core.specs.Medium.{MediumStands}
use Rattle.split_core.specs.Pages.{CacheStands, PagesBefore, PagesAfter, IsDoneOf, Loads}
use Rattle.split_core.proofs.PageKinds.{before_as, after_as}
use Rattle.split_core.proofs.PageReads.{pages_read, pages_gone}
use Rattle.split_core.proofs.PageTags.{tags_kept}

-- ---- the request
-- the event says that the request is done, and what is known of both
pub record DoneOf (w : Workload) (h : List Event) (e : Event) (r : Request) : Type 0 where
  pub k : ℕ
  pub id : ReqId
  pub ok : Bool
  pub is : e ≡ Done k id ok
  pub at : slice_get (requests h) id.0 ≡ Some r
  pub kind : DoneKind w h r.kind r.n r.first

done_fits : (w : Workload) (h : List Event) (k : ℕ) (id : ReqId) (ok : Bool) (r : Request) → DoneFits w h k id ok
    → slice_get (requests h) id.0 ≡ Some r → DoneOf w h (Done k id ok) r
done_fits w h k id ok r fits at =
    let one : fits.request ≡ r = same_Some fits.request r (sym fits.at ∙ at)
    in record {
      k = k;
      id = id;
      ok = ok;
      is = refl;
      at = at;
      kind = subst (λ (q : Request). DoneKind w h q.kind q.n q.first) one fits.kind;
    }

pub done_of : (w : Workload) (h : List Event) (e : Event) (r : Request) (p : Kept) (tags : Tags)
    → PagesBefore w p tags h e → IsDoneOf h e r → DoneOf w h e r
done_of w h (Done k id ok) r p tags before is = done_fits w h k id ok r before.fits.kind is
done_of w h e r p tags before is = absurd is

-- ---- a page that it reads
pub record ReadOf (w : Workload) (h : List Event) (r : Request) (s : Serial) (g : ℕ) : Type 0 where
  pub few : g < 1008
  pub within : r.first < w.device
  pub place : mapped_block w h s.0 g ≡ Some r.first
  pub loading : is_live w h s.0 ≡ true → is_loading w h (Page s g) ≡ true

pub read_of : (w : Workload) (h : List Event) (r : Request) (p : Pid) (s : Serial) (g : ℕ)
    → DoneKind w h r.kind r.n r.first → r.kind ≡ Read p s g → ReadOf w h r s g
read_of w h r p s g kind is =
    let known = subst (λ (q : ReqKind). DoneKind w h q r.n r.first) is kind
    in let blocks : HaveBlocks w h s g r.n r.first = known.1
    in record {
      few = omega (arith, known.0, blocks.within);
      within = omega (arith, known.0, blocks.to);
      place = first_place (blocks.place 0 blocks.some);
      loading = known.2;
    }
  where
    first_place : mapped_block w h s.0 (g + 0) ≡ Some (r.first + 0) → mapped_block w h s.0 g ≡ Some r.first
    first_place at = ap (mapped_block w h s.0) (omega arith) ∙ at ∙ ap Some (omega arith)

-- the disk has the page's bytes there
bytes_found : (w : Workload) (h : List Event) (r : Request) (m : Medium) (s : Serial) (g : ℕ) → IsAccepted w
    → IsLegal w h → MediumStands w m h → ReadOf w h r s g → is_live w h s.0 ≡ true
    → is_loading w h (Page s g) ≡ true → block_at m.disk.blocks r.first ≡ page_bytes w h s g
bytes_found w h r m s g accepted legal medium of live loading =
    let disk : IsOnDisk w h s g r.first = clean_pages_are_on_disk.pages w h s g r.first accepted legal live of.place
    in medium.blocks r.first of.within ∙ disk.clean (disk.settled loading)

-- a page that isn't loading is one of a file that isn't there any more, so it isn't held
gone_out : (w : Workload) (h : List Event) (s : Serial) (g : ℕ)
    → (is_live w h s.0 ≡ true → is_loading w h (Page s g) ≡ true) → is_loading w h (Page s g) ≡ false
    → is_held w h (Page s g) ≡ false
gone_out w h s g loads unread =
    let gone : is_live w h s.0 ≡ false =
    false_from_ne_true (is_live w h s.0) (λ live. both_ways (is_loading w h (Page s g)) unread (loads live))
    in ap (λ b. b || (is_live w h s.0 && is_placed h (Page s g))) unread
    ∙ ap (λ b. b && is_placed h (Page s g)) gone

loaded_tag : (bytes : List ℕ) (x : Option Held) → tag_in (option_map (loaded bytes) x) ≡ tag_in x
loaded_tag bytes None = refl
loaded_tag bytes (Some y) = refl

-- ---- what stands after it
pub after_read_done : (w : Workload) (h : List Event) (e : Event) (r : Request) (p : Pid) (s : Serial) (g : ℕ)
    (m : Medium) (bytes : List ℕ) (q n : Kept) (tags : Tags) → PagesBefore w q tags h e → IsDoneOf h e r
    → r.kind ≡ Read p s g → MediumStands w m h → bytes ≡ block_at m.disk.blocks r.first
    → Loads q.cache n.cache (Page s g) bytes → PagesAfter w q n tags tags (h ▹ e)
after_read_done w h e r p s g m bytes q n tags before done kind medium is loads =
    after_as w q n tags tags h e (Done d.k d.id d.ok) d.is (by_test (is_loading w h (Page s g)) refl)
  where
    d : DoneOf w h e r
    d = done_of w h e r q tags before done

    of : ReadOf w h r s g
    of = read_of w h r p s g d.kind kind

    b : PagesBefore w q tags h (Done d.k d.id d.ok)
    b = before_as w q tags h e (Done d.k d.id d.ok) d.is before

    by_test : (t : Bool) → is_loading w h (Page s g) ≡ t → PagesAfter w q n tags tags (h ▹ Done d.k d.id d.ok)
    by_test true loading =
        let live = (and_parts (is_live w h s.0) (list_any (λ x. reads x (Page s g)) (outstanding h)) loading).0
        in let was : is_loading_in (page_of q.cache (Page s g)) ≡ true = b.stands.loading_are s g ∙ loading
        in record {
          stands = pages_read w h d.k d.id d.ok r p s g bytes q.cache n.cache tags
              (record {
                accepted = b.accepted;
                legal = b.fits.legal;
                at = d.at;
                kind = kind;
                loading = loading;
                few = of.few;
              })
              (loads.page was) (loads.touched was)
              (is ∙ bytes_found w h r m s g b.accepted b.fits.legal.1 medium of live loading) b.stands;
          tags = tags_kept tags q.cache n.cache (λ i. omega (
            arith,
            (loads.page was).tags i,
            ap (λ (t : Option ℕ). use_in same t i) (loaded_tag bytes (page_of q.cache (Page s g))),
          ));
        }
    by_test false unread =
        let same_cache : n.cache ≡ q.cache = loads.still (b.stands.loading_are s g ∙ unread)
        in record {
          stands = subst (λ (c : Cached). CacheStands w c tags (h ▹ Done d.k d.id d.ok)) (sym same_cache)
              (pages_gone w h d.k d.id d.ok r p s g q.cache tags
              (record {
                accepted = b.accepted;
                legal = b.fits.legal;
                at = d.at;
                kind = kind;
                unread = unread;
                out = gone_out w h s g of.loading unread;
              })
              b.stands);
          tags = tags_kept tags q.cache n.cache (λ i. ap (λ (c : Cached). held same (tags_in c) i) same_cache);
        }
