-- The pages that were put or loaded are pages that a file may have.
use Rattle.std.proofs.Common.{◌≡◌, ℕ, ◌<◌, List, [], true, not, Some, arith, sym, subst, inl, inr}
use Rattle.std.proofs.lemmas.Bool.{and_parts, or_cases}
use Rattle.split_types.specs.declared.ids.ReqId.{ReqId}
use Rattle.split_types.specs.declared.ids.Serial.{Serial}
use Rattle.split_types.specs.declared.buf.Buf.{Buf}
use Rattle.split_types.specs.declared.buf.Buf.TheVariants.{Page}
use Rattle.split_types.specs.declared.request.Request.{Request}
use Rattle.split_types.specs.declared.workload.Workload.{Workload}
use Rattle.split_types.specs.declared.event.Event.{Event}
use Rattle.split_types.specs.declared.event.Event.TheVariants.{Put, Done, Evict}
use Rattle.split_types.specs.History.{◌▹◌}
use Rattle.split_types.specs.Hooks.{maker, same_buf}
use Rattle.split_types.specs.FileMaps.{mapped_block}
use Rattle.split_types.specs.FilesInOrder.{all_files}
use Rattle.split_types.specs.Reads.{reads, is_read_of}
use Rattle.split_types.specs.HeldPages.{is_placed}
use Rattle.split_types.specs.Victims.{victim}
use Rattle.split_types.specs.Accepted.{IsAccepted}
use Rattle.split_types.specs.Legal.{IsLegal}
use Rattle.split_types.specs.Proving.Came.{Came}
use Rattle.split_types.specs.Proving.Came.Came.{came_done}
use Rattle.split_types.specs.Proving.Runs.{MovesRun}
use Rattle.split_types.proofs.CameLaws.{came}
use Rattle.split_types.proofs.KnownLaws.{more_files, known}
use Rattle.split_types.proofs.FileLaws.{files_are_in_order}
use Rattle.split_types.proofs.PutLaws.{put_in_legal}
use Rattle.split_types.proofs.HeldLaws.{same_buf-is, reads_some}
use Rattle.split_types.proofs.NumberLaws.{numbers}
use Rattle.split_types.proofs.CacheLaws.{read_moved}
use Rattle.split_types.proofs.JournalAdds.{reads_moves}
use Rattle.split_types.proofs.CacheKept.{victim_free}

-- the buffer is a page that a file may have, of one that is or was there
pub record IsFilePage (w : Workload) (h : List Event) (b : Buf) : Type 0 where
  pub serial : Serial
  pub page : ℕ
  pub is : b ≡ Page serial page
  pub file : serial.0 < all_files w h
  pub within : page < 1008

page_stays : (w : Workload) (h : List Event) (e : Event) (b : Buf) → IsFilePage w h b → IsFilePage w (h ▹ e) b
page_stays w h e b at = record {
  serial = at.serial;
  page = at.page;
  is = at.is;
  file = omega (arith, at.file, more_files w h e);
  within = at.within;
}

-- what a request that moves a run reads is a page of it
page_read : (w : Workload) (h : List Event) (r : Request) (b : Buf) → MovesRun (all_files w h) (mapped_block w h) r
    → reads r b ≡ true → IsFilePage w h b
page_read w h r b run does = record {
  serial = run.serial;
  page = run.page;
  is = read_moved (all_files w h) (mapped_block w h) r b run does;
  file = run.run.file;
  within = omega (arith, run.run.within, run.run.some);
}

-- the page that a read loads, which is done
loaded_file : (w : Workload) (h : List Event) (k : ℕ) (id : ReqId) (b : Buf) → IsAccepted w → IsLegal w h
    → Came w h (Done k id true) → is_read_of h id b ≡ true → IsFilePage w h b
loaded_file w h k id b accepted legal (came_done j r at) is =
    let all = known w h accepted legal
    in let added = all.waiting.flight_of j r at
    in let does : reads r b ≡ true =
    subst (λ o. reads_some o b ≡ true) ((numbers w h accepted legal).at_number r.id r added) is
    in page_read w h r b (all.runs r.id.0 r added (reads_moves r b does)) does

pub placed_file : (w : Workload) (h : List Event) (b : Buf) → IsAccepted w → IsLegal w h → is_placed h b ≡ true
    → IsFilePage w h b
placed_file w [] b accepted legal is = absurd (cc)
placed_file w (h ▹ Put by s g from to fill) b accepted legal is =
    elim (or_cases (same_buf b (Page s g)) (is_placed h b) is) [
      | inl here ↦
          (let put = put_in_legal w h by s g from to fill accepted legal
          in record {
            serial = s;
            page = g;
            is = same_buf-is b (Page s g) here;
            file = ((files_are_in_order w h accepted legal.1).live s put.file).numbered;
            within = put.page;
          })
      | inr old ↦ page_stays w h (Put by s g from to fill) b (placed_file w h b accepted legal.1 old)
    ]
placed_file w (h ▹ Done k id true) b accepted legal is =
    page_stays w h (Done k id true) b (elim (or_cases (is_read_of h id b) (is_placed h b) is) [
      | inl here ↦
          loaded_file w h k id b accepted legal.1 (came w h (maker (Done k id true)) (Done k id true) legal.0) here
      | inr old ↦ placed_file w h b accepted legal.1 old
    ])
placed_file w (h ▹ Evict by s g) b accepted legal is =
    page_stays w h (Evict by s g) b
    (placed_file w h b accepted legal.1 (and_parts (not (same_buf b (Page s g))) (is_placed h b) is).1)
placed_file w (h ▹ e) b accepted legal is = page_stays w h e b (placed_file w h b accepted legal.1 is)

same_parts : (s t : Serial) (g k : ℕ) → Page s g ≡ Page t k → (s ≡ t) × (g ≡ k)
same_parts s t g k is = (cc, cc)

-- and so is the page that is evicted next
pub victim_file : (w : Workload) (h : List Event) (s : Serial) (g : ℕ) → IsAccepted w → IsLegal w h
    → victim w h ≡ Some (Page s g) → (s.0 < all_files w h) × (g < 1008)
victim_file w h s g accepted legal found =
    let at = placed_file w h (Page s g) accepted legal (victim_free w h (Page s g) found).placed
    in let same = same_parts s at.serial g at.page at.is
    in (
      subst (λ t. t.0 < all_files w h) (sym same.0) at.file,
      subst (λ k. k < 1008) (sym same.1) at.within,
    )
