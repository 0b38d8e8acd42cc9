-- The blocks that are kept stand for the history still, after a request is done: where that commits a transaction, the
-- blocks that wait for it become free.
use Rattle.std.proofs.Common.{◌≡◌, ℕ, ◌==◌, List, length, map, slice_get, nat_le, Bool, true, false, not, ◌&&◌, ◌||◌, Option, Some, None, option_map, refl, arith, sym, inl, inr, ap, ◌∙◌}
use Rattle.std.proofs.lemmas.Bool.{cases_Bool, and_parts, and_from, or_parts, or_from, both_ways, cond-true, cond-false, not-true, not_from_false, false_from_ne_true, le-leb}
use Rattle.std.proofs.lemmas.Bool.Decides.{nat_tests}
use Rattle.std.proofs.lemmas.List.{length-map}
use Rattle.std.proofs.lemmas.Option.{slice_get-map}
use Rattle.split_types.specs.declared.ids.ReqId.{ReqId}
use Rattle.split_types.specs.declared.ids.Txn.{Txn}
use Rattle.split_types.specs.declared.request.ReqKind.{ReqKind}
use Rattle.split_types.specs.declared.request.ReqKind.TheVariants.{Commit}
use Rattle.split_types.specs.declared.request.Request.{Request}
use Rattle.split_types.specs.declared.workload.Workload.{Workload}
use Rattle.split_types.specs.declared.event.Event.{Event}
use Rattle.split_types.specs.declared.event.Event.TheVariants.{Done}
use Rattle.split_types.specs.History.{◌▹◌}
use Rattle.split_types.specs.Reads.{request_numbered}
use Rattle.split_types.specs.Workloads.{first_block}
use Rattle.split_types.specs.FileMaps.{is_in_map, is_dropped, drop_txn, commits, is_committed, is_settled, is_going, is_taken, is_waiting}
use Rattle.split_types.specs.Accepted.{IsAccepted}
use Rattle.split_types.proofs.Shared.{known_requests}
use Rattle.split_types.proofs.MapState.{MapsOf}
use Rattle.split_types.proofs.MapLaws.{maps_of}
use Rattle.delayed_alloc.specs.Blocks.{Blocks, State, Free, Taken, Waiting, state_at, settled}
use Rattle.split_core.specs.Fits.{Fits}
use Rattle.split_core.specs.Filing.{BlocksAre, is_free_block, says_free, settles}
use Rattle.split_core.proofs.FilingBlocksWaits.{taker_of, waits_by, waits_of}
use Rattle.split_core.proofs.FilingBlocksUsed.{is_in_use, reserved_same, passed}

-- ---- a request that commits nothing
commits_none : (u : Txn) (r : Request) → ((t : Txn) → r.kind ≡ Commit t → ⊥) → commits u (Some r) ≡ false
commits_none u r other = by_kind r.kind refl
  where
    by_kind : (k : ReqKind) → r.kind ≡ k
        → commits u (Some (record { id = r.id; kind = k; first = r.first; n = r.n })) ≡ false
    by_kind (Commit v) is = absurd (other v is)
    by_kind _ is = refl

others_stay : (w : Workload) (h : List Event) (k : ℕ) (id : ReqId) (a : Blocks) → IsAccepted w
    → (fits : Fits w h (Done k id true)) → ((t : Txn) → fits.kind.request.kind ≡ Commit t → ⊥) → BlocksAre w a h
    → BlocksAre w a (h ▹ Done k id true)
others_stay w h k id a accepted fits other stands =
    passed w h (Done k id true) a accepted fits.legal (λ s x. refl) (λ s. refl)
    (record { dropped = λ s. refl; takers = λ s. refl; committed = same }) (λ s g. refl) stands
  where
    same : (u : Txn) → (commits u (request_numbered h id) || is_committed h u) ≡ is_committed h u
    same u =
        ap (λ b. b || is_committed h u)
        (ap (commits u) ((known_requests w h accepted fits.legal.1).named id fits.kind.request fits.kind.at)
        ∙ commits_none u fits.kind.request other)

-- ---- states, when a transaction is committed
-- the block waits for it
abbrev pub is_freed : Txn → Option State → Bool
is_freed t (Some (Waiting u)) = u.0 == t.0
is_freed t _ = false

settled_freed : (t : Txn) (o : Option State) → is_freed t o ≡ true
    → (option_map (settled t) o ≡ Some Free) × ((u : Txn) × (o ≡ Some (Waiting u)) × ((u.0 == t.0) ≡ true))
settled_freed t None is = absurd (cc)
settled_freed t (Some Taken) is = absurd (cc)
settled_freed t (Some Free) is = absurd (cc)
settled_freed t (Some (Waiting u)) is = (ap Some (cond-true (u.0 == t.0) Free (Waiting u) is), (u, refl, is))

settled_kept : (t : Txn) (o : Option State) → is_freed t o ≡ false → option_map (settled t) o ≡ o
settled_kept t None out = refl
settled_kept t (Some Taken) out = refl
settled_kept t (Some Free) out = refl
settled_kept t (Some (Waiting u)) out = ap Some (cond-false (u.0 == t.0) Free (Waiting u) out)

turned : (t u : Txn) (b : Bool) → (t.0 == u.0) ≡ b → (u.0 == t.0) ≡ b
turned t u true is = grind (arith, nat_tests)
turned t u false is = grind (arith, nat_tests)

-- ---- a commit
-- a block that waits is kept so for the transaction that takes the drop of its file
record Waits (w : Workload) (h : List Event) (a : Blocks) (x : ℕ) : Type 0 where
  file : ℕ
  txn : Txn
  going : is_going h file ≡ true
  drop : drop_txn h file ≡ Some txn
  within : is_in_map w h file x ≡ true
  state : state_at a x ≡ Some (Waiting txn)

waits_known : (w : Workload) (h : List Event) (a : Blocks) (x : ℕ) → BlocksAre w a h → is_waiting w h x ≡ true
    → Waits w h a x
waits_known w h a x stands waits =
    let at = waits_of w h x waits
    in let taker = taker_of h at.0 (and_parts (is_dropped h at.0) (not (is_settled h (drop_txn h at.0))) at.1).0
    in record {
      file = at.0;
      txn = taker.0;
      going = at.1;
      drop = taker.1;
      within = at.2;
      state = stands.waits at.0 x taker.0 at.1 taker.1 at.2;
    }

-- what is committed after it
commits_this : (u t : Txn) (r : Request) → r.kind ≡ Commit t → commits u (Some r) ≡ (t.0 == u.0)
commits_this u t r kind = rw kind refl

committed_is : (w : Workload) (h : List Event) (k : ℕ) (id : ReqId) (t u : Txn) → IsAccepted w
    → (fits : Fits w h (Done k id true)) → fits.kind.request.kind ≡ Commit t
    → is_committed (h ▹ Done k id true) u ≡ (t.0 == u.0 || is_committed h u)
committed_is w h k id t u accepted fits kind =
    ap (λ b. b || is_committed h u)
    (ap (commits u) ((known_requests w h accepted fits.legal.1).named id fits.kind.request fits.kind.at)
    ∙ commits_this u t fits.kind.request kind)

-- a file whose drop another transaction takes goes on as before
going_other : (w : Workload) (h : List Event) (k : ℕ) (id : ReqId) (t u : Txn) (s : ℕ) → IsAccepted w
    → (fits : Fits w h (Done k id true)) → fits.kind.request.kind ≡ Commit t → drop_txn h s ≡ Some u
    → (t.0 == u.0) ≡ false → is_going (h ▹ Done k id true) s ≡ is_going h s
going_other w h k id t u s accepted fits kind drop other =
    ap (λ b. is_dropped h s && not b)
    (ap (is_settled (h ▹ Done k id true)) drop ∙ committed_is w h k id t u accepted fits kind
    ∙ ap (λ b. b || is_committed h u) other ∙ sym (ap (is_settled h) drop))

-- and where it goes on, another one takes its drop
takes_other : (w : Workload) (h : List Event) (k : ℕ) (id : ReqId) (t u : Txn) (s : ℕ) → IsAccepted w
    → (fits : Fits w h (Done k id true)) → fits.kind.request.kind ≡ Commit t → drop_txn h s ≡ Some u
    → is_going (h ▹ Done k id true) s ≡ true → (t.0 == u.0) ≡ false
takes_other w h k id t u s accepted fits kind drop going =
    let parts = and_parts (is_dropped h s) (not (is_settled (h ▹ Done k id true) (drop_txn h s))) going
    in let uncommitted = not-true (is_settled (h ▹ Done k id true) (drop_txn h s)) parts.1
    in (or_parts (t.0 == u.0) (is_committed h u)
    (sym (ap (is_settled (h ▹ Done k id true)) drop ∙ committed_is w h k id t u accepted fits kind) ∙ uncommitted)).0

commit_settles : (w : Workload) (h : List Event) (k : ℕ) (id : ReqId) (t : Txn) (old new : Blocks) → IsAccepted w
    → (fits : Fits w h (Done k id true)) → fits.kind.request.kind ≡ Commit t
    → new ≡ record old { states = map (settled t) old.states } → BlocksAre w old h
    → BlocksAre w new (h ▹ Done k id true)
commit_settles w h k id t old new accepted fits kind is stands = record {
  count = ap length states ∙ length-map old.states (settled t) ∙ stands.count;
  free = λ x below. elim (cases_Bool (is_freed t (state_at old x))) [
    | inl freed ↦ ap says_free (at x ∙ (settled_freed t (state_at old x) freed).0) ∙ sym (now_free x freed)
    | inr out ↦ ap says_free (kept x out) ∙ stands.free x below
        ∙ ap (λ b. nat_le (first_block w) x && not (is_taken w h x || b)) (waits_same x out)
  ];
  taken = λ x there. at x ∙ ap (option_map (settled t)) (stands.taken x there);
  waits = λ s x u going drop within. by_other s x u going drop within
      (takes_other w h k id t u s accepted fits kind drop going);
  gone = λ x u there. elim (cases_Bool (is_freed t (state_at old x))) [
    | inl freed ↦
        absurd (let both : Some (Waiting u) ≡ Some Free =
        sym there ∙ at x ∙ (settled_freed t (state_at old x) freed).0 in cc)
    | inr out ↦ still x out (stands.gone x u (sym (kept x out) ∙ there))
  ];
  reserved = ap (λ a. a.reserved) is ∙ stands.reserved
      ∙ sym (reserved_same w h (Done k id true) (λ s g. refl));
}
  where
    f : MapsOf w h
    f = maps_of w h accepted fits.legal.1

    after : MapsOf w (h ▹ Done k id true)
    after = maps_of w (h ▹ Done k id true) accepted fits.legal

    states : new.states ≡ map (settled t) old.states
    states = ap (λ a. a.states) is

    at : (x : ℕ) → state_at new x ≡ option_map (settled t) (state_at old x)
    at x = ap (λ l. slice_get l x) states ∙ slice_get-map (settled t) old.states x

    kept : (x : ℕ) → is_freed t (state_at old x) ≡ false → state_at new x ≡ state_at old x
    kept x out = at x ∙ settled_kept t (state_at old x) out

    -- a file whose blocks wait after it has them kept so
    waited : (s x : ℕ) (u : Txn) → is_going (h ▹ Done k id true) s ≡ true → drop_txn h s ≡ Some u
        → is_in_map w h s x ≡ true → (t.0 == u.0) ≡ false → state_at old x ≡ Some (Waiting u)
    waited s x u going drop within other =
        stands.waits s x u (sym (going_other w h k id t u s accepted fits kind drop other) ∙ going) drop within

    by_other : (s x : ℕ) (u : Txn) → is_going (h ▹ Done k id true) s ≡ true → drop_txn h s ≡ Some u
        → is_in_map w h s x ≡ true → (t.0 == u.0) ≡ false → state_at new x ≡ Some (Waiting u)
    by_other s x u going drop within other =
        let was = waited s x u going drop within other
        in at x ∙ ap (option_map (settled t)) was
        ∙ settled_kept t (Some (Waiting u)) (turned t u false other)

    -- a block that isn't freed waits still
    still : (x : ℕ) → is_freed t (state_at old x) ≡ false → is_waiting w h x ≡ true
        → is_waiting w (h ▹ Done k id true) x ≡ true
    still x out waits =
        let known = waits_known w h old x stands waits
        in let other : (t.0 == known.txn.0) ≡ false =
        turned known.txn t false (sym (ap (is_freed t) known.state) ∙ out)
        in waits_by w (h ▹ Done k id true) known.file x after
        (going_other w h k id t known.txn known.file accepted fits kind known.drop other ∙ known.going) known.within

    -- and one that waits after it is kept so for another transaction
    waits_then : (x : ℕ) → is_waiting w (h ▹ Done k id true) x ≡ true
        → (is_waiting w h x ≡ true) × (is_freed t (state_at old x) ≡ false)
    waits_then x waits =
        let file = waits_of w (h ▹ Done k id true) x waits
        in let taker = taker_of h file.0 (and_parts (is_dropped h file.0) _ file.1).0
        in let other = takes_other w h k id t taker.0 file.0 accepted fits kind taker.1 file.1
        in (
          waits_by w h file.0 x f
              (sym (going_other w h k id t taker.0 file.0 accepted fits kind taker.1 other) ∙ file.1) file.2,
          ap (is_freed t) (waited file.0 x taker.0 file.1 taker.1 file.2 other) ∙ turned t taker.0 false other,
        )

    waits_same : (x : ℕ) → is_freed t (state_at old x) ≡ false
        → is_waiting w h x ≡ is_waiting w (h ▹ Done k id true) x
    waits_same x out = elim (cases_Bool (is_waiting w h x)) [
      | inl waits ↦ waits ∙ sym (still x out waits)
      | inr none ↦
          none ∙ sym (false_from_ne_true (is_waiting w (h ▹ Done k id true) x)
          (λ now. both_ways (is_waiting w h x) none (waits_then x now).0))
    ]

    -- a block that is freed is one of data, no file that is there has it, and it no longer waits
    now_free : (x : ℕ) → is_freed t (state_at old x) ≡ true → is_free_block w (h ▹ Done k id true) x ≡ true
    now_free x freed =
        let was = (settled_freed t (state_at old x) freed).1
        in let known = waits_known w h old x stands (stands.gone x was.0 was.1)
        in let page = f.blocks.of_map known.file x known.within
        in let untaken : is_taken w h x ≡ false =
        false_from_ne_true (is_taken w h x) (λ taken. absurd (let both : Some (Waiting was.0) ≡ Some Taken =
        sym was.1 ∙ stands.taken x taken in cc))
        in let settled_now : is_waiting w (h ▹ Done k id true) x ≡ false =
        false_from_ne_true (is_waiting w (h ▹ Done k id true) x)
        (λ waits. both_ways (is_freed t (state_at old x)) (waits_then x waits).1 freed)
        in and_from (nat_le (first_block w) x) (not (is_in_use w (h ▹ Done k id true) x))
        (le-leb (first_block w) x (f.blocks.from known.file page.0 x page.1))
        (not_from_false (is_in_use w (h ▹ Done k id true) x)
        (or_from (is_taken w h x) (is_waiting w (h ▹ Done k id true) x) untaken settled_now))

-- ---- a request that is done
by_request : (w : Workload) (h : List Event) (k : ℕ) (id : ReqId) (old : Blocks) → IsAccepted w
    → (fits : Fits w h (Done k id true)) → BlocksAre w old h
    → BlocksAre w (settles (Some fits.kind.request) old) (h ▹ Done k id true)
by_request w h k id old accepted fits stands = by_kind fits.kind.request.kind refl
  where
    by_kind : (kind : ReqKind) → fits.kind.request.kind ≡ kind
        → BlocksAre w (settles (Some (record {
          id = fits.kind.request.id;
          kind = kind;
          first = fits.kind.request.first;
          n = fits.kind.request.n;
        })) old) (h ▹ Done k id true)
    by_kind (Commit t) is =
        commit_settles w h k id t old (record old { states = map (settled t) old.states }) accepted fits is refl stands
    by_kind _ is = others_stay w h k id old accepted fits (λ t same. absurd (let bad = sym is ∙ same in cc)) stands

pub blocks_done : (w : Workload) (h : List Event) (k : ℕ) (id : ReqId) (ok : Bool) (old : Blocks) → IsAccepted w
    → (fits : Fits w h (Done k id ok)) → BlocksAre w old h
    → BlocksAre w (settles (Some fits.kind.request) old) (h ▹ Done k id ok)
blocks_done w h k id true old accepted fits stands = by_request w h k id old accepted fits stands
blocks_done w h k id false old accepted fits stands = absurd (let bad = fits.kind.ok_is in cc)
