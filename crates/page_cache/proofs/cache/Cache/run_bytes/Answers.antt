use Rattle.std.proofs.Common.{◌≡◌, ◌∙◌, ◌+◌, ◌++◌, length, length-append, ap, sym, arith}
use Rattle.split_types.specs.declared.buf.Buf.TheVariants.{Page}
use Rattle.page_cache.specs.Cached.{Cached, page_of}
use Rattle.page_cache.specs.Changes.{IsReady, bytes_in}
use Rattle.page_cache.specs.Steps.{IsPlaced}
use Rattle.page_cache.proofs.CallLaws.{is-there, some-at}
use Rattle.page_cache.proofs.TakeLaws.{ready-numbers, bytes-more, bytes_of, same-bytes, not-held, ready-as}
use Rattle.page_cache.proofs.cache.Cache.run_bytes.Goals as goal

pub overflow_add-page : goal.overflow_add-page
overflow_add-page g c =
    let numbers = ready-numbers c.args.self.now c.args.s c.args.page c.args.n c.requires.ready
    c.requires.some c.take_run-bytes.ensures.numbers in
    omega (arith, numbers, c.loop-k-test.true)

pub unwrap-at-requires : goal.unwrap-at-requires
unwrap-at-requires g c =
    let cur = c.take_run-bytes.new.self in
    let places = ap (λ (v : Cached). v.places) c.take_run-bytes.ensures.rest in
    let b = Page c.args.s (c.args.page + c.loop-k.k) in
    let ready : IsReady cur b = ready-as c.args.self.now cur b places (c.requires.ready c.loop-k.k c.loop-k-test.true) in
    is-there c.place_of.result _ c.place_of.ensures.none (not-held cur b ready)

pub loop-k-preserved : goal.loop-k-preserved
loop-k-preserved g c =
    let cur = c.take_run-bytes.new.self in
    let k = c.loop-k.k in
    let b = Page c.args.s (c.args.page + k) in
    let placed = some-at c.place_of.result c.unwrap-at.result (IsPlaced cur.places b) c.unwrap-at.ensures
    c.place_of.ensures.some in
    let page = c.page.result.now in
    let here : bytes_in (page_of cur b) ≡ page.bytes = ap bytes_in placed.slot.page ∙ ap bytes_in c.page.ensures.page in
    let items : c.append_to.new.run.items ≡ c.loop-k.bytes.items ++ page.bytes = c.append_to.ensures.items in
    record {
      bytes = items ∙ ap (λ first. first ++ page.bytes) c.loop-k.invariant.bytes
          ∙ ap (λ last. bytes_of cur c.args.s c.args.page k ++ last) (sym here)
          ∙ sym (bytes-more cur c.args.s c.args.page k);
      len = ap length items ∙ (length-append c.loop-k.bytes.items page.bytes
          ∙ omega (arith, c.loop-k.invariant.len, c.page.ensures.len));
      room = omega (arith, c.loop-k.invariant.room, c.append_to.ensures.capacity);
    }

pub returns-clause-bytes : goal.returns-clause-bytes
returns-clause-bytes g c =
    let cur = c.take_run-bytes.new.self in
    let places = ap (λ (v : Cached). v.places) c.take_run-bytes.ensures.rest in
    let all : c.loop-k.k ≡ c.args.n = omega (arith, c.loop-k.auto.k-end) in
    c.loop-k.invariant.bytes ∙ ap (bytes_of cur c.args.s c.args.page) all
    ∙ same-bytes c.args.self.now cur c.args.s c.args.page c.args.n places
