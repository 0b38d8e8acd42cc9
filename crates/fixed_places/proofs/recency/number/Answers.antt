use Rattle.std.proofs.Common.{◌≡◌, ◌∙◌, List, Option, ℕ, length, map, sym, ap}
use Rattle.std.proofs.lemmas.List.{length-map}
use Rattle.fixed_places.specs.Recency.{AreRekeyed}
use Rattle.fixed_places.proofs.RecencyLaws.{rank_of, recency-ranked, ranks-order, candidates-rekeyed}
use Rattle.fixed_places.proofs.recency.number.Goals as goal

pub returns-clause-number : goal.returns-clause-number
returns-clause-number c =
    let touches = c.args.touches.now.items in
    let ranks : c.swap.new.x.items ≡ map (rank_of touches) touches =
    ap (λ v. v.items) c.swap.ensures.x_after ∙ c.put_ranks.ensures
    ∙ ap (λ xs. map (rank_of xs) xs) c.deref.ensures.value in
    let others : c.swap.new.y.items ≡ touches = ap (λ v. v.items) c.swap.ensures.y_after in
    let len : c.len.result ≡ length touches = c.len.ensures ∙ c.swap.new.x.ok.0 ∙ ap length ranks
    ∙ length-map touches (rank_of touches) in
    let rekeyed : AreRekeyed c.args.candidates.now c.rekey_all.new.candidates (map (rank_of touches) touches) =
    rw (← ranks, ← c.deref-2.ensures.value) c.rekey_all.ensures.rekeyed in
    rw (ranks, others, len)
    (recency-ranked touches c.args.others.now.items c.args.next c.args.candidates.now c.rekey_all.new.candidates
    c.requires c.rekey_all.ensures.len rekeyed)

pub returns-clause-order : goal.returns-clause-order
returns-clause-order c =
    let touches = c.args.touches.now.items in
    let ranks : c.swap.new.x.items ≡ map (rank_of touches) touches =
    ap (λ v. v.items) c.swap.ensures.x_after ∙ c.put_ranks.ensures
    ∙ ap (λ xs. map (rank_of xs) xs) c.deref.ensures.value in
    rw ranks (ranks-order touches)

pub returns-clause-candidates : goal.returns-clause-candidates
returns-clause-candidates c =
    candidates-rekeyed c.args.candidates.now c.rekey_all.new.candidates c.deref-2.result.now c.rekey_all.ensures.len
    c.rekey_all.ensures.rekeyed
