use Rattle.std.proofs.Common.{◌≡◌, ◌<◌, ◌-◌, Bool, true, false, List, length, get_or, filter, not, refl, ap, sym, ◌∙◌, arith}
use Rattle.std.proofs.lemmas.List.{get_or_default}
use Rattle.std.proofs.lemmas.List.Elements.{All-weaker}
use Rattle.token_ledger.specs.declared.pair.Pair.{Pair}
use Rattle.token_ledger.specs.declared.standing.Standing.{Standing}
use Rattle.token_ledger.specs.Places.{OpenOnes}
use Rattle.token_ledger.specs.Books.{is_of}
use Rattle.token_ledger.proofs.ListLaws.{map_kept, filter_insert, filter_all}
use Rattle.token_ledger.proofs.StandingLaws.{nobody, owner_within, owner_some, payer_is, closing_fits, kept_closed}
use Rattle.token_ledger.proofs.ledger.close_all.Goals as goal

pub place_of-at-requires-clause-process : goal.place_of-at-requires-clause-process
place_of-at-requires-clause-process c =
    payer_is (length c.args.owners.now) c.loop-pair.pairs.pairs c.close.new.self.pairs c.in-Some.pair
    c.loop-pair.invariant.kept.payers c.in-Some.ensures.rest

pub place_of-at-requires-clause-owned : goal.place_of-at-requires-clause-owned
place_of-at-requires-clause-owned c =
    let kept = c.loop-pair.invariant.kept in
    owner_some (length c.loop-pair.standings) c.args.owners.now c.in-Some.pair.by.0 kept.owned
    (payer_is (length c.args.owners.now) c.loop-pair.pairs.pairs c.close.new.self.pairs c.in-Some.pair kept.payers
    c.in-Some.ensures.rest)

pub overflow_sub-standings : goal.overflow_sub-standings
overflow_sub-standings c =
    let T = c.loop-pair.standings in
    let O = c.args.owners.now in
    let P = c.loop-pair.pairs.pairs in
    let Q = c.close.new.self.pairs in
    let q = c.in-Some.pair in
    let at = c.place_of-at.result in
    let kept = c.loop-pair.invariant.kept in
    let process = payer_is (length O) P Q q kept.payers c.in-Some.ensures.rest in
    let within : at < length T = owner_within T O q.by.0 at kept.owned process c.place_of-at.ensures in
    let s : Standing = get_or T at nobody in
    let read : s ≡ get_or T at s = get_or_default T at nobody s within in
    closing_fits T O P Q q at s kept c.in-Some.ensures.rest process c.place_of-at.ensures read

pub loop-pair-preserved : goal.loop-pair-preserved
loop-pair-preserved c =
    let T = c.loop-pair.standings in
    let O = c.args.owners.now in
    let P = c.loop-pair.pairs.pairs in
    let Q = c.close.new.self.pairs in
    let q = c.in-Some.pair in
    let at = c.place_of-at.result in
    let old = c.loop-pair.invariant in
    let process = payer_is (length O) P Q q old.kept.payers c.in-Some.ensures.rest in
    let within : at < length T = owner_within T O q.by.0 at old.kept.owned process c.place_of-at.ensures in
    let s : Standing = get_or T at nobody in
    let read : s ≡ get_or T at s = get_or_default T at nobody s within in
    let now : Standing = record s { pending = s.pending - q.estimate } in
    let stays : Pair → Bool = λ q. not (is_of c.args.b c.args.mark q) in
    let more = c.in-Some.ensures.rest in
    let room = old.spare in
    let grown = c.in-Some.ensures.spare in
    record {
      kept = kept_closed T O P Q q at s old.kept more c.place_of-at.ensures read;
      pairs = ap (filter stays) more.was
          ∙ sym (filter_insert stays more.before more.after q (ap not c.in-Some.ensures.pair))
          ∙ ap (filter stays) (sym more.is) ∙ old.pairs;
      spare = omega (arith, room, grown);
      accounts = map_kept (λ s. s.account) T at now nobody within refl ∙ old.accounts;
      granted = map_kept (λ s. s.granted) T at now nobody within refl ∙ old.granted;
      billed = map_kept (λ s. s.billed) T at now nobody within refl ∙ old.billed;
    }

pub returns-clause-pairs : goal.returns-clause-pairs
returns-clause-pairs c =
    let stays : Pair → Bool = λ q. not (is_of c.args.b c.args.mark q) in
    let P : List Pair = c.loop-pair.pairs.pairs in
    ap (λ (p : OpenOnes). p.pairs) c.in_default.ensures.same
    ∙ sym (filter_all stays P (All-weaker (λ q. is_of c.args.b c.args.mark q ≡ false) (λ q. stays q ≡ true)
    (λ q other. ap not other) P c.in_default.ensures.none))
    ∙ c.loop-pair.invariant.pairs
