-- One step back at a time.
use Rattle.std.proofs.Common.{◌≡◌, ℕ, ◌+◌, ◌-◌, ◌<◌, ◌||◌, ◌∷◌, [], false, arith, refl, ap, sym, ◌∙◌}
use Rattle.std.specs.Prelude.{if◌then◌else◌}
use Rattle.std.specs.List.{list_any}
use Rattle.std.proofs.lemmas.List.Elements.{All-nil, All-push}
use Rattle.split_types.specs.History.{older}
use Rattle.split_types.specs.ByPlace.{is_seal_of}
use Rattle.provenance.proofs.RoundWalks.{is_own, seals_at, round_with, round-start, walk-seal, walk-other, walk-own, walk-clear, walk-end, own-more}
use Rattle.provenance.proofs.walk.round_places.Goals as goal

pub loop-rest-init : goal.loop-rest-init
loop-rest-init g c =
    let h = c.args.h.now.events in
    rw (c.new-places.ensures) record {
      within = omega arith;
      count_within = c.requires.within;
      short = c.requires.short;
      places = All-nil (λ place. place < c.args.count);
      own = refl;
      round = round-start (older h c.args.count) c.args.t;
    }

pub loop-rest-preserved-then-is_seal : goal.loop-rest-preserved-then-is_seal
loop-rest-preserved-then-is_seal g c =
    let h = c.args.h.now.events in
    let t = c.args.t in
    let places = c.loop-rest.places in
    let n : ℕ = c.loop-rest.rest - 1 in
    let is : c.loop-rest.rest ≡ n + 1 = omega arith in
    let seal = sym c.is_seal.ensures ∙ c.if-is_seal.true in
    let old = c.loop-rest.invariant in
    rw (c.in_ok-push.ensures.ok) record {
      within = omega (arith, old.within);
      count_within = old.count_within;
      short = old.short;
      places = All-push (λ place. place < c.args.count) places n old.places (omega (arith, old.within));
      own = ap (λ b. b || c.is_seal_of-has_own.result) old.own
          ∙ ap (λ b. list_any (is_own t) (seals_at h places) || b) c.is_seal_of-has_own.ensures
          ∙ own-more h c.at-e.result n t places c.at-e.ensures.event seal;
      round = walk-seal h c.at-e.result n c.loop-rest.rest t places is c.at-e.ensures.event seal ∙ old.round;
    }

pub returns-then-has_own-clause-round : goal.returns-then-has_own-clause-round
returns-then-has_own-clause-round g c =
    let n : ℕ = c.loop-rest.rest - 1 in
    let is : c.loop-rest.rest ≡ n + 1 = omega arith in
    let old = c.loop-rest.invariant in
    walk-own c.args.h.now.events c.at-e.result n c.loop-rest.rest c.args.t c.loop-rest.places is c.at-e.ensures.event
    (sym c.is_seal.ensures ∙ c.if-is_seal.false) (sym c.is_clear_add.ensures ∙ c.if-is_clear_add.true) (sym old.own
    ∙ c.if-has_own.true)
    ∙ old.round

pub loop-rest-preserved-then-is_clear_add : goal.loop-rest-preserved-then-is_clear_add
loop-rest-preserved-then-is_clear_add g c =
    let h = c.args.h.now.events in
    let n : ℕ = c.loop-rest.rest - 1 in
    let is : c.loop-rest.rest ≡ n + 1 = omega arith in
    let old = c.loop-rest.invariant in
    rw (c.new-places-then-is_clear_add.ensures) record {
      within = omega (arith, old.within);
      count_within = old.count_within;
      short = old.short;
      places = All-nil (λ place. place < c.args.count);
      own = c.if-has_own.false;
      round =
          walk-clear h c.at-e.result n c.loop-rest.rest c.args.t c.loop-rest.places is c.at-e.ensures.event
          (sym c.is_seal.ensures ∙ c.if-is_seal.false) (sym c.is_clear_add.ensures
          ∙ c.if-is_clear_add.true) (sym old.own ∙ c.if-has_own.false)
          ∙ old.round;
    }

pub loop-rest-preserved : goal.loop-rest-preserved
loop-rest-preserved g c =
    let n : ℕ = c.loop-rest.rest - 1 in
    let is : c.loop-rest.rest ≡ n + 1 = omega arith in
    let old = c.loop-rest.invariant in
    record {
      within = omega (arith, old.within);
      count_within = old.count_within;
      short = old.short;
      places = old.places;
      own = old.own;
      round =
          walk-other c.args.h.now.events c.at-e.result n c.loop-rest.rest c.args.t c.loop-rest.places is
          c.at-e.ensures.event
          (sym c.is_seal.ensures ∙ c.if-is_seal.false) (sym c.is_clear_add.ensures ∙ c.if-is_clear_add.false)
          ∙ old.round;
    }

pub returns-then-has_own-2-clause-round : goal.returns-then-has_own-2-clause-round
returns-then-has_own-2-clause-round g c =
    let h = c.args.h.now.events in
    let old = c.loop-rest.invariant in
    ap (λ b. if b then seals_at h c.loop-rest.places else []) (sym (sym old.own ∙ c.if-has_own-2.true))
    ∙ walk-end h c.loop-rest.rest c.args.t c.loop-rest.places c.loop-rest-test.false
    ∙ old.round

pub returns-else-has_own-2-clause-round : goal.returns-else-has_own-2-clause-round
returns-else-has_own-2-clause-round g c =
    let h = c.args.h.now.events in
    let old = c.loop-rest.invariant in
    ap (seals_at h) c.new.ensures
    ∙ ap (λ b. if b then seals_at h c.loop-rest.places else []) (sym (sym old.own ∙ c.if-has_own-2.false))
    ∙ walk-end h c.loop-rest.rest c.args.t c.loop-rest.places c.loop-rest-test.false
    ∙ old.round
