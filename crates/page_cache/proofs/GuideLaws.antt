-- What always holds of a guide, after each step.
use Rattle.std.proofs.Common.{◌≡◌, ℕ, ◌^◌, ◌<◌, ◌≤◌, Bool, false, List, length, set, replicate, Option, None, is_some, refl, ap, sym, ◌∙◌, length-set}
use Rattle.std.proofs.lemmas.List.{map-set, length-replicate}
use Rattle.split_types.specs.declared.ids.Pid.{Pid}
use Rattle.page_cache.specs.declared.key.PageKey.{PageKey}
use Rattle.page_cache.specs.Guide.{IsGuide}
use Rattle.page_cache.proofs.ListLaws.{empty_places, map-replicate}

pub guide-set : (keys : List (Option PageKey)) (taken : List Bool) (touches : List ℕ) (idle : List Bool)
    (ready : List (Option PageKey))
    (unsettled : List Bool) (pins : List (Option Pid)) (at : ℕ) (key : Option PageKey)
    → IsGuide keys taken touches idle ready unsettled pins
    → IsGuide (set keys at key) (set taken at (is_some key)) touches idle ready unsettled pins
guide-set keys taken touches idle ready unsettled pins at key g =
    let len : length (set keys at key) ≡ length keys = length-set keys at key in
    record {
      some = rw len g.some;
      few = rw len g.few;
      are_taken = ap (λ taken. set taken at (is_some key)) g.are_taken ∙ sym (map-set is_some keys at key);
      touches_len = g.touches_len ∙ sym len;
      idle_len = g.idle_len ∙ sym len;
      ready_len = g.ready_len ∙ sym len;
      unsettled_len = g.unsettled_len ∙ sym len;
      pins_len = g.pins_len ∙ sym len;
    }

pub guide-new : (places : ℕ) (touches : List ℕ) → 0 < places → places ≤ 2 ^ 32 → length touches ≡ places
    → IsGuide (empty_places PageKey places) (replicate places false) touches (replicate places false)
    (empty_places PageKey places)
    (replicate places false) (empty_places Pid places)
guide-new places touches some few touches_len =
    let no_key : Option PageKey = None in
    let no_pin : Option Pid = None in
    let len : length (empty_places PageKey places) ≡ places = length-replicate places no_key in
    let flags : length (replicate places false) ≡ places = length-replicate places false in
    let pins : length (empty_places Pid places) ≡ places = length-replicate places no_pin in
    record {
      some = rw len some;
      few = rw len few;
      are_taken = sym (map-replicate is_some places no_key);
      touches_len = touches_len ∙ sym len;
      idle_len = flags ∙ sym len;
      ready_len = refl;
      unsettled_len = flags ∙ sym len;
      pins_len = pins ∙ sym len;
    }
