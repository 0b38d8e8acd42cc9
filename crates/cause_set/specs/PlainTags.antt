-- What the plain store knows of its tags.
use Rattle.std.specs.Prelude.{◌-◌, if◌then◌else◌, [], is_some, unwrap_or}
use Rattle.slab.specs.Slab.{get, slab_len}
use Rattle.cause_set.specs.declared.plain.PlainTags.{PlainTags}
use Rattle.cause_set.specs.Tags.{Tags}

-- a place is in use once where it has a set, and the members of its tag are that set
abbrev pub plain_tags : PlainTags → Tags
plain_tags store =
    record {
      uses = λ n. if is_some (get store.places n) then 1 else 0;
      members = λ n. unwrap_or (get store.places n) [];
      spare = store.places.capacity - slab_len store.places;
    }
