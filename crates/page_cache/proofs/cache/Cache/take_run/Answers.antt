use Rattle.page_cache.specs.Fields.{all_seen}
use Rattle.page_cache.proofs.FreeLaws.{sound-data}
use Rattle.page_cache.proofs.cache.Cache.take_run.Goals as goal

pub returns-clause-numbers : goal.returns-clause-numbers
returns-clause-numbers g c =
    rw (← c.self.view_is) (sound-data (all_seen g.S.TagStore.number c.self.inside.places.items) c.self.invariant.sound)
