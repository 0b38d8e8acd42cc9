use Rattle.std.proofs.Common.{◌∙◌, length, replicate, ap}
use Rattle.page_cache.proofs.ListLaws.{whole-items}
use Rattle.page_cache.proofs.content.Stored.into_vec.Goals as goal

pub returns-in-Filled-clause-items : goal.returns-in-Filled-clause-items
returns-in-Filled-clause-items c =
    let page = c.take-bytes.result in
    let value = ap length c.deref_mut.ensures.value in
    rw c.in-Filled.is
    (whole-items page.len page.items c.fill_all.new.bytes page.ok.0 (c.fill_all.ensures.len ∙ value)
    ∙ c.fill_all.ensures.value ∙ ap (λ n. replicate n c.in-Filled.byte) (value ∙ c.take-bytes.ensures.len))
