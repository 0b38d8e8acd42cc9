mod TreeLaws
mod PlaceLaws
mod ChainLaws
mod TableLaws
mod GroupLaws
mod FreeLaws
mod RecencyLaws
