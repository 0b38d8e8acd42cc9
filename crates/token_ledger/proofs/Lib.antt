mod KeyLaws
mod ListLaws
mod PlaceLaws
mod StandingLaws
mod RankLaws
mod BillLaws
