mod CauseLaws
mod PlaceLaws
mod SameLaws
mod LogLaws
mod SeenLaws
mod HeldLaws
mod StageLaws
mod KeptLaws
