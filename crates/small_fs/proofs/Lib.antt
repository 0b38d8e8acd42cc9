mod PointerLaws
mod ImageLaws
mod UsesLaws
mod KeyLaws
mod FilesLaws
mod PresetLaws
